-- What a look shows: of an exit that somebody looked after, another account's is challenged at the tip while its window
-- is open, and the challenges of the own one are answered in their time. So a tick that doesn't go unseen keeps what
-- holds of each exit of a held coin.
use Rattle.world_laws.proofs.Basics.{◌≡◌, ◌≢◌, ◌⊎◌, ℕ, ◌+◌, ◌<◌, ◌==◌, ◌&&◌, not, Bool, true, false, List, [], ◌∷◌, inl, inr, refl, sym, ap, ◌∙◌, subst, arith, rules, is_none, list_any, eq-eqb, lt-ltb, le-leb, and_parts, and_from, or_cases, or_from, not-true, not_from_false, true≢false, false≢true, common_steps, and-seen, and-off, all-from, any-none, passes-has, any-either}
use Rattle.world_laws.proofs.CoinWords.{RawOpening, RootCall, Tick, Respond, CoinView, now, block_of, Challenge, Exit, exits, challenge_at, exit_view, is_start, is_end, is_respond, CHALLENGE_WINDOW, RESPONSE_WINDOW, Tests, Rules, tests_by, tip_shown, Has, all-has, IsDue, DueAfter, DueBetween, DueBefore, DueRespond, due_for-due}
use Rattle.world_laws.proofs.WorldWords.{IsDigest, Event, Joins, Watches, log_of, seen, strings_of, has_clash, is_forged, is_met, meets_challenge, is_mine, IsLegal, is_before, is_on_exit, fulfils, are_fulfilled, is_guardian, has_look, exit_has_look, challenge_has_look, passes_unseen, goes_unseen, IfOf, AllWatched}
use Rattle.world_laws.proofs.HeldCoins.{one_leaf, Holding, HeldAt}
use Rattle.world_laws.proofs.DueCalls.{OffersDue, Due, due-offered}
use Rattle.world_laws.proofs.Guards.{holds-from, watch-due, guardian-guards}
use Rattle.world_laws.proofs.Watched.{ticked-watched}
use Rattle.world_laws.proofs.Earlier.{stood-before, clock-before}
use Rattle.world_laws.proofs.Steps.{others-due, mine-due}
use Rattle.world_laws.proofs.Before.{none-before, forged-parts, held_before, at_event}

-- ---- what was fulfilled

fulfilled-one : (is_asked : RootCall → Bool) (since offers : List RootCall)
    → are_fulfilled is_asked since offers ≡ true → (offer : RootCall) → Has offers offer → is_asked offer ≡ true
    → list_any (fulfils offer) since ≡ true
fulfilled-one is_asked since offers all offer has asked =
    grind (arith, common_steps, or_cases, passes-has, true≢false, not-true)

module _ (tests : Tests) (rules : Rules) (events : List Event) (c : ℕ) (made : CoinView) (e : ℕ)
    (offers : List RootCall) (g : OffersDue tests rules events c made e offers) (x : Exit)
    (there : Has (exits (log_of events)) x) (c_is : x.coin ≡ c) (since : List RootCall)
    (unended : list_any (is_end c x.block) since ≡ false) where
  not-ended : list_any (is_end g.links.coin x.block) since ≡ true → ⊥
  not-ended is = true≢false (sym is ∙ ap (λ k. list_any (is_end k x.block) since) g.good.coin_is ∙ unended)

  -- what is due for the exit was fulfilled, so the exit was challenged at the tip; if it isn't at the tip
  exit-fulfilled : are_fulfilled (is_on_exit c x.block) since offers ≡ true → (call : RootCall)
      → Has (Due tests rules events c made e offers g x there c_is) call
      → (list_any (is_before c x.block e) since ≡ true) ⊎ (x.block ≡ e)
  exit-fulfilled fulfilled call h =
      by_due (due_for-due (log_of events) g.account g.links (exit_view x) call h)
      (due-offered tests rules events c made e offers g x there c_is call h)
    where
      on-it : ((g.links.coin == c) && (x.block == x.block)) ≡ true
      on-it = and_from (g.links.coin == c) (x.block == x.block) (eq-eqb g.links.coin c g.good.coin_is)
          (eq-eqb x.block x.block refl)

      by_due : IsDue (log_of events) g.account g.links (exit_view x) call → Has offers call
          → (list_any (is_before c x.block e) since ≡ true) ⊎ (x.block ≡ e)
      by_due (DueAfter link next early same) has = absurd (grind (arith, common_steps, not-ended, fulfilled-one, on-it))
      by_due (DueBetween link later next early same) has =
          absurd (grind (arith, common_steps, not-ended, fulfilled-one, on-it))
      by_due (DueBefore later free early same) has =
          elim (any-either (is_end g.links.coin x.block)
          (is_before g.links.coin x.block (block_of (tip_shown g.links))) since
          (grind (arith, common_steps, fulfilled-one, on-it))) [
            | inl ended ↦ absurd (not-ended ended)
            | inr challenged ↦ inl
                ((λ i. list_any (is_before (sym g.good.coin_is i) x.block (sym g.shown_is i)) since) ∙ challenged)
          ]
      by_due (DueRespond view link at has_view still next early same) has = inr (at ∙ g.good.tip_is)

  -- what is due for a challenge of the own exit was fulfilled, so the challenge was answered
  challenge-fulfilled : (n : ℕ) → are_fulfilled (is_respond c e n) since offers ≡ true → x.block ≡ e → (ch : Challenge)
      → ch.block ≡ n → (spend : RawOpening)
      → Has offers (Respond g.account g.links.coin x.block ch.block spend)
      → list_any (is_respond c e n) since ≡ true
  challenge-fulfilled n fulfilled at_tip ch n_is spend has =
      elim (any-either (is_end g.links.coin x.block) (is_respond g.links.coin x.block ch.block) since
      (grind (arith, common_steps, fulfilled-one, and_from, eq-eqb))) [
        | inl ended ↦ absurd (not-ended ended)
        | inr answered ↦
            (λ i. list_any (is_respond (sym g.good.coin_is i) (sym at_tip i) (sym n_is i)) since) ∙ answered
      ]

-- ---- what a look showed, event by event

module _ (dig : List ℕ → List ℕ) (digest : IsDigest dig) (rules : Rules) (w c e : ℕ) where
  -- while an exit of it stands, the coin was held before the event too
  held-still : (event : Event) (events : List Event) → IsLegal (tests_by dig) rules (event ∷ events)
      → (h : Holding (event ∷ events) w c e) → (x : Exit) → Has (exits (log_of (event ∷ events))) x → x.coin ≡ c
      → (before : Holding events w c e) × (before.me ≡ h.me)
  held-still event events legal h x there c_is =
      elim (held_before (tests_by dig) rules event events w c e legal h) [
        | inl before ↦ before
        | inr none ↦ absurd (none x there c_is)
      ]

  -- what a guardian's watch offers has all that is due for the held coin
  guardian-offers : (n : ℕ) (offers : List RootCall) (events : List Event)
      → IsLegal (tests_by dig) rules (Watches n offers ∷ events)
      → has_clash dig (strings_of dig c (seen events c)) ≡ false → is_forged rules.tag events w c ≡ false
      → (h : Holding events w c e) → (held : HeldAt (tests_by dig) rules events w c e h.me)
      → is_guardian events w c e n ≡ true
      → OffersDue (tests_by dig) rules events c held.made e offers
  unfolding IsLegal
  guardian-offers n offers events legal none unforged h held guardian =
      let one = one_leaf dig digest (log_of events) c (seen events c) none in
      watch-due (tests_by dig) rules events n offers c held.made e legal one held.made_is
      (guardian-guards (tests_by dig) rules (λ tx owner is. is) events w c e n legal.1 one unforged h guardian)

  -- Somebody looked after another's exit, so it was challenged at the tip, then or since.
  exit-looked : (events : List Event) (since : List RootCall) (x : Exit) (b : ℕ)
      → IsLegal (tests_by dig) rules events → has_clash dig (strings_of dig c (seen events c)) ≡ false
      → is_forged rules.tag events w c ≡ false → (h : Holding events w c e) → Has (exits (log_of events)) x
      → x.coin ≡ c → x.block ≡ b → is_mine h.me x ≡ false → x.parent ≢ e
      → now (log_of events) < x.start + CHALLENGE_WINDOW → list_any (is_end c b) since ≡ false
      → has_look (is_start c b) (is_on_exit c b) since events w c e ≡ true
      → (list_any (is_before c b e) since ≡ true) ⊎ (is_none (challenge_at e x.challenges) ≡ false)
  unfolding IsLegal log_of has_look at_event
  exit-looked [] since x b legal none unforged h there c_is b_is other unspent inside unended look =
      absurd (false≢true look)
  exit-looked (Joins call ∷ events) since x b legal none unforged h there c_is b_is other unspent inside unended look =
      let parts = and_parts (not (is_start c b call))
      (has_look (is_start c b) (is_on_exit c b) (call ∷ since) events w c e) look in
      let before = held-still (Joins call) events legal h x there c_is in
      elim (stood-before (tests_by dig) rules (log_of events) call legal.0.accepted x there) [
        | inl new ↦ grind (arith, common_steps, true≢false, not-true)
        | inr s ↦
            let clock = clock-before (tests_by dig) rules (log_of events) call legal.0.accepted in
            elim (exit-looked events (call ∷ since) s.y b legal.1 (none-before dig (Joins call) events c none)
            (forged-parts rules.tag (Joins call) events w c unforged).1 before.0 s.there (s.coin ∙ c_is)
            (s.block ∙ b_is)
            ((λ i. (s.account i) == ((before.1 i).account)) ∙ other) (λ is. unspent (sym s.parent ∙ is))
            (omega (arith, clock, inside, s.start))
            (grind (arith, common_steps, or_from)) parts.1) [
              | inr challenged ↦ inr (s.challenged e challenged)
              | inl some ↦ grind (arith, or_cases)
            ]
      ]
  exit-looked (Watches n offers ∷ events) since x b legal none unforged h there c_is b_is other unspent inside unended
      look =
      let before = held-still (Watches n offers) events legal h x there c_is in
      let mine = (λ i. x.account == (before.1 i).account) ∙ other in
      let whole = none-before dig (Watches n offers) events c none in
      let honest = (forged-parts rules.tag (Watches n offers) events w c unforged).1 in
      elim (or_cases (is_guardian events w c e n && are_fulfilled (is_on_exit c b) since offers)
      (has_look (is_start c b) (is_on_exit c b) since events w c e) look) [
        | inr rest ↦ exit-looked events since x b legal.1 whole honest before.0 there c_is b_is mine unspent inside
            unended rest
        | inl now_seen ↦
            let parts = and_parts (is_guardian events w c e n) (are_fulfilled (is_on_exit c b) since offers) now_seen in
            let at = at_event dig digest rules w c e (Watches n offers) events legal.1 none before.0 in
            let g = guardian-offers n offers events legal whole honest before.0 at.held parts.0 in
            subst (λ k. (list_any (is_before c k e) since ≡ true)
            ⊎ (is_none (challenge_at e x.challenges) ≡ false)) b_is
            (others-due (tests_by dig) rules (λ tx owner is. is) events w c e legal.1
            (seen (Watches n offers ∷ events) c) at offers g x there c_is unspent mine inside
            (list_any (is_before c x.block e) since ≡ true)
            (exit-fulfilled (tests_by dig) rules events c at.held.made e offers g x there c_is since
            (ap (λ k. list_any (is_end c k) since) b_is ∙ unended)
            (ap (λ k. are_fulfilled (is_on_exit c k) since offers) b_is ∙ parts.1)))
      ]
  exit-looked (event ∷ events) since x b legal none unforged h there c_is b_is other unspent inside unended look =
      let before = held-still event events legal h x there c_is in
      exit-looked events since x b legal.1 (none-before dig event events c none)
      (forged-parts rules.tag event events w c unforged).1 before.0 there c_is b_is
      ((λ i. x.account == (before.1 i).account) ∙ other) unspent inside unended look

  -- Somebody looked after a challenge of the exit at the tip, so it was answered.
  challenge-looked : (events : List Event) (since : List RootCall) (x : Exit) (n : ℕ) (ch : Challenge)
      → IsLegal (tests_by dig) rules events → has_clash dig (strings_of dig c (seen events c)) ≡ false
      → is_forged rules.tag events w c ≡ false → (h : Holding events w c e) → Has (exits (log_of events)) x
      → x.coin ≡ c → x.block ≡ e → Has x.challenges ch → ch.block ≡ n → ch.answered ≡ false
      → now (log_of events) < ch.at + RESPONSE_WINDOW → list_any (is_end c e) since ≡ false
      → list_any (is_respond c e n) since ≡ false
      → has_look (is_before c e n) (is_respond c e n) since events w c e ≡ true → ⊥
  unfolding IsLegal log_of has_look at_event
  challenge-looked [] since x n ch legal none unforged h there c_is at_tip has n_is still inside unended unanswered
      look =
      false≢true look
  challenge-looked (Joins call ∷ events) since x n ch legal none unforged h there c_is at_tip has n_is still inside
      unended unanswered look =
      let parts = and_parts (not (is_before c e n call))
      (has_look (is_before c e n) (is_respond c e n) (call ∷ since) events w c e) look in
      let before = held-still (Joins call) events legal h x there c_is in
      elim (stood-before (tests_by dig) rules (log_of events) call legal.0.accepted x there) [
        | inl new ↦ subst (λ (l : List Challenge). Has l ch) new.unchallenged has
        | inr s ↦ elim (s.opened ch has still) [
          | inl made ↦ grind (arith, common_steps, true≢false, not-true)
          | inr was ↦
              let clock = clock-before (tests_by dig) rules (log_of events) call legal.0.accepted in
              challenge-looked events (call ∷ since) s.y n was.old legal.1
              (none-before dig (Joins call) events c none)
              (forged-parts rules.tag (Joins call) events w c unforged).1 before.0 s.there (s.coin ∙ c_is)
              (s.block ∙ at_tip) was.there (was.block ∙ n_is) was.unanswered (omega (arith, clock, inside, was.at))
              (grind (arith, common_steps, or_from))
              (grind (arith, common_steps, or_from))
              parts.1
        ]
      ]
  challenge-looked (Watches m offers ∷ events) since x n ch legal none unforged h there c_is at_tip has n_is still
      inside unended unanswered look =
      let before = held-still (Watches m offers) events legal h x there c_is in
      let whole = none-before dig (Watches m offers) events c none in
      let honest = (forged-parts rules.tag (Watches m offers) events w c unforged).1 in
      elim (or_cases (is_guardian events w c e m && are_fulfilled (is_respond c e n) since offers)
      (has_look (is_before c e n) (is_respond c e n) since events w c e) look) [
        | inr rest ↦ challenge-looked events since x n ch legal.1 whole honest before.0 there c_is at_tip has n_is
            still inside unended unanswered rest
        | inl now_seen ↦
            let parts = and_parts (is_guardian events w c e m) (are_fulfilled (is_respond c e n) since offers)
            now_seen in
            let at = at_event dig digest rules w c e (Watches m offers) events legal.1 none before.0 in
            let g = guardian-offers m offers events legal whole honest before.0 at.held parts.0 in
            let due = mine-due (tests_by dig) rules (λ tx owner is. is) events w c e legal.1
            (seen (Watches m offers ∷ events) c) at offers g x there c_is at_tip ch has still inside in
            true≢false (sym (challenge-fulfilled (tests_by dig) rules events c at.held.made e offers g x there c_is
            since
            (ap (λ k. list_any (is_end c k) since) at_tip ∙ unended) n parts.1 at_tip ch n_is due.0.opening due.1)
            ∙ unanswered)
      ]
  challenge-looked (event ∷ events) since x n ch legal none unforged h there c_is at_tip has n_is still inside unended
      unanswered look =
      let before = held-still event events legal h x there c_is in
      challenge-looked events since x n ch legal.1 (none-before dig event events c none)
      (forged-parts rules.tag event events w c unforged).1 before.0 there c_is at_tip has n_is still inside unended
      unanswered look

  -- ---- a tick

  -- no exit of the coin passes unseen where the tick doesn't
  exit-seen : (events : List Event) (time : ℕ) → (h : Holding events w c e)
      → goes_unseen events w c e (Joins (Tick time)) ≡ false → (x : Exit) → Has (exits (log_of events)) x
      → x.coin ≡ c → passes_unseen h.me events w c e time x ≡ false
  exit-seen events time h unseen x there c_is = grind (arith, common_steps, and-off, holds-from, any-none, eq-eqb)

  abbrev own_unseen : List Event → ℕ → Exit → Bool
  own_unseen events time x = (x.block == e) && list_any
      (λ ch. meets_challenge (now (log_of events)) time ch && not (challenge_has_look events w c e ch.block))
      x.challenges

  abbrev other_unseen : List Event → ℕ → Exit → Bool
  other_unseen events time x =
      is_met (now (log_of events)) time (x.start + CHALLENGE_WINDOW) && not (exit_has_look events w c e x.block)

  -- a tick that doesn't go unseen
  pub tick-keeps : (events : List Event) (time : ℕ) → IsLegal (tests_by dig) rules events
      → has_clash dig (strings_of dig c (seen events c)) ≡ false → is_forged rules.tag events w c ≡ false
      → (h : Holding events w c e) → goes_unseen events w c e (Joins (Tick time)) ≡ false
      → AllWatched c h.me e (now (log_of events)) (exits (log_of events))
      → AllWatched c h.me e time (exits (log_of events))
  tick-keeps events time legal none unforged h unseen all =
      all-from (IfOf c h.me e time) (exits (log_of events))
      (λ x there c_is.
      let was = all-has (IfOf c h.me e (now (log_of events))) (exits (log_of events)) x all there c_is in
      let passed = exit-seen events time h unseen x there c_is in
      ticked-watched c h.me e (now (log_of events)) time x was
      (λ other inside over. elim (exit-looked events [] x x.block legal none unforged h there c_is refl other
      was.unspent inside refl
      (grind (arith, common_steps, and-seen, and_from, lt-ltb, le-leb))) [
        | inl wrong ↦ absurd (false≢true wrong)
        | inr challenged ↦ challenged
      ])
      (λ mine at_tip ch has still inside over. challenge-looked events [] x ch.block ch legal none unforged h there
      c_is at_tip has refl still inside refl refl
      (and-seen (meets_challenge (now (log_of events)) time ch) (challenge_has_look events w c e ch.block)
      (grind (arith, common_steps, any-none, and-off, eq-eqb))
      (and_from _ _ (not_from_false _ still) (and_from _ _ (lt-ltb _ _ inside) (le-leb _ _ over))))))
