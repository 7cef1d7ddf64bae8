-- What is looked at often is looked after: an exit or a challenge that is newer than a recent look has more time left
-- than the look is old.
use Rattle.world_laws.proofs.Basics.{◌≡◌, ℕ, ◌+◌, ◌<◌, ◌≤◌, ◌&&◌, ◌||◌, not, Bool, true, false, List, [], ◌∷◌, inl, inr, refl, sym, ap, ◌∙◌, subst, arith, nat_lt, list_any, eq-eqb, ltb-true, leb-true, and_parts, and_from, or_cases, or_left, or_right, not-true, not_from_false, true≢false, false≢true, false_from_ne_true, common_steps, and-seen}
use Rattle.world_laws.proofs.CoinWords.{RootCall, Tick, now, Challenge, Exit, exits, is_start, is_respond, CHALLENGE_WINDOW, RESPONSE_WINDOW, Tests, Rules, Has, any-has}
use Rattle.world_laws.proofs.WorldWords.{Event, Joins, Watches, log_of, holds, IsLegal, is_before, is_on_exit, is_on_coin, fulfils, are_fulfilled, is_guardian, has_look, goes_unseen, is_looked_after, has_recent_look, is_exited, is_looked_often}
use Rattle.world_laws.proofs.Earlier.{stood-before, clock-before}
use Rattle.world_laws.proofs.Unseen.{EndsUnseen, IsUnseen, is_unseen}
use Rattle.world_laws.proofs.Attended.{AsksOf, exit-asks, respond-asks}

-- what fulfils more fulfils less
fulfilled-less : (c : ℕ) (is_asked : RootCall → Bool) → AsksOf c is_asked → (since offers : List RootCall)
    → are_fulfilled (is_on_coin c) since offers ≡ true → are_fulfilled is_asked since offers ≡ true
fulfilled-less c is_asked asks since [] all = refl
fulfilled-less c is_asked asks since (offer ∷ offers) all =
    let parts = and_parts (not (is_on_coin c offer) || list_any (fulfils offer) since)
    (are_fulfilled (is_on_coin c) since offers) all in
    and_from (not (is_asked offer) || list_any (fulfils offer) since) (are_fulfilled is_asked since offers)
    (elim (or_cases (not (is_on_coin c offer)) (list_any (fulfils offer) since) parts.0) [
      | inl off ↦ or_left (not (is_asked offer)) (list_any (fulfils offer) since)
          (not_from_false (is_asked offer) (false_from_ne_true (is_asked offer)
          (λ on. true≢false (sym (asks offer on) ∙ not-true _ off))))
      | inr fulfilled ↦ or_right (not (is_asked offer)) (list_any (fulfils offer) since) fulfilled
    ])
    (fulfilled-less c is_asked asks since offers parts.1)

module _ (tests : Tests) (rules : Rules) (w c e time : ℕ) where
  -- a recent look isn't newer than the clock
  recent-clock : (events : List Event) (since : List RootCall) → IsLegal tests rules events
      → has_recent_look time since events w c e ≡ true → time < now (log_of events) + RESPONSE_WINDOW
  unfolding IsLegal log_of has_recent_look
  recent-clock [] since legal recent = absurd (false≢true recent)
  recent-clock (Joins call ∷ events) since legal recent =
      let clock = clock-before tests rules (log_of events) call legal.0.accepted in
      let earlier = recent-clock events (call ∷ since) legal.1 recent in
      omega (arith, clock, earlier)
  recent-clock (Watches n offers ∷ events) since legal recent =
      elim (or_cases (nat_lt time (now (log_of events) + RESPONSE_WINDOW) && is_guardian events w c e n
      && are_fulfilled (is_on_coin c) since offers) (has_recent_look time since events w c e) recent) [
        | inl here ↦ grind (arith, and_parts, ltb-true)
        | inr earlier ↦ recent-clock events since legal.1 earlier
      ]
  recent-clock (event ∷ events) since legal recent = recent-clock events since legal.1 recent

  -- a recent look of a guardian, at what is asked of the coin
  watch-recent : (is_asked : RootCall → Bool) → AsksOf c is_asked → (n : ℕ)
      (offers since : List RootCall) (events : List Event)
      → (nat_lt time (now (log_of events) + RESPONSE_WINDOW) && is_guardian events w c e n
      && are_fulfilled (is_on_coin c) since offers) ≡ true
      → (is_guardian events w c e n && are_fulfilled is_asked since offers) ≡ true
  watch-recent is_asked asks n offers since events here =
      grind (arith, common_steps, and_parts, and_from, fulfilled-less)

  -- an exit whose window is over by then began before the look
  exit-recent : (events : List Event) (since : List RootCall) (x : Exit) (b : ℕ) → IsLegal tests rules events
      → Has (exits (log_of events)) x → x.coin ≡ c → x.block ≡ b → x.start + CHALLENGE_WINDOW ≤ time
      → has_recent_look time since events w c e ≡ true
      → has_look (is_start c b) (is_on_exit c b) since events w c e ≡ true
  unfolding IsLegal log_of has_look has_recent_look
  exit-recent [] since x b legal there c_is b_is over recent = absurd (false≢true recent)
  exit-recent (Joins call ∷ events) since x b legal there c_is b_is over recent =
      elim (stood-before tests rules (log_of events) call legal.0.accepted x there) [
        | inl new ↦ grind (arith, common_steps, recent-clock)
        | inr s ↦ and_from (not (is_start c b call))
            (has_look (is_start c b) (is_on_exit c b) (call ∷ since) events w c e)
            (not_from_false _ ((λ i. is_start (sym c_is i) (sym b_is i) call) ∙ s.not_started))
            (exit-recent events (call ∷ since) s.y b legal.1 s.there (s.coin ∙ c_is) (s.block ∙ b_is)
            (omega (arith, over, s.start)) recent)
      ]
  exit-recent (Watches n offers ∷ events) since x b legal there c_is b_is over recent =
      elim (or_cases (nat_lt time (now (log_of events) + RESPONSE_WINDOW) && is_guardian events w c e n
      && are_fulfilled (is_on_coin c) since offers) (has_recent_look time since events w c e) recent) [
        | inl here ↦ grind (arith, common_steps, or_left, watch-recent, exit-asks)
        | inr earlier ↦ or_right (is_guardian events w c e n && are_fulfilled (is_on_exit c b) since offers)
            (has_look (is_start c b) (is_on_exit c b) since events w c e)
            (exit-recent events since x b legal.1 there c_is b_is over earlier)
      ]
  exit-recent (event ∷ events) since x b legal there c_is b_is over recent =
      exit-recent events since x b legal.1 there c_is b_is over recent

  -- so was an open challenge made, whose time is over by then
  challenge-recent : (events : List Event) (since : List RootCall) (x : Exit) (n : ℕ) (ch : Challenge)
      → IsLegal tests rules events → Has (exits (log_of events)) x → x.coin ≡ c → x.block ≡ e
      → Has x.challenges ch → ch.block ≡ n → ch.answered ≡ false → ch.at + RESPONSE_WINDOW ≤ time
      → has_recent_look time since events w c e ≡ true
      → has_look (is_before c e n) (is_respond c e n) since events w c e ≡ true
  unfolding IsLegal log_of has_look has_recent_look
  challenge-recent [] since x n ch legal there c_is e_is has n_is still over recent = absurd (false≢true recent)
  challenge-recent (Joins call ∷ events) since x n ch legal there c_is e_is has n_is still over recent =
      elim (stood-before tests rules (log_of events) call legal.0.accepted x there) [
        | inl new ↦ absurd (subst (λ (l : List Challenge). Has l ch) new.unchallenged has)
        | inr s ↦ elim (s.opened ch has still) [
          | inl made ↦
              let late = recent-clock events (call ∷ since) legal.1 recent in
              absurd (omega (arith, late, over, made.1))
          | inr was ↦ and_from (not (is_before c e n call))
              (has_look (is_before c e n) (is_respond c e n) (call ∷ since) events w c e)
              (not_from_false _ ((λ i. is_before (sym c_is i) (sym e_is i) (sym n_is i) call) ∙ was.not_made))
              (challenge-recent events (call ∷ since) s.y n was.old legal.1 s.there (s.coin ∙ c_is) (s.block ∙ e_is)
              was.there (was.block ∙ n_is) was.unanswered (omega (arith, over, was.at)) recent)
        ]
      ]
  challenge-recent (Watches m offers ∷ events) since x n ch legal there c_is e_is has n_is still over recent =
      elim (or_cases (nat_lt time (now (log_of events) + RESPONSE_WINDOW) && is_guardian events w c e m
      && are_fulfilled (is_on_coin c) since offers) (has_recent_look time since events w c e) recent) [
        | inl here ↦ grind (arith, common_steps, or_left, watch-recent, respond-asks)
        | inr earlier ↦ or_right (is_guardian events w c e m && are_fulfilled (is_respond c e n) since offers)
            (has_look (is_before c e n) (is_respond c e n) since events w c e)
            (challenge-recent events since x n ch legal.1 there c_is e_is has n_is still over earlier)
      ]
  challenge-recent (event ∷ events) since x n ch legal there c_is e_is has n_is still over recent =
      challenge-recent events since x n ch legal.1 there c_is e_is has n_is still over recent

  -- a tick with a recent look ends nothing unseen
  recent-none : (events : List Event) → IsLegal tests rules events → has_recent_look time [] events w c e ≡ true
      → EndsUnseen events w c e time → ⊥
  recent-none events legal recent h3 =
      grind (arith, common_steps, leb-true, and_parts, true≢false, exit-recent, challenge-recent, not-true)

-- an exit of the coin stands where a tick ends something unseen
ends-exited : (events : List Event) (w c e time : ℕ) → EndsUnseen events w c e time → is_exited events c ≡ true
ends-exited events w c e time h5 = grind (arith, common_steps, any-has, eq-eqb)

often-before : (event : Event) (events : List Event) (w c e : ℕ) → is_looked_often (event ∷ events) w c e ≡ true
    → is_looked_often events w c e ≡ true
unfolding is_looked_often
often-before event events w c e often = grind (arith, common_steps, and_parts)

pub often_looked_after : (tests : Tests) (rules : Rules) (events : List Event) (w c e : ℕ)
    → IsLegal tests rules events → is_looked_often events w c e ≡ true → is_looked_after events w c e ≡ true
unfolding IsLegal is_looked_after is_looked_often
often_looked_after tests rules [] w c e legal often = refl
often_looked_after tests rules (event ∷ events) w c e legal often =
    and_from (not (goes_unseen events w c e event)) (is_looked_after events w c e)
    (not_from_false _ (false_from_ne_true (goes_unseen events w c e event) (λ unseen.
    seen (is_unseen events w c e event unseen))))
    (often_looked_after tests rules events w c e legal.1 (often-before event events w c e often))
  where
    seen : IsUnseen events w c e event → ⊥
    seen u =
        let often_then : is_looked_often (Joins (Tick u.time) ∷ events) w c e ≡ true =
        ap (λ k. is_looked_often (k ∷ events) w c e) (sym u.event_is) ∙ often in
        let off = not-true _ (and_parts
        (not (holds events w c e && is_exited events c && not (has_recent_look u.time [] events w c e)))
        (is_looked_often events w c e) often_then).0 in
        recent-none tests rules w c e u.time events legal.1
        (and-seen (holds events w c e && is_exited events c) (has_recent_look u.time [] events w c e) off
        (and_from (holds events w c e) (is_exited events c) u.held
        (ends-exited events w c e u.time u.ends))) u.ends
