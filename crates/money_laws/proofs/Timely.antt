-- A held coin is safe while none of its exits comes too late.
use Rattle.money_laws.proofs.Basics.{◌≡◌, ℕ, ◌+◌, ◌≤◌, ◌==◌, ◌&&◌, not, Bool, true, false, if◌then◌else◌, List, [], ◌∷◌, Some, None, inl, inr, refl, sym, ap, ◌∙◌, subst, arith, rules, is_none, nat_lt, nat_le, list_any, list_all, cases_Bool, eq-eqb, le-ltb, le-leb, ltb-false, leb-true, and_parts, and_from, and_right, not-true, not_from_false, true≢false, false_from_ne_true, common_steps}
use Rattle.money_laws.proofs.CoinWords.{Owner, RawOpening, RootCall, now, Challenge, Exit, exits, challenge_at, is_withdrawn, RESPONSE_WINDOW, EXIT_PERIOD, Tests, Rules, tests_by, rules_of, is_payable, is_paid, Has, all-has}
use Rattle.money_laws.proofs.WorldWords.{IsDigest, Event, Joins, Bounces, log_of, wallet_owner, bound_by, openings_of, seen, strings_of, has_clash, collides, forges_one, is_forged, holds, is_mine, harms, is_harmed, is_safe, IsLegal, any-none, and-off, all-from, found-has, all_answered-from, IsShownChallenge, seen-call, SignsBy, Holding, holding, none-before, forged-parts, legal-before, at_event, AtEvent, of_held, is_ripe, is_missed, is_late, goes_late, is_in_time, LegalTimelyCoinsAreSafe, TimelyCoinsAreSafe, legal-to}
use Rattle.world_laws.proofs.Harms.{finish_answer, finish-paid, FinishesHarmNothing, not-settled, call-harmless, refused-harmless}
use Rattle.money_laws.proofs.Keeping.{Keeping}
use Rattle.money_laws.proofs.Tips.{IsOpenAt, AllOpenAt, opened}

-- none of the exits of the coin is late
abbrev pub NoneLate : ℕ → Owner → ℕ → List RootCall → Type 0
NoneLate c me e log = (x : Exit) → Has (exits log) x → x.coin ≡ c → is_late me e (now log) x ≡ false

module _ (tests : Tests) (rules : Rules) (signs : SignsBy tests) (events : List Event) (w c e : ℕ)
    (legal : IsLegal tests rules events) (more : List RawOpening) (at : AtEvent tests rules events w c e more)
    (tips : AllOpenAt c e (exits (log_of events))) (timely : NoneLate c at.hold.me e (log_of events)) where
  settled : (b : Bool) → (b ≡ false → b ≡ true) → b ≡ true
  settled true f = refl
  settled false f = f refl

  -- the own exit is paid at its end
  own-paid : (k : ℕ) (x : Exit) → k ≡ c → Has (exits (log_of events)) x → x.coin ≡ c
      → is_mine at.hold.me x ≡ true
      → ((x.block == e) && nat_le (x.start + EXIT_PERIOD) (now (log_of events))
      && not (is_paid (finish_answer (log_of events) k (Some x)))) ≡ true → ⊥
  own-paid k x c_is there coin_is own harms =
      let time : ℕ = now (log_of events) in
      let parts = and_parts ((x.block == e) && nat_le (x.start + EXIT_PERIOD) time)
      (not (is_paid (finish_answer (log_of events) k (Some x)))) harms in
      let places = and_parts (x.block == e) (nat_le (x.start + EXIT_PERIOD) time) parts.0 in
      let over : x.start + EXIT_PERIOD ≤ time = leb-true _ _ places.1 in
      let of = of_held tests rules events w c e at.hold.me legal at.held x there coin_is in
      let none : list_any (is_missed time) x.challenges ≡ false =
      and-off (x.block == e) (list_any (is_missed time) x.challenges)
      (sym (ap (λ b. if b then (x.block == e) && list_any (is_missed time) x.challenges
      else is_none (challenge_at e x.challenges) && is_ripe time x) own) ∙ timely x there coin_is) places.0 in
      let answered = all_answered-from x.challenges (all-from (λ ch. ch.answered ≡ true) x.challenges
      (λ ch has. settled ch.answered (λ no.
      let early = (all-has
      (IsShownChallenge tests rules (log_of events) (seen events c) c at.held.made x.parent x.start) x.challenges ch
      of.challenges has).in_window in
      absurd (true≢false (sym (and_from (not ch.answered) (nat_le (ch.at + RESPONSE_WINDOW) time)
      (not_from_false ch.answered no) (le-leb (ch.at + RESPONSE_WINDOW) time (omega (arith, early, over))))
      ∙ any-none (is_missed time) x.challenges ch none has))))) in
      let stays : is_withdrawn (log_of events) k ≡ false =
      ap (is_withdrawn (log_of events)) c_is ∙ at.hold.not_withdrawn in
      true≢false (sym (finish-paid (log_of events) k x ∙ and_from _ _ (not_from_false _ (le-ltb _ _ over))
      (and_from _ _ answered (not_from_false _ stays))) ∙ not-true _ parts.1)

  -- and another account's never is
  others-unpaid : (k : ℕ) (x : Exit) → Has (exits (log_of events)) x → x.coin ≡ c → is_mine at.hold.me x ≡ false
      → is_paid (finish_answer (log_of events) k (Some x)) ≡ true → ⊥
  others-unpaid k x there coin_is other pays =
      let time : ℕ = now (log_of events) in
      let parts = and_parts (not (nat_lt time (x.start + EXIT_PERIOD))) (is_payable (log_of events) k x)
      (sym (finish-paid (log_of events) k x) ∙ pays) in
      let over : x.start + EXIT_PERIOD ≤ time = ltb-false _ _ (not-true _ parts.0) in
      let challenged : is_none (challenge_at e x.challenges) ≡ false =
      false_from_ne_true (is_none (challenge_at e x.challenges)) (λ free.
      true≢false (sym (and_from (is_none (challenge_at e x.challenges)) (is_ripe time x) free (le-leb _ _ over))
      ∙ sym (ap (λ b. if b then (x.block == e) && list_any (is_missed time) x.challenges
      else is_none (challenge_at e x.challenges) && is_ripe time x) other) ∙ timely x there coin_is)) in
      not-settled e x.challenges
      (all-has (IsOpenAt c e) (exits (log_of events)) x tips there coin_is) challenged
      (and_parts (list_all (λ (ch : Challenge). ch.answered) x.challenges) (not (is_withdrawn (log_of events) k))
      parts.1).0

  -- so a finish harms nothing
  on-time-harmless : FinishesHarmNothing events c e at.hold.me
  on-time-harmless k f c_is None found = refl
  on-time-harmless k f c_is (Some x) found =
      grind (arith, common_steps, found-has, cases_Bool, false_from_ne_true, own-paid, others-unpaid)

-- ---- at each event

in-time-parts : (event : Event) (events : List Event) (w c e : ℕ) → is_in_time (event ∷ events) w c e ≡ true
    → (goes_late (event ∷ events) w c e ≡ false) × (is_in_time events w c e ≡ true)
unfolding is_in_time
in-time-parts event events w c e is =
    let parts = and_parts (not (goes_late (event ∷ events) w c e)) (is_in_time events w c e) is in
    (not-true (goes_late (event ∷ events) w c e) parts.0, parts.1)

none-late : (events : List Event) (w c e : ℕ) (h : Holding events w c e) → holds events w c e ≡ true
    → goes_late events w c e ≡ false → NoneLate c h.me e (log_of events)
none-late events w c e h held off x there coin_is = grind (arith, common_steps, and-off, any-none, eq-eqb)

module _ (dig : List ℕ → List ℕ) (digest : IsDigest dig) (rules : Rules) (w c e : ℕ) where
  harmless : (event : Event) (events : List Event) → IsLegal (tests_by dig) rules (event ∷ events)
      → has_clash dig (strings_of dig c (seen (event ∷ events) c)) ≡ false
      → forges_one rules.tag (wallet_owner events w) (bound_by events w) c (openings_of c event) ≡ false
      → (h : Holding events w c e) → AllOpenAt c e (exits (log_of events)) → NoneLate c h.me e (log_of events)
      → harms (tests_by dig) rules (log_of events) (Some h.me) c e event ≡ false
  unfolding IsLegal openings_of at_event
  harmless (Joins call) events legal none forged h tips timely =
      let at = at_event dig digest rules w c e (Joins call) events legal.1 none h in
      call-harmless (tests_by dig) rules (λ tx owner is. is) events w c e legal.1 (seen (Joins call ∷ events) c) at
      (on-time-harmless (tests_by dig) rules (λ tx owner is. is) events w c e legal.1 (seen (Joins call ∷ events) c) at
      tips timely) call (seen-call call events c) forged
  harmless (Bounces call) events legal none forged h tips timely =
      let at = at_event dig digest rules w c e (Bounces call) events legal.1 none h in
      refused-harmless (tests_by dig) rules (λ tx owner is. is) events w c e legal.1 (seen (Bounces call ∷ events) c) at
      (on-time-harmless (tests_by dig) rules (λ tx owner is. is) events w c e legal.1 (seen (Bounces call ∷ events) c)
      at tips timely) call legal.0
  harmless event events legal none forged h tips timely = refl

  -- who holds the coin keeps it
  keeping-held : (events : List Event) → Holding events w c e → Keeping events w c e
  keeping-held events h = record { me = h.me; me_is = h.me_is; source = h.source; not_away = h.not_away }

  safe-event : (event : Event) (events : List Event) → IsLegal (tests_by dig) rules (event ∷ events)
      → goes_late events w c e ≡ false → has_clash dig (strings_of dig c (seen (event ∷ events) c)) ≡ false
      → is_forged rules.tag (event ∷ events) w c ≡ false
      → is_harmed (tests_by dig) rules events w c e event ≡ false
  safe-event event events legal timely none unforged =
      elim (cases_Bool (holds events w c e)) [
        | inr isnt ↦ ap (λ b. b && harms (tests_by dig) rules (log_of events) (wallet_owner events w) c e event) isnt
        | inl is ↦
            let h = holding events w c e is in
            let forged = forged-parts rules.tag event events w c unforged in
            let tips = opened dig digest rules w c e events (legal-before (tests_by dig) rules event events legal)
            (none-before dig event events c none) forged.1 (keeping-held events h) in
            and_right _ _ (subst (λ o. harms (tests_by dig) rules (log_of events) o c e event ≡ false) (sym h.me_is)
            (harmless event events legal none forged.0 h tips (none-late events w c e h is timely)))
      ]

  none-yet : goes_late [] w c e ≡ false
  unfolding holds wallet_owner
  none-yet = refl

  safe : (event : Event) (events : List Event) → IsLegal (tests_by dig) rules (event ∷ events)
      → is_in_time events w c e ≡ true → has_clash dig (strings_of dig c (seen (event ∷ events) c)) ≡ false
      → is_forged rules.tag (event ∷ events) w c ≡ false
      → is_safe (tests_by dig) rules (event ∷ events) w c e ≡ true
  unfolding is_safe
  safe event [] legal timely none unforged =
      and_from _ _ (not_from_false _ (safe-event event [] legal none-yet none unforged)) refl
  safe event (before ∷ events) legal timely none unforged =
      let parts = in-time-parts before events w c e timely in
      and_from _ _ (not_from_false _ (safe-event event (before ∷ events) legal parts.0 none unforged))
      (safe before events (legal-before (tests_by dig) rules event (before ∷ events) legal) parts.1
      (none-before dig event (before ∷ events) c none)
      (forged-parts rules.tag event (before ∷ events) w c unforged).1)

pub timely_coins_are_safe : LegalTimelyCoinsAreSafe
unfolding collides
timely_coins_are_safe dig rules event events w c e digest legal timely none unforged =
    safe dig digest rules w c e event events legal timely none unforged

pub run_timely_coins_are_safe : TimelyCoinsAreSafe
run_timely_coins_are_safe dig lines run world later events event w c e is split =
    timely_coins_are_safe dig (rules_of world.chain) event events w c e is.digest
    (legal-to dig lines run world later (event ∷ events) is split)
