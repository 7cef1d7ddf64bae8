-- While what a look says goes, no exit of the coin comes too late.
use Rattle.safety_laws.proofs.Basics.{◌≡◌, ◌⊎◌, ℕ, ◌+◌, ◌<◌, ◌≤◌, ◌==◌, ◌&&◌, not, true, false, List, [], ◌∷◌, ◌++◌, Some, inl, inr, sym, ap, ◌∙◌, arith, rules, is_none, option_map_or, list_any, cases_Bool, eqb-true, leb-true, and_parts, and_from, or_parts, not-true, not_from_false, true≢false, false_from_ne_true, common_steps}
use Rattle.safety_laws.proofs.CoinWords.{Owner, CHALLENGE_WINDOW, RESPONSE_WINDOW, now, Challenge, Exit, exits, challenge_at, Tests, Rules, Has}
use Rattle.safety_laws.proofs.WorldWords.{Event, log_of, wallet_owner, holds, is_mine, IsLegal, any-some, is_late, goes_late, is_in_time, begins_own}
use Rattle.safety_laws.proofs.AtLook.{StandsTill}
use Rattle.safety_laws.proofs.Since.{IsShut, clock-since, from-look, owner-since, own-shut}

-- Till that time it goes: for less than the time of an answer; or for less than that of a challenge, where the owner's
-- exit couldn't be challenged any more and he began none.
abbrev pub GoesTill : List Event → List Event → Owner → ℕ → ℕ → ℕ → Type 0
GoesTill later events me c e end =
    (end < now (log_of events) + RESPONSE_WINDOW)
    ⊎ ((end < now (log_of events) + CHALLENGE_WINDOW) × IsShut events me c e
    × (list_any (begins_own (Some me) c e) later ≡ false))

-- it was so at each event since
goes-before : (event : Event) (later events : List Event) (me : Owner) (c e end : ℕ)
    → GoesTill (event ∷ later) events me c e end → GoesTill later events me c e end
goes-before event later events me c e end h7 = grind (arith, common_steps, or_parts)

module _ (tests : Tests) (rules : Rules) (events : List Event) (w c e : ℕ) (me : Owner)
    (me_is : wallet_owner events w ≡ Some me) (end : ℕ) (stands : StandsTill events c e me end) where
  -- an open challenge of the own exit isn't missed
  pub own-answers : (later : List Event) → IsLegal tests rules (later ++ events) → GoesTill later events me c e end
      → (x : Exit) → Has (exits (log_of (later ++ events))) x → x.coin ≡ c → x.block ≡ e → is_mine me x ≡ true
      → (ch : Challenge) → Has x.challenges ch → ch.answered ≡ false → end < ch.at + RESPONSE_WINDOW
  own-answers later legal (inl less) x there c_is at_tip mine ch has still =
      elim (from-look tests rules events later legal x there) [
        | inl o ↦ grind (arith, common_steps)
        | inr b ↦ omega (arith, b.opened ch has still, less)
      ]
  own-answers later legal (inr r) x there c_is at_tip mine ch has still = grind (arith, common_steps, own-shut)

  -- another's exit is challenged at the tip, or its window is open still
  pub others-open : (later : List Event) → IsLegal tests rules (later ++ events) → GoesTill later events me c e end
      → (x : Exit) → Has (exits (log_of (later ++ events))) x → x.coin ≡ c → is_mine me x ≡ false
      → (is_none (challenge_at e x.challenges) ≡ false) ⊎ (end < x.start + CHALLENGE_WINDOW)
  others-open later legal goes x there c_is other = grind (arith, common_steps, from-look)

  not-late : (later : List Event) → IsLegal tests rules (later ++ events) → GoesTill later events me c e end
      → now (log_of (later ++ events)) ≤ end → (x : Exit) → Has (exits (log_of (later ++ events))) x → x.coin ≡ c
      → is_late me e (now (log_of (later ++ events))) x ≡ true → ⊥
  not-late later legal goes early x there c_is late =
      grind (
        arith,
        common_steps,
        cases_Bool,
        and_parts,
        any-some,
        own-answers,
        eqb-true,
        not-true,
        leb-true,
        others-open,
        true≢false,
      )

  pub none-goes : (later : List Event) → IsLegal tests rules (later ++ events) → GoesTill later events me c e end
      → now (log_of (later ++ events)) ≤ end → goes_late (later ++ events) w c e ≡ false
  none-goes later legal goes early =
      let all : List Event = later ++ events in
      false_from_ne_true (goes_late all w c e) (λ yes.
      let some = (and_parts (holds all w c e) (option_map_or
      (λ me. list_any (λ exit. (exit.coin == c) && is_late me e (now (log_of all)) exit) (exits (log_of all)))
      (wallet_owner all w) false) yes).1 in
      let mine : list_any (λ exit. (exit.coin == c) && is_late me e (now (log_of all)) exit)
      (exits (log_of all)) ≡ true =
      sym (ap (λ o. option_map_or
      (λ me. list_any (λ exit. (exit.coin == c) && is_late me e (now (log_of all)) exit) (exits (log_of all)))
      o false) (owner-since tests rules events later w me legal me_is)) ∙ some in
      let r = any-some (λ (exit : Exit). (exit.coin == c) && is_late me e (now (log_of all)) exit)
      (exits (log_of all)) mine in
      let parts = and_parts (r.0.coin == c) (is_late me e (now (log_of all)) r.0) r.2 in
      not-late later legal goes early r.0 r.1 (eqb-true r.0.coin c parts.0) parts.1)

  -- so none comes too late
  pub stays-in-time : (later : List Event) → IsLegal tests rules (later ++ events) → GoesTill later events me c e end
      → now (log_of (later ++ events)) ≤ end → is_in_time events w c e ≡ true
      → is_in_time (later ++ events) w c e ≡ true
  unfolding is_in_time IsLegal log_of
  stays-in-time [] legal goes early so_far = so_far
  stays-in-time (event ∷ later) legal goes early so_far =
      let before = clock-one event later legal in
      and_from (not (goes_late (event ∷ (later ++ events)) w c e)) (is_in_time (later ++ events) w c e)
      (not_from_false (goes_late (event ∷ (later ++ events)) w c e) (none-goes (event ∷ later) legal goes early))
      (stays-in-time later legal.1 (goes-before event later events me c e end goes) (omega (arith, before, early))
      so_far)
    where
      clock-one : (event : Event) (later : List Event) → IsLegal tests rules (event ∷ (later ++ events))
          → now (log_of (later ++ events)) ≤ now (log_of (event ∷ (later ++ events)))
      clock-one event later legal = clock-since tests rules (later ++ events) (event ∷ []) legal
