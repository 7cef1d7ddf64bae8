-- What is attended is looked after.
use Rattle.world_laws.proofs.Basics.{◌≡◌, ℕ, ◌==◌, ◌&&◌, ◌||◌, not, Bool, true, false, if◌then◌else◌, List, [], ◌∷◌, refl, ap, ◌∙◌, arith, sym, list_any, eqb-true, eq-eqb, and_parts, and_from, or_parts, or_cases, or_left, or_right, not-true, not_from_false, true≢false, false≢true, false_from_ne_true, common_steps, and-seen, any-some}
use Rattle.world_laws.proofs.CoinWords.{RootCall, Tick, Respond, is_respond, any-has}
use Rattle.world_laws.proofs.WorldWords.{Event, Joins, Watches, log_of, guarded_by, is_command_of, offered, holds, meets_deadline, offers_none, is_watch, is_joined, is_quiet, is_guarded, needs_guardian, goes_unattended, is_attended, is_on_exit, is_on_coin, fulfils, are_fulfilled, is_guardian, has_look, goes_unseen, is_looked_after, AttendedCoinsAreLookedAfter}
use Rattle.world_laws.proofs.Nodes.{same-node}
use Rattle.world_laws.proofs.Unseen.{EndsUnseen, IsUnseen, is_unseen}

-- ---- calls of the coin

-- what is asked for is on the coin
abbrev pub AsksOf : ℕ → (RootCall → Bool) → Type 0
AsksOf c is_asked = (call : RootCall) → is_asked call ≡ true → is_on_coin c call ≡ true

pub exit-asks : (c b : ℕ) → AsksOf c (is_on_exit c b)
exit-asks c b call is = grind (arith, common_steps, and_parts, false≢true)

pub respond-asks : (c e n : ℕ) → AsksOf c (is_respond c e n)
respond-asks c e n (Respond account coin exit challenged spend) is =
    (and_parts (coin == c) (exit == e) (and_parts ((coin == c) && (exit == e)) (challenged == n) is).0).0
respond-asks c e n call is = absurd (false≢true is)

-- ---- a quiet guardian looked

module _ (opens is_asked : RootCall → Bool) (w c e : ℕ) (asks : AsksOf c is_asked) where
  none-fulfilled : (since offers : List RootCall) → list_any (is_on_coin c) offers ≡ false
      → are_fulfilled is_asked since offers ≡ true
  none-fulfilled since [] none = refl
  none-fulfilled since (offer ∷ offers) none =
      let parts = or_parts (is_on_coin c offer) (list_any (is_on_coin c) offers) none in
      and_from (not (is_asked offer) || list_any (fulfils offer) since) (are_fulfilled is_asked since offers)
      (or_left (not (is_asked offer)) (list_any (fulfils offer) since)
      (not_from_false (is_asked offer)
      (false_from_ne_true (is_asked offer) (λ on. true≢false (sym (asks offer on) ∙ parts.0)))))
      (none-fulfilled since offers parts.1)

  quiet-looked : (events : List Event) (n : ℕ) → is_quiet events n c ≡ true → is_guardian events w c e n ≡ true
      → has_look opens is_asked [] events w c e ≡ true
  unfolding is_quiet has_look guarded_by
  quiet-looked [] n quiet guardian = absurd (false≢true quiet)
  quiet-looked (Joins call ∷ events) n quiet guardian = absurd (false≢true quiet)
  quiet-looked (Watches m offers ∷ events) n quiet guardian =
      (elim (m == n) as (λ b. (m == n) ≡ b
      → (if b then true && offers_none c offers else not false && is_quiet events n c) ≡ true
      → ((is_guardian events w c e m && are_fulfilled is_asked [] offers)
      || has_look opens is_asked [] events w c e) ≡ true) [
        | true ↦ grind (arith, or_left, and_from, eqb-true, none-fulfilled, not-true)
        | false ↦ λ other rest.
            or_right (is_guardian events w c e m && are_fulfilled is_asked [] offers)
            (has_look opens is_asked [] events w c e) (quiet-looked events n rest guardian)
      ]) refl quiet
  quiet-looked (event ∷ events) n quiet guardian =
      (elim (is_command_of n event) as (λ b. is_command_of n event ≡ b
      → (if b then is_watch event && offers_none c (offered event)
      else not (is_joined event) && is_quiet events n c) ≡ true
      → has_look opens is_asked [] events w c e ≡ true) [
        | true ↦ λ own wrong. absurd (false≢true wrong)
        | false ↦ λ other rest. quiet-looked events n rest
            (grind (arith, common_steps, same-node))
      ]) refl quiet

-- where a guardian is quiet, it looked
guarded-looked : (opens is_asked : RootCall → Bool) (events : List Event) (w c e : ℕ) → AsksOf c is_asked
    → is_guarded events w c e ≡ true → has_look opens is_asked [] events w c e ≡ true
unfolding is_guarded
guarded-looked opens is_asked events w c e asks guarded =
    grind (arith, common_steps, or_cases, quiet-looked, or_left, eq-eqb, any-some, and_parts, or_right)

-- ---- ticks

met-deadline : (events : List Event) (w c e time : ℕ) → EndsUnseen events w c e time
    → meets_deadline (log_of events) c (Joins (Tick time)) ≡ true
met-deadline events w c e time h5 = grind (arith, common_steps, any-has, and_from, eq-eqb, or_left, or_right)

guarded-none : (events : List Event) (w c e time : ℕ) → is_guarded events w c e ≡ true
    → EndsUnseen events w c e time → ⊥
guarded-none events w c e time guarded h6 =
    grind (arith, common_steps, true≢false, guarded-looked, exit-asks, respond-asks)

pub attended_are_looked_after : AttendedCoinsAreLookedAfter
unfolding is_attended is_looked_after
attended_are_looked_after [] w c e is = refl
attended_are_looked_after (event ∷ events) w c e is =
    let parts = and_parts (not (goes_unattended events w c e event)) (is_attended events w c e) is in
    and_from (not (goes_unseen events w c e event)) (is_looked_after events w c e)
    (not_from_false _ (false_from_ne_true (goes_unseen events w c e event) (λ unseen.
    seen (is_unseen events w c e event unseen) (not-true _ parts.0))))
    (attended_are_looked_after events w c e parts.1)
  where
    seen : IsUnseen events w c e event → goes_unattended events w c e event ≡ false → ⊥
    seen u attended =
        let met : needs_guardian events w c e event ≡ true =
        and_from (meets_deadline (log_of events) c event) (holds events w c e)
        (ap (meets_deadline (log_of events) c) u.event_is ∙ met-deadline events w c e u.time u.ends) u.held in
        guarded-none events w c e u.time
        (and-seen (needs_guardian events w c e event) (is_guarded events w c e) attended met) u.ends
