-- A held coin that is looked after is safe, at every one of legal events.
use Rattle.world_laws.proofs.Basics.{◌≡◌, ℕ, ◌&&◌, true, false, List, [], ◌∷◌, Some, inl, inr, refl, sym, ap, ◌∙◌, subst, arith, rules, not, not-true, cases_Bool, and_parts, and_from, and_right, or_cases, or_left, or_right, not_from_false, common_steps, some_same, all-from, list_any}
use Rattle.world_laws.proofs.CoinWords.{Owner, RootCall, Tick, now, exits, coin_at, Tests, Rules, tests_by, contains-has}
use Rattle.world_laws.proofs.NodeWords.{exit_block}
use Rattle.world_laws.proofs.WorldWords.{IsDigest, Event, Joins, Bounces, log_of, coin_of_call, wallet_owner, bound_by, accepted, is_bundle, openings_of, seen, strings_of, has_clash, collides, forges_one, is_forged, holds, harms, is_harmed, is_safe, was_deposited, starts_by, left_by, is_left, is_tip, LegalCall, IsLegal, LegalCoinsAreSafe, AllWatched, IfOf, goes_unseen, is_looked_after}
use Rattle.world_laws.proofs.HeldCoins.{one_leaf, seen-call, Holding, holding, held_top}
use Rattle.world_laws.proofs.Offers.{left_start}
use Rattle.world_laws.proofs.OwnExits.{left-is, left-stands}
use Rattle.world_laws.proofs.Before.{none-before, forged-parts, HeldBefore, held_before, legal-before, at_event}
use Rattle.world_laws.proofs.Looks.{tick-keeps}
use Rattle.world_laws.proofs.Steps.{KeepsTick, keeps}
use Rattle.world_laws.proofs.Harms.{call-harmless, refused-harmless, finish-harmless}

-- ---- looked after

pub looked-parts : (event : Event) (events : List Event) (w c e : ℕ)
    → is_looked_after (event ∷ events) w c e ≡ true
    → (goes_unseen events w c e event ≡ false) × (is_looked_after events w c e ≡ true)
unfolding is_looked_after
looked-parts event events w c e is =
    let parts = and_parts (not (goes_unseen events w c e event)) (is_looked_after events w c e) is in
    (not-true _ parts.0, parts.1)

-- ---- over all events

module _ (dig : List ℕ → List ℕ) (digest : IsDigest dig) (rules : Rules) (w c e : ℕ) where
  abbrev By : Tests
  By = tests_by dig

  abbrev Watched : List Event → Owner → Type 0
  Watched events me = AllWatched c me e (now (log_of events)) (exits (log_of events))

  -- a start by the wallet's account is of its tip
  own_start : (call : RootCall) (events : List Event) → IsLegal (tests_by dig) rules events
      → has_clash dig (strings_of dig c (seen events c)) ≡ false → is_forged rules.tag events w c ≡ false
      → (h : Holding events w c e) → LegalCall (tests_by dig) rules events call
      → starts_by h.me.account call ≡ true → coin_of_call call ≡ c → exit_block call ≡ e
  own_start call events legal none unforged h allowed start c_is =
      let one = one_leaf dig digest (log_of events) c (seen events c) none in
      let block = exit_block call in
      let has = contains-has (left_by events w) call (allowed.offered w h.me h.me_is start) in
      let k = left_start (tests_by dig) rules events w call legal has in
      let mine : k.me ≡ h.me = some_same k.me h.me (sym k.me_is ∙ h.me_is) in
      let tip : is_tip events w h.me c block ≡ true =
      (λ i. is_tip events w (sym mine i) (sym c_is i) block) ∙ k.tip in
      let left : is_left (left_by events w) c block ≡ true =
      (λ i. is_left (left_by events w) (sym c_is i) block) ∙ left-is (left_by events w) call has in
      let there : Holding events w c block = record {
        me = h.me;
        me_is = h.me_is;
        source = or_cases (was_deposited h.me block (coin_at (log_of events) c))
            (list_any (is_bundle c block) (accepted events w)) tip;
        not_away = left-stands (tests_by dig) rules events w c block legal left;
        not_withdrawn = h.not_withdrawn;
      } in
      let low = held_top (tests_by dig) rules (λ tx owner is. is) events w c e legal one h unforged block tip in
      let high = held_top (tests_by dig) rules (λ tx owner is. is) events w c block legal one there unforged e
      (held_tip h) in
      omega (arith, low, high)
    where
      held_tip : (h : Holding events w c e) → is_tip events w h.me c e ≡ true
      held_tip h = grind (arith, common_steps, or_left, or_right)

  ticks-kept : (call : RootCall) (events : List Event) → IsLegal (tests_by dig) rules events
      → has_clash dig (strings_of dig c (seen events c)) ≡ false → is_forged rules.tag events w c ≡ false
      → (h : Holding events w c e) → goes_unseen events w c e (Joins call) ≡ false
      → KeepsTick c h.me e (log_of events) call
  ticks-kept (Tick time) events legal none unforged h unseen =
      tick-keeps dig digest rules w c e events time legal none unforged h unseen
  ticks-kept call events legal none unforged h unseen = tt

  pub kept-event : (event : Event) (events : List Event) → IsLegal (tests_by dig) rules (event ∷ events)
      → has_clash dig (strings_of dig c (seen (event ∷ events) c)) ≡ false
      → is_forged rules.tag (event ∷ events) w c ≡ false → goes_unseen events w c e event ≡ false
      → (h : Holding events w c e) → AllWatched c h.me e (now (log_of events)) (exits (log_of events))
      → AllWatched c h.me e (now (log_of (event ∷ events))) (exits (log_of (event ∷ events)))
  unfolding log_of IsLegal openings_of at_event
  kept-event (Joins call) events legal none unforged unseen h all =
      let forged = forged-parts rules.tag (Joins call) events w c unforged in
      let whole = none-before dig (Joins call) events c none in
      let at = at_event dig digest rules w c e (Joins call) events legal.1 none h in
      keeps (tests_by dig) rules (λ tx owner is. is) events w c e legal.1 (seen (Joins call ∷ events) c) at call
      (own_start call events legal.1 whole forged.1 h legal.0) (seen-call call events c) forged.0
      (ticks-kept call events legal.1 whole forged.1 h unseen)
      legal.0.accepted all
  kept-event event events legal none unforged unseen h all = all

  -- while it is held, what is to hold of each of its exits holds
  pub watched : (events : List Event) → IsLegal (tests_by dig) rules events
      → has_clash dig (strings_of dig c (seen events c)) ≡ false → is_forged rules.tag events w c ≡ false
      → is_looked_after events w c e ≡ true → (h : Holding events w c e)
      → AllWatched c h.me e (now (log_of events)) (exits (log_of events))
  unfolding exits log_of
  watched [] legal none unforged looked h = tt
  watched (event ∷ events) legal none unforged looked h =
      later (held_before (tests_by dig) rules event events w c e legal h)
      (λ g. watched events (legal-before (tests_by dig) rules event events legal) (none-before dig event events c none)
      (forged-parts rules.tag event events w c unforged).1 (looked-parts event events w c e looked).1 g)
    where
      later : HeldBefore event events w c e h.me
          → ((g : Holding events w c e) → AllWatched c g.me e (now (log_of events)) (exits (log_of events)))
          → AllWatched c h.me e (now (log_of (event ∷ events))) (exits (log_of (event ∷ events)))
      later (inr new) before =
          all-from (IfOf c h.me e (now (log_of (event ∷ events)))) (exits (log_of (event ∷ events)))
          (λ x there c_is. absurd (new x there c_is))
      later (inl r) before =
          subst (λ m. AllWatched c m e (now (log_of (event ∷ events))) (exits (log_of (event ∷ events)))) r.1
          (kept-event event events legal none unforged (looked-parts event events w c e looked).0 r.0 (before r.0))

  pub harmless : (event : Event) (events : List Event) → IsLegal (tests_by dig) rules (event ∷ events)
      → has_clash dig (strings_of dig c (seen (event ∷ events) c)) ≡ false
      → forges_one rules.tag (wallet_owner events w) (bound_by events w) c (openings_of c event) ≡ false
      → (h : Holding events w c e) → AllWatched c h.me e (now (log_of events)) (exits (log_of events))
      → harms (tests_by dig) rules (log_of events) (Some h.me) c e event ≡ false
  unfolding IsLegal openings_of at_event
  harmless (Joins call) events legal none forged h all =
      let at = at_event dig digest rules w c e (Joins call) events legal.1 none h in
      call-harmless (tests_by dig) rules (λ tx owner is. is) events w c e legal.1 (seen (Joins call ∷ events) c) at
      (finish-harmless (tests_by dig) rules (λ tx owner is. is) events w c e legal.1 (seen (Joins call ∷ events) c) at
      all) call (seen-call call events c) forged
  harmless (Bounces call) events legal none forged h all =
      let at = at_event dig digest rules w c e (Bounces call) events legal.1 none h in
      refused-harmless (tests_by dig) rules (λ tx owner is. is) events w c e legal.1 (seen (Bounces call ∷ events) c) at
      (finish-harmless (tests_by dig) rules (λ tx owner is. is) events w c e legal.1 (seen (Bounces call ∷ events) c) at
      all) call legal.0
  harmless event events legal none forged h all = refl

  -- the newest event is harmless
  pub safe-event : (event : Event) (events : List Event) → IsLegal (tests_by dig) rules (event ∷ events)
      → is_looked_after events w c e ≡ true → has_clash dig (strings_of dig c (seen (event ∷ events) c)) ≡ false
      → is_forged rules.tag (event ∷ events) w c ≡ false
      → is_harmed (tests_by dig) rules events w c e event ≡ false
  safe-event event events legal looked none unforged =
      elim (cases_Bool (holds events w c e)) [
        | inr isnt ↦ ap (λ b. b && harms (tests_by dig) rules (log_of events) (wallet_owner events w) c e event) isnt
        | inl is ↦
            let h = holding events w c e is in
            let forged = forged-parts rules.tag event events w c unforged in
            let all = watched events (legal-before (tests_by dig) rules event events legal)
            (none-before dig event events c none) forged.1 looked h in
            and_right _ _ (subst (λ o. harms (tests_by dig) rules (log_of events) o c e event ≡ false) (sym h.me_is)
            (harmless event events legal none forged.0 h all))
      ]

  safe : (event : Event) (events : List Event) → IsLegal (tests_by dig) rules (event ∷ events)
      → is_looked_after events w c e ≡ true → has_clash dig (strings_of dig c (seen (event ∷ events) c)) ≡ false
      → is_forged rules.tag (event ∷ events) w c ≡ false
      → is_safe (tests_by dig) rules (event ∷ events) w c e ≡ true
  unfolding is_safe
  safe event [] legal looked none unforged =
      and_from _ _ (not_from_false _ (safe-event event [] legal looked none unforged)) refl
  safe event (before ∷ events) legal looked none unforged =
      and_from _ _ (not_from_false _ (safe-event event (before ∷ events) legal looked none unforged))
      (safe before events (legal-before (tests_by dig) rules event (before ∷ events) legal)
      (looked-parts before events w c e looked).1 (none-before dig event (before ∷ events) c none)
      (forged-parts rules.tag event (before ∷ events) w c unforged).1)

pub legal_coins_are_safe : LegalCoinsAreSafe
unfolding collides
legal_coins_are_safe dig rules event events w c e digest legal looked none unforged =
    safe dig digest rules w c e event events legal looked none unforged
