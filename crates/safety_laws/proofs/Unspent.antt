-- No standing exit spends the tip of a coin that a wallet holds.
use Rattle.safety_laws.proofs.Basics.{◌≡◌, ◌≢◌, ℕ, ◌<◌, true, false, List, [], ◌∷◌, ◌++◌, inl, inr, refl, sym, ap, ◌∙◌, subst, arith, rules, is_some, nat_lt, AllByRecursion, ltb-true, and_parts}
use Rattle.safety_laws.proofs.CoinWords.{RawOpening, Shown, RootCall, StartDeposit, StartSpend, Before, Respond, coin_at, Exit, exits, block_of, Tests, Rules, tests_by, root_at, is_accepted, answer_to, StartsSpend, accepted_calls_show, Has, has-left, has-right}
use Rattle.safety_laws.proofs.WorldWords.{IsDigest, Event, Joins, log_of, wallet_owner, bound_by, openings_of, seen, strings_of, has_clash, forges_one, is_forged, IsLegal, some_same, all-from, IsShownAt, parent_shown, seen-call, SignsBy, Holding, none-before, forged-parts, HeldBefore, held_before, legal-before, at_event, IsSpend, is_spend, AtEvent, owner_is, tip_unspent, own-openings, e-positive, parent-below}
use Rattle.plasma_tx.proofs.Each.{each-exit}
use Rattle.watch_duty.specs.Laws.{shown_openings, openings_of_call}

abbrev pub IsUnspent : ℕ → ℕ → Exit → Type 0
IsUnspent c e x = x.coin ≡ c → x.parent ≢ e

abbrev pub AllUnspent : ℕ → ℕ → List Exit → Type 0
AllUnspent c e xs = AllByRecursion (IsUnspent c e) xs

module _ (tests : Tests) (rules : Rules) (signs : SignsBy tests) (events : List Event) (w c e : ℕ)
    (legal : IsLegal tests rules events) (more : List RawOpening) (at : AtEvent tests rules events w c e more) where
  spends_not : (account k : ℕ) (parent : Shown) (exit : RawOpening)
      → ((o : RawOpening) → Has (openings_of_call c (StartSpend account k parent exit)) o → Has more o)
      → forges_one rules.tag (wallet_owner events w) (bound_by events w) c
      (openings_of_call c (StartSpend account k parent exit)) ≡ false
      → StartsSpend tests rules (log_of events) account k parent exit → k ≡ c → block_of parent ≡ e → ⊥
  spends_not account k parent exit has none is c_is at_tip =
      let log : List RootCall = log_of events in
      let os : List RawOpening = shown_openings parent ++ exit ∷ [] in
      let same : is.coin ≡ at.held.made =
      some_same is.coin at.held.made (sym is.there ∙ ap (coin_at log) c_is ∙ at.held.made_is) in
      let shown = parent_shown tests rules log more account k parent exit is (λ o h.
      has o (own-openings k c os o c_is (has-left (shown_openings parent) (exit ∷ []) o h))) in
      let owner = owner_is tests rules signs events w c e more at (block_of parent) is.parent_owner
      (subst (λ x. IsShownAt tests rules log more c x (block_of parent) is.parent_owner) same
      (subst (λ x. IsShownAt tests rules log more x is.coin (block_of parent) is.parent_owner) c_is shown))
      at_tip in
      let low : is.coin.deposit < exit.block = ltb-true is.coin.deposit exit.block
      (and_parts (is_some (root_at log exit.block)) (nat_lt is.coin.deposit exit.block) is.committed).1 in
      let here = own-openings k c os exit c_is (has-right (shown_openings parent) (exit ∷ []) exit (inl refl)) in
      let above = parent-below log is.coin exit.block parent low is.parent_fits in
      let spend = is_spend tests rules log k exit is.tx (block_of parent) is.parent_owner is.shown is.child above
      is.signed in
      tip_unspent tests rules signs events w c e more at (openings_of_call c (StartSpend account k parent exit))
      none exit here (has exit here) (block_of parent) is.parent_owner
      (subst (λ x. IsSpend tests rules log x exit (block_of parent) is.parent_owner) c_is spend) at_tip owner

  -- every accepted call
  unspent-call : (call : RootCall) → ((o : RawOpening) → Has (openings_of_call c call) o → Has more o)
      → forges_one rules.tag (wallet_owner events w) (bound_by events w) c (openings_of_call c call) ≡ false
      → is_accepted (answer_to tests rules (log_of events) call) ≡ true → AllUnspent c e (exits (log_of events))
      → AllUnspent c e (exits (call ∷ log_of events))
  unspent-call (StartDeposit account k block) has none is all =
      each-exit (IsUnspent c e) (log_of events) (StartDeposit account k block)
      (λ c_is z. let positive = e-positive tests rules signs events w c e legal more at in
      absurd (omega (arith, positive, z))) tt all
  unspent-call (StartSpend account k parent exit) has none is all =
      each-exit (IsUnspent c e) (log_of events) (StartSpend account k parent exit)
      (spends_not account k parent exit has none
      (accepted_calls_show tests rules (log_of events) (StartSpend account k parent exit) is)) tt all
  unspent-call (Before account k f shown) has none is all =
      each-exit (IsUnspent c e) (log_of events) (Before account k f shown) tt (λ x free was. was) all
  unspent-call (Respond account k f challenged spend) has none is all =
      each-exit (IsUnspent c e) (log_of events) (Respond account k f challenged spend) tt (λ x was. was) all
  unspent-call call has none is all = each-exit (IsUnspent c e) (log_of events) call tt tt all

module _ (dig : List ℕ → List ℕ) (digest : IsDigest dig) (rules : Rules) (w c e : ℕ) where
  unspent-event : (event : Event) (events : List Event) → IsLegal (tests_by dig) rules (event ∷ events)
      → has_clash dig (strings_of dig c (seen (event ∷ events) c)) ≡ false
      → is_forged rules.tag (event ∷ events) w c ≡ false → Holding events w c e
      → AllUnspent c e (exits (log_of events)) → AllUnspent c e (exits (log_of (event ∷ events)))
  unfolding log_of IsLegal openings_of at_event
  unspent-event (Joins call) events legal none unforged h all =
      unspent-call (tests_by dig) rules (λ tx owner is. is) events w c e legal.1 (seen (Joins call ∷ events) c)
      (at_event dig digest rules w c e (Joins call) events legal.1 none h) call (seen-call call events c)
      (forged-parts rules.tag (Joins call) events w c unforged).0 legal.0.accepted all
  unspent-event event events legal none unforged h all = all

  -- while it is held, no exit spends the tip
  pub unspent_exits : (events : List Event) → IsLegal (tests_by dig) rules events
      → has_clash dig (strings_of dig c (seen events c)) ≡ false → is_forged rules.tag events w c ≡ false
      → Holding events w c e → AllUnspent c e (exits (log_of events))
  unfolding exits log_of
  unspent_exits [] legal none unforged h = tt
  unspent_exits (event ∷ events) legal none unforged h =
      later (held_before (tests_by dig) rules event events w c e legal h)
      (λ g. unspent_exits events (legal-before (tests_by dig) rules event events legal)
      (none-before dig event events c none) (forged-parts rules.tag event events w c unforged).1 g)
    where
      later : HeldBefore event events w c e h.me
          → (Holding events w c e → AllUnspent c e (exits (log_of events)))
          → AllUnspent c e (exits (log_of (event ∷ events)))
      later (inr new) before =
          all-from (IsUnspent c e) (exits (log_of (event ∷ events))) (λ x there c_is. absurd (new x there c_is))
      later (inl r) before = unspent-event event events legal none unforged r.0 (before r.0)
