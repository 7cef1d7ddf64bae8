-- What a watcher's watch offers is legal: it is what is due for the coins that it guards.
use Rattle.world_laws.proofs.Basics.{◌≡◌, ℕ, true, List, slice_get, Option, Some, None, refl, sym, ap, ◌∙◌, subst, arith, Contains, list_any, flat_map, and_parts, eqb-true, common_steps, any-some, has-in-flat_map}
use Rattle.world_laws.proofs.CoinWords.{Owner, RootCall, Rules, rules_of, Bundle, Has, has-contains, contains-has, has-flat_map}
use Rattle.world_laws.proofs.NodeWords.{who_is, is_of, guards_in, due_for_kept}
use Rattle.world_laws.proofs.WorldWords.{Event, log_of, wallet_owner, is_bundle, guarded_by, Node, World, is_watcher_role, said, KeptWorld, IsGuarding, ShowsGuard, LegalWatch}
use Rattle.node_rules.specs.Watcher.{watch_answer}
use Rattle.world_laws.proofs.Keeps.{Keeps, is-watcher, watcher-tag}
use Rattle.world_laws.proofs.GuardsShown.{IsShown, AreShown}
use Rattle.world_laws.proofs.NodeNotes.{AreNoted, noted-at}

-- a bundle that shows a kept coin has the same due as it
due-same : (tag : List ℕ) (log : List RootCall) (account : ℕ) (bundles : List Bundle) (kept : Bundle)
    → (by : IsShown tag bundles kept)
    → due_for_kept tag log account by.bundle ≡ due_for_kept tag log account kept
due-same tag log account bundles kept by = grind (arith, common_steps)

module _ (tag : List ℕ) (log : List RootCall) (account : ℕ) (bundles guards : List Bundle)
    (shown : AreShown tag bundles guards) where
  abbrev calls : List RootCall
  calls = flat_map (due_for_kept tag log account) guards

  -- what shows a kept coin, and what of its due is offered
  record Found (c e : ℕ) : Type 0 where
    kept : Bundle
    has : Has guards kept
    coin_is : kept.coin ≡ c
    tip_is : kept.tip ≡ e

  found : (c e : ℕ) → list_any (is_of c e) guards ≡ true → Found c e
  found c e is = grind (arith, common_steps, any-some, and_parts, eqb-true)

  due-offered : (kept : Bundle) → (has : Has guards kept) → (call : RootCall)
      → Contains (due_for_kept tag log account (shown kept has).bundle) call → Contains calls call
  due-offered kept has call due =
      has-contains calls call
      (has-in-flat_map (due_for_kept tag log account) guards kept call has
      (contains-has (due_for_kept tag log account kept) call
      (subst (λ (some : List RootCall). Contains some call)
      (due-same tag log account bundles kept (shown kept has)) due)))

  record OfShown (call : RootCall) : Type 0 where
    bundle : Bundle
    has : Has bundles bundle
    due : Contains (due_for_kept tag log account bundle) call

  offered-due : (call : RootCall) → Contains calls call → OfShown call
  offered-due call is =
      let r = has-flat_map (due_for_kept tag log account) guards call (contains-has calls call is) in
      let by = shown r.0 r.1 in record {
        bundle = by.bundle;
        has = by.has;
        due = subst (λ (some : List RootCall). Contains some call) (sym (due-same tag log account bundles r.0 by))
            (has-contains (due_for_kept tag log account r.0) call r.2);
      }

  -- so the calls are legal of a node that guards the bundles and is no wallet
  pub watch-by : (rules : Rules) (events : List Event) (n : ℕ) → rules.tag ≡ tag → log ≡ log_of events
      → wallet_owner events n ≡ None → guarded_by events n ≡ bundles
      → ((c e : ℕ) → list_any (is_bundle c e) bundles ≡ list_any (is_of c e) guards)
      → LegalWatch rules events n calls
  watch-by rules events n tag_is log_is owner guarded same = record {
    account = account;
    all = λ c e guarding.
        let here : list_any (is_bundle c e) (guarded_by events n) ≡ true =
        subst (λ (o : Option Owner). IsGuarding events n o c e) owner guarding in
        let f = found c e (sym (same c e) ∙ ap (list_any (is_bundle c e)) (sym guarded) ∙ here) in
        let by = shown f.kept f.has in record {
          bundle = by.bundle;
          coin_is = by.coin ∙ f.coin_is;
          tip_is = by.tip ∙ f.tip_is;
          shows = shows by.bundle by.has;
          due = λ call due. due-offered f.kept f.has call
              (grind (arith, common_steps));
        };
    only = λ call is.
        let by = offered-due call is in record {
          bundle = by.bundle;
          shows = shows by.bundle by.has;
          due = grind (arith, common_steps);
        };
  }
    where
      shows : (bundle : Bundle) → Has bundles bundle → ShowsGuard events n (wallet_owner events n) bundle
      shows bundle has =
          subst (λ (o : Option Owner). ShowsGuard events n o bundle) (sym owner)
          (subst (λ (some : List Bundle). Contains some bundle) (sym guarded) (has-contains bundles bundle has))

-- what a watcher's watch offers
pub legal-watched : (dig : List ℕ → List ℕ) (events : List Event) (world : World) → KeptWorld dig events world
    → Keeps events world → AreNoted dig events world → (n : ℕ) (node : Node)
    → slice_get world.nodes n ≡ Some node → is_watcher_role node.role ≡ true
    → LegalWatch (rules_of world.chain) events n (watch_answer dig node.notes world.chain.log)
unfolding watch_answer said
legal-watched dig events world kept keeps noted n node is role =
    let watcher = is-watcher events world keeps n node is role in
    let tag_is = watcher-tag events world keeps n node is role in
    let account = (who_is node.notes).account in
    watch-by (who_is node.notes).tag world.chain.log account (guarded_by events n) (guards_in dig node.notes)
    (subst (λ t. AreShown t (guarded_by events n) (guards_in dig node.notes)) (sym tag_is)
    ((noted-at dig events world noted n node is).guards role))
    (rules_of world.chain) events n (sym tag_is) kept.log_is watcher.owner refl
    ((kept.nodes n node is).watcher role).guards
