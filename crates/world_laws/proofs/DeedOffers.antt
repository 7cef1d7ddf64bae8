-- What orders offer: challenges and answers by a watch, a wallet's own start by a leave, the operator's commit by a
-- seal. None of it deposits, and a start is by the account of the wallet that offers it.
use Rattle.world_laws.proofs.Basics.{◌≡◌, ℕ, true, false, List, [], Option, Ok, Err, inl, inr, refl, sym, ◌∙◌, subst, arith, Some, None, Result, option_map_or, eqb-true, false≢true, common_steps}
use Rattle.world_laws.proofs.CoinWords.{Link, Links, RootCall, ExitView, exits_of, CoinState, Nothing, Sending, Leaving, Held, due_for, due_of, Has, has-flat_map, IsDue, due_for-due}
use Rattle.world_laws.proofs.NodeWords.{WalletRefusal, owner_of, WalletRecords, who, links_at, start_by, exit_start, leave_effect, due_in, wallet_watch, watcher_watch, NodeOrder}
use Rattle.world_laws.proofs.WorldWords.{Node, World, is_wallet_role, is_operator_role, wallet_of, owner_of_node, Event, OrderEnds, Leaving, Watching, GuardWatching, Sealing, order-ends, Place, deed_at, has_order, MayOrder, starts_by, deposits_by}
use Rattle.world_laws.proofs.Identities.{IsOffer}
use Rattle.world_laws.proofs.OperatorActs.{commits_root}

-- ---- challenges and answers

-- the call neither deposits nor starts, and is no commit
pub record IsQuiet (call : RootCall) : Type 0 where
  pub deposits : (account : ℕ) → deposits_by account call ≡ false
  pub starts : (account : ℕ) → starts_by account call ≡ false
  pub commits : commits_root call ≡ false

quiet-due : (log : List RootCall) (account : ℕ) (links : Links) (exit : ExitView) (call : RootCall)
    → IsDue log account links exit call → IsQuiet call
quiet-due log account links exit call h5 = grind (arith, common_steps)

due-quiet : (log : List RootCall) (account : ℕ) (links : Links) (call : RootCall)
    → Has (due_of log account (record { links = links })) call → IsQuiet call
due-quiet log account links call h =
    let found = has-flat_map (due_for log account links) (exits_of log links.coin) call h in
    quiet-due log account links found.0 call (due_for-due log account links found.0 call found.2)

-- what is due where there are links, and nothing where there are none
linked-quiet : (log : List RootCall) (account : ℕ) (links : Option Links) (call : RootCall)
    → Has (option_map_or (λ l. due_of log account (record { links = l })) links []) call → IsQuiet call
linked-quiet log account None call h = absurd h
linked-quiet log account (Some links) call h = due-quiet log account links call h

wallet-quiet : (dig : List ℕ → List ℕ) (wallet : WalletRecords) (log : List RootCall) (call : RootCall)
    → Has (wallet_watch dig wallet log) call → IsQuiet call
unfolding wallet_watch
wallet-quiet dig wallet log call h = grind (arith, common_steps, has-flat_map, by)
  where
    by : (coin : ℕ) (state : CoinState) → Has (due_in dig wallet log coin state) call → IsQuiet call
    by coin Nothing h = absurd h
    by coin (Sending tip q) h = absurd h
    by coin (Leaving tip) h = linked-quiet log (who wallet).account (links_at dig wallet log coin tip) call h
    by coin (Held tip) h = linked-quiet log (who wallet).account (links_at dig wallet log coin tip) call h

watcher-quiet : (dig : List ℕ → List ℕ) (notes : List (List ℕ)) (log : List RootCall) (call : RootCall)
    → Has (watcher_watch dig notes log) call → IsQuiet call
unfolding watcher_watch
watcher-quiet dig notes log call h = grind (arith, common_steps, has-flat_map, linked-quiet)

-- ---- starts

-- a start is by its account
start-by : (account tip : ℕ) (links : Links) (last : Option Link) (by : ℕ)
    → starts_by by (start_by account tip links last) ≡ true → account ≡ by
start-by account tip links None by is = eqb-true account by is
start-by account tip links (Some link) by is = eqb-true account by is

start-no_deposit : (account tip : ℕ) (links : Links) (last : Option Link) (by : ℕ)
    → deposits_by by (start_by account tip links last) ≡ false
start-no_deposit account tip links None by = refl
start-no_deposit account tip links (Some link) by = refl

start-no_commit : (account tip : ℕ) (links : Links) (last : Option Link)
    → commits_root (start_by account tip links last) ≡ false
start-no_commit account tip links None = refl
start-no_commit account tip links (Some link) = refl

-- what a leave answers is a start by the wallet's account
pub record IsStart (account : ℕ) (call : RootCall) : Type 0 where
  pub deposits : (by : ℕ) → deposits_by by call ≡ false
  pub starts : (by : ℕ) → starts_by by call ≡ true → account ≡ by
  pub commits : commits_root call ≡ false

abbrev not_held : Result RootCall WalletRefusal
not_held = Err WalletRefusal.NotHeld

module _ (dig : List ℕ → List ℕ) (wallet : WalletRecords) (log : List RootCall) (call : RootCall) where
  exit-start : (coin tip : ℕ) → exit_start dig wallet log coin tip ≡ Ok call → IsStart (who wallet).account call
  exit-start coin tip is = grind (arith, common_steps, start-no_deposit, start-by, start-no_commit)

  pub leave-start : (coin : ℕ) → (leave_effect dig wallet log coin).answer ≡ Ok call
      → IsStart (who wallet).account call
  unfolding leave_effect
  leave-start coin is = grind (arith, common_steps, exit-start)

-- ---- so each node offers

quiet-offer : (node : Node) (call : RootCall) → IsQuiet call → IsOffer node call
quiet-offer node call quiet = grind (arith, common_steps, false≢true)

module _ (dig : List ℕ → List ℕ) (world : World) (place : Place) (order : NodeOrder)
    (may : MayOrder world place order) (call : RootCall) (has : Has (deed_at dig world place order).gives.offers call)
  where
    abbrev log : List RootCall
    log = world.chain.log

    abbrev node : Node
    node = place.node

    -- what an order offers, where a wallet's notes say the account of its node
    pub order-offers : (is_wallet_role place.node.role ≡ true → (owner_of_node place.node).account ≡ place.node.account)
        → IsOffer place.node call
    unfolding owner_of
    order-offers account = by order may.role (order-ends dig log place.number node order) has
      where
        by : (one : NodeOrder) → has_order one node.role ≡ true → {event : Event} → {calls : List RootCall}
            → OrderEnds dig log place.number node one event calls → Has calls call → IsOffer node call
        by one role (Leaving coin start made) (inl same) =
            let leaves = subst (IsStart (who (wallet_of node)).account) same
            (leave-start dig (wallet_of node) log start coin made) in
            record { deposits = leaves.deposits; starts = λ by is. (role, sym (account role) ∙ leaves.starts by is) }
        by one role (Leaving coin start made) (inr none) = absurd none
        by one role Watching has = quiet-offer node call (wallet-quiet dig (wallet_of node) log call has)
        by one role GuardWatching has = quiet-offer node call (watcher-quiet dig node.notes log call has)
        by one role Sealing (inl same) =
            subst (IsOffer node) same (record { deposits = λ a. refl; starts = λ a is. absurd (false≢true is) })
        by one role Sealing (inr none) = absurd none
        by one role ends has = absurd has

    -- a node that isn't the operator offers no commit
    pub order-quiet : is_operator_role place.node.role ≡ false → commits_root call ≡ false
    order-quiet other = by order may.role (order-ends dig log place.number node order) has
      where
        by : (one : NodeOrder) → has_order one node.role ≡ true → {event : Event} → {calls : List RootCall}
            → OrderEnds dig log place.number node one event calls → Has calls call → commits_root call ≡ false
        by one role (Leaving coin start made) (inl same) =
            (subst (IsStart (who (wallet_of node)).account) same
            (leave-start dig (wallet_of node) log start coin made)).commits
        by one role (Leaving coin start made) (inr none) = absurd none
        by one role Watching has = (wallet-quiet dig (wallet_of node) log call has).commits
        by one role GuardWatching has = (watcher-quiet dig node.notes log call has).commits
        by one role Sealing has = absurd (false≢true (sym other ∙ role))
        by one role ends has = absurd has
