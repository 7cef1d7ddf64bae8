-- How the orders of nodes end: a command of a node is one order, which is refused or answered; by that it is an event,
-- and offers calls.
use Rattle.world_rules.proofs.Basics.{◌≡◌, ℕ, Bool, true, false, List, [], ◌∷◌, Some, Ok, arith, Result, common_steps}
use Rattle.world_rules.proofs.CoinWords.{root_of, Owner, RootCall, body_at_start, some_same}
use Rattle.world_rules.proofs.NodeWords.{Accepted, Sent, Reclaimed, WalletRefusal, WatcherRefusal, accept_effect, send_effect, again_answer, leave_effect, reclaim_effect, migrate_effect, wallet_watch, guard_effect, release_effect, watcher_watch, NodeOrder, WalletOrder, WatcherOrder, OperatorOrder, wallet_cause, watcher_cause, offer_cause, lay_cause, prove_cause, Response, refused, answered, on_accepted, on_sent, on_leaving, on_reclaimed, on_migrated, wallet_does, on_guarded, on_released, watcher_does, on_pooled, on_laid, on_bundled, on_proved, operator_does}
use Rattle.world_rules.proofs.OperatorWords.{who_is, forest_in, offer_effect, lay_effect, seal_effect, prove_answer, bundle_answer, absences_answer}
use Rattle.world_rules.proofs.WorldWords.{option_map_some, Command, Event, Accepts, Guards, Releases, Binds, TakesBack, Watches, Leaves, Seals, Other, Role, Node, World, wallet_of, is_wallet_role, is_watcher_role, is_operator_role, plays, order_of, on_open, node_does, bundle_read, event_of}

-- ---- the order of a command

-- the node has a role for the order
abbrev pub IsOrderAt : Role → NodeOrder → Type 0
IsOrderAt role (NodeOrder.Wallet order) = is_wallet_role role ≡ true
IsOrderAt role (NodeOrder.Watcher order) = is_watcher_role role ≡ true
IsOrderAt role (NodeOrder.Operator order) = is_operator_role role ≡ true
IsOrderAt role NodeOrder.Open = Unit {0}

-- as it has one for the command
pub order-role : (world : World) (role : Role) (command : Command) (order : NodeOrder) → plays command role ≡ true
    → order_of world role command ≡ Some order → IsOrderAt role order
unfolding order_of
order-role world role command order may is = grind (arith, common_steps, option_map_some, some_same)

-- ---- answers

-- what holds of a refusal, and of what is given out for each answer, holds of what is given out
pub each-answer : {A E : Type 0} (P : Response → Type 0) (cause : E → List ℕ) (give : A → Response)
    (result : Result A E) → ((answer : A) → result ≡ Ok answer → P (give answer)) → ((why : List ℕ) → P (refused why))
    → P (answered cause give result)
each-answer P cause give result each none = grind (arith, common_steps)

-- the event of an order of wallet n, by its answer; and of one of watcher n
abbrev pub wallet_told : {A : Type 0} → ℕ → WalletOrder → (A → Response) → Result A WalletRefusal → Event
wallet_told n order give result = event_of n (NodeOrder.Wallet order) (answered wallet_cause give result)

abbrev pub watcher_told : {A : Type 0} → ℕ → WatcherOrder → (A → Response) → Result A WatcherRefusal → Event
watcher_told n order give result = event_of n (NodeOrder.Watcher order) (answered watcher_cause give result)

-- the commit that a seal offers
abbrev pub commit_of : (List ℕ → List ℕ) → List (List ℕ) → RootCall
commit_of dig notes = RootCall.Commit (who_is notes).account (root_of dig (forest_in notes).pool)

-- how an order of node n ends: by its event, and the calls that it offers
pub data OrderEnds (dig : List ℕ → List ℕ) (log : List RootCall) (n : ℕ) (node : Node)
    : NodeOrder → Event → List RootCall → Type 0 where
  -- it is refused, or is none of the named events
  Others : (order : NodeOrder) → OrderEnds dig log n node order (Other n) []
  Accepting : (bytes : List ℕ) (taken : Accepted) → (accept_effect dig (wallet_of node) log bytes).answer ≡ Ok taken
      → OrderEnds dig log n node (NodeOrder.Wallet (WalletOrder.Accept bytes)) (Accepts n (bundle_read bytes)) []
  Binding : (coin : ℕ) (to : Owner) (last : _) (sent : Sent)
      → (send_effect dig (wallet_of node) log coin to last).answer ≡ Ok sent
      → OrderEnds dig log n node (NodeOrder.Wallet (WalletOrder.Send coin to last)) (Binds n (body_at_start sent.bytes))
      []
  Leaving : (coin : ℕ) (call : RootCall) → (leave_effect dig (wallet_of node) log coin).answer ≡ Ok call
      → OrderEnds dig log n node (NodeOrder.Wallet (WalletOrder.Leave coin)) (Leaves n call) (call ∷ [])
  TakingBack : (bytes : List ℕ) (taken : Reclaimed)
      → (reclaim_effect dig (wallet_of node) log bytes).answer ≡ Ok taken
      → OrderEnds dig log n node (NodeOrder.Wallet (WalletOrder.Reclaim bytes))
      (TakesBack n taken.q (bundle_read bytes)) []
  Watching : OrderEnds dig log n node (NodeOrder.Wallet WalletOrder.Watch)
      (Watches n (wallet_watch dig (wallet_of node) log)) (wallet_watch dig (wallet_of node) log)
  Guarding : (bytes : List ℕ) (taken : Accepted) → (guard_effect dig node.notes log bytes).answer ≡ Ok taken
      → OrderEnds dig log n node (NodeOrder.Watcher (WatcherOrder.Guard bytes)) (Guards n (bundle_read bytes)) []
  Releasing : (coin tip : ℕ)
      → OrderEnds dig log n node (NodeOrder.Watcher (WatcherOrder.Release coin tip)) (Releases n coin tip) []
  GuardWatching : OrderEnds dig log n node (NodeOrder.Watcher WatcherOrder.Watch)
      (Watches n (watcher_watch dig node.notes log)) (watcher_watch dig node.notes log)
  Sealing : OrderEnds dig log n node (NodeOrder.Operator OperatorOrder.Seal) (Seals (commit_of dig node.notes))
      (commit_of dig node.notes ∷ [])

module _ (dig : List ℕ → List ℕ) (log : List RootCall) (n : ℕ) (node : Node) where
  -- what is given out ends the order so
  abbrev Ends : NodeOrder → Response → Type 0
  Ends order response = OrderEnds dig log n node order (event_of n order response) response.offers

  wallet-ends : (order : WalletOrder)
      → Ends (NodeOrder.Wallet order) (wallet_does dig log (wallet_of node) order).response
  unfolding event_of wallet_does
  wallet-ends (WalletOrder.Accept bytes) =
      each-answer (Ends (NodeOrder.Wallet (WalletOrder.Accept bytes))) wallet_cause on_accepted
      (accept_effect dig (wallet_of node) log bytes).answer (Accepting bytes) (λ why. Others _)
  wallet-ends (WalletOrder.Send coin to last) =
      each-answer (Ends (NodeOrder.Wallet (WalletOrder.Send coin to last))) wallet_cause on_sent
      (send_effect dig (wallet_of node) log coin to last).answer (Binding coin to last) (λ why. Others _)
  wallet-ends (WalletOrder.Again coin) =
      each-answer (Ends (NodeOrder.Wallet (WalletOrder.Again coin))) wallet_cause on_sent
      (again_answer (wallet_of node) coin) (λ sent is. Others _) (λ why. Others _)
  wallet-ends (WalletOrder.Leave coin) =
      each-answer (Ends (NodeOrder.Wallet (WalletOrder.Leave coin))) wallet_cause on_leaving
      (leave_effect dig (wallet_of node) log coin).answer (Leaving coin) (λ why. Others _)
  wallet-ends (WalletOrder.Reclaim bytes) =
      each-answer (Ends (NodeOrder.Wallet (WalletOrder.Reclaim bytes))) wallet_cause on_reclaimed
      (reclaim_effect dig (wallet_of node) log bytes).answer (TakingBack bytes) (λ why. Others _)
  wallet-ends WalletOrder.Migrate =
      each-answer (Ends (NodeOrder.Wallet WalletOrder.Migrate)) wallet_cause on_migrated
      (migrate_effect (wallet_of node)).answer (λ done is. Others _) (λ why. Others _)
  wallet-ends WalletOrder.Watch = Watching

  watcher-ends : (order : WatcherOrder)
      → Ends (NodeOrder.Watcher order) (watcher_does dig log node.notes order).response
  unfolding event_of watcher_does
  watcher-ends (WatcherOrder.Guard bytes) =
      each-answer (Ends (NodeOrder.Watcher (WatcherOrder.Guard bytes))) watcher_cause on_guarded
      (guard_effect dig node.notes log bytes).answer (Guarding bytes) (λ why. Others _)
  watcher-ends (WatcherOrder.Release coin tip) =
      each-answer (Ends (NodeOrder.Watcher (WatcherOrder.Release coin tip))) watcher_cause on_released
      (release_effect dig node.notes coin tip).answer (λ done is. Releasing coin tip) (λ why. Others _)
  watcher-ends WatcherOrder.Watch = GuardWatching

  operator-ends : (order : OperatorOrder)
      → Ends (NodeOrder.Operator order) (operator_does dig log node.notes order).response
  unfolding event_of operator_does seal_effect
  operator-ends (OperatorOrder.Offer bytes) =
      each-answer (Ends (NodeOrder.Operator (OperatorOrder.Offer bytes))) offer_cause on_pooled
      (offer_effect dig node.notes log bytes).answer (λ coin is. Others _) (λ why. Others _)
  operator-ends (OperatorOrder.Lay coin leaf) =
      each-answer (Ends (NodeOrder.Operator (OperatorOrder.Lay coin leaf))) lay_cause (on_laid coin)
      (lay_effect coin leaf).answer (λ done is. Others _) (λ why. Others _)
  operator-ends OperatorOrder.Seal = Sealing
  operator-ends (OperatorOrder.Bundle coin tip) =
      each-answer (Ends (NodeOrder.Operator (OperatorOrder.Bundle coin tip))) prove_cause on_bundled
      (bundle_answer dig node.notes log coin tip) (λ bundle is. Others _) (λ why. Others _)
  operator-ends (OperatorOrder.Prove coin block) =
      each-answer (Ends (NodeOrder.Operator (OperatorOrder.Prove coin block))) prove_cause on_proved
      (prove_answer dig node.notes log coin block) (λ opening is. Others _) (λ why. Others _)
  operator-ends (OperatorOrder.Absences coin after last) =
      each-answer (Ends (NodeOrder.Operator (OperatorOrder.Absences coin after last))) prove_cause on_bundled
      (absences_answer dig node.notes log coin after last) (λ bundle is. Others _) (λ why. Others _)

  opening-ends : (b : Bool) → Ends NodeOrder.Open (on_open node b)
  unfolding event_of
  opening-ends true = Others _
  opening-ends false = Others _

  pub order-ends : (order : NodeOrder) → Ends order (node_does dig log node order).response
  order-ends order = grind (arith, common_steps, wallet-ends, watcher-ends, operator-ends, opening-ends)
