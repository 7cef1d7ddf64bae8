-- What the lines of a schedule did, as events, the newest first; and what events say of the root chain and of nodes.
-- Nodes are named by their numbers: the operator is 0, and those that are declared follow in order.
use Rattle.std.specs.Prelude.{ℕ, ◌==◌, ◌&&◌, not, Bool, false, if◌then◌else◌, List, [], ◌∷◌, length, filter, Option, Some, None}
use Rattle.std.specs.List.{list_any}
use Rattle.std.specs.Option.{option_map_or}
use Rattle.plasma_tx.specs.{declared.owner.Owner.{Owner}, declared.body.Body.{Body}, declared.call.RootCall.{RootCall}}
use Rattle.coin_history.specs.declared.bundle.Bundle.{Bundle}

-- What a line did. A cut whose command ended first, or whose record is kept, is the command's event; but a watch, a
-- leave and a seal in a cut are `Other`, since the node is down afterwards and offers nothing.
pub data Event : Type 0 where
  -- this wallet was declared, which is this owner
  Declares : ℕ → Owner → Event
  -- a call was accepted by the contract, and joined the log; or it was refused
  Joins : RootCall → Event
  Bounces : RootCall → Event
  -- a wallet accepted a bundle; a watcher guards a bundle's coin at its tip, and lets a coin at a tip go
  Accepts : ℕ → Bundle → Event
  Guards : ℕ → Bundle → Event
  Releases : ℕ → ℕ → ℕ → Event
  -- the next leaf of a wallet's key binds a body
  Binds : ℕ → Body → Event
  -- a wallet took back what this leaf binds, by a bundle
  TakesBack : ℕ → ℕ → Bundle → Event
  -- a node watched, and offers these calls
  Watches : ℕ → List RootCall → Event
  -- a wallet leaves with a coin, and offers the start of its exit
  Leaves : ℕ → RootCall → Event
  -- the operator sealed its pool, and offers the commit
  Seals : RootCall → Event
  -- any other command of a node, one that was refused, a crash, an opening, and a cut that is none of the above
  Other : ℕ → Event
  -- a line that is no command of a node, and enters no call; and a command of a node that is down
  Idle : Event

-- ---- the root chain

-- the calls that were accepted
unfoldable pub log_of : List Event → List RootCall
log_of [] = []
log_of (Joins call ∷ events) = call ∷ log_of events
log_of (event ∷ events) = log_of events

-- the coin of a call on an exit; 0, which is no coin, for other calls
abbrev pub coin_of_call : RootCall → ℕ
coin_of_call (RootCall.StartDeposit account coin block) = coin
coin_of_call (RootCall.StartSpend account coin parent exit) = coin
coin_of_call (RootCall.After account coin exit spend) = coin
coin_of_call (RootCall.Between account coin exit spend) = coin
coin_of_call (RootCall.Before account coin exit shown) = coin
coin_of_call (RootCall.Respond account coin exit challenged spend) = coin
coin_of_call (RootCall.Finish account coin exit) = coin
coin_of_call call = 0

-- ---- wallets

-- who a declared wallet is
unfoldable pub wallet_owner : List Event → ℕ → Option Owner
wallet_owner [] w = None
wallet_owner (Declares v me ∷ events) w = if v == w then Some me else wallet_owner events w
wallet_owner (event ∷ events) w = wallet_owner events w

-- the numbers of the declared wallets
unfoldable pub wallets : List Event → List ℕ
wallets [] = []
wallets (Declares v me ∷ events) = v ∷ wallets events
wallets (event ∷ events) = wallets events

-- the bundles that a wallet accepted
unfoldable pub accepted : List Event → ℕ → List Bundle
accepted [] w = []
accepted (Accepts v bundle ∷ events) w = if v == w then bundle ∷ accepted events w else accepted events w
accepted (event ∷ events) w = accepted events w

-- the bodies that a wallet's leaves bind: the newest first, so a leaf's number is the number of those behind it
unfoldable pub bound_by : List Event → ℕ → List Body
bound_by [] w = []
bound_by (Binds v body ∷ events) w = if v == w then body ∷ bound_by events w else bound_by events w
bound_by (event ∷ events) w = bound_by events w

-- the body that leaf q binds
unfoldable pub leaf_at : ℕ → List Body → Option Body
leaf_at q [] = None
leaf_at q (body ∷ bodies) = if q == length bodies then Some body else leaf_at q bodies

-- the leaves that a wallet took back
unfoldable pub taken_back : List Event → ℕ → List ℕ
taken_back [] w = []
taken_back (TakesBack v q bundle ∷ events) w = if v == w then q ∷ taken_back events w else taken_back events w
taken_back (event ∷ events) w = taken_back events w

-- leaf q is among these
abbrev pub is_taken : List ℕ → ℕ → Bool
is_taken taken q = list_any (λ leaf. leaf == q) taken

-- the bodies whose leaves aren't taken back
unfoldable pub not_taken : List ℕ → List Body → List Body
not_taken taken [] = []
not_taken taken (body ∷ bodies) =
    if is_taken taken (length bodies) then not_taken taken bodies else body ∷ not_taken taken bodies

-- the bodies that sign coins of a wallet away: its leaves bind them, and it didn't take them back
abbrev pub signed_away_by : List Event → ℕ → List Body
signed_away_by events w = not_taken (taken_back events w) (bound_by events w)

-- one of the bodies sends the coin from e: it names the coin with that parent
abbrev pub is_sent_from : List Body → ℕ → ℕ → Bool
is_sent_from bodies c e = list_any (λ body. (body.coin == c) && (body.parent == e)) bodies

-- ---- watchers

-- the bundle is of this coin and tip
abbrev pub is_bundle : ℕ → ℕ → Bundle → Bool
is_bundle c e bundle = (bundle.coin == c) && (bundle.tip == e)

-- the bundles whose coins a watcher guards at their tips
unfoldable pub guarded_by : List Event → ℕ → List Bundle
guarded_by [] g = []
guarded_by (Guards v bundle ∷ events) g = if v == g then bundle ∷ guarded_by events g else guarded_by events g
guarded_by (Releases v c e ∷ events) g =
    if v == g then filter (λ bundle. not (is_bundle c e bundle)) (guarded_by events g) else guarded_by events g
guarded_by (event ∷ events) g = guarded_by events g

-- the numbers of the watchers that guarded something, each as often as it did
unfoldable pub watchers : List Event → List ℕ
watchers [] = []
watchers (Guards v bundle ∷ events) = v ∷ watchers events
watchers (event ∷ events) = watchers events

-- ---- offers

-- whose command it is, a crash and an opening among them
abbrev pub node_in : Event → Option ℕ
node_in (Accepts n bundle) = Some n
node_in (Guards n bundle) = Some n
node_in (Releases n c e) = Some n
node_in (Binds n body) = Some n
node_in (TakesBack n q bundle) = Some n
node_in (Watches n calls) = Some n
node_in (Leaves n call) = Some n
node_in (Seals call) = Some 0
node_in (Other n) = Some n
node_in event = None

-- the event is a command of node n
abbrev pub is_command_of : ℕ → Event → Bool
is_command_of n event = option_map_or (λ m. m == n) (node_in event) false

-- the calls that a node offers by a command
abbrev pub offered : Event → List RootCall
offered (Watches n calls) = calls
offered (Leaves n call) = call ∷ []
offered (Seals call) = call ∷ []
offered event = []

-- the calls that a node offers: those of its last command
unfoldable pub offers_of : List Event → ℕ → List RootCall
offers_of [] n = []
offers_of (event ∷ events) n = if is_command_of n event then offered event else offers_of events n
