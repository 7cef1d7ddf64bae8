-- A node of a world over disks in memory, and what may be said of it: what its disks leave, and what an order, a crash
-- and a declaration do.
use Rattle.std.specs.Prelude.{◌≡◌, ℕ, Bool, true, false, ◌&&◌, not, List, [], length, codes, Option, Some, None, option_map, MatchBool}
use Rattle.std.specs.Option.{ForSome, is_some}
use Rattle.crash_disk.specs.{Disk.{Step, asks_length, History, fresh_history, content, with_call, MayLeave}, Calls.{with_made, passed, after_course}, Outcomes.{image_after}, declared.outcome.Outcome.{Outcome}}
use Rattle.gate_journal.specs.{Image.{spelled}, Steps.{append_steps, open_steps}, Journal.{Keeps}}
use Rattle.node_journal.specs.{Begin.{init_steps, journal_steps}, Role.{are_of}}
use Rattle.plasma_tx.specs.declared.call.RootCall.{RootCall}
use Rattle.node_rules.specs.{declared.identity.WalletIdentity.{WalletIdentity}, WalletRecords.{identity_text as wallet_text}, Watcher.{identity_text as watcher_text, watcher_kinds}, Wallet.{WalletRecords}, WalletOpening.{is_wallet}}
use Rattle.operator_rules.specs.Records.{identity_text as operator_text, operator_kinds}
use Rattle.node_replies.specs.{declared.reply.Reply.{Reply}, declared.given.Given.{Given}, Given.{IsGiven}, Orders.{Doing, says, with_record}, declared.order.NodeOrder.{NodeOrder}}
use Rattle.world_rules.specs.{World.{Role, Wallet, Watcher, Operator, Node, is_wallet_role, wallet_of}, Orders.{node_does}, Steps.{new_node, after_crash}}
use Rattle.world_nodes.specs.{declared.order.NodeKind.{NodeKind}, declared.order.NodeKind.TheVariants.{Wallet as WalletKind, Watcher as WatcherKind, Operator as OperatorKind}, Orders.{is_opening_order}}

-- a node, what the disk of its notes and that of its leaves tell, and the digest that it is opened with; where the
-- disks spell the node's records (Spells), wallets alone have one of leaves
pub record NodeView (H : Type 0) : Type 0 where
  pub node : Node
  pub notes_disk : History
  pub leaves_disk : Option History
  pub hash : H

-- what a node was declared as, which no call changes
pub record Declared : Type 0 where
  pub name : List ℕ
  pub account : ℕ
  pub role : Role

abbrev pub declared_as : Node → Declared
declared_as node = record { name = node.name; account = node.account; role = node.role }

-- the role that a kind of node plays
abbrev pub role_of : NodeKind → Role
role_of WalletKind = Wallet
role_of WatcherKind = Watcher
role_of OperatorKind = Operator

-- each image that a crash now may leave of a disk keeps these records
abbrev pub EachKeeps : List (List ℕ) → History → Type 0
EachKeeps records disk = (image : List ℕ) → MayLeave disk image → Keeps records image

-- Each image that a crash now may leave of the notes' disk keeps the node's notes, and of the leaves' disk its leaves.
-- A wallet has both disks, and another node has its notes' disk alone.
pub record Spells {H : Type 0} (view : NodeView H) : Type 0 where
  pub notes : EachKeeps view.node.notes view.notes_disk
  pub has_leaves : is_some view.leaves_disk ≡ is_wallet_role view.node.role
  pub leaves : ForSome view.leaves_disk (EachKeeps view.node.leaves)

-- the records are of the role
abbrev pub AreOf : (List ℕ → List ℕ) → Role → WalletRecords → Type 0
AreOf dig Wallet records = is_wallet dig records ≡ true
AreOf dig Watcher records = are_of (watcher_kinds dig) records.notes ≡ true
AreOf dig Operator records = are_of operator_kinds records.notes ≡ true

-- the node's records are of its role
abbrev pub IsOfRole : (List ℕ → List ℕ) → Node → Type 0
IsOfRole dig node = AreOf dig node.role (wallet_of node)

-- ---- declarations

-- the nodes that are declared, by who they are
abbrev pub new_wallet : List ℕ → WalletIdentity → Node
new_wallet name who = new_node Wallet name who.account (wallet_text who)

abbrev pub new_watcher : List ℕ → List ℕ → ℕ → Node
new_watcher name tag account =
    new_node Watcher name account (watcher_text (record { tag = tag; account = account }))

abbrev pub new_operator : List ℕ → ℕ → Node
new_operator tag account =
    new_node Operator (codes "op") account (operator_text (record { tag = tag; account = account; key_seed = None }))

-- what a disk tells that held nothing
abbrev pub empty_history : History
empty_history = fresh_history []

-- what a disk tells after the device calls of an init or of the beginning of leaves, all of which passed
abbrev pub with_beginning : (List ℕ → List Step) → History → History
with_beginning steps disk = after_course passed (steps (content disk)) disk

-- what the notes' disk of a watcher or an operator tells that was begun with this identity
abbrev pub begun_alone : List ℕ → History
begun_alone identity = with_beginning (init_steps identity) empty_history

-- what that of a wallet tells: it was asked for its length first, to see where to begin
abbrev pub begun_beside_leaves : List ℕ → History
begun_beside_leaves identity = with_beginning (init_steps identity) (with_call asks_length false empty_history)

-- what the disk of its leaves tells
abbrev pub begun_leaves : History
begun_leaves = with_beginning journal_steps empty_history

-- what a disk tells after an opening
abbrev pub with_opening : History → History
with_opening disk = with_made 3 (open_steps (content disk)) disk

-- the disk of a watcher or an operator that is declared: it held nothing, was begun with this identity, and was opened
pub record DiskBegan {H : Type 0} (identity : List ℕ) (view : NodeView H) : Type 0 where
  pub notes : view.notes_disk ≡ with_opening (begun_alone identity)
  pub leaves : view.leaves_disk ≡ None

-- The disks of a wallet that is declared: they held nothing, were begun with this identity and with no leaf's record,
-- and were opened.
pub record DisksBegan {H : Type 0} (identity : List ℕ) (view : NodeView H) : Type 0 where
  pub notes : view.notes_disk ≡ with_opening (begun_beside_leaves identity)
  pub leaves : view.leaves_disk ≡ Some (with_opening begun_leaves)

-- ---- orders

-- the order opens a node that is down
abbrev pub brings_up : NodeOrder → Node → Bool
brings_up order node = not node.is_up && is_opening_order order

-- the node answers the order as one that is down
abbrev pub answers_down : NodeOrder → Node → Bool
answers_down order node = not node.is_up && not (is_opening_order order)

-- the node with the records that an order adds
abbrev pub with_records : Node → Doing → Node
with_records node doing =
    record node { notes = with_record node.notes doing.note; leaves = with_record node.leaves doing.leaf }

-- the node after an order: it is up, and offers what the order offers
abbrev pub after_order : Node → Doing → Node
after_order node doing = record (with_records node doing) { is_up = true; offers = doing.response.offers }

-- what a disk tells after an append behind these records, if there was one
abbrev pub with_append : List (List ℕ) → Option (List ℕ) → History → History
with_append records None disk = disk
with_append records (Some body) disk = with_made 4 (append_steps (length (spelled records)) body) disk

-- what a disk tells after an order: the calls of an opening, or those of an append, if there was one
abbrev pub disk_after : Bool → List (List ℕ) → Option (List ℕ) → History → History
disk_after true records added disk = with_opening disk
disk_after false records added disk = with_append records added disk

-- an order of a node that is down, other than an opening: it is answered so, and nothing changes
pub record IsDown {H : Type 0} (old : NodeView H) (given : Given) (new : NodeView H) : Type 0 where
  pub gives : IsGiven (says Reply.Down) given
  pub stays : new ≡ old

-- an order was done, and this is what it did
pub record IsDone {H : Type 0} (order : NodeOrder) (doing : Doing) (old : NodeView H) (given : Given) (new : NodeView H)
    : Type 0 where
  pub gives : IsGiven doing.response given
  pub node : new.node ≡ after_order old.node doing
  pub notes_disk : new.notes_disk ≡ disk_after (brings_up order old.node) old.node.notes doing.note old.notes_disk
  pub leaves_disk : new.leaves_disk
      ≡ option_map (disk_after (brings_up order old.node) old.node.leaves doing.leaf) old.leaves_disk
  pub hash : new.hash ≡ old.hash

-- what an order of a node did
abbrev pub Runs : {H : Type 0} → (List ℕ → List ℕ) → List RootCall → NodeOrder → NodeView H → Given → NodeView H
    → Type 0
Runs dig log order old given new =
    MatchBool (answers_down order old.node) (IsDown old given new)
    (IsDone order (node_does dig log old.node order) old given new)

-- ---- crashes

-- what a disk tells after a crash
abbrev pub crashed_disk : Outcome → History → History
crashed_disk outcome disk = fresh_history (image_after outcome disk)

-- a node crashed, and each of its disks with this outcome
pub record Crashes {H : Type 0} (outcome : Outcome) (old new : NodeView H) : Type 0 where
  pub node : new.node ≡ after_crash old.node
  pub notes_disk : new.notes_disk ≡ crashed_disk outcome old.notes_disk
  pub leaves_disk : new.leaves_disk ≡ option_map (crashed_disk outcome) old.leaves_disk
  pub hash : new.hash ≡ old.hash
