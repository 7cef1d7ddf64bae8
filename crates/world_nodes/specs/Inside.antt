-- What a node of a world is made of, and what its parts do.
use Rattle.std.specs.Prelude.{◌≡◌, ◌⊎◌, ◌-◌, ℕ, Bool, true, false, nat_lt, List, [], ◌∷◌, length, slice_get, Option, Some, None, unwrap_or, option_map}
use Rattle.std.specs.Option.{IfSome, ForSome, option_map_or, option_or, is_some}
use Rattle.crash_disk.specs.{Disk.{History, fresh_history, content, FaultPlan}, Memory.{MemState, plan_of, after_crash}, Outcomes.{image_after}, declared.outcome.Outcome.{Outcome}}
use Rattle.gate_journal.specs.{Image.{kept_records}, declared.refusal.JournalRefusal.{JournalRefusal}, declared.refusal.JournalRefusal.TheVariants.{DeviceFault as JournalFault, NoMemory as JournalNoMemory}}
use Rattle.node_journal.specs.{Notes.{NotesState, Did, Opened, RefusesRole}, Parts.{Parts}, Role.{role_in}, declared.stop.Stop.{Stop}, declared.stop.Stop.TheVariants.{DeviceFault, NoMemory}}
use Rattle.plasma_tx.specs.{declared.call.RootCall.{RootCall}, declared.owner.Owner.{Owner}}
use Rattle.node_rules.specs.{declared.identity.WalletIdentity.{WalletIdentity}, WalletRecords.{identity_text, owner_of, secret_of, who_is}, Watcher.{watcher_kinds}, Wallet.{WalletRecords}}
use Rattle.operator_rules.specs.Records.{operator_kinds}
use Rattle.wallet_node.specs.{State.{notes_part, leaves_part}, Opening.{OpensWallet, RefusesWallet}}
use Rattle.world_rules.specs.{World.{Role, Watcher, Node}, Orders.{node_does}}
use Rattle.leaf_journal.specs.Records.{messages_of}
use Rattle.node_replies.specs.{declared.reply.Reply.{Reply}, declared.given.Given.{Given}, Given.{IsGiven}, Orders.{Response, Doing, says}, declared.order.NodeOrder.{NodeOrder}}
use Rattle.node_deeds.specs.WalletOrders.{Does}
use Rattle.world_nodes.specs.{declared.order.NodeKind.{NodeKind}, declared.order.NodeKind.TheVariants.{Wallet as WalletKind, Watcher as WatcherKind, Operator as OperatorKind}, declared.order.CutEnd.{CutEnd}}
use Rattle.world_nodes.specs.{declared.order.CutEnd.TheVariants.{Down as CutDown, Stopped as CutStopped, Done as CutDone}, declared.kept.Counts.{Counts}, declared.down.DownNode.{DownNode}}
use Rattle.world_nodes.specs.{declared.down.DownNode.TheVariants.{Wallet as WalletDown, Watcher as WatcherDown, Operator as OperatorDown}, declared.up.UpNode.{UpNode}}
use Rattle.world_nodes.specs.{declared.up.UpNode.TheVariants.{Wallet as WalletUp, Watcher as WatcherUp, Operator as OperatorUp}, declared.entry.Site.{Site}, declared.entry.Site.TheVariants.{Up, Down, Gone}, declared.entry.Member.{Member}}
use Rattle.world_nodes.specs.{declared.entry.Member.TheVariants.{Wallet as WalletMember, Watcher as WatcherMember, Operator as OperatorMember}, Nodes.{NodeView, EachKeeps, role_of, AreOf}}

-- ---- disks in memory

-- what a disk in memory tells, foretells and counts
abbrev pub mem_told : MemState → Option History
mem_told disk = Some disk.history

abbrev pub mem_plan : MemState → Option FaultPlan
mem_plan disk = Some (plan_of disk)

abbrev pub mem_faults : MemState → ℕ
mem_faults disk = disk.faults

-- no call to come is listed as one that fails
pub record NoneListed (disk : MemState) : Type 0 where
  pub listed : (n : ℕ) → (plan_of disk).listed n ≡ false

-- no fuse lets calls to come fail
abbrev pub HasNoFuse : MemState → Type 0
HasNoFuse disk = disk.fuse ≡ None

-- the disk holds a journal
abbrev pub HasJournal : MemState → Type 0
HasJournal disk = is_some (kept_records (content disk.history)) ≡ true

-- the records that a disk holds
abbrev pub kept_of : History → List (List ℕ)
kept_of disk = unwrap_or (kept_records (content disk)) []

-- the disk after a crash with this outcome
abbrev pub crashed : Outcome → MemState → MemState
crashed outcome disk = after_crash (image_after outcome disk.history) disk

-- ---- halves

-- one disk of a node, and the records that it has there
pub record Half : Type 0 where
  pub disk : MemState
  pub records : List (List ℕ)

-- those of a node: wallets alone have leaves
abbrev pub Halves : Type 0
Halves = Parts Half

-- the half of a journal that is open
abbrev pub half_of : NotesState MemState → Half
half_of notes = record { disk = notes.disk; records = notes.records }

-- the half of a disk whose node is down
abbrev pub kept_half : MemState → Half
kept_half disk = record { disk = disk; records = kept_of disk.history }

-- no call to come of either is listed
pub record NoneListedOf (halves : Halves) : Type 0 where
  pub notes : NoneListed halves.notes.disk
  pub leaves : ForSome halves.leaves (λ half. NoneListed half.disk)

-- so it is of each disk
pub record OfDisks (P : MemState → Type 0) (halves : Halves) : Type 0 where
  pub notes : P halves.notes.disk
  pub leaves : ForSome halves.leaves (λ half. P half.disk)

abbrev pub NoFuses : Halves → Type 0
NoFuses halves = OfDisks HasNoFuse halves

abbrev pub HaveJournals : Halves → Type 0
HaveJournals halves = OfDisks HasJournal halves

-- the records of its leaves
abbrev pub leaves_of : Halves → List (List ℕ)
leaves_of halves = option_map_or (λ half. half.records) halves.leaves []

-- its records
abbrev pub records_in : Halves → WalletRecords
records_in halves = record { notes = halves.notes.records; leaves = leaves_of halves }

-- a node with these records, of which nothing else is known
abbrev pub bare_node : Halves → Node
bare_node halves = record {
  name = [];
  account = 0;
  role = Watcher;
  is_up = true;
  notes = halves.notes.records;
  leaves = leaves_of halves;
  offers = [];
}

-- ---- nodes that are down

abbrev pub down_kind : DownNode → NodeKind
down_kind (WalletDown notes leaves key) = WalletKind
down_kind (WatcherDown notes) = WatcherKind
down_kind (OperatorDown notes) = OperatorKind

abbrev pub down_halves : DownNode → Halves
down_halves (WalletDown notes leaves key) = record { notes = kept_half notes; leaves = Some (kept_half leaves) }
down_halves (WatcherDown notes) = record { notes = kept_half notes; leaves = None }
down_halves (OperatorDown notes) = record { notes = kept_half notes; leaves = None }

-- each disk changed so
abbrev pub with_disks : (MemState → MemState) → DownNode → DownNode
with_disks change (WalletDown notes leaves key) = WalletDown (change notes) (change leaves) key
with_disks change (WatcherDown notes) = WatcherDown (change notes)
with_disks change (OperatorDown notes) = OperatorDown (change notes)

-- ---- nodes that are up

abbrev pub up_kind : {H : Type 0} → UpNode H → NodeKind
up_kind (WalletUp node) = WalletKind
up_kind (WatcherUp node) = WatcherKind
up_kind (OperatorUp node) = OperatorKind

abbrev pub up_halves : {H : Type 0} → UpNode H → Halves
up_halves (WalletUp node) =
    record { notes = half_of (notes_part node); leaves = Some (half_of (leaves_part node)) }
up_halves (WatcherUp node) = record { notes = half_of node.notes; leaves = None }
up_halves (OperatorUp node) = record { notes = half_of node.notes; leaves = None }

abbrev pub up_hash : {H : Type 0} → UpNode H → H
up_hash (WalletUp node) = node.hash
up_hash (WatcherUp node) = node.hash
up_hash (OperatorUp node) = node.hash

-- a device fault closed it
abbrev pub up_closed : {H : Type 0} → UpNode H → Bool
up_closed (WalletUp node) = node.closed
up_closed (WatcherUp node) = node.notes.closed
up_closed (OperatorUp node) = node.notes.closed

-- the node without its memory: its disks, and a wallet's key
abbrev pub taken_down : {H : Type 0} → UpNode H → DownNode
taken_down (WalletUp node) = WalletDown node.notes_disk node.leaves_disk (secret_of (who_is node.records.notes))
taken_down (WatcherUp node) = WatcherDown node.notes.disk
taken_down (OperatorUp node) = OperatorDown node.notes.disk

-- an opening of a node's disks that went through
abbrev pub Opens : {H : Type 0} → (List ℕ → List ℕ) → DownNode → UpNode H → Type 0
Opens dig (WalletDown notes leaves key) (WalletUp node) =
    OpensWallet mem_told mem_plan mem_faults dig notes leaves node
Opens dig (WatcherDown notes) (WatcherUp node) =
    Opened mem_told mem_plan mem_faults (role_in (watcher_kinds dig)) notes node.notes
Opens dig (OperatorDown notes) (OperatorUp node) =
    Opened mem_told mem_plan mem_faults (role_in operator_kinds) notes node.notes
Opens dig down up = ⊥

-- an opening of a node's disks that was refused
abbrev pub RefusesDown : (List ℕ → List ℕ) → DownNode → JournalRefusal → DownNode → Type 0
RefusesDown dig (WalletDown notes leaves key) why (WalletDown new_notes new_leaves new_key) =
    RefusesWallet mem_told mem_plan mem_faults dig notes leaves why new_notes new_leaves
RefusesDown dig (WatcherDown notes) why (WatcherDown new) =
    RefusesRole mem_told mem_plan mem_faults (role_in (watcher_kinds dig)) notes why new
RefusesDown dig (OperatorDown notes) why (OperatorDown new) =
    RefusesRole mem_told mem_plan mem_faults (role_in operator_kinds) notes why new
RefusesDown dig down why new = ⊥

-- an opening of its disks is refused for want of memory alone
abbrev pub MayOpen : (List ℕ → List ℕ) → DownNode → Type 0
MayOpen dig down =
    (why : JournalRefusal) (left : DownNode) → RefusesDown dig down why left → why ≡ JournalNoMemory

-- it meets a device fault, unless memory runs out
pub record IsToStop (H : Type 0) (dig : List ℕ → List ℕ) (down : DownNode) : Type 0 where
  pub opens : (up : UpNode H) → Opens dig down up → ⊥
  pub refused : (why : JournalRefusal) (left : DownNode) → RefusesDown dig down why left
      → (why ≡ JournalFault) ⊎ (why ≡ JournalNoMemory)

-- what an order did to a node that is up, by its doing, and that was stopped so, or not
abbrev pub UpDid : {H : Type 0} → Doing → UpNode H → Option Stop → UpNode H → Type 0
UpDid doing (WalletUp old) stop (WalletUp new) = Does mem_told mem_plan mem_faults doing old stop new
UpDid doing (WatcherUp old) stop (WatcherUp new) =
    Did mem_told mem_plan mem_faults doing.note old.notes stop new.notes × (new.hash ≡ old.hash)
UpDid doing (OperatorUp old) stop (OperatorUp new) =
    Did mem_told mem_plan mem_faults doing.note old.notes stop new.notes × (new.hash ≡ old.hash)
UpDid doing old stop new = ⊥

-- memory alone stops an order of the node
abbrev pub RunsOn : {H : Type 0} → UpNode H → Type 0
RunsOn {H} node = (doing : Doing) (stop : Stop) (new : UpNode H) → UpDid doing node (Some stop) new → stop ≡ NoMemory

-- ---- what is taken from a site

-- the disks of a node that was up, or down
abbrev pub IsDownOf : {H : Type 0} → Site H → DownNode → Type 0
IsDownOf (Up node) down = down ≡ taken_down node
IsDownOf (Down old) down = down ≡ old
IsDownOf Gone down = ⊥

-- the site isn't lost
abbrev pub IsThere : {H : Type 0} → Site H → Type 0
IsThere Gone = ⊥
IsThere site = Unit {0}

-- an order was run on disks that were opened, and ended so: what it gave, or that a device fault stopped it
abbrev pub stop_in : Option Given → Option Stop
stop_in None = Some DeviceFault
stop_in (Some given) = None

pub record IsCutShort (H : Type 0) (dig : List ℕ → List ℕ) (log : List RootCall) (order : NodeOrder)
    (old : DownNode) (given : Option Given) (new : DownNode) : Type 0 where
  pub opened : UpNode H
  pub ran : UpNode H
  pub opens : Opens dig old opened
  pub did : UpDid (node_does dig log (bare_node (up_halves opened)) order) opened (stop_in given) ran
  pub gives : IfSome given (IsGiven (node_does dig log (bare_node (up_halves opened)) order).response)
  pub down : new ≡ taken_down ran

-- what an opening gives out of a node with these halves
abbrev pub opening_gives : Halves → Response
opening_gives halves =
    says (Reply.Opened (length halves.notes.records - 1) (length (messages_of (leaves_of halves))))

-- an opening was run on disks that let so many calls pass, and ended so
abbrev pub IsCutOpening : (H : Type 0) → (List ℕ → List ℕ) → ℕ → DownNode → CutEnd → DownNode → Type 0
IsCutOpening H dig calls old CutDown new = ⊥
IsCutOpening H dig calls old (CutStopped kept) new =
    (nat_lt calls 3 ≡ true) × (kept ≡ None) × RefusesDown dig old JournalFault new
IsCutOpening H dig calls old (CutDone given) new =
    (nat_lt calls 3 ≡ false)
    × ((up : UpNode H) × Opens dig old up × (new ≡ taken_down up) × IsGiven (opening_gives (up_halves up)) given)

-- how many records the halves have
abbrev pub counts_of : Halves → Counts
counts_of halves = record { notes = length halves.notes.records; leaves = length (leaves_of halves) }

-- the record that they have behind so many, of the notes or else of the leaves
abbrev pub kept_behind : Counts → Halves → Option (List ℕ)
kept_behind before halves =
    option_or (slice_get halves.notes.records before.notes) (slice_get (leaves_of halves) before.leaves)

-- how an order ended that gave this, or was stopped, and that left these halves
abbrev pub end_in : Counts → Halves → Option Given → CutEnd
end_in before halves (Some given) = CutDone given
end_in before halves None = CutStopped (kept_behind before halves)

-- ---- entries

abbrev pub member_kind : Member → NodeKind
member_kind (WalletMember who owner) = WalletKind
member_kind WatcherMember = WatcherKind
member_kind OperatorMember = OperatorKind

-- a disk that holds nothing
abbrev pub empty_disk : MemState
empty_disk = record {
  history = fresh_history [];
  fails = [];
  made = 0;
  fuse = None;
  faults = 0;
  room = record { calls = 0; bytes = 0 };
}

-- a half of a node that is lost, of whose disk nothing is known
abbrev pub no_half : List (List ℕ) → Half
no_half records = record { disk = empty_disk; records = records }

abbrev pub lost_halves : Member → Halves
lost_halves (WalletMember who owner) =
    record { notes = no_half (identity_text who ∷ []); leaves = Some (no_half []) }
lost_halves member = record { notes = no_half []; leaves = None }

abbrev pub is_up : {H : Type 0} → Site H → Bool
is_up (Up node) = true
is_up site = false

abbrev pub halves_of : {H : Type 0} → Member → Site H → Halves
halves_of member (Up node) = up_halves node
halves_of member (Down node) = down_halves node
halves_of member Gone = lost_halves member

-- the node of an entry, by its halves
abbrev pub view_in : {H : Type 0} → H → List ℕ → ℕ → Role → Bool → Halves → List RootCall → NodeView H
view_in hash name account role is_up halves offers = record {
  node = record {
    name = name;
    account = account;
    role = role;
    is_up = is_up;
    notes = halves.notes.records;
    leaves = leaves_of halves;
    offers = offers;
  };
  notes_disk = halves.notes.disk.history;
  leaves_disk = option_map (λ half. half.disk.history) halves.leaves;
  hash = hash;
}

abbrev pub view_of : {H : Type 0} → H → List ℕ → ℕ → Member → Site H → List RootCall → NodeView H
view_of hash name account member site offers =
    view_in hash name account (role_of (member_kind member)) (is_up site) (halves_of member site) offers

-- the node is of the kind; one that is up was opened with the digest and is open
abbrev pub IsSite : {H : Type 0} → H → NodeKind → Site H → Type 0
IsSite hash kind (Up node) = (up_kind node ≡ kind) × (up_hash node ≡ hash) × (up_closed node ≡ false)
IsSite hash kind (Down node) = down_kind node ≡ kind
IsSite hash kind Gone = Unit {0}

-- the notes begin with this identity, which is read as it and is this owner's
pub record IsWho (who : WalletIdentity) (owner : Owner) (notes : List (List ℕ)) : Type 0 where
  pub reads : who_is (identity_text who ∷ []) ≡ who
  pub owns : owner ≡ owner_of who
  pub others : List (List ℕ)
  pub first : notes ≡ identity_text who ∷ others

abbrev pub IsOf : Member → List (List ℕ) → Type 0
IsOf (WalletMember who owner) notes = IsWho who owner notes
IsOf member notes = Unit {0}

-- what holds of every entry
pub record IsWhole {H : Type 0} (hash : H) (member : Member) (site : Site H) : Type 0 where
  pub is_site : IsSite hash (member_kind member) site
  pub none_listed : NoneListedOf (halves_of member site)
  pub identity : IsOf member (halves_of member site).notes.records

-- its disks have no fuse, and what a node keeps that is down is of its role
abbrev pub IsReady : {H : Type 0} → (List ℕ → List ℕ) → Role → Site H → Type 0
IsReady dig role (Up node) = NoFuses (up_halves node)
IsReady dig role (Down down) = NoFuses (down_halves down) × AreOf dig role (records_in (down_halves down))
IsReady dig role Gone = Unit {0}

-- both
abbrev pub IsEntry : {H : Type 0} → (H → List ℕ → List ℕ) → H → Member → Site H → Type 0
IsEntry digest hash member site =
    IsWhole hash member site × IsReady (digest hash) (role_of (member_kind member)) site

-- ---- declarations

-- a disk that keeps these records and foretells no fault of a list
pub record IsBegun (records : List (List ℕ)) (half : Half) : Type 0 where
  pub records_are : half.records ≡ records
  pub keeps : EachKeeps records half.disk.history
  pub listed : NoneListed half.disk

-- disks that keep this identity alone
pub record AreBegun (identity : List ℕ) (down : DownNode) : Type 0 where
  pub notes : IsBegun (identity ∷ []) (down_halves down).notes
  pub leaves : ForSome (down_halves down).leaves (IsBegun [])

-- what the disks of a node that is down tell: of its notes, and of the leaves that it has
abbrev pub notes_told : DownNode → History
notes_told down = (down_halves down).notes.disk.history

abbrev pub leaves_told : DownNode → Option History
leaves_told down = option_map (λ half. half.disk.history) (down_halves down).leaves

-- the first note that the disks keep
abbrev pub first_note : DownNode → List ℕ
first_note down = unwrap_or (slice_get (down_halves down).notes.records 0) []

-- records that are one identity are of the kind, under each digest
abbrev pub IsIdentityOf : NodeKind → List ℕ → Type 0
IsIdentityOf kind identity =
    (dig : List ℕ → List ℕ) → AreOf dig (role_of kind) (record { notes = identity ∷ []; leaves = [] })

-- disks that keep an identity alone, which is the member's
pub record IsDeclared (member : Member) (down : DownNode) : Type 0 where
  pub kind : down_kind down ≡ member_kind member
  pub unfused : NoFuses (down_halves down)
  pub role : IsIdentityOf (member_kind member) (first_note down)
  pub begun : AreBegun (first_note down) down
  pub is_of : IsOf member (first_note down ∷ [])
