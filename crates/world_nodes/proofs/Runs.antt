-- What orders and openings do to the halves of a node, and so to the node.
use Rattle.world_nodes.proofs.Words.{◌≡◌, ◌⊎◌, [], ℕ, Bool, true, false, List, Option, Some, None, refl, sym, ◌∙◌, ap, subst, arith, ForSome, option_map, option_map_or, is_some, common_steps, MemState, NotesState, role_in, leaf_records_in_of, RootCall, wallet_kinds, is_body, watcher_kinds, key_leaves, operator_kinds, WalletState, notes_part, leaves_part, Role, Node, is_wallet_role, wallet_of, Doing, with_record, Given, IsGiven, DidEither, orders_add_one_record, watchers_add_no_leaf, operators_add_no_leaf, NodeOrder, Open, DownNode, WalletDown, WatcherDown, OperatorDown, UpNode, WalletUp, WatcherUp, OperatorUp, Up, Down, Member, fits, is_opening_order, node_does, role_of, EachKeeps, Spells, with_append, with_opening, IsDone, mem_told, mem_plan, mem_faults, NoneListed, Half, Halves, half_of, kept_of, kept_half, NoneListedOf, bare_node, down_kind, down_halves, up_kind, up_halves, up_hash, up_closed, Opens, UpDid, member_kind, view_in, IsOf, IsWhole}
use Rattle.world_nodes.proofs.Halves.{HalfRan, half_stays, half_ran, stays_open, HalfOpened, half_opened, opened_listed, role_reads, leaf_reads}
use Rattle.world_nodes.proofs.Members.{stays_of}

-- ---- what both halves keep

-- each image of a crash of either disk keeps its records
pub record KeepsAll (halves : Halves) : Type 0 where
  pub notes : EachKeeps halves.notes.records halves.notes.disk.history
  pub leaves : ForSome halves.leaves (λ half. EachKeeps half.records half.disk.history)

all_keep : (leaves : Option Half)
    → ForSome (option_map (λ (half : Half). half.disk.history) leaves)
    (EachKeeps (option_map_or (λ (half : Half). half.records) leaves []))
    → ForSome leaves (λ half. EachKeeps half.records half.disk.history)
all_keep leaves keeps = grind (arith, common_steps) steps 20000

each_keeps : (leaves : Option Half) → ForSome leaves (λ half. EachKeeps half.records half.disk.history)
    → ForSome (option_map (λ (half : Half). half.disk.history) leaves)
    (EachKeeps (option_map_or (λ (half : Half). half.records) leaves []))
each_keeps leaves keeps = grind (arith, common_steps) steps 20000

-- wallets alone have leaves, and so a disk of them
abbrev pub HaveLeaves : Role → Halves → Type 0
HaveLeaves role halves = is_some halves.leaves ≡ is_wallet_role role

disk_there : (leaves : Option Half) → is_some (option_map (λ (half : Half). half.disk.history) leaves) ≡ is_some leaves
disk_there None = refl
disk_there (Some leaves) = refl

up_leaves : {H : Type 0} (node : UpNode H) → HaveLeaves (role_of (up_kind node)) (up_halves node)
up_leaves node = grind (arith, common_steps) steps 20000

down_leaves : (down : DownNode) → HaveLeaves (role_of (down_kind down)) (down_halves down)
down_leaves down = grind (arith, common_steps) steps 20000

-- so it is of an entry that is whole
pub up_has : {H : Type 0} (hash : H) (member : Member) (node : UpNode H) → IsWhole hash member (Up node)
    → HaveLeaves (role_of (member_kind member)) (up_halves node)
up_has hash member node whole =
    subst (λ k. HaveLeaves (role_of k) (up_halves node)) whole.is_site.0 (up_leaves node)

pub down_has : {H : Type 0} (hash : H) (member : Member) (down : DownNode) → IsWhole hash member (Down down)
    → HaveLeaves (role_of (member_kind member)) (down_halves down)
down_has hash member down whole =
    subst (λ k. HaveLeaves (role_of k) (down_halves down)) whole.is_site (down_leaves down)

-- over the parts of a node that stay
module _ {H : Type 0} (hash : H) (name : List ℕ) (account : ℕ) (role : Role) where
  pub view_keeps : (is_up : Bool) (halves : Halves) (offers : List RootCall)
      → Spells (view_in hash name account role is_up halves offers) → KeepsAll halves
  view_keeps is_up halves offers spells =
      record { notes = spells.notes; leaves = all_keep halves.leaves spells.leaves }

  pub keeps_view : (is_up : Bool) (halves : Halves) (offers : List RootCall) → HaveLeaves role halves → KeepsAll halves
      → Spells (view_in hash name account role is_up halves offers)
  keeps_view is_up halves offers has keeps = record {
    notes = keeps.notes;
    has_leaves = disk_there halves.leaves ∙ has;
    leaves = each_keeps halves.leaves keeps.leaves;
  }

-- ---- orders

-- both leaves are there, and this holds of them; or none is, and no leaf's record is added
abbrev pub LeavesRan : Option (List ℕ) → Option Half → Option Half → Type 0
LeavesRan added None None = added ≡ None
LeavesRan added (Some old) (Some new) = HalfRan added old new
LeavesRan added old new = ⊥

-- what a deed did to both halves
pub record HalvesRan (deed : Doing) (old new : Halves) : Type 0 where
  pub notes : HalfRan deed.note old.notes new.notes
  pub leaves : LeavesRan deed.leaf old.leaves new.leaves

-- what it did to a node that is up
pub record UpRan {H : Type 0} (deed : Doing) (old new : UpNode H) : Type 0 where
  pub kind : up_kind new ≡ up_kind old
  pub hash : up_hash new ≡ up_hash old
  pub open' : up_closed new ≡ false
  pub halves : HalvesRan deed (up_halves old) (up_halves new)

-- a wallet's deed adds one record at most, and another node's no leaf
abbrev pub AddsFew : {H : Type 0} → Doing → UpNode H → Type 0
AddsFew deed (WalletUp node) = (deed.note ≡ None) ⊎ (deed.leaf ≡ None)
AddsFew deed node = deed.leaf ≡ None

pub adds_few : {H : Type 0} (dig : List ℕ → List ℕ) (log : List RootCall) (bare : Node) (node : UpNode H)
    (order : NodeOrder) → fits (role_of (up_kind node)) order ≡ true → is_opening_order order ≡ false
    → AddsFew (node_does dig log bare order) node
adds_few dig log bare node order fit command =
    grind (arith, common_steps, orders_add_one_record, watchers_add_no_leaf, operators_add_no_leaf) steps 20000

-- what an order does is a matter of the records alone, but for an opening
pub same_deed : (dig : List ℕ → List ℕ) (log : List RootCall) (node other : Node) (order : NodeOrder)
    → wallet_of node ≡ wallet_of other → is_opening_order order ≡ false
    → node_does dig log node order ≡ node_does dig log other order
same_deed dig log node other order same command = grind (arith, common_steps) steps 20000

-- a wallet's part of it, by the records that are added
wallet_ran : {H : Type 0} (note leaf : Option (List ℕ)) (old new : WalletState MemState H)
    → (note ≡ None) ⊎ (leaf ≡ None) → DidEither mem_told mem_plan mem_faults leaf note old None new
    → HalfRan note (half_of (notes_part old)) (half_of (notes_part new))
    × HalfRan leaf (half_of (leaves_part old)) (half_of (leaves_part new))
    × (new.closed ≡ false) × (new.hash ≡ old.hash)
wallet_ran added None old new one did = (
  half_ran added (notes_part old) (notes_part new) did.did,
  half_stays (half_of (leaves_part old)) (half_of (leaves_part new)) did.disk did.leaves,
  stays_open added (notes_part old) (notes_part new) did.did,
  did.hash,
)
wallet_ran added (Some leaf) old new one did = (
  grind (arith, common_steps, half_stays) steps 20000,
  half_ran (Some leaf) (leaves_part old) (leaves_part new) did.did,
  stays_open (Some leaf) (leaves_part old) (leaves_part new) did.did,
  did.hash,
)

pub up_ran : {H : Type 0} (deed : Doing) (old new : UpNode H) → AddsFew deed old → UpDid deed old None new
    → UpRan deed old new
up_ran deed (WalletUp old) (WalletUp new) few did =
    let ran = wallet_ran deed.note deed.leaf old new few did in
    record { kind = refl; hash = ran.3; open' = ran.2; halves = record { notes = ran.0; leaves = ran.1 } }
up_ran deed (WatcherUp old) (WatcherUp new) few did = record {
  kind = refl;
  hash = did.1;
  open' = stays_open deed.note old.notes new.notes did.0;
  halves = record { notes = half_ran deed.note old.notes new.notes did.0; leaves = few };
}
up_ran deed (OperatorUp old) (OperatorUp new) few did = record {
  kind = refl;
  hash = did.1;
  open' = stays_open deed.note old.notes new.notes did.0;
  halves = record { notes = half_ran deed.note old.notes new.notes did.0; leaves = few };
}
up_ran deed (WalletUp old) (WatcherUp new) few did = absurd did
up_ran deed (WalletUp old) (OperatorUp new) few did = absurd did
up_ran deed (WatcherUp old) (WalletUp new) few did = absurd did
up_ran deed (WatcherUp old) (OperatorUp new) few did = absurd did
up_ran deed (OperatorUp old) (WalletUp new) few did = absurd did
up_ran deed (OperatorUp old) (WatcherUp new) few did = absurd did

-- the leaves after it: their records, what their disk tells, what it keeps, and that none is listed
leaves_records : (added : Option (List ℕ)) (old new : Option Half) → LeavesRan added old new
    → option_map_or (λ (half : Half). half.records) new []
    ≡ with_record (option_map_or (λ (half : Half). half.records) old []) added
leaves_records added old new ran = grind (arith, common_steps) steps 20000

leaves_told : (added : Option (List ℕ)) (old new : Option Half) → LeavesRan added old new
    → option_map (λ (half : Half). half.disk.history) new
    ≡ option_map (with_append (option_map_or (λ (half : Half). half.records) old []) added)
    (option_map (λ (half : Half). half.disk.history) old)
leaves_told added None None ran = refl
leaves_told added (Some old) (Some new) ran = ap Some ran.told
leaves_told added None (Some new) ran = absurd ran
leaves_told added (Some old) None ran = absurd ran

leaves_keep : (added : Option (List ℕ)) (old new : Option Half) → LeavesRan added old new
    → ForSome old (λ half. EachKeeps half.records half.disk.history)
    → ForSome new (λ half. EachKeeps half.records half.disk.history)
leaves_keep added None None ran keeps = λ half is. absurd (cc is)
leaves_keep added (Some old) (Some new) ran keeps = λ half is.
    (let same : new ≡ half = cc is in
    subst (λ (h : Half). EachKeeps h.records h.disk.history) same (ran.keeps (keeps old refl)))
leaves_keep added None (Some new) ran keeps = absurd ran
leaves_keep added (Some old) None ran keeps = absurd ran

leaves_listed : (added : Option (List ℕ)) (old new : Option Half) → LeavesRan added old new
    → ForSome old (λ half. NoneListed half.disk) → ForSome new (λ half. NoneListed half.disk)
leaves_listed added old new ran none = grind (arith, common_steps) steps 20000

pub ran_keeps : (deed : Doing) (old new : Halves) → HalvesRan deed old new → KeepsAll old → KeepsAll new
ran_keeps deed old new ran keeps = record {
  notes = ran.notes.keeps keeps.notes;
  leaves = leaves_keep deed.leaf old.leaves new.leaves ran.leaves keeps.leaves;
}

-- a node's order is done, which is up
pub done : {H : Type 0} (hash : H) (name : List ℕ) (account : ℕ) (role : Role) (old new : Halves)
    (offers : List RootCall) (order : NodeOrder) (deed : Doing) (given : Given) → HalvesRan deed old new
    → IsGiven deed.response given
    → IsDone order deed (view_in hash name account role true old offers) given
    (view_in hash name account role true new deed.response.offers)
done hash name account role old new offers order deed given ran gives =
    grind (arith, common_steps, leaves_records, leaves_told) steps 20000

pub whole_ran : {H : Type 0} (hash : H) (member : Member) (deed : Doing) (old new : UpNode H)
    → IsWhole hash member (Up old) → UpRan deed old new → IsWhole hash member (Up new)
whole_ran hash member deed old new whole ran = record {
  is_site = (ran.kind ∙ whole.is_site.0, ran.hash ∙ whole.is_site.1, ran.open');
  none_listed = record {
    notes = ran.halves.notes.listed whole.none_listed.notes;
    leaves = leaves_listed deed.leaf (up_halves old).leaves (up_halves new).leaves ran.halves.leaves
        whole.none_listed.leaves;
  };
  identity = grind (arith, common_steps, stays_of) steps 20000;
}

-- ---- openings

-- what an opening did to one half
pub record OpensHalf (old new : Half) : Type 0 where
  pub records : new.records ≡ old.records
  pub told : new.disk.history ≡ with_opening old.disk.history
  pub keeps : EachKeeps new.records new.disk.history
  pub listed : NoneListed old.disk → NoneListed new.disk

pub opens_half : (old : MemState) (new : NotesState MemState) → HalfOpened (kept_of old.history) old new
    → OpensHalf (kept_half old) (half_of new)
opens_half old new opened = record {
  records = opened.records_are;
  told = opened.told;
  keeps = grind (arith, common_steps) steps 20000;
  listed = opened_listed (kept_of old.history) old new opened;
}

abbrev pub LeavesOpened : Option Half → Option Half → Type 0
LeavesOpened None None = Unit {0}
LeavesOpened (Some old) (Some new) = OpensHalf old new
LeavesOpened old new = ⊥

-- what it did to a node
pub record UpOpened {H : Type 0} (down : DownNode) (up : UpNode H) : Type 0 where
  pub kind : up_kind up ≡ down_kind down
  pub open' : up_closed up ≡ false
  pub notes : OpensHalf (down_halves down).notes (up_halves up).notes
  pub leaves : LeavesOpened (down_halves down).leaves (up_halves up).leaves

pub up_opened : {H : Type 0} (dig : List ℕ → List ℕ) (down : DownNode) (up : UpNode H) → Opens dig down up
    → KeepsAll (down_halves down) → UpOpened down up
up_opened dig (WalletDown notes leaves key) (WalletUp node) opens keeps =
    let first = half_opened (role_in (wallet_kinds dig)) (role_reads (wallet_kinds dig)) (kept_of notes.history) notes
    (notes_part node) opens.opens_notes keeps.notes in
    let second = half_opened (leaf_records_in_of is_body (key_leaves node.records.notes))
    (leaf_reads is_body (key_leaves node.records.notes)) (kept_of leaves.history) leaves (leaves_part node)
    opens.opens_leaves (keeps.leaves (kept_half leaves) refl) in
    record {
      kind = refl;
      open' = first.is_open;
      notes = opens_half notes (notes_part node) first;
      leaves = opens_half leaves (leaves_part node) second;
    }
up_opened dig (WatcherDown notes) (WatcherUp node) opens keeps =
    let first = half_opened (role_in (watcher_kinds dig)) (role_reads (watcher_kinds dig)) (kept_of notes.history)
    notes node.notes opens keeps.notes in
    record { kind = refl; open' = first.is_open; notes = opens_half notes node.notes first; leaves = tt }
up_opened dig (OperatorDown notes) (OperatorUp node) opens keeps =
    let first = half_opened (role_in operator_kinds) (role_reads operator_kinds) (kept_of notes.history)
    notes node.notes opens keeps.notes in
    record { kind = refl; open' = first.is_open; notes = opens_half notes node.notes first; leaves = tt }
up_opened dig (WalletDown notes leaves key) (WatcherUp node) opens keeps = absurd opens
up_opened dig (WalletDown notes leaves key) (OperatorUp node) opens keeps = absurd opens
up_opened dig (WatcherDown notes) (WalletUp node) opens keeps = absurd opens
up_opened dig (WatcherDown notes) (OperatorUp node) opens keeps = absurd opens
up_opened dig (OperatorDown notes) (WalletUp node) opens keeps = absurd opens
up_opened dig (OperatorDown notes) (WatcherUp node) opens keeps = absurd opens

opened_records : (old new : Option Half) → LeavesOpened old new
    → option_map_or (λ (half : Half). half.records) new [] ≡ option_map_or (λ (half : Half). half.records) old []
opened_records old new opened = grind (arith, common_steps) steps 20000

pub opened_told : (old new : Option Half) → LeavesOpened old new
    → option_map (λ (half : Half). half.disk.history) new
    ≡ option_map with_opening (option_map (λ (half : Half). half.disk.history) old)
opened_told old new opened = grind (arith, common_steps) steps 20000

opened_keep : (old new : Option Half) → LeavesOpened old new
    → ForSome new (λ half. EachKeeps half.records half.disk.history)
opened_keep None None opened = λ half is. absurd (cc is)
opened_keep (Some old) (Some new) opened = λ half is.
    (let same : new ≡ half = cc is in subst (λ (h : Half). EachKeeps h.records h.disk.history) same opened.keeps)
opened_keep None (Some new) opened = absurd opened
opened_keep (Some old) None opened = absurd opened

leaves_none : (old new : Option Half) → LeavesOpened old new → ForSome old (λ half. NoneListed half.disk)
    → ForSome new (λ half. NoneListed half.disk)
leaves_none old new opened none = grind (arith, common_steps) steps 20000

pub opened_keeps : {H : Type 0} (down : DownNode) (up : UpNode H) → UpOpened down up → KeepsAll (up_halves up)
opened_keeps down up opened = record {
  notes = opened.notes.keeps;
  leaves = opened_keep (down_halves down).leaves (up_halves up).leaves opened.leaves;
}

pub opened_none : {H : Type 0} (down : DownNode) (up : UpNode H) → UpOpened down up → NoneListedOf (down_halves down)
    → NoneListedOf (up_halves up)
opened_none down up opened none = record {
  notes = opened.notes.listed none.notes;
  leaves = leaves_none (down_halves down).leaves (up_halves up).leaves opened.leaves none.leaves;
}

-- its records are those that the disks kept
pub opened_same : {H : Type 0} (down : DownNode) (up : UpNode H) → UpOpened down up
    → wallet_of (bare_node (up_halves up)) ≡ wallet_of (bare_node (down_halves down))
opened_same down up opened = grind (arith, common_steps, opened_records) steps 20000

pub whole_opened : {H : Type 0} (hash : H) (member : Member) (down : DownNode) (up : UpNode H)
    → IsWhole hash member (Down down) → UpOpened down up → up_hash up ≡ hash → IsWhole hash member (Up up)
whole_opened hash member down up whole opened same = record {
  is_site = (opened.kind ∙ whole.is_site, same, opened.open');
  none_listed = record {
    notes = opened.notes.listed whole.none_listed.notes;
    leaves = leaves_none (down_halves down).leaves (up_halves up).leaves opened.leaves whole.none_listed.leaves;
  };
  identity = subst (IsOf member) (sym opened.notes.records) whole.identity;
}

-- an opening is done of a node that was down
pub opening_done : {H : Type 0} (dig : List ℕ → List ℕ) (log : List RootCall) (hash : H) (name : List ℕ)
    (account : ℕ) (role : Role) (down : DownNode) (up : UpNode H) (offers : List RootCall) (given : Given)
    → UpOpened down up
    → (let old = view_in hash name account role false (down_halves down) offers in
    IsGiven (node_does dig log old.node Open).response given
    → IsDone Open (node_does dig log old.node Open) old given
    (view_in hash name account role true (up_halves up) []))
opening_done dig log hash name account role down up offers given opened gives =
    grind (arith, common_steps, opened_records, opened_told) steps 20000
