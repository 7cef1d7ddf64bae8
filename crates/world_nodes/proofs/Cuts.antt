-- What crashes and cuts leave of the halves of a node, and so of the node.
use Rattle.world_nodes.proofs.Words.{◌≡◌, ◌⊎◌, ◌-◌, [], ℕ, min, Bool, true, false, cond, nat_lt, List, Option, Some, None, inl, inr, refl, sym, ◌∙◌, ap, subst, arith, ◌&&◌, ◌||◌, ForSome, option_map, option_map_or, is_some, common_steps, MemState, with_fuse, HasPattern, Outcome, content_may_be_left, is_added, NotesState, role_in, Stop, leaf_records_in_of, RootCall, wallet_kinds, is_body, watcher_kinds, key_leaves, operator_kinds, WalletState, notes_part, leaves_part, Role, Doing, adds_record, with_record, after_crash, Given, DidEither, DownNode, WalletDown, WatcherDown, OperatorDown, UpNode, WalletUp, WatcherUp, OperatorUp, Site, Down, Member, EachKeeps, Crashes, crashed_disk, IsLeft, mem_told, mem_plan, mem_faults, NoneListed, Half, Halves, kept_of, kept_half, crashed, NoneListedOf, leaves_of, down_kind, down_halves, with_disks, up_kind, up_halves, taken_down, Opens, UpDid, IsDownOf, stop_in, member_kind, halves_of, view_in, IsOf, IsWhole}
use Rattle.world_nodes.proofs.Halves.{HalfOpened, half_opened, role_reads, leaf_reads, kept_left}
use Rattle.world_nodes.proofs.Stops.{same_if, idle, went, met}
use Rattle.world_nodes.proofs.Runs.{KeepsAll, AddsFew}

-- ---- disks without the node's memory

kept_same : (disk : MemState) (records : List (List ℕ)) → EachKeeps records disk.history
    → kept_half disk ≡ record { disk = disk; records = records }
kept_same disk records keeps = grind (arith, common_steps, content_may_be_left) steps 20000

taken_same : {H : Type 0} (node : UpNode H) → KeepsAll (up_halves node)
    → down_halves (taken_down node) ≡ up_halves node
taken_same (WalletUp node) keeps =
    let leaves = kept_same node.leaves_disk node.records.leaves
    (keeps.leaves (record { disk = node.leaves_disk; records = node.records.leaves }) refl) in
    (λ i. record { notes = kept_same node.notes_disk node.records.notes keeps.notes i; leaves = Some (leaves i) })
taken_same (WatcherUp node) keeps =
    (λ i. record { notes = kept_same node.notes.disk node.notes.records keeps.notes i; leaves = None })
taken_same (OperatorUp node) keeps =
    (λ i. record { notes = kept_same node.notes.disk node.notes.records keeps.notes i; leaves = None })

-- the disks that were taken from a node have its halves
pub down_same : {H : Type 0} (member : Member) (site : Site H) (down : DownNode) → IsDownOf site down
    → KeepsAll (halves_of member site) → down_halves down ≡ halves_of member site
down_same member site down is keeps = grind (arith, common_steps, taken_same) steps 20000

pub taken_kind : {H : Type 0} (node : UpNode H) → down_kind (taken_down node) ≡ up_kind node
taken_kind node = grind (arith, common_steps) steps 20000

-- their kind is the member's
pub down_is : {H : Type 0} (hash : H) (member : Member) (site : Site H) (down : DownNode) → IsDownOf site down
    → IsWhole hash member site → down_kind down ≡ member_kind member
down_is hash member site down is whole = grind (arith, common_steps, taken_kind) steps 20000

-- and what holds of the entry holds of them
pub whole_down : {H : Type 0} (hash : H) (member : Member) (site : Site H) (down : DownNode) → IsDownOf site down
    → KeepsAll (halves_of member site) → IsWhole hash member site → IsWhole hash member (Down down)
whole_down hash member site down is keeps whole = grind (arith, common_steps, down_same, down_is) steps 20000

-- ---- what is left

abbrev pub LeavesLeft : List (List ℕ) → Option Half → Type 0
LeavesLeft leaves None = leaves ≡ []
LeavesLeft leaves (Some half) = IsLeft leaves half

-- disks that crashed, which keep these notes and these leaves
pub record AreLeft (notes leaves : List (List ℕ)) (halves : Halves) : Type 0 where
  pub left_notes : IsLeft notes halves.notes
  pub left_leaves : LeavesLeft leaves halves.leaves

pub left_records : (leaves : List (List ℕ)) (half : Option Half) → LeavesLeft leaves half
    → option_map_or (λ (h : Half). h.records) half [] ≡ leaves
left_records leaves None left = sym left
left_records leaves (Some half) left = left.records_are

left_keep : (leaves : List (List ℕ)) (half : Option Half) → LeavesLeft leaves half
    → ForSome half (λ h. EachKeeps h.records h.disk.history)
left_keep leaves half left = grind (arith, common_steps) steps 20000

left_none : (leaves : List (List ℕ)) (half : Option Half) → LeavesLeft leaves half
    → ForSome half (λ h. NoneListed h.disk)
left_none leaves half left = grind (arith, common_steps) steps 20000

pub left_keeps : (notes leaves : List (List ℕ)) (halves : Halves) → AreLeft notes leaves halves → KeepsAll halves
left_keeps notes leaves halves left = grind (arith, common_steps, left_keep) steps 20000

-- the entry of such disks is whole
pub whole_left : {H : Type 0} (hash : H) (member : Member) (down : DownNode) (notes leaves : List (List ℕ))
    → down_kind down ≡ member_kind member
    → AreLeft notes leaves (down_halves down) → IsOf member notes → IsWhole hash member (Down down)
whole_left hash member down notes leaves kind left is = record {
  is_site = kind;
  none_listed = record {
    notes = left.left_notes.listed;
    leaves = left_none leaves (down_halves down).leaves left.left_leaves;
  };
  identity = subst (IsOf member) (sym left.left_notes.records_are) is;
}

-- ---- a crash

pub crash_left : (outcome : Outcome) (down : DownNode) → KeepsAll (down_halves down)
    → NoneListedOf (down_halves down)
    → AreLeft (down_halves down).notes.records (leaves_of (down_halves down))
    (down_halves (with_disks (crashed outcome) down))
crash_left outcome (WalletDown notes leaves key) keeps none = record {
  left_notes = kept_left (kept_of notes.history) outcome notes keeps.notes none.notes;
  left_leaves = kept_left (kept_of leaves.history) outcome leaves (keeps.leaves (kept_half leaves) refl)
      (none.leaves (kept_half leaves) refl);
}
crash_left outcome (WatcherDown notes) keeps none = record {
  left_notes = kept_left (kept_of notes.history) outcome notes keeps.notes none.notes;
  left_leaves = refl;
}
crash_left outcome (OperatorDown notes) keeps none = record {
  left_notes = kept_left (kept_of notes.history) outcome notes keeps.notes none.notes;
  left_leaves = refl;
}

pub with_kind : (change : MemState → MemState) (down : DownNode) → down_kind (with_disks change down) ≡ down_kind down
with_kind change down = grind (arith, common_steps) steps 20000

pub crash_told : (outcome : Outcome) (down : DownNode)
    → option_map (λ (half : Half). half.disk.history) (down_halves (with_disks (crashed outcome) down)).leaves
    ≡ option_map (crashed_disk outcome) (option_map (λ (half : Half). half.disk.history) (down_halves down).leaves)
crash_told outcome down = grind (arith, common_steps) steps 20000

pub crash_notes : (outcome : Outcome) (down : DownNode)
    → (down_halves (with_disks (crashed outcome) down)).notes.disk.history
    ≡ crashed_disk outcome (down_halves down).notes.disk.history
crash_notes outcome down = grind (arith, common_steps) steps 20000

-- over the parts of a node that stay
module _ {H : Type 0} (hash : H) (name : List ℕ) (account : ℕ) (role : Role) where
  -- the node over disks that are left
  pub left_node : (is_up : Bool) (base halves : Halves) (offers : List RootCall) (notes leaves : List (List ℕ))
      → AreLeft notes leaves halves
      → (view_in hash name account role false halves []).node
      ≡ after_crash (record (view_in hash name account role is_up base offers).node {
        notes = notes;
        leaves =
            leaves;
      })
  left_node is_up base halves offers notes leaves left = grind (arith, common_steps, left_records) steps 20000

  pub crash_done : (is_up : Bool) (offers : List RootCall) (outcome : Outcome) (down : DownNode)
      → KeepsAll (down_halves down) → NoneListedOf (down_halves down)
      → Crashes outcome (view_in hash name account role is_up (down_halves down) offers)
      (view_in hash name account role false (down_halves (with_disks (crashed outcome) down)) [])
  crash_done is_up offers outcome down keeps none =
      grind (arith, common_steps, left_node, crash_left, crash_notes, crash_told) steps 20000

-- the disks of a node that is up, after a crash
pub up_left : {H : Type 0} (outcome : Outcome) (node : UpNode H) → KeepsAll (up_halves node)
    → NoneListedOf (up_halves node)
    → AreLeft (up_halves node).notes.records (leaves_of (up_halves node))
    (down_halves (with_disks (crashed outcome) (taken_down node)))
up_left outcome node keeps none =
    let same = taken_same node keeps in
    grind (arith, common_steps, crash_left) steps 20000

-- ---- a command that was cut

-- the kind stays
pub cut_kind : {H : Type 0} (deed : Doing) (opened ran : UpNode H) (stop : Option Stop) → UpDid deed opened stop ran
    → down_kind (taken_down ran) ≡ up_kind opened
cut_kind deed opened ran stop did = grind (arith, common_steps) steps 20000

-- what a deed leaves of the records that there were, by what it gave, or that it was stopped
abbrev pub CutLeaves : ℕ → Outcome → Doing → Option Given → List (List ℕ) → List (List ℕ) → Halves → Type 0
CutLeaves calls outcome deed (Some given) notes leaves halves =
    ((adds_record deed && nat_lt calls 4) ≡ false)
    × AreLeft (with_record notes deed.note) (with_record leaves deed.leaf) halves
CutLeaves calls outcome deed None notes leaves halves =
    ((adds_record deed && nat_lt calls 4) ≡ true)
    × AreLeft (cond (is_added calls outcome) (with_record notes deed.note) notes)
    (cond (is_added calls outcome) (with_record leaves deed.leaf) leaves) halves

or_false : (b : Bool) → (b || false) ≡ b
or_false true = refl
or_false false = refl

-- the leaves of a node without any
no_leaves : (added : Option (List ℕ)) → added ≡ None → with_record [] added ≡ []
no_leaves added none = ap (with_record []) none

module _ (calls fuse : ℕ) (fused : min 4 (fuse - 3) ≡ min 4 calls) (outcome : Outcome) (pattern : HasPattern outcome)
  where
    -- one disk alone
    one_cut : (deed : Doing) (disk : MemState) → NoneListed disk → (state new : NotesState MemState)
        → HalfOpened (kept_of disk.history) (with_fuse fuse disk) state → deed.leaf ≡ None → (given : Option Given)
        → Rattle.node_journal.specs.Notes.Did mem_told mem_plan mem_faults deed.note state (stop_in given) new
        → CutLeaves calls outcome deed given (kept_of disk.history) []
        (record { notes = kept_half (crashed outcome new.disk); leaves = None })
    one_cut deed disk none state new opened leaf (Some given) did =
        let by = went calls fuse fused outcome pattern (kept_of disk.history) disk none state opened deed.note
        new did in
        let adds : adds_record deed ≡ is_some deed.note =
        ap (λ (o : Option (List ℕ)). is_some deed.note || is_some o) leaf ∙ or_false (is_some deed.note) in (
          ap (λ (b : Bool). b && nat_lt calls 4) adds ∙ by.0,
          record {
            left_notes = by.1;
            left_leaves =
                no_leaves deed.leaf leaf;
          },
        )
    one_cut deed disk none state new opened leaf None did =
        let by = met calls fuse fused outcome pattern (kept_of disk.history) disk none state opened deed.note
        new did in
        let adds : adds_record deed ≡ is_some deed.note =
        ap (λ (o : Option (List ℕ)). is_some deed.note || is_some o) leaf ∙ or_false (is_some deed.note) in (
          ap (λ (b : Bool). b && nat_lt calls 4) adds ∙ by.0,
          record {
            left_notes = by.1;
            left_leaves = grind (arith, common_steps, no_leaves, same_if) steps 20000;
          },
        )

    -- both disks of a wallet
    both_cut : {H : Type 0} (note leaf : Option (List ℕ)) (response : _) (notes leaves : MemState) → NoneListed notes
        → NoneListed leaves → (state new : WalletState MemState H)
        → HalfOpened (kept_of notes.history) (with_fuse fuse notes) (notes_part state)
        → HalfOpened (kept_of leaves.history) (with_fuse fuse leaves) (leaves_part state)
        → (note ≡ None) ⊎ (leaf ≡ None) → (given : Option Given)
        → DidEither mem_told mem_plan mem_faults leaf note state (stop_in given) new
        → CutLeaves calls outcome (record { response = response; note = note; leaf = leaf }) given
        (kept_of notes.history)
        (kept_of leaves.history)
        (record {
          notes = kept_half (crashed outcome new.notes_disk);
          leaves = Some (kept_half (crashed outcome new.leaves_disk));
        })
    both_cut added None response notes leaves none none' state new first second one (Some given) did =
        let by = went calls fuse fused outcome pattern (kept_of notes.history) notes none (notes_part state)
        first added
        (notes_part new) did.did in
        let stays = idle calls fuse fused outcome pattern (kept_of leaves.history) leaves none' (leaves_part
        state) second
        new.leaves_disk did.disk in (
          ap (λ (b : Bool). b && nat_lt calls 4) (or_false (is_some added)) ∙ by.0,
          record { left_notes = by.1; left_leaves = stays },
        )
    both_cut added None response notes leaves none none' state new first second one None did =
        let by = met calls fuse fused outcome pattern (kept_of notes.history) notes none (notes_part state)
        first added
        (notes_part new) did.did in
        let stays = idle calls fuse fused outcome pattern (kept_of leaves.history) leaves none' (leaves_part
        state) second
        new.leaves_disk did.disk in (
          ap (λ (b : Bool). b && nat_lt calls 4) (or_false (is_some added)) ∙ by.0,
          record {
            left_notes = by.1;
            left_leaves = grind (arith, common_steps, same_if) steps 20000;
          },
        )
    both_cut (Some note) (Some leaf) response notes leaves none none' state new first second one given did =
        absurd (elim one [ inl bad ↦ cc bad | inr bad ↦ cc bad ])
    both_cut None (Some leaf) response notes leaves none none' state new first second one (Some given) did =
        let by = went calls fuse fused outcome pattern (kept_of leaves.history) leaves none' (leaves_part
        state) second
        (Some leaf) (leaves_part new) did.did in
        let stays = idle calls fuse fused outcome pattern (kept_of notes.history) notes none (notes_part state) first
        new.notes_disk did.disk in
        (by.0, record { left_notes = stays; left_leaves = by.1 })
    both_cut None (Some leaf) response notes leaves none none' state new first second one None did =
        let by = met calls fuse fused outcome pattern (kept_of leaves.history) leaves none' (leaves_part state) second
        (Some leaf) (leaves_part new) did.did in
        let stays = idle calls fuse fused outcome pattern (kept_of notes.history) notes none (notes_part state) first
        new.notes_disk did.disk in (
          by.0,
          record {
            left_notes = grind (arith, common_steps, same_if) steps 20000;
            left_leaves = by.1;
          },
        )

    -- a node of either kind
    pub node_cut : {H : Type 0} (dig : List ℕ → List ℕ) (deed : Doing) (down : DownNode) (opened ran : UpNode H)
        (given : Option Given) → KeepsAll (down_halves down) → NoneListedOf (down_halves down) → AddsFew deed opened
        → Opens dig (with_disks (with_fuse fuse) down) opened → UpDid deed opened (stop_in given) ran
        → CutLeaves calls outcome deed given (down_halves down).notes.records (leaves_of (down_halves down))
        (down_halves (with_disks (crashed outcome) (taken_down ran)))
    node_cut dig deed (WalletDown notes leaves key) (WalletUp state) (WalletUp new) given keeps none few opens did =
        let first = half_opened (role_in (wallet_kinds dig)) (role_reads (wallet_kinds dig)) (kept_of notes.history)
        (with_fuse fuse notes) (notes_part state) opens.opens_notes keeps.notes in
        let second = half_opened (leaf_records_in_of is_body (key_leaves state.records.notes))
        (leaf_reads is_body (key_leaves state.records.notes)) (kept_of leaves.history) (with_fuse fuse leaves)
        (leaves_part state) opens.opens_leaves (keeps.leaves (kept_half leaves) refl) in
        both_cut deed.note deed.leaf deed.response notes leaves none.notes (none.leaves (kept_half leaves) refl)
        state new first
        second few given did
    node_cut dig deed (WatcherDown notes) (WatcherUp state) (WatcherUp new) given keeps none few opens did =
        let first = half_opened (role_in (watcher_kinds dig)) (role_reads (watcher_kinds dig)) (kept_of notes.history)
        (with_fuse fuse notes) state.notes opens keeps.notes in
        one_cut deed notes none.notes state.notes new.notes first few given did.0
    node_cut dig deed (OperatorDown notes) (OperatorUp state) (OperatorUp new) given keeps none few opens did =
        let first = half_opened (role_in operator_kinds) (role_reads operator_kinds) (kept_of notes.history)
        (with_fuse fuse notes) state.notes opens keeps.notes in
        one_cut deed notes none.notes state.notes new.notes first few given did.0
    node_cut dig deed (WalletDown notes leaves key) (WatcherUp state) ran given keeps none few opens did =
        absurd opens
    node_cut dig deed (WalletDown notes leaves key) (OperatorUp state) ran given keeps none few opens did =
        absurd opens
    node_cut dig deed (WatcherDown notes) (WalletUp state) ran given keeps none few opens did = absurd opens
    node_cut dig deed (WatcherDown notes) (OperatorUp state) ran given keeps none few opens did = absurd opens
    node_cut dig deed (OperatorDown notes) (WalletUp state) ran given keeps none few opens did = absurd opens
    node_cut dig deed (OperatorDown notes) (WatcherUp state) ran given keeps none few opens did = absurd opens
    node_cut dig deed (WalletDown notes leaves key) (WalletUp state) (WatcherUp new) given keeps none few opens did =
        absurd did
    node_cut dig deed (WalletDown notes leaves key) (WalletUp state) (OperatorUp new) given keeps none few opens did =
        absurd did
    node_cut dig deed (WatcherDown notes) (WatcherUp state) (WalletUp new) given keeps none few opens did = absurd did
    node_cut dig deed (WatcherDown notes) (WatcherUp state) (OperatorUp new) given keeps none few opens did =
        absurd did
    node_cut dig deed (OperatorDown notes) (OperatorUp state) (WalletUp new) given keeps none few opens did =
        absurd did
    node_cut dig deed (OperatorDown notes) (OperatorUp state) (WatcherUp new) given keeps none few opens did =
        absurd did
