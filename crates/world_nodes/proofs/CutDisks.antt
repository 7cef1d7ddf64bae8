-- What the disks of a node tell whose order was cut, and the images that its crash leaves of them.
use Rattle.world_nodes.proofs.Words.{◌≡◌, ◌⊎◌, ◌-◌, [], ℕ, min, Bool, true, false, cond, nat_lt, List, Option, Some, None, Result, inl, inr, refl, sym, ◌∙◌, ap, arith, option_map, ltb-true, common_steps, History, MemState, plan_of, with_fuse, HasPattern, Outcome, passing-fuse, RefusesOpen, NotesState, Did, role_in, JournalFault, leaf_records_in_of, RootCall, wallet_kinds, is_body, watcher_kinds, key_leaves, operator_kinds, WalletState, notes_part, leaves_part, Role, Doing, Given, DidEither, NodeOrder, Open, DownNode, WalletDown, WatcherDown, OperatorDown, UpNode, WalletUp, WatcherUp, OperatorUp, is_opening_order, with_opening, crashed_disk, with_cut_opening, with_cut_append, DisksCrash, mem_told, mem_plan, mem_faults, NoneListed, Half, Halves, kept_of, kept_half, crashed, NoneListedOf, leaves_of, down_halves, with_disks, taken_down, Opens, RefusesDown, UpDid, stop_in, up_halves, view_in}
use Rattle.world_nodes.proofs.Halves.{HalfOpened, half_opened, role_reads, leaf_reads}
use Rattle.world_nodes.proofs.Stops.{went_told, met_told}
use Rattle.world_nodes.proofs.Runs.{KeepsAll, AddsFew, UpOpened, opened_told}
use Rattle.world_nodes.proofs.Cuts.{crash_notes, crash_told}
use Rattle.world_nodes.proofs.CutOpenings.{never_opened}

-- what each disk tells
abbrev pub told_of : Half → History
told_of half = half.disk.history

-- ---- a command

-- The disks of these halves tell their openings, and behind them the appends of a deed as far as so many calls passed,
-- over other halves.
pub record TellCut (calls : ℕ) (deed : Doing) (base halves : Halves) : Type 0 where
  pub notes : halves.notes.disk.history
      ≡ with_cut_append calls base.notes.records deed.note (with_opening base.notes.disk.history)
  pub leaves : option_map told_of halves.leaves
      ≡ option_map (λ disk. with_cut_append calls (leaves_of base) deed.leaf (with_opening disk))
      (option_map told_of base.leaves)

module _ (calls fuse : ℕ) (fused : min 4 (fuse - 3) ≡ min 4 calls) (outcome : Outcome) (pattern : HasPattern outcome)
  where
    half_told : (added : Option (List ℕ)) (disk : MemState) → NoneListed disk → (state new : NotesState MemState)
        → HalfOpened (kept_of disk.history) (with_fuse fuse disk) state → (given : Option Given)
        → Did mem_told mem_plan mem_faults added state (stop_in given) new
        → new.disk.history ≡ with_cut_append calls (kept_of disk.history) added (with_opening disk.history)
    half_told added disk none state new opened (Some given) did =
        went_told calls fuse fused outcome pattern (kept_of disk.history) disk none state opened added new did
    half_told added disk none state new opened None did =
        met_told calls fuse fused outcome pattern (kept_of disk.history) disk none state opened added new did

    both_told : {H : Type 0} (note leaf : Option (List ℕ)) (notes leaves : MemState) → NoneListed notes
        → NoneListed leaves → (state new : WalletState MemState H)
        → HalfOpened (kept_of notes.history) (with_fuse fuse notes) (notes_part state)
        → HalfOpened (kept_of leaves.history) (with_fuse fuse leaves) (leaves_part state)
        → (note ≡ None) ⊎ (leaf ≡ None) → (given : Option Given)
        → DidEither mem_told mem_plan mem_faults leaf note state (stop_in given) new
        → (new.notes_disk.history ≡ with_cut_append calls (kept_of notes.history) note (with_opening notes.history))
        × (new.leaves_disk.history
        ≡ with_cut_append calls (kept_of leaves.history) leaf (with_opening leaves.history))
    both_told added None notes leaves none none' state new first second one given did = (
      half_told added notes none (notes_part state) (notes_part new) first given did.did,
      ap (λ (d : MemState). d.history) did.disk ∙ second.told,
    )
    both_told (Some note) (Some leaf) notes leaves none none' state new first second one given did =
        absurd (elim one [ inl bad ↦ cc bad | inr bad ↦ cc bad ])
    both_told None (Some leaf) notes leaves none none' state new first second one given did = (
      ap (λ (d : MemState). d.history) did.disk ∙ first.told,
      half_told (Some leaf) leaves none' (leaves_part state) (leaves_part new) second given did.did,
    )

    one_tells : (deed : Doing) (disk : MemState) → NoneListed disk → (state new : NotesState MemState)
        → HalfOpened (kept_of disk.history) (with_fuse fuse disk) state → (given : Option Given)
        → Did mem_told mem_plan mem_faults deed.note state (stop_in given) new
        → TellCut calls deed (record { notes = kept_half disk; leaves = None })
        (record { notes = kept_half new.disk; leaves = None })
    one_tells deed disk none state new opened given did =
        record { notes = half_told deed.note disk none state new opened given did; leaves = refl }

    -- a node of either kind
    pub node_tells : {H : Type 0} (dig : List ℕ → List ℕ) (deed : Doing) (down : DownNode) (opened ran : UpNode H)
        (given : Option Given) → KeepsAll (down_halves down) → NoneListedOf (down_halves down) → AddsFew deed opened
        → Opens dig (with_disks (with_fuse fuse) down) opened → UpDid deed opened (stop_in given) ran
        → TellCut calls deed (down_halves down) (down_halves (taken_down ran))
    node_tells dig deed (WalletDown notes leaves key) (WalletUp state) (WalletUp new) given keeps none few opens did =
        let first = half_opened (role_in (wallet_kinds dig)) (role_reads (wallet_kinds dig)) (kept_of notes.history)
        (with_fuse fuse notes) (notes_part state) opens.opens_notes keeps.notes in
        let second = half_opened (leaf_records_in_of is_body (key_leaves state.records.notes))
        (leaf_reads is_body (key_leaves state.records.notes)) (kept_of leaves.history) (with_fuse fuse leaves)
        (leaves_part state) opens.opens_leaves (keeps.leaves (kept_half leaves) refl) in
        let both = both_told deed.note deed.leaf notes leaves none.notes (none.leaves (kept_half leaves) refl)
        state new first second few given did in
        record { notes = both.0; leaves = ap Some both.1 }
    node_tells dig deed (WatcherDown notes) (WatcherUp state) (WatcherUp new) given keeps none few opens did =
        let first = half_opened (role_in (watcher_kinds dig)) (role_reads (watcher_kinds dig)) (kept_of notes.history)
        (with_fuse fuse notes) state.notes opens keeps.notes in
        one_tells deed notes none.notes state.notes new.notes first given did.0
    node_tells dig deed (OperatorDown notes) (OperatorUp state) (OperatorUp new) given keeps none few opens did =
        let first = half_opened (role_in operator_kinds) (role_reads operator_kinds) (kept_of notes.history)
        (with_fuse fuse notes) state.notes opens keeps.notes in
        one_tells deed notes none.notes state.notes new.notes first given did.0
    node_tells dig deed (WalletDown notes leaves key) (WatcherUp state) ran given keeps none few opens did =
        absurd opens
    node_tells dig deed (WalletDown notes leaves key) (OperatorUp state) ran given keeps none few opens did =
        absurd opens
    node_tells dig deed (WatcherDown notes) (WalletUp state) ran given keeps none few opens did = absurd opens
    node_tells dig deed (WatcherDown notes) (OperatorUp state) ran given keeps none few opens did = absurd opens
    node_tells dig deed (OperatorDown notes) (WalletUp state) ran given keeps none few opens did = absurd opens
    node_tells dig deed (OperatorDown notes) (WatcherUp state) ran given keeps none few opens did = absurd opens
    node_tells dig deed (WalletDown notes leaves key) (WalletUp state) (WatcherUp new) given keeps none few opens did =
        absurd did
    node_tells dig deed (WalletDown notes leaves key) (WalletUp state) (OperatorUp new) given keeps none few opens
        did =
        absurd did
    node_tells dig deed (WatcherDown notes) (WatcherUp state) (WalletUp new) given keeps none few opens did =
        absurd did
    node_tells dig deed (WatcherDown notes) (WatcherUp state) (OperatorUp new) given keeps none few opens did =
        absurd did
    node_tells dig deed (OperatorDown notes) (OperatorUp state) (WalletUp new) given keeps none few opens did =
        absurd did
    node_tells dig deed (OperatorDown notes) (OperatorUp state) (WatcherUp new) given keeps none few opens did =
        absurd did

-- a map behind a map
twice : (f g : History → History) (disk : Option History)
    → option_map f (option_map g disk) ≡ option_map (λ d. f (g d)) disk
twice f g None = refl
twice f g (Some disk) = refl

-- the choice by an order that is a command's
by_command : (b : Bool) (opening command : History) → b ≡ false → command ≡ cond b opening command
by_command b opening command is = sym (ap (λ (c : Bool). cond c opening command) is)

module _ {H : Type 0} (hash : H) (name : List ℕ) (account : ℕ) (role : Role) where
  -- the disks of a command that was cut, once they crashed
  pub command_crashed : (is_up : Bool) (offers : List RootCall) (calls : ℕ) (outcome : Outcome) (order : NodeOrder)
      (deed : Doing) (base : Halves) (ran : DownNode) → is_opening_order order ≡ false
      → TellCut calls deed base (down_halves ran)
      → DisksCrash calls outcome order deed (view_in hash name account role is_up base offers)
      (view_in hash name account role false (down_halves (with_disks (crashed outcome) ran)) [])
  command_crashed is_up offers calls outcome order deed base ran command tell = record {
    notes_disk = grind (arith, common_steps, crash_notes, by_command) steps 20000;
    leaves_disk = crash_told outcome ran ∙ (ap (option_map (crashed_disk outcome)) tell.leaves
        ∙ (twice (crashed_disk outcome) (λ disk. with_cut_append calls (leaves_of base) deed.leaf (with_opening disk))
        (option_map told_of base.leaves)
        ∙ (grind (arith, common_steps, by_command) steps 20000)));
  }

  -- those of an opening of a node that is down
  pub opening_crashed : (offers : List RootCall) (calls : ℕ) (outcome : Outcome) (deed : Doing) (base : Halves)
      (ran : DownNode) → (down_halves ran).notes.disk.history ≡ with_cut_opening calls base.notes.disk.history
      → option_map told_of (down_halves ran).leaves
      ≡ option_map (λ disk. cond (nat_lt calls 3) disk (with_opening disk)) (option_map told_of base.leaves)
      → DisksCrash calls outcome Open deed (view_in hash name account role false base offers)
      (view_in hash name account role false (down_halves (with_disks (crashed outcome) ran)) [])
  opening_crashed offers calls outcome deed base ran notes leaves =
      grind (arith, common_steps, crash_notes, crash_told, twice) steps 20000

-- ---- an opening

-- as many of its calls as pass, which are three
all_made : (calls : ℕ) (disk : History) → nat_lt calls 3 ≡ false → with_opening disk ≡ with_cut_opening calls disk
all_made calls disk all = grind (arith, common_steps) steps 20000

-- an opening that went through, of disks with a fuse
module _ (calls : ℕ) (all : nat_lt calls 3 ≡ false) where
  fused_told : (down : DownNode)
      → option_map told_of (down_halves (with_disks (with_fuse calls) down)).leaves
      ≡ option_map told_of (down_halves down).leaves
  fused_told down = grind (arith, common_steps) steps 20000

  fused_notes : (down : DownNode)
      → (down_halves (with_disks (with_fuse calls) down)).notes.disk.history ≡ (down_halves down).notes.disk.history
  fused_notes down = grind (arith, common_steps) steps 20000

  taken_notes : {H : Type 0} (up : UpNode H)
      → (down_halves (taken_down up)).notes.disk.history
      ≡ (up_halves up).notes.disk.history
  taken_notes up = grind (arith, common_steps) steps 20000

  taken_leaves : {H : Type 0} (up : UpNode H)
      → option_map told_of (down_halves (taken_down up)).leaves
      ≡ option_map told_of (up_halves up).leaves
  taken_leaves up = grind (arith, common_steps) steps 20000

  pub opened_notes_told : {H : Type 0} (down : DownNode) (up : UpNode H)
      → UpOpened (with_disks (with_fuse calls) down) up
      → (down_halves (taken_down up)).notes.disk.history ≡ with_cut_opening calls (down_halves down).notes.disk.history
  opened_notes_told down up opened =
      taken_notes up ∙ (opened.notes.told ∙ (ap with_opening (fused_notes down)
      ∙ all_made calls (down_halves down).notes.disk.history all))

  pub opened_leaves_told : {H : Type 0} (down : DownNode) (up : UpNode H)
      → UpOpened (with_disks (with_fuse calls) down) up
      → option_map told_of (down_halves (taken_down up)).leaves
      ≡ option_map (λ disk. cond (nat_lt calls 3) disk (with_opening disk))
      (option_map told_of (down_halves down).leaves)
  opened_leaves_told down up opened =
      taken_leaves up
      ∙ (opened_told (down_halves (with_disks (with_fuse calls) down)).leaves
      (up_halves up).leaves opened.leaves
      ∙ (ap (option_map with_opening) (fused_told down)
      ∙ (λ i. option_map (λ disk. cond (sym all i) disk (with_opening disk))
      (option_map told_of (down_halves down).leaves))))

-- an opening that met the fuse
module _ (calls : ℕ) (few : nat_lt calls 3 ≡ true) where
  refused_told : (read : List ℕ → Result (List (List ℕ)) ℕ) (disk left : MemState) → NoneListed disk
      → RefusesOpen read mem_told mem_plan (with_fuse calls disk) JournalFault left
      → left.history ≡ with_cut_opening calls disk.history
  refused_told read disk left none refuses =
      let passed : min 3 calls ≡ refuses.0 =
      sym (passing-fuse 3 calls (plan_of (with_fuse calls disk)) none.listed refl)
      ∙ refuses.1.planned.1 (plan_of (with_fuse calls disk)) refl in
      grind (arith, common_steps, ltb-true) steps 20000

  -- the leaves' disk stays
  stays_told : (disk : Option History) → disk ≡ option_map (λ d. cond (nat_lt calls 3) d (with_opening d)) disk
  stays_told None = refl
  stays_told (Some disk) = ap (λ (b : Bool). Some (cond b disk (with_opening disk))) (sym few)

  pub refused_tells : (dig : List ℕ → List ℕ) (down left : DownNode) → KeepsAll (down_halves down)
      → NoneListedOf (down_halves down) → RefusesDown dig (with_disks (with_fuse calls) down) JournalFault left
      → ((down_halves left).notes.disk.history ≡ with_cut_opening calls (down_halves down).notes.disk.history)
      × (option_map told_of (down_halves left).leaves
      ≡ option_map (λ disk. cond (nat_lt calls 3) disk (with_opening disk))
      (option_map told_of (down_halves down).leaves))
  refused_tells dig (WalletDown notes leaves key) (WalletDown new_notes new_leaves new_key) keeps none refuses =
      elim refuses [
        | inl behind ↦ (
          refused_told (role_in (wallet_kinds dig)) notes new_notes none.notes behind.0.refused,
          ap (λ (d : MemState). Some d.history) behind.1 ∙ stays_told (Some leaves.history),
        )
        | inr opened ↦ absurd (never_opened calls few (Outcome.Old) (kept_of notes.history) notes opened.0 none.notes
            (half_opened (role_in (wallet_kinds dig)) (role_reads (wallet_kinds dig)) (kept_of notes.history)
            (with_fuse calls notes) opened.0 opened.1 keeps.notes))
      ]
  refused_tells dig (WatcherDown notes) (WatcherDown new) keeps none refuses =
      (refused_told (role_in (watcher_kinds dig)) notes new none.notes refuses.refused, refl)
  refused_tells dig (OperatorDown notes) (OperatorDown new) keeps none refuses =
      (refused_told (role_in operator_kinds) notes new none.notes refuses.refused, refl)
  refused_tells dig (WalletDown notes leaves key) (WatcherDown new) keeps none refuses = absurd refuses
  refused_tells dig (WalletDown notes leaves key) (OperatorDown new) keeps none refuses = absurd refuses
  refused_tells dig (WatcherDown notes) (WalletDown new_notes new_leaves new_key) keeps none refuses = absurd refuses
  refused_tells dig (WatcherDown notes) (OperatorDown new) keeps none refuses = absurd refuses
  refused_tells dig (OperatorDown notes) (WalletDown new_notes new_leaves new_key) keeps none refuses = absurd refuses
  refused_tells dig (OperatorDown notes) (WatcherDown new) keeps none refuses = absurd refuses
