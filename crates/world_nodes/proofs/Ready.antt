-- That nothing but want of memory stops an order of a node in a world, or refuses its disks.
use Rattle.world_nodes.proofs.Words.{◌≡◌, ◌⊎◌, ◌<◌, ◌≤◌, [], ℕ, true, false, List, Option, Some, None, Result, Ok, Err, inl, inr, refl, sym, ◌∙◌, ap, subst, arith, ForSome, option_map, is_some, result_ok, false≢true, true≢false, common_steps, content, after_calls, passing, MemState, plan_of, with_fuse, Outcome, content_may_be_left, fuse-after_calls, passing-fuse, passing-no_fuse, journal_in, RefusesOpen, NotesState, Did, Opened, Kinds, are_of, read_of_kinds, role_in, JournalFault, JournalNoMemory, Stop, Closed, NoMemory, DeviceFault, leaf_records_of, leaf_records_read_of, leaf_records_in_of, wallet_kinds, is_body, leaves_in, notes_of, are_bound_notes, key_leaves, watcher_kinds, operator_kinds, WalletState, notes_part, leaves_part, Doing, DidEither, DownNode, WalletDown, WatcherDown, OperatorDown, UpNode, WalletUp, WatcherUp, OperatorUp, EachKeeps, role_of, AreOf, mem_told, mem_plan, mem_faults, NoneListed, HasNoFuse, HasJournal, Half, Halves, kept_of, kept_half, NoneListedOf, OfDisks, NoFuses, HaveJournals, records_in, crashed, down_kind, down_halves, with_disks, up_halves, up_closed, Opens, RefusesDown, MayOpen, IsToStop, UpDid, RunsOn}
use Rattle.gate_journal.specs.declared.refusal.JournalRefusal.{JournalRefusal}
use Rattle.node_rules.specs.Wallet.{WalletRecords}
use Rattle.node_rules.proofs.WalletGrow.{wallet-parts}
use Rattle.wallet_node.specs.Opening.{RefusesWallet, IsUnbound}
use Rattle.world_nodes.proofs.Runs.{KeepsAll}

-- ---- plans

-- calls make no fuse
pub planned-unfused : (count : ℕ) (old new : MemState) → mem_plan new ≡ option_map (after_calls count) (mem_plan old)
    → HasNoFuse old → HasNoFuse new
planned-unfused count old new is none = grind (arith, common_steps, fuse-after_calls) steps 20000

-- ---- what holds of each disk of a node

module _ (P : MemState → Type 0) where
  pub of-half : (half : Half) → P half.disk → ForSome (Some half) (λ h. P h.disk)
  of-half half here = λ h is. (let same : half ≡ h = cc is in subst (λ (x : Half). P x.disk) same here)

  pub of-none : ForSome {T = Half} None (λ h. P h.disk)
  of-none = λ h is. absurd (cc is)

-- an opening makes three calls, which pass
abbrev LetsOpen : MemState → Type 0
LetsOpen disk = passing 3 (plan_of disk) ≡ 3

abbrev pub LetOpen : Halves → Type 0
LetOpen halves = OfDisks LetsOpen halves

-- so it is without a fuse, and with one that lets three pass
pub unfused-open : (halves : Halves) → NoneListedOf halves → NoFuses halves → LetOpen halves
unfused-open halves none unfused = record {
  notes = passing-no_fuse 3 (plan_of halves.notes.disk) none.notes.listed unfused.notes;
  leaves = λ half is.
      passing-no_fuse 3 (plan_of half.disk) (none.leaves half is).listed (unfused.leaves half is);
}

fused-one : (fuse : ℕ) (disk : MemState) → 3 ≤ fuse → NoneListed disk → LetsOpen (with_fuse fuse disk)
fused-one fuse disk least none =
    let by = passing-fuse 3 fuse (plan_of (with_fuse fuse disk)) none.listed refl in omega (arith, by, least)

pub fused-open : (fuse : ℕ) (down : DownNode) → 3 ≤ fuse → NoneListedOf (down_halves down)
    → LetOpen (down_halves (with_disks (with_fuse fuse) down))
fused-open fuse (WalletDown notes leaves key) least none = record {
  notes = fused-one fuse notes least none.notes;
  leaves = of-half LetsOpen (kept_half (with_fuse fuse leaves))
      (fused-one fuse leaves least (none.leaves (kept_half leaves) refl));
}
fused-open fuse (WatcherDown notes) least none =
    record { notes = fused-one fuse notes least none.notes; leaves = of-none LetsOpen }
fused-open fuse (OperatorDown notes) least none =
    record { notes = fused-one fuse notes least none.notes; leaves = of-none LetsOpen }

-- ---- openings

-- a journal whose image is read, and whose calls all pass
refused-one : (read : List ℕ → Result (List (List ℕ)) ℕ) (records : List (List ℕ)) (old new : MemState)
    (why : JournalRefusal) → LetsOpen old → read (content old.history) ≡ Ok records
    → RefusesOpen read mem_told mem_plan old why new → why ≡ JournalNoMemory
refused-one read records old new why lets reads refuses = grind (arith, common_steps) steps 20000

-- an image that keeps records of a role is read by it
of-kept : (kinds : Kinds) (records : List (List ℕ)) (read : Result (List (List ℕ)) ℕ)
    → result_ok read ≡ Some records → are_of kinds records ≡ true → read_of_kinds kinds read ≡ Ok records
of-kept kinds records read is are = grind (arith, common_steps) steps 20000

pub role-read : (kinds : Kinds) (records : List (List ℕ)) (disk : MemState) → EachKeeps records disk.history
    → are_of kinds records ≡ true → role_in kinds (content disk.history) ≡ Ok records
role-read kinds records disk keeps are = grind (arith, common_steps, of-kept, content_may_be_left) steps 20000

leaf-kept : (leaves : ℕ) (records : List (List ℕ)) (read : Result (List (List ℕ)) ℕ)
    → result_ok read ≡ Some records → leaf_records_of is_body leaves records ≡ Ok records
    → leaf_records_read_of is_body leaves read ≡ Ok records
leaf-kept leaves records read is are = grind (arith, common_steps) steps 20000

leaf-read : (leaves : ℕ) (records : List (List ℕ)) (disk : MemState) → EachKeeps records disk.history
    → leaf_records_of is_body leaves records ≡ Ok records
    → leaf_records_in_of is_body leaves (content disk.history) ≡ Ok records
leaf-read leaves records disk keeps are = grind (arith, common_steps, leaf-kept, content_may_be_left) steps 20000

bound-one : (dig : List ℕ → List ℕ) (leaves notes : List (List ℕ)) (why : JournalRefusal)
    → are_bound_notes (leaves_in leaves) (notes_of dig notes) ≡ true → IsUnbound dig (leaves_in leaves) notes why
    → why ≡ JournalNoMemory
bound-one dig leaves notes why bound unbound = grind (arith, common_steps, true≢false) steps 20000

-- a wallet's two disks
module _ (dig : List ℕ → List ℕ) (notes leaves : MemState) (wallet : WalletRecords) (first : LetsOpen notes)
    (second : LetsOpen leaves) (notes-read : role_in (wallet_kinds dig) (content notes.history) ≡ Ok wallet.notes)
    (leaves-read : leaf_records_in_of is_body (key_leaves wallet.notes) (content leaves.history) ≡ Ok wallet.leaves)
    (bound : are_bound_notes (leaves_in wallet.leaves) (notes_of dig wallet.notes) ≡ true) where
  opened-same : (opened : NotesState MemState)
      → Opened mem_told mem_plan mem_faults (role_in (wallet_kinds dig)) notes opened → wallet.notes ≡ opened.records
  opened-same opened opens = let a = opens.kept notes.history refl in cc (a, notes-read)

  behind-read : (records : List (List ℕ)) → wallet.notes ≡ records
      → leaf_records_in_of is_body (key_leaves records) (content leaves.history) ≡ Ok wallet.leaves
  behind-read records same = grind (arith, common_steps) steps 20000

  wallet-refused : (why : JournalRefusal) (new_notes new_leaves : MemState)
      → RefusesWallet mem_told mem_plan mem_faults dig notes leaves why new_notes new_leaves → why ≡ JournalNoMemory
  wallet-refused why new_notes new_leaves (inl (refuses, same)) =
      refused-one (role_in (wallet_kinds dig)) wallet.notes notes new_notes why first notes-read refuses.refused
  wallet-refused why new_notes new_leaves (inr (opened, opens, (same, inl refuses))) =
      grind (arith, common_steps, refused-one, behind-read, opened-same) steps 20000
  wallet-refused why new_notes new_leaves (inr (opened, opens, (same, inr (behind, opens_leaves, at, unbound)))) =
      let of_notes = opened-same opened opens in
      let read = behind-read opened.records of_notes in
      let kept = opens_leaves.kept leaves.history refl in
      let of_leaves : wallet.leaves ≡ behind.records = cc (kept, read) in
      bound-one dig behind.records opened.records why
      (subst (λ (rs : List (List ℕ)). are_bound_notes (leaves_in behind.records) (notes_of dig rs) ≡ true) of_notes
      (subst (λ (rs : List (List ℕ)). are_bound_notes (leaves_in rs) (notes_of dig wallet.notes) ≡ true) of_leaves
      bound)) unbound

-- disks that keep records of the role, and on which three calls pass
pub may-open : (dig : List ℕ → List ℕ) (down : DownNode) → LetOpen (down_halves down) → KeepsAll (down_halves down)
    → AreOf dig (role_of (down_kind down)) (records_in (down_halves down)) → MayOpen dig down
may-open dig (WalletDown notes leaves key) lets keeps role why (WalletDown new_notes new_leaves new_key) refuses =
    let parts = wallet-parts dig (records_in (down_halves (WalletDown notes leaves key))) role in
    wallet-refused dig notes leaves (records_in (down_halves (WalletDown notes leaves key))) lets.notes
    (lets.leaves (kept_half leaves) refl)
    (role-read (wallet_kinds dig) (kept_of notes.history) notes keeps.notes parts.role)
    (leaf-read (key_leaves (kept_of notes.history)) (kept_of leaves.history) leaves
    (keeps.leaves (kept_half leaves) refl) parts.leaves) parts.bound why new_notes new_leaves refuses
may-open dig (WatcherDown notes) lets keeps role why (WatcherDown new) refuses =
    grind (arith, common_steps, refused-one, role-read) steps 20000
may-open dig (OperatorDown notes) lets keeps role why (OperatorDown new) refuses =
    grind (arith, common_steps, refused-one, role-read) steps 20000
may-open dig (WalletDown notes leaves key) lets keeps role why (WatcherDown new) refuses = absurd refuses
may-open dig (WalletDown notes leaves key) lets keeps role why (OperatorDown new) refuses = absurd refuses
may-open dig (WatcherDown notes) lets keeps role why (WalletDown new_notes new_leaves new_key) refuses = absurd refuses
may-open dig (WatcherDown notes) lets keeps role why (OperatorDown new) refuses = absurd refuses
may-open dig (OperatorDown notes) lets keeps role why (WalletDown new_notes new_leaves new_key) refuses =
    absurd refuses
may-open dig (OperatorDown notes) lets keeps role why (WatcherDown new) refuses = absurd refuses

-- ---- openings that are to stop

module _ (calls : ℕ) (few : calls < 3) where
  few-pass : (disk : MemState) → NoneListed disk → passing 3 (plan_of (with_fuse calls disk)) < 3
  few-pass disk none =
      let by = passing-fuse 3 calls (plan_of (with_fuse calls disk)) none.listed refl in omega (arith, by, few)

  not-opened : (read : List ℕ → Result (List (List ℕ)) ℕ) (disk : MemState) (new : NotesState MemState)
      → NoneListed disk → Opened mem_told mem_plan mem_faults read (with_fuse calls disk) new → ⊥
  not-opened read disk new none opened = grind (arith, common_steps, few-pass) steps 20000

  stopped-one : (read : List ℕ → Result (List (List ℕ)) ℕ) (disk new : MemState) (why : JournalRefusal)
      → NoneListed disk → RefusesOpen read mem_told mem_plan (with_fuse calls disk) why new
      → (why ≡ JournalFault) ⊎ (why ≡ JournalNoMemory)
  stopped-one read disk new why none refuses = grind (arith, common_steps, few-pass) steps 20000

  stops-opening : (H : Type 0) (dig : List ℕ → List ℕ) (down : DownNode) → NoneListedOf (down_halves down)
      → (up : UpNode H) → Opens dig (with_disks (with_fuse calls) down) up → ⊥
  stops-opening H dig (WalletDown notes leaves key) none (WalletUp node) opens =
      not-opened (role_in (wallet_kinds dig)) notes (notes_part node) none.notes opens.opens_notes
  stops-opening H dig (WatcherDown notes) none (WatcherUp node) opens =
      not-opened (role_in (watcher_kinds dig)) notes node.notes none.notes opens
  stops-opening H dig (OperatorDown notes) none (OperatorUp node) opens =
      not-opened (role_in operator_kinds) notes node.notes none.notes opens
  stops-opening H dig (WalletDown notes leaves key) none (WatcherUp node) opens = opens
  stops-opening H dig (WalletDown notes leaves key) none (OperatorUp node) opens = opens
  stops-opening H dig (WatcherDown notes) none (WalletUp node) opens = opens
  stops-opening H dig (WatcherDown notes) none (OperatorUp node) opens = opens
  stops-opening H dig (OperatorDown notes) none (WalletUp node) opens = opens
  stops-opening H dig (OperatorDown notes) none (WatcherUp node) opens = opens

  stops-refused : (dig : List ℕ → List ℕ) (down : DownNode) → NoneListedOf (down_halves down)
      → (why : JournalRefusal) (left : DownNode) → RefusesDown dig (with_disks (with_fuse calls) down) why left
      → (why ≡ JournalFault) ⊎ (why ≡ JournalNoMemory)
  stops-refused dig (WalletDown notes leaves key) none why (WalletDown new_notes new_leaves new_key) (inl refuses) =
      stopped-one (role_in (wallet_kinds dig)) notes new_notes why none.notes refuses.0.refused
  stops-refused dig (WalletDown notes leaves key) none why (WalletDown new_notes new_leaves new_key) (inr opened) =
      absurd (not-opened (role_in (wallet_kinds dig)) notes opened.0 none.notes opened.1)
  stops-refused dig (WatcherDown notes) none why (WatcherDown new) refuses =
      stopped-one (role_in (watcher_kinds dig)) notes new why none.notes refuses.refused
  stops-refused dig (OperatorDown notes) none why (OperatorDown new) refuses =
      stopped-one (role_in operator_kinds) notes new why none.notes refuses.refused
  stops-refused dig (WalletDown notes leaves key) none why (WatcherDown new) refuses = absurd refuses
  stops-refused dig (WalletDown notes leaves key) none why (OperatorDown new) refuses = absurd refuses
  stops-refused dig (WatcherDown notes) none why (WalletDown new_notes new_leaves new_key) refuses = absurd refuses
  stops-refused dig (WatcherDown notes) none why (OperatorDown new) refuses = absurd refuses
  stops-refused dig (OperatorDown notes) none why (WalletDown new_notes new_leaves new_key) refuses = absurd refuses
  stops-refused dig (OperatorDown notes) none why (WatcherDown new) refuses = absurd refuses

  pub to-stop : (H : Type 0) (dig : List ℕ → List ℕ) (down : DownNode) → NoneListedOf (down_halves down)
      → IsToStop H dig (with_disks (with_fuse calls) down)
  to-stop H dig down none =
      record { opens = stops-opening H dig down none; refused = stops-refused dig down none }

-- ---- orders

stop-one : (added : Option (List ℕ)) (old new : NotesState MemState) (stop : Stop) → NoneListed old.disk
    → HasNoFuse old.disk → old.closed ≡ false → Did mem_told mem_plan mem_faults added old (Some stop) new
    → stop ≡ NoMemory
stop-one None old new DeviceFault none unfused open' did = absurd did
stop-one (Some body) old new DeviceFault none unfused open' did =
    let less : did.passed < 4 = did.made.planned.0 in
    let same = did.made.planned.1 (plan_of old.disk) refl in
    grind (arith, common_steps, passing-no_fuse) steps 20000
stop-one added old new Closed none unfused open' did = absurd (false≢true (sym open' ∙ did.0))
stop-one added old new NoMemory none unfused open' did = refl

either-stops : {H : Type 0} (note leaf : Option (List ℕ)) (old new : WalletState MemState H) (stop : Stop)
    → NoneListed old.notes_disk → NoneListed old.leaves_disk → HasNoFuse old.notes_disk → HasNoFuse old.leaves_disk
    → old.closed ≡ false → DidEither mem_told mem_plan mem_faults leaf note old (Some stop) new → stop ≡ NoMemory
either-stops added leaf old new stop none none' unfused unfused' open' did =
    grind (arith, common_steps, stop-one) steps 20000

pub runs-on : {H : Type 0} (node : UpNode H) → NoneListedOf (up_halves node) → NoFuses (up_halves node)
    → up_closed node ≡ false → RunsOn node
runs-on (WalletUp old) none unfused open' deed stop (WalletUp new) did =
    either-stops deed.note deed.leaf old new stop none.notes (none.leaves _ refl) unfused.notes
    (unfused.leaves _ refl) open' did
runs-on (WatcherUp old) none unfused open' deed stop (WatcherUp new) did =
    stop-one deed.note old.notes new.notes stop none.notes unfused.notes open' did.0
runs-on (OperatorUp old) none unfused open' deed stop (OperatorUp new) did =
    stop-one deed.note old.notes new.notes stop none.notes unfused.notes open' did.0
runs-on (WalletUp old) none unfused open' deed stop (WatcherUp new) did = absurd did
runs-on (WalletUp old) none unfused open' deed stop (OperatorUp new) did = absurd did
runs-on (WatcherUp old) none unfused open' deed stop (WalletUp new) did = absurd did
runs-on (WatcherUp old) none unfused open' deed stop (OperatorUp new) did = absurd did
runs-on (OperatorUp old) none unfused open' deed stop (WalletUp new) did = absurd did
runs-on (OperatorUp old) none unfused open' deed stop (WatcherUp new) did = absurd did

-- a node that was opened is open
pub opened-open : {H : Type 0} (dig : List ℕ → List ℕ) (down : DownNode) (up : UpNode H) → Opens dig down up
    → up_closed up ≡ false
opened-open dig down up opens = grind (arith, common_steps) steps 20000

-- ---- causes

-- an opening of a node's disks, in which its kind is known, was refused
pub why-at : (dig : List ℕ → List ℕ) (down other left : DownNode) (why : JournalRefusal) → MayOpen dig down
    → down ≡ other → RefusesDown dig other why left → why ≡ JournalNoMemory
why-at dig down other left why may is refuses =
    may why left (subst (λ (d : DownNode). RefusesDown dig d why left) (sym is) refuses)

-- one that is to stop didn't go through
pub opens-not : (H : Type 0) (dig : List ℕ → List ℕ) (down other : DownNode) (up : UpNode H) → IsToStop H dig down
    → down ≡ other → Opens dig other up → ⊥
opens-not H dig down other up stops is opens =
    stops.opens up (subst (λ (d : DownNode). Opens dig d up) (sym is) opens)

-- and was refused for want of memory, where it met no device fault
pub stop-why-at : (H : Type 0) (dig : List ℕ → List ℕ) (down other left : DownNode) (why : JournalRefusal)
    → IsToStop H dig down → down ≡ other → RefusesDown dig other why left → (why ≡ JournalFault → ⊥)
    → why ≡ JournalNoMemory
stop-why-at H dig down other left why stops is refuses no_fault = grind (arith, common_steps) steps 20000

-- an order of a node that was closed found it so
closed-either : {H : Type 0} (note leaf : Option (List ℕ)) (old new : WalletState MemState H)
    → DidEither mem_told mem_plan mem_faults leaf note old (Some Closed) new → old.closed ≡ true
closed-either added None old new did = did.did.0
closed-either added (Some leaf) old new did = did.did.0

was-closed : {H : Type 0} (deed : Doing) (old new : UpNode H) → UpDid deed old (Some Closed) new → up_closed old ≡ true
was-closed deed old new did = grind (arith, common_steps, closed-either) steps 20000

-- so none of a node that was just opened
pub closed-never : {H : Type 0} (dig : List ℕ → List ℕ) (down : DownNode) (opened new : UpNode H) (deed : Doing)
    (stop : Stop) → Opens dig down opened → stop ≡ Closed → UpDid deed opened (Some stop) new → ⊥
closed-never {H} dig down opened new deed stop opens is did =
    grind (arith, common_steps, was-closed, false≢true, opened-open) steps 20000

-- ---- no fuse comes

ran-one : (added : Option (List ℕ)) (old new : NotesState MemState)
    → Did mem_told mem_plan mem_faults added old None new
    → HasNoFuse old.disk → HasNoFuse new.disk
ran-one None old new did unfused =
    subst (λ (s : NotesState MemState). HasNoFuse s.disk) (sym did.1) unfused
ran-one (Some body) old new did unfused = planned-unfused 4 old.disk new.disk did.made.planned.1 unfused

either-ran : {H : Type 0} (note leaf : Option (List ℕ)) (old new : WalletState MemState H)
    → DidEither mem_told mem_plan mem_faults leaf note old None new → HasNoFuse old.notes_disk
    → HasNoFuse old.leaves_disk → HasNoFuse new.notes_disk × HasNoFuse new.leaves_disk
either-ran added None old new did unfused unfused' = grind (arith, common_steps, ran-one) steps 20000
either-ran added (Some leaf) old new did unfused unfused' = (
  subst HasNoFuse (sym did.disk) unfused,
  ran-one (Some leaf) (leaves_part old) (leaves_part new) did.did unfused',
)

pub ran-unfused : {H : Type 0} (deed : Doing) (old new : UpNode H) → UpDid deed old None new
    → NoFuses (up_halves old) → NoFuses (up_halves new)
ran-unfused deed (WalletUp old) (WalletUp new) did unfused =
    grind (arith, common_steps, either-ran, of-half) steps 20000
ran-unfused deed (WatcherUp old) (WatcherUp new) did unfused =
    record { notes = ran-one deed.note old.notes new.notes did.0 unfused.notes; leaves = of-none HasNoFuse }
ran-unfused deed (OperatorUp old) (OperatorUp new) did unfused =
    record { notes = ran-one deed.note old.notes new.notes did.0 unfused.notes; leaves = of-none HasNoFuse }
ran-unfused deed (WalletUp old) (WatcherUp new) did unfused = absurd did
ran-unfused deed (WalletUp old) (OperatorUp new) did unfused = absurd did
ran-unfused deed (WatcherUp old) (WalletUp new) did unfused = absurd did
ran-unfused deed (WatcherUp old) (OperatorUp new) did unfused = absurd did
ran-unfused deed (OperatorUp old) (WalletUp new) did unfused = absurd did
ran-unfused deed (OperatorUp old) (WatcherUp new) did unfused = absurd did

opened-one : (read : List ℕ → Result (List (List ℕ)) ℕ) (old : MemState) (new : NotesState MemState)
    → Opened mem_told mem_plan mem_faults read old new → HasNoFuse old → HasNoFuse new.disk
opened-one read old new opened unfused = planned-unfused 3 old new.disk opened.made.planned.1 unfused

pub opened-unfused : {H : Type 0} (dig : List ℕ → List ℕ) (down : DownNode) (up : UpNode H) → Opens dig down up
    → NoFuses (down_halves down) → NoFuses (up_halves up)
opened-unfused dig (WalletDown notes leaves key) (WalletUp node) opens unfused = record {
  notes = opened-one _ notes (notes_part node) opens.opens_notes unfused.notes;
  leaves = of-half HasNoFuse _
      (opened-one _ leaves (leaves_part node) opens.opens_leaves (unfused.leaves (kept_half leaves) refl));
}
opened-unfused dig (WatcherDown notes) (WatcherUp node) opens unfused =
    record { notes = opened-one _ notes node.notes opens unfused.notes; leaves = of-none HasNoFuse }
opened-unfused dig (OperatorDown notes) (OperatorUp node) opens unfused =
    record { notes = opened-one _ notes node.notes opens unfused.notes; leaves = of-none HasNoFuse }
opened-unfused dig (WalletDown notes leaves key) (WatcherUp node) opens unfused = absurd opens
opened-unfused dig (WalletDown notes leaves key) (OperatorUp node) opens unfused = absurd opens
opened-unfused dig (WatcherDown notes) (WalletUp node) opens unfused = absurd opens
opened-unfused dig (WatcherDown notes) (OperatorUp node) opens unfused = absurd opens
opened-unfused dig (OperatorDown notes) (WalletUp node) opens unfused = absurd opens
opened-unfused dig (OperatorDown notes) (WatcherUp node) opens unfused = absurd opens

pub crashed-unfused : (outcome : Outcome) (down : DownNode)
    → NoFuses (down_halves (with_disks (crashed outcome) down))
crashed-unfused outcome down = grind (arith, common_steps, of-half, of-none) steps 20000

-- ---- journals

kept-journal : (records : List (List ℕ)) (disk : MemState) → EachKeeps records disk.history → HasJournal disk
kept-journal records disk keeps = grind (arith, common_steps, content_may_be_left) steps 20000

pub keeps-journals : (halves : Halves) → KeepsAll halves → HaveJournals halves
keeps-journals halves keeps = record {
  notes = kept-journal halves.notes.records halves.notes.disk keeps.notes;
  leaves = λ half is. kept-journal half.records half.disk (keeps.leaves half is);
}

-- the leaves' disk of a node in which its kind is known
pub leaves-journal : (down other : DownNode) (half : Half) → HaveJournals (down_halves down) → down ≡ other
    → (down_halves other).leaves ≡ Some half → HasJournal half.disk
leaves-journal down other half have is at =
    (subst (λ (d : DownNode). HaveJournals (down_halves d)) is have).leaves half at

-- a copy of a disk with a journal is opened
found-in : (read : Result (List (List ℕ)) ℕ) → is_some (result_ok read) ≡ true
    → (records : List (List ℕ)) × (read ≡ Ok records)
found-in (Ok records) is = (records, refl)
found-in (Err place) is = absurd (false≢true is)

pub copy-opens : (disk copy new : MemState) (why : JournalRefusal) → HasJournal disk
    → content copy.history ≡ content disk.history → copy.fails ≡ [] → copy.fuse ≡ None
    → RefusesOpen journal_in mem_told mem_plan copy why new → why ≡ JournalNoMemory
copy-opens disk copy new why journal same empty unfused refuses =
    let found = found-in (journal_in (content disk.history)) journal in
    refused-one journal_in found.0 copy new why
    (passing-no_fuse 3 (plan_of copy) (λ n. Rattle.crash_disk.proofs.Plans.none_listed copy empty n) unfused)
    (ap journal_in same ∙ found.1) refuses
