-- What crashes leave of openings that were cut.
use Rattle.world_nodes.proofs.Words.{◌≡◌, ◌+◌, ◌∷◌, [], ℕ, zero, suc, min, true, false, nat_lt, List, length, Result, inl, inr, refl, sym, ◌∙◌, subst, arith, ◌≤◌, ltb-true, common_steps, History, MayLeave, content, failed_after, after_course, MemState, plan_of, with_fuse, Outcome, passing-fuse, open_steps, RefusesOpen, JournalFault, NotesState, role_in, wallet_kinds, watcher_kinds, operator_kinds, wallet_of, DownNode, WalletDown, WatcherDown, OperatorDown, EachKeeps, IsLeft, mem_told, mem_plan, NoneListed, Half, kept_of, kept_half, crashed, NoneListedOf, leaves_of, bare_node, down_kind, down_halves, with_disks, RefusesDown}
use Rattle.gate_journal.proofs.Stopped.{stopped_openings}
use Rattle.world_nodes.proofs.Halves.{HalfOpened, half_opened, role_reads, planned_listed, kept_left}
use Rattle.world_nodes.proofs.Runs.{KeepsAll}
use Rattle.world_nodes.proofs.Cuts.{AreLeft}

made_longer : (count : ℕ) (steps : List Rattle.crash_disk.specs.Disk.Step)
    (calls : List Rattle.crash_disk.specs.Disk.DeviceCall)
    → length calls ≤ length (Rattle.crash_disk.specs.Calls.made_of count steps calls)
made_longer count [] calls = omega arith
made_longer zero (step ∷ steps) calls = omega arith
made_longer (suc count) (step ∷ steps) calls =
    let more = made_longer count steps (record { step = step; failed = false } ∷ calls) in omega (arith, more)

-- a journal that wasn't opened for a device fault leaves what it could have left before
refused_half : (read : List ℕ → Result (List (List ℕ)) ℕ) (records : List (List ℕ)) (disk left : MemState)
    → EachKeeps records disk.history → NoneListed disk
    → RefusesOpen read mem_told mem_plan disk JournalFault left
    → EachKeeps records left.history × NoneListed left
refused_half read records disk left keeps none refuses =
    let count = refuses.0 in
    let steps = open_steps (content disk.history) in
    let now = after_course (failed_after count) steps disk.history in
    let told : left.history ≡ now = cc refuses.1.calls in
    let longer : length disk.history.calls ≤ length now.calls = made_longer count steps disk.history.calls in (
      λ image may.
          keeps image (stopped_openings disk.history (failed_after count) image
          (0, omega (arith, longer), subst (λ (h : History). MayLeave h image) told may)),
      planned_listed (count + 1) disk left refuses.1.planned.2 none,
    )

module _ (calls : ℕ) (few : nat_lt calls 3 ≡ true) (outcome : Outcome) where
  refused_left : (read : List ℕ → Result (List (List ℕ)) ℕ) (disk left : MemState)
      → EachKeeps (kept_of disk.history) disk.history → NoneListed disk
      → RefusesOpen read mem_told mem_plan (with_fuse calls disk) JournalFault left
      → IsLeft (kept_of disk.history) (kept_half (crashed outcome left))
  refused_left read disk left keeps none refuses =
      let by = refused_half read (kept_of disk.history) (with_fuse calls disk) left keeps
      (record { listed = none.listed }) refuses in
      kept_left (kept_of disk.history) outcome left by.0 by.1

  -- the notes' journal isn't opened: too few calls pass
  pub never_opened : (records : List (List ℕ)) (disk : MemState) (new : NotesState MemState) → NoneListed disk
      → HalfOpened records (with_fuse calls disk) new → ⊥
  never_opened records disk new none opened =
      let all : 3 ≡ min 3 calls =
      sym opened.passes ∙ passing-fuse 3 calls (plan_of (with_fuse calls disk)) none.listed refl in
      grind (arith, common_steps, ltb-true) steps 20000

  pub refused_cut : (dig : List ℕ → List ℕ) (down left : DownNode) → KeepsAll (down_halves down)
      → NoneListedOf (down_halves down) → RefusesDown dig (with_disks (with_fuse calls) down) JournalFault left
      → (down_kind left ≡ down_kind down)
      × AreLeft (down_halves down).notes.records (leaves_of (down_halves down))
      (down_halves (with_disks (crashed outcome) left))
  refused_cut dig (WalletDown notes leaves key) (WalletDown new_notes new_leaves new_key) keeps none refuses =
      elim refuses [
        | inl behind ↦ (
          refl,
          record {
            left_notes = refused_left (role_in (wallet_kinds dig)) notes new_notes keeps.notes none.notes
                behind.0.refused;
            left_leaves = subst (λ (d : MemState). IsLeft (kept_of leaves.history) (kept_half (crashed outcome d)))
                (sym behind.1)
                (kept_left (kept_of leaves.history) outcome (with_fuse calls leaves)
                (keeps.leaves (kept_half leaves) refl)
                (record { listed = (none.leaves (kept_half leaves) refl).listed }));
          },
        )
        | inr opened ↦ absurd (never_opened (kept_of notes.history) notes opened.0 none.notes
            (half_opened (role_in (wallet_kinds dig)) (role_reads (wallet_kinds dig)) (kept_of notes.history)
            (with_fuse calls notes) opened.0 opened.1 keeps.notes))
      ]
  refused_cut dig (WatcherDown notes) (WatcherDown new) keeps none refuses = (
    refl,
    record {
      left_notes = refused_left (role_in (watcher_kinds dig)) notes new keeps.notes none.notes refuses.refused;
      left_leaves = refl;
    },
  )
  refused_cut dig (OperatorDown notes) (OperatorDown new) keeps none refuses = (
    refl,
    record {
      left_notes = refused_left (role_in operator_kinds) notes new keeps.notes none.notes refuses.refused;
      left_leaves = refl;
    },
  )
  refused_cut dig (WalletDown notes leaves key) (WatcherDown new) keeps none refuses = absurd refuses
  refused_cut dig (WalletDown notes leaves key) (OperatorDown new) keeps none refuses = absurd refuses
  refused_cut dig (WatcherDown notes) (WalletDown new_notes new_leaves new_key) keeps none refuses = absurd refuses
  refused_cut dig (WatcherDown notes) (OperatorDown new) keeps none refuses = absurd refuses
  refused_cut dig (OperatorDown notes) (WalletDown new_notes new_leaves new_key) keeps none refuses = absurd refuses
  refused_cut dig (OperatorDown notes) (WatcherDown new) keeps none refuses = absurd refuses

-- disks with a fuse keep what they kept
pub fused_keeps : (calls : ℕ) (down : DownNode) → KeepsAll (down_halves down)
    → KeepsAll (down_halves (with_disks (with_fuse calls) down))
fused_keeps calls (WalletDown notes leaves key) keeps = record {
  notes = keeps.notes;
  leaves = λ half is.
      (let same : kept_half (with_fuse calls leaves) ≡ half = cc is in
      subst (λ (h : Half). EachKeeps h.records h.disk.history) same (keeps.leaves (kept_half leaves) refl));
}
fused_keeps calls (WatcherDown notes) keeps = record { notes = keeps.notes; leaves = λ half is. absurd (cc is) }
fused_keeps calls (OperatorDown notes) keeps = record { notes = keeps.notes; leaves = λ half is. absurd (cc is) }

pub fused_listed : (calls : ℕ) (down : DownNode) → NoneListedOf (down_halves down)
    → NoneListedOf (down_halves (with_disks (with_fuse calls) down))
fused_listed calls (WalletDown notes leaves key) none = record {
  notes = record { listed = none.notes.listed };
  leaves = λ half is.
      (let same : kept_half (with_fuse calls leaves) ≡ half = cc is in
      subst (λ (h : Half). NoneListed h.disk) same
      (record { listed = (none.leaves (kept_half leaves) refl).listed }));
}
fused_listed calls (WatcherDown notes) none =
    record { notes = record { listed = none.notes.listed }; leaves = λ half is. absurd (cc is) }
fused_listed calls (OperatorDown notes) none =
    record { notes = record { listed = none.notes.listed }; leaves = λ half is. absurd (cc is) }

pub fused_same : (calls : ℕ) (down : DownNode)
    → wallet_of (bare_node (down_halves (with_disks (with_fuse calls) down)))
    ≡ wallet_of (bare_node (down_halves down))
fused_same calls down = grind (arith, common_steps) steps 20000
