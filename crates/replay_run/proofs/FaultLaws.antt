-- The faults that the disks of a run met, by its status, for each form.
use Rattle.std.proofs.Common.{◌≡◌, ℕ, Bool, false, List, Option, Some, None, refl, ap}
use Rattle.crash_disk.specs.Disk.{History, FaultPlan}
use Rattle.streamed_lines.specs.declared.ending.Ending.{Ending}
use Rattle.streamed_lines.specs.declared.ending.Ending.TheVariants.{Complete, BadLine, ReadFault, TooLong, Ended}
use Rattle.run_words.specs.declared.form.Form.{Form}
use Rattle.run_words.specs.declared.form.Form.TheVariants.{Replay, Brief, Wallet, Operator, Watcher, InitWallet, InitOperator, InitWatcher, Make, Verify, HssInit, HssSign, HssVerify, Audit, Archive}
use Rattle.run_endings.specs.declared.status.Status.{Status}
use Rattle.run_endings.specs.declared.status.Status.TheVariants.{DeviceFault}
use Rattle.run_endings.specs.Statuses.{FaultsBy}
use Rattle.run_endings.specs.Outputs.{Output, EndsAs}
use Rattle.run_endings.specs.Faults.{Counts, CountsEither}
use Rattle.node_runs.specs.Sessions.{Outside}
use Rattle.run_endings.proofs.FaultLaws.{other-status, none-met, by-more}
use Rattle.node_runs.proofs.FaultLaws.{notes-met, watcher-counts, operator-counts, wallet-counts, inits-count, inits-count-either}
use Rattle.hss_runs.specs.Verdict.{is_hss_verified, verdict_output}
use Rattle.hss_runs.proofs.FaultLaws.{signer-counts}
use Rattle.log_runs.specs.Following.{Following}
use Rattle.log_runs.specs.Auditing.{auditing}
use Rattle.log_runs.specs.Archiving.{archiving}
use Rattle.run_endings.specs.Endings.{status_of as log_status, session_output}
use Rattle.log_runs.specs.Runs.{RunsLog, lines_of}
use Rattle.replay_run.specs.declared.ending.NoCause.{NoCause}
use Rattle.replay_run.specs.Forms.{is_verified, uses_notes, uses_leaves}
use Rattle.replay_run.specs.Output.{status_of, usage_output, replay_output, brief_output, make_output, verify_output}
use Rattle.replay_run.specs.Replays.{replay_of}
use Rattle.replay_run.specs.Does.{DoesForm}

replay-other : (ending : Ending NoCause) → status_of ending ≡ DeviceFault → ⊥
replay-other Complete is = cc (is)
replay-other (BadLine n) is = cc (is)
replay-other ReadFault is = cc (is)
replay-other (TooLong n) is = cc (is)
replay-other (Ended n cause) is = elim cause [ ]

log-other : (ending : Ending (List ℕ)) → log_status ending ≡ DeviceFault → ⊥
log-other Complete is = cc (is)
log-other (BadLine n) is = cc (is)
log-other ReadFault is = cc (is)
log-other (TooLong n) is = cc (is)
log-other (Ended n cause) is = cc (is)

module _ {D : Type 0} (told : D → Option History) (plan : D → Option FaultPlan) (faults : D → ℕ)
    (dig : List ℕ → List ℕ) (notes leaves new_notes new_leaves : D) (outside : Outside) (failed : Type 0)
    (status : Status) where
  abbrev Met : Bool → Type 0
  Met = CountsEither faults notes leaves new_notes new_leaves

  -- a form that uses no disk, and has another status
  unused : (output : Output) (cause : Type 0) → (output.status ≡ DeviceFault → ⊥)
      → EndsAs output status outside.taken outside.after cause → new_notes ≡ notes → new_leaves ≡ leaves
      → FaultsBy status Met
  unused output cause never ends notes_stay leaves_stay =
      none-met Met status (other-status output status _ _ _ never ends) (ap faults notes_stay, ap faults leaves_stay)

  -- one that uses the notes alone
  of-notes : FaultsBy status (Counts faults notes new_notes) → new_leaves ≡ leaves → FaultsBy status Met
  of-notes counts leaves_stay =
      by-more (Counts faults notes new_notes) Met
      (λ fault met. notes-met told faults notes leaves new_notes new_leaves fault met (ap faults leaves_stay)) status
      counts

  -- one that follows a log
  followed : {A : Type 0} (following : Following A)
      → RunsLog following outside.left outside.later outside.taken outside.after failed status
      → new_notes ≡ notes → new_leaves ≡ leaves → FaultsBy status Met
  followed following does notes_stay leaves_stay =
      let lines = lines_of following does.bytes does.ended in
      unused (session_output lines) _ (log-other lines.ending) does.ends notes_stay leaves_stay

  pub does-count : (form : Option Form)
      → DoesForm told plan faults dig notes leaves new_notes new_leaves outside failed status form
      → (uses_notes form ≡ false → new_notes ≡ notes) → (uses_leaves form ≡ false → new_leaves ≡ leaves)
      → FaultsBy status Met
  does-count None does notes_stay leaves_stay =
      unused usage_output _ (λ is. cc (is)) does (notes_stay refl) (leaves_stay refl)
  does-count (Some Replay) does notes_stay leaves_stay =
      unused (replay_output dig does.bytes does.ended) _ (replay-other (replay_of dig does.bytes does.ended).ending)
      does.ends (notes_stay refl) (leaves_stay refl)
  does-count (Some Brief) does notes_stay leaves_stay =
      unused (brief_output dig does.bytes does.ended) _ (replay-other (replay_of dig does.bytes does.ended).ending)
      does.ends (notes_stay refl) (leaves_stay refl)
  does-count (Some Wallet) does notes_stay leaves_stay =
      wallet-counts told plan faults dig notes leaves new_notes new_leaves outside failed status does
  does-count (Some Operator) does notes_stay leaves_stay =
      operator-counts told plan faults dig notes leaves new_notes new_leaves outside failed status does
  does-count (Some Watcher) does notes_stay leaves_stay =
      of-notes (watcher-counts told plan faults dig notes new_notes outside failed status does) (leaves_stay refl)
  does-count (Some (InitWallet tag account seed types)) does notes_stay leaves_stay =
      inits-count-either told plan faults outside.taken outside.after status _ notes leaves new_notes new_leaves does
  does-count (Some (InitOperator tag account None)) does notes_stay leaves_stay =
      of-notes (inits-count told plan faults outside.taken outside.after status _ notes new_notes does)
      (leaves_stay refl)
  does-count (Some (InitOperator tag account (Some seed))) does notes_stay leaves_stay =
      inits-count-either told plan faults outside.taken outside.after status _ notes leaves new_notes new_leaves does
  does-count (Some (InitWatcher tag account)) does notes_stay leaves_stay =
      of-notes (inits-count told plan faults outside.taken outside.after status _ notes new_notes does)
      (leaves_stay refl)
  does-count (Some (Make seed count)) does notes_stay leaves_stay =
      unused (make_output seed count) _ (λ is. cc (is)) does (notes_stay refl) (leaves_stay refl)
  does-count (Some (Verify key message signature)) does notes_stay leaves_stay =
      unused (verify_output (is_verified key message signature)) _ (λ is. cc (is)) does (notes_stay refl)
      (leaves_stay refl)
  does-count (Some (HssInit seed)) does notes_stay leaves_stay =
      inits-count-either told plan faults outside.taken outside.after status _ notes leaves new_notes new_leaves does
  does-count (Some (HssSign message)) does notes_stay leaves_stay =
      signer-counts told plan faults outside.taken outside.after status notes leaves new_notes new_leaves message does
  does-count (Some (HssVerify key message signature)) does notes_stay leaves_stay =
      unused (verdict_output (is_hss_verified key message signature)) _ (λ is. cc (is)) does (notes_stay refl)
      (leaves_stay refl)
  does-count (Some (Audit key receipt)) does notes_stay leaves_stay =
      followed (auditing dig key receipt) does (notes_stay refl) (leaves_stay refl)
  does-count (Some Archive) does notes_stay leaves_stay =
      followed (archiving dig) does (notes_stay refl) (leaves_stay refl)
