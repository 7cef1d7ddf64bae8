-- What a signing wrote is a beginning of its answer, or of what it says of a device fault.
use Rattle.std.proofs.Common.{◌≡◌, ◌⊎◌, ℕ, if◌then◌else◌, List, [], ◌++◌, Option, Some, None, Result, Ok, Err, refl, sym, ap, subst, inl, inr}
use Rattle.std.proofs.lemmas.List.{append-nil}
use Rattle.crash_disk.specs.Disk.{History, FaultPlan}
use Rattle.node_journal.specs.Notes.{NotesState}
use Rattle.streamed_lines.specs.Outside.{Wrote, WroteFront}
use Rattle.run_endings.specs.Texts.{device_fault_text}
use Rattle.run_endings.specs.Endings.{fault_output}
use Rattle.run_endings.specs.declared.status.Status.{Status}
use Rattle.node_runs.specs.Sessions.{Outside}
use Rattle.hss_keys.specs.declared.seed.HssSeed.{HssSeed}
use Rattle.hss_runs.specs.Identity.{seed_of}
use Rattle.hss_runs.specs.Signing.{signing, said_output}
use Rattle.hss_runs.specs.Runs.{Signs, RunsSigner}
use Rattle.node_lives.specs.Disks.{Pair}
use Rattle.node_lives.specs.Calls.{Asked, ToBegin, ToRun, ToSign, ToUseNoDisk, DoesAsked, Starves}
use Rattle.node_lives.proofs.Written.{ends-front}
use Rattle.key_lives.specs.Signers.{SignerRun, adds_all, signer_run, signer_run_by}
use Rattle.key_lives.specs.SignerLaws.{SigningsWriteTheirAnswers}

-- nothing was written
nothing-wrote : (taken : Option (List ℕ)) → Wrote taken taken []
nothing-wrote None = refl
nothing-wrote (Some taken) = ap (λ (t : List ℕ). Some t) (sym (append-nil taken))

-- an answer, or a refusal, is all that is said
said-front : (before after : Option (List ℕ)) (says : Result (List ℕ) (List ℕ))
    → WroteFront before after ((said_output says).answers ++ (said_output says).last)
    → WroteFront before after (said_output says).last
said-front before after (Ok text) front = front
said-front before after (Err cause) front = front

module _ {D : Type 0} (told : D → Option History) (plan : D → Option FaultPlan) (faults : D → ℕ)
    (dig : List ℕ → List ℕ) where
  abbrev Writes : Outside → SignerRun → Type 0
  Writes outside run =
      WroteFront outside.taken outside.after
      (if run.is_added then (said_output (signing run.seed run.found run.message).says).last else device_fault_text)

  signs-write : (seed : HssSeed) (message : List ℕ) (outside : Outside) (status : Status) (old new : NotesState D)
      → (signs : Signs told plan faults outside.taken outside.after status (signing seed old.records message) old new)
      → Writes outside (record {
        seed = seed;
        message = message;
        found = old.records;
        is_added = adds_all told plan faults dig signs;
      })
  signs-write seed message outside status old new (inl whole) =
      said-front outside.taken outside.after (signing seed old.records message).says
      (ends-front (said_output (signing seed old.records message).says) status outside.taken outside.after ⊥
      whole.ends)
  signs-write seed message outside status old new (inr (inl part)) =
      ends-front (fault_output []) status outside.taken outside.after ⊥ part.ends
  signs-write seed message outside status old new (inr (inr nothing)) = record {
    front = [];
    back = device_fault_text;
    whole = refl;
    wrote = subst (λ (t : Option (List ℕ)). Wrote outside.taken t []) (sym nothing.unwritten)
        (nothing-wrote outside.taken);
  }

  abbrev WritesOf : Outside → Option SignerRun → Type 0
  WritesOf outside run = (one : SignerRun) → run ≡ Some one → Writes outside one

  run-writes : (message : List ℕ) (old new : Pair D) (outside : Outside) (status : Status)
      → (did : RunsSigner told plan faults outside.taken outside.after status message old.notes old.leaves new.notes
      new.leaves)
      → WritesOf outside (signer_run told plan faults dig message old new outside status did)
  unfolding signer_run
  run-writes message old new outside status (inl ran) one is =
      let run : SignerRun = record {
        seed = seed_of ran.opened.records;
        message = message;
        found = ran.levels.records;
        is_added = adds_all told plan faults dig ran.signs;
      } in
      let same : run ≡ one = cc is in
      subst (Writes outside) same
      (signs-write (seed_of ran.opened.records) message outside status ran.levels ran.last ran.signs)
  run-writes message old new outside status (inr refused) one is = absurd (cc is)

  none-writes : (outside : Outside) → WritesOf outside None
  none-writes outside one is = absurd (cc is)

  by-writes : (asked : Asked) (old new : Pair D) (outside : Outside) (status : Status)
      → (did : DoesAsked told plan faults dig asked old new outside status ⊎ Starves old new status)
      → WritesOf outside (signer_run_by told plan faults dig asked old new outside status did)
  unfolding signer_run_by
  by-writes (ToSign message) old new outside status (inl did) = run-writes message old new outside status did
  by-writes (ToSign message) old new outside status (inr starves) = none-writes outside
  by-writes (ToBegin disks identity) old new outside status did = none-writes outside
  by-writes (ToRun role) old new outside status did = none-writes outside
  by-writes ToUseNoDisk old new outside status did = none-writes outside

  pub signings_write_their_answers : SigningsWriteTheirAnswers told plan faults dig
  signings_write_their_answers call run is =
      by-writes call.asked call.old call.new call.outside call.status call.did run is
