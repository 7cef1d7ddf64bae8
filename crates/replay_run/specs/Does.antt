-- What a run does, by what its words ask for.
use Rattle.std.specs.Prelude.{◌≡◌, ◌⊎◌, ℕ, Bool, List, Option, Some, None}
use Rattle.crash_disk.specs.Disk.{History, FaultPlan}
use Rattle.node_rules.specs.{Watcher.{identity_text as watcher_text}, WalletRecords.{identity_text as wallet_text}}
use Rattle.operator_rules.specs.Records.{identity_text as operator_text}
use Rattle.run_words.specs.{declared.form.Form.{Form}, declared.form.Form.TheVariants.{Replay, Brief, Wallet, Operator, Watcher, InitWallet, InitOperator, InitWatcher, Make, Verify, HssInit, HssSign, HssVerify, Audit, Archive}}
use Rattle.run_endings.specs.{declared.status.Status.{Status}, declared.status.Status.TheVariants.{NoMemory}, Outputs.{Output, EndsAs}}
use Rattle.node_runs.specs.{Sessions.{Outside}, Runs.{RunsWatcher, RunsWallet}, Operators.{RunsOperator}, Inits.{InitsNotes, InitsPair}}
use Rattle.hss_runs.specs.{Identity.{identity_text as signer_text}, Runs.{RunsSigner}, Verdict.{is_hss_verified, verdict_output}}
use Rattle.log_runs.specs.{Following.{Following}, Auditing.{auditing}, Archiving.{archiving}, Runs.{RunsLog}}
use Rattle.replay_run.specs.{Forms.{is_verified}, Output.{usage_output, replay_output, brief_output, make_output, verify_output}, Bounds.{FewBy}, Runs.{RanOver}}

-- Over disks that tell their history, foretell their faults and count them, and under a digest: a run that was handed
-- these disks of notes and of leaves and hands them back so, that did this outside, and has this status; `failed` says
-- that its reading failed.
module _ {D : Type 0} (told : D → Option History) (plan : D → Option FaultPlan) (faults : D → ℕ)
    (dig : List ℕ → List ℕ) (notes leaves new_notes new_leaves : D) (outside : Outside) (failed : Type 0)
    (status : Status) where
  -- It writes this text. That it reads nothing and leaves the disks is said by clauses of their own.
  abbrev pub Writes : Output → Type 0
  Writes output = EndsAs output status outside.taken outside.after ⊥

  -- it reads a schedule, and writes the text of this output of it; a bad line, or one past a limit, ended it before
  -- more than a room was taken behind it
  abbrev pub Reads : (List ℕ → Bool → Output) → Type 0
  Reads output =
      RanOver output (FewBy dig) outside.left outside.later outside.taken outside.after failed status

  -- it reads a log and the lines behind it, and answers those by what follows the log
  abbrev pub Follows : {A : Type 0} → Following A → Type 0
  Follows following =
      RunsLog following outside.left outside.later outside.taken outside.after failed status

  -- what each form asks for
  abbrev pub DoesForm : Option Form → Type 0
  DoesForm None = Writes usage_output
  DoesForm (Some Replay) = Reads (replay_output dig)
  DoesForm (Some Brief) = Reads (brief_output dig)
  DoesForm (Some Wallet) = RunsWallet told plan faults dig notes leaves new_notes new_leaves outside failed status
  DoesForm (Some Operator) =
      RunsOperator told plan faults dig notes leaves new_notes new_leaves outside failed status
  DoesForm (Some Watcher) = RunsWatcher told plan faults dig notes new_notes outside failed status
  DoesForm (Some (InitWallet tag account seed types)) =
      InitsPair told plan faults outside.taken outside.after status
      (wallet_text (record { tag = tag; account = account; seed = seed; types = types }))
      notes leaves new_notes new_leaves
  DoesForm (Some (InitOperator tag account None)) =
      InitsNotes told plan faults outside.taken outside.after status
      (operator_text (record { tag = tag; account = account; key_seed = None })) notes new_notes
  DoesForm (Some (InitOperator tag account (Some seed))) =
      InitsPair told plan faults outside.taken outside.after status
      (operator_text (record { tag = tag; account = account; key_seed = Some seed }))
      notes leaves new_notes new_leaves
  DoesForm (Some (InitWatcher tag account)) =
      InitsNotes told plan faults outside.taken outside.after status
      (watcher_text (record { tag = tag; account = account })) notes new_notes
  DoesForm (Some (Make seed count)) = Writes (make_output seed count)
  DoesForm (Some (Verify key message signature)) = Writes (verify_output (is_verified key message signature))
  DoesForm (Some (HssInit seed)) =
      InitsPair told plan faults outside.taken outside.after status (signer_text seed)
      notes leaves new_notes new_leaves
  DoesForm (Some (HssSign message)) =
      RunsSigner told plan faults outside.taken outside.after status message notes leaves new_notes new_leaves
  DoesForm (Some (HssVerify key message signature)) = Writes (verdict_output (is_hss_verified key message signature))
  DoesForm (Some (Audit key receipt)) = Follows (auditing dig key receipt)
  DoesForm (Some Archive) = Follows (archiving dig)

  -- memory ran out while the words were read: nothing was read or written, and no disk was used
  pub record ReadsNoWords : Type 0 where
    pub is : status ≡ NoMemory
    pub unread : outside.later ≡ outside.left
    pub unwritten : outside.after ≡ outside.taken
    pub notes_stay : new_notes ≡ notes
    pub leaves_stay : new_leaves ≡ leaves

  -- what a run does whose words are this form, or none
  abbrev pub Does : Option Form → Type 0
  Does form = DoesForm form ⊎ ReadsNoWords
