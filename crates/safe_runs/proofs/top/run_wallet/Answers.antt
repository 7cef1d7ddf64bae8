use Rattle.std.proofs.Common.{inl, inr, sym, ◌∙◌}
use Rattle.std.proofs.lemmas.Bool.{false≢true}
use Rattle.streamed_lines.specs.Outside.{ReadsToFault}
use Rattle.streamed_lines.proofs.OutsideLaws.{gave-none}
use Rattle.run_endings.specs.Faults.{CountsEither}
use Rattle.safe_runs.specs.Runs.{lines_of, look_output}
use Rattle.safe_runs.proofs.FaultLaws.{ended-other, none-met, refused-met, refused-read, refused-unmet, unread}
use Rattle.safe_runs.proofs.top.run_wallet.Goals as goal

pub returns-in-Ok-clause-runs : goal.returns-in-Ok-clause-runs
returns-in-Ok-clause-runs g c =
    let read = c.in-Ok.ensures.read in
    inl (read.0, read.1, c.run_look.ensures.looks read.0 read.2)

pub returns-in-Err-clause-runs : goal.returns-in-Err-clause-runs
returns-in-Err-clause-runs g c =
    inr (
      c.in-Err.why,
      c.in-Err.ensures.refused,
      record { gave = gave-none _; ends = c.put_refusal.ensures.ends },
    )

pub returns-in-Ok-clause-source_faults : goal.returns-in-Ok-clause-source_faults
returns-in-Ok-clause-source_faults g c =
    let read = c.in-Ok.ensures.read in c.run_look.ensures.source_faults read.0 read.2

pub returns-in-Err-clause-source_faults : goal.returns-in-Err-clause-source_faults
returns-in-Err-clause-source_faults g c =
    refused-read c.put_refusal.result _ _
    (ReadsToFault (g.S.Source.faults c.args.source.now) (g.S.Source.faults c.args.source.now)
    (g.S.Source.failed_last c.args.source.now))
    c.in-Err.why c.put_refusal.ensures.ends (unread _ _)

pub returns-in-Ok-clause-disk_faults : goal.returns-in-Ok-clause-disk_faults
returns-in-Ok-clause-disk_faults g c =
    let read = c.in-Ok.ensures.read in
    let looks = c.run_look.ensures.looks read.0 read.2 in
    let lines = lines_of read.0 looks.bytes looks.ended in
    none-met
    (CountsEither g.D.Disk.faults c.args.notes.now c.args.leaves.now c.read_wallet.new.notes
    c.read_wallet.new.leaves)
    (look_output read.0 looks.bytes looks.ended) c.run_look.result _ _ _
    (ended-other read.0 lines.stream.run lines.ending) looks.ends c.in-Ok.ensures.faults

pub returns-in-Err-clause-disk_faults : goal.returns-in-Err-clause-disk_faults
returns-in-Err-clause-disk_faults g c =
    refused-met c.put_refusal.result _ _
    (CountsEither g.D.Disk.faults c.args.notes.now c.args.leaves.now c.read_wallet.new.notes
    c.read_wallet.new.leaves)
    c.in-Err.why c.put_refusal.ensures.ends c.in-Err.ensures.faults

-- ---- a run that ends for want of memory over a sink that takes none met no fault

pub returns-in-Ok-clause-source_memory : goal.returns-in-Ok-clause-source_memory
returns-in-Ok-clause-source_memory g c =
    c.run_look.ensures.source_memory

pub returns-in-Err-clause-source_memory : goal.returns-in-Err-clause-source_memory
returns-in-Err-clause-source_memory g c = λ none is. unread _ _

pub returns-in-Ok-clause-memory : goal.returns-in-Ok-clause-memory
returns-in-Ok-clause-memory g c = λ none is. c.in-Ok.ensures.faults

pub returns-in-Err-clause-memory : goal.returns-in-Err-clause-memory
returns-in-Err-clause-memory g c = λ none is.
    refused-unmet (CountsEither g.D.Disk.faults c.args.notes.now c.args.leaves.now c.read_wallet.new.notes
    c.read_wallet.new.leaves) c.in-Err.why
    (λ fault. false≢true (sym none ∙ c.put_refusal.ensures.memory fault is)) c.in-Err.ensures.faults
