use Rattle.std.proofs.Common.{false, refl}
use Rattle.streamed_lines.specs.Outside.{ReadsToFault}
use Rattle.run_endings.specs.Faults.{CountsEither}
use Rattle.safe_runs.specs.Runs.{usage_output}
use Rattle.safe_runs.proofs.DiskLooks.{looks-none}
use Rattle.safe_runs.proofs.FaultLaws.{by-first, first-only, none-met, reads-by, unread}
use Rattle.safe_runs.proofs.top.run_role.Goals as goal

pub returns-in-None-clause-notes : goal.returns-in-None-clause-notes
returns-in-None-clause-notes g c = looks-none g.D.Disk.told _ _ refl

pub returns-in-None-clause-leaves : goal.returns-in-None-clause-leaves
returns-in-None-clause-leaves g c = looks-none g.D.Disk.told _ _ refl

pub returns-in-Some-Watcher-clause-leaves : goal.returns-in-Some-Watcher-clause-leaves
returns-in-Some-Watcher-clause-leaves g c = looks-none g.D.Disk.told _ _ refl

pub returns-in-None-clause-source_faults : goal.returns-in-None-clause-source_faults
returns-in-None-clause-source_faults g c =
    reads-by (ReadsToFault (g.S.Source.faults c.args.source.now) (g.S.Source.faults c.args.source.now)
    (g.S.Source.failed_last c.args.source.now)) usage_output c.put_line.result _ _ ⊥ c.put_line.ensures.output
    (unread _ _)

pub returns-in-None-clause-disk_faults : goal.returns-in-None-clause-disk_faults
returns-in-None-clause-disk_faults g c =
    none-met (CountsEither g.D.Disk.faults c.args.notes c.args.leaves c.args.notes c.args.leaves) usage_output
    c.put_line.result _ _ ⊥ (λ is. absurd (cc is)) c.put_line.ensures.output (refl, refl)

pub returns-in-Some-Watcher-clause-disk_faults : goal.returns-in-Some-Watcher-clause-disk_faults
returns-in-Some-Watcher-clause-disk_faults g c =
    by-first g.D.Disk.faults _ _ _ _ c.run_watcher-status.ensures.disk_faults

pub returns-in-None-clause-source_memory : goal.returns-in-None-clause-source_memory
returns-in-None-clause-source_memory g c = λ none is. unread _ _

pub returns-in-None-clause-memory : goal.returns-in-None-clause-memory
returns-in-None-clause-memory g c = λ none is. (refl, refl)

pub returns-in-Some-Watcher-clause-memory : goal.returns-in-Some-Watcher-clause-memory
returns-in-Some-Watcher-clause-memory g c = λ none is.
    first-only g.D.Disk.faults _ _ _ false (c.run_watcher-status.ensures.memory none is)
