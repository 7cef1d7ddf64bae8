use Rattle.std.proofs.Common.{inl, inr, sym, ap, ◌∙◌}
use Rattle.std.proofs.lemmas.Bool.{false≢true}
use Rattle.run_endings.specs.Faults.{CountsEither}
use Rattle.node_runs.proofs.QuietLaws.{refused-quiet}
use Rattle.hss_runs.proofs.FaultLaws.{signer-counts, refused-met}
use Rattle.hss_runs.proofs.CompleteLaws.{signing-complete}
use Rattle.hss_runs.proofs.run.run_signer.Goals as goal

pub returns-in-Ok-clause-runs : goal.returns-in-Ok-clause-runs
returns-in-Ok-clause-runs g c = inl (record {
  opened = c.in-Ok.signer.notes.notes;
  levels = c.in-Ok.signer.levels.notes;
  last = c.sign-status.new.levels.notes;
  opens = c.in-Ok.ensures.opened;
  notes_are = c.take_disk-notes.ensures;
  leaves_are = c.take_disk-leaves.ensures;
  signs = rw c.in-Ok.ensures.levels at c.sign-status.ensures.signs;
})

pub returns-in-Ok-clause-disk_faults : goal.returns-in-Ok-clause-disk_faults
returns-in-Ok-clause-disk_faults g c =
    signer-counts g.D.Disk.told g.D.Disk.plan g.D.Disk.faults _ _ _ _ _ _ _ c.args.message.now
    (returns-in-Ok-clause-runs g c)

pub returns-in-Ok-clause-complete : goal.returns-in-Ok-clause-complete
returns-in-Ok-clause-complete g c =
    signing-complete g.D.Disk.told g.D.Disk.plan g.D.Disk.faults _ _ _ c.args.message.now _ _ _ _
    (returns-in-Ok-clause-runs g c)

pub returns-in-Err-clause-complete : goal.returns-in-Err-clause-complete
returns-in-Err-clause-complete g c =
    signing-complete g.D.Disk.told g.D.Disk.plan g.D.Disk.faults _ _ _ c.args.message.now _ _ _ _
    (inr (record {
      why = c.in-Err.returned.why;
      refuses = c.in-Err.ensures.refused;
      ends = c.put_opening_refusal-status.ensures.ends;
    }))

-- ---- want of memory, where the sink takes none, met no fault

pub returns-in-Ok-clause-memory : goal.returns-in-Ok-clause-memory
returns-in-Ok-clause-memory g c = λ none is.
    let faults = g.D.Disk.faults in
    let opens = c.in-Ok.ensures.opened in (
      ap faults c.take_disk-notes.ensures ∙ opens.opens_notes.count,
      ap faults c.take_disk-leaves.ensures ∙ c.sign-status.ensures.memory none is ∙ opens.opens_leaves.count,
    )

pub returns-in-Err-clause-memory : goal.returns-in-Err-clause-memory
returns-in-Err-clause-memory g c = λ none is.
    refused-quiet
    (CountsEither g.D.Disk.faults c.args.notes c.args.leaves c.in-Err.returned.notes c.in-Err.returned.leaves)
    c.in-Err.returned.why (λ fault. false≢true (sym none ∙ c.put_opening_refusal-status.ensures.memory fault is))
    (refused-met g.D.Disk.told g.D.Disk.plan g.D.Disk.faults (g.K.Sink.taken c.args.sink.now)
    (g.K.Sink.taken c.put_opening_refusal-status.new.sink) c.put_opening_refusal-status.result c.args.notes
    c.args.leaves c.in-Err.returned.notes c.in-Err.returned.leaves c.in-Err.returned.why c.in-Err.ensures.refused)

-- ---- want of memory, where the sink takes none, spent no leaf

pub returns-in-Ok-clause-unspent : goal.returns-in-Ok-clause-unspent
returns-in-Ok-clause-unspent g c = λ none is.
    let unspent = c.sign-status.ensures.unspent none is in
    inl (record {
      opened = c.in-Ok.signer.notes.notes;
      levels = c.in-Ok.signer.levels.notes;
      opens = c.in-Ok.ensures.opened;
      notes_are = c.take_disk-notes.ensures;
      leaves_are = rw unspent at c.take_disk-leaves.ensures;
    })

pub returns-in-Err-clause-unspent : goal.returns-in-Err-clause-unspent
returns-in-Err-clause-unspent g c = λ none is. inr (c.in-Err.returned.why, c.in-Err.ensures.refused)
