use Rattle.gate_journal.proofs.Words.{ℕ, List, [], ◌∷◌, err_from_is_err_and, Step, writes, syncs, passed, failed_after, made_none, made_fault, made_more}
use Rattle.gate_journal.proofs.steps.write_record.Goals as goal

-- the steps from the first sync on, from the gate on, and the last one
abbrev three : ℕ → List Step
three gate = syncs ∷ writes gate (165 ∷ []) ∷ syncs ∷ []

abbrev two : ℕ → List Step
two gate = writes gate (165 ∷ []) ∷ syncs ∷ []

abbrev one : List Step
one = syncs ∷ []

pub returns-in_err-write_at-clause-made : goal.returns-in_err-write_at-clause-made
returns-in_err-write_at-clause-made g c =
    let told = g.D.Disk.told in
    let plan = g.D.Disk.plan in
    let p = err_from_is_err_and c.from_residual.result c.from_residual.ensures.1 in
    rw p.1 (0, made_fault told plan (three c.args.gate) 3 c.in_err-write_at.ensures.called)

pub returns-in_err-sync-clause-made : goal.returns-in_err-sync-clause-made
returns-in_err-sync-clause-made g c =
    let told = g.D.Disk.told in
    let plan = g.D.Disk.plan in
    let p = err_from_is_err_and c.from_residual-in_err-sync.result c.from_residual-in_err-sync.ensures.1 in
    rw p.1 (
      1,
      made_more told plan (three c.args.gate) 3 (failed_after 0) c.in_ok-write_at.ensures.called
          (made_fault told plan (two c.args.gate) 2 c.in_err-sync.ensures.called),
    )

pub returns-in_err-write_at-2-clause-made : goal.returns-in_err-write_at-2-clause-made
returns-in_err-write_at-2-clause-made g c =
    let told = g.D.Disk.told in
    let plan = g.D.Disk.plan in
    let p = err_from_is_err_and c.from_residual-in_err-write_at-2.result c.from_residual-in_err-write_at-2.ensures.1 in
    rw p.1 (
      2,
      made_more told plan (three c.args.gate) 3 (failed_after 1) c.in_ok-write_at.ensures.called
          (made_more told plan (two c.args.gate) 2 (failed_after 0) c.in_ok-sync.ensures.called
          (made_fault told plan one 1 c.in_err-write_at-2.ensures.called)),
    )

pub returns-in_err-sync-2-clause-made : goal.returns-in_err-sync-2-clause-made
returns-in_err-sync-2-clause-made g c =
    let told = g.D.Disk.told in
    let plan = g.D.Disk.plan in
    let p = err_from_is_err_and c.from_residual-in_err-sync-2.result c.from_residual-in_err-sync-2.ensures.1 in
    rw p.1 (
      3,
      made_more told plan (three c.args.gate) 3 (failed_after 2) c.in_ok-write_at.ensures.called
          (made_more told plan (two c.args.gate) 2 (failed_after 1) c.in_ok-sync.ensures.called
          (made_more told plan one 1 (failed_after 0) c.in_ok-write_at-2.ensures.called
          (made_fault told plan [] 0 c.in_err-sync-2.ensures.called))),
    )

pub returns-clause-made : goal.returns-clause-made
returns-clause-made g c =
    let told = g.D.Disk.told in
    let plan = g.D.Disk.plan in
    made_more told plan (three c.args.gate) 3 passed c.in_ok-write_at.ensures.called
    (made_more told plan (two c.args.gate) 2 passed c.in_ok-sync.ensures.called
    (made_more told plan one 1 passed c.in_ok-write_at-2.ensures.called
    (made_more told plan [] 0 passed c.in_ok-sync-2.ensures.called (made_none told plan _))))
