use Rattle.std.proofs.Common.{inl, refl, sym, None, ◌∙◌}
use Rattle.std.proofs.lemmas.Bool.{false≢true}
use contract.BorrowLft.{⊑_meet, ⊑_static}
use Rattle.node_journal.specs.Parts.{alone}
use Rattle.node_roles.specs.Roles.{operator_commands}
use Rattle.node_runs.specs.Operators.{RunsOperator}
use Rattle.node_runs.specs.Prompt.{OperatorPromptly}
use Rattle.run_endings.specs.Faults.{Counts}
use Rattle.node_runs.proofs.DiskLaws.{opened-there, handed-back}
use Rattle.node_runs.proofs.OperatorLaws.{runs-behind, promptly-behind}
use Rattle.node_runs.proofs.QuietLaws.{refused-quiet, session-quiet, alone-quiet}
use Rattle.node_runs.proofs.operator.run_operator.Goals as goal

pub run_session-run-requires : goal.run_session-run-requires
run_session-run-requires g c κs within =
    let d = within.0 in
    let h = within.1.0 in (
      search (⊑_meet, ⊑_static, d, h) depth 40 fits 20000,
      (
        within.1.1.0,
        (
          within.1.1.1,
          (
            ⊑_static _,
            (
              c.in-Ok.ensures.opened.is_open,
              (
                refl,
                (
                  opened-there g.D.Disk.told g.D.Disk.faults c.in-Ok.node.notes c.in-Ok.ensures.opened.is_open
                      c.in-Ok.ensures.opened.settled,
                  tt,
                ),
              ),
            ),
          ),
        ),
      ),
    )

-- ---- with a key

pub returns-in-Some-clause-runs : goal.returns-in-Some-clause-runs
unfolding RunsOperator
returns-in-Some-clause-runs g c =
    inl (
      c.in-Ok.node.notes,
      c.in-Ok.ensures.opened,
      runs-behind g.D.Disk.told g.D.Disk.plan g.D.Disk.faults (g.H.Hash32.digest_of c.args.h) _ _ c.in-Some.ensures
          c.in-Ok.node.notes c.args.leaves _ _ _ _ _ c.run_with_key.ensures.runs,
    )

pub returns-in-Some-clause-prompt : goal.returns-in-Some-clause-prompt
unfolding OperatorPromptly
returns-in-Some-clause-prompt g c =
    inl (
      c.in-Ok.node.notes,
      c.in-Ok.ensures.opened,
      promptly-behind g.D.Disk.told g.D.Disk.plan g.D.Disk.faults (g.H.Hash32.digest_of c.args.h) _ _
          c.in-Some.ensures c.in-Ok.node.notes c.args.leaves _ _ c.run_with_key.ensures.prompt,
    )

-- ---- without one

pub returns-in-None-clause-runs : goal.returns-in-None-clause-runs
unfolding RunsOperator
returns-in-None-clause-runs g c =
    let told = g.D.Disk.told in
    let faults = g.D.Disk.faults in
    let runs = rw c.in-Ok.ensures.hash at c.run_session-run.ensures.runs in
    inl (
      c.in-Ok.node.notes,
      c.in-Ok.ensures.opened,
      runs-behind told g.D.Disk.plan faults (g.H.Hash32.digest_of c.args.h) None _ c.in-None.ensures
          c.in-Ok.node.notes c.args.leaves _ _ _ _ _ (
            rw c.take_disk.ensures
                (handed-back told g.D.Disk.plan faults (g.H.Hash32.digest_of c.args.h) operator_commands
                (alone c.in-Ok.node.notes) (alone c.run_session-run.result.0.node.notes) _ _ (λ at is. is.1)
                (λ log at line stop is. is) _ _ _ runs),
            refl,
          ),
    )

pub returns-in-None-clause-prompt : goal.returns-in-None-clause-prompt
unfolding OperatorPromptly
returns-in-None-clause-prompt g c =
    inl (
      c.in-Ok.node.notes,
      c.in-Ok.ensures.opened,
      promptly-behind g.D.Disk.told g.D.Disk.plan g.D.Disk.faults (g.H.Hash32.digest_of c.args.h) None _
          c.in-None.ensures c.in-Ok.node.notes c.args.leaves _ _
          (rw c.in-Ok.ensures.hash at c.run_session-run.ensures.prompt),
    )

-- ---- for want of memory, where the sink takes none

pub returns-in-Some-clause-memory : goal.returns-in-Some-clause-memory
returns-in-Some-clause-memory g c = λ none is.
    let met = c.run_with_key.ensures.memory none is in (met.0 ∙ c.in-Ok.ensures.opened.count, met.1)

pub returns-in-None-clause-memory : goal.returns-in-None-clause-memory
returns-in-None-clause-memory g c = λ none is.
    let told = g.D.Disk.told in
    let plan = g.D.Disk.plan in
    let faults = g.D.Disk.faults in
    let dig = g.H.Hash32.digest_of c.args.h in
    let left = c.run_session-run.result.0.node.notes in
    let unfailed = rw c.in-Ok.ensures.hash at (c.run_session-run.ensures.memory none is) in (
      rw c.take_disk.ensures
          (alone-quiet told plan faults dig c.in-Ok.node.notes left c.args.notes c.in-Ok.ensures.opened.count
          (session-quiet told plan faults dig operator_commands (alone c.in-Ok.node.notes) (alone left) _ _
          (λ at is. is.1) (λ log at line is. is) _ _ _ is unfailed)),
      refl,
    )

pub returns-in-Err-clause-memory : goal.returns-in-Err-clause-memory
returns-in-Err-clause-memory g c = λ none is. (
  refused-quiet (Counts g.D.Disk.faults c.args.notes c.in-Err.returned.disk) c.in-Err.returned.why
      (λ fault. false≢true (sym none ∙ c.put_opening_refusal-status.ensures.memory fault is))
      c.in-Err.ensures.refused.count,
  refl,
)
