use Rattle.std.proofs.Common.{inl, inr, refl, sym, ◌∙◌}
use Rattle.std.proofs.lemmas.Bool.{false≢true}
use contract.BorrowLft.{⊑_meet, ⊑_static}
use Rattle.node_journal.specs.Parts.{alone}
use Rattle.node_roles.specs.Roles.{watcher_commands}
use Rattle.streamed_lines.proofs.OutsideLaws.{gave-none}
use Rattle.node_runs.specs.Runs.{RunsWatcher}
use Rattle.node_runs.specs.Prompt.{WatcherPromptly}
use Rattle.run_endings.specs.Faults.{Counts}
use Rattle.node_runs.proofs.DiskLaws.{opened-there, handed-back}
use Rattle.node_runs.proofs.QuietLaws.{refused-quiet, session-quiet, alone-quiet}
use Rattle.node_runs.proofs.watcher.run_watcher.Goals as goal

pub run_session-run-requires : goal.run_session-run-requires
run_session-run-requires g c κs within =
    let d = within.0 in
    let h = within.1.0 in (
      search (⊑_meet, ⊑_static, d, h) depth 40 fits 20000,
      (
        within.1.1.0,
        (
          within.1.1.1,
          (
            ⊑_static _,
            (
              c.in-Ok.ensures.opened.is_open,
              (
                refl,
                (
                  opened-there g.D.Disk.told g.D.Disk.faults c.in-Ok.node.notes c.in-Ok.ensures.opened.is_open
                      c.in-Ok.ensures.opened.settled,
                  tt,
                ),
              ),
            ),
          ),
        ),
      ),
    )

pub returns-in-Ok-clause-runs : goal.returns-in-Ok-clause-runs
unfolding RunsWatcher
returns-in-Ok-clause-runs g c =
    let runs = rw c.in-Ok.ensures.hash at c.run_session-run.ensures.runs in
    inl (
      c.in-Ok.node.notes,
      c.in-Ok.ensures.opened,
      rw c.take_disk.ensures
          (handed-back g.D.Disk.told g.D.Disk.plan g.D.Disk.faults (g.H.Hash32.digest_of c.args.h) watcher_commands
          (alone c.in-Ok.node.notes) (alone c.run_session-run.result.0.node.notes) _ _ (λ at is. is.1)
          (λ log at line stop is. is) _ _ _ runs),
    )

pub returns-in-Ok-clause-prompt : goal.returns-in-Ok-clause-prompt
unfolding WatcherPromptly
returns-in-Ok-clause-prompt g c =
    inl (c.in-Ok.node.notes, c.in-Ok.ensures.opened, rw c.in-Ok.ensures.hash at c.run_session-run.ensures.prompt)

pub returns-in-Err-clause-prompt : goal.returns-in-Err-clause-prompt
unfolding WatcherPromptly
returns-in-Err-clause-prompt g c = inr (gave-none _)

pub returns-in-Ok-clause-memory : goal.returns-in-Ok-clause-memory
returns-in-Ok-clause-memory g c = λ none is.
    let unfailed = rw c.in-Ok.ensures.hash at (c.run_session-run.ensures.memory none is) in
    rw c.take_disk.ensures
    (alone-quiet g.D.Disk.told g.D.Disk.plan g.D.Disk.faults (g.H.Hash32.digest_of c.args.h) c.in-Ok.node.notes
    c.run_session-run.result.0.node.notes c.args.notes c.in-Ok.ensures.opened.count
    (session-quiet g.D.Disk.told g.D.Disk.plan g.D.Disk.faults (g.H.Hash32.digest_of c.args.h) watcher_commands
    (alone c.in-Ok.node.notes) (alone c.run_session-run.result.0.node.notes) _ _ (λ at is. is.1) (λ log at line is. is)
    _ _ _ is unfailed))

pub returns-in-Err-clause-memory : goal.returns-in-Err-clause-memory
returns-in-Err-clause-memory g c = λ none is.
    refused-quiet (Counts g.D.Disk.faults c.args.notes c.in-Err.returned.disk) c.in-Err.returned.why
    (λ fault. false≢true (sym none ∙ c.put_opening_refusal-status.ensures.memory fault is))
    c.in-Err.ensures.refused.count
