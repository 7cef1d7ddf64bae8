use Rattle.std.proofs.Common.{inl, inr, refl, sym, ◌∙◌}
use Rattle.std.proofs.lemmas.Bool.{false≢true}
use contract.BorrowLft.{⊑_meet, ⊑_static}
use Rattle.wallet_node.specs.State.{notes_part, leaves_part}
use Rattle.node_roles.specs.Roles.{wallet_parts, wallet_commands}
use Rattle.streamed_lines.proofs.OutsideLaws.{gave-none}
use Rattle.node_runs.specs.Runs.{RunsWallet}
use Rattle.node_runs.specs.Prompt.{WalletPromptly}
use Rattle.run_endings.specs.Faults.{CountsEither}
use Rattle.node_runs.proofs.DiskLaws.{opened-there, handed-back}
use Rattle.node_runs.proofs.FaultLaws.{refused-met}
use Rattle.node_runs.proofs.QuietLaws.{refused-quiet, session-quiet, both-quiet}
use Rattle.node_runs.proofs.wallet.run_wallet.Goals as goal

pub run_session-run-requires : goal.run_session-run-requires
run_session-run-requires g c κs within =
    let d = within.0 in
    let h = within.1.0 in (
      search (⊑_meet, ⊑_static, d, h) depth 40 fits 20000,
      (
        within.1.1.0,
        (
          within.1.1.1,
          (
            ⊑_static _,
            (
              c.in-Ok.ensures.opened.opens_notes.is_open,
              (
                refl,
                (
                  opened-there g.D.Disk.told g.D.Disk.faults (notes_part c.in-Ok.node)
                      c.in-Ok.ensures.opened.opens_notes.is_open c.in-Ok.ensures.opened.opens_notes.settled,
                  opened-there g.D.Disk.told g.D.Disk.faults (leaves_part c.in-Ok.node)
                      c.in-Ok.ensures.opened.opens_leaves.is_open c.in-Ok.ensures.opened.opens_leaves.settled,
                ),
              ),
            ),
          ),
        ),
      ),
    )

pub returns-in-Ok-clause-runs : goal.returns-in-Ok-clause-runs
unfolding RunsWallet
returns-in-Ok-clause-runs g c =
    let opened = c.in-Ok.ensures.opened in
    let runs = rw c.in-Ok.ensures.hash at c.run_session-run.ensures.runs in
    inl (
      record {
        notes_disk = c.in-Ok.node.notes_disk;
        leaves_disk = c.in-Ok.node.leaves_disk;
        closed = c.in-Ok.node.closed;
        records = c.in-Ok.node.records;
        hash = tt;
      },
      record { opens_notes = opened.opens_notes; opens_leaves = opened.opens_leaves; bound = opened.bound },
      rw (c.take_disks-notes.ensures.notes, c.take_disks-notes.ensures.leaves)
          (handed-back g.D.Disk.told g.D.Disk.plan g.D.Disk.faults (g.H.Hash32.digest_of c.args.h) wallet_commands
          (wallet_parts c.in-Ok.node) (wallet_parts c.run_session-run.result.0.node) _ _ (λ at is. is.1)
          (λ log at line stop is. is) _ _ _ runs),
    )

pub returns-in-Ok-clause-prompt : goal.returns-in-Ok-clause-prompt
unfolding WalletPromptly
returns-in-Ok-clause-prompt g c =
    let opened = c.in-Ok.ensures.opened in
    inl (
      record {
        notes_disk = c.in-Ok.node.notes_disk;
        leaves_disk = c.in-Ok.node.leaves_disk;
        closed = c.in-Ok.node.closed;
        records = c.in-Ok.node.records;
        hash = tt;
      },
      record { opens_notes = opened.opens_notes; opens_leaves = opened.opens_leaves; bound = opened.bound },
      rw c.in-Ok.ensures.hash at c.run_session-run.ensures.prompt,
    )

pub returns-in-Err-clause-prompt : goal.returns-in-Err-clause-prompt
unfolding WalletPromptly
returns-in-Err-clause-prompt g c = inr (gave-none _)

pub returns-in-Ok-clause-memory : goal.returns-in-Ok-clause-memory
returns-in-Ok-clause-memory g c = λ none is.
    let told = g.D.Disk.told in
    let plan = g.D.Disk.plan in
    let faults = g.D.Disk.faults in
    let dig = g.H.Hash32.digest_of c.args.h in
    let left = c.run_session-run.result.0.node in
    let opened = c.in-Ok.ensures.opened in
    let unfailed = rw c.in-Ok.ensures.hash at (c.run_session-run.ensures.memory none is) in
    rw (c.take_disks-notes.ensures.notes, c.take_disks-notes.ensures.leaves)
    (both-quiet told plan faults dig (notes_part c.in-Ok.node) (leaves_part c.in-Ok.node) (notes_part left)
    (leaves_part left) c.args.notes c.args.leaves opened.opens_notes.count opened.opens_leaves.count
    (session-quiet told plan faults dig wallet_commands (wallet_parts c.in-Ok.node) (wallet_parts left) _ _
    (λ at is. is.1) (λ log at line is. is) _ _ _ is unfailed))

pub returns-in-Err-clause-memory : goal.returns-in-Err-clause-memory
returns-in-Err-clause-memory g c = λ none is.
    refused-quiet
    (CountsEither g.D.Disk.faults c.args.notes c.args.leaves c.in-Err.returned.notes c.in-Err.returned.leaves)
    c.in-Err.returned.why (λ fault. false≢true (sym none ∙ c.put_opening_refusal-status.ensures.memory fault is))
    (refused-met g.D.Disk.told g.D.Disk.plan g.D.Disk.faults (g.H.Hash32.digest_of c.args.h) c.args.notes
    c.args.leaves c.in-Err.returned.notes c.in-Err.returned.leaves c.in-Err.returned.why c.in-Err.ensures.refused)
