use Rattle.std.proofs.Common.{inl, inr, refl, sym, ap, subst, ◌∙◌, List, [], ℕ, Option}
use Rattle.std.specs.Prelude.{◌≡◌, ◌&&◌, false, unwrap_or}
use Rattle.std.proofs.lemmas.Bool.{false≢true}
use contract.BorrowLft.{⊑_meet, ⊑_static}
use Rattle.lms_sign.specs.declared.secret.Secret.{Secret}
use Rattle.lms_sign.specs.Tree.{public_key_of}
use Rattle.gate_journal.specs.declared.refusal.JournalRefusal.TheVariants.{NoMemory}
use Rattle.node_journal.specs.Notes.{Opened, RefusesRole}
use Rattle.node_journal.specs.declared.stop.Stop.TheVariants.{NoMemory as NodeMemory}
use Rattle.leaf_journal.specs.Leaves.{leaves_of}
use Rattle.leaf_journal.specs.Records.{leaf_records_in_of}
use Rattle.receipt_audit.specs.Promises.{is_promise}
use Rattle.receipt_audit.specs.Desk.{desk_secret}
use Rattle.node_journal.specs.Parts.{both}
use Rattle.node_roles.specs.Nodes.{outcome_at, StoppedAt}
use Rattle.node_roles.specs.Roles.{desk_commands}
use Rattle.streamed_lines.proofs.OutsideLaws.{gave-none}
use Rattle.run_endings.specs.Faults.{Counts}
use Rattle.node_runs.proofs.DiskLaws.{opened-there, handed-back}
use Rattle.node_runs.proofs.QuietLaws.{refused-quiet, session-quiet, both-quiet}
use Rattle.node_runs.proofs.operator.run_with_key.Goals as goal

-- memory ran out as the key was made
pub returns-in_default-clause-runs : goal.returns-in_default-clause-runs
returns-in_default-clause-runs g c =
    inr (
      NoMemory,
      (inr (refl, refl), c.take_disk.ensures),
      record { gave = gave-none _; ends = c.put_opening_refusal-status.ensures.ends },
    )

pub run_session-run-requires : goal.run_session-run-requires
run_session-run-requires g c κs within =
    let d = within.0 in
    let h = within.1.0 in (
      search (⊑_meet, ⊑_static, d, h) depth 80 fits 80000,
      (
        within.1.1.0,
        (
          within.1.1.1,
          (
            ⊑_static _,
            (
              (
                c.requires.is_open,
                c.in-Ok-open.ensures.opened.is_open,
                c.in-Ok.ensures ∙ ap (λ (seed : Option (List ℕ)). desk_secret (unwrap_or seed []))
                    (sym c.requires.seed),
                sym c.in-Ok-open.ensures.key,
                sym c.requires.hash,
              ),
              (
                refl,
                (
                  opened-there g.D.Disk.told g.D.Disk.faults c.args.node.notes c.requires.is_open c.requires.settled,
                  opened-there g.D.Disk.told g.D.Disk.faults c.in-Ok-open.desk.notes
                      c.in-Ok-open.ensures.opened.is_open c.in-Ok-open.ensures.opened.settled,
                ),
              ),
            ),
          ),
        ),
      ),
    )

pub returns-in-Ok-open-clause-runs : goal.returns-in-Ok-open-clause-runs
returns-in-Ok-open-clause-runs g c =
    let told = g.D.Disk.told in
    let faults = g.D.Disk.faults in
    let notes = c.run_session-run.result.0.keyed.node.notes in
    let leaves = c.run_session-run.result.0.keyed.desk.notes in
    let runs = rw c.requires.hash at c.run_session-run.ensures.runs in
    inl (
      c.in-Ok-open.desk.notes,
      subst (λ (key : Secret). Opened told g.D.Disk.plan faults (leaf_records_in_of is_promise (leaves_of
          (public_key_of key))) c.args.leaves c.in-Ok-open.desk.notes) c.in-Ok.ensures c.in-Ok-open.ensures.opened,
      rw (c.take_disk-in-Ok-open.ensures, c.take_disk-in-Ok-open-2.ensures)
          (handed-back told g.D.Disk.plan faults (g.H.Hash32.digest_of c.args.h) desk_commands
          (both c.args.node.notes c.in-Ok-open.desk.notes) (both notes leaves) _
          (λ log at line stop. StoppedAt told faults (outcome_at desk_commands log at line) at.kept stop
          (both notes leaves)
          × ((notes.closed && leaves.closed) ≡ false))
          (λ at is. is.1) (λ log at line stop is. is.0) _ _ _ runs),
    )

pub returns-in-Ok-open-clause-prompt : goal.returns-in-Ok-open-clause-prompt
returns-in-Ok-open-clause-prompt g c =
    inl (
      c.in-Ok-open.desk.notes,
      subst (λ (key : Secret). Opened g.D.Disk.told g.D.Disk.plan g.D.Disk.faults (leaf_records_in_of is_promise
          (leaves_of (public_key_of key))) c.args.leaves c.in-Ok-open.desk.notes) c.in-Ok.ensures
          c.in-Ok-open.ensures.opened,
      rw c.requires.hash at c.run_session-run.ensures.prompt,
    )

pub returns-in-Err-clause-runs : goal.returns-in-Err-clause-runs
returns-in-Err-clause-runs g c =
    inr (
      c.in-Err.returned.why,
      (
        inl
            (subst (λ (key : Secret). RefusesRole g.D.Disk.told g.D.Disk.plan g.D.Disk.faults
            (leaf_records_in_of is_promise
            (leaves_of (public_key_of key))) c.args.leaves c.in-Err.returned.why c.in-Err.returned.disk) c.in-Ok.ensures
            c.in-Err.ensures.refused),
        c.take_disk-in-Err.ensures,
      ),
      record { gave = gave-none _; ends = c.put_opening_refusal-status-in-Err.ensures.ends },
    )

-- ---- for want of memory, where the sink takes none

pub returns-in_default-clause-memory : goal.returns-in_default-clause-memory
returns-in_default-clause-memory g c = λ none is. (ap g.D.Disk.faults c.take_disk.ensures, refl)

pub returns-in-Ok-open-clause-memory : goal.returns-in-Ok-open-clause-memory
returns-in-Ok-open-clause-memory g c = λ none is.
    let told = g.D.Disk.told in
    let plan = g.D.Disk.plan in
    let faults = g.D.Disk.faults in
    let dig = g.H.Hash32.digest_of c.args.h in
    let notes = c.run_session-run.result.0.keyed.node.notes in
    let leaves = c.run_session-run.result.0.keyed.desk.notes in
    let unfailed = rw c.requires.hash at (c.run_session-run.ensures.memory none is) in
    rw (c.take_disk-in-Ok-open.ensures, c.take_disk-in-Ok-open-2.ensures)
    (both-quiet told plan faults dig c.args.node.notes c.in-Ok-open.desk.notes notes leaves c.args.node.notes.disk
    c.args.leaves refl c.in-Ok-open.ensures.opened.count
    (session-quiet told plan faults dig desk_commands (both c.args.node.notes c.in-Ok-open.desk.notes)
    (both notes leaves) _
    (λ log at line. StoppedAt told faults (outcome_at desk_commands log at line) at.kept NodeMemory (both notes leaves)
    × ((notes.closed && leaves.closed) ≡ false))
    (λ at is. is.1) (λ log at line is. is.0) _ _ _ is unfailed))

pub returns-in-Err-clause-memory : goal.returns-in-Err-clause-memory
returns-in-Err-clause-memory g c = λ none is. (
  ap g.D.Disk.faults c.take_disk-in-Err.ensures,
  refused-quiet (Counts g.D.Disk.faults c.args.leaves c.in-Err.returned.disk) c.in-Err.returned.why
      (λ fault. false≢true (sym none ∙ c.put_opening_refusal-status-in-Err.ensures.memory fault is))
      c.in-Err.ensures.refused.count,
)
