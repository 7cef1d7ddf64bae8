use Rattle.std.proofs.Common.{false, inl, inr, refl, subst}
use Rattle.std.proofs.lemmas.Result.{IfOk-weaker, IfErr-weaker, err_from_is_err_and}
use Rattle.run_endings.specs.Faults.{CountsEither}
use Rattle.safe_runs.specs.Runs.{wallet_in, wallet_node}
use Rattle.safe_runs.proofs.FaultLaws.{first-only, result-no-fault, second-only}
use Rattle.safe_runs.proofs.top.read_wallet.Goals as goal

pub returns-in_err-of_notes-clause-refused : goal.returns-in_err-of_notes-clause-refused
returns-in_err-of_notes-clause-refused g c =
    let p = err_from_is_err_and c.from_residual.result c.from_residual.ensures.1 in
    rw (p.1, p.2) (inl c.in_err-of_notes.ensures.unread)

pub returns-in_err-of_leaves-clause-refused : goal.returns-in_err-of_leaves-clause-refused
returns-in_err-of_leaves-clause-refused g c =
    let p = err_from_is_err_and c.from_residual-in_err-of_leaves.result c.from_residual-in_err-of_leaves.ensures.1 in
    rw (p.1, p.2) (inl c.in_err-of_leaves.ensures.unread)

pub returns-clause-read : goal.returns-clause-read
returns-clause-read g c =
    IfOk-weaker c.read.result _ _
    (λ read is. (
      wallet_node (g.H.Hash32.digest_of read.node.hash) read.node.records,
      (
        c.in_ok-of_notes.of_notes.items,
        c.in_ok-of_notes.ensures.image,
        (c.in_ok-of_leaves.of_leaves.items, c.in_ok-of_leaves.ensures.image, is),
      ),
      refl,
    ))
    c.read.ensures.read

pub returns-clause-refused : goal.returns-clause-refused
returns-clause-refused g c =
    IfErr-weaker c.read.result _ _
    (λ why is.
    inr (
      c.in_ok-of_notes.of_notes.items,
      c.in_ok-of_notes.ensures.image,
      (c.in_ok-of_leaves.of_leaves.items, c.in_ok-of_leaves.ensures.image, is),
    ))
    c.read.ensures.refused

pub returns-in_err-of_notes-clause-faults : goal.returns-in_err-of_notes-clause-faults
returns-in_err-of_notes-clause-faults g c =
    let p = err_from_is_err_and c.from_residual.result c.from_residual.ensures.1 in
    rw (p.1, p.2)
    (first-only g.D.Disk.faults c.args.notes.now c.read_image.new.disk c.args.leaves.now _
    c.in_err-of_notes.ensures.cause)

pub returns-in_err-of_leaves-clause-faults : goal.returns-in_err-of_leaves-clause-faults
returns-in_err-of_leaves-clause-faults g c =
    let p = err_from_is_err_and c.from_residual-in_err-of_leaves.result c.from_residual-in_err-of_leaves.ensures.1 in
    rw (p.1, p.2)
    (second-only g.D.Disk.faults c.args.notes.now c.read_image.new.disk c.args.leaves.now c.read_image-2.new.disk _
    c.in_ok-of_notes.ensures.cause c.in_err-of_leaves.ensures.cause)

pub returns-clause-faults : goal.returns-clause-faults
returns-clause-faults g c =
    let none =
    result-no-fault
    (wallet_in (g.H.Hash32.digest_of c.args.h) c.in_ok-of_notes.of_notes.items c.in_ok-of_leaves.of_leaves.items)
    c.read.result c.read.ensures.refused in
    subst (CountsEither g.D.Disk.faults c.args.notes.now c.args.leaves.now _ _) none
    (second-only g.D.Disk.faults c.args.notes.now _ c.args.leaves.now _ false c.in_ok-of_notes.ensures.cause
    c.in_ok-of_leaves.ensures.cause)
