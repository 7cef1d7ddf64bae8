use Rattle.std.proofs.Common.{◌∙◌, inl, inr, Ok, refl, ap}
use Rattle.std.proofs.lemmas.Result.{IfOk-weaker, IfErr-weaker, err_from_is_err_and}
use Rattle.plasma_base.specs.Causes.{faults_after}
use Rattle.safe_runs.specs.Runs.{behind, watcher_in, watcher_node}
use Rattle.safe_runs.proofs.FaultLaws.{result-no-fault}
use Rattle.safe_runs.proofs.top.read_watcher.Goals as goal

pub returns-in_err-image-clause-refused : goal.returns-in_err-image-clause-refused
returns-in_err-image-clause-refused g c =
    let p = err_from_is_err_and c.from_residual.result c.from_residual.ensures.1 in
    rw (p.1, p.2) (inl c.in_err-image.ensures.unread)

pub returns-clause-read : goal.returns-clause-read
returns-clause-read g c =
    let dig = g.H.Hash32.digest_of c.args.h in
    IfOk-weaker c.read.result _ _
    (λ read is. (
      watcher_node dig is.0,
      (
        c.in_ok-image.image.items,
        c.in_ok-image.ensures.image,
        ap (behind (λ records. Ok (watcher_node dig records))) is.1,
      ),
      (dig, is.0, is.2, refl),
    ))
    c.read.ensures.read

pub returns-clause-refused : goal.returns-clause-refused
returns-clause-refused g c =
    IfErr-weaker c.read.result _ _
    (λ why is. inr (c.in_ok-image.image.items, c.in_ok-image.ensures.image, is))
    c.read.ensures.refused

pub returns-in_err-image-clause-faults : goal.returns-in_err-image-clause-faults
returns-in_err-image-clause-faults g c =
    let p = err_from_is_err_and c.from_residual.result c.from_residual.ensures.1 in
    rw (p.1, p.2) c.in_err-image.ensures.cause

pub returns-clause-faults : goal.returns-clause-faults
returns-clause-faults g c =
    c.in_ok-image.ensures.cause
    ∙ ap (faults_after (g.D.Disk.faults c.args.notes.now))
    (result-no-fault (watcher_in (g.H.Hash32.digest_of c.args.h) c.in_ok-image.image.items) c.read.result
    c.read.ensures.refused)
