use Rattle.crash_disk.proofs.Words.{false, true, List, ◌∙◌, ap, arith, err_from_is_err_and, FileCall, makes, reaches, asked}
use Rattle.crash_disk.proofs.disk_over.put.Goals as goal

pub returns-in_err-reach-clause-made : goal.returns-in_err-reach-clause-made
returns-in_err-reach-clause-made g c =
    let p = err_from_is_err_and c.from_residual-in_err-reach.result c.from_residual-in_err-reach.ensures.1 in
    let made = c.in_ok-make.ensures.calls
    ∙ ap (λ (l : List FileCall). asked makes false l) c.in_ok-fits.ensures.noted.calls in
    rw p.1 (
      false,
      (
        2,
        omega arith,
        c.in_err-reach.ensures.calls ∙ ap (λ (l : List FileCall). asked (reaches c.args.place) true l) made,
      ),
    )
