use Rattle.std.proofs.Common.{sym, ◌∙◌, ap}
use Rattle.hss_runs.specs.Identity.{seed_in}
use Rattle.hss_runs.proofs.Identities.{seed-is}
use Rattle.hss_runs.proofs.opening.secret_in.Goals as goal

pub returns : goal.returns
returns c =
    rw (← seed-is c.args.records.now c.in-Some.identity.now c.in-Some-seed_in.seed c.in-Some.ensures.value
    (sym c.in-Some-seed_in.is ∙ c.seed_in.ensures ∙ ap seed_in c.as_slice.ensures)) c.secret_of.ensures
