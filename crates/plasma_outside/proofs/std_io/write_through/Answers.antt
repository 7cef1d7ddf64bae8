use Rattle.std.proofs.Common.{◌∙◌, sym}
use Rattle.std.proofs.lemmas.Result.{err_from_is_err_and}
use Rattle.plasma_outside.proofs.WriteLaws.{written-none, written-more, written-cut, written-kept, written-front, writes-flushed}
use Rattle.plasma_outside.proofs.std_io.write_through.Goals as goal

pub loop-rest-init : goal.loop-rest-init
loop-rest-init g c = written-none _ _

pub returns-in_err-count : goal.returns-in_err-count
returns-in_err-count g c =
    let failed = err_from_is_err_and c.from_residual.result c.from_residual.ensures.1 in
    rw failed.1 (written-front _ _ _ _ (written-kept _ _ _ _ _ c.loop-rest.invariant c.in_err-count.ensures.bytes))

pub returns-then-count-eq0 : goal.returns-then-count-eq0
returns-then-count-eq0 g c =
    written-front _ _ _ _ (written-more _ _ _ _ _ _ c.loop-rest.invariant c.in_ok-count.ensures.bytes)

pub loop-rest-preserved : goal.loop-rest-preserved
loop-rest-preserved g c =
    written-cut _ _ _ _ _ c.in_ok-count.count c.loop-rest.invariant c.in_ok-count.ensures.bytes

pub returns : goal.returns
returns g c =
    let none = sym c.loop-rest-test.false ∙ c.is_empty.ensures in
    writes-flushed _ _ _ _ _ _ c.loop-rest.invariant none c.flush.ensures.bytes
