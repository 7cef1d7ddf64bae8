use Rattle.std.proofs.Common.{◌≡◌, ◌∙◌, Err, sym, ap}
use Rattle.std.proofs.lemmas.Result.{err_from_is_err_and}
use Rattle.root_log.specs.declared.refusal.LogRefusal.TheVariants.{BadEvent}
use Rattle.root_log.specs.Grammar.{call_in}
use Rattle.history_example.proofs.LogLaws.{one_bad, same_refusal}
use Rattle.history_example.proofs.with_calls.Goals as goal

pub returns-in_err-read_line-clause-bad : goal.returns-in_err-read_line-clause-bad
returns-in_err-read_line-clause-bad c given =
    let p = err_from_is_err_and c.from_residual.result c.from_residual.ensures.1 in
    let is : c.from_residual.result ≡ Err c.in_err-read_line.field-0.0 = p.1 ∙ ap Err p.2 in
    let same = same_refusal c.in_err-read_line.field-0.0 BadEvent (sym is ∙ given) in
    one_bad c.args.log c.loop-call.log c.args.calls.now c.loop-call.call-index _ c.loop-call-test.true
    c.loop-call.invariant (ap call_in (sym c.as_bytes.ensures.value) ∙ c.in_err-read_line.ensures.bad (ap Err same))
