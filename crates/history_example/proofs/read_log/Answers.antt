use Rattle.std.proofs.Common.{◌≡◌, ◌∙◌, ◌∷◌, Some, None, Err, sym, ap, rules}
use Rattle.std.proofs.lemmas.Result.{IfOk-weaker, err_from_is_err_and}
use Rattle.plasma_tx.specs.Chain.{Chain}
use Rattle.root_log.specs.declared.refusal.LogRefusal.TheVariants.{BadEvent}
use Rattle.root_log.specs.Grammar.{chain_in}
use Rattle.history_example.specs.Logs.{and_calls, log_in}
use Rattle.history_example.proofs.LogLaws.{and_calls-none, log_in-lines, same_refusal}
use Rattle.history_example.proofs.read_log.Goals as goal

pub returns-in_err-log-clause-bad : goal.returns-in_err-log-clause-bad
returns-in_err-log-clause-bad c given =
    let p = err_from_is_err_and c.from_residual.result c.from_residual.ensures.1 in
    let is : c.from_residual.result ≡ Err c.in_err-log.field-0.0 = p.1 ∙ ap Err p.2 in
    let same = same_refusal c.in_err-log.field-0.0 BadEvent (sym is ∙ given) in
    let items : c.in-Ok.lines.items ≡ c.in-Some.first.now ∷ c.in-Some.calls.now = search rules in
    log_in-lines c.args.text.now c.in-Ok.lines.items c.in-Some.calls.now c.in-Some.first.now None c.in-Ok.ensures items
    (ap chain_in (sym c.as_bytes.ensures.value) ∙ c.in_err-log.ensures.bad (ap Err same))
    ∙ and_calls-none c.in-Some.calls.now

pub returns-clause-found : goal.returns-clause-found
returns-clause-found c =
    let items : c.in-Ok.lines.items ≡ c.in-Some.first.now ∷ c.in-Some.calls.now = search rules in
    let is : log_in c.args.text.now ≡ and_calls (Some c.in_ok-log.log) c.in-Some.calls.now =
    log_in-lines c.args.text.now c.in-Ok.lines.items c.in-Some.calls.now c.in-Some.first.now (Some c.in_ok-log.log)
    c.in-Ok.ensures items (ap chain_in (sym c.as_bytes.ensures.value) ∙ c.in_ok-log.ensures.found) in
    IfOk-weaker c.with_calls.result
    (λ (after : Chain). and_calls (Some c.in_ok-log.log) c.in-Some.calls.now ≡ Some after)
    (λ (after : Chain). log_in c.args.text.now ≡ Some after) (λ after so. is ∙ so) c.with_calls.ensures.found
