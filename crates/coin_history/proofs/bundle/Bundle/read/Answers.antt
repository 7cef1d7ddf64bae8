use Rattle.coin_history.proofs.Words.{◌≡◌, ◌<◌, ◌≤◌, length, Err, sym, ap, ◌∙◌, arith, err_from_is_err_and, NoMemory, All-from_get_or}
use Rattle.coin_history.proofs.CheckFacts.{refusal-same}
use Rattle.coin_history.proofs.BundleLaws.{items_in-ok, items_in-spelled}
use Rattle.coin_history.proofs.bundle.Bundle.read.Goals as goal

pub returns-clause-rising : goal.returns-clause-rising
returns-clause-rising c =
    let long : 20 ≤ length c.args.bytes.now = omega (arith, c.in_ok-count.ensures.0) in
    (items_in-ok c.args.bytes.now 20 0 c.in_ok-count.count
    (record { openings = c.in_ok-openings.openings; place = c.in_ok-openings.end }) long
    c.in_ok-openings.ensures.ok).rising

pub returns-clause-count : goal.returns-clause-count
returns-clause-count c =
    let long : 20 ≤ length c.args.bytes.now = omega (arith, c.in_ok-count.ensures.0) in
    let read = items_in-ok c.args.bytes.now 20 0 c.in_ok-count.count
    (record { openings = c.in_ok-openings.openings; place = c.in_ok-openings.end }) long
    c.in_ok-openings.ensures.ok in
    omega (arith, read.counted)

pub returns-clause-lengths : goal.returns-clause-lengths
returns-clause-lengths c =
    let long : 20 ≤ length c.args.bytes.now = omega (arith, c.in_ok-count.ensures.0) in
    let small = All-from_get_or (λ byte. byte < 256) c.args.bytes.now 0 (λ i lt. omega (arith, c.type_inv.bytes i)) in
    (items_in-spelled c.args.bytes.now small 20 0 c.in_ok-count.count
    (record { openings = c.in_ok-openings.openings; place = c.in_ok-openings.end }) long
    c.in_ok-openings.ensures.ok).lengths

pub returns-in_err-openings-clause-memory : goal.returns-in_err-openings-clause-memory
returns-in_err-openings-clause-memory c given =
    let p = err_from_is_err_and c.from_residual-in_err-openings.result c.from_residual-in_err-openings.ensures.1 in
    let is : c.from_residual-in_err-openings.result ≡ Err c.in_err-openings.field-0.0 = p.1 ∙ ap Err p.2 in
    let first = c.in_err-openings.ensures.memory (refusal-same c.in_err-openings.field-0.0 NoMemory (sym is ∙ given)) in
    record {
      numbers = omega (arith, c.in_ok-count.ensures.0);
      counted = omega (arith, first.0, c.in_ok-count.ensures.1);
      whole = first.1;
    }
