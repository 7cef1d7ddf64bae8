use Rattle.line_forms.proofs.Basics.{rules, ◌≡◌, sym, true, false, bytes_eq}
use Rattle.line_forms.proofs.NameLaws.{named-found, named-more}
use Rattle.line_forms.proofs.names.named.Goals as goal

pub returns-then-eq : goal.returns-then-eq
returns-then-eq g c =
    let e : bytes_eq c.args.word.now c.loop-name-item.result.0.now ≡ true = search rules in
    sym (named-found _ c.args.table.now c.loop-name.name-index c.loop-name-item.result _ c.loop-name-test.true
    c.loop-name-item.is c.loop-name.invariant e)

pub loop-name-preserved : goal.loop-name-preserved
loop-name-preserved g c =
    let e : bytes_eq c.args.word.now c.loop-name-item.result.0.now ≡ false = search rules in
    named-more _ c.args.table.now c.loop-name.name-index c.loop-name-item.result _ c.loop-name-test.true
    c.loop-name-item.is c.loop-name.invariant e
