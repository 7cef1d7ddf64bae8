use Rattle.line_forms.proofs.Basics.{◌-◌, arith, text_of}
use Rattle.line_forms.proofs.PrintLaws.{line-done, line-longer}
use Rattle.line_forms.proofs.grammar.print.Goals as goal

pub overflow_sub-len : goal.overflow_sub-len
overflow_sub-len g c =
    let some = line-longer g.G.Grammar.table
    (g.G.Grammar.parts c.args.value.now) c.args.out.now.items c.push.new.out.items c.in-Ok.ensures.ok in
    omega arith

pub returns-in-Ok-clause-ok : goal.returns-in-Ok-clause-ok
unfolding text_of
returns-in-Ok-clause-ok g c =
    let some = line-longer g.G.Grammar.table
    (g.G.Grammar.parts c.args.value.now) c.args.out.now.items c.push.new.out.items c.in-Ok.ensures.ok in
    line-done g.G.Grammar.table (g.G.Grammar.parts c.args.value.now) c.args.out.now.items _ c.push.new.out.items
    (c.len.result - 1) c.in-Ok.ensures.ok (omega arith) c.truncate.ensures.items
