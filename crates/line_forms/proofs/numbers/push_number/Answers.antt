use Rattle.std.proofs.Common.{ℕ, List, ◌≡◌, ◌+◌, ◌-◌, ◌++◌, ap, ◌∙◌, arith, length-set}
use Rattle.line_forms.proofs.NumberLaws.{room-left, room-more, text-first, text-more}
use Rattle.line_forms.proofs.numbers.push_number.Goals as goal

pub loop-rest-preserved : goal.loop-rest-preserved
loop-rest-preserved c =
    let loop = c.loop-rest in
    let left = room-left loop.rest loop.start c.loop-rest-test.true loop.invariant.room in
    let e : loop.start - 1 + 1 ≡ loop.start = omega arith in
    record {
      len = simp length-set loop.invariant.len;
      last = omega arith;
      room = room-more loop.rest loop.start (loop.start - 1) e loop.invariant.room;
      small = omega arith;
      text = text-more c.args.value loop.rest loop.start
          (loop.start - 1) loop.digits c.loop-rest-test.true loop.invariant.small (omega arith) e loop.invariant.text;
    }

pub returns-clause-ok : goal.returns-clause-ok
returns-clause-ok c =
    let loop = c.loop-rest in
    let text = text-first c.args.value loop.rest loop.start 20 loop.digits c.loop-rest-test.false
    (omega arith) loop.invariant.len loop.invariant.text in
    c.in_ok-extend_from_slice.ensures.items ∙ ap (λ (digits : List ℕ). c.args.out.now.items ++ digits) text
