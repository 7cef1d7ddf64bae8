use Rattle.coin_safety.proofs.Words.{rules, ◌∙◌, ap, sym, nat_cmp, get}
use Rattle.coin_safety.proofs.Answered.{answers-begin, answer-more, answer-same}
use Rattle.coin_safety.proofs.answers.answers.Goals as goal
use Rattle.coin_safety.proofs.answers.answers.Goals.{in-Some+in_ok-insert, in_default}

pub loop-place-init : goal.loop-place-init
loop-place-init c block =
    answers-begin c.args.coin c.args.tip c.events-events.result.now (get nat_cmp c.new-places.result block) block
    (search (rules, c.new-places.ensures.empty))

pub loop-place-preserved : goal.loop-place-preserved
loop-place-preserved c =
    elim c.match-answered_exit.branch [
      | in-Some+in_ok-insert w ↦ answer-more c.args.coin c.args.tip c.events-events.result.now c.loop-place.place
          c.index-events-place.result c.loop-place-test.true c.index-events-place.is w.in-Some.exit
          (get nat_cmp c.loop-place.places) (get nat_cmp c.match-answered_exit.places) (sym w.in-Some.ensures)
          (λ q. ap (λ m. get nat_cmp m q) w.places-is ∙ w.in_ok-insert.ensures.updates.0 q) c.loop-place.invariant
      | in_default w ↦ answer-same c.args.coin c.args.tip c.events-events.result.now c.loop-place.place
          c.index-events-place.result c.loop-place-test.true c.index-events-place.is (get nat_cmp c.loop-place.places)
          (get nat_cmp c.match-answered_exit.places) (sym c.answered_exit.ensures ∙ w.in_default.is)
          (λ q. ap (λ m. get nat_cmp m q) w.places-is) c.loop-place.invariant
    ]
