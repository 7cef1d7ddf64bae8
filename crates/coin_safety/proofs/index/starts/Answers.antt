use Rattle.coin_safety.proofs.Words.{rules, ◌∙◌, ap, sym, option_copied, nat_cmp, get}
use Rattle.coin_safety.proofs.Indexes.{starts-none, start-more, start-same}
use Rattle.coin_safety.proofs.index.starts.Goals as goal
use Rattle.coin_safety.proofs.index.starts.Goals.{in-Some+in_ok-insert, in_default}

pub loop-place-init : goal.loop-place-init
loop-place-init c block =
    starts-none c.args.coin c.events-events.result.now (get nat_cmp c.new-places.result block) block
    (search (rules, c.new-places.ensures.empty))

pub loop-place-preserved : goal.loop-place-preserved
loop-place-preserved c =
    elim c.match-spend_in.branch [
      | in-Some+in_ok-insert w ↦ start-more c.args.coin c.events-events.result.now c.loop-place.place
          c.index-events-place.result c.loop-place-test.true c.index-events-place.is w.in-Some.exit.now
          (get nat_cmp c.loop-place.places) (get nat_cmp c.match-spend_in.places) (sym w.in-Some.ensures)
          (λ q. ap (λ m. get nat_cmp m q) w.places-is ∙ w.in_ok-insert.ensures.updates.0 q) c.loop-place.invariant
      | in_default w ↦ start-same c.args.coin c.events-events.result.now c.loop-place.place c.index-events-place.result
          c.loop-place-test.true c.index-events-place.is (get nat_cmp c.loop-place.places)
          (get nat_cmp c.match-spend_in.places) (sym c.spend_in.ensures ∙ ap option_copied w.in_default.is)
          (λ q. ap (λ m. get nat_cmp m q) w.places-is) c.loop-place.invariant
    ]
