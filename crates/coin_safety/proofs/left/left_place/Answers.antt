use Rattle.coin_safety.proofs.Words.{ℕ, List, Option, sym, ap, ◌∙◌, is_some, slice_get, option_and_then, RawOpening, RootCall, left_in}
use Rattle.coin_safety.proofs.Answered.{mapped-some, left-begin, left-more, left-same}
use Rattle.coin_safety.proofs.left.left_place.Goals as goal
use Rattle.coin_safety.proofs.left.left_place.Goals.{then-is_some, else-is_some}

pub loop-place-init : goal.loop-place-init
loop-place-init c = left-begin c.args.coin c.args.tip

pub loop-place-preserved : goal.loop-place-preserved
loop-place-preserved c =
    let events : List RootCall = c.events-events.result.now in
    let call : RootCall = c.index-events-place.result in
    let shows : Option ℕ → Option RawOpening =
    λ found. option_and_then (λ n. option_and_then (left_in c.args.coin c.args.tip) (slice_get events n)) found in
    let some = ap is_some (sym c.left_in.ensures) ∙ mapped-some _ c.left_in.result ∙ sym c.is_some.ensures in
    elim c.if-is_some.branch [
      | then-is_some w ↦ ap shows w.found-is ∙ left-more c.args.coin c.args.tip events c.loop-place.place call
          c.loop-place-test.true c.index-events-place.is (some ∙ w.if-is_some.true)
      | else-is_some w ↦ ap shows w.found-is ∙ left-same c.args.coin c.args.tip events c.loop-place.place call
          c.loop-place-test.true c.index-events-place.is (shows c.loop-place.found) (some ∙ w.if-is_some.false)
          c.loop-place.invariant
    ]
