use Rattle.coin_safety.proofs.Words.{◌≡◌, ◌++◌, ◌<◌, List, length, map, take, drop, slice_set, slice_index_or, ap, ◌∙◌, arith, RootCall, instead}
use Rattle.coin_safety.proofs.Lists.{changed-more}
use Rattle.coin_safety.proofs.advice.replace.Goals as goal

pub loop-call-preserved : goal.loop-call-preserved
loop-call-preserved c =
    let f : RootCall → RootCall = instead c.args.log.now.log c.args.coin in
    let i = c.loop-call.call-index in
    let xs : List RootCall = c.args.calls.now.items in
    let now : List RootCall = c.loop-call.call-items in
    let d : RootCall = c.call-item.result in
    let within : i < length xs =
    omega (arith, c.loop-call-test.true, ap length c.deref_mut-call-items.ensures.value) in
    let known : now ≡ map f (take i xs) ++ drop i xs = c.loop-call.invariant in
    ap (λ v. slice_set now i v) c.in_ok-replace_one.ensures
    ∙ ap (λ l. slice_set l i (f (slice_index_or l i d))) known ∙ changed-more f xs i d within
