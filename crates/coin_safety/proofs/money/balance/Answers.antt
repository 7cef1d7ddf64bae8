use Rattle.coin_safety.proofs.Words.{◌≡◌, ◌+◌, ◌∷◌, [], List, take, reverse, refl, sym, ap, ◌∙◌, subst, RootCall, balance_of, FollowsAll}
use Rattle.coin_safety.proofs.Followed.{all-none, all-push}
use Rattle.coin_safety.proofs.Lists.{log-more, whole-log}
use Rattle.coin_safety.proofs.Viewed.{balance-more}
use Rattle.coin_safety.proofs.money.balance.Goals as goal

pub loop-call-init : goal.loop-call-init
unfolding balance_of
loop-call-init c = record {
  money = refl;
  beside = subst (λ l. FollowsAll [] l) (sym c.empty_beside-beside.ensures) all-none;
}

pub loop-call-preserved : goal.loop-call-preserved
loop-call-preserved c =
    let log : List RootCall = reverse (take c.loop-call.call-index c.events-events.result.now) in
    let call : RootCall = c.call-item.result in
    let other : List RootCall = c.loop-call.beside.log in
    let more : reverse (take (c.loop-call.call-index + 1) c.events-events.result.now) ≡ call ∷ log =
    log-more c.events-events.result.now c.loop-call.call-index call c.loop-call-test.true c.call-item.is in
    record {
      money = balance-more c.args.account log other call c.loop-call.money c.in_ok-paid.paid c.in_ok-sum.field-0
          c.taken_of.result c.saturating_sub-money.result c.loop-call.invariant.beside c.loop-call.invariant.money
          c.in_ok-paid.ensures c.in_ok-sum.ensures c.taken_of.ensures c.saturating_sub-money.ensures
          ∙ ap (λ l. balance_of l c.args.account) (sym more);
      beside = subst (λ l. FollowsAll l c.push_lean.new.log.log) (sym more)
          (subst (FollowsAll (call ∷ log)) (sym c.in_ok-push_lean.ensures)
          (all-push log other call c.loop-call.invariant.beside));
    }

pub returns : goal.returns
returns c =
    c.loop-call.invariant.money
    ∙ ap (λ l. balance_of l c.args.account)
    (whole-log c.events-events.result.now c.args.log.now.log c.loop-call.call-index c.events-events.ensures
    c.loop-call-test.false)
