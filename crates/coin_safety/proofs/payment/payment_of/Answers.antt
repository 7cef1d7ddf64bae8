use Rattle.coin_safety.proofs.Words.{◌≡◌, ◌+◌, ◌∷◌, [], List, take, reverse, refl, sym, ap, ◌∙◌, subst, RootCall, Follows, payment}
use Rattle.coin_safety.proofs.Followed.{follows-none, follows-next}
use Rattle.coin_safety.proofs.Lists.{log-more, whole-log, so-many}
use Rattle.coin_safety.proofs.Viewed.{payment-more, unpaid}
use Rattle.coin_safety.proofs.payment.payment_of.Goals as goal

pub loop-place-init : goal.loop-place-init
unfolding payment
loop-place-init c = record {
  found = refl;
  beside = subst (λ l. Follows [] l c.args.coin) (sym c.empty_beside-beside.ensures) (follows-none c.args.coin);
}

pub loop-place-preserved : goal.loop-place-preserved
loop-place-preserved c =
    let events : List RootCall = c.events-events.result.now in
    let i = c.loop-place.place in
    let log : List RootCall = reverse (take i events) in
    let call : RootCall = c.index-events-place.result in
    let other : List RootCall = c.loop-place.beside.log in
    let more : reverse (take (i + 1) events) ≡ call ∷ log =
    log-more events i call c.loop-place-test.true c.index-events-place.is in
    record {
      found = payment-more log other c.args.coin (i + 2) call c.loop-place.found c.in_ok-found.found
          c.loop-place.invariant.beside (ap (λ n. n + 2) (sym (so-many events i c.loop-place-test.true)))
          c.loop-place.invariant.found c.in_ok-found.ensures.found
          ∙ ap (λ l. payment l c.args.coin) (sym more);
      beside = subst (λ l. Follows l c.next_payment.new.beside.log c.args.coin) (sym more)
          (follows-next log other c.next_payment.new.beside.log c.args.coin call c.loop-place.invariant.beside
          c.in_ok-found.ensures.beside);
    }

pub returns-then-not-withdrawn : goal.returns-then-not-withdrawn
returns-then-not-withdrawn c =
    sym (unpaid c.args.log.now.log c.args.coin (sym c.withdrawn.ensures ∙ c.if-not-withdrawn.true))

pub returns : goal.returns
returns c =
    c.loop-place.invariant.found
    ∙ ap (λ l. payment l c.args.coin)
    (whole-log c.events-events.result.now c.args.log.now.log c.loop-place.place c.events-events.ensures
    c.loop-place-test.false)
