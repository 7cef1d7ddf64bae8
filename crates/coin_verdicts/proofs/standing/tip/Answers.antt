use Rattle.std.proofs.Common.{◌-◌, ℕ, Option, filter, take, reverse, ap, sym, ◌∙◌, arith}
use Rattle.wallet_core.specs.State.{greatest}
use Rattle.coin_verdicts.specs.declared.note.Note.{Note}
use Rattle.coin_verdicts.specs.Standings.{was_held, tips_in, better_by}
use Rattle.coin_verdicts.proofs.Loops.{joined, tip-more, tip-end, tip-undeposited, tip-deposited}
use Rattle.coin_verdicts.proofs.standing.tip.Goals as goal

pub loop-left-preserved : goal.loop-left-preserved
loop-left-preserved c = record {
  within = omega (arith, c.loop-left.invariant.within);
  is =
      tip-more (was_held c.args.holder.now (reverse c.args.notes.now)) c.args.holder.now.wallet c.args.notes.now
      c.loop-left.best _ c.loop-left.left c.index-notes-left.result c.loop-left-test.true
      c.loop-left.invariant.within c.index-notes-left.is c.loop-left.invariant.is
      ∙ ap (λ (n : Note). joined (better_by (was_held c.args.holder.now (reverse c.args.notes.now))
      c.args.holder.now.wallet c.loop-left.best n.change) (greatest (filter (was_held c.args.holder.now
      (reverse c.args.notes.now)) (tips_in c.args.holder.now.wallet
      (reverse (take (c.loop-left.left - 1) c.args.notes.now)))))) c.index-notes-left.is
      ∙ ap (λ (o : Option ℕ). joined o (greatest (filter (was_held c.args.holder.now (reverse c.args.notes.now))
      (tips_in c.args.holder.now.wallet (reverse (take (c.loop-left.left - 1) c.args.notes.now))))))
      (sym c.better_by-best.ensures);
}

pub returns-in-None : goal.returns-in-None
returns-in-None c =
    tip-undeposited c.args.holder.now (reverse c.args.notes.now) c.loop-left.best
    (tip-end (was_held c.args.holder.now (reverse c.args.notes.now)) c.args.holder.now.wallet c.args.notes.now
    c.loop-left.best _ c.loop-left.left c.loop-left-test.false c.loop-left.invariant.is) c.in-None.ensures

pub returns-in-Some : goal.returns-in-Some
returns-in-Some c =
    c.better.ensures
    ∙ tip-deposited c.args.holder.now (reverse c.args.notes.now) c.loop-left.best c.in-Some.block
    (tip-end (was_held c.args.holder.now (reverse c.args.notes.now)) c.args.holder.now.wallet c.args.notes.now
    c.loop-left.best _ c.loop-left.left c.loop-left-test.false c.loop-left.invariant.is) c.in-Some.ensures
