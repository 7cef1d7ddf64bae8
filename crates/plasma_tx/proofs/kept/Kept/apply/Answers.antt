use Rattle.std.proofs.Common.{sym, ◌∙◌}
use Rattle.plasma_tx.proofs.Keeps.{keeps-Tick, keeps-none, keeps-change}
use Rattle.plasma_tx.proofs.kept.Kept.apply.Goals as goal

pub returns-in-Tick-clause-ok : goal.returns-in-Tick-clause-ok
returns-in-Tick-clause-ok c = λ log k. rw c.in-Tick.is (keeps-Tick log c.in-Tick.now c.args.self.now k)

pub returns-in-None : goal.returns-in-None
returns-in-None c = record {
  ok = λ log k. keeps-none log c.args.call.now c.args.self.now.clock c.args.self.now c.in_default.not-Tick
      c.in_default.not-Deposit c.in_default.not-Commit (sym c.change_of.ensures ∙ c.in-None.is) k;
  err = tt;
}

pub returns-in_ok-change_coin-in-Some : goal.returns-in_ok-change_coin-in-Some
returns-in_ok-change_coin-in-Some c = record {
  ok = λ log k. keeps-change log c.args.call.now c.in-Some.coin c.in-Some.change c.args.self.now
      c.change_coin.new.states c.change_coin.new.exiting (sym c.change_of.ensures ∙ c.in-Some.is)
      c.in_ok-change_coin-in-Some.ensures.ok c.change_coin.ensures.exiting c.change_coin.ensures.rising k;
  err = tt;
}
