use Rattle.std.proofs.Common.{◌∙◌}
use Rattle.plasma_tx.proofs.root_log.RootLog.commits.Goals as goal

pub returns : goal.returns
returns c = rw (← c.self.view_is) (c.contains.ensures ∙ c.self.invariant.roots_are c.args.root.now)
