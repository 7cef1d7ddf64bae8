use Rattle.std.proofs.Common.{sym, ap, ◌∙◌}
use Rattle.safe_runs.proofs.holdings.Holdings.read.Goals as goal

pub returns-in-Ok-clause-read : goal.returns-in-Ok-clause-read
returns-in-Ok-clause-read g c = rw c.in_ok-node.ensures.hash c.in_ok-node.ensures.opened

pub returns-in-Ok-clause-sound : goal.returns-in-Ok-clause-sound
returns-in-Ok-clause-sound g c = rw c.in_ok-node.ensures.hash c.in-Ok.ensures
