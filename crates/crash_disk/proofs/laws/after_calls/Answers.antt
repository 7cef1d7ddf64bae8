use Rattle.crash_disk.proofs.Plans.{plan_after}
use Rattle.crash_disk.proofs.laws.after_calls.Goals as goal

pub returns : goal.returns
returns c = plan_after
