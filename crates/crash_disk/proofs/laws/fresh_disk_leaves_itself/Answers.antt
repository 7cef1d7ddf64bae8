use Rattle.crash_disk.proofs.Left.{fresh_disk_leaves_itself}
use Rattle.crash_disk.proofs.laws.fresh_disk_leaves_itself.Goals as goal

pub returns : goal.returns
returns c = fresh_disk_leaves_itself
