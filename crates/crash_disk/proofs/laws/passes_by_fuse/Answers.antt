use Rattle.crash_disk.proofs.Plans.{passing-by_fuse}
use Rattle.crash_disk.proofs.laws.passes_by_fuse.Goals as goal

pub returns : goal.returns
returns c = passing-by_fuse
