use Rattle.crash_disk.proofs.Plans.{next_by_fuse}
use Rattle.crash_disk.proofs.laws.next_pass_by_fuse.Goals as goal

pub returns : goal.returns
returns c = next_by_fuse
