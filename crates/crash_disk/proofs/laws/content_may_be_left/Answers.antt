use Rattle.crash_disk.proofs.Left.{content_may_be_left}
use Rattle.crash_disk.proofs.laws.content_may_be_left.Goals as goal

pub returns : goal.returns
returns c = content_may_be_left
