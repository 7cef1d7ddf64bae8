use Rattle.crash_disk.proofs.Left.{synced_content_is_left}
use Rattle.crash_disk.proofs.laws.synced_content_is_left.Goals as goal

pub returns : goal.returns
returns c = synced_content_is_left
