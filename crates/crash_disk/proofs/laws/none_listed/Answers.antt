use Rattle.crash_disk.proofs.Plans.{none_listed}
use Rattle.crash_disk.proofs.laws.none_listed.Goals as goal

pub returns : goal.returns
returns c = λ disk n empty. none_listed disk empty n
