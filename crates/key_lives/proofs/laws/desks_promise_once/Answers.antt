use Rattle.key_lives.proofs.DeskLife.{desks_promise_once}
use Rattle.key_lives.proofs.laws.desks_promise_once.Goals as goal

pub returns : goal.returns
returns g c = λ dig. desks_promise_once g.D.Disk.told g.D.Disk.plan g.D.Disk.faults dig
