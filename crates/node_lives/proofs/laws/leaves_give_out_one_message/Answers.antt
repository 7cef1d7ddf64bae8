use Rattle.node_lives.proofs.Leaves.{leaves_give_out_one_message}
use Rattle.node_lives.proofs.laws.leaves_give_out_one_message.Goals as goal

pub returns : goal.returns
returns g c = λ dig. leaves_give_out_one_message g.D.Disk.told g.D.Disk.plan g.D.Disk.faults dig
