use Rattle.node_lives.proofs.Life.{begun_nodes_stay}
use Rattle.node_lives.proofs.laws.begun_nodes_stay.Goals as goal

pub returns : goal.returns
returns g c = λ dig. begun_nodes_stay g.D.Disk.told g.D.Disk.plan g.D.Disk.faults dig
