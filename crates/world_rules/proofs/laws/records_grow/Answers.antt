use Rattle.world_rules.proofs.NodeLaws.{records_grow}
use Rattle.world_rules.proofs.CutLaws.{crashes_leave_the_records}
use Rattle.world_rules.proofs.laws.records_grow.Goals as goal

pub returns : goal.returns
returns c = record {
  step = records_grow;
  crash = crashes_leave_the_records;
}
