use Rattle.chain_lives.proofs.Log.{events_hold_the_chain}
use Rattle.chain_lives.proofs.Entries.{events_tell_each_entry}
use Rattle.chain_lives.proofs.laws.events_hold_the_chain.Goals as goal

pub returns : goal.returns
returns g c = record {
  accepted = λ dig rules. events_hold_the_chain g.D.Disk.told g.D.Disk.plan g.D.Disk.faults dig rules;
  entered = λ dig rules. events_tell_each_entry g.D.Disk.told g.D.Disk.plan g.D.Disk.faults dig rules;
}
