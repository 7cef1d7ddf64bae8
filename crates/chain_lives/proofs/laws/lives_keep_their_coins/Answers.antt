use Rattle.chain_lives.proofs.Keeping.{lives_keep_their_coins, lives_hold_apart, lives_due_calls_are_taken, lives_starts_are_taken}
use Rattle.chain_lives.proofs.laws.lives_keep_their_coins.Goals as goal

pub returns : goal.returns
returns g c = record {
  safe = λ dig rules. lives_keep_their_coins g.D.Disk.told g.D.Disk.plan g.D.Disk.faults dig rules;
  one_holder = λ dig rules. lives_hold_apart g.D.Disk.told g.D.Disk.plan g.D.Disk.faults dig rules;
  due_is_taken = λ dig rules. lives_due_calls_are_taken g.D.Disk.told g.D.Disk.plan g.D.Disk.faults dig rules;
  starts_are_taken = λ dig rules. lives_starts_are_taken g.D.Disk.told g.D.Disk.plan g.D.Disk.faults dig rules;
}
