use Rattle.chain_lives.proofs.CutChains.{chains_with_cuts_are_chains, chains_are_chains_with_cuts, lives_with_cuts_keep_their_coins}
use Rattle.chain_lives.proofs.laws.chains_with_cuts_are_chains.Goals as goal

pub returns : goal.returns
returns g c = record {
  chains = λ dig rules. chains_with_cuts_are_chains g.D.Disk.told g.D.Disk.plan g.D.Disk.faults dig rules;
  ended = λ dig rules. chains_are_chains_with_cuts g.D.Disk.told g.D.Disk.plan g.D.Disk.faults dig rules;
  safe = λ dig rules. lives_with_cuts_keep_their_coins g.D.Disk.told g.D.Disk.plan g.D.Disk.faults dig rules;
}
