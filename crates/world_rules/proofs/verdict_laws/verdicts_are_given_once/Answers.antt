use Rattle.world_rules.proofs.VerdictLaws.{held_coins_have_one_verdict, verdicts_are_of_held_coins}
use Rattle.world_rules.proofs.verdict_laws.verdicts_are_given_once.Goals as goal

pub returns : goal.returns
returns c = record { one = held_coins_have_one_verdict; held = verdicts_are_of_held_coins }
