use Rattle.node_rules.proofs.WalletRole.{leaves_are_answered}
use Rattle.node_rules.proofs.ExitTips.{exits_are_of_the_tip}
use Rattle.node_rules.proofs.wallet_laws.held_coins_may_leave.Goals as goal

pub returns : goal.returns
returns c = record { answered = leaves_are_answered; tip = exits_are_of_the_tip }
