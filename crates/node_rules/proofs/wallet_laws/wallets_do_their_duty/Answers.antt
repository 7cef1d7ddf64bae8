use Rattle.node_rules.proofs.WalletDuty.{wallets_do_their_duty}
use Rattle.node_rules.proofs.wallet_laws.wallets_do_their_duty.Goals as goal

pub returns : goal.returns
returns c = wallets_do_their_duty
