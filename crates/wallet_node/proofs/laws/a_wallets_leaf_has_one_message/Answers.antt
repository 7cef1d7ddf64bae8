use Rattle.wallet_node.proofs.OneMessage.{a_wallets_leaf_has_one_message}
use Rattle.wallet_node.proofs.laws.a_wallets_leaf_has_one_message.Goals as goal

pub returns : goal.returns
returns c = a_wallets_leaf_has_one_message
