use Rattle.node_deeds.proofs.WalletOrderLaws.{orders_keep_the_role}
use Rattle.node_deeds.proofs.wallet.laws.wallet_orders_keep_the_role.Goals as goal

pub returns : goal.returns
returns c = orders_keep_the_role
