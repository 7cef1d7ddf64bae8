use Rattle.node_deeds.proofs.WalletOrderLaws.{orders_add_one_record}
use Rattle.node_deeds.proofs.wallet.laws.wallet_orders_add_one_record.Goals as goal

pub returns : goal.returns
returns c = orders_add_one_record
