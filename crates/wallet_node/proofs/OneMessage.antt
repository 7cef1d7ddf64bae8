-- A wallet's leaf has one message.
use Rattle.wallet_node.proofs.Words.{arith, common_steps}
use Rattle.std.proofs.lemmas.List.Concat.{flat_map-append}
use Rattle.leaf_journal.proofs.Lives.{a_leaf_has_one_message}
use Rattle.wallet_node.specs.Lives.{AWalletsLeafHasOneMessage}

pub a_wallets_leaf_has_one_message : AWalletsLeafHasOneMessage
a_wallets_leaf_has_one_message leaves disk earlier later leaf one other may first last =
    grind (arith, common_steps, flat_map-append, a_leaf_has_one_message) steps 20000
