use Rattle.std.proofs.Common.{◌∙◌, ap}
use Rattle.node_rules.specs.WalletRecords.{owner_of}
use Rattle.wallet_node.proofs.OnOpening.{owner-is}
use Rattle.wallet_node.proofs.opening.kept_by.Goals as goal

pub read_memory-requires-clause-me : goal.read_memory-requires-clause-me
read_memory-requires-clause-me g c =
    owner-is c.args.who.now c.args.public c.requires.public ∙ ap owner_of c.requires.who
