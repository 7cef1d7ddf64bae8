use Rattle.std.proofs.Common.{sym, ◌∙◌, ap}
use Rattle.node_rules.specs.WalletRecords.{identity_in}
use Rattle.wallet_node.proofs.OnOpening.{who-is, who-supported}
use Rattle.wallet_node.proofs.opening.identity_of.Goals as goal

pub returns-clause-value : goal.returns-clause-value
returns-clause-value g c =
    who-is c.args.records.now c.in-Some.first.now c.in-Some-identity_in.who (c.in-Some.ensures.value)
    (sym c.in-Some-identity_in.is ∙ c.identity_in.ensures ∙ ap identity_in c.as_slice.ensures)

pub returns-clause-types : goal.returns-clause-types
returns-clause-types g c =
    who-supported c.in-Some.first.now c.in-Some-identity_in.who
    (sym c.in-Some-identity_in.is ∙ c.identity_in.ensures ∙ ap identity_in c.as_slice.ensures)
