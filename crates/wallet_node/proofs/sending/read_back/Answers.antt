use Rattle.std.proofs.Common.{◌≡◌, true, sym, ◌∙◌, ap}
use Rattle.node_rules.specs.WalletRecords.{is_body}
use Rattle.wallet_node.proofs.Leaves.{body-is, read-is, read-some}
use Rattle.wallet_node.proofs.sending.read_back.Goals as goal

pub unreachable-requires : goal.unreachable-requires
unreachable-requires c =
    let is : is_body c.args.message.now ≡ true = ap is_body c.requires
    ∙ body-is c.args.body.now c.if-prove.false c.if-prove-2.false in
    read-some c.args.message.now is (sym c.in_default.is ∙ c.body_of.ensures)

pub returns-clause-read : goal.returns-clause-read
returns-clause-read c = read-is c.args.message.now c.in-Some.read (sym c.in-Some.is ∙ c.body_of.ensures)

pub returns-clause-is_body : goal.returns-clause-is_body
returns-clause-is_body c =
    ap is_body c.requires ∙ body-is c.args.body.now c.if-prove.false c.if-prove-2.false
