use Rattle.std.proofs.Common.{◌≡◌, ◌+◌, ◌-◌, sym, ◌∙◌, arith}
use Rattle.node_rules.specs.WalletRecords.{leaves_in}
use Rattle.node_rules.specs.Wallet.{names_coin}
use Rattle.wallet_node.proofs.Spends.{last-here, last-not}
use Rattle.wallet_node.proofs.node.WalletNode.last_leaf.Goals as goal

pub returns-then-names_coin : goal.returns-then-names_coin
returns-then-names_coin g c =
    let q = c.loop-q.q in
    let more : q ≡ (q - 1) + 1 = omega (arith, c.loop-q-test.true) in
    sym (c.loop-q.invariant
    ∙ last-here (names_coin (leaves_in c.args.self.now.records.leaves) c.args.coin) (q - 1) q more
    (sym c.if-names_coin.ensures))

pub loop-q-preserved : goal.loop-q-preserved
loop-q-preserved g c =
    let q = c.loop-q.q in
    let more : q ≡ (q - 1) + 1 = omega (arith, c.loop-q-test.true) in
    c.loop-q.invariant
    ∙ last-not (names_coin (leaves_in c.args.self.now.records.leaves) c.args.coin) (q - 1) q more
    (sym c.if-names_coin.ensures)
