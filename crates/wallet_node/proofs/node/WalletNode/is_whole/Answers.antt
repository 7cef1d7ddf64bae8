use Rattle.std.proofs.Common.{◌≡◌, true, sym, ◌∙◌, ap}
use Rattle.node_journal.specs.Role.{are_of}
use Rattle.leaf_journal.specs.Records.{leaf_records}
use Rattle.node_rules.specs.WalletRecords.{wallet_kinds}
use Rattle.node_rules.specs.WalletOpening.{is_wallet}
use Rattle.node_rules.proofs.WalletGrow.{wallet-from}
use Rattle.wallet_node.specs.declared.role.WalletRole.{WalletRole}
use Rattle.wallet_node.specs.State.{WalletState}
use Rattle.wallet_node.proofs.Kept.{passing-leaves}
use Rattle.wallet_node.proofs.node.WalletNode.is_whole.Goals as goal

pub returns-clause-role : goal.returns-clause-role
returns-clause-role g c =
    let inside = c.self.inside in
    let kept = c.self.invariant.0 in
    let dig = g.H.Hash32.digest_of inside.hash in
    let records = inside.notes.notes.records in
    let leaves = inside.leaves.notes.records in
    let role : are_of (wallet_kinds dig) records ≡ true =
    ap (λ (r : WalletRole _). are_of (wallet_kinds (g.H.Hash32.digest_of r.hash)) records) (sym c.self.invariant.1)
    ∙ c.is_whole.ensures.role in
    ap (λ (s : WalletState _ _). is_wallet (g.H.Hash32.digest_of s.hash) s.records) (sym c.self.view_is)
    ∙ wallet-from dig (record { notes = records; leaves = leaves }) (record {
      role = role;
      leaves = passing-leaves _ leaves (ap (λ n. leaf_records n leaves) (sym kept.count) ∙ c.is_whole-2.ensures.are)
          kept.pass;
      bound = kept.bound;
    })
