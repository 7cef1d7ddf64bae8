use Rattle.node_rules.proofs.WalletRole.{accepts_add_their_notes, sends_add_their_leaves, leaves_add_their_notes, reclaims_add_their_notes, migrations_add_the_marker}
use Rattle.node_rules.proofs.wallet_laws.wallet_commands_add_their_records.Goals as goal

pub returns : goal.returns
returns c = record {
  accept = accepts_add_their_notes;
  send = sends_add_their_leaves;
  leave = leaves_add_their_notes;
  reclaim = reclaims_add_their_notes;
  migrate = migrations_add_the_marker;
}
