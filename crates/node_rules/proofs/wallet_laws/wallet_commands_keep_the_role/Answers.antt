use Rattle.node_rules.proofs.WalletRole.{accepts_keep_the_role, sends_keep_the_role, leaves_keep_the_role, reclaims_keep_the_role, migrations_keep_the_role}
use Rattle.node_rules.proofs.wallet_laws.wallet_commands_keep_the_role.Goals as goal

pub returns : goal.returns
returns c = record {
  accept = accepts_keep_the_role;
  send = sends_keep_the_role;
  leave = leaves_keep_the_role;
  reclaim = reclaims_keep_the_role;
  migrate = migrations_keep_the_role;
}
