use Rattle.node_rules.proofs.WalletTexts.{identity_in-text, identity_in-spelled, note_in-text, note_in-spelled}
use Rattle.node_rules.proofs.wallet_laws.wallet_records_have_one_spelling.Goals as goal

pub returns : goal.returns
returns c = record {
  identities_read = identity_in-text;
  identities_spelled = identity_in-spelled;
  notes_read = note_in-text;
  notes_spelled = note_in-spelled;
}
