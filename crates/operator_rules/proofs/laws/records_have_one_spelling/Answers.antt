use Rattle.operator_rules.proofs.RecordTexts.{identity_in-text, identity_text-in, note_in-text, note_text-in}
use Rattle.operator_rules.proofs.laws.records_have_one_spelling.Goals as goal

pub returns : goal.returns
returns c = record {
  identities_read = identity_in-text;
  identities_spelled = identity_text-in;
  notes_read = note_in-text;
  notes_spelled = note_text-in;
}
