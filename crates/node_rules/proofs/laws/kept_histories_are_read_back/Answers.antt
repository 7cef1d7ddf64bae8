use Rattle.node_rules.proofs.KeptTexts.{kept_in-text, kept_in-spelled, handed-back, kept_links-stay}
use Rattle.node_rules.proofs.laws.kept_histories_are_read_back.Goals as goal

pub returns : goal.returns
returns c = record {
  histories = handed-back;
  read = kept_in-text;
  spelled = kept_in-spelled;
  stay = kept_links-stay;
}
