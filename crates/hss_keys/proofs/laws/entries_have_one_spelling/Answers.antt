use Rattle.hss_keys.proofs.Spelling.{entries_have_one_spelling}
use Rattle.hss_keys.proofs.laws.entries_have_one_spelling.Goals as goal

pub returns : goal.returns
returns c = entries_have_one_spelling
