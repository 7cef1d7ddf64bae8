use Rattle.hss_keys.proofs.Spelling.{entries_are_read_back}
use Rattle.hss_keys.proofs.laws.entries_are_read_back.Goals as goal

pub returns : goal.returns
returns c = entries_are_read_back
