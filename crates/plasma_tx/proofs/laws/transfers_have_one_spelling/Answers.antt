use Rattle.plasma_tx.proofs.Spellings.{signed_in-text, signed_text-in}
use Rattle.plasma_tx.proofs.laws.transfers_have_one_spelling.Goals as goal

pub returns : goal.returns
returns c = record { read_back = signed_in-text; one = signed_text-in }
