use Rattle.plasma_tx.proofs.OpeningTexts.{opening_in-text, text-opening_in, leaf-shown}
use Rattle.plasma_tx.proofs.laws.openings_have_one_spelling.Goals as goal

pub returns : goal.returns
returns c = record { leaf = leaf-shown; read_back = opening_in-text; one = text-opening_in }
