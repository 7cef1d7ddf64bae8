use Rattle.receipt_audit.proofs.PromiseTexts.{promises_are_read_back, promises_have_one_spelling as law}
use Rattle.receipt_audit.proofs.laws.promises_have_one_spelling.Goals as goal

pub returns : goal.returns
returns c = record { read_back = promises_are_read_back; one = law }
