use Rattle.tag_laws.proofs.Samples.{others_are_opened, others_count, others_are_told}
use Rattle.tag_laws.proofs.laws.premises_can_be_met.Goals as goal

pub returns-clause-opened : goal.returns-clause-opened
returns-clause-opened c = others_are_opened

pub returns-clause-counted : goal.returns-clause-counted
returns-clause-counted c = others_count

pub returns-clause-told : goal.returns-clause-told
returns-clause-told c = others_are_told
