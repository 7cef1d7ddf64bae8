use Rattle.tag_laws.proofs.Tags.{read_transfers_have_the_tag, others_are_refused, others_are_no_transfers, others_are_not_shown}
use Rattle.tag_laws.proofs.laws.other_tags_are_not_read.Goals as goal

pub returns-clause-read : goal.returns-clause-read
returns-clause-read c = read_transfers_have_the_tag

pub returns-clause-refused : goal.returns-clause-refused
returns-clause-refused c = others_are_refused

pub returns-clause-leaves : goal.returns-clause-leaves
returns-clause-leaves c = others_are_no_transfers

pub returns-clause-shown : goal.returns-clause-shown
returns-clause-shown c = others_are_not_shown
