use Rattle.tag_laws.proofs.Alike.{tags_are_not_asked}
use Rattle.tag_laws.proofs.Spent.{more_leaves_take_away, named_tips_are_spent}
use Rattle.tag_laws.proofs.laws.leaves_of_other_tags_only_take_away.Goals as goal

pub returns-clause-alike : goal.returns-clause-alike
returns-clause-alike c = tags_are_not_asked

pub returns-clause-fewer : goal.returns-clause-fewer
returns-clause-fewer c = more_leaves_take_away

pub returns-clause-spent : goal.returns-clause-spent
returns-clause-spent c = named_tips_are_spent
