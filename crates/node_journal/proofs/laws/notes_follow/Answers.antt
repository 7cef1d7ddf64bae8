use Rattle.node_journal.proofs.Roles.{notes_follow}
use Rattle.node_journal.proofs.laws.notes_follow.Goals as goal

pub returns : goal.returns
returns c = notes_follow
