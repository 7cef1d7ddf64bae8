use Rattle.node_lives.proofs.Identities.{identities_are_of_their_roles}
use Rattle.node_lives.proofs.laws.identities_are_of_their_roles.Goals as goal

pub returns : goal.returns
returns c = identities_are_of_their_roles
