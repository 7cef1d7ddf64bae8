use Rattle.run_lives.proofs.Spelled.{inits_are_of_their_roles}
use Rattle.run_lives.proofs.laws.inits_are_of_their_roles.Goals as goal

pub returns : goal.returns
returns c = inits_are_of_their_roles
