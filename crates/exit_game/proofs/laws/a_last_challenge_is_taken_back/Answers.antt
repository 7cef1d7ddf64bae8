use Rattle.exit_game.proofs.TakenBack.{last_is_taken_back}
use Rattle.exit_game.proofs.laws.a_last_challenge_is_taken_back.Goals as goal

pub returns : goal.returns
returns c = last_is_taken_back
