use Rattle.world_laws.proofs.Invariant.{holders-begin, lines-keep, watched-harmless, held-watched}
use Rattle.world_laws.proofs.invariant_laws.held_coins_stay_watched.Goals as goal

pub returns-clause-begins : goal.returns-clause-begins
returns-clause-begins c = holders-begin

pub returns-clause-kept : goal.returns-clause-kept
returns-clause-kept c = lines-keep

pub returns-clause-harmless : goal.returns-clause-harmless
returns-clause-harmless c = watched-harmless

pub returns-clause-so : goal.returns-clause-so
returns-clause-so c = held-watched
