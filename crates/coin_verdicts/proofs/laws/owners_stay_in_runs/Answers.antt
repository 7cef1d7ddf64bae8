use Rattle.std.proofs.Common.{List, [], ◌∷◌}
use Rattle.world_rules.specs.Events.{Event}
use Rattle.world_rules.proofs.HeldTips.{OwnersStay as Stay}
use Rattle.world_rules.proofs.NamedSteps.{run-kept}
use Rattle.coin_verdicts.specs.Facts.{OwnersStay}
use Rattle.coin_verdicts.proofs.laws.owners_stay_in_runs.Goals as goal

stay : (events : List Event) → Stay events → OwnersStay events
stay [] are = are
stay (event ∷ events) are = (are.0, stay events are.1)

pub returns : goal.returns
returns c dig lines run world is has = stay _ ((run-kept dig lines run is).kept world has).stay
