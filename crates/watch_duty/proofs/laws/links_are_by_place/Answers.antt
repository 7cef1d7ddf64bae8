use Rattle.watch_duty.proofs.Places.{links-are as law}
use Rattle.watch_duty.proofs.laws.links_are_by_place.Goals as goal

pub returns : goal.returns
returns c = law
