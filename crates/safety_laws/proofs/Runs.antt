-- The laws at each line of a run.
use Rattle.safety_laws.proofs.Basics.{[], ◌∷◌}
use Rattle.safety_laws.proofs.CoinWords.{tests_by, rules_of}
use Rattle.safety_laws.proofs.WorldWords.{legal-to, suffix-legal, events_after, LegalLookedAtCoinsAreSafe, LookedAtCoinsAreSafe, GoneMeansGone, PaidMeansPaid, ActsOfRunsAreAccepted}
use Rattle.money_laws.proofs.Timely.{timely_coins_are_safe}
use Rattle.safety_laws.proofs.SafeWords.{looks_are_enough}
use Rattle.safety_laws.proofs.GoneWords.{gone_means_gone, paid_means_paid}
use Rattle.safety_laws.proofs.Acts.{acts_are_accepted}

pub looked_at_are_safe : LegalLookedAtCoinsAreSafe
looked_at_are_safe dig rules event looks first w c e digest legal are so_far =
    timely_coins_are_safe dig rules event (events_after looks first) w c e digest legal
    (looks_are_enough dig rules looks first w c e digest
    (suffix-legal (tests_by dig) rules (event ∷ []) (events_after looks first) legal) are so_far)

pub run_looked_at_are_safe : LookedAtCoinsAreSafe
run_looked_at_are_safe dig lines run world rest event looks first w c e is split =
    looked_at_are_safe dig (rules_of world.chain) event looks first w c e is.digest
    (legal-to dig lines run world rest (event ∷ events_after looks first) is split)

pub run_gone_means_gone : GoneMeansGone
run_gone_means_gone dig lines run world later events by clock account line kept is split =
    gone_means_gone (tests_by dig) (rules_of world.chain) events by clock account line kept
    (legal-to dig lines run world later events is split)

pub run_paid_means_paid : PaidMeansPaid
run_paid_means_paid dig lines run world later events by clock kept is split =
    paid_means_paid (tests_by dig) (rules_of world.chain) events by clock kept
    (legal-to dig lines run world later events is split)

pub run_acts_are_accepted : ActsOfRunsAreAccepted
run_acts_are_accepted dig lines run world later events n account kept call is split by =
    acts_are_accepted dig (rules_of world.chain) events n account kept call is.digest
    (legal-to dig lines run world later events is split) by
