-- The calls that are advised are accepted, over legal events.
use Rattle.safety_laws.proofs.Basics.{sym, subst, arith, rules, common_steps}
use Rattle.safety_laws.proofs.CoinWords.{Tests, tests_by, IsHistory}
use Rattle.safety_laws.proofs.WorldWords.{log_of, seen, collides, HasOneLeaf, one_leaf, legal-log, LegalActsAreAccepted, StartsAreLeaves, leaves-of}
use Rattle.coin_safety.proofs.Accepting.{acts_are_accepted as acts_taken}
use Rattle.safety_laws.proofs.AtLook.{keeps_it}

pub acts_are_accepted : LegalActsAreAccepted
unfolding collides
acts_are_accepted dig rules events n account kept call digest legal by among none rich =
    let tests : Tests = tests_by dig in
    let k = keeps_it tests rules events n kept legal by in
    let one = one_leaf dig digest (log_of events) kept.links.coin (seen events kept.links.coin) none in
    acts_taken tests rules (log_of events) account by.bundle kept call (legal-log tests rules events legal)
    (subst (IsHistory tests rules (log_of events) by.bundle) k.links_are k.is.history)
    (leaves-of tests events by.bundle.coin by.bundle.openings
    (subst (λ c. HasOneLeaf tests (log_of events) c (seen events c)) (sym k.coin_is) one) k.is.is_seen) among rich

pub starts_are_leaves : StartsAreLeaves
starts_are_leaves account at links = grind (arith, common_steps)
