-- What the files beside this one say of the world: lines and acts, events, the trace, and the words of the promise.
pub use Rattle.world_rules.specs.Laws.{IsDigest}
pub use Rattle.world_rules.specs.Events.{Event, Idle, Joins, Declares, coin_of_call, is_bundle}
unfoldable pub use Rattle.world_rules.specs.Events.{log_of, wallet_owner, accepted, bound_by, taken_back, not_taken}
pub use Rattle.world_rules.specs.Exhibits.{forges_one}
unfoldable pub use Rattle.world_rules.specs.Exhibits.{seen, collides, openings_of, strings_of, has_clash, is_forged}
pub use Rattle.world_rules.specs.Safety.{is_mine, is_harmed, was_deposited}
unfoldable pub use Rattle.world_rules.specs.Safety.{holds, call_harms}
pub use Rattle.world_laws.specs.Legal.{Bare, left_by, is_left, is_tip}
unfoldable pub use Rattle.world_laws.specs.Legal.{IsLegal}
pub use Rattle.world_laws.specs.Looked.{is_before, fulfils}
pub use Rattle.world_laws.proofs.Lists.{has-in-flat_map, some_same, has-kept, none-any, passes-has, any-either, append-assoc, none_some, any-some, all-from}
pub use Rattle.world_laws.proofs.Clash.{HasOneLeaf, one_leaf}
pub use Rattle.world_laws.proofs.Shown.{legal-log, Deposited, Transferred, IsBegun, OfDeposit, OfSpend, legal-table, IsShownChallenge, all_shown, IsShownAt, parent_shown, seen-call}
pub use Rattle.world_laws.proofs.DueTaken.{leaves-of, shows-kept}
pub use Rattle.world_laws.proofs.Bound.{IsKept, holding, Holding, SignsBy, owner-stays}
pub use Rattle.world_laws.proofs.Held.{HeldAt, IsGoodGuard, held_top}
pub use Rattle.world_laws.proofs.DueCalls.{has-mapped, OffersDue}
pub use Rattle.world_laws.proofs.Guards.{kept-some, history-good, holds-from}
pub use Rattle.world_laws.proofs.Before.{NoneStands, HeldBefore, held_before, none-before, forged-parts, legal-before}
unfoldable pub use Rattle.world_laws.proofs.Before.{at_event}
pub use Rattle.world_laws.proofs.Watched.{AtEvent, IsSpend, is_spend, owner_is, tip_unspent}
pub use Rattle.world_laws.proofs.Steps.{OfHeld, of_held, owner-before, others-due, mine-due, own-openings, e-positive, parent-below}
pub use Rattle.world_laws.proofs.Promises.{suffix-legal, legal-to}
pub use Rattle.world_laws.proofs.OwnExits.{IsOwnAt, IfOwn, came-from, undeclared-none, left-is, left-stands, left-has}
pub use Rattle.money_laws.specs.MoneyLaws.{goes_late, is_late}
unfoldable pub use Rattle.money_laws.specs.MoneyLaws.{is_in_time}
pub use Rattle.safety_laws.specs.Look.{IsLook, IsKeptBy, AreShort, are_met, begins_own, is_calm, is_shut, IsActedOn, Covers}
pub use Rattle.safety_laws.specs.Calls.{LegalActsAreAccepted, StartsAreLeaves, LegalEnoughIsEnough, EnoughOfRunsIsEnough, ActsOfRunsAreAccepted}
pub use Rattle.safety_laws.specs.Safe.{LegalHoldersBeginInTime, LegalNextLookIsInTime, LegalLookedAtCoinsAreSafe, LookedAtCoinsAreSafe, LegalSafeMeansSafe, LegalLeavingMeansSafe, LegalActLeavesTime, LegalActMeansAct, LegalLooksAreEnough}
unfoldable pub use Rattle.safety_laws.specs.Safe.{events_after, AreLooks}
pub use Rattle.safety_laws.specs.Gone.{WasPaidTo, IsOut, LegalGoneMeansGone, LegalPaidMeansPaid, GoneMeansGone, PaidMeansPaid}
