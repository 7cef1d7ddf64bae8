-- What the files beside this one say of the world: lines and acts, events, the trace, and the words of the promise.
pub use Rattle.world_rules.specs.Events.{Joins, Event, Declares, Accepts, Binds, TakesBack, leaf_at, signed_away_by, is_sent_from, is_bundle, Bounces, Leaves}
unfoldable pub use Rattle.world_rules.specs.Events.{log_of, wallet_owner, bound_by, accepted, taken_back, not_taken, guarded_by}
pub use Rattle.world_rules.specs.Exhibits.{strings_in, strings_up, is_same_body, forges, forges_transfer, do_clash, forges_one}
unfoldable pub use Rattle.world_rules.specs.Exhibits.{collides, openings_of, seen, strings_of, has_clash, is_forged}
pub use Rattle.world_rules.specs.Laws.{IsDigest}
pub use Rattle.world_rules.specs.Safety.{was_deposited, is_mine, harms, is_harmed}
unfoldable pub use Rattle.world_rules.specs.Safety.{holds, is_safe, call_harms}
pub use Rattle.world_laws.specs.Legal.{starts_by, LegalCall, Taken, HasDue, LegalAccept, LegalWatch, Bare, IsGuarding, ShowsGuard, is_tip, LegalLeave}
unfoldable pub use Rattle.world_laws.specs.Legal.{IsLegal, left_by}
unfoldable pub use Rattle.world_laws.specs.Looked.{is_looked_after, has_look}
unfoldable pub use Rattle.world_laws.specs.LegalLaws.{fresh_offers}
pub use Rattle.world_laws.proofs.Lists.{some_same, found-has, passes-has, has-kept, none_some, any-none, any-some, and-off, all-from, all-changed, all-answered, all_answered-from, challenge-has}
pub use Rattle.world_laws.proofs.Before.{none-before, forged-parts, legal-before, NoneStands, none-stands, deposit-caller}
unfoldable pub use Rattle.world_laws.proofs.Before.{at_event}
pub use Rattle.world_laws.proofs.DueTaken.{due_calls_are_taken, fresh}
pub use Rattle.world_laws.proofs.Promises.{legal-to}
pub use Rattle.world_laws.proofs.Watched.{is_none-answered, IsSpend, is_none-push, AtEvent, is_spend}
pub use Rattle.world_laws.proofs.Shown.{IsShownAt, all_shown, seen-grow, legal-log, legal-table, IsShownChallenge, seen-call}
pub use Rattle.world_laws.proofs.Bound.{SignsBy, is_noted, owner-is, line_bound, unspent, Holding, holding}
pub use Rattle.world_laws.proofs.Steps.{of_held, own-openings}
pub use Rattle.money_laws.specs.MoneyLaws.{LegalBondsComeBack, BondsComeBack, cancels, LegalCancelsNeedNoMoney, CancelsNeedNoMoney, is_same_before, is_before_at, is_free, is_before_of, is_before, LeadersOfRunsArePaid, FirstsOfRunsArePaid, stands_first, wins, OnlyGuards, LegalGuardingCostsNothing, GuardingCostsNothing, LegalGuardiansHaveTheirMoney, GuardiansHaveTheirMoney, is_late, goes_late, LegalLookedAfterIsInTime, LookedAfterIsInTime, IsOnOffer, LegalReserveSuffices, ReserveSuffices, LegalTimelyCoinsAreSafe, TimelyCoinsAreSafe}
unfoldable pub use Rattle.money_laws.specs.MoneyLaws.{BeforesAreAccepted, wins_in, OnlyGuarded, is_in_time, AreOnOffer}
pub use Rattle.money_laws.specs.Samples.{me, stranger, tag, rules, transfer, byte, print, alone, root_with, planted, hidden, taken, began, exit_one, attacked, secret, link, bundle, received, old_exit, after, commits, second, second_exit, between, before_one, before_by_friend, own_exit, exit_two, before_two}
unfoldable pub use Rattle.money_laws.specs.Samples.{signed, unsigned, digest, shows}
pub use Rattle.money_laws.specs.Worked.{tests, left_behind, AnAfterNeedsNoMoney, spent_twice, ABetweenNeedsNoMoney, finish, covering, covered, AttackCostsNothing, guarding_begins, challenged, guarding, GuardingIsTight, IsGuarded, raced, ShowsNothing, LeavingFirstIsTight, tips, IsAttacked, ReserveIsTight}
pub use Rattle.money_laws.specs.Bonds.{bonds_at, first_or, if_to, EndsPayBonds, staked}
unfoldable pub use Rattle.money_laws.specs.Bonds.{sum_over}
pub use Rattle.money_laws.specs.Reserve.{asks, reserve, Tip, is_at_tip, needs_before, is_before_by, ReserveIsNeeded}
unfoldable pub use Rattle.money_laws.specs.Reserve.{reserve_of, AreAccepted, with_calls, AreApart}
pub use Rattle.money_laws.specs.Keepers.{IsKeeper, HoldersKeep, LegalTipsAreNotAnswered, LegalTipsStayOpen, TipsStayOpen, TipsAreNotAnswered}
unfoldable pub use Rattle.money_laws.specs.Keepers.{keeps}
pub use Rattle.money_laws.specs.First.{is_ripe, is_missed, ends_lead, leads, LeadersArePaid, FirstsLead, FirstsArePaid}
unfoldable pub use Rattle.money_laws.specs.First.{has_led, ends_first}
