-- What the files above know of a coin that a wallet holds: how its histories walk, what shows it, whose leaves bind it.
pub use Rattle.world_laws.proofs.Bound.{holding, Holding, is_noted, owner-is, IsKept, is_kept, kept-grow, SignsBy, owner-stays, owners_apart, owner-some, bound_since, unspent, line_bound}
unfoldable pub use Rattle.world_laws.proofs.Bound.{IsSince}
pub use Rattle.world_laws.proofs.Clash.{one_leaf, HasOneLeaf, clash-from, IsOpened}
pub use Rattle.world_laws.proofs.Shown.{all_shown, seen-grow, IsShownAt, legal-log, log-seen, Deposited, Transferred, IsBegun, OfDeposit, OfSpend, seen-call, IsShownChallenge, legal-table, parent_shown, shown_at-grow}
pub use Rattle.world_laws.proofs.Absences.{names, away-untake, away-unbind, parted, back-more, any-rest, any-without, any-top, leaf_at-push, IsParted}
pub use Rattle.world_laws.proofs.Held.{held_at, IsGoodGuard, deposited-coin, known-from, good_guard, held_top, empty-walk, Known, shown-ge, link_in, HeldAt, end_shown, shown_same, successor_in}
pub use Rattle.world_laws.proofs.Histories.{links-at, shown-tip, place_of}
pub use Rattle.world_laws.proofs.Walk.{Spent, walk-order, walk-opened, walk-passes}
