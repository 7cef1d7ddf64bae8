-- Names that the files beside this one use.
pub use Rattle.std.proofs.Common.{◌==◌, ◌∙◌, sym, rules, tests, ◌≡◌, ◌&&◌, ◌||◌, ℕ, take, ◌≢◌, ◌<◌, ◌≤◌, ◌+◌, ◌⊎◌, inl, inr, max, not, Bool, true, false, cond, if◌then◌else◌, List, [], ◌∷◌, length, slice_index_or, zero, suc, Option, Some, None, is_some, is_none, find, refl, ap, subst, arith, ◌++◌}
pub use Rattle.std.specs.List.{list_any, fold, reduce, range_with_len, All, Contains}
pub use Rattle.std.specs.Ordering.{nat_cmp}
pub use Rattle.std.specs.BTreeSet.{contains, BTreeSet}
pub use Rattle.std.proofs.lemmas.Bool.{cond-true, cond-false, cases_lt, cases_eq, eq-eqb, and_left, and_parts, and_from, or_right, ne_eqb}
pub use Rattle.std.proofs.lemmas.List.Folds.{list_any_at, list_any-append}
pub use Rattle.std.proofs.lemmas.Grind.{common_steps}
pub use Rattle.plasma_tx.specs.declared.call.RootCall.{RootCall}
pub use Rattle.plasma_tx.specs.Views.{is_exiting, is_withdrawn, coins}
unfoldable pub use Rattle.plasma_tx.specs.Views.{deposits_of, coin_at}
pub use Rattle.wallet_core.specs.State.{noted_tips, tips_of, sends_by, spends_tip, is_noted, state_at, state_by, is_signed_away, own_deposit}
unfoldable pub use Rattle.wallet_core.specs.State.{greatest, sending_leaf, state_of, holds}
pub use Rattle.wallet_core.specs.Laws.{IsTip, IsLowestLeaf, NoLeaf, SendingIs, LeavingIs, HeldIs, NothingIs, KeptCoinsAreHeld, HeldCoinsAreKept, OtherCoinsAreNothing}
