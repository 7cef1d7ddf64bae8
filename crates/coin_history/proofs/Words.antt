-- Names that many files beside this one use: lists and numbers, calls, openings and links, and what a history shows.
pub use Rattle.std.proofs.Common.{◌++◌, length, ◌≡◌, ℕ, suc, ◌+◌, ◌-◌, ◌<◌, ◌≤◌, List, [], ◌∷◌, Option, Ok, Err, get_or, take, drop, refl, sym, ap, ◌∙◌, inl, inr, arith, true, ◌==◌, ◌&&◌, not, Bool, false, if◌then◌else◌, Some, None, subst, filter, zero, IsTrue, ◌↔◌, ◌≢◌, map, ◌^◌, append_assoc, append-nil}
pub use Rattle.std.specs.Prelude.{◌⊎◌, is_ok, Result, nat_lt, ◌||◌, nat_le, slice_get, is_some}
pub use Rattle.std.specs.List.{flat_map, slice_range, AllByRecursion, cons_option, range_with_len, All, Contains, AllPairs}
pub use Rattle.std.specs.Option.{option_map_or, option_map, option_and_then, option_or, option_to_list}
pub use Rattle.std.proofs.lemmas.Bool.{lt-ltb, le-ltb, eqb-true, eq-eqb, and_from, or_cases, or_right, le-leb, true≢false, false_from_ne_true, not-false, cases_eq, ne_eqb, leb-true, leb-false, cases_lt, both_ways, ltb-false, and_parts, ltb-true, cases_Bool}
pub use Rattle.std.proofs.lemmas.List.{take_at, take_more, take-append-drop, flat_map_more, drop_more, drop_all, length-map, drop_at, drop-drop, length-drop, length-append}
pub use Rattle.std.proofs.lemmas.Grind.{common_steps}
pub use Rattle.std.proofs.lemmas.List.Elements.{recursion_from_All, All-from_recursion, All-filter, All-cons, All-head, All-tail, All-contains_itself, filter_map-append, All-from_get_or, filter-append}
pub use Rattle.std.proofs.lemmas.Option.{slice_get_read, slice_get-map}
pub use Rattle.std.proofs.lemmas.Result.{IfOk-equal, err_from_is_err_and}
pub use Rattle.plasma_tx.specs.Spelling.{number_text, number_at, AreBytes}
pub use Rattle.plasma_tx.specs.declared.opening.RawOpening.{RawOpening}
pub use Rattle.coin_history.specs.declared.bundle.Bundle.{Bundle}
pub use Rattle.coin_history.specs.declared.refusal.HistoryRefusal.{HistoryRefusal}
pub use Rattle.coin_history.specs.declared.refusal.HistoryRefusal.TheVariants.{BadBundle, MissingBlock, NoMemory, NoCoin, UnknownBlock, NotAbsent, NotLink, BadSignature}
pub use Rattle.coin_history.specs.Bundles.{length_text, item_text, length_at, Items, with_item, AreRising, bundle_of, HasFirstItem, IsBundle}
unfoldable pub use Rattle.coin_history.specs.Bundles.{bundle_text, items_in, bundle_in}
pub use Rattle.plasma_tx.specs.declared.call.RootCall.{RootCall}
pub use Rattle.plasma_tx.specs.Shown.{Tests, Rules, spends, root_in, root_at, tests_by, rules_of, signs}
pub use Rattle.coin_history.specs.History.{is_committed, opens_block, is_absent, transfer_of, links_of, IsHistory, tagged, leaf_of_opening, is_empty, blocks_of, link_of}
unfoldable pub use Rattle.coin_history.specs.History.{links_in, AreLinked, committed_blocks}
pub use Rattle.coin_history.specs.Checking.{Cause, first_cause, is_asked, opening_at, missing, opening_causes, links_before, link_causes, failure_in, unless_failed, may_be_tip, checked, IsLookedAt, LooksAtHistory, where_made, failure_of_absence, is_next, is_next_signed}
unfoldable pub use Rattle.coin_history.specs.Checking.{lowest_failure, above, history_of, absence_of}
pub use Rattle.coin_history.specs.Inside.{links_with, NoneIsAsked, IsFirstAsked}
pub use Rattle.plasma_tx.specs.declared.views.BlockView.{BlockView}
pub use Rattle.plasma_tx.specs.declared.views.CoinView.{CoinView}
pub use Rattle.plasma_tx.specs.declared.call.RootCall.TheVariants.{Deposit, Commit}
pub use Rattle.plasma_tx.specs.Views.{coins, owner_of_opening}
unfoldable pub use Rattle.plasma_tx.specs.Views.{coin_at, blocks, block_at}
pub use Rattle.plasma_tx.proofs.Names.{some_same, option_or-none}
pub use Rattle.plasma_tx.specs.declared.signed_tx.SignedTx.{SignedTx}
pub use Rattle.plasma_tx.specs.declared.links.Link.{Link}
pub use Rattle.plasma_tx.specs.declared.links.Links.{Links}
pub use Rattle.plasma_tx.specs.Links.{tip_of, last_owner_of}
pub use Rattle.plasma_tx.specs.Transfer.{is_signed_by, transfer_in}
pub use Rattle.plasma_tx.proofs.Leaves.{recipient-named, empty-none}
pub use Rattle.coin_history.specs.Laws.{OnlyHistoriesPass, HistoriesPass, HistoriesHaveOneMeaning, HistoriesStay, AbsencesStay, first_links, up_to, HistoriesHaveBeginnings, openings_before, last_shown, FailsFirstAt, RefusalsComeBehindLinks, ShowTwoLeaves, block_and_tx, HistoriesAgree, AbsencesExcludeLinks, is_of_reader, is_of_history, is_of_absence, ReadersRefusals, HistoriesRefusals, AbsencesRefusals, LinksRise, DepositsAreBare, TipsAreLinks, OnlyAbsencesPass, AbsencesPass}
pub use Rattle.plasma_tx.specs.declared.owner.Owner.{Owner}
