-- Names that the files beside this one use.
pub use Rattle.std.proofs.Common.{◌≡◌, ℕ, ◌+◌, ◌<◌, ◌≤◌, ◌^◌, ◌&&◌, Bool, true, false, if◌then◌else◌, List, ◌∷◌, length, reverse, Option, Some, None, Result, Ok, Err, ap, ◌∙◌, arith, ◌==◌, [], ◌++◌, map, sym, subst, ◌-◌, inl, inr, refl, suc, not, filter, find, ◌≢◌, is_ok, zero, get_or, IfOk, OnErr, take}
pub use Rattle.std.specs.Prelude.{nat_lt, ◌||◌, is_some, slice_get, nat_le, ◌⊎◌}
pub use Rattle.std.specs.List.{list_any, AllByRecursion, range_with_len, cons_option}
pub use Rattle.std.proofs.lemmas.Bool.{and_from, and_left, and_right, lt-ltb, le-leb, true≢false, eq-eqb, or_left, or_right, ne_eqb, cases_eq, eqb-true, lt-leb, le-ltb, or_cases, and_parts, cases_lt, false_from_ne_true, ltb-true, or_from}
pub use Rattle.std.proofs.lemmas.List.{reverse-reverse, length-reverse, reverse-append, map-append}
pub use Rattle.std.proofs.lemmas.Grind.{common_steps}
pub use Rattle.std.specs.Map.{lookup}
pub use Rattle.std.specs.Option.{option_map, option_map_or, unwrap_or, option_or}
pub use Rattle.std.specs.Ordering.{nat_cmp}
pub use Rattle.std.specs.BTreeMap.{BTreeMap, is_at}
pub use Rattle.std.proofs.lemmas.List.Elements.{All-from_recursion, recursion_from_All, filter-append, filter_map-append, All-filter}
pub use Rattle.std.proofs.lemmas.List.Folds.{find-append}
pub use Rattle.std.proofs.lemmas.Result.{err_from_is_err_and}
pub use mathlib.Core.List.{reverse-cons}
pub use Rattle.plasma_tx.specs.declared.opening.RawOpening.{RawOpening}
pub use Rattle.plasma_tx.specs.declared.links.Link.{Link}
pub use Rattle.plasma_tx.specs.declared.links.Links.{Links}
pub use Rattle.plasma_tx.specs.declared.call.RootCall.{RootCall}
pub use Rattle.plasma_tx.specs.declared.views.CoinView.{CoinView}
pub use Rattle.plasma_tx.specs.Chain.{Chain, with_log}
pub use Rattle.plasma_tx.specs.Links.{tip_of, last_owner_of}
pub use Rattle.plasma_tx.specs.Views.{blocks}
unfoldable pub use Rattle.plasma_tx.specs.Views.{coin_at}
pub use Rattle.plasma_tx.specs.Shown.{Tests, Rules, tests_by, rules_of, spends, signs}
pub use Rattle.coin_history.specs.declared.bundle.Bundle.{Bundle}
pub use Rattle.coin_history.specs.Bundles.{AreRising}
pub use Rattle.coin_history.specs.History.{is_committed, opens_block, IsHistory, is_absent, transfer_of, links_of, leaf_of_opening, blocks_of, link_of}
unfoldable pub use Rattle.coin_history.specs.History.{links_in, AreLinked, committed_blocks}
pub use Rattle.coin_history.specs.Inside.{NoneIsAsked, IsFirstAsked, links_with}
pub use Rattle.coin_history.proofs.HistoryLinks.{tip_from, tip-is, last_from, owner_from, last_owner-is, with_tx, every-weaker, last-push, absent-none, none-linked, IsLeaf}
pub use Rattle.coin_history.proofs.HistoryFound.{histories_pass, history-rises, histories_are_found}
pub use Rattle.coin_history.proofs.HistoryGrow.{committed-le, histories_stay, coin_at-grown, opens-le, opens-grown, committed_blocks-grown}
pub use Rattle.plasma_tx.proofs.Names.{some_same}
pub use Rattle.proof_archive.specs.declared.coin.LinkEnd.{LinkEnd}
pub use Rattle.proof_archive.specs.declared.refusal.ArchiveRefusal.TheVariants.{NoCoin, UnknownBlock, HaveBlock, Gap, BadOpening, NotTip, NoMemory}
pub use Rattle.proof_archive.specs.Scan.{newest_block, Scan, bundle_up_to_newest, is_astray, broken_behind}
unfoldable pub use Rattle.proof_archive.specs.Scan.{longest_history, scan_of}
pub use Rattle.proof_archive.specs.Archives.{fits, has_block, first_gap, placed_behind, place_at, place_in, opened_at, put_at, scan_in, is_tip, openings_up_to, links_up_to, after_put}
unfoldable pub use Rattle.proof_archive.specs.Archives.{tip_answer, broken_answer, bundle_answer, put_answer}
pub use Rattle.proof_archive.specs.Carried.{IsNextPlace, CoinCell, end_of, tip_in, IsCell, IsCellOf, Carried, next_tx, moved, step, no_cell, owner_in, move_by, next_in, move_of, with_opening, cell_in, openings_of, IsWhole, AreSpellable}
unfoldable pub use Rattle.proof_archive.specs.Carried.{AreKept, carried_by}
pub use Rattle.proof_archive.specs.Laws.{StaysAHistory, Given, Follow, Put, Holding, held_with, BundlesAreHistories, TipsHaveBundles}
unfoldable pub use Rattle.proof_archive.specs.Laws.{held_after}
pub use Rattle.plasma_tx.specs.declared.owner.Owner.{Owner}
pub use Rattle.plasma_tx.specs.declared.signed_tx.SignedTx.{SignedTx}
pub use Rattle.proof_archive.specs.declared.coin.Move.{Move}
pub use Rattle.proof_archive.specs.declared.coin.Move.TheVariants.{Stays, Links as MovesTo, Breaks}
pub use Rattle.coin_history.specs.Checking.{is_asked, first_cause, opening_causes, unless_failed, history_of, opening_at}
pub use Rattle.coin_history.proofs.HistoryOpenings.{asked-parts, rising-up, Up, found-each, asked-from, AreAsked, blocks-from_asked, asked-from_blocks, at-head}
pub use Rattle.proof_archive.specs.declared.refusal.ArchiveRefusal.{ArchiveRefusal}
pub use Rattle.plasma_tx.specs.Transfer.{is_signed_by, transfer_in}
