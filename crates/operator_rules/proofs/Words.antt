-- Names that many files beside this one use: lists and numbers, calls and coins, and an operator's records.
pub use Rattle.std.proofs.Common.{◌≡◌, ℕ, ◌+◌, ◌^◌, ◌<◌, ◌≤◌, ◌==◌, ◌&&◌, true, List, [], ◌∷◌, ◌++◌, Option, Some, None, length, take, drop, refl, sym, ap, ◌∙◌, subst, inl, inr, append-nil, arith, ◌*◌, All, Ok, length-drop, not, Bool, false, if◌then◌else◌, Contains, Err, ◌≢◌, ◌⊎◌, zero, suc, ◌-◌, filter, ◌||◌, find}
pub use Rattle.std.specs.Prelude.{IfSome, nat_le, Result, is_some}
pub use Rattle.std.specs.List.{slice_range, concat, list_any, AllByRecursion, range_with_len}
pub use Rattle.std.specs.Option.{option_and_then}
pub use Rattle.std.proofs.lemmas.Bool.{cases_Bool, and_parts, eqb-true, eq-eqb, leb-true, le-leb, cases_eq, cases_lt, ne_eqb, and_cases, or_parts, not-false, true≢false, false_from_ne_true, false≢true, lt-ltb, or_left, or_right, and_from, le-ltb, or_cases}
pub use Rattle.std.proofs.lemmas.List.Elements.{All-tail, All-head, Contains-append_left, Contains-push, Contains-push_cases, filter_map-append, All-from_recursion, All-contains}
pub use Rattle.std.proofs.lemmas.Grind.{common_steps}
pub use Rattle.std.proofs.lemmas.List.{length-append, take_all, take-append-drop, reverse-append}
pub use Rattle.std.specs.Str.{bytes_eq}
pub use Rattle.std.proofs.lemmas.Slice.Eq.{bytes_eq-Decides}
pub use Rattle.sparse_merkle.specs.declared.tree.Entry.{Entry}
pub use Rattle.sparse_merkle.specs.TreeDigest.{root_of, path_to, IsMap, with_leaf}
unfoldable pub use Rattle.sparse_merkle.specs.TreeDigest.{leaf_of}
pub use Rattle.plasma_tx.specs.declared.signed_tx.SignedTx.{SignedTx}
pub use Rattle.plasma_tx.specs.declared.call.RootCall.{RootCall}
pub use Rattle.plasma_tx.specs.declared.call.RootCall.TheVariants.{Deposit, Commit}
pub use Rattle.plasma_tx.specs.declared.views.CoinView.{CoinView}
pub use Rattle.plasma_tx.specs.Openings.{leaf_in, opening_in}
unfoldable pub use Rattle.plasma_tx.specs.Openings.{opening_text}
pub use Rattle.plasma_tx.specs.Transfer.{may_stand_in}
unfoldable pub use Rattle.plasma_tx.specs.Transfer.{is_signed_by, transfer_in}
pub use Rattle.plasma_tx.specs.Views.{coins, new_coin}
unfoldable pub use Rattle.plasma_tx.specs.Views.{blocks, block_at, coin_at}
pub use Rattle.plasma_tx.proofs.Leaves.{transfer-read, empty-none}
pub use Rattle.plasma_tx.proofs.Names.{some_same}
pub use Rattle.plasma_tx.specs.Shown.{tests_by, root_at, root_in, Rules}
pub use Rattle.coin_history.specs.History.{opens_block, is_empty, is_committed, blocks_of, is_absent, transfer_of, links_of, IsHistory}
unfoldable pub use Rattle.coin_history.specs.History.{committed_blocks, links_in, AreLinked}
pub use Rattle.coin_history.proofs.HistoryGrow.{deposit-le, opens-le, block_at-le, root_at-grown}
pub use Rattle.operator_rules.specs.Trees.{opening_in_tree, Forest, coin_named, after_note, is_root_committed, has_leaf, is_waiting, tree_at, commits}
unfoldable pub use Rattle.operator_rules.specs.Trees.{forest_of, tree_of}
pub use Rattle.operator_rules.specs.Walk.{Place, present, start_of, moved_by, transfer_at}
unfoldable pub use Rattle.operator_rules.specs.Walk.{place_at}
pub use Rattle.operator_rules.specs.Commands.{late_causes, offer_at, offer_of, forest_in, tip_asked, bundle_of}
unfoldable pub use Rattle.operator_rules.specs.Commands.{offer_effect, lay_effect, seal_effect, openings_of}
pub use Rattle.operator_rules.specs.Acts.{Act, Called, Kept, sealed_in, times_committed, times_sealed, IsHonestNote, IsHonestCall, AreDistinct, CommandsKeepTheRole, CommandsAddTheirNotes, IsGoodBundle, BundlesAreHistories, ZeroAsksForThePresentTip, PresentBundlesAreHistories}
unfoldable pub use Rattle.operator_rules.specs.Acts.{log_of, kept_notes, IsHonest}
pub use Rattle.sparse_merkle.proofs.TreeLaws.{is_opening-path_to, leaf_of-with_leaf, leaf_of-with_other, IsMap-with_leaf}
pub use Rattle.plasma_tx.specs.Spelling.{AreBytes, number_text, number_at, signed_in, body_length}
pub use Rattle.plasma_tx.proofs.Spellings.{signed_in-ok}
pub use Rattle.plasma_tx.proofs.Parts.{range-front, range-back, range-join, length-range, bytes-range, number-below, number-bytes, number-in}
pub use Rattle.operator_rules.specs.Records.{Identity, identity_of, Note, Offered, Laid, Sealed, is_read, spells_transfer, tag_in, operator_kinds}
unfoldable pub use Rattle.operator_rules.specs.Records.{identity_text, identity_in, note_text, note_in, who_is, notes_of}
pub use Rattle.node_journal.specs.Effect.{Effect, first_cause, unless}
pub use Rattle.plasma_tx.specs.declared.signed_tx.TxRefusal.{TxRefusal}
pub use Rattle.operator_rules.specs.declared.refusal.OfferRefusal.{OfferRefusal}
