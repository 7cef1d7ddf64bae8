-- Names that many files beside this one use: lists and numbers, journals of notes, and the operator.
pub use Rattle.std.proofs.Common.{◌≡◌, ℕ, List, length, ◌≤◌, true, false, [], ◌++◌, Some, None, Result, Ok, Err, refl, ◌∙◌, ap, inl, inr, arith, append_assoc, ◌<◌, option_map, take, sym, get_or, subst, ◌+◌, drop, zero, suc, ◌-◌, ◌^◌, Bool, if◌then◌else◌, ◌∷◌, Option, append-nil, length-append, ◌==◌, ◌&&◌, length-drop, ◌≢◌, find, ◌||◌, Bor}
pub use Rattle.std.specs.Prelude.{slice_range, is_some, OnErr, nat_lt, MatchResult, IfSome, nat_le}
pub use Rattle.std.proofs.lemmas.Bool.{cases_Bool, cases_lt, cases_eq, lt-ltb, le-ltb, eq-eqb, ne_eqb, eqb-true, or_cases, or_right, and_parts, ltb-true, true≢false}
pub use Rattle.std.proofs.lemmas.List.Elements.{All-nil, All-push, filter-append, filter_map-append, All-head, All-tail, All-append, All-cons, recursion_from_All}
pub use Rattle.std.proofs.lemmas.Grind.{common_steps}
pub use Rattle.std.specs.List.{range_with_len, All, AllPairs, AllByRecursion, list_any, position_from, slice_get}
pub use Rattle.std.specs.Str.{bytes_eq}
pub use Rattle.std.proofs.lemmas.List.{take_all, take_more, get_or_default, get_or-map, length-map, reverse-append, map-append, get_or_append_left, get_or_push}
pub use Rattle.std.proofs.lemmas.Slice.Eq.{bytes_eq-Decides}
pub use Rattle.std.specs.Option.{unwrap_or, option_and_then}
pub use Rattle.node_journal.specs.Effect.{only, Effect, first_cause, unless}
pub use Rattle.gate_journal.specs.Image.{most}
pub use Rattle.node_journal.specs.Role.{are_of, role_in}
pub use Rattle.plasma_tx.specs.declared.call.RootCall.{RootCall}
pub use Rattle.plasma_tx.specs.Spelling.{body_in, has_second_mark, number_text, number_at}
unfoldable pub use Rattle.plasma_tx.specs.Spelling.{signed_in}
pub use Rattle.operator_rules.specs.Records.{spells_transfer, identity_text, Identity, Note, Offered, Laid, Sealed, operator_kinds, who_is}
unfoldable pub use Rattle.operator_rules.specs.Records.{notes_of, note_text, note_in}
pub use Rattle.operator_rules.specs.Trees.{Forest, tree_at, coin_named, after_note, is_waiting}
unfoldable pub use Rattle.operator_rules.specs.Trees.{tree_of, forest_of}
pub use Rattle.operator_rules.specs.Commands.{forest_in, prove_by, with_opening, tip_asked, offer_causes, offer_at, offer_of}
unfoldable pub use Rattle.operator_rules.specs.Commands.{offer_effect, openings_of, lay_effect, seal_effect}
pub use Rattle.merkle_pages.specs.Nodes.{HashedMap}
pub use Rattle.node_journal.specs.declared.stop.Stop.{Stop}
pub use Rattle.operator_core.specs.declared.records.Who.{Who}
pub use Rattle.operator_core.specs.State.{lay_stop, offer_stop}
pub use Rattle.operator_core.specs.Inside.{forest_now, notes_among, FitJournal, PoolState, TreesState, IsRight, AddsRecord, lay_refusal, entries_of, offer_refusal, HasShortLeaves, AreShortTrees, with_place, KeepsTrees, is_outside}
pub use Rattle.operator_core.specs.Texts.{offered_coin, put_of, with_put, changed}
pub use Rattle.node_journal.specs.Notes.{NotesState, Did, Opened, RefusesRole}
pub use Rattle.crash_disk.specs.Disk.{History, FaultPlan, Step, content}
pub use Rattle.plasma_tx.specs.declared.signed_tx.TxRefusal.{TxRefusal}
pub use Rattle.plasma_tx.specs.declared.views.CoinView.{CoinView}
pub use Rattle.plasma_tx.specs.Views.{blocks, coin_at}
pub use Rattle.operator_rules.specs.Walk.{Place, start_of, moved_by, transfer_at, present}
unfoldable pub use Rattle.operator_rules.specs.Walk.{place_at}
pub use Rattle.operator_core.specs.Known.{is_known, first_is_known, one_is_known, is_begun, has_its_coin}
pub use Rattle.node_journal.specs.Begin.{Inits, BeginsPair, init_steps}
pub use Rattle.sparse_merkle.specs.declared.tree.Entry.{Entry}
pub use Rattle.sparse_merkle.specs.TreeDigest.{with_leaf, entry_of, IsMap, root_of}
unfoldable pub use Rattle.sparse_merkle.specs.TreeDigest.{leaf_of}
pub use Rattle.sparse_merkle.proofs.TreeLaws.{leaf_of-with_leaf, leaf_of-with_other}
pub use Rattle.plasma_tx.specs.Shown.{root_at}
pub use Rattle.operator_core.specs.Tips.{place_of_tip}
pub use Rattle.operator_core.specs.Walked.{Follows, KeepsEnds, IsEnd, IsOnWay}
pub use Rattle.plasma_tx.specs.Transfer.{transfer_in}
pub use Rattle.coin_history.specs.History.{is_committed, blocks_of}
unfoldable pub use Rattle.coin_history.specs.History.{committed_blocks}
