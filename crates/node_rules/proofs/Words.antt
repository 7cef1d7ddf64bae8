-- Names that many files beside this one use: lists and numbers, calls and coins, and what watchers and wallets note.
pub use Rattle.std.proofs.Common.{◌≡◌, ◌≢◌, ℕ, ◌^◌, ◌<◌, true, List, [], ◌∷◌, ◌++◌, length, Option, Some, None, Ok, Err, inl, inr, refl, sym, ap, ◌∙◌, subst, append-nil, arith, ◌+◌, ◌==◌, ◌&&◌, Bool, false, if◌then◌else◌, take, get_or, is_ok, is_some, zero, suc, ◌||◌, cond, map, drop, ◌≤◌, filter, ◌-◌, not}
pub use Rattle.std.specs.List.{list_all, filter_map, cons_option, All, flat_map, list_any, AllByRecursion, slice_range, range_with_len}
pub use Rattle.std.proofs.lemmas.Bool.{and_parts, eqb-true, and_from, false≢true, cases_Bool, eq-eqb, or_cases, or_parts, leb-false}
pub use Rattle.std.proofs.lemmas.List.{take_more, map-append, drop_at, reverse-append, length-map, length-drop, length-append, take_all, take-append-drop}
pub use Rattle.std.proofs.lemmas.Grind.{common_steps}
pub use Rattle.std.specs.Prelude.{Result, find, unwrap_or, slice_get, reverse, IfSome}
pub use Rattle.std.specs.Option.{option_map_or, option_map}
pub use Rattle.std.proofs.lemmas.List.Elements.{filter_map-append, All-nil, All-cons, All-head, All-tail, All-push, All-append, All-drop, All-filter, All-map, All-contains, All-from_get_or, recursion_from_All, Contains-append_cases}
pub use Rattle.std.proofs.lemmas.List.Folds.{list_all-append}
pub use Rattle.plasma_tx.specs.declared.owner.Owner.{Owner}
pub use Rattle.plasma_tx.specs.declared.body.Body.{Body}
pub use Rattle.plasma_tx.specs.declared.signed_tx.SignedTx.{SignedTx}
pub use Rattle.node_rules.specs.WalletRecords.{Accepts, LeavesWith, Reclaims, note_text, is_body, leaves_in, is_bound_note, owner_of, Note, tag_in, wallet_kinds, coin_tip, are_bound_notes, identity_of, types_in, may_be_second, accepts, may_reclaim}
unfoldable pub use Rattle.node_rules.specs.WalletRecords.{note_in, who_is, notes_of, accepted_of, state_notes, identity_in}
pub use Rattle.plasma_tx.specs.declared.opening.RawOpening.{RawOpening}
pub use Rattle.plasma_tx.specs.declared.links.Links.{Links}
pub use Rattle.plasma_tx.specs.declared.call.RootCall.{RootCall}
pub use Rattle.plasma_tx.specs.declared.views.CoinView.{CoinView}
pub use Rattle.plasma_tx.specs.Links.{tip_of}
pub use Rattle.plasma_tx.specs.Openings.{opening_in}
pub use Rattle.plasma_tx.specs.Views.{coin_at, exits_of, blocks, coins}
pub use Rattle.plasma_tx.proofs.Names.{some_same}
pub use Rattle.coin_history.specs.declared.bundle.Bundle.{Bundle}
pub use Rattle.coin_history.specs.History.{links_of, link_of, opens_block, transfer_of, IsHistory}
unfoldable pub use Rattle.coin_history.specs.History.{links_in}
pub use Rattle.coin_history.proofs.HistoryLinks.{tip_from, tip-is, with_tx}
pub use Rattle.wallet_core.specs.declared.notes.CoinTip.{CoinTip}
pub use Rattle.wallet_core.specs.State.{sends_by, is_owner, own_deposit, noted_tips, spends_tip}
pub use Rattle.wallet_core.specs.Laws.{IsTip}
pub use Rattle.node_rules.specs.Kept.{chain_of, kept_of, links_handed, shows_link, checked_by, ends_at, is_kept, only_kept, kept_links, kept_in}
pub use Rattle.node_rules.specs.Watcher.{is_of}
pub use Rattle.node_rules.specs.Wallet.{WalletRecords, who, noted, kept_at, links_at, reclaim_by, migrate_effect}
unfoldable pub use Rattle.node_rules.specs.Wallet.{coin_state, accept_effect, send_effect, leave_effect, reclaim_effect}
pub use Rattle.node_rules.specs.WalletCommandLaws.{with_more, FitWords, AcceptsKeepTheRole, SendsKeepTheRole, LeavesKeepTheRole, ReclaimsKeepTheRole, MigrationsKeepTheRole, AddsAccepted, AcceptsAddTheirNotes, sent_body, BindsBody, AddsSent, SendsAddTheirLeaves, AddsLeaving, LeavesAddTheirNotes, AddsReclaimed, ReclaimsAddTheirNotes, AddsMarker, MigrationsAddTheMarker, LeavesAreAnswered, HaveOpenings, ExitsAreOfTheTip, guard_in, WalletsDoTheirDuty}
pub use Rattle.plasma_tx.specs.declared.opening.Opening.{Opening}
pub use Rattle.plasma_tx.specs.declared.links.Link.{Link}
pub use Rattle.plasma_tx.specs.Spelling.{AreBytes, IsBody, body_text, body_at_start, number_text, number_at}
pub use Rattle.plasma_tx.specs.Shown.{Rules, tests_by, opens_root}
pub use Rattle.coin_history.specs.declared.refusal.HistoryRefusal.{HistoryRefusal}
pub use Rattle.coin_history.specs.Bundles.{bundle_in, AreRising, IsBundle, bundle_text}
pub use Rattle.coin_history.specs.Checking.{history_of}
pub use Rattle.coin_history.proofs.BundleLaws.{text-bundle_in, bundle_in-text}
pub use Rattle.coin_history.proofs.HistoryGrow.{deposit-le, coin_at-grown}
pub use Rattle.node_rules.specs.Laws.{IsReadBack, KeptCoinsAreReadBack, KeptCoinsHaveOneSpelling, KeptHistoriesAreReadBack, KeptLinksStay}
pub use Rattle.plasma_tx.proofs.Parts.{length-range, bytes-range, number-below, range-front, range-back, range-join, short_number-below, number-bytes, number-in, short_number-bytes}
pub use Rattle.node_journal.specs.Effect.{Effect, unless, only, first_cause}
pub use Rattle.lms_sign.specs.Types.{leaf_count, is_supported}
unfoldable pub use Rattle.lms_sign.specs.Types.{height}
pub use Rattle.leaf_journal.specs.Records.{binding_record, marker, messages_of, may_follow_of, MayBind, is_marked, leaf_records_of, may_follow as may_follow_leaf}
pub use Rattle.wallet_core.specs.declared.notes.LeafRecord.{LeafRecord}
pub use Rattle.wallet_core.specs.declared.notes.Notes.{Notes}
pub use Rattle.wallet_core.specs.declared.coin_state.CoinState.{CoinState}
pub use Rattle.wallet_core.specs.declared.coin_state.CoinState.TheVariants.{Sending, Leaving, Held, Nothing}
pub use Rattle.node_rules.specs.declared.answers.Reclaimed.{Reclaimed}
pub use Rattle.watch_duty.specs.Duty.{due_of}
unfoldable pub use Rattle.watch_duty.specs.Duty.{due_calls}
pub use Rattle.node_journal.specs.Role.{are_of, may_follow}
pub use Rattle.node_journal.proofs.Roles.{notes_follow}
pub use Rattle.leaf_journal.proofs.Form.{all_same, one_more, are_few}
pub use Rattle.leaf_journal.proofs.Binding.{binding_follows, binding-messages, marker-messages}
pub use Rattle.node_rules.specs.WalletOpening.{leaves_of, are_bound, is_bound_record}
unfoldable pub use Rattle.node_rules.specs.WalletOpening.{is_wallet}
pub use Rattle.node_rules.specs.WalletLaws.{AddsNote, IsNote}
pub use Rattle.lms_sign.specs.declared.types.LmsTypes.{LmsTypes}
pub use Rattle.node_rules.specs.declared.identity.WalletIdentity.{WalletIdentity}
