-- Names that the proofs of this crate share.
pub use Rattle.std.proofs.Common.{◌≡◌, ℕ, true, List, [], ◌∷◌, ◌++◌, Option, Some, None, refl, sym, ◌∙◌, ap, subst, arith, false, Ok, Err, inr, length-take-le, Bool, length, if◌then◌else◌, inl, ◌<◌, ◌+◌, take, get_or, ◌⊎◌, ◌≤◌, zero, suc, ◌==◌, ◌&&◌, is_some, ◌||◌, ◌^◌, cond, drop, not, ◌-◌, map, find}
pub use Rattle.std.proofs.lemmas.Bool.{and_from, cases_Bool, cases_eq, ne_eqb, or_from, and_parts}
pub use Rattle.std.proofs.lemmas.Bool.Decides.{nat_tests}
pub use Rattle.std.proofs.lemmas.Grind.{common_steps}
pub use Rattle.std.proofs.lemmas.List.{map_more, take-map, map-append, take_more, take_all, reverse-append, length-map, get_or_read, get_or_past, take-take, length-take}
pub use Rattle.std.proofs.lemmas.List.Elements.{All-push, All-get_or, All-nil, All-head, All-tail, All-weaker, recursion_from_All}
pub use Rattle.std.proofs.lemmas.Option.{slice_get-get_or, slice_get_within, get_or_from_slice_get}
pub use Rattle.std.specs.List.{All, list_any, flat_map, range_with_len, AllByRecursion, filter_map, cons_option, list_all, take_while}
pub use Rattle.std.specs.Option.{option_map, option_map_or}
pub use Rattle.std.specs.Prelude.{Result, IfOk, IfErr, IfSome, slice_get, reverse, unwrap_or, slice_index_or, nat_lt}
pub use Rattle.crash_disk.specs.Disk.{History, FaultPlan}
pub use Rattle.gate_journal.specs.Image.{spelled, most, Spells, journal_in}
pub use Rattle.leaf_journal.specs.Leaves.{leaves_of, leaves_of as leaves_of_key, marker_effect, bind_stop, migrate_stop}
pub use Rattle.leaf_journal.specs.Records.{leaf_records_in_of, binding_record, is_marked, messages_of, MayBind, MessagesPass, every_message, leaf_records, leaf_records_of, leaf_records_read, leaf_records_read_of}
pub use Rattle.lms_sign.specs.Tree.{public_key_of}
pub use Rattle.lms_sign.specs.Types.{leaf_count, is_supported}
pub use Rattle.lms_sign.specs.declared.secret.Secret.{Secret}
pub use Rattle.node_journal.specs.Notes.{NotesState, Opened, RefusesRole, Did}
pub use Rattle.node_journal.specs.Role.{are_of, may_follow}
pub use Rattle.node_rules.proofs.WalletGrow.{note-adds, note-follows, leaves-grow, bound-grow, state-accepts, state-leaves, state-reclaims, accepted-accepts, accepted-leaves, accepted-reclaims, bound-each}
pub use Rattle.node_rules.specs.Kept.{kept_of, chain_of}
pub use Rattle.node_rules.specs.KeptCoins.{IsShown, kept_coin_of}
pub use Rattle.node_rules.specs.Wallet.{WalletRecords, noted, due_in, start_of, last_leaf, who, links_at, exit_start, due_at}
unfoldable pub use Rattle.node_rules.specs.Wallet.{migrate_effect, coin_state, watch_answer}
pub use Rattle.node_rules.specs.WalletRecords.{Note, secret_of, wallet_kinds, leaves_in, is_bound_note, is_body, are_bound_notes, Accepts, LeavesWith, Reclaims, accepts, identity_of, is_first, types_in, may_be_second}
unfoldable pub use Rattle.node_rules.specs.WalletRecords.{note_in, who_is, notes_of, accepted_of, state_notes, owner_of, note_text, identity_in}
pub use Rattle.node_rules.specs.declared.identity.WalletIdentity.{WalletIdentity}
pub use Rattle.node_rules.specs.declared.kept_coin.KeptCoin.{KeptCoin}
pub use Rattle.plasma_tx.specs.Spelling.{body_text, body_at_start}
pub use Rattle.plasma_tx.specs.Views.{exits_of, has_exits, is_exiting}
unfoldable pub use Rattle.plasma_tx.specs.Views.{coins, coin_at}
pub use Rattle.plasma_tx.specs.declared.body.Body.{Body}
pub use Rattle.plasma_tx.specs.declared.call.RootCall.{RootCall}
pub use Rattle.plasma_tx.specs.declared.links.Link.{Link}
pub use Rattle.plasma_tx.specs.declared.links.Links.{Links}
pub use Rattle.plasma_tx.specs.declared.owner.Owner.{Owner}
pub use Rattle.wallet_core.specs.State.{may_have, spends_tip}
unfoldable pub use Rattle.wallet_core.specs.State.{state_of}
pub use Rattle.wallet_core.specs.declared.coin_state.CoinState.{CoinState}
pub use Rattle.wallet_core.specs.declared.notes.LeafRecord.{LeafRecord}
pub use Rattle.wallet_node.specs.Inside.{MemoryState, change_of, changed, is_bound_change, IsKept, body_of, bind_refusal, migrate_refusal, due_of_coin, is_watched, changed_by, memory_of, memory_in, links_behind, is_kept_at, spends_at}
pub use Rattle.wallet_node.specs.State.{WalletState, leaves_part, stop_in, DidNote, DidLeaf}
pub use Rattle.watch_duty.specs.Duty.{tip_shown, due_of, guard_of}
