-- What the files beside this one say of a node: its records and its disks, the orders that it takes, and its answers.
pub use Rattle.gate_journal.specs.Laws.{is_added}
pub use Rattle.node_journal.specs.Effect.{Effect, first_cause, unless, only}
pub use Rattle.leaf_journal.specs.Records.{messages_of, binding_record}
unfoldable pub use Rattle.leaf_journal.specs.Records.{records_behind_of}
pub use Rattle.node_rules.specs.Kept.{chain_of, kept_of, links_handed}
pub use Rattle.node_rules.specs.Wallet.{is_known, WalletRecords, who, noted, WalletEffect, accept_by, used, send_effect, last_leaf, again_by, reclaim_effect, migrate_effect, coin_state, watch_answer as wallet_watch}
unfoldable pub use Rattle.node_rules.specs.Wallet.{accept_effect, again_answer, leave_effect}
pub use Rattle.node_rules.specs.WalletRecords.{leaves_in, Note, Accepts as AcceptsNote, LeavesWith, Reclaims, is_first, common_text, short_text, no_one, secret_of, coin_tip}
unfoldable pub use Rattle.node_rules.specs.WalletRecords.{owner_of, who_is, state_notes, identity_text as wallet_text, identity_text, notes_of, note_text}
pub use Rattle.node_rules.specs.declared.identity.WalletIdentity.{WalletIdentity}
pub use Rattle.node_rules.specs.declared.refusal.WalletRefusal.{WalletRefusal}
pub use Rattle.node_rules.specs.WalletCommandLaws.{with_more, after, sent_body, AddsAccepted, AddsLeaving, AddsReclaimed, AddsMarker, FitWords, BindsBody, AddsSent}
unfoldable pub use Rattle.node_rules.specs.WalletOpening.{is_wallet}
pub use Rattle.node_rules.specs.declared.answers.Accepted.{Accepted}
pub use Rattle.node_rules.specs.declared.refusal.WatcherRefusal.{WatcherRefusal}
pub use Rattle.node_rules.specs.Watcher.{Guarded, Released, watcher_kinds, is_of, is_before, with_guard, guards_in, guard_causes, guard_by, WatcherIdentity, identity_text as watcher_text, watch_answer as watcher_watch}
unfoldable pub use Rattle.node_rules.specs.Watcher.{guards_of, guard_effect, release_effect, notes_of as watcher_notes}
pub use Rattle.node_rules.specs.WatcherLaws.{KeepsRole, AddsGuard, IsIdentity as IsWatcherIdentity}
pub use Rattle.node_rules.specs.WalletLaws.{IsIdentity, AddsNote}
pub use Rattle.node_rules.specs.declared.answers.Sent.{Sent}
pub use Rattle.node_rules.specs.declared.answers.Reclaimed.{Reclaimed}
pub use Rattle.node_rules.proofs.WalletAdded.{accept-leaf, send-note, leave-leaf, reclaim-leaf, migrate-note, leave-note}
pub use Rattle.node_rules.proofs.WalletGrow.{state-accepts, noted-grow, state-leaves, state-reclaims, wallet-parts}
pub use Rattle.node_rules.proofs.WalletRole.{accepts_keep_the_role, accepts_add_their_notes, leaves_keep_the_role, leaves_add_their_notes, reclaims_keep_the_role, reclaims_add_their_notes, migrations_keep_the_role, migrations_add_the_marker, sends_keep_the_role, sends_add_their_leaves, held-tip}
pub use Rattle.node_replies.specs.declared.reply.Reply.{Reply}
pub use Rattle.node_replies.specs.Causes.{wallet_cause, watcher_cause, offer_cause, lay_cause, seal_cause, prove_cause}
pub use Rattle.node_replies.specs.declared.order.WalletOrder.{WalletOrder}
pub use Rattle.node_replies.specs.declared.order.WatcherOrder.{WatcherOrder}
pub use Rattle.node_replies.specs.declared.order.OperatorOrder.{OperatorOrder}
pub use Rattle.node_replies.specs.declared.order.NodeOrder.{NodeOrder}
pub use Rattle.node_replies.specs.Orders.{Response, answered, wallet_doing, with_record, on_guarded, on_released, without_record, on_accepted, on_sent, on_leaving, on_reclaimed, on_migrated, again_does, on_pooled, on_laid, on_sealed, on_bundled, on_proved, refused}
unfoldable pub use Rattle.node_replies.specs.Orders.{wallet_does, watcher_does, operator_does}
pub use Rattle.node_replies.proofs.ByteTexts.{Small, small-nil, small-append, small-number, small-short, small-take, small-drop, small-cons, small-body, small-signature, small-sha256, small-key, length-key, small-zeros, small-back}
pub use Rattle.node_replies.proofs.BundleTexts.{AreSmallOpenings, read-small, kept-small, IsSmallOpening, small-bundle}
pub use Rattle.node_replies.proofs.WalletEnds.{SendEnds, Refused, Sends, send_ends, AcceptEnds, Known, New, accept_ends, ReclaimEnds, Takes, reclaim_ends}
