-- What the files beside this one say of a node: its records and its disks, the orders that it takes, and its answers.
pub use Rattle.node_journal.specs.Effect.{first_cause, Effect, only}
pub use Rattle.node_journal.specs.Role.{are_of}
pub use Rattle.leaf_journal.specs.Records.{messages_of}
pub use Rattle.node_rules.specs.declared.answers.Accepted.{Accepted}
pub use Rattle.node_rules.specs.declared.refusal.WalletRefusal.{WalletRefusal}
pub use Rattle.node_rules.specs.Kept.{kept_of, links_handed, kept_links, chain_of, standing_block, most_note, first_block}
pub use Rattle.node_rules.specs.Laws.{IsReadBack}
pub use Rattle.node_rules.specs.WalletRecords.{Accepts as AcceptsNote, Note, leaves_in, coin_tip, Accepts, identity_text as wallet_text, LeavesWith, Reclaims, state_notes, secret_of, is_body, wallet_kinds, identity_text}
unfoldable pub use Rattle.node_rules.specs.WalletRecords.{note_text, notes_of, accepted_of, owner_of, who_is as who_is_wallet, notes_of as wallet_notes}
pub use Rattle.node_rules.specs.Wallet.{WalletRecords, WalletEffect, who, migrate_effect, noted, kept_at, answers, notes_it, unless, standing_causes, links_at, start_by, exit_start, due_in, start_of, leave_from, used, accept_causes, sent_by, last_of, reclaim_from, due_at, last_leaf, again_by, names_coin}
unfoldable pub use Rattle.node_rules.specs.Wallet.{accept_effect, send_effect, leave_effect, reclaim_effect, coin_state, watch_answer as wallet_watch, watch_answer, again_answer}
pub use Rattle.node_rules.specs.WalletLaws.{AddsNote, IsIdentity as IsWalletIdentity}
pub use Rattle.node_rules.specs.WalletCommandLaws.{AddsAccepted, AddsLeaving, AddsReclaimed, HaveOpenings, sent_body}
pub use Rattle.node_rules.specs.Watcher.{is_of, due_for_kept, Guarded, Released, with_guard, guards_in, WatcherIdentity, identity_text as watcher_text}
unfoldable pub use Rattle.node_rules.specs.Watcher.{watch_answer as watcher_watch, who_is, guards_of, guard_effect, release_effect, who_is as who_is_watcher, notes_of as watcher_notes}
pub use Rattle.node_rules.specs.WatcherLaws.{AddsGuard, IsIdentity as IsWatcherIdentity}
pub use Rattle.node_rules.specs.declared.identity.WalletIdentity.{WalletIdentity}
pub use Rattle.node_rules.specs.declared.answers.Sent.{Sent}
pub use Rattle.node_rules.proofs.WalletGrow.{accepted-accepts, accepted-leaves, accepted-reclaims, noted-grow, state-accepts, state-leaves, state-reclaims, wallet-parts, who-same}
pub use Rattle.node_rules.proofs.WalletAdded.{send-note, migrate-note}
pub use Rattle.node_rules.proofs.WalletRole.{accepts_add_their_notes, leaves_add_their_notes, reclaims_add_their_notes, held-tip, leaving-tip, leaves_are_answered, links-some}
pub use Rattle.node_rules.proofs.ExitTips.{accepted-tips, exits_are_of_the_tip}
pub use Rattle.node_replies.specs.declared.order.NodeOrder.{NodeOrder}
pub use Rattle.node_replies.specs.declared.order.WalletOrder.{WalletOrder}
pub use Rattle.node_replies.specs.Orders.{with_record, on_accepted, answered, on_bundled, on_guarded, on_released, exit_block, on_leaving, Response, on_pooled, on_proved, on_sent, on_migrated, again_does}
unfoldable pub use Rattle.node_replies.specs.Orders.{wallet_does, operator_does, watcher_does}
pub use Rattle.node_replies.specs.declared.reply.Reply.{Reply}
pub use Rattle.node_replies.specs.Causes.{prove_cause, wallet_cause, offer_cause}
pub use Rattle.node_replies.specs.declared.order.OperatorOrder.{OperatorOrder}
pub use Rattle.node_replies.proofs.ByteTexts.{Small, small-nil}
pub use Rattle.node_replies.proofs.WalletEnds.{AcceptEnds, Refused, Known, New, accept_ends, SendEnds, Sends, send_ends}
