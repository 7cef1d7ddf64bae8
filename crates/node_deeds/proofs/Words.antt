-- Names that the proofs of this crate share.
pub use Rattle.std.proofs.Common.{◌≡◌, ℕ, List, [], true, ◌<◌, Option, Some, None, refl, Bool, false, Ok, Err, inl, sym, ap, ◌∙◌, inr, subst, length, ◌⊎◌}
pub use Rattle.std.specs.Prelude.{IfSome, if◌then◌else◌, Result, IfOk, IfErr, nat_lt}
pub use Rattle.crash_disk.specs.Disk.{History, FaultPlan}
pub use Rattle.node_journal.specs.Effect.{Effect, only, unless, first_cause}
pub use Rattle.node_journal.specs.Notes.{NotesState, Did, stopped_by}
pub use Rattle.node_journal.specs.Role.{are_of, may_follow}
pub use Rattle.node_journal.specs.declared.stop.Stop.{Stop}
pub use Rattle.node_replies.specs.Causes.{prove_cause, wallet_cause}
pub use Rattle.node_replies.specs.Given.{IsGiven}
pub use Rattle.node_replies.specs.Orders.{with_record, Response, answered, refused}
unfoldable pub use Rattle.node_replies.specs.Orders.{watcher_does, wallet_does, operator_does}
pub use Rattle.node_replies.specs.declared.given.Given.{Given}
pub use Rattle.node_rules.proofs.WalletRole.{leaves_are_answered, accepts_keep_the_role, sends_keep_the_role, leaves_keep_the_role, reclaims_keep_the_role, migrations_keep_the_role}
pub use Rattle.node_rules.specs.Wallet.{WalletRecords, WalletEffect, answers, binds_it, coin_state, accept_effect, send_effect, leave_from, reclaim_effect}
unfoldable pub use Rattle.node_rules.specs.Wallet.{leave_effect, migrate_effect}
pub use Rattle.node_rules.specs.Watcher.{watcher_kinds, Released, note_text, guard_taken, guard_by, guard_causes, guards_in, is_of, who_is}
unfoldable pub use Rattle.node_rules.specs.Watcher.{guard_effect, release_effect}
pub use Rattle.node_rules.specs.declared.refusal.WalletRefusal.{WalletRefusal}
pub use Rattle.node_rules.specs.declared.refusal.WalletRefusal.TheVariants.{AlreadyNew, NoMemory as RefusedMemory}
pub use Rattle.operator_rules.specs.Commands.{offer_effect, seal_effect}
unfoldable pub use Rattle.operator_rules.specs.Commands.{lay_effect}
pub use Rattle.plasma_tx.specs.declared.call.RootCall.{RootCall}
