-- Names that the proofs of this crate share.
pub use Rattle.std.proofs.Common.{◌≡◌, ◌⊎◌, ℕ, Bool, true, false, List, [], ◌∷◌, ◌++◌, Option, None, Result, Ok, Err, refl, sym, subst, inl, Some, option_map, ap, inr, ◌∙◌, if◌then◌else◌, nat_lt, length}
pub use Rattle.std.proofs.lemmas.Bool.{true≢false}
pub use Rattle.std.specs.Prelude.{IfOk, IfErr, OnOk, ◌&&◌}
pub use Rattle.crash_disk.specs.Calls.{WhereTold, passed, failed_after, after_course}
pub use Rattle.crash_disk.specs.Disk.{History, FaultPlan}
pub use Rattle.leaf_journal.specs.Records.{is_marked}
pub use Rattle.node_answers.specs.Answers.{Outcome, IsSaid, StopsIn, said_by, given_text}
unfoldable pub use Rattle.node_answers.specs.Answers.{wallet_outcome, operator_outcome, watcher_outcome}
pub use Rattle.node_journal.specs.Effect.{Effect, only, unless, first_cause}
pub use Rattle.node_journal.specs.Notes.{NotesState, Did, Adds, Fails, KeepsAtAnyMoment}
pub use Rattle.node_journal.specs.Parts.{Parts, both, of_each, OfLeaves, alone}
pub use Rattle.node_journal.specs.Role.{are_of}
pub use Rattle.node_journal.specs.declared.stop.Stop.{Stop}
pub use Rattle.node_journal.specs.declared.stop.Stop.TheVariants.{Closed, NoMemory, DeviceFault}
pub use Rattle.node_lines.specs.declared.operator_line.OperatorLine.{OperatorLine}
pub use Rattle.node_replies.specs.Causes.{wallet_cause, offer_cause, lay_cause, seal_cause, watcher_cause}
pub use Rattle.node_replies.specs.Orders.{on_accepted, on_sent, on_leaving, on_reclaimed, on_migrated, Response, answered, on_pooled, on_laid, on_sealed, on_guarded, on_released}
unfoldable pub use Rattle.node_replies.specs.Orders.{wallet_does, operator_does, watcher_does}
pub use Rattle.node_roles.specs.Nodes.{NodeAt, keeping, records_at, Commands, left_with, node_with, outcome_at, node_does, IsNodeAt, StoppedAt}
pub use Rattle.node_roles.specs.Notes.{NotesAt, with_note, StaysAt, IsNotesAt, FailedAt}
pub use Rattle.node_roles.specs.Parts.{with_effect, EachFails, PartFails}
pub use Rattle.node_rules.specs.WalletRecords.{wallet_kinds}
unfoldable pub use Rattle.node_rules.specs.WalletRecords.{who_is}
pub use Rattle.node_sessions.specs.declared.said.Said.{Said}
pub use Rattle.operator_rules.specs.Commands.{forest_in, offer_causes, offer_at, offer_of}
unfoldable pub use Rattle.operator_rules.specs.Commands.{offer_effect, lay_effect, seal_effect}
pub use Rattle.operator_rules.specs.declared.refusal.OfferRefusal.{OfferRefusal}
pub use Rattle.plasma_tx.specs.Spelling.{signed_in}
pub use Rattle.plasma_tx.specs.Views.{blocks, coin_at}
pub use Rattle.plasma_tx.specs.declared.call.RootCall.{RootCall}
