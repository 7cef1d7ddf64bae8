-- Names that the proofs of this crate share.
pub use Rattle.std.proofs.Common.{◌≡◌, ℕ, Bool, true, false, List, Option, Result, Ok, Err, is_ok, inl, inr, refl, ap, ◌∙◌, subst, ◌⊎◌, Some, None, sym, option_map, [], ◌++◌, append_assoc}
pub use Rattle.std.specs.Prelude.{◌≢◌, unwrap_or}
pub use Rattle.crash_disk.specs.Disk.{History, FaultPlan, Step, content, asks_length, with_call}
pub use Rattle.gate_journal.specs.Journal.{is_device_fault, IsSettled}
pub use Rattle.gate_journal.specs.declared.refusal.InitRefusal.{InitRefusal}
pub use Rattle.gate_journal.specs.declared.refusal.InitRefusal.TheVariants.{AlreadyMade as InitMade, DeviceFault as InitFault, NoMemory as InitNoMemory}
pub use Rattle.gate_journal.specs.declared.refusal.JournalRefusal.{JournalRefusal}
pub use Rattle.gate_journal.specs.declared.refusal.JournalRefusal.TheVariants.{NotJournal as JournalPlace, DeviceFault as JournalFault, NoMemory as JournalNoMemory}
pub use Rattle.node_answers.specs.Answers.{Outcome}
pub use Rattle.node_journal.specs.Begin.{is_init_fault, is_taken, journal_steps, init_steps, Inits, RefusesPair, BeginsPair}
pub use Rattle.node_journal.specs.Notes.{NotesState, Opened, RefusesRole}
pub use Rattle.node_journal.specs.Parts.{Parts, alone, both, of_each, OfLeaves}
pub use Rattle.node_journal.specs.declared.stop.Stop.{Stop, Stop as NodeStop}
pub use Rattle.node_journal.specs.declared.stop.Stop.TheVariants.{NoMemory as NodeMemory, DeviceFault as NodeFault}
pub use Rattle.node_roles.specs.Nodes.{NodeAt, Commands, outcome_at, node_does, IsNodeAt, StoppedAt, keeping, records_at, left_with, records_do}
pub use Rattle.node_roles.specs.Notes.{NotesAt, with_note, StaysAt, IsNotesAt, FailedAt}
pub use Rattle.node_roles.specs.Parts.{with_effect, PartFails}
pub use Rattle.node_roles.specs.Roles.{watcher_commands, operator_commands, desk_commands, wallet_commands, wallet_parts}
pub use Rattle.node_runs.specs.Disks.{node_opened, KeepsNode, opened_at, Keeps, MayKeep, NodeFailed}
pub use Rattle.node_runs.specs.Endings.{refused_output, init_output}
pub use Rattle.node_runs.specs.Inits.{InitsNotes, InitsPair}
pub use Rattle.node_runs.specs.Operators.{desk_records_in, RefusesDesk, RunsBehind}
unfoldable pub use Rattle.node_runs.specs.Operators.{RunsOperator}
pub use Rattle.node_runs.specs.Runs.{node_rules, node_found, NodeSession}
unfoldable pub use Rattle.node_runs.specs.Runs.{RunsWatcher, RunsWallet}
pub use Rattle.node_runs.specs.Sessions.{Outside, RunsUnfailed, BrokenAt, RunsSession, AtNext}
pub use Rattle.node_sessions.proofs.StayLaws.{ok-same, session-keeps, run-keeps}
pub use Rattle.node_sessions.specs.Sessions.{SessionState, begun, calls_of, commanded, session_rules}
pub use Rattle.operator_rules.specs.Records.{operator_kinds, who_is as operator_is}
pub use Rattle.plasma_tx.specs.declared.call.RootCall.{RootCall}
pub use Rattle.run_endings.proofs.EndingLaws.{ends-done, ends-stopped}
pub use Rattle.run_endings.specs.Endings.{status_of, session_output, fault_output, last_text}
pub use Rattle.run_endings.specs.Faults.{Counts, CountsEither}
pub use Rattle.run_endings.specs.Outputs.{EndsAs, Output, Stops}
pub use Rattle.run_endings.specs.Statuses.{FaultsBy, IsDoneUnlessFailed, status_of_refusal}
pub use Rattle.run_endings.specs.declared.status.Status.{Status}
pub use Rattle.run_endings.specs.declared.status.Status.TheVariants.{NoMemory, Done, Refused, Usage, BadLine as BadLineStatus, ReadFault as ReadFaultStatus, WriteFault, DeviceFault, TooLong as TooLongStatus, NotJournal, AlreadyMade}
pub use Rattle.streamed_lines.specs.Reading.{is_read_fault, next_text, IsLeft, HaltsNext, Answers, BrokeOff}
pub use Rattle.streamed_lines.specs.Streams.{Rules, Stream, stream_of, Streamed}
pub use Rattle.streamed_lines.specs.declared.ending.Ending.{Ending}
pub use Rattle.streamed_lines.specs.declared.ending.Ending.TheVariants.{Complete, BadLine, ReadFault, TooLong, Ended, ReadFault as ReadFaultEnding}
pub use Rattle.wallet_node.specs.Opening.{OpensWallet, RefusesWallet, IsUnbound}
pub use Rattle.wallet_node.specs.State.{WalletState, notes_part, leaves_part}
