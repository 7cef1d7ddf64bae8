-- Names that the proofs of this crate share.
pub use Rattle.std.proofs.Common.{◌≡◌, ℕ, Bool, true, false, List, [], Option, Result, Ok, Err, refl, sym, ◌∙◌, ap, subst, inl, inr, ◌⊎◌, ◌<◌, ◌-◌, ◌+◌, cond, ◌∷◌, ◌++◌, Some, None, arith, ◌≤◌, length, codes, append_assoc, suc, map, take, append-nil}
pub use Rattle.std.proofs.lemmas.Bool.{and_parts, cases_Bool, lt-ltb, ltb-true, leb-true}
pub use Rattle.std.specs.Option.{option_map}
pub use Rattle.std.specs.Prelude.{nat_lt, slice_get, unwrap_or, ◌≢◌}
pub use Rattle.crash_disk.specs.Calls.{stopped_after, after_course, Made, WhereTold, failed_after}
pub use Rattle.crash_disk.specs.Disk.{History, FaultPlan, content, MayLeave, LeavesOnly}
pub use Rattle.gate_journal.specs.Journal.{is_device_fault, Keeps, KeepsWithOrWithout, IsSettled}
pub use Rattle.gate_journal.specs.declared.refusal.JournalRefusal.{JournalRefusal}
pub use Rattle.gate_journal.specs.declared.refusal.JournalRefusal.TheVariants.{AlreadyMade as JournalMade, NotJournal as JournalPlace, NoMemory}
pub use Rattle.hss_keys.specs.Entries.{entries_of, opened_count, used_in, entry_text}
pub use Rattle.hss_keys.specs.Form.{entry_may_follow, level_records, may_follow, level_records_in}
pub use Rattle.hss_keys.specs.Keys.{bottom_key}
pub use Rattle.hss_keys.specs.Levels.{has_leaf, advance_effect, bind_effect, bound_of, level_stop, HssBoundState}
pub use Rattle.hss_keys.specs.declared.entry.Entry.{Entry}
pub use Rattle.hss_keys.specs.declared.entry.Entry.TheVariants.{Opens, Binds}
pub use Rattle.hss_keys.specs.declared.seed.HssSeed.{HssSeed}
pub use Rattle.hss_runs.specs.Identity.{seed_in, signer_seed, signer_kinds}
unfoldable pub use Rattle.hss_runs.specs.Identity.{seed_of}
pub use Rattle.hss_runs.specs.Runs.{OpensSigner, RefusesSigner, Signs, RunsSigner, AddsAll, FailsToAdd, DidAll, KeepsAFront}
pub use Rattle.hss_runs.specs.Signing.{Signing, said_output, next_leaf, entries_added, is_signable, refuses, signed_text, signs}
unfoldable pub use Rattle.hss_runs.specs.Signing.{signing}
pub use Rattle.hss_runs.specs.declared.next.NextLeaf.{NextLeaf}
pub use Rattle.node_journal.specs.Notes.{NotesState, Did, RefusesRole, Opened, note_steps, Added, AddFailed, stopped_by}
pub use Rattle.node_runs.specs.Endings.{refused_output}
pub use Rattle.plasma_base.specs.Causes.{faults_after}
pub use Rattle.run_endings.specs.Endings.{fault_output}
pub use Rattle.run_endings.specs.Outputs.{Output, EndsAs}
pub use Rattle.run_endings.specs.Statuses.{FaultsBy, IsDoneUnlessFailed}
pub use Rattle.run_endings.specs.declared.status.Status.{Status}
