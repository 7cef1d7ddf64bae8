-- Names that the files beside this one use.
pub use Rattle.std.proofs.Common.{◌≡◌, ◌<◌, ◌≤◌, ◌⊎◌, ◌+◌, ◌-◌, ℕ, zero, suc, false, List, [], ◌∷◌, ◌++◌, length, take, refl, ◌∙◌, ap, inl, inr, arith, true, Err, sym, Bool, cond, MatchBool, subst, length-append, ◌&&◌, Ok, ltb, Option, Some, None, Result, get_or, drop, rules, ◌≢◌}
pub use Rattle.std.proofs.lemmas.Grind.{common_steps}
pub use Rattle.std.specs.Option.{option_map}
pub use Rattle.std.proofs.lemmas.Bool.Decides.{nat_tests}
pub use Rattle.std.proofs.lemmas.List.{take-append-le, append-nil, take_more, drop_all}
pub use Rattle.std.specs.Result.{IfOk, IfErr, OnOk, is_err, result_ok}
pub use Rattle.std.proofs.lemmas.Bool.{cases_lt, cases_Bool}
pub use Rattle.std.specs.List.{list_all, prefix_len}
pub use Rattle.plasma_base.specs.Causes.{faults_after}
pub use Rattle.crash_disk.specs.Disk.{Step, DeviceCall, History, asks_length, reads, writes, syncs, with_call, content, MayLeave, FaultPlan, LeavesOnly, after_calls, with_write}
pub use Rattle.crash_disk.specs.Calls.{Course, passed, failed_after, stopped_after, made_of, after_course, WhereTold, Made, IsStill, with_made}
pub use Rattle.gate_journal.specs.Image.{spelled, most, spelled_record, spelled_records, journal_in, kept_records}
pub use Rattle.gate_journal.specs.Journal.{Keeps, JournalState, IsSettled, Appended, KeepsWithOrWithout, has_spare, is_fault, AppendFailed, Appends, is_device_fault}
pub use Rattle.gate_journal.specs.declared.refusal.JournalRefusal.{JournalRefusal}
pub use Rattle.gate_journal.specs.declared.refusal.JournalRefusal.TheVariants.{AlreadyMade, NotJournal, RecordTooLong, DeviceFault, Closed, NoMemory}
pub use Rattle.node_journal.specs.Role.{are_of, Kinds, front_of, of_kinds, may_follow}
pub use Rattle.node_journal.specs.Notes.{NotesState, note_steps, KeepsAtAnyMoment, Added, AddFailed, Opened, Did, NotesAndRole}
pub use Rattle.node_journal.specs.Inside.{FindsOver, AppendsIdentity, OpensEmpty, RefusesEmptyOver, IsSound, stop_of}
pub use Rattle.gate_journal.specs.Make.{empty, is_made, make_steps, IsBlank, look_steps}
pub use Rattle.node_journal.specs.Begin.{is_taken, image_made, journal_steps, init_steps, has_content, RefusesEmpty, PassesInit, StopsInit, IsAsked, HoldsAsBefore, InitsOver, StopsBehindOver, is_fault_refusal, is_init_fault, Inits, BeginsEmpty, PassesPair, RefusesBehindNotes, RefusesBehindLeaves}
pub use Rattle.node_journal.specs.Laws.{InitsMakeFewCalls, EachImage, InitEvent, asks, prepares, begins, crashes, after_event, MayCome, IsUntakenOrBegun, InitsMayBeRepeated, InitsEndBegun, StoppedPreparations, PreparedJournalsAreEmpty, NotesFollow, RefusedPairsStay}
unfoldable pub use Rattle.node_journal.specs.Laws.{after_events, MayAllCome}
pub use Rattle.gate_journal.specs.Steps.{append_steps, open_steps}
pub use Rattle.gate_journal.proofs.Rest.{AtRest, rest_images, leaves_now, append_rests, course_leaves}
pub use Rattle.crash_disk.proofs.Left.{content_may_be_left, fresh_disk_leaves_itself}
pub use Rattle.gate_journal.proofs.Stopped.{stopped_openings, stopped_makings}
