-- Names that many files beside this one use: lists and numbers, disks and their calls, and the journal.
pub use Rattle.std.proofs.Common.{◌≡◌, ◌<◌, ◌≤◌, ◌+◌, ℕ, zero, suc, true, false, leb, List, [], ◌∷◌, ◌++◌, length, take, drop, Some, None, Result, Ok, Err, refl, sym, ◌∙◌, ap, arith, append_assoc, length-append, length-drop, ◌≢◌, ltb, ◌&&◌, ◌||◌, get_or, inl, inr, length-take, take-append-drop, subst, ◌-◌, ◌*◌, ◌%◌, min, Bool, cond, slice_index, ◌⊎◌, ◌^◌, eqb, Option, rules, replicate, max, not, is_some, MatchBool}
pub use Rattle.std.proofs.lemmas.Bool.{le-leb, cases_lt, cases_eq, cases_Bool, leb-true, eqb-true, ltb-true, lt-ltb}
pub use Rattle.std.proofs.lemmas.Grind.{common_steps, same_number_lists}
pub use Rattle.std.specs.Int.{w32, to_be_bytes, from_be_bytes}
pub use Rattle.std.specs.List.{All, count_by, range_with_len}
pub use Rattle.std.proofs.lemmas.Bool.Decides.{nat_tests}
pub use Rattle.std.proofs.lemmas.List.{take_at, drop_at, append-nil, get_or-take, take_all, drop-drop, length-replicate, drop_all}
pub use Rattle.std.specs.Result.{result_ok}
pub use Rattle.std.proofs.lemmas.List.Elements.{All-head, All-tail, All-push, All-nil, All-cons, All-from_get_or}
pub use Rattle.std.specs.Option.{option_and_then, option_map}
pub use Rattle.std.proofs.lemmas.Result.{err_from_is_err_and}
pub use Rattle.crash_disk.specs.Disk.{History, content, synced_content, unsynced_ranges, is_touched, MayLeave, Step, DeviceCall, moment, LeavesOnly, writes, syncs, content_after, synced_content_after, unsynced_ranges_after, with_write, FaultPlan, asks_length, reads, with_call, before_last}
pub use Rattle.crash_disk.specs.Calls.{Course, passed, failed_after, stopped_after, made_of, with_made, after_course, WhereTold, IsStill, Called, Made}
pub use Rattle.crash_disk.proofs.Calls.{made_from, made_none, made_fault, made_more, made_over, made_stop, made_same, later, made_there, made_after, made_within}
pub use Rattle.gate_journal.specs.Image.{is_open, begins_open, most, mark, spelled_record, spelled_records, body_in, with_first, journal_in, SpelledIsRead, Spells, spelled, kept_records, ReadIsSpelled, after_mark}
unfoldable pub use Rattle.gate_journal.specs.Image.{records_from}
pub use Rattle.gate_journal.specs.Steps.{append_steps, frame_of, open_steps, steps_at}
pub use Rattle.gate_journal.specs.Journal.{Keeps, KeepsWithOrWithout, IsSettled, with_spare, JournalState, RefusesOpen, has_spare, Appended, AppendFailed}
pub use Rattle.gate_journal.specs.Inside.{IsReadRefusal, OverContent, with_room_for, LooksAt}
pub use Rattle.gate_journal.specs.Sound.{RestsAt}
pub use Rattle.gate_journal.specs.Laws.{AppendsSettle, opens_gate, is_added, StoppedAppends, RecordsStay, AppendedRecordsStay, MadeJournalsStay, StoppedOpenings, StoppedMakings}
pub use Rattle.crash_disk.proofs.Left.{untouched_same, synced_content_is_left, synced_is_content, content_may_be_left, fresh_disk_leaves_itself}
pub use Rattle.gate_journal.specs.Make.{is_made, make_steps, empty, look_steps, IsFresh, IsBlank, Makes}
