-- Names that the files beside this one use.
pub use Rattle.std.proofs.Common.{false, true, List, ◌∙◌, ap, arith, [], ◌∷◌, refl, ◌≡◌, ◌<◌, ◌||◌, ◌&&◌, ℕ, ◌+◌, Bool, leb, ltb, length, get_or, ◌%◌, cond, ◌++◌, take, slice_index, sym, ◌-◌, subst, rules, ◌≤◌, length-append, zero, suc, ◌==◌, min, Some, None, is_err, Option, inl, inr, if◌then◌else◌, Result, Ok, Err, IfOk, OnOk, drop, length-take, map, ◌⊎◌}
pub use Rattle.std.specs.Option.{option_map}
pub use Rattle.std.proofs.lemmas.Bool.{cases_Bool, cases_lt, le-leb, lt-ltb}
pub use Rattle.std.proofs.lemmas.Grind.{common_steps, same_number_lists}
pub use Rattle.std.proofs.lemmas.Bool.Decides.{nat_tests}
pub use Rattle.std.proofs.lemmas.List.{map-id, append_assoc, get_or_append_left, get_or-append_right, take_at, drop_at, drop-drop, take-append-drop, append-nil, get_or-take, get_or-drop}
pub use Rattle.std.proofs.lemmas.List.Folds.{list_any_none, list_any-append}
pub use Rattle.std.proofs.lemmas.List.FromFn.{map-range_with_len_more, length-map-range_with_len, get_or-map-range_with_len}
pub use Rattle.std.specs.List.{list_any, range_with_len, count_by}
pub use Rattle.std.proofs.lemmas.List.Sums.{sum_by-append}
pub use Rattle.std.proofs.lemmas.Result.{err_from_is_err_and}
pub use Rattle.std.proofs.raw_atomic.Walks.{proved}
pub use mir.Val.{vstruct, vnil, bool_byte}
pub use mir.Syntax.{named}
pub use types.Kit.{‵, raw, ◌⊛◌, ◌$◌, ◌∵◌, !, qed, move, keep, split, suffices, done}
pub use types.Part.{agg}
pub use types.Run.{enter, returns, no_more}
pub use types.ByLocal.{alloc_all, pass_all, free_all, look_at, sets}
pub use denote.Builtin.{u8, bool}
pub use denote.Exit.{yes}
pub use denote.Plain.{bool_vals, bool_Tells}
pub use denote.RattleType.{owns}
pub use denote.Ref.{shr_vals, shr_Tells}
pub use denote.Shadow.{pure_i}
pub use denote.Signature.{plain, types_at, named_lft}
pub use denote.Triple.Entry.{alive}
pub use denote.Triple.Walked.{says, Stays, stay_none_slice, walk_of, ends_at, Goes-none_slice, stay_none, stay_none_ref, Goes-none, Goes-none_ref}
pub use denote.Slice.{shr_slice_vals, shr_slice_Tells}
pub use Rattle.crash_disk.specs.Disk.{History, fresh_history, is_within, is_touched, with_call, with_write, content, synced_content, unsynced_ranges, FaultPlan, is_spent, fails_first, after_one, writes, Step, DeviceCall, asks_length, reads, syncs, content_after_step, content_after, synced_content_after, unsynced_ranges_after, MayLeave}
unfoldable pub use Rattle.crash_disk.specs.Disk.{after_calls, passing}
pub use Rattle.crash_disk.specs.Calls.{WhereTold, Called, IsStill, Course, passed, failed_after, stopped_after, made_of, with_made, after_course, Passes, GoesByPlan, Made}
pub use Rattle.crash_disk.specs.FileCalls.{FileCall, makes, reaches, asked, syncs_bytes, syncs_name, marked, FileAsk, finds, marks, all_passed, holds, WhereHeld, AllPassed, has_name, sync_asks, asks_of, went, Asked, Makes, AreFor, told_of, FilePast}
pub use Rattle.crash_disk.specs.Outcomes.{mix_byte, image_after, mix_of}
pub use Rattle.crash_disk.specs.declared.outcome.Outcome.TheVariants.{Old, New, Mix}
pub use Rattle.crash_disk.specs.Laws.{AfterCalls, NextPassByFuse, PassesByFuse, ContentMayBeLeft, SyncedContentIsLeft, FreshDiskLeavesItself}
pub use Rattle.crash_disk.specs.Memory.{step_of, MemState, listed_at, plan_of}
pub use Rattle.crash_disk.specs.Undo.{before_write, undone, IsUndoable, IsReplaced}
pub use Rattle.crash_disk.specs.contracts.past.Past.{the_row}
