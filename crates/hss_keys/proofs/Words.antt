-- Names that many files beside this one use: lists and numbers, journals of notes, keys, entries and levels.
pub use Rattle.std.proofs.Common.{◌≡◌, ◌+◌, ◌-◌, ℕ, true, false, List, Option, Some, None, Result, Ok, refl, sym, ◌∙◌, ap, subst, arith, length, take, drop, length-drop, ◌<◌, suc, get_or, [], ◌∷◌, ◌++◌, Err, inl, inr, append_assoc, append-nil, length-append, ◌≤◌, ◌≢◌, cond, eqb, rules, min, Bool, length-take, ◌^◌}
pub use Rattle.std.specs.Result.{is_ok, IfErr, OnErr, OnOk, result_ok}
pub use Rattle.std.proofs.lemmas.Bool.{cases_Bool, cases_eq, cases_lt, and_parts, eq-eqb, eqb-true, lt-ltb, ltb-true, ne_eqb, le-ltb, le-leb, leb-true, lt-leb}
pub use Rattle.std.proofs.lemmas.Grind.{common_steps}
pub use Rattle.std.specs.List.{slice_get, cons_option, All}
pub use Rattle.std.proofs.lemmas.List.{take_all, take-append-drop, get_or_at, get_or_default, drop_all, get_or_append_left, take_at, drop_at, drop-drop, get_or_past}
pub use Rattle.std.proofs.lemmas.Option.{slice_get-get_or, slice_get_within, same_Some, get_or_from_slice_get}
pub use Rattle.std.specs.Option.{option_and_then, option_map_or, unwrap_or}
pub use Rattle.std.proofs.lemmas.List.Elements.{filter_map-append, All-drop, All-get_or, All-take}
pub use Rattle.std.proofs.Math.Seq.{drop-cons, take-suc}
pub use Rattle.std.proofs.lemmas.Slice.Eq.{bytes_eq-Decides}
pub use Rattle.std.specs.Prelude.{◌&&◌, slice_range, nat_le, ◌⊎◌}
pub use Rattle.std.specs.Str.{bytes_eq}
pub use Rattle.plasma_base.specs.Causes.{faults_after}
pub use Rattle.crash_disk.specs.Disk.{History, FaultPlan, content}
pub use Rattle.crash_disk.specs.Calls.{WhereTold, IsStill, passed, with_made, stopped_after, Made}
pub use Rattle.gate_journal.specs.Image.{spelled, most, journal_in}
pub use Rattle.gate_journal.specs.Journal.{JournalState, IsSettled, fresh_journal, with_spare, has_spare, Appended, AppendFailed, Keeps, RefusesOpen, is_device_fault}
pub use Rattle.node_journal.specs.Notes.{Did, stopped_by, NotesState, KeepsAtAnyMoment, Added, AddFailed, Opened, RefusesRole}
pub use Rattle.gate_journal.specs.Life.{Stay, records_in, Continue}
pub use Rattle.node_journal.specs.declared.stop.Stop.{Stop}
pub use Rattle.node_journal.specs.declared.stop.Stop.TheVariants.{DeviceFault as StopFault, Closed as StopClosed, NoMemory as StopNoMemory}
pub use Rattle.node_journal.proofs.Keeping.{moments_stay, settled_stays, notes_over, goes_through, meets_fault, moments, settled_now, went, met, made_still, journal_opened}
pub use Rattle.lms_sign.specs.Types.{leaf_count, signature_length, is_supported}
unfoldable pub use Rattle.lms_sign.specs.Types.{u32_at, u32str}
pub use Rattle.hss_keys.specs.declared.seed.HssSeed.{HssSeed}
pub use Rattle.hss_keys.specs.declared.entry.Entry.{Entry}
pub use Rattle.hss_keys.specs.declared.entry.Entry.TheVariants.{Binds, Opens}
pub use Rattle.hss_keys.specs.Entries.{entries_of, message_at, opened_count, used_in, IsEntry, key_at, messages_under, key_in, keys_of, message_under, is_opening, is_binding, EntriesAreReadBack, EntriesHaveOneSpelling}
unfoldable pub use Rattle.hss_keys.specs.Entries.{entry_text, entry_in}
pub use Rattle.hss_keys.specs.Form.{level_records, may_follow, entry_may_follow, are_level_records, level_records_in, level_records_read}
unfoldable pub use Rattle.hss_keys.specs.Form.{records_behind}
pub use Rattle.hss_keys.specs.Levels.{bound_of, has_leaf, HssBoundState, LevelsState, KeepsBound, leaves_left}
unfoldable pub use Rattle.hss_keys.specs.Levels.{bind_effect, advance_effect}
pub use Rattle.hss_keys.specs.Sound.{LevelRecordsState, IsKept, HasRoom, IsSound, IsFormRefusal}
pub use Rattle.hss_keys.specs.Keys.{bottom_key, top_secret, bottom_secret, IsHssValid, ValidHssSignaturesPass, HssSignaturesAreValid}
unfoldable pub use Rattle.hss_keys.specs.Keys.{hss_signature_of, hss_key_of, derived, is_hss_valid}
pub use Rattle.node_journal.specs.Effect.{Effect, only}
pub use Rattle.hss_keys.specs.declared.refusal.LevelRefusal.{LevelRefusal}
pub use Rattle.gate_journal.specs.Steps.{append_steps, open_steps}
pub use Rattle.lms_sign.proofs.Lists.{length-u32str, put_first, put_on, all_of_front}
pub use Rattle.lms_sign.specs.Tree.{signature_of}
unfoldable pub use Rattle.lms_sign.specs.Tree.{public_key_of}
pub use Rattle.lms_sign.specs.Valid.{types_of, IsValid}
unfoldable pub use Rattle.lms_sign.specs.Valid.{is_valid}
pub use Rattle.lms_sign.proofs.Sizes.{leaf_count-le}
