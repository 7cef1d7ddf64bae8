-- Names that many files beside this one use: lists and numbers, journals of notes, keys and their leaves.
pub use Rattle.std.proofs.Common.{◌≡◌, ◌≢◌, ◌∙◌, ◌++◌, ◌∷◌, [], ℕ, List, drop, length, ap, sym, refl, arith, inl, inr, ◌↔◌, Bool, true, false, cond, map, Result, Ok, Err, subst, eqb, ltb, ◌⊎◌, ◌<◌, ◌≤◌, ◌+◌, ◌*◌, suc, get_or, take, append_assoc, append-nil, length-append, rules, not, ◌-◌, Some, None, min, Option, Bor, zero, max, lit≤}
pub use Rattle.std.proofs.lemmas.Bool.{cases_Bool, eqb-true, ltb-true, leb-true, and_parts, cases_lt, lt-ltb, le-ltb, le-leb, eq-eqb}
pub use Rattle.std.proofs.lemmas.Grind.{common_steps}
pub use Rattle.std.proofs.lemmas.List.{drop_at, take_at, take-append-drop, take_rest, drop_all, map-append, length-map, get_or_append_left, take_all, get_or_default}
pub use Rattle.std.proofs.lemmas.Slice.Eq.{bytes_eq-Decides}
pub use Rattle.std.specs.Prelude.{◌&&◌, ◌||◌}
pub use Rattle.std.specs.Int.{w32, to_be_bytes}
pub use Rattle.std.proofs.Math.Seq.{drop-cons, take-suc}
pub use Rattle.std.specs.List.{All, slice_get}
pub use Rattle.std.proofs.lemmas.Option.{slice_get_within, slice_get-map, option_and_then_some, get_or_from_slice_get}
pub use Rattle.std.specs.Option.{OnSome, option_map, option_copied}
pub use mir.Val.{bool_byte}
pub use Rattle.crash_disk.specs.Disk.{content, History, FaultPlan}
pub use Rattle.crash_disk.specs.Calls.{WhereTold, with_made}
pub use Rattle.gate_journal.specs.Image.{journal_in, spelled, spelled_record, spelled_records, most}
pub use Rattle.gate_journal.specs.Journal.{Keeps, IsSettled, JournalState, fresh_journal, with_spare, has_spare, Appended, AppendFailed}
pub use Rattle.node_journal.specs.Notes.{Added, AddFailed, KeepsAtAnyMoment, NotesState, Did}
pub use Rattle.node_journal.proofs.Keeping.{notes_over, goes_through, meets_fault, moments, settled_now, went, met, none_made, journal_opened, moments_stay, settled_stays}
pub use Rattle.leaf_journal.specs.Records.{messages_of, every_message, has_number, is_marked, is_marker, leaf_records, leaf_records_of, leaf_records_read, leaf_records_read_of, may_follow, may_follow_of, MessagesPass, first_length, leaf_records_in_of, marker, are_leaf_records, binding_record, leaf_records_in, MayBind, with_number}
unfoldable pub use Rattle.leaf_journal.specs.Records.{records_behind_of}
pub use Rattle.leaf_journal.specs.Leaves.{LeavesState, leaves_of, leaf_effect, bind_stop}
pub use Rattle.leaf_journal.specs.Sound.{LeafRecordsState, IsSound}
unfoldable pub use Rattle.leaf_journal.specs.Sound.{first_count}
pub use Rattle.leaf_journal.specs.Laws.{KindRecords, ALeafHasOneMessage, BoundMessagesStay, MadeJournalsStay as LeavesStay, StoppedBinds, StoppedMigrations, life_after}
