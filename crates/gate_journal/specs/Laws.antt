-- What stopped calls leave, and what holds of a journal over every list of makings, openings, appends, faults and
-- crashes.
use Rattle.std.specs.Prelude.{◌≡◌, ◌≢◌, ◌≤◌, ℕ, Bool, true, false, ◌&&◌, ◌||◌, nat_le, if◌then◌else◌, List, [], ◌∷◌, ◌++◌, length, slice_index, Some, Err, MatchBool}
use Rattle.crash_disk.specs.Disk.{History, content, unsynced_ranges, MayLeave, LeavesOnly}
use Rattle.crash_disk.specs.Calls.{Course, passed, with_made, after_course}
use Rattle.crash_disk.specs.Outcomes.{image_after, HasPattern}
use Rattle.crash_disk.specs.declared.outcome.Outcome.{Outcome}
use Rattle.crash_disk.specs.declared.outcome.Outcome.TheVariants.{Old, New, Mix}
use Rattle.gate_journal.specs.Image.{is_open, most, spelled, Spells, journal_in}
use Rattle.gate_journal.specs.Steps.{append_steps, open_steps}
use Rattle.gate_journal.specs.Journal.{Keeps, IsSettled}
use Rattle.gate_journal.specs.Make.{is_made, make_steps, IsBlank}
use Rattle.gate_journal.specs.Life.{Event, appends, shut, after_events, MayAllCome, Continue, Stay}

-- the outcome leaves an open gate where the gate alone was written
abbrev pub opens_gate : Outcome → Bool
opens_gate Old = false
opens_gate New = true
opens_gate (Mix extra pattern) = is_open (slice_index pattern 0)

-- whether the record of an append is kept of which so many device calls passed
abbrev pub is_added : ℕ → Outcome → Bool
is_added count outcome = nat_le 4 count || (nat_le 2 count && opens_gate outcome)

-- An append of which the first calls pass and, below four, the next one fails, to an image that a sync left and that
-- spells records: the image that an outcome leaves spells them and the new one exactly where the four passed, or two or
-- three did and the outcome opens the gate. Else it spells the old ones.
abbrev pub StoppedAppends : Type 0
StoppedAppends = (history : History) (records : List (List ℕ)) (body : List ℕ) (count : ℕ) (outcome : Outcome)
    → Spells (content history) records → unsynced_ranges history ≡ [] → length body ≤ most → HasPattern outcome
    → Keeps (if is_added count outcome then records ++ body ∷ [] else records)
    (image_after outcome (with_made count (append_steps (length (spelled records)) body) history))

-- a settled history and a body that fits give, after the calls of its append, a settled one with the body
abbrev pub AppendsSettle : Type 0
AppendsSettle = (history : History) (records : List (List ℕ)) (body : List ℕ)
    → IsSettled history records → length body ≤ most
    → IsSettled (with_made 4 (append_steps (length (spelled records)) body) history) (records ++ body ∷ [])

-- An opening, however it went: each image of a crash at a moment since it began is one that a crash could have left
-- before.
abbrev pub StoppedOpenings : Type 0
StoppedOpenings = (history : History) (course : Course)
    → LeavesOnly history (after_course course (open_steps (content history)) history) (MayLeave history)

-- A making, however it went: each image of a crash at a moment since it began is, where the disk held a made image, one
-- that a crash could have left before; else it is blank.
abbrev pub StoppedMakings : Type 0
StoppedMakings = (history : History) (course : Course)
    → LeavesOnly history (after_course course (make_steps (content history)) history)
    (λ image. MatchBool (is_made (content history)) (MayLeave history image) (IsBlank image))

-- Once a node has some records, its journal keeps them whatever comes: each image of a crash continues them, and so
-- does what every node has later.
abbrev pub RecordsStay : Type 0
RecordsStay = (are : List (List ℕ) → Bool) (disk : History) (earlier later : List Event) (records : List (List ℕ))
    → MayAllCome are (shut disk) (later ++ earlier)
    → (after_events are (shut disk) earlier).records ≡ Some records
    → (let now = after_events are (shut disk) (later ++ earlier) in
    Stay are records now.history × ((others : List (List ℕ)) → now.records ≡ Some others → Continue records others))

-- what a node appended, and was answered Ok, stands behind its records in all that comes later
abbrev pub AppendedRecordsStay : Type 0
AppendedRecordsStay =
    (are : List (List ℕ) → Bool) (disk : History) (earlier later : List Event) (records : List (List ℕ)) (body : List ℕ)
    → MayAllCome are (shut disk) (later ++ appends body passed ∷ earlier)
    → (after_events are (shut disk) earlier).records ≡ Some records
    → (let now = after_events are (shut disk) (later ++ appends body passed ∷ earlier) in
    Stay are (records ++ body ∷ []) now.history
    × ((others : List (List ℕ)) → now.records ≡ Some others → Continue (records ++ body ∷ []) others))

-- Where each image of a crash is a journal of the kind, it stays so whatever comes, and no opening finds another.
abbrev pub MadeJournalsStay : Type 0
MadeJournalsStay = (are : List (List ℕ) → Bool) (disk : History) (earlier later : List Event)
    → MayAllCome are (shut disk) (later ++ earlier)
    → Stay are [] (after_events are (shut disk) earlier).history
    → (let now = (after_events are (shut disk) (later ++ earlier)).history in
    Stay are [] now × ((place : ℕ) → journal_in (content now) ≢ Err place))
