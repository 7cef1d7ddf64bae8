-- The life of a journal: what is done with it, and what befalls it. A crate above may keep records of a kind of its
-- own, which `are` tests.
use Rattle.std.specs.Prelude.{◌≡◌, ◌≤◌, ℕ, Bool, true, false, if◌then◌else◌, List, [], ◌∷◌, ◌++◌, length, Option, Some, None}
use Rattle.std.specs.Option.{option_and_then, option_map, unwrap_or}
use Rattle.crash_disk.specs.Disk.{History, fresh_history, content, MayLeave}
use Rattle.crash_disk.specs.Calls.{Course, passed, failed_after, stopped_after, after_course}
use Rattle.gate_journal.specs.Image.{most, spelled, kept_records}
use Rattle.gate_journal.specs.Steps.{append_steps, open_steps}
use Rattle.gate_journal.specs.Make.{make_steps}

-- a making; an opening; an append of this body; a crash that left this image
pub data Event : Type 0 where
  makes : Course → Event
  opens : Course → Event
  appends : List ℕ → Course → Event
  crashes : List ℕ → Event

-- what the disk tells; whether a fault closed the journal; and its records, from an opening until the node that has
-- them is gone
pub record Life : Type 0 where
  pub history : History
  pub closed : Bool
  pub records : Option (List (List ℕ))

-- a journal that isn't open
abbrev pub shut : History → Life
shut history = record { history = history; closed = false; records = None }

-- the records that an image keeps, where they are of the kind
abbrev pub records_in : (List (List ℕ) → Bool) → List ℕ → Option (List (List ℕ))
records_in are image = option_and_then (λ records. if are records then Some records else None) (kept_records image)

-- the records of an opening, where it went through
abbrev pub where_passed : {T : Type 0} → Course → Option T → Option T
where_passed passed value = value
where_passed course value = None

-- whether an append that went so closes the journal, and the records after it
abbrev pub closes : Course → Bool
closes (failed_after count) = true
closes course = false

abbrev pub records_after : Course → List ℕ → Option (List (List ℕ)) → Option (List (List ℕ))
records_after passed body records = option_map (λ old. old ++ body ∷ []) records
records_after (failed_after count) body records = records
records_after (stopped_after count) body records = None

-- where the closed gate behind the records stands
abbrev pub gate_of : Life → ℕ
gate_of life = length (spelled (unwrap_or life.records []))

-- the life after an event
abbrev pub after_event : (List (List ℕ) → Bool) → Event → Life → Life
after_event are (makes course) life = shut (after_course course (make_steps (content life.history)) life.history)
after_event are (opens course) life = record {
  history = after_course course (open_steps (content life.history)) life.history;
  closed = false;
  records = where_passed course (records_in are (content life.history));
}
after_event are (appends body course) life = record {
  history = after_course course (append_steps (gate_of life) body) life.history;
  closed = closes course;
  records = records_after course body life.records;
}
after_event are (crashes image) life = shut (fresh_history image)

-- Which events may come: a making and an opening always; an append of a body that fits, where the journal is open, no
-- fault closed it and the records stay of the kind; and a crash, with an image that the disk model allows.
abbrev pub MayCome : (List (List ℕ) → Bool) → Event → Life → Type 0
MayCome are (makes course) life = Unit {0}
MayCome are (opens course) life = Unit {0}
MayCome are (appends body course) life =
    (length body ≤ most) × (life.closed ≡ false)
    × ((records : List (List ℕ)) × (life.records ≡ Some records) × (are (records ++ body ∷ []) ≡ true))
MayCome are (crashes image) life = MayLeave life.history image

-- the life after events, the newest first
unfoldable pub after_events : (List (List ℕ) → Bool) → Life → List Event → Life
after_events are start [] = start
after_events are start (event ∷ events) = after_event are event (after_events are start events)

-- each of the events, the newest first, may come
unfoldable pub MayAllCome : (List (List ℕ) → Bool) → Life → List Event → Type 0
MayAllCome are start [] = Unit {0}
MayAllCome are start (event ∷ events) = MayAllCome are start events × MayCome are event (after_events are start events)

-- the later records are the earlier ones, and maybe more behind them
abbrev pub Continue : List (List ℕ) → List (List ℕ) → Type 0
Continue earlier later = (more : List (List ℕ)) × (later ≡ earlier ++ more)

-- each image of a crash now keeps records of the kind that continue these
abbrev pub Stay : (List (List ℕ) → Bool) → List (List ℕ) → History → Type 0
Stay are records history = (image : List ℕ) → MayLeave history image
    → (kept : List (List ℕ)) × (records_in are image ≡ Some kept) × Continue records kept
