-- What holds of a role's records, and of a journal over every list of inits, faults and crashes.
use Rattle.std.specs.Prelude.{◌≡◌, ◌+◌, ◌≤◌, ◌⊎◌, ℕ, Bool, true, false, List, [], ◌∷◌, ◌++◌, length, Option, Some, Err}
use Rattle.crash_disk.specs.Disk.{asks_length, with_call, History, fresh_history, content, MayLeave, FaultPlan}
use Rattle.crash_disk.specs.Calls.{Course, passed, after_course}
use Rattle.gate_journal.specs.Image.{most}
use Rattle.gate_journal.specs.Journal.{Keeps}
use Rattle.node_journal.specs.Role.{Kinds, are_of, may_follow}
use Rattle.gate_journal.specs.declared.refusal.InitRefusal.TheVariants.{AlreadyMade}
use Rattle.node_journal.specs.Begin.{is_taken, journal_steps, init_steps, HoldsAsBefore, BeginsPair}

-- records of a role and one that may follow them are of the role
abbrev pub NotesFollow : Type 0
NotesFollow = (kinds : Kinds) (records : List (List ℕ)) (body : List ℕ)
    → are_of kinds records ≡ true → may_follow kinds records body ≡ true → are_of kinds (records ++ body ∷ []) ≡ true

-- an init makes at most sixteen device calls, with the one that asks for the length
abbrev pub InitsMakeFewCalls : Type 0
InitsMakeFewCalls = (identity image : List ℕ) → length (init_steps identity image) + 1 ≤ 16

-- each image that a crash now may leave has P
abbrev pub EachImage : History → (List ℕ → Type 0) → Type 0
EachImage history P = (image : List ℕ) → MayLeave history image → P image

-- what is done with a disk: it is asked for its length, and the call fails or not; an empty journal is made or opened; a
-- journal is begun, or begun again; and what befalls it: a crash, which left this image
pub data InitEvent : Type 0 where
  asks : Bool → InitEvent
  prepares : Course → InitEvent
  begins : Course → InitEvent
  crashes : List ℕ → InitEvent

-- the disk after an event
abbrev pub after_event : List ℕ → InitEvent → History → History
after_event identity (asks failed) history = with_call asks_length failed history
after_event identity (prepares course) history = after_course course (journal_steps (content history)) history
after_event identity (begins course) history = after_course course (init_steps identity (content history)) history
after_event identity (crashes image) history = fresh_history image

-- which events may come: a crash only with an image that the disk model allows
abbrev pub MayCome : InitEvent → History → Type 0
MayCome (crashes image) history = MayLeave history image
MayCome event history = Unit {0}

-- the disk after events, the newest first
unfoldable pub after_events : List ℕ → History → List InitEvent → History
after_events identity start [] = start
after_events identity start (event ∷ events) = after_event identity event (after_events identity start events)

-- each of the events, the newest first, may come
unfoldable pub MayAllCome : List ℕ → History → List InitEvent → Type 0
MayAllCome identity start [] = Unit {0}
MayAllCome identity start (event ∷ events) =
    MayAllCome identity start events × MayCome event (after_events identity start events)

-- The image can be begun: it is no journal and has at most five bytes, or it spells no record. Or it spells the
-- identity alone.
abbrev pub IsUntakenOrBegun : List ℕ → List ℕ → Type 0
IsUntakenOrBegun identity image = (is_taken image ≡ false) ⊎ Keeps (identity ∷ []) image

-- A disk each of whose images can be begun, or spells the identity alone, stays so whatever comes. So an init that was
-- stopped may be repeated.
abbrev pub InitsMayBeRepeated : Type 0
InitsMayBeRepeated = (identity : List ℕ) (disk : History) (events : List InitEvent) → length identity ≤ most
    → EachImage disk (IsUntakenOrBegun identity) → MayAllCome identity disk events
    → EachImage (after_events identity disk events) (IsUntakenOrBegun identity)

-- after an init of it that isn't stopped each image spells the identity alone
abbrev pub InitsEndBegun : Type 0
InitsEndBegun = (identity : List ℕ) (disk : History) (events : List InitEvent) → length identity ≤ most
    → EachImage disk (IsUntakenOrBegun identity) → MayAllCome identity disk events
    → EachImage (after_event identity (begins passed) (after_events identity disk events)) (Keeps (identity ∷ []))

-- What a crash leaves of a making or opening of an empty journal, however it went: what it could have left before, or
-- an image that can be begun.
abbrev pub StoppedPreparations : Type 0
StoppedPreparations = (history : History) (course : Course)
    → EachImage (after_course course (journal_steps (content history)) history)
    (λ image. MayLeave history image ⊎ (is_taken image ≡ false))

-- Where all its calls passed over an image that can be begun, each image spells no record.
abbrev pub PreparedJournalsAreEmpty : Type 0
PreparedJournalsAreEmpty = (history : History) → is_taken (content history) ≡ false
    → EachImage (after_course passed (journal_steps (content history)) history) (Keeps [])

-- An init of notes and leaves that is refused since an image is taken leaves both as they were, where the notes' disk and
-- the leaves' tell their history. They foretell their faults too, and count them.
abbrev pub RefusedPairsStay : {D E : Type 0} → (D → Option History) → (D → Option FaultPlan) → (D → ℕ)
    → (E → Option History) → (E → Option FaultPlan) → (E → ℕ) → Type 0
RefusedPairsStay {D = D} {E = E} told plan faults leaves_told leaves_plan leaves_faults =
    (identity : List ℕ) (notes new_notes : D) (leaves new_leaves : E) (count : ℕ) (before : History)
    → told notes ≡ Some before
    → BeginsPair told plan faults leaves_told leaves_plan leaves_faults identity notes leaves (Err (AlreadyMade count))
    new_notes new_leaves
    → HoldsAsBefore (told notes) (told new_notes) × HoldsAsBefore (leaves_told leaves) (leaves_told new_leaves)
