-- What holds of a journal of leaves over every list of makings, openings, binds, migrations, faults and crashes. A
-- bind and a migration are appends: of the record that binds a message to the next leaf, and of the marker.
use Rattle.std.specs.Prelude.{◌≡◌, ◌↔◌, ◌≢◌, ◌<◌, ℕ, Bool, if◌then◌else◌, List, [], ◌∷◌, ◌++◌, length, Option, Some, Ok, Err, false}
use Rattle.std.specs.Option.{option_and_then}
use Rattle.std.specs.List.{slice_get}
use Rattle.crash_disk.specs.Disk.{History, content, MayLeave}
use Rattle.crash_disk.specs.Calls.{with_made}
use Rattle.crash_disk.specs.Outcomes.{image_after, HasPattern}
use Rattle.crash_disk.specs.declared.outcome.Outcome.{Outcome}
use Rattle.gate_journal.specs.Image.{spelled}
use Rattle.gate_journal.specs.Steps.{append_steps}
use Rattle.gate_journal.specs.Journal.{IsSettled}
use Rattle.gate_journal.specs.Laws.{is_added}
use Rattle.gate_journal.specs.Life.{Event, Life, shut, after_events, MayAllCome, Continue, Stay}
use Rattle.leaf_journal.specs.Records.{are_leaf_records, binding_record, is_marked, leaf_records, leaf_records_in, leaf_records_in_of, marker, MayBind, MessagesPass, messages_of}

-- the life of a journal of so many leaves after events, the newest first, from a disk on which it isn't open
abbrev pub life_after : ℕ → History → List Event → Life
life_after leaves disk events = after_events (are_leaf_records leaves) (shut disk) events

-- each of the events may come: records that are appended may follow those before them
abbrev pub MayCome : ℕ → History → List Event → Type 0
MayCome leaves disk events = MayAllCome (are_leaf_records leaves) (shut disk) events

-- the message that a leaf is bound to, as a node has it
abbrev pub message_at : Life → ℕ → Option (List ℕ)
message_at life leaf = option_and_then (λ records. slice_get (messages_of records) leaf) life.records

-- a leaf has one message, before the marker and behind it: what a node has at one time, and what one has at any later
-- time
abbrev pub ALeafHasOneMessage : Type 0
ALeafHasOneMessage = (leaves : ℕ) (disk : History) (earlier later : List Event) (leaf : ℕ) (one other : List ℕ)
    → MayCome leaves disk (later ++ earlier)
    → message_at (life_after leaves disk earlier) leaf ≡ Some one
    → message_at (life_after leaves disk (later ++ earlier)) leaf ≡ Some other
    → one ≡ other

-- Once a node has some records, their messages stay at their leaves whatever comes: each image of a crash has them,
-- and so does every node that has records later.
abbrev pub BoundMessagesStay : Type 0
BoundMessagesStay = (leaves : ℕ) (disk : History) (earlier later : List Event) (records : List (List ℕ))
    → MayCome leaves disk (later ++ earlier)
    → (life_after leaves disk earlier).records ≡ Some records
    → (let now = life_after leaves disk (later ++ earlier) in
    ((image : List ℕ) → MayLeave now.history image
    → (kept : List (List ℕ)) × (leaf_records_in leaves image ≡ Ok kept)
    × Continue (messages_of records) (messages_of kept))
    × ((others : List (List ℕ)) → now.records ≡ Some others → Continue (messages_of records) (messages_of others)))

-- where each image of a crash is a journal of these leaves, it stays so whatever comes, and no opening finds another
abbrev pub MadeJournalsStay : Type 0
MadeJournalsStay = (leaves : ℕ) (disk : History) (earlier later : List Event)
    → MayCome leaves disk (later ++ earlier)
    → Stay (are_leaf_records leaves) [] (life_after leaves disk earlier).history
    → (let now = (life_after leaves disk (later ++ earlier)).history in
    Stay (are_leaf_records leaves) [] now × ((place : ℕ) → leaf_records_in leaves (content now) ≢ Err place))

-- A bind of which the first calls pass and, below four, the next one fails: the image that an outcome leaves binds
-- the leaf exactly where the record is added, and each other leaf as before.
abbrev pub StoppedBinds : Type 0
StoppedBinds = (leaves : ℕ) (history : History) (records : List (List ℕ)) (message : List ℕ) (count : ℕ)
    (outcome : Outcome)
    → IsSettled history records → leaf_records leaves records ≡ Ok records
    → MayBind records message → length (messages_of records) < leaves → HasPattern outcome
    → (let body = binding_record records message in
    let image = image_after outcome (with_made count (append_steps (length (spelled records)) body) history) in
    (kept : List (List ℕ)) × (leaf_records_in leaves image ≡ Ok kept)
    × (messages_of kept
    ≡ (if is_added count outcome then messages_of records ++ message ∷ [] else messages_of records)))

-- A migration that was stopped so: the marker is there exactly where its record is added, and each message stays.
abbrev pub StoppedMigrations : Type 0
StoppedMigrations = (leaves : ℕ) (history : History) (records : List (List ℕ)) (count : ℕ) (outcome : Outcome)
    → IsSettled history records → leaf_records leaves records ≡ Ok records
    → is_marked records ≡ false → HasPattern outcome
    → (let image = image_after outcome (with_made count (append_steps (length (spelled records)) marker) history) in
    (kept : List (List ℕ)) × (leaf_records_in leaves image ≡ Ok kept)
    × (messages_of kept ≡ messages_of records) × (is_marked kept ≡ is_added count outcome))

-- The records of an image whose messages pass a test are its records of leaves, where each message passes. So an
-- opening that asks for a kind refuses a journal of leaves only where it binds a message that isn't of the kind.
abbrev pub KindRecords : Type 0
KindRecords = (is_message : List ℕ → Bool) (leaves : ℕ) (image : List ℕ) (records : List (List ℕ))
    → (leaf_records_in_of is_message leaves image ≡ Ok records)
    ↔ ((leaf_records_in leaves image ≡ Ok records) × MessagesPass is_message records)
