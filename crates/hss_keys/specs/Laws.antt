-- What holds of a journal of a two-level signer over every list of makings, openings, advances, binds, faults and
-- crashes. An advance and a bind are appends.
use Rattle.std.specs.Prelude.{◌≡◌, ◌≢◌, ℕ, true, if◌then◌else◌, List, [], ◌∷◌, ◌++◌, length, Some, Ok, Err}
use Rattle.std.specs.Option.{unwrap_or}
use Rattle.crash_disk.specs.{Disk.{History, content, MayLeave}, Calls.{with_made}, Outcomes.{image_after, HasPattern}, declared.outcome.Outcome.{Outcome}}
use Rattle.gate_journal.specs.{Image.{spelled}, Steps.{append_steps}, Journal.{IsSettled}, Laws.{is_added}, Life.{Event, Life, shut, after_events, MayAllCome, Continue, Stay}}
use Rattle.hss_keys.specs.{declared.seed.HssSeed.{HssSeed}, declared.entry.Entry.{Entry}, Entries.{entry_text, entries_of, IsEntry}, Form.{entry_may_follow, level_records, level_records_in, are_level_records}}
use Rattle.hss_keys.specs.Levels.{HssBoundState, KeepsBound}

-- the life of a journal of this signer after events, the newest first, from a disk on which it isn't open
abbrev pub life_after : HssSeed → History → List Event → Life
life_after seed disk events = after_events (are_level_records seed) (shut disk) events

-- each of the events may come: records that are appended may follow those before them
abbrev pub MayCome : HssSeed → History → List Event → Type 0
MayCome seed disk events = MayAllCome (are_level_records seed) (shut disk) events

-- a node has this bound: its journal keeps the bottom key at the top leaf, and the message at the bottom leaf
abbrev pub HasBound : Life → HssBoundState → Type 0
HasBound life bound = KeepsBound (unwrap_or life.records []) bound

-- No leaf of either level signs two messages: of two bounds, which nodes have at any two times, those of one top leaf
-- have one bottom key, and those of one top leaf and one bottom leaf have one message.
abbrev pub NoLeafSignsTwoMessages : Type 0
NoLeafSignsTwoMessages = (seed : HssSeed) (disk : History) (earlier later : List Event) (one other : HssBoundState)
    → MayCome seed disk (later ++ earlier)
    → HasBound (life_after seed disk earlier) one → HasBound (life_after seed disk (later ++ earlier)) other
    → one.top_leaf ≡ other.top_leaf
    → (one.bottom ≡ other.bottom) × (one.leaf ≡ other.leaf → one.message ≡ other.message)

-- Once a node has some records they stay: each image of a crash keeps them, and so does every node that opens the
-- journal later.
abbrev pub BoundsStay : Type 0
BoundsStay = (seed : HssSeed) (disk : History) (earlier later : List Event) (records : List (List ℕ))
    → MayCome seed disk (later ++ earlier)
    → (life_after seed disk earlier).records ≡ Some records
    → (let now = life_after seed disk (later ++ earlier) in
    ((image : List ℕ) → MayLeave now.history image
    → (kept : List (List ℕ)) × (level_records_in seed image ≡ Ok kept) × Continue records kept)
    × ((others : List (List ℕ)) → now.records ≡ Some others → Continue records others))

-- what records keep, those that continue them keep
abbrev pub KeptBoundsStay : Type 0
KeptBoundsStay = (records later : List (List ℕ)) (bound : HssBoundState)
    → Continue records later → KeepsBound records bound → KeepsBound later bound

-- where each image of a crash is a journal of this signer, it stays so whatever comes, and no opening finds another
abbrev pub LevelJournalsStay : Type 0
LevelJournalsStay = (seed : HssSeed) (disk : History) (earlier later : List Event)
    → MayCome seed disk (later ++ earlier)
    → Stay (are_level_records seed) [] (life_after seed disk earlier).history
    → (let now = (life_after seed disk (later ++ earlier)).history in
    Stay (are_level_records seed) [] now × ((place : ℕ) → level_records_in seed (content now) ≢ Err place))

-- An advance, or a bind, of which the first calls pass and, below four, the next one fails: the image that an outcome
-- leaves has the new entry exactly where the record is added, and else those that there were.
abbrev pub StoppedLevelAppends : Type 0
StoppedLevelAppends = (seed : HssSeed) (history : History) (records : List (List ℕ)) (entry : Entry) (count : ℕ)
    (outcome : Outcome)
    → IsSettled history records → level_records seed records ≡ Ok records
    → IsEntry entry → entry_may_follow seed (entries_of records) entry ≡ true → HasPattern outcome
    → (let image = image_after outcome
    (with_made count (append_steps (length (spelled records)) (entry_text entry)) history) in
    (kept : List (List ℕ)) × (level_records_in seed image ≡ Ok kept)
    × (entries_of kept ≡ (if is_added count outcome then entries_of records ++ entry ∷ [] else entries_of records)))
