-- What befalls a wallet's leaves over every list of inits, openings, commands, faults and crashes of its two disks.
use Rattle.std.specs.Prelude.{◌≡◌, ℕ, List, [], ◌∷◌, ◌++◌, Some}
use Rattle.std.specs.List.{flat_map}
use Rattle.crash_disk.specs.{Disk.{History}, Calls.{Course}}
use Rattle.gate_journal.specs.Life.{Event, makes, opens, appends, crashes}
use Rattle.leaf_journal.specs.Laws.{MayCome, life_after, message_at}

-- What is done with a wallet's two disks, and how it went on each: an init, which on the leaves' disk makes a journal
-- and opens it; an opening; a command that adds this note, or this record of a leaf; a crash, and the images that it
-- left of the notes and of the leaves.
pub data Deed : Type 0 where
  inits : Course → Course → Course → Deed
  opens_both : Course → Course → Deed
  adds_note : List ℕ → Course → Deed
  adds_leaf : List ℕ → Course → Deed
  crashes_both : List ℕ → List ℕ → Deed

-- what the leaves' journal sees of it, the newest first; nothing of a note
abbrev pub leaf_events : Deed → List Event
leaf_events (inits notes making opening) = opens opening ∷ makes making ∷ []
leaf_events (opens_both notes leaves) = opens leaves ∷ []
leaf_events (adds_note body course) = []
leaf_events (adds_leaf body course) = appends body course ∷ []
leaf_events (crashes_both notes leaves) = crashes leaves ∷ []

-- what it sees of deeds, the newest first
abbrev pub events_of : List Deed → List Event
events_of deeds = flat_map leaf_events deeds

-- A leaf of a wallet has one message: what a node has at one time, and so may sign, and what one has at any later time,
-- whatever was done with both disks in between. The records that commands add may follow those before them.
abbrev pub AWalletsLeafHasOneMessage : Type 0
AWalletsLeafHasOneMessage = (leaves : ℕ) (disk : History) (earlier later : List Deed) (leaf : ℕ) (one other : List ℕ)
    → MayCome leaves disk (events_of (later ++ earlier))
    → message_at (life_after leaves disk (events_of earlier)) leaf ≡ Some one
    → message_at (life_after leaves disk (events_of (later ++ earlier))) leaf ≡ Some other
    → one ≡ other
