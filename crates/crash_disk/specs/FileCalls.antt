-- The calls that a disk makes of a file, and what a file that tells holds after them.
use Rattle.std.specs.Prelude.{◌≡◌, ◌<◌, ℕ, zero, suc, Bool, true, false, ◌&&◌, ◌||◌, not, if◌then◌else◌, List, [], ◌∷◌, length, Option, Some, option_map, Result, Ok, Err}
use Rattle.crash_disk.specs.Disk.{Step, asks_length, reads, writes, syncs, DeviceCall, History, with_write}

-- What a call asks of a file: to take it, where it is there, and whether it is; to make it where it is missing; whether
-- so many bytes from a place on end within the greatest place; its length; whether it reaches to a place; bytes, by
-- place and length; a write, by place and bytes; to let its bytes last through a crash; its folder; to let its name
-- last; the mark of a sync that failed; and whether it is still the one at its path, held alone.
pub data FileAsk : Type 0 where
  finds : Bool → FileAsk
  makes : FileAsk
  fits : ℕ → ℕ → FileAsk
  measures : FileAsk
  reaches : ℕ → FileAsk
  gets : ℕ → ℕ → FileAsk
  puts : ℕ → List ℕ → FileAsk
  syncs_bytes : FileAsk
  opens_folder : FileAsk
  syncs_name : FileAsk
  marks : FileAsk
  looks : FileAsk

-- a call of a file, and whether it failed
pub record FileCall : Type 0 where
  pub ask : FileAsk
  pub failed : Bool

-- the calls with one more, the newest first
abbrev pub asked : FileAsk → Bool → List FileCall → List FileCall
asked ask failed calls = record { ask = ask; failed = failed } ∷ calls

-- what a look for a file answers, and nothing where it failed
abbrev pub was_there : {E : Type 0} → Result Bool E → Bool
was_there (Ok there) = there
was_there (Err e) = false

-- no call failed
abbrev pub all_passed : List FileCall → Bool
all_passed [] = true
all_passed (call ∷ calls) = not call.failed && all_passed calls

-- the bytes after a call
abbrev pub bytes_after : FileAsk → List ℕ → List ℕ
bytes_after (puts place bytes) old = with_write old place bytes
bytes_after ask old = old

-- what a file holds that began with these bytes, after calls that all passed
abbrev pub holds : List ℕ → List FileCall → List ℕ
holds began [] = began
holds began (call ∷ calls) = bytes_after call.ask (holds began calls)

-- what stands of the bytes of a file, where it tells with which it began
abbrev pub WhereHeld : Option (List ℕ) → List FileCall → (List ℕ → Type 0) → Type 0
WhereHeld began calls P = (image : List ℕ) → began ≡ Some image → P (holds image calls)

-- Of a file that tells with which bytes it began no call has failed.
abbrev pub AllPassed : Option (List ℕ) → List FileCall → Type 0
AllPassed began calls = (image : List ℕ) → began ≡ Some image → all_passed calls ≡ true

-- One call was made, which failed or passed. A file that tells passes none behind one that failed.
pub record Noted {F : Type 0} (done : F → List FileCall) (began : F → Option (List ℕ)) (ask : FileAsk) (failed : Bool)
    (old new : F) : Type 0 where
  pub calls : done new ≡ asked ask failed (done old)
  pub stays : began new ≡ began old
  pub goes_on : failed ≡ false → AllPassed (began old) (done old)

abbrev pub is_look : FileAsk → Bool
is_look looks = true
is_look ask = false

-- A look passed, with which a sync ends: the file's name lasts through a crash.
abbrev pub has_name : List FileCall → Bool
has_name [] = false
has_name (call ∷ calls) = is_look call.ask && not call.failed || has_name calls

abbrev pub is_sync_ask : FileAsk → Bool
is_sync_ask syncs_bytes = true
is_sync_ask syncs_name = true
is_sync_ask ask = false

-- what is asked of a file that is there for a sync, where its name lasts or may be lost yet
abbrev pub sync_asks : Bool → List FileAsk
sync_asks true = syncs_bytes ∷ looks ∷ []
sync_asks false = opens_folder ∷ syncs_bytes ∷ syncs_name ∷ looks ∷ []

-- what is asked of a file for a device call, where the file is there or isn't, and its name lasts or may be lost yet
abbrev pub asks_of : Step → Bool → Bool → List FileAsk
asks_of asks_length there named = finds there ∷ measures ∷ []
asks_of (reads place count) there named = finds there ∷ gets place count ∷ []
asks_of (writes place bytes) there named =
    fits place (length bytes) ∷ makes ∷ reaches place ∷ puts place bytes ∷ []
asks_of syncs false named = finds false ∷ []
asks_of syncs true named = finds true ∷ sync_asks named

-- the calls, of which the first so many passed and the next one, where there is one, failed
abbrev pub went : ℕ → List FileAsk → List FileCall → List FileCall
went count [] calls = calls
went zero (ask ∷ asks) calls = asked ask true calls
went (suc count) (ask ∷ asks) calls = went count asks (asked ask false calls)

-- behind a sync that failed the file is marked
abbrev pub marked : List FileCall → List FileCall
marked [] = []
marked (call ∷ calls) =
    if is_sync_ask call.ask && call.failed then asked marks false (call ∷ calls) else call ∷ calls

-- These calls and no other were made in this order: all of them passed, or up to the first that failed, with the mark
-- behind it where it was a sync.
abbrev pub Asked : List FileAsk → Bool → List FileCall → List FileCall → Type 0
Asked asks false old new = new ≡ went (length asks) asks old
Asked asks true old new = (count : ℕ) × (count < length asks) × (new ≡ marked (went count asks old))

-- the calls of a file that one device call makes, which passed or failed
abbrev pub Makes : Step → Bool → List FileCall → List FileCall → Type 0
Makes step failed old new = (there : Bool) × Asked (asks_of step there (has_name old)) failed old new

-- The calls of a file are those of these device calls, and no other.
abbrev pub AreFor : List DeviceCall → List FileCall → Type 0
AreFor [] files = files ≡ []
AreFor (call ∷ calls) files =
    (earlier : List FileCall) × AreFor calls earlier × Makes call.step call.failed earlier files

-- What a disk over a file keeps: the file's calls are those of its device calls, and it knows whether the name lasts.
pub record Keeps (past : History) (is_named : Bool) (files : List FileCall) : Type 0 where
  pub made : ∥ AreFor past.calls files ∥₁
  pub named : is_named ≡ has_name files

-- what a disk tells over a file: with what the file began, where it tells that, and the device calls since
abbrev pub told_of : Option (List ℕ) → History → Option History
told_of began past = option_map (λ image. record { began = image; calls = past.calls }) began

-- what proofs know of a file: the bytes that it began with, whether it was there, and the calls since, the newest first
pub record FilePast : Type 0 where
  pub began : List ℕ
  pub was_there : Bool
  pub calls : List FileCall
