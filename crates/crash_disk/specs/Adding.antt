-- What a disk over a file is asked, and what the file is asked, where bytes are added behind those that it holds.
use Rattle.std.specs.Prelude.{ℕ, Bool, true, false, List, [], ◌∷◌, length}
use Rattle.crash_disk.specs.Disk.{asks_length, writes, syncs, DeviceCall}
use Rattle.crash_disk.specs.FileCalls.{FileAsk, finds, makes, fits, measures, reaches, puts, syncs_bytes, opens_folder, syncs_name, looks, FileCall, went}

-- the device calls, the newest first: the length, a write and a sync, of which none failed
abbrev pub added_calls : ℕ → List ℕ → List DeviceCall
added_calls place bytes =
    record { step = syncs; failed = false } ∷ record { step = writes place bytes; failed = false }
    ∷ record { step = asks_length; failed = false } ∷ []

-- the file's calls, the oldest first: its length, the write at the place, the sync of its bytes, and that of its name
abbrev pub added_asks : Bool → ℕ → List ℕ → List FileAsk
added_asks there place bytes =
    finds there ∷ measures ∷ fits place (length bytes) ∷ makes ∷ reaches place ∷ puts place bytes ∷ finds true
    ∷ opens_folder ∷ syncs_bytes ∷ syncs_name ∷ looks ∷ []

-- these calls, of which none failed, the newest first
abbrev pub all_made : List FileAsk → List FileCall
all_made asks = went (length asks) asks []
