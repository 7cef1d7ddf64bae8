-- A file in memory: which of its calls fail, and what they leave.
use Rattle.std.specs.Prelude.{◌≡◌, ℕ, ◌+◌, ◌-◌, ◌^◌, Bool, true, false, not, ◌&&◌, ◌||◌, nat_le, nat_lt, if◌then◌else◌, List, [], ◌∷◌, length, Option, Some, option_map}
use Rattle.crash_disk.specs.Disk.{is_spent, with_write}
use Rattle.crash_disk.specs.FileCalls.{FileAsk, finds, makes, fits, reaches, gets, puts, syncs_bytes, syncs_name, marks, looks, FileCall, FilePast, asked, all_passed, holds}

-- the bytes that it began with, and the calls since, the newest first; whether it is there, and its name kept; its
-- bytes; and how many further calls may pass, where that is limited
pub record FileState : Type 0 where
  pub began : List ℕ
  pub calls : List FileCall
  pub there : Bool
  pub named : Bool
  pub bytes : List ℕ
  pub fuse : Option ℕ

-- what a file can do that is there or missing, with these bytes
abbrev pub can : FileAsk → Bool → List ℕ → Bool
can (fits place count) there bytes = nat_lt (place + count) (2 ^ 64)
can (reaches place) there bytes = there && nat_le place (length bytes)
can (gets place count) there bytes = nat_le (place + count) (length bytes)
can (puts place new) there bytes = there && nat_le place (length bytes)
can syncs_bytes there bytes = there
can syncs_name there bytes = there
can looks there bytes = there
can ask there bytes = true

-- a call fails once no more may pass, and where the file can't do what it asks
abbrev pub fails : FileAsk → FileState → Bool
fails ask file = is_spent file.fuse || not (can ask file.there file.bytes)

-- how many may pass after a call: none behind one that failed
abbrev pub fuse_after : Bool → Option ℕ → Option ℕ
fuse_after failed fuse = if failed then Some 0 else option_map (λ calls. calls - 1) fuse

-- a file is there once it was made, and its name is kept once that was synced
abbrev pub there_after : FileAsk → Bool → Bool → Bool
there_after makes failed there = not failed || there
there_after ask failed there = there

abbrev pub named_after : FileAsk → Bool → Bool → Bool
named_after syncs_name failed named = not failed || named
named_after ask failed named = named

-- a write that failed leaves the bytes
abbrev pub written : FileAsk → Bool → List ℕ → List ℕ
written (puts place new) failed bytes = if failed then bytes else with_write bytes place new
written ask failed bytes = bytes

-- the file after a call that passed or failed
abbrev pub after : FileAsk → Bool → FileState → FileState
after ask failed file = record {
  began = file.began;
  calls = asked ask failed file.calls;
  there = there_after ask failed file.there;
  named = named_after ask failed file.named;
  bytes = written ask failed file.bytes;
  fuse = fuse_after failed file.fuse;
}

-- the file with a mark, which takes no call from those that may pass
abbrev pub with_mark : FileState → FileState
with_mark file = record file { calls = asked marks false file.calls }

-- As long as no call failed, the bytes are those that the calls left.
abbrev pub AreHeld : FilePast → List ℕ → Type 0
AreHeld past bytes = all_passed past.calls ≡ true → bytes ≡ holds past.began past.calls

-- whether a file is there after calls, which was there before them or missing
abbrev pub stands : Bool → List FileCall → Bool
stands there [] = there
stands there (call ∷ calls) = there_after call.ask call.failed (stands there calls)

-- a look for a file that is there or missing says so, unless it fails
abbrev pub says : Bool → FileAsk → Bool → Bool
says there (finds said) failed = failed || (if there then said else not said)
says there ask failed = true

-- each look for the file said whether it was there
abbrev pub tells_there : Bool → List FileCall → Bool
tells_there there [] = true
tells_there there (call ∷ calls) = says (stands there calls) call.ask call.failed && tells_there there calls

-- whether the file's name was synced
abbrev pub is_kept : List FileCall → Bool
is_kept [] = false
is_kept (call ∷ calls) = named_after call.ask call.failed (is_kept calls)
