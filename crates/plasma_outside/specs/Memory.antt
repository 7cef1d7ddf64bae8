-- Inputs and outputs in memory, and what each call of theirs does.
use Rattle.std.specs.Prelude.{ℕ, ◌+◌, min, Bool, true, false, ◌==◌, if◌then◌else◌, List, ◌++◌, length, drop, slice_index_or, Result, Ok, Err}
use Rattle.std.specs.List.{list_any}
use Rattle.plasma_base.specs.Causes.{counted}
use Rattle.plasma_outside.specs.declared.sink.SinkRefusal.{SinkRefusal}
use Rattle.plasma_outside.specs.declared.sink.SinkRefusal.TheVariants.{Failed, NoMemory}
use Rattle.plasma_outside.specs.Outside.{ends_after}

-- an input: the bytes that are left, the length of each call's piece, the numbers of the calls that are to fail, how
-- many calls and faults there were, how many calls gave the end, whether the last one failed, and how many bytes it
-- gave
pub record MemInput : Type 0 where
  pub bytes : List ℕ
  pub pieces : List ℕ
  pub fails : List ℕ
  pub calls : ℕ
  pub faults : ℕ
  pub ends : ℕ
  pub failed_last : Bool
  pub given_last : ℕ

-- an output: the bytes that it has taken, the numbers of the calls that are to fail, and how many calls and faults
-- there were
pub record MemOutput : Type 0 where
  pub bytes : List ℕ
  pub fails : List ℕ
  pub calls : ℕ
  pub faults : ℕ

-- whether the call after so many is to fail: its number, counted from 1, is on the list
abbrev pub is_to_fail : List ℕ → ℕ → Bool
is_to_fail fails calls = list_any (λ number. number == calls + 1) fails

-- how many bytes the next take gives: as many as the piece of its number says, or as the room and the rest allow where
-- that is fewer. Past the last piece it is as many as fit
abbrev pub bytes_given : MemInput → ℕ → ℕ
bytes_given input room = min (slice_index_or input.pieces input.calls room) (min room (length input.bytes))

-- the input after a take that failed: its bytes stay
abbrev pub after_failed_take : MemInput → MemInput
after_failed_take input =
    record input {
      calls = counted input.calls;
      faults = counted input.faults;
      failed_last = true;
      given_last = 0;
    }

-- the input after a take that gave so many bytes
abbrev pub after_good_take : MemInput → ℕ → MemInput
after_good_take input n =
    record input {
      calls = counted input.calls;
      bytes = drop n input.bytes;
      ends = ends_after input.ends (Ok n);
      failed_last = false;
      given_last = n;
    }

-- the input after a take into so much room
abbrev pub after_take : MemInput → ℕ → MemInput
after_take input room =
    if is_to_fail input.fails input.calls then after_failed_take input
    else after_good_take input (bytes_given input room)

-- the output after a put that was answered so
abbrev pub after_put : MemOutput → List ℕ → Result Unit SinkRefusal → MemOutput
after_put output bytes (Ok done) = record output { calls = counted output.calls; bytes = output.bytes ++ bytes }
after_put output bytes (Err Failed) = record output { calls = counted output.calls; faults = counted output.faults }
after_put output bytes (Err NoMemory) = output
