-- What a take does to the bytes that a source has left, and a put to those that a sink has taken, where these are told.
use Rattle.std.specs.Prelude.{◌≡◌, ◌↔◌, ℕ, ◌≤◌, Bool, true, false, ◌==◌, if◌then◌else◌, List, [], ◌++◌, length, take, drop, Option, Some, None, Result, Ok, Err}
use Rattle.plasma_base.specs.Causes.{counted}
use Rattle.plasma_outside.specs.declared.source.SourceFailed.{SourceFailed}
use Rattle.plasma_outside.specs.declared.sink.SinkRefusal.{SinkRefusal}
use Rattle.plasma_outside.specs.declared.sink.SinkRefusal.TheVariants.{Failed, NoMemory}

-- a take gave n of these bytes, at the beginning of the room: at most as many as there are, and none only at the end
-- of the input
pub record Took (bytes : List ℕ) (left : Option (List ℕ)) (n : ℕ) (room : List ℕ) : Type 0 where
  pub within : n ≤ length bytes
  pub given : take n room ≡ take n bytes
  pub rest : left ≡ Some (drop n bytes)
  pub end : (n ≡ 0) ↔ (bytes ≡ [])

-- a take from the bytes that are left; an error takes none, and what isn't told stays so
abbrev pub Takes : {E : Type 0} → Option (List ℕ) → Option (List ℕ) → Result ℕ E → List ℕ → Type 0
Takes None left result room = left ≡ None
Takes (Some bytes) left (Ok n) room = Took bytes left n room
Takes (Some bytes) left (Err e) room = left ≡ Some bytes

-- how many takes gave the end of the input, after one more
abbrev pub ends_after : ℕ → Result ℕ SourceFailed → ℕ
ends_after ends (Ok n) = if n == 0 then counted ends else ends
ends_after ends (Err e) = ends

-- how many bytes a take gave
abbrev pub given_by : Result ℕ SourceFailed → ℕ
given_by (Ok n) = n
given_by (Err e) = 0

-- a put behind the bytes that were taken; an error leaves a beginning of its bytes, and what isn't told stays so
abbrev pub Puts : {T E : Type 0} → Option (List ℕ) → Option (List ℕ) → Result T E → List ℕ → Type 0
Puts None taken result bytes = taken ≡ None
Puts (Some before) taken (Ok done) bytes = taken ≡ Some (before ++ bytes)
Puts (Some before) taken (Err e) bytes = (n : ℕ) × (taken ≡ Some (before ++ take n bytes))

-- whether a refusal is a fault of the sink; want of memory is none
abbrev pub is_sink_fault : SinkRefusal → Bool
is_sink_fault Failed = true
is_sink_fault NoMemory = false

-- whether the sink failed
abbrev pub is_failed : {T : Type 0} → Result T SinkRefusal → Bool
is_failed (Ok done) = false
is_failed (Err refusal) = is_sink_fault refusal
