-- The device calls of a journal that is open, and of its opening.
use Rattle.std.specs.Prelude.{ℕ, ◌+◌, List, [], ◌∷◌, ◌++◌, length}
use Rattle.std.specs.Int.{w32, to_be_bytes}
use Rattle.crash_disk.specs.Disk.{Step, asks_length, reads, writes, syncs}

-- what is written behind the closed gate: the body's length, the body and a closed gate
abbrev pub frame_of : List ℕ → List ℕ
frame_of body = to_be_bytes w32 (length body) ++ body ++ 0 ∷ []

-- bytes behind the gate, made durable, and then the open gate, made durable
abbrev pub steps_at : ℕ → List ℕ → List Step
steps_at gate bytes = writes (gate + 1) bytes ∷ syncs ∷ writes gate (165 ∷ []) ∷ syncs ∷ []

-- an append at the closed gate
abbrev pub append_steps : ℕ → List ℕ → List Step
append_steps gate body = steps_at gate (frame_of body)

-- an opening of a disk that holds this
abbrev pub open_steps : List ℕ → List Step
open_steps image = syncs ∷ asks_length ∷ reads 0 (length image) ∷ []
