-- How writes are undone, the newest first, from what they replaced.
use Rattle.std.specs.Prelude.{ℕ, zero, suc, ◌+◌, ◌<◌, ◌≤◌, List, ◌++◌, length, take, drop, get_or, slice_index}

-- the bytes before a write of a range, which replaced these
abbrev pub before_write : ℕ × ℕ → List ℕ → List ℕ → List ℕ
before_write range replaced bytes = take range.0 bytes ++ replaced ++ drop (range.0 + range.1) bytes

-- A write of a range may have replaced these bytes, and as many as it wrote, unless the bytes end with it.
pub record IsReplaced (range : ℕ × ℕ) (replaced bytes : List ℕ) : Type 0 where
  pub within : range.0 + length replaced ≤ length bytes
  pub no_longer : length replaced ≤ range.1
  pub ends : length replaced < range.1 → length bytes ≤ range.0 + range.1

-- The bytes before the first so many writes, by their ranges; what each replaced starts at its place in the list of all
-- that they replaced.
abbrev pub undone : ℕ → List (ℕ × ℕ) → List ℕ → List ℕ → List ℕ → List ℕ
undone zero ranges starts replaced bytes = bytes
undone (suc count) ranges starts replaced bytes =
    undone count ranges starts (take (slice_index starts count) replaced)
    (before_write (get_or ranges count (0, 0)) (drop (slice_index starts count) replaced) bytes)

-- each of them may have replaced what is kept of it
abbrev pub IsUndoable : ℕ → List (ℕ × ℕ) → List ℕ → List ℕ → List ℕ → Type 0
IsUndoable zero ranges starts replaced bytes = Unit {0}
IsUndoable (suc count) ranges starts replaced bytes =
    (slice_index starts count ≤ length replaced)
    × IsReplaced (get_or ranges count (0, 0)) (drop (slice_index starts count) replaced) bytes
    × IsUndoable count ranges starts (take (slice_index starts count) replaced)
    (before_write (get_or ranges count (0, 0)) (drop (slice_index starts count) replaced) bytes)
