-- Counts of faults. A source, a sink or a disk counts its own: each call that fails counts one, and no other call any.
use Rattle.std.specs.Prelude.{ℕ, ◌+◌, ◌-◌, ◌^◌, min, Bool, if◌then◌else◌}

-- a count after one more fault: it stops at the last number of 64 bits
abbrev pub counted : ℕ → ℕ
counted count = min (count + 1) (2 ^ 64 - 1)

-- a count of faults after a call that failed, or didn't
abbrev pub faults_after : ℕ → Bool → ℕ
faults_after faults failed = if failed then counted faults else faults
