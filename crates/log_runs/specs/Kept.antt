-- What is kept of a log in memory, by what its lines came to, and why a line isn't answered.
use Rattle.std.specs.Prelude.{◌≡◌, ℕ, Bool, true, false, List, ◌++◌, Option, Some, None, Ok, Err}
use Rattle.streamed_lines.specs.declared.ending.Stop.TheVariants.{BadLine, Ends}
use Rattle.streamed_lines.specs.declared.ending.Halt.{Halt}
use Rattle.streamed_lines.specs.declared.ending.Halt.TheVariants.{Stops, Failed, NoMemory}
use Rattle.root_log.specs.Grammar.{TakesMemory, begins_as_chain}
use Rattle.log_runs.specs.Following.{LogRun, OrStop}

-- ---- why a line isn't answered

-- what a line spells isn't there, or memory ran out
abbrev pub SpellsNone : {T : Type 0} → Option T → Halt (List ℕ) → Type 0
SpellsNone spelled (Stops BadLine) = spelled ≡ None
SpellsNone spelled NoMemory = Unit {0}
SpellsNone spelled halt = ⊥

-- it is refused for this cause, or memory ran out
abbrev pub IsRefused : List ℕ → Halt (List ℕ) → Type 0
IsRefused cause (Stops stop) = stop ≡ Ends cause
IsRefused cause NoMemory = Unit {0}
IsRefused cause Failed = ⊥

-- it ends the run, or memory ran out
abbrev pub Halts : {T : Type 0} → OrStop T → Halt (List ℕ) → Type 0
Halts next (Stops stop) = next ≡ Err stop
Halts next NoMemory = Unit {0}
Halts next Failed = ⊥

-- nothing fails but for want of memory, and that where this holds
abbrev pub FailsOnly : Type 0 → Halt (List ℕ) → Type 0
FailsOnly Takes (Stops stop) = Unit {0}
FailsOnly Takes NoMemory = Takes
FailsOnly Takes Failed = ⊥

-- the next line may take memory: the first one where it begins as a chain, another one of the log as the log's grammar
-- says, and one behind the log where this holds of what lines came to
abbrev pub MayTakeMemory : {A : Type 0} → (A → List ℕ → Type 0) → Option A → Bool → List ℕ → Type 0
MayTakeMemory Behind None is_over line = begins_as_chain line ≡ true
MayTakeMemory Behind (Some at) false line = TakesMemory line
MayTakeMemory Behind (Some at) true line = Behind at line

-- ---- what is kept

module _ {K A : Type 0} (IsAt : K → A → Type 0) where
  -- a line behind the log was answered: it leaves this, and its answer stands behind the text
  pub record IsDone (next : OrStop (A × List ℕ)) (before after : List ℕ) (new : K) : Type 0 where
    pub left : A
    pub answer : List ℕ
    pub is : next ≡ Ok (left, answer)
    pub at : IsAt new left
    pub told : after ≡ before ++ answer

  -- nothing is kept before the first line
  abbrev pub AreAt : Option K → Option A → Type 0
  AreAt None None = Unit {0}
  AreAt (Some kept) (Some at) = IsAt kept at
  AreAt kept at = ⊥

  -- this is kept of the log, and it has ended or not, as the run says
  pub record IsRun (kept : Option K) (is_over : Bool) (run : LogRun A) : Type 0 where
    pub over_is : is_over ≡ run.is_over
    pub at_is : AreAt kept run.at
