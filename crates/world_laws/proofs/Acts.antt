-- In every run each line is an act: what is known of the next one, and induction over them.
use Rattle.world_laws.proofs.Basics.{◌≡◌, ℕ, List, [], ◌∷◌, Some, arith, common_steps}
use Rattle.world_laws.proofs.WorldWords.{Line, IsLine, Event, Idle, World, TraceEntry, entry_of, Run, events_of, run-kept, KeptWorld, world-feeds, begun, Act, act_of, done, IsActIn, acts_are_known, IsFitAct, act-fits, HasCome, line_effect, good_runs_keep, OperatorIsFirst, IsRun}
use Rattle.world_rules.proofs.Operators.{operator_is_first}

-- what is kept behind the events of every run
pub kept-world : (dig : List ℕ → List ℕ) (lines : List Line) (run : Run) (world : World) → IsRun dig lines run world
    → KeptWorld dig (events_of run.entries) world
kept-world dig lines run world is = run-kept dig is.digest lines run world is.lines_are is.run_is is.world_is

has-come : (dig : List ℕ → List ℕ) (lines : List Line) (run : Run) (world : World) → IsRun dig lines run world
    → HasCome dig IsLine lines run world
has-come dig lines run world is = record { lines_are = is.lines_are; run_is = is.run_is; world_is = is.world_is }

-- the operator is the first node alone
pub first-alone : (dig : List ℕ → List ℕ) (lines : List Line) (run : Run) (world : World) → IsRun dig lines run world
    → OperatorIsFirst world
first-alone dig lines run world is = operator_is_first dig IsLine lines run world (has-come dig lines run world is)

-- what is known of the act of a line in the grammar that follows a run
pub record IsNext (dig : List ℕ → List ℕ) (lines : List Line) (run : Run) (world : World) (line : Line) (act : Act)
    : Type 0 where
  pub run_is : IsRun dig lines run world
  pub line_is : IsLine line
  pub act_is : act_of world line ≡ Some act
  pub known : IsActIn world act
  pub fit : IsFitAct act
  pub kept : KeptWorld dig (events_of run.entries) world
  pub first : OperatorIsFirst world

pub is-next : (dig : List ℕ → List ℕ) (lines : List Line) (run : Run) (world : World) (line : Line) (act : Act)
    → IsRun dig lines run world → IsLine line → act_of world line ≡ Some act → IsNext dig lines run world line act
is-next dig lines run world line act run_is line_is act_is =
    let kept = kept-world dig lines run world run_is in record {
      run_is = run_is;
      line_is = line_is;
      act_is = act_is;
      known = acts_are_known world line act act_is;
      fit = act-fits world (world-feeds dig (events_of run.entries) world kept) line act line_is act_is;
      kept = kept;
      first = first-alone dig lines run world run_is;
    }

module _ (dig : List ℕ → List ℕ) (P : List TraceEntry → World → Type 0)
    (first : (tag operator most : ℕ) → IsLine (Line.Chain tag operator most)
    → P (entry_of (Line.Chain tag operator most) (begun tag operator most) ∷ []) (begun tag operator most).world)
    (next : (lines : List Line) (run : Run) (world : World) (line : Line) (act : Act)
    → IsNext dig lines run world line act → P run.entries world
    → P (entry_of line (line_effect dig world act) ∷ run.entries) (line_effect dig world act).world) where
  pub over_acts : (lines : List Line) (run : Run) (world : World) → IsRun dig lines run world → P run.entries world
  over_acts lines run world run_is =
      good_runs_keep dig IsLine P first
      (grind (arith, common_steps, is-next)) lines run world (has-come dig lines run world run_is)

-- so of the events
module _ (dig : List ℕ → List ℕ) (P : List Event → World → Type 0)
    (first : (tag operator most : ℕ) → IsLine (Line.Chain tag operator most)
    → P (Idle ∷ []) (begun tag operator most).world)
    (next : (lines : List Line) (run : Run) (world : World) (line : Line) (act : Act)
    → IsNext dig lines run world line act → P (events_of run.entries) world
    → P ((done dig world act).event ∷ events_of run.entries) (line_effect dig world act).world) where
  pub over_events : (lines : List Line) (run : Run) (world : World) → IsRun dig lines run world
      → P (events_of run.entries) world
  unfolding events_of
  over_events = over_acts dig (λ entries world. P (events_of entries) world) first next
