-- Induction over the lines of a run, once: each line that it did was an act.
use Rattle.world_rules.proofs.Basics.{◌≡◌, ℕ, List, [], ◌∷◌, Option, Some, None, refl, sym, subst, arith, All, All-head, All-tail, common_steps}
use Rattle.world_rules.proofs.CoinWords.{some_same}
use Rattle.world_rules.proofs.NodeWords.{Reply}
use Rattle.world_rules.proofs.WorldWords.{and_then_some, option_map_some, Line, World, keeps_rules, Idle, LineEffect, says, new_chain, new_world, effect_of, with_mail, step, TraceEntry, entry_of, Run, no_lines, with_line, step_run, run_of, Act, act_of, done, IsActIn}
use Rattle.world_rules.proofs.Lines.{acts_are_known}
use Rattle.world_rules.proofs.Lines.{steps_are_of_acts}

-- what the first line does, with its mail item
abbrev pub begun : ℕ → ℕ → ℕ → LineEffect
begun tag operator most = with_mail (says Reply.Chain Idle (new_world (new_chain tag operator most)))

-- what is done by an act, with the mail item of its line
abbrev pub line_effect : (List ℕ → List ℕ) → World → Act → LineEffect
line_effect dig world act = with_mail (done dig world act)

-- what a step that is made shows: the act of its line, by which it is done
pub record IsStepped (dig : List ℕ → List ℕ) (world : World) (line : Line) (effect : LineEffect) : Type 0 where
  pub act : Act
  pub act_is : act_of world line ≡ Some act
  pub known : IsActIn world act
  pub effect_is : line_effect dig world act ≡ effect

pub stepped : (dig : List ℕ → List ℕ) (world : World) (line : Line) (effect : LineEffect)
    → step dig (Some world) line ≡ Some effect → IsStepped dig world line effect
stepped dig world line effect is = grind (arith, common_steps, option_map_some, steps_are_of_acts, acts_are_known)

-- the run of lines that are all so has come to this world
pub record HasCome (dig : List ℕ → List ℕ) (IsGood : Line → Type 0) (lines : List Line) (run : Run) (world : World)
    : Type 0 where
  pub lines_are : All IsGood lines
  pub run_is : run_of dig lines ≡ Some run
  pub world_is : run.world ≡ Some world

-- any line is good
abbrev pub IsAny : Line → Type 0
IsAny line = Unit {0}

pub any_run : (dig : List ℕ → List ℕ) (lines : List Line) (run : Run) (world : World) → run_of dig lines ≡ Some run
    → run.world ≡ Some world → HasCome dig IsAny lines run world
any_run dig lines run world run_is world_is =
    record { lines_are = λ k line here. tt; run_is = run_is; world_is = world_is }

module _ (dig : List ℕ → List ℕ) (IsGood : Line → Type 0) (P : List TraceEntry → World → Type 0)
    (first : (tag operator most : ℕ) → IsGood (Line.Chain tag operator most)
    → P (entry_of (Line.Chain tag operator most) (begun tag operator most) ∷ []) (begun tag operator most).world)
    (next : (lines : List Line) (run : Run) (world : World) (line : Line) (act : Act)
    → HasCome dig IsGood lines run world → IsGood line → act_of world line ≡ Some act → IsActIn world act
    → P run.entries world
    → P (entry_of line (line_effect dig world act) ∷ run.entries) (line_effect dig world act).world) where
  -- what holds of a run so far: before the first line nothing is there
  abbrev Holds : List TraceEntry → Option World → Type 0
  Holds entries None = entries ≡ []
  Holds entries (Some world) = P entries world

  abbrev After : List TraceEntry → Line → LineEffect → Type 0
  After entries line effect = P (entry_of line effect ∷ entries) effect.world

  begins : (line : Line) (effect : LineEffect) → IsGood line → step dig None line ≡ Some effect
      → After [] line effect
  unfolding step effect_of keeps_rules
  begins line effect good is = grind (arith, common_steps, some_same)

  steps : (lines : List Line) (run : Run) (line : Line) (effect : LineEffect) → All IsGood lines
      → run_of dig lines ≡ Some run → IsGood line → Holds run.entries run.world → step dig run.world line ≡ Some effect
      → After run.entries line effect
  steps lines run line effect all run_is good holds is = by run.world refl holds is
    where
      by : (o : Option World) → run.world ≡ o → Holds run.entries o → step dig o line ≡ Some effect
          → After run.entries line effect
      by None none empty is = subst (λ es. After es line effect) (sym empty) (begins line effect good is)
      by (Some world) some holds is =
          let made = stepped dig world line effect is in
          subst (After run.entries line) made.effect_is
          (next lines run world line made.act (record { lines_are = all; run_is = run_is; world_is = some }) good
          made.act_is made.known holds)

  each : (lines : List Line) (run : Run) → All IsGood lines → run_of dig lines ≡ Some run
      → Holds run.entries run.world
  unfolding run_of
  each [] run all is = subst (λ (r : Run). Holds r.entries r.world) (some_same no_lines run is) refl
  each (line ∷ lines) run all is =
      let earlier = and_then_some (step_run dig line) (run_of dig lines) run is in
      let made = option_map_some (with_line earlier.0 line) (step dig earlier.0.world line) run earlier.2 in
      let rest = All-tail IsGood line lines all in
      subst (λ (r : Run). Holds r.entries r.world) made.2
      (steps lines earlier.0 line made.0 rest earlier.1 (All-head IsGood line lines all)
      (each lines earlier.0 rest earlier.1) made.1)

  -- it holds of every run that has begun
  pub good_runs_keep : (lines : List Line) (run : Run) (world : World) → HasCome dig IsGood lines run world
      → P run.entries world
  good_runs_keep lines run world come =
      subst (Holds run.entries) come.world_is (each lines run come.lines_are come.run_is)

-- where the first line needn't be good for it
pub runs_keep : (dig : List ℕ → List ℕ) (IsGood : Line → Type 0) (P : List TraceEntry → World → Type 0)
    → ((tag operator most : ℕ)
    → P (entry_of (Line.Chain tag operator most) (begun tag operator most) ∷ []) (begun tag operator most).world)
    → ((lines : List Line) (run : Run) (world : World) (line : Line) (act : Act)
    → HasCome dig IsGood lines run world → IsGood line → act_of world line ≡ Some act → IsActIn world act
    → P run.entries world
    → P (entry_of line (line_effect dig world act) ∷ run.entries) (line_effect dig world act).world)
    → (lines : List Line) (run : Run) (world : World) → HasCome dig IsGood lines run world → P run.entries world
runs_keep dig IsGood P first next = good_runs_keep dig IsGood P (λ tag operator most good. first tag operator most) next
