-- Over every run whose lines aren't barred, with each seal's commit entered once, the operator keeps to the rules.
use Rattle.world_laws.proofs.Basics.{◌≡◌, ℕ, ◌^◌, ◌<◌, ◌≤◌, ◌&&◌, true, false, List, [], ◌∷◌, Option, Some, None, is_some, refl, sym, ap, arith, ◌||◌, Bool, ◌∙◌, list_any, or_parts, common_steps, some_same}
use Rattle.world_laws.proofs.CoinWords.{Chain}
use Rattle.world_laws.proofs.OperatorWords.{Identity, identity_text, identity_in, who_is, notes_of, forest_of, log_of, kept_notes, IsHonest}
use Rattle.world_laws.proofs.WorldWords.{and_then_some, option_map_some, Line, IsLine, Idle, World, padded, new_chain, operator_node, TraceEntry, entry_of, Run, no_lines, step_run, run_of, events_of, step, with_line, begun, Act, line_effect, begun, IsRun, is_barred, CommitsOnce}
use Rattle.operator_rules.proofs.RecordTexts.{identity_in-text}
use Rattle.world_laws.proofs.Acts.{IsNext, over_acts}
use Rattle.world_laws.proofs.OperatorActs.{free-act}
use Rattle.world_laws.proofs.OperatorKeeping.{HasKeeping}
use Rattle.world_laws.proofs.OperatorSteps.{runs-quiet, act-keeps}

-- ---- the beginning

module _ (dig : List ℕ → List ℕ) (tag operator most : ℕ) (fits : operator < 2 ^ 64) (few : most ≤ 3000) where
  abbrev chain : Chain
  chain = new_chain tag operator most

  abbrev who : Identity
  who = record { tag = padded tag; account = operator; key_seed = None }

  abbrev text : List ℕ
  text = identity_text who

  read : identity_in text ≡ Some who
  read = identity_in-text who (record { tag = refl; account = fits; key_seed = tt })

  pub begins-keeping : HasKeeping dig (Idle ∷ []) chain (operator_node chain ∷ [])
  unfolding who_is notes_of forest_of log_of kept_notes IsHonest
  begins-keeping = record {
    op = operator_node chain;
    op_is = refl;
    is = record {
      role = refl;
      kinds = ap (λ (o : Option Identity). is_some o && true) read;
      tag = grind (arith, common_steps, read);
      few = few;
      acts = [];
      log_is = refl;
      notes_is = refl;
      counted = λ root. omega arith;
      waiting = λ account root has since. absurd has;
      honest = λ in_time. tt;
    };
  }

-- ---- runs

-- no line is barred
abbrev pub AreAllowed : List TraceEntry → Type 0
AreAllowed entries = list_any (λ entry. is_barred entry.line) entries ≡ false

-- a trace has the lines of the schedule
pub lines-same : (dig : List ℕ → List ℕ) (lines : List Line) (run : Run) → run_of dig lines ≡ Some run
    → list_any (λ entry. is_barred entry.line) run.entries ≡ list_any is_barred lines
unfolding run_of
lines-same dig [] run is =
    ap (λ (r : Run). list_any (λ entry. is_barred entry.line) r.entries) (sym (some_same no_lines run is))
lines-same dig (line ∷ lines) run is =
    let earlier = and_then_some (step_run dig line) (run_of dig lines) run is in
    let made = option_map_some (with_line earlier.0 line) (step dig earlier.0.world line) run earlier.2 in
    ap (λ (r : Run). list_any (λ entry. is_barred entry.line) r.entries) (sym made.2)
    ∙ ap (λ (b : Bool). is_barred line || b) (lines-same dig lines earlier.0 earlier.1)

-- an operator that keeps to the rules in each run that has begun
abbrev pub Keeping : (List ℕ → List ℕ) → List TraceEntry → World → Type 0
Keeping dig entries world = AreAllowed entries → CommitsOnce (events_of entries)
    → HasKeeping dig (events_of entries) world.chain world.nodes

begins : (dig : List ℕ → List ℕ) (tag operator most : ℕ) → IsLine (Line.Chain tag operator most)
    → Keeping dig (entry_of (Line.Chain tag operator most) (begun tag operator most) ∷ [])
    (begun tag operator most).world
unfolding events_of
begins dig tag operator most fits allowed once = begins-keeping dig tag operator most fits.1.0 fits.1.1.0.1.1

more : (dig : List ℕ → List ℕ) (lines : List Line) (run : Run) (world : World) (line : Line) (act : Act)
    → IsNext dig lines run world line act → Keeping dig run.entries world
    → Keeping dig (entry_of line (line_effect dig world act) ∷ run.entries) (line_effect dig world act).world
unfolding events_of CommitsOnce
more dig lines run world line act next keeping allowed once =
    let parts = or_parts (is_barred line) (list_any (λ entry. is_barred entry.line) run.entries) allowed in
    act-keeps dig (events_of run.entries) world next.first (runs-quiet dig lines run world next.run_is)
    (keeping parts.1 once.1) act next.known next.fit (free-act world line act next.act_is parts.0) once.0

pub runs-keeping : (dig : List ℕ → List ℕ) (lines : List Line) (run : Run) (world : World) → IsRun dig lines run world
    → Keeping dig run.entries world
runs-keeping dig = over_acts dig (Keeping dig) (begins dig) (more dig)
