-- What a look reads: a log of the node's chain, the line `--`, and behind it at most one line with the time by the
-- caller's clock, and then lines with the coins of which the operator didn't show a block.
use Rattle.std.specs.Prelude.{◌≡◌, ℕ, ◌==◌, ◌&&◌, Bool, true, false, if◌then◌else◌, List, [], length, drop, codes, nat_eq, Option, Some, None, is_none, is_some, Result, Ok, Err}
use Rattle.std.specs.List.{starts_with}
use Rattle.std.specs.Ordering.{nat_cmp}
use Rattle.std.specs.BTreeSet.{insert_key}
use Rattle.line_forms.specs.Tokens.{number_in}
use Rattle.plasma_tx.specs.Chain.{Chain}
use Rattle.root_log.specs.Grammar.{chain_in}
use Rattle.streamed_lines.specs.declared.ending.Stop.TheVariants.{BadLine}
use Rattle.streamed_lines.specs.declared.ending.Halt.{Halt}
use Rattle.streamed_lines.specs.declared.ending.Halt.TheVariants.{Stops, Failed, NoMemory}
use Rattle.streamed_lines.specs.Streams.{Rules}
use Rattle.node_sessions.specs.Sessions.{SessionState, OrStop, Next, first_log, joins, log_line}
use Rattle.node_sessions.specs.Commands.{MayTakeMemory}
use Rattle.safe_runs.specs.declared.told.Told.{Told}

-- a look's input so far: a session as a node's, with what the lines behind its log told in the node's place
abbrev pub LookState : Type 0
LookState = SessionState Told

-- nothing was told behind a log
abbrev pub untold : Told
untold = record { clock = None; hidden = [] }

-- the coin that a line says is hidden: it stands behind this word
abbrev pub hidden_word : List ℕ
hidden_word = codes "hidden "

abbrev pub hidden_in : List ℕ → Option ℕ
hidden_in line =
    if starts_with nat_eq line hidden_word then number_in (drop (length hidden_word) line) else None

-- the time is told once, and before the coins
abbrev pub with_time : Told → ℕ → OrStop Told
with_time told time =
    if is_none told.clock && (length told.hidden == 0) then Ok (record told { clock = Some time }) else Err BadLine

-- by the time that a line behind the log spells, or else the coin that it says is hidden
abbrev pub told_by : Told → Option ℕ → Option ℕ → OrStop Told
told_by told (Some time) coin = with_time told time
told_by told None (Some coin) = Ok (record told { hidden = insert_key nat_cmp told.hidden coin })
told_by told None None = Err BadLine

-- what was told with this line
abbrev pub told_in : Told → List ℕ → OrStop Told
told_in told line = told_by told (number_in line) (hidden_in line)

-- the session in which this was told
abbrev pub tells : LookState → OrStop Told → Next Told
tells session (Err stop) = Err stop
tells session (Ok told) = Ok (record session { node = told }, [])

-- of a node of the chain with this tag
module _ (tag : List ℕ) where
  abbrev pub later_line : LookState → Chain → List ℕ → Next Told
  later_line session chain line =
      if session.is_over then tells session (told_in session.node line) else log_line session chain line

  abbrev pub line_of : LookState → Option Chain → List ℕ → Next Told
  line_of session None line = joins session (first_log tag (chain_in line))
  line_of session (Some chain) line = later_line session chain line

  unfoldable pub next_line : LookState → List ℕ → Next Told
  next_line session line = line_of session session.log line

  -- the rules of its lines, none of which has an answer: the input may end behind the line `--` alone
  abbrev pub look_rules : Rules LookState (List ℕ)
  look_rules = record { next = next_line; may_end = λ session. session.is_over }

-- this was read of a log and told behind it
pub record IsRead (log : Option Chain) (is_over : Bool) (told : Told) (run : LookState) : Type 0 where
  pub log_is : log ≡ run.log
  pub over_is : is_over ≡ run.is_over
  pub told_is : told ≡ run.node

-- Nothing fails but for want of memory. A line of the log takes some as one of a node's session does, and one behind it
-- where it says that a coin is hidden.
abbrev pub HaltsLook : LookState → List ℕ → Halt (List ℕ) → Type 0
HaltsLook run line (Stops stop) = Unit {0}
HaltsLook run line NoMemory = MayTakeMemory (λ line. is_some (hidden_in line)) run.log run.is_over line
HaltsLook run line Failed = ⊥
