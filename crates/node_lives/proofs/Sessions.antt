-- What each command of a session keeps holds behind its lines; and its log has a block for each line at most.
use Rattle.std.proofs.Common.{◌≡◌, ◌≤◌, ℕ, ◌+◌, Bool, true, false, if◌then◌else◌, List, [], ◌∷◌, Option, Some, None, is_some, Result, Ok, Err, refl, sym, ap, ◌∙◌, subst, arith}
use Rattle.std.specs.Prelude.{option_map}
use Rattle.std.proofs.lemmas.Grind.{common_steps}
use Rattle.streamed_lines.specs.declared.TheConstants.{MOST_LINES}
use Rattle.streamed_lines.specs.Streams.{Rules, Stream, no_lines, next_number, with_answer, stream_from, stream_of}
use Rattle.streamed_lines.specs.Reading.{RunsTo}
use Rattle.plasma_tx.specs.declared.call.RootCall.{RootCall}
use Rattle.plasma_tx.specs.Chain.{Chain}
use Rattle.plasma_tx.specs.Views.{blocks}
use Rattle.root_log.specs.declared.first_line.FirstLine.{FirstLine}
use Rattle.root_log.specs.Grammar.{chain_in, chain_of, call_in, appended}
use Rattle.root_log.specs.EndOfLog.{is_end_of_log}
use Rattle.node_sessions.specs.Sessions.{SessionState, OrStop, begun, calls_of, first_log, longer_log, joins, done, leaves, command_line, commanded, log_line, line_of, next_line, session_rules}
use Rattle.node_lives.proofs.Lines.{lines-keep, stream-keeps, runs-keep}

-- ---- the log of a session

-- a call makes a block at most
blocks-more : (call : RootCall) (log : List RootCall) → blocks (call ∷ log) ≤ blocks log + 1
unfolding blocks
blocks-more call log = grind (arith, common_steps) steps 20000

first-in : (found : Option FirstLine) (chain : Chain) → option_map chain_of found ≡ Some chain → chain.log ≡ []
first-in None chain is = absurd (cc is)
first-in (Some first) chain is = (let same : chain_of first ≡ chain = cc is in sym (ap (λ (c : Chain). c.log) same))

first-empty : (line : List ℕ) (chain : Chain) → chain_in line ≡ Some chain → chain.log ≡ []
unfolding chain_in
first-empty line chain is = first-in _ chain is

first-blocks : (tag : List ℕ) (found : Option Chain) (chain : Chain)
    → ((named : Chain) → found ≡ Some named → named.log ≡ []) → first_log tag found ≡ Ok chain → blocks chain.log ≡ 0
unfolding blocks
first-blocks tag found chain empty is = grind (arith, common_steps) steps 20000

longer-blocks : (chain longer : Chain) (found : Option RootCall)
    → longer_log (option_map (λ call. record chain { log = call ∷ chain.log }) found) ≡ Ok longer
    → blocks longer.log ≤ blocks chain.log + 1
longer-blocks chain longer found is = grind (arith, common_steps, blocks-more) steps 20000

-- ---- its commands

module _ {A L : Type 0} (tag : List ℕ) (command_in : List ℕ → Option L)
    (does : List RootCall → A → L → Result (A × List ℕ) (List ℕ)) (Q : A → Type 0)
    (step : (log : List RootCall) (at : A) (line : List ℕ) (command : L) (left : A) (text : List ℕ)
    → blocks log ≤ MOST_LINES → command_in line ≡ Some command → Q at → does log at command ≡ Ok (left, text)
    → Q left) where
  abbrev rules : Rules (SessionState A) (List ℕ)
  rules = session_rules tag command_in does

  -- Behind so many lines the node has Q, the log no more blocks, and where it has ended there is one.
  pub record Holds (session : SessionState A) (count : ℕ) : Type 0 where
    pub node : Q session.node
    pub few : blocks (calls_of session.log) ≤ count
    pub logged : session.is_over ≡ true → is_some session.log ≡ true

  module _ (session : SessionState A) (line : List ℕ) (count : ℕ) (few : count + 1 ≤ MOST_LINES)
      (holds : Holds session count) (answered : SessionState A × List ℕ) where
    same-node : (next : SessionState A) → next.node ≡ session.node → blocks (calls_of next.log) ≤ count + 1
        → is_some next.log ≡ true → (next, []) ≡ answered → Holds answered.0 (count + 1)
    same-node next node log some is =
        subst (λ (a : SessionState A × List ℕ). Holds a.0 (count + 1)) is
        (record { node = subst Q (sym node) holds.node; few = log; logged = λ over. some })

    joined : (found : OrStop Chain) → ((chain : Chain) → found ≡ Ok chain → blocks chain.log ≤ count + 1)
        → joins session found ≡ Ok answered → Holds answered.0 (count + 1)
    joined (Ok chain) log is = same-node (record session { log = Some chain }) refl (log chain refl) refl cc
    joined (Err stop) log is = absurd (cc is)

    logged : (chain : Chain) → session.log ≡ Some chain → (ends : Bool) (found : OrStop Chain)
        → ((longer : Chain) → found ≡ Ok longer → blocks longer.log ≤ count + 1)
        → (if ends then Ok (record session { is_over = true }, []) else joins session found) ≡ Ok answered
        → Holds answered.0 (count + 1)
    logged chain there ends found log is = grind (arith, common_steps, same-node, joined) steps 20000

    commanded-holds : (chain : Chain) → session.log ≡ Some chain → (spelled : Option L) → command_in line ≡ spelled
        → leaves session (command_line does chain.log session.node spelled) ≡ Ok answered → Holds answered.0 (count + 1)
    commanded-holds chain there spelled spells is = grind (arith, common_steps, logged) steps 20000

    later : (chain : Chain) → session.log ≡ Some chain → (over : Bool)
        → (if over then leaves session (command_line does chain.log session.node (command_in line))
        else log_line session chain line) ≡ Ok answered
        → Holds answered.0 (count + 1)
    later chain there true is = commanded-holds chain there (command_in line) refl is
    later chain there false is =
        logged chain there (is_end_of_log line) (longer_log (appended chain line))
        (λ longer goes. omega (
          arith,
          longer-blocks chain longer (call_in line) goes,
          subst (λ (log : Option Chain). blocks (calls_of log) ≤ count) there holds.few,
        ))
        is

    by-log : (log : Option Chain) → session.log ≡ log → line_of tag command_in does session log line ≡ Ok answered
        → Holds answered.0 (count + 1)
    by-log None there is =
        joined (first_log tag (chain_in line))
        (λ chain goes. omega (arith, first-blocks tag (chain_in line) chain (first-empty line) goes)) is
    by-log (Some chain) there is = later chain there session.is_over is

    line-holds : next_line tag command_in does session line ≡ Ok answered → Holds answered.0 (count + 1)
    unfolding next_line
    line-holds is = by-log session.log refl is

  -- behind the lines of a stream
  abbrev pub HoldsBehind : Stream (SessionState A) → Type 0
  HoldsBehind stream = Holds stream.run stream.count

  keeps : (stream : Stream (SessionState A)) (line : List ℕ) (answered : SessionState A × List ℕ)
      → next_number stream ≤ MOST_LINES → HoldsBehind stream
      → next_line tag command_in does stream.run line ≡ Ok answered → HoldsBehind (with_answer stream answered)
  keeps stream line answered few holds is = line-holds stream.run line stream.count few holds answered is

  starts : (found : A) → Q found → HoldsBehind (no_lines (begun found))
  unfolding blocks
  starts found here = record { node = here; few = omega arith; logged = λ over. absurd (cc over) }

  -- and behind more lines
  pub lines-hold : (ended : Bool) (start : ℕ) (stream : Stream (SessionState A)) (lines : List (List ℕ))
      → HoldsBehind stream → HoldsBehind (stream_from rules ended start stream lines).stream
  lines-hold ended start stream lines holds = lines-keep rules HoldsBehind keeps ended start stream lines holds

  -- the session of an input, and lines that were answered
  pub session-holds : (found : A) (bytes : List ℕ) (ended : Bool) → Q found
      → HoldsBehind (stream_of rules (begun found) bytes ended).stream
  session-holds found bytes ended here =
      stream-keeps rules HoldsBehind keeps (begun found) bytes ended (starts found here)

  pub run-holds : (found : A) (front : List ℕ) (stream : Stream (SessionState A))
      → RunsTo rules (begun found) front stream → Q found → HoldsBehind stream
  run-holds found front stream runs here =
      runs-keep rules HoldsBehind keeps (begun found) front stream runs (starts found here)

-- the command that a line spells behind a log is one that the line spells
pub spelled-in : {A L : Type 0} (command_in : List ℕ → Option L) (session : SessionState A) (line : List ℕ)
    (command : L) → commanded command_in session line ≡ Some command → command_in line ≡ Some command
spelled-in command_in session line command is = grind (arith, common_steps) steps 20000

-- What a command does that a line spells behind lines, where the line is answered: its answer, and where it leaves the
-- node.
module _ {A L : Type 0} (tag : List ℕ) (command_in : List ℕ → Option L)
    (does : List RootCall → A → L → Result (A × List ℕ) (List ℕ)) (session : SessionState A) (line : List ℕ)
    (command : L) (spells : commanded command_in session line ≡ Some command)
    (logged : session.is_over ≡ true → is_some session.log ≡ true) (answered : SessionState A × List ℕ)
    (is : next_line tag command_in does session line ≡ Ok answered) where
  pub record DoesIn : Type 0 where
    pub left : A × List ℕ
    pub did : does (calls_of session.log) session.node command ≡ Ok left
    pub node : answered.0.node ≡ left.0
    pub log : answered.0.log ≡ session.log
    pub over : answered.0.is_over ≡ session.is_over

  done-in : (chain : Chain) → session.log ≡ Some chain → (outcome : Result (A × List ℕ) (List ℕ))
      → does chain.log session.node command ≡ outcome → leaves session (done outcome) ≡ Ok answered → DoesIn
  done-in chain there (Err cause) did goes = absurd (cc goes)
  done-in chain there (Ok left) did goes =
      (let same : (record session { node = left.0 }, left.1) ≡ answered = cc goes in
      record {
        left = left;
        did = ap (λ (l : Option Chain). does (calls_of l) session.node command) there ∙ did;
        node = ap (λ (a : SessionState A × List ℕ). a.0.node) (sym same);
        log = ap (λ (a : SessionState A × List ℕ). a.0.log) (sym same);
        over = ap (λ (a : SessionState A × List ℕ). a.0.is_over) (sym same);
      })

  over-in : (log : Option Chain) → session.log ≡ log → (over : Bool) → session.is_over ≡ over
      → (if over then command_in line else None) ≡ Some command → (over ≡ true → is_some log ≡ true)
      → line_of tag command_in does session log line ≡ Ok answered → DoesIn
  over-in log there false not spelled some goes = absurd (cc spelled)
  over-in None there true over spelled some goes = absurd (let none = some refl in cc none)
  over-in (Some chain) there true over spelled some goes =
      done-in chain there (does chain.log session.node command) refl
      (ap (λ (o : Option L). leaves session (command_line does chain.log session.node o)) (sym spelled)
      ∙ (λ i. if (sym over i) then leaves session (command_line does chain.log session.node (command_in line))
      else log_line session chain line)
      ∙ goes)

  pub does-in : DoesIn
  unfolding next_line
  does-in =
      over-in session.log refl session.is_over refl spells logged is
