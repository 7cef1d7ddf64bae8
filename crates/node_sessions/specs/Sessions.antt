-- A session of a node: a root contract's log is read, line by line, and behind the line `--` commands are answered.
use Rattle.std.specs.Prelude.{ℕ, Bool, true, false, if◌then◌else◌, List, [], codes, Option, Some, None, Result, Ok, Err}
use Rattle.std.specs.Str.{bytes_eq}
use Rattle.plasma_tx.specs.declared.call.RootCall.{RootCall}
use Rattle.plasma_tx.specs.Chain.{Chain}
use Rattle.root_log.specs.Grammar.{chain_in, appended}
use Rattle.root_log.specs.EndOfLog.{is_end_of_log}
use Rattle.streamed_lines.specs.declared.ending.Stop.{Stop}
use Rattle.streamed_lines.specs.declared.ending.Stop.TheVariants.{BadLine, Ends}
use Rattle.streamed_lines.specs.Streams.{Rules}

-- What a session's lines come to, and what callers see of a session: the log so far, none before its first line;
-- whether it has ended; and the node, or what its commands come to.
pub record SessionState (N : Type 0) : Type 0 where
  pub log : Option Chain
  pub is_over : Bool
  pub node : N

-- before the first line
abbrev pub begun : {N : Type 0} → N → SessionState N
begun node = record { log = None; is_over = false; node = node }

-- the calls of a log; none before its first line
abbrev pub calls_of : Option Chain → List RootCall
calls_of None = []
calls_of (Some chain) = chain.log

-- what something comes to, or why it ends the session: by the text of the cause where it is a refusal
abbrev pub OrStop : Type 0 → Type 0
OrStop T = Result T (Stop (List ℕ))

-- what a line comes to: the session with it, and the text of its answer
abbrev pub Next : Type 0 → Type 0
Next N = OrStop (SessionState N × List ℕ)

-- ---- the log

-- the refusal of a log of another chain
abbrev pub other_chain : List ℕ
other_chain = codes "other-chain"

-- the log that a first line begins, which has to name the chain with this tag
abbrev pub first_log : List ℕ → Option Chain → OrStop Chain
first_log tag None = Err BadLine
first_log tag (Some chain) = if bytes_eq chain.tag tag then Ok chain else Err (Ends other_chain)

-- the log with a call, where the line spells one
abbrev pub longer_log : Option Chain → OrStop Chain
longer_log None = Err BadLine
longer_log (Some chain) = Ok chain

-- the session with this log; a line of a log has no answer
abbrev pub joins : {N : Type 0} → SessionState N → OrStop Chain → Next N
joins session (Err stop) = Err stop
joins session (Ok chain) = Ok (record session { log = Some chain }, [])

-- a line behind the first one: the log's next call, or its end
abbrev pub log_line : {N : Type 0} → SessionState N → Chain → List ℕ → Next N
log_line session chain line =
    if is_end_of_log line then Ok (record session { is_over = true }, [])
    else joins session (longer_log (appended chain line))

-- ---- commands

-- a command that was done, or refused
abbrev pub done : {N : Type 0} → Result (N × List ℕ) (List ℕ) → OrStop (N × List ℕ)
done (Ok left) = Ok left
done (Err cause) = Err (Ends cause)

-- the session with what a command leaves its node at
abbrev pub leaves : {N : Type 0} → SessionState N → OrStop (N × List ℕ) → Next N
leaves session (Err stop) = Err stop
leaves session (Ok left) = Ok (record session { node = left.0 }, left.1)

-- a command's line, by the command that it spells: done behind a log, a command leaves the node so and has this text,
-- or is refused for this cause
abbrev pub command_line : {N L : Type 0} → (List RootCall → N → L → Result (N × List ℕ) (List ℕ)) → List RootCall → N
    → Option L → OrStop (N × List ℕ)
command_line does log node None = Err BadLine
command_line does log node (Some command) = done (does log node command)

-- the command that a line spells behind a log that has ended, if it spells one; there is none in a log
abbrev pub commanded : {N L : Type 0} → (List ℕ → Option L) → SessionState N → List ℕ → Option L
commanded command_in session line = if session.is_over then command_in line else None

-- ---- any line

-- of a node of the chain with this tag, whose commands are read and done so
module _ {N L : Type 0} (tag : List ℕ) (command_in : List ℕ → Option L)
    (does : List RootCall → N → L → Result (N × List ℕ) (List ℕ)) where
  abbrev pub later_line : SessionState N → Chain → List ℕ → Next N
  later_line session chain line =
      if session.is_over then leaves session (command_line does chain.log session.node (command_in line))
      else log_line session chain line

  abbrev pub line_of : SessionState N → Option Chain → List ℕ → Next N
  line_of session None line = joins session (first_log tag (chain_in line))
  line_of session (Some chain) line = later_line session chain line

  unfoldable pub next_line : SessionState N → List ℕ → Next N
  next_line session line = line_of session session.log line

  -- the rules of its lines: the input may end behind the line `--` alone
  abbrev pub session_rules : Rules (SessionState N) (List ℕ)
  session_rules = record { next = next_line; may_end = λ session. session.is_over }
