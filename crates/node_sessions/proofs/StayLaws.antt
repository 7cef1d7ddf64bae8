-- What no command changes of a node stays through a session.
use Rattle.std.proofs.Common.{◌≡◌, ℕ, ◌+◌, ◌&&◌, not, Bool, true, false, if◌then◌else◌, List, [], ◌∷◌, ◌++◌, length, Option, Some, None, Result, Ok, Err, refl, sym, ap, ◌∙◌}
use Rattle.plasma_tx.specs.declared.call.RootCall.{RootCall}
use Rattle.plasma_tx.specs.Chain.{Chain}
use Rattle.root_log.specs.Grammar.{chain_in, appended}
use Rattle.root_log.specs.EndOfLog.{is_end_of_log}
use Rattle.streamed_lines.specs.declared.ending.Ending.{Ending}
use Rattle.streamed_lines.specs.declared.ending.Ending.TheVariants.{ReadFault, TooLong}
use Rattle.streamed_lines.specs.declared.ending.Stop.{Stop}
use Rattle.streamed_lines.specs.Lines.{lines_in, is_whole, text_of, is_too_long}
use Rattle.streamed_lines.specs.Streams.{Rules, Stream, Streamed, no_lines, next_number, with_answer, stream_or, goes_on, line_stream, stream_from, stream_of}
use Rattle.streamed_lines.specs.Reading.{RunsTo}
use Rattle.node_sessions.specs.Sessions.{SessionState, OrStop, begun, first_log, longer_log, joins, done, leaves, command_line, log_line, line_of, next_line, session_rules}

-- what went wrong didn't go well
ok-err : {T E P : Type 0} (result : Result T E) (x : T) (e : E) → result ≡ Err e → result ≡ Ok x → P
ok-err result x e wrong well = absurd (cc (wrong, well))

-- what went well came to one thing
pub ok-same : {T E : Type 0} (result : Result T E) (a b : T) → result ≡ Ok a → result ≡ Ok b → a ≡ b
ok-same result a b first second = cc (first, second)

module _ {A L : Type 0} (tag : List ℕ) (command_in : List ℕ → Option L)
    (does : List RootCall → A → L → Result (A × List ℕ) (List ℕ)) {M : Type 0} (part : A → M)
    (kept : (log : List RootCall) (at : A) (command : L) (left : A) (text : List ℕ)
    → does log at command ≡ Ok (left, text) → part left ≡ part at) where
  abbrev rules : Rules (SessionState A) (List ℕ)
  rules = session_rules tag command_in does

  -- what a line comes to keeps it
  module _ (session : SessionState A) (line : List ℕ) (next : SessionState A) (text : List ℕ) where
    abbrev Keeps : Type 0
    Keeps = part next.node ≡ part session.node

    joined : (found : OrStop Chain) → joins session found ≡ Ok (next, text) → Keeps
    joined (Ok chain) is =
        ap (λ (s : SessionState A × List ℕ). part s.0.node)
        (sym (ok-same _ (record session { log = Some chain }, []) (next, text) refl is))
    joined (Err stop) is = ok-err _ (next, text) stop refl is

    logged : (chain : Chain) (ends : Bool) (found : OrStop Chain)
        → (if ends then Ok (record session { is_over = true }, []) else joins session found) ≡ Ok (next, text)
        → Keeps
    logged chain true found is =
        ap (λ (s : SessionState A × List ℕ). part s.0.node)
        (sym (ok-same _ (record session { is_over = true }, []) (next, text) refl is))
    logged chain false found is = joined found is

    commanded-keeps : (chain : Chain) (spelled : Option L)
        → leaves session (command_line does chain.log session.node spelled) ≡ Ok (next, text) → Keeps
    commanded-keeps chain None is = ok-err _ (next, text) _ refl is
    commanded-keeps chain (Some command) is = by (does chain.log session.node command) refl is
      where
        by : (outcome : Result (A × List ℕ) (List ℕ)) → does chain.log session.node command ≡ outcome
            → leaves session (done outcome) ≡ Ok (next, text) → Keeps
        by (Err cause) did is = ok-err _ (next, text) _ refl is
        by (Ok left) did is =
            ap (λ (s : SessionState A × List ℕ). part s.0.node)
            (sym (ok-same _ (record session { node = left.0 }, left.1) (next, text) refl is))
            ∙ kept chain.log session.node command left.0 left.1 did

    later : (chain : Chain) (over : Bool)
        → (if over then leaves session (command_line does chain.log session.node (command_in line))
        else log_line session chain line) ≡ Ok (next, text)
        → Keeps
    later chain true is = commanded-keeps chain (command_in line) is
    later chain false is = logged chain (is_end_of_log line) (longer_log (appended chain line)) is

    by-log : (log : Option Chain) → line_of tag command_in does session log line ≡ Ok (next, text) → Keeps
    by-log None is = joined (first_log tag (chain_in line)) is
    by-log (Some chain) is = later chain session.is_over is

    line-keeps : next_line tag command_in does session line ≡ Ok (next, text) → Keeps
    unfolding next_line
    line-keeps is = by-log session.log is

  -- so do lines
  answered-keeps : (stream next : Stream (SessionState A)) (line : List ℕ)
      (outcome : Result (SessionState A × List ℕ) (Stop (List ℕ)))
      → next_line tag command_in does stream.run line ≡ outcome → stream_or stream outcome ≡ Ok next
      → part next.run.node ≡ part stream.run.node
  answered-keeps stream next line (Err stop) is goes = ok-err _ next _ refl goes
  answered-keeps stream next line (Ok answered) is goes =
      ap (λ (s : Stream (SessionState A)). part s.run.node)
      (sym (ok-same _ (with_answer stream answered) next refl goes))
      ∙ line-keeps stream.run line answered.0 answered.1 is

  tested-keeps : (stream next : Stream (SessionState A)) (line : List ℕ) (long waits : Bool)
      → (if long then Err (TooLong (next_number stream)) else if waits then Err ReadFault
      else stream_or stream (next_line tag command_in does stream.run line)) ≡ Ok next
      → part next.run.node ≡ part stream.run.node
  tested-keeps stream next line true waits is = ok-err _ next _ refl is
  tested-keeps stream next line false true is = ok-err _ next _ refl is
  tested-keeps stream next line false false is =
      answered-keeps stream next line (next_line tag command_in does stream.run line) refl is

  stream-keeps : (ended : Bool) (start : ℕ) (stream next : Stream (SessionState A)) (line : List ℕ)
      → line_stream rules ended start stream line ≡ Ok next → part next.run.node ≡ part stream.run.node
  unfolding line_stream
  stream-keeps ended start stream next line is =
      tested-keeps stream next (text_of line) (is_too_long (next_number stream) start line)
      (not ended && not (is_whole line)) is

  lines-keep : (ended : Bool) (start : ℕ) (stream : Stream (SessionState A)) (lines : List (List ℕ))
      → part (stream_from rules ended start stream lines).stream.run.node ≡ part stream.run.node
  unfolding stream_from
  lines-keep ended start stream [] = refl
  lines-keep ended start stream (line ∷ lines) =
      by (λ next. lines-keep ended (start + length line) next lines)
      (line_stream rules ended start stream line) refl
    where
      by : ((next : Stream (SessionState A))
          → part (stream_from rules ended (start + length line) next lines).stream.run.node ≡ part next.run.node)
          → (outcome : Result (Stream (SessionState A)) (Ending (List ℕ)))
          → line_stream rules ended start stream line ≡ outcome
          → part (goes_on stream outcome
          (λ next. stream_from rules ended (start + length line) next lines)).stream.run.node ≡ part stream.run.node
      by again (Err ending) is = refl
      by again (Ok next) is = again next ∙ stream-keeps ended start stream next line is

  -- the session of an input, and lines that were answered, keep what was found
  pub session-keeps : (found : A) (bytes : List ℕ) (ended : Bool)
      → part (stream_of rules (begun found) bytes ended).stream.run.node ≡ part found
  unfolding stream_of
  session-keeps found bytes ended = lines-keep ended 0 (no_lines (begun found)) (lines_in bytes)

  pub run-keeps : (found : A) (front : List ℕ) (stream : Stream (SessionState A))
      → RunsTo rules (begun found) front stream → part stream.run.node ≡ part found
  unfolding stream_from
  run-keeps found front stream runs =
      ap (λ (s : Streamed (SessionState A) (List ℕ)). part s.stream.run.node) (sym (runs.streams false []))
      ∙ lines-keep false 0 (no_lines (begun found)) (runs.cut ++ [])
