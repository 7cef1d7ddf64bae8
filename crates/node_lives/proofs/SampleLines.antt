-- The lines of the sample life's runs: the log, and a command behind it.
use Rattle.std.proofs.Common.{◌≡◌, ◌+◌, ◌&&◌, not, ◌++◌, ℕ, Bool, true, false, if◌then◌else◌, List, [], ◌∷◌, length, codes, Option, Some, None, Result, Ok, Err, refl, ap, ◌∙◌, arith}
use Rattle.std.specs.Prelude.{replicate}
use Rattle.std.proofs.lemmas.Grind.{common_steps}
use Rattle.plasma_base.specs.HexText.{hex_in, digits_in}
use Rattle.plasma_tx.specs.Chain.{Chain}
use Rattle.line_forms.specs.Forms.{value_in}
use Rattle.line_forms.specs.Tokens.{number_in, number_within_in, hex_of_in}
use Rattle.root_log.specs.Grammar.{chain_in}
use Rattle.leaf_journal.specs.Records.{marker}
use Rattle.node_rules.specs.Wallet.{migrate_effect}
use Rattle.node_rules.specs.WalletRecords.{identity_in, who_is}
use Rattle.wallet_node.specs.State.{WalletState}
use Rattle.node_replies.specs.Texts.{reply_text}
use Rattle.node_replies.specs.Orders.{wallet_does as order_does}
use Rattle.node_replies.specs.declared.order.WalletOrder.{WalletOrder}
use Rattle.node_lines.specs.declared.wallet_line.WalletLine.{WalletLine}
use Rattle.node_lines.specs.Grammar.{wallet_line_in}
use Rattle.node_answers.specs.Answers.{Outcome, given_text, wallet_outcome}
use Rattle.node_roles.specs.Notes.{NotesAt, with_note}
use Rattle.node_roles.specs.Parts.{with_effect}
use Rattle.node_roles.specs.Nodes.{NodeAt, keeping, node_with, node_does}
use Rattle.node_roles.specs.Roles.{wallet_parts, wallet_commands}
use Rattle.node_sessions.specs.Sessions.{SessionState, begun, joins, first_log, leaves, done, command_line, next_line}
use Rattle.streamed_lines.specs.declared.ending.Ending.{Ending}
use Rattle.streamed_lines.specs.declared.ending.Ending.TheVariants.{Complete, ReadFault, TooLong, Ended}
use Rattle.streamed_lines.specs.Lines.{lines_in, is_whole, text_of, is_too_long}
use Rattle.streamed_lines.specs.Streams.{Rules, Stream, Streamed, no_lines, next_number, with_answer, stream_or, goes_on, line_stream, stream_from, stream_of}
use Rattle.streamed_lines.specs.Reading.{RunsTo, MayBeAnswered, next_text}
use Rattle.node_runs.specs.Runs.{node_rules, node_found}
use Rattle.node_lives.specs.Samples.{Drive, told, foretold, met, identity, first_line, input}
use Rattle.node_lives.proofs.Drives.{opened}

-- ---- any line

whole-waits : (ended : Bool) → (not ended && not true) ≡ false
whole-waits true = refl
whole-waits false = refl

-- a line that passes no limit and has its line feed comes to what the rules say
line-comes : {R C : Type 0} (rules : Rules R C) (ended : Bool) (start : ℕ) (stream : Stream R) (line : List ℕ)
    (lines : List (List ℕ)) → is_too_long (next_number stream) start line ≡ false → is_whole line ≡ true
    → stream_from rules ended start stream (line ∷ lines)
    ≡ goes_on stream (stream_or stream (rules.next stream.run (text_of line)))
    (λ next. stream_from rules ended (start + length line) next lines)
unfolding stream_from line_stream
line-comes {R} {C} rules ended start stream line lines fits whole =
    let next : Result (Stream R) (Ending C) = stream_or stream (rules.next stream.run (text_of line)) in
    let on : Stream R → Streamed R C = λ next. stream_from rules ended (start + length line) next lines in
    ap (λ (long : Bool). goes_on stream (if long then Err (TooLong (next_number stream))
    else if not ended && not (is_whole line) then Err ReadFault else next) on) fits
    ∙ ap (λ (w : Bool). goes_on stream (if not ended && not w then Err ReadFault else next) on) whole
    ∙ ap (λ (waits : Bool). goes_on stream (if waits then Err ReadFault else next) on) (whole-waits ended)

-- by which it is answered
line-answered : {R C : Type 0} (rules : Rules R C) (ended : Bool) (start : ℕ) (stream : Stream R) (line : List ℕ)
    (lines : List (List ℕ)) (answered : R × List ℕ) → is_too_long (next_number stream) start line ≡ false
    → is_whole line ≡ true → rules.next stream.run (text_of line) ≡ Ok answered
    → stream_from rules ended start stream (line ∷ lines)
    ≡ stream_from rules ended (start + length line) (with_answer stream answered) lines
line-answered {R} {C} rules ended start stream line lines answered fits whole is =
    grind (arith, common_steps, line-comes) steps 20000

-- ---- what is spelled

abbrev pub chain : Chain
chain = record { tag = replicate 32 0; operator = 0; most_blocks = 1; log = [] }

pub chain-read : chain_in first_line ≡ Some chain
unfolding chain_in value_in hex_of_in hex_in digits_in number_in number_within_in
chain-read = refl

-- the command of the runs
abbrev pub migrate_order : WalletLine
migrate_order = WalletLine.Order WalletOrder.Migrate

pub migrate-spelled : wallet_line_in (codes "migrate") ≡ Some migrate_order
unfolding wallet_line_in value_in
migrate-spelled = refl

-- the log, and the line of the command
abbrev pub log_text : List ℕ
log_text = first_line ++ 10 ∷ codes "--" ++ 10 ∷ []

abbrev pub migrate_line : List ℕ
migrate_line = codes "migrate" ++ 10 ∷ []

-- what the command comes to, without the marker and with it
abbrev pub adds_marker : Outcome
adds_marker = record { says = Ok (codes "migrated" ++ 10 ∷ []); note = None; leaf = Some marker }

abbrev pub is_new : Outcome
is_new = record { says = Err (codes "already-new"); note = None; leaf = None }

module _ (dig : List ℕ → List ℕ) where
  pub migrates : wallet_outcome dig [] (record { notes = identity ∷ []; leaves = [] }) migrate_order
      ≡ adds_marker
  unfolding wallet_outcome order_does migrate_effect given_text reply_text
  migrates = refl

  pub migrated : wallet_outcome dig [] (record { notes = identity ∷ []; leaves = marker ∷ [] }) migrate_order
      ≡ is_new
  unfolding wallet_outcome order_does migrate_effect
  migrated = refl

  -- a wallet that was opened
  abbrev pub wallet_with : Drive → Drive → List (List ℕ) → WalletState Drive (Unit {0})
  wallet_with notes leaves records = record {
    notes_disk = opened notes;
    leaves_disk = opened leaves;
    closed = false;
    records = record { notes = identity ∷ []; leaves = records };
    hash = tt;
  }

  module _ (notes leaves_disk : Drive) (records : List (List ℕ)) where
    abbrev pub found : NodeAt NotesAt
    found = node_found told foretold met dig (wallet_parts (wallet_with notes leaves_disk records))

    abbrev pub rules : Rules (SessionState (NodeAt NotesAt)) (List ℕ)
    rules = node_rules told foretold met dig wallet_commands (wallet_parts (wallet_with notes leaves_disk records))

    -- behind the log
    abbrev pub log_read : Stream (SessionState (NodeAt NotesAt))
    log_read = record { run = record { log = Some chain; is_over = true; node = found }; count = 2; text = [] }

    -- behind its first line
    abbrev log_begun : SessionState (NodeAt NotesAt)
    log_begun = record { log = Some chain; is_over = false; node = found }

    log-begins : rules.next (begun found) first_line ≡ Ok (log_begun, [])
    unfolding next_line who_is identity_in
    log-begins = ap (λ (c : Option Chain). joins (begun found) (first_log (replicate 32 0) c)) chain-read

    log-ends : rules.next log_begun (codes "--") ≡ Ok (log_read.run, [])
    unfolding next_line
    log-ends = refl

    pub log-runs : RunsTo rules (begun found) log_text log_read
    unfolding lines_in
    log-runs = record {
      cut = (first_line ++ 10 ∷ []) ∷ (codes "--" ++ 10 ∷ []) ∷ [];
      cuts = λ more. refl;
      count = refl;
      size = refl;
      streams = λ ended lines.
          line-answered rules ended 0 (no_lines (begun found)) (first_line ++ 10 ∷ [])
          ((codes "--" ++ 10 ∷ []) ∷ lines) (log_begun, []) refl refl log-begins
          ∙ line-answered rules ended (length first_line + 1) (record { run = log_begun; count = 1; text = [] })
          (codes "--" ++ 10 ∷ []) lines (log_read.run, []) refl refl log-ends;
    }

    pub may-next : MayBeAnswered true input log_read
    unfolding lines_in
    may-next = record { fits = refl; seen = refl }

    pub next-is : next_text input log_read ≡ codes "migrate"
    unfolding lines_in
    next-is = refl

    -- the session of the input, by what the command comes to
    session-is : (outcome : Outcome)
        → wallet_outcome dig [] (record { notes = identity ∷ []; leaves = records }) migrate_order ≡ outcome
        → stream_of rules (begun found) input true
        ≡ goes_on log_read (stream_or log_read (leaves log_read.run (done (node_with with_note found outcome))))
        (λ next. stream_from rules true (length input) next [])
    unfolding stream_of lines_in next_line
    session-is outcome is =
        ap (λ (ls : List (List ℕ)). stream_from rules true 0 (no_lines (begun found)) ls) (log-runs.cuts migrate_line)
        ∙ log-runs.streams true (migrate_line ∷ [])
        ∙ line-comes rules true (length log_text) log_read migrate_line [] refl refl
        ∙ ap (λ (c : Option WalletLine). goes_on log_read
        (stream_or log_read (leaves log_read.run (command_line (node_does wallet_commands) [] found c)))
        (λ next. stream_from rules true (length input) next [])) migrate-spelled
        ∙ ap (λ (o : Outcome). goes_on log_read
        (stream_or log_read (leaves log_read.run (done (node_with with_note found o))))
        (λ next. stream_from rules true (length input) next [])) is

  -- a session that is answered, and one whose command is refused
  abbrev pub with_marker : NodeAt NotesAt → NodeAt NotesAt
  with_marker at = keeping at (with_effect with_note at.kept adds_marker)

  pub answered-session : (notes leaves_disk : Drive)
      → stream_of (rules notes leaves_disk []) (begun (found notes leaves_disk [])) input true
      ≡ record {
        stream = record {
          run = record { log = Some chain; is_over = true; node = with_marker (found notes leaves_disk []) };
          count = 3;
          text = codes "migrated" ++ 10 ∷ [];
        };
        ending = Complete;
      }
  unfolding stream_from
  answered-session notes leaves_disk = session-is notes leaves_disk [] adds_marker migrates

  pub refused-session : (notes leaves_disk : Drive)
      → stream_of (rules notes leaves_disk (marker ∷ [])) (begun (found notes leaves_disk (marker ∷ []))) input true
      ≡ record { stream = log_read notes leaves_disk (marker ∷ []); ending = Ended 3 (codes "already-new") }
  refused-session notes leaves_disk = session-is notes leaves_disk (marker ∷ []) is_new migrated
