-- A run of a wallet that was just begun: it reads a log without calls, and watches.
use Rattle.std.proofs.Common.{◌≡◌, ◌+◌, ◌++◌, ℕ, true, false, List, [], ◌∷◌, length, codes, Option, Some, None, Result, Ok, refl, sym, ap, ◌∙◌, subst, inl, lit<, arith}
use Rattle.std.specs.Prelude.{replicate}
use Rattle.crash_disk.specs.Disk.{Step, content}
use Rattle.crash_disk.specs.Calls.{passed}
use Rattle.plasma_base.specs.HexText.{hex_in, digits_in}
use Rattle.plasma_tx.specs.Chain.{Chain}
use Rattle.line_forms.specs.Forms.{value_in}
use Rattle.std.proofs.lemmas.Fmt.{decimal_digit}
use Rattle.std.proofs.lemmas.Grind.{common_steps}
use Rattle.plasma_tx.specs.Views.{coins}
use Rattle.line_forms.specs.Tokens.{number_in, number_text, number_within_in, hex_of_in}
use Rattle.root_log.specs.Grammar.{chain_in}
use Rattle.gate_journal.specs.Image.{journal_in}
use Rattle.gate_journal.specs.Journal.{IsSettled}
use Rattle.gate_journal.specs.Steps.{open_steps}
use Rattle.node_journal.specs.Notes.{Opened}
use Rattle.node_journal.specs.Role.{are_of, role_in}
use Rattle.node_journal.specs.Begin.{is_taken, journal_steps, init_steps, PassesInit}
use Rattle.node_journal.specs.Parts.{both}
use Rattle.leaf_journal.specs.Records.{leaf_records_read_of, leaf_records_in_of, records_behind_of}
use Rattle.node_rules.specs.WalletRecords.{wallet_kinds, is_body, identity_in, notes_of, who_is}
use Rattle.node_rules.specs.Wallet.{watch_answer}
use Rattle.node_rules.specs.WalletOpening.{leaves_of}
use Rattle.node_replies.specs.Texts.{reply_text}
use Rattle.node_replies.specs.Orders.{wallet_does}
use Rattle.node_replies.specs.declared.order.WalletOrder.{WalletOrder}
use Rattle.node_lines.specs.declared.wallet_line.WalletLine.{WalletLine}
use Rattle.node_lines.specs.Grammar.{wallet_line_in}
use Rattle.node_answers.specs.Answers.{Outcome, given_text, wallet_outcome}
use Rattle.wallet_node.specs.State.{WalletState}
use Rattle.wallet_node.specs.Opening.{OpensWallet}
use Rattle.node_roles.specs.Notes.{NotesAt}
use Rattle.node_roles.specs.Nodes.{NodeAt}
use Rattle.node_roles.specs.Roles.{wallet_parts, wallet_commands}
use Rattle.node_sessions.specs.Sessions.{SessionState, begun, joins, first_log, leaves, next_line}
use Rattle.streamed_lines.specs.declared.ending.Ending.TheVariants.{Complete}
use Rattle.streamed_lines.specs.Lines.{lines_in, text_of, is_too_long}
use Rattle.streamed_lines.specs.Streams.{Rules, Stream, Streamed, no_lines, next_number, with_answer, goes_on, line_stream, stream_from, stream_of}
use Rattle.run_endings.specs.Endings.{session_output, last_text}
use Rattle.run_endings.specs.Outputs.{EndsAs}
use Rattle.run_endings.specs.declared.status.Status.TheVariants.{Done}
use Rattle.streamed_lines.specs.Bounds.{TakesFew}
use Rattle.node_runs.specs.Disks.{Keeps, KeepsNode}
use Rattle.node_runs.specs.Inits.{InitsPair}
use Rattle.node_runs.specs.Sessions.{Outside}
use Rattle.node_runs.specs.Runs.{node_rules, node_found, NodeSession, RunsWallet}
use Rattle.node_lives.specs.Samples.{Drive, told, foretold, met, identity, first_line}
use Rattle.node_lives.proofs.Roles.{ok-of, role-found}
use Rattle.node_lives.proofs.Drives.{after, asked, made, all-passed, telling, blank, stopped_notes, begun_notes, begun_leaves, opened, opened_settled, begun_notes_settled, begun_leaves_settled}

-- ---- the init

passes_init : (steps : List ℕ → List Step) (drive : Drive) → is_taken (content drive.history) ≡ false
    → PassesInit told foretold met steps drive (after passed steps false drive)
passes_init steps drive free = grind (arith, common_steps, telling, after, made, all-passed) steps 20000

abbrev pub made_text : List ℕ
made_text = codes "made" ++ 10 ∷ []

pub init_passes : InitsPair told foretold met (Some []) (Some made_text) Done identity stopped_notes blank begun_notes
    begun_leaves
init_passes = record {
  answer = Ok tt;
  inits = (
    asked false stopped_notes,
    record {
      called = record { history = refl; fails = λ plan is. absurd (cc is); goes_on = refl };
      count = refl;
    },
    (passes_init (init_steps identity) (asked false stopped_notes) refl, passes_init journal_steps blank refl),
  );
  begun = telling begun_notes (λ now. IsSettled now (identity ∷ [])) begun_notes_settled;
  empty = telling begun_leaves (λ now. IsSettled now []) begun_leaves_settled;
  ends = (refl, refl);
}

-- ---- the lines

abbrev pub input : List ℕ
input = first_line ++ 10 ∷ codes "--" ++ 10 ∷ codes "watch" ++ 10 ∷ []

abbrev pub answer : List ℕ
answer = codes "offers 0" ++ 10 ∷ []

abbrev pub chain : Chain
chain = record { tag = replicate 32 0; operator = 0; most_blocks = 1; log = [] }

-- a whole line that passes no limit and is answered
line-answered : {R C : Type 0} (rules : Rules R C) (start : ℕ) (stream : Stream R) (line : List ℕ)
    (lines : List (List ℕ)) (answered : R × List ℕ) → is_too_long (next_number stream) start line ≡ false
    → rules.next stream.run (text_of line) ≡ Ok answered
    → stream_from rules true start stream (line ∷ lines)
    ≡ stream_from rules true (start + length line) (with_answer stream answered) lines
unfolding stream_from line_stream
line-answered rules start stream line lines answered fits is = grind (arith, common_steps) steps 20000

chain-read : chain_in first_line ≡ Some chain
unfolding chain_in value_in hex_of_in hex_in digits_in number_in number_within_in
chain-read = refl

abbrev pub watch_order : WalletLine
watch_order = WalletLine.Order WalletOrder.Watch

watch-spelled : wallet_line_in (codes "watch") ≡ Some watch_order
unfolding wallet_line_in value_in
watch-spelled = refl

-- the number of the calls that it offers
none-offered : number_text 0 ≡ 48 ∷ []
unfolding number_text
none-offered = decimal_digit 0 (lit< tt)

abbrev pub offers_none : Outcome
offers_none = record { says = Ok answer; note = None; leaf = None }

module _ (dig : List ℕ → List ℕ) where
  abbrev pub wallet : WalletState Drive (Unit {0})
  wallet = record {
    notes_disk = opened begun_notes;
    leaves_disk = opened begun_leaves;
    closed = false;
    records = record { notes = identity ∷ []; leaves = [] };
    hash = tt;
  }

  pub watches : wallet_outcome dig [] (record { notes = identity ∷ []; leaves = [] }) watch_order ≡ offers_none
  unfolding wallet_outcome wallet_does watch_answer given_text reply_text coins
  watches = grind (arith, common_steps, none-offered) steps 20000

  abbrev pub found : NodeAt NotesAt
  found = node_found told foretold met dig (wallet_parts wallet)

  abbrev rules : Rules (SessionState (NodeAt NotesAt)) (List ℕ)
  rules = node_rules told foretold met dig wallet_commands (wallet_parts wallet)

  -- behind the log's first line, and behind the log
  abbrev log_begun : SessionState (NodeAt NotesAt)
  log_begun = record { log = Some chain; is_over = false; node = found }

  abbrev log_over : SessionState (NodeAt NotesAt)
  log_over = record { log = Some chain; is_over = true; node = found }

  log-begins : rules.next (begun found) first_line ≡ Ok (log_begun, [])
  unfolding next_line who_is identity_in
  log-begins = ap (λ (c : Option Chain). joins (begun found) (first_log (replicate 32 0) c)) chain-read

  log-ends : rules.next log_begun (codes "--") ≡ Ok (log_over, [])
  unfolding next_line
  log-ends = refl

  watch-answered : rules.next log_over (codes "watch") ≡ Ok (log_over, answer)
  unfolding next_line
  watch-answered = grind (arith, common_steps, watch-spelled, watches) steps 20000

  abbrev pub streamed : Streamed (SessionState (NodeAt NotesAt)) (List ℕ)
  streamed = record {
    stream = record { run = log_over; count = 3; text = answer };
    ending = Complete;
  }

  pub session-is : stream_of rules (begun found) input true ≡ streamed
  unfolding stream_of lines_in stream_from
  session-is =
      line-answered rules 0 (no_lines (begun found)) (first_line ++ 10 ∷ [])
      ((codes "--" ++ 10 ∷ []) ∷ (codes "watch" ++ 10 ∷ []) ∷ []) (log_begun, []) refl log-begins
      ∙ line-answered rules (length first_line + 1) (record { run = log_begun; count = 1; text = [] })
      (codes "--" ++ 10 ∷ []) ((codes "watch" ++ 10 ∷ []) ∷ []) (log_over, []) refl log-ends
      ∙ line-answered rules (length first_line + 4) (record { run = log_over; count = 2; text = [] })
      (codes "watch" ++ 10 ∷ []) [] (log_over, answer) refl watch-answered

  -- ---- the run

  wallet_are : are_of (wallet_kinds dig) (identity ∷ []) ≡ true
  unfolding identity_in
  wallet_are = refl

  opens_part : (read : List ℕ → Result (List (List ℕ)) ℕ) (drive : Drive) (records : List (List ℕ))
      → IsSettled drive.history records → read (content drive.history) ≡ Ok records
      → Opened told foretold met read drive (record { disk = opened drive; closed = false; records = records })
  opens_part read drive records settled reads = record {
    kept = telling drive (λ before. read (content before) ≡ Ok records) reads;
    made = made passed open_steps 3 false drive (all-passed 3);
    count = refl;
    is_open = refl;
    settled = telling (opened drive) (λ now. IsSettled now records) (opened_settled drive records settled);
  }

  abbrev count : ℕ
  count = leaves_of (identity ∷ [])

  pub opens : OpensWallet told foretold met dig begun_notes begun_leaves wallet
  unfolding notes_of records_behind_of
  opens = record {
    opens_notes =
        opens_part (role_in (wallet_kinds dig)) begun_notes (identity ∷ []) begun_notes_settled
        (role-found (wallet_kinds dig) (content begun_notes.history) (identity ∷ []) begun_notes_settled.read
        wallet_are);
    opens_leaves =
        opens_part (leaf_records_in_of is_body count) begun_leaves [] begun_leaves_settled
        (ap (leaf_records_read_of is_body count) (ok-of (journal_in (content begun_leaves.history)) []
        begun_leaves_settled.read));
    bound = refl;
  }

  pub found-keeps : (drive : Drive) (records : List (List ℕ)) → IsSettled drive.history records
      → Keeps told met (record { records = records; told = Some drive.history; faults = drive.met }) drive
  found-keeps drive records settled = grind (arith, common_steps, telling) steps 20000

  abbrev pub outside : Outside
  outside = record { left = Some input; later = Some []; taken = Some []; after = Some answer }

  abbrev pub Session : Type 0
  Session =
      NodeSession told foretold met dig wallet_commands (wallet_parts wallet)
      (both (opened begun_notes) (opened begun_leaves)) outside (Unit {0}) Done

  unfoldable pub session : Session
  unfolding last_text
  session = inl (record {
    bytes = input;
    ended = true;
    gave = record { given = refl; end = λ is. refl };
    ends =
        subst (λ (s : Streamed (SessionState (NodeAt NotesAt)) (List ℕ)).
        EndsAs (session_output s) Done (Some []) (Some answer) (Unit {0})) (sym session-is) (refl, refl);
    few =
        subst (λ (s : Streamed (SessionState (NodeAt NotesAt)) (List ℕ)). TakesFew input s.ending) (sym session-is) tt;
    left =
        subst (λ (s : Streamed (SessionState (NodeAt NotesAt)) (List ℕ)).
        KeepsNode told met s.stream.run.node.kept (both (opened begun_notes) (opened begun_leaves))) (sym session-is) (
          found-keeps (opened begun_notes) (identity ∷ [])
              (opened_settled begun_notes (identity ∷ []) begun_notes_settled),
          found-keeps (opened begun_leaves) [] (opened_settled begun_leaves [] begun_leaves_settled),
        );
  })

  unfoldable pub run : RunsWallet told foretold met dig begun_notes begun_leaves (opened begun_notes)
      (opened begun_leaves) outside (Unit {0}) Done
  unfolding RunsWallet
  run = inl (wallet, opens, session)
