-- A small life of an operator with a key is one: its run gives a receipt by the key's first leaf.
use Rattle.std.proofs.Common.{◌≡◌, ◌≤◌, ◌==◌, not, ℕ, true, false, List, [], ◌∷◌, ◌++◌, length, replicate, codes, slice_index_or, Option, Some, None, Ok, refl, sym, ap, ◌∙◌, subst, inl, arith, append-nil, length-append, lit<, lit≤}
use Rattle.std.proofs.lemmas.Bool.{and_parts, not-true}
use Rattle.std.proofs.lemmas.Grind.{common_steps}
use Rattle.crash_disk.specs.Disk.{content}
use Rattle.crash_disk.specs.Calls.{passed}
use Rattle.gate_journal.specs.Image.{journal_in}
use Rattle.gate_journal.specs.Journal.{IsSettled}
use Rattle.gate_journal.proofs.Rest.{appends_settle}
use Rattle.node_journal.specs.Begin.{journal_steps, init_steps}
use Rattle.node_journal.specs.Notes.{NotesState, note_steps, Opened}
use Rattle.node_journal.specs.Parts.{Parts, both}
use Rattle.node_journal.specs.Role.{are_of, role_in}
use Rattle.leaf_journal.specs.Records.{marker, leaf_records_read_of, records_behind_of}
use Rattle.plasma_tx.specs.Chain.{Chain, with_log}
use Rattle.plasma_tx.specs.Views.{blocks}
use Rattle.operator_rules.specs.Records.{identity_in, operator_kinds, who_is}
use Rattle.receipt_audit.specs.Promises.{is_promise}
use Rattle.receipt_audit.specs.Desk.{IssueEffect}
use Rattle.node_replies.proofs.ByteTexts.{small-cons, small-zeros}
use Rattle.node_replies.specs.Roles.{Operator}
use Rattle.node_lines.specs.declared.operator_line.OperatorLine.{OperatorLine}
use Rattle.node_lines.specs.Grammar.{operator_line_in}
use Rattle.line_forms.specs.Forms.{value_in}
use Rattle.node_answers.specs.Answers.{Outcome}
use Rattle.node_answers.specs.Desks.{promised_text, issue_outcome, desk_records, desk_outcome}
use Rattle.node_roles.specs.Notes.{NotesAt, with_note}
use Rattle.node_roles.specs.Parts.{with_effect}
use Rattle.node_roles.specs.Nodes.{NodeAt, keeping, node_with, node_does}
use Rattle.node_roles.specs.Roles.{desk_commands}
use Rattle.node_sessions.specs.Sessions.{SessionState, begun, joins, first_log, leaves, done, command_line, next_line}
use Rattle.run_endings.specs.Endings.{session_output, last_text}
use Rattle.run_endings.specs.Outputs.{EndsAs}
use Rattle.run_endings.specs.declared.status.Status.TheVariants.{Done}
use Rattle.streamed_lines.specs.declared.ending.Ending.TheVariants.{Complete}
use Rattle.streamed_lines.specs.Bounds.{TakesFew}
use Rattle.streamed_lines.specs.Lines.{lines_in, text_of}
use Rattle.streamed_lines.specs.Streams.{Rules, Stream, Streamed, no_lines, with_answer, stream_from, stream_of}
use Rattle.streamed_lines.specs.Reading.{RunsTo, next_text}
use Rattle.streamed_lines.proofs.StreamLaws.{runs-none}
use Rattle.node_runs.specs.Disks.{KeepsNode}
use Rattle.node_runs.specs.Inits.{InitsPair}
use Rattle.node_runs.specs.Sessions.{Outside}
use Rattle.node_runs.specs.Runs.{node_rules, node_found, NodeSession}
use Rattle.node_runs.specs.Operators.{desk_records_in, RunsOperator}
use Rattle.node_lives.specs.Disks.{Stays}
use Rattle.node_lives.specs.Calls.{BothDisks, ToBegin, ToRun}
use Rattle.node_lives.specs.Lives.{IsLife}
use Rattle.node_lives.specs.Standing.{IsIdentityOf, desk_leaves}
use Rattle.node_lives.specs.Samples.{Drive, told, foretold, met, first_line}
use Rattle.node_lives.proofs.Roles.{ok-of, role-found}
use Rattle.node_lives.proofs.Drives.{after, asked, telling, blank, opened, opened_settled, made_settled, begun_leaves, begun_leaves_settled}
use Rattle.node_lives.proofs.SampleLines.{chain, chain-read}
use Rattle.key_lives.specs.Desks.{desk_ran_behind, desk_ran, desk_ran_by}
use Rattle.key_lives.specs.DeskSample.{identity, transfer, deposit_line, receipt_line, SmallDeskLife, SmallDeskLifeIsOne}
use Rattle.key_lives.proofs.SignerSample.{passes_init, opens_part}
use Rattle.key_lives.proofs.DeskLines.{plain, answered-line, fits-limits, line-text, deposit-read, receipt-read, not-end, deposit-plain, receipt-plain, deposit-short, receipt-short, log, receipt, note, leaf, issue, issue-is, note-fits, leaf-fits}

-- ---- the disks

abbrev begun_notes : Drive
begun_notes = after passed (init_steps identity) false (asked false blank)

begun_notes_settled : IsSettled begun_notes.history (identity ∷ [])
begun_notes_settled =
    appends_settle _ [] identity (made_settled (asked false blank).history refl) (lit≤ tt)

abbrev notes : Drive
notes = opened begun_notes

abbrev keys : Drive
keys = opened begun_leaves

abbrev marked : Drive
marked = after passed (note_steps [] marker) false keys

notes_settled : IsSettled notes.history (identity ∷ [])
notes_settled = opened_settled begun_notes (identity ∷ []) begun_notes_settled

keys_settled : IsSettled keys.history []
keys_settled = opened_settled begun_leaves [] begun_leaves_settled

marked_settled : IsSettled marked.history (marker ∷ [])
marked_settled = appends_settle keys.history [] marker keys_settled (lit≤ tt)

-- ---- the init

init_passes : InitsPair told foretold met (Some []) (Some (codes "made" ++ 10 ∷ [])) Done identity blank blank
    begun_notes begun_leaves
init_passes = record {
  answer = Ok tt;
  inits = (
    asked false blank,
    record {
      called = record { history = refl; fails = λ plan is. absurd (cc is); goes_on = refl };
      count = refl;
    },
    (passes_init (init_steps identity) (asked false blank) refl, passes_init journal_steps blank refl),
  );
  begun = telling begun_notes (λ now. IsSettled now (identity ∷ [])) begun_notes_settled;
  empty = telling begun_leaves (λ now. IsSettled now []) begun_leaves_settled;
  ends = (refl, refl);
}

-- ---- the opening

abbrev opened_notes : NotesState Drive
opened_notes = record { disk = notes; closed = false; records = identity ∷ [] }

abbrev opened_keys : NotesState Drive
opened_keys = record { disk = keys; closed = false; records = [] }

operator_are : are_of operator_kinds (identity ∷ []) ≡ true
unfolding identity_in
operator_are = refl

opens_notes : Opened told foretold met (role_in operator_kinds) begun_notes opened_notes
opens_notes =
    opens_part (role_in operator_kinds) begun_notes (identity ∷ []) begun_notes_settled
    (role-found operator_kinds (content begun_notes.history) (identity ∷ []) begun_notes_settled.read operator_are)

opens_keys : Opened told foretold met (desk_records_in (replicate 32 0)) begun_leaves opened_keys
unfolding records_behind_of
opens_keys =
    opens_part (desk_records_in (replicate 32 0)) begun_leaves [] begun_leaves_settled
    (ap (leaf_records_read_of is_promise (desk_leaves (replicate 32 0)))
    (ok-of (journal_in (content begun_leaves.history)) [] begun_leaves_settled.read))

-- ---- lines

-- a last line
one-line : (text : List ℕ) → plain text ≡ true → lines_in (text ++ 10 ∷ []) ≡ (text ++ 10 ∷ []) ∷ []
unfolding lines_in
one-line [] is = refl
one-line (byte ∷ text) is =
    let parts = and_parts (not (byte == 10)) (plain text) is in
    let other : (byte == 10) ≡ false = not-true (byte == 10) parts.0 in
    rw (other, one-line text parts.1) refl

at-last : (cut : List (List ℕ)) (line : List ℕ) → slice_index_or (cut ++ line ∷ []) (length cut) [] ≡ line
at-last [] line = refl
at-last (first ∷ cut) line = at-last cut line

migrate-read : operator_line_in (codes "migrate") ≡ Some OperatorLine.Migrate
unfolding operator_line_in value_in
migrate-read = refl

module _ (dig : List ℕ → List ℕ) (long : (bytes : List ℕ) → length (dig bytes) ≡ 32) where
  abbrev parts : Parts (NotesState Drive)
  parts = both opened_notes opened_keys

  abbrev found : NodeAt NotesAt
  found = node_found told foretold met dig parts

  abbrev rules : Rules (SessionState (NodeAt NotesAt)) (List ℕ)
  rules = node_rules told foretold met dig desk_commands parts

  abbrev first : SessionState (NodeAt NotesAt)
  first = begun found

  abbrev logged : Chain
  logged = with_log chain (log dig long)

  abbrev named : SessionState (NodeAt NotesAt)
  named = record { log = Some chain; is_over = false; node = found }

  abbrev deposited : SessionState (NodeAt NotesAt)
  deposited = record { log = Some logged; is_over = false; node = found }

  abbrev over : SessionState (NodeAt NotesAt)
  over = record { log = Some logged; is_over = true; node = found }

  abbrev migration : Outcome
  migration = record { says = Ok (codes "migrated" ++ 10 ∷ []); note = None; leaf = Some marker }

  abbrev ready : SessionState (NodeAt NotesAt)
  ready = record over { node = keeping found (with_effect with_note found.kept migration) }

  abbrev given : Outcome
  given = issue_outcome 1 2 (issue dig long)

  abbrev last : SessionState (NodeAt NotesAt)
  last = record ready { node = keeping ready.node (with_effect with_note ready.node.kept given) }

  abbrev answer : List ℕ
  answer = promised_text 1 2 (receipt dig long)

  -- what each line comes to
  names : rules.next first first_line ≡ Ok (named, [])
  unfolding next_line who_is identity_in
  names = ap (λ (c : Option Chain). joins first (first_log (replicate 32 0) c)) chain-read

  deposits : rules.next named deposit_line ≡ Ok (deposited, [])
  unfolding next_line
  deposits = grind (arith, common_steps, chain, not-end, deposit-read) steps 20000

  ends-log : rules.next deposited (codes "--") ≡ Ok (over, [])
  unfolding next_line
  ends-log = refl

  migrates : rules.next over (codes "migrate") ≡ Ok (ready, codes "migrated" ++ 10 ∷ [])
  unfolding next_line desk_outcome
  migrates =
      ap (λ (c : Option OperatorLine). leaves over (command_line (node_does desk_commands) (log dig long) found c))
      migrate-read

  outcome-is : desk_outcome dig (log dig long) (desk_records (identity ∷ []) (marker ∷ []))
      (OperatorLine.Receipt transfer 2) ≡ given
  unfolding desk_outcome blocks
  outcome-is = ap (issue_outcome 1 2) (issue-is dig long)

  gives-receipt : rules.next ready receipt_line ≡ Ok (last, answer)
  unfolding next_line
  gives-receipt =
      ap (λ (c : Option OperatorLine). leaves ready
      (command_line (node_does desk_commands) (log dig long) ready.node c)) receipt-read
      ∙ ap (λ (o : Outcome). leaves ready (done (node_with with_note ready.node o))) outcome-is

  -- the streams behind them
  abbrev none : Stream (SessionState (NodeAt NotesAt))
  none = no_lines first

  abbrev one : Stream (SessionState (NodeAt NotesAt))
  one = with_answer none (named, [])

  abbrev two : Stream (SessionState (NodeAt NotesAt))
  two = with_answer one (deposited, [])

  abbrev three : Stream (SessionState (NodeAt NotesAt))
  three = with_answer two (over, [])

  abbrev four : Stream (SessionState (NodeAt NotesAt))
  four = with_answer three (ready, codes "migrated" ++ 10 ∷ [])

  abbrev five : Stream (SessionState (NodeAt NotesAt))
  five = with_answer four (last, answer)

  -- and the bytes
  abbrev to_one : List ℕ
  to_one = [] ++ (first_line ++ 10 ∷ [])

  abbrev to_two : List ℕ
  to_two = to_one ++ (deposit_line ++ 10 ∷ [])

  abbrev to_three : List ℕ
  to_three = to_two ++ (codes "--" ++ 10 ∷ [])

  abbrev to_four : List ℕ
  to_four = to_three ++ (codes "migrate" ++ 10 ∷ [])

  abbrev input : List ℕ
  input = to_four ++ (receipt_line ++ 10 ∷ [])

  long-two : length to_two ≤ 1000
  long-two = grind (arith, common_steps, deposit-short) steps 20000

  long-four : length to_four ≤ 2000
  long-four = grind (arith, common_steps, long-two) steps 20000

  runs-one : RunsTo rules first to_one one
  runs-one =
      answered-line rules first [] first_line none (named, []) (runs-none rules first) refl
      (fits-limits 1 0 first_line (lit≤ tt) (lit≤ tt) (lit≤ tt)) names

  runs-two : RunsTo rules first to_two two
  runs-two =
      answered-line rules first to_one deposit_line one (deposited, []) runs-one deposit-plain
      (fits-limits 2 (length to_one) deposit_line (lit≤ tt) (lit≤ tt) (omega (arith, deposit-short))) deposits

  runs-three : RunsTo rules first to_three three
  runs-three =
      answered-line rules first to_two (codes "--") two (over, []) runs-two refl
      (fits-limits 3 (length to_two) (codes "--") (lit≤ tt) (omega (arith, long-two)) (lit≤ tt)) ends-log

  runs-four : RunsTo rules first to_four four
  runs-four =
      answered-line rules first to_three (codes "migrate") three (ready, codes "migrated" ++ 10 ∷ []) runs-three refl
      (fits-limits 4 (length to_three) (codes "migrate") (lit≤ tt)
      (omega (arith, long-two, length-append to_two (codes "--" ++ 10 ∷ []))) (lit≤ tt)) migrates

  runs-five : RunsTo rules first input five
  runs-five =
      answered-line rules first to_four receipt_line four (last, answer) runs-four receipt-plain
      (fits-limits 5 (length to_four) receipt_line (lit≤ tt) (omega (arith, long-four)) (omega (arith, receipt-short)))
      gives-receipt

  -- the line of the receipt
  next-is : next_text input four ≡ receipt_line
  next-is =
      ap text_of (ap (λ (ls : List (List ℕ)). slice_index_or ls 4 [])
      (runs-four.cuts (receipt_line ++ 10 ∷ [])
      ∙ ap (λ (ls : List (List ℕ)). runs-four.cut ++ ls) (one-line receipt_line receipt-plain))
      ∙ ap (λ (n : ℕ). slice_index_or (runs-four.cut ++ (receipt_line ++ 10 ∷ []) ∷ []) n []) (sym runs-four.count)
      ∙ at-last runs-four.cut (receipt_line ++ 10 ∷ []))
      ∙ line-text receipt_line

  streamed-is : stream_of rules first input true ≡ record { stream = five; ending = Complete }
  unfolding stream_of stream_from lines_in
  streamed-is =
      ap (stream_from rules true 0 none) (ap lines_in (sym (append-nil input)) ∙ runs-five.cuts [])
      ∙ runs-five.streams true []

  -- ---- the run

  abbrev new_notes : Drive
  new_notes = after passed (note_steps (identity ∷ []) (note dig long)) false notes

  abbrev new_keys : Drive
  new_keys = after passed (note_steps (marker ∷ []) (leaf dig long)) false marked

  abbrev outside : Outside
  outside = record { left = Some input; later = Some []; taken = Some []; after = Some five.text }

  keeps : KeepsNode told met last.node.kept (both new_notes new_keys)
  keeps = (
    record {
      told_is = refl;
      faults_are = refl;
      settled =
          telling new_notes (λ now. IsSettled now (identity ∷ note dig long ∷ []))
          (appends_settle notes.history (identity ∷ []) (note dig long) notes_settled (note-fits dig long));
    },
    record {
      told_is = refl;
      faults_are = refl;
      settled =
          telling new_keys (λ now. IsSettled now (marker ∷ leaf dig long ∷ []))
          (appends_settle marked.history (marker ∷ []) (leaf dig long) marked_settled (leaf-fits dig long));
    },
  )

  session : NodeSession told foretold met dig desk_commands parts (both new_notes new_keys) outside (Unit {0}) Done
  unfolding last_text
  session = inl (record {
    bytes = input;
    ended = true;
    gave = record { given = ap Some (sym (append-nil input)); end = λ is. refl };
    ends =
        subst (λ (s : Streamed (SessionState (NodeAt NotesAt)) (List ℕ)).
        EndsAs (session_output s) Done (Some []) (Some five.text) (Unit {0})) (sym streamed-is)
        (refl, ap Some (sym (append-nil five.text)));
    few =
        subst (λ (s : Streamed (SessionState (NodeAt NotesAt)) (List ℕ)). TakesFew input s.ending) (sym streamed-is)
        tt;
    left =
        subst (λ (s : Streamed (SessionState (NodeAt NotesAt)) (List ℕ)).
        KeepsNode told met s.stream.run.node.kept (both new_notes new_keys)) (sym streamed-is) keeps;
  })

  run : RunsOperator told foretold met dig begun_notes begun_leaves new_notes new_keys outside (Unit {0}) Done
  unfolding RunsOperator who_is identity_in
  run = inl (opened_notes, opens_notes, inl (opened_keys, opens_keys, session))

  -- ---- the life

  is_identity : IsIdentityOf dig Operator identity
  unfolding who_is identity_in
  is_identity = record {
    is = refl;
    bytes = (small-cons 38 (lit< tt) (small-zeros 72)).are;
    digests = long;
  }

  small_life : SmallDeskLife dig
  unfolding IsLife desk_ran_behind desk_ran desk_ran_by run session who_is identity_in
  small_life = record {
    begun = record {
      asked = ToBegin BothDisks identity;
      old = record { notes = blank; leaves = blank };
      new = record { notes = begun_notes; leaves = begun_leaves };
      outside = record { left = Some []; later = Some []; taken = Some []; after = Some (codes "made" ++ 10 ∷ []) };
      status = Done;
      did = inl init_passes;
    };
    ran = record {
      asked = ToRun Operator;
      old = record { notes = begun_notes; leaves = begun_leaves };
      new = record { notes = new_notes; leaves = new_keys };
      outside = outside;
      status = Done;
      did = inl run;
    };
    life = ((refl, refl), (Stays refl, Stays refl), ((refl, refl), tt, tt));
    begins = record { identity = identity; is = is_identity; asked = refl; made = refl };
    asked_is = refl;
    status_is = refl;
    receipt = receipt dig long;
    gives = record {
      ran = record { opened = opened_notes; desk = opened_keys; lines = record { bytes = input; stream = five } };
      is =
          ap (λ (s : Streamed (SessionState (NodeAt NotesAt)) (List ℕ)). Some (record {
            opened = opened_notes;
            desk = opened_keys;
            lines = record { bytes = input; stream = s.stream };
          })) streamed-is;
      before = four;
      lines = record { front = to_four; rest = receipt_line ++ 10 ∷ []; whole = refl; runs = runs-four };
      answered = lit< tt;
      line = OperatorLine.Receipt transfer 2;
      spelled = ap operator_line_in next-is ∙ receipt-read;
      transfer = transfer;
      due = 2;
      ordered = refl;
      leaf = refl;
      gives = ap (λ (e : IssueEffect). e.answer) (issue-is dig long);
    };
  }

pub small_desk_life : SmallDeskLifeIsOne
small_desk_life = small_life
