-- What the records have with what one line of a session adds they have behind the lines that follow it.
use Rattle.std.proofs.Common.{◌≡◌, ◌≤◌, ◌<◌, ◌+◌, ℕ, true, List, Option, Some, is_some, None, option_map, Ok, refl, sym, ap, ◌∙◌, subst, inl, inr, arith}
use Rattle.std.proofs.lemmas.Grind.{common_steps}
use Rattle.crash_disk.specs.Disk.{History, FaultPlan}
use Rattle.plasma_tx.specs.declared.call.RootCall.{RootCall}
use Rattle.plasma_tx.specs.Views.{blocks}
use Rattle.node_journal.specs.Notes.{NotesState}
use Rattle.node_rules.specs.Wallet.{WalletRecords}
use Rattle.streamed_lines.specs.declared.TheConstants.{MOST_LINES}
use Rattle.streamed_lines.specs.Lines.{text_of}
use Rattle.streamed_lines.specs.Streams.{Rules, Stream, with_answer}
use Rattle.streamed_lines.specs.Reading.{next_text}
use Rattle.run_endings.specs.declared.status.Status.{Status}
use Rattle.node_roles.specs.Notes.{NotesAt, with_note}
use Rattle.node_journal.specs.Parts.{Parts}
use Rattle.node_roles.specs.Parts.{with_effect}
use Rattle.node_roles.specs.Nodes.{NodeAt, keeping, Commands, outcome_at, node_does}
use Rattle.node_sessions.specs.Sessions.{SessionState, begun, calls_of, commanded}
use Rattle.node_runs.specs.Sessions.{Outside, Begins}
use Rattle.node_runs.specs.Disks.{opened_at}
use Rattle.node_runs.specs.Runs.{node_found, node_rules, NodeSession}
use Rattle.node_lives.specs.Standing.{GoOn}
use Rattle.node_lives.specs.Answered.{kept_at, lines_answered}
use Rattle.node_lives.proofs.Within.{GoesOn, on-to-end, on-to-more}
use Rattle.node_lives.proofs.Sessions.{lines-hold, run-holds, spelled-in, does-in}
use Rattle.node_lives.proofs.Own.{with_added, with-added, left-is, IsOwn, anew, Growing, own-step}

mapped : {A B : Type 0} (f : A → B) (found : Option A) → is_some found ≡ true → is_some (option_map f found) ≡ true
mapped f None is = absurd (cc is)
mapped f (Some a) is = refl

module _ {D : Type 0} (told : D → Option History) (plan : D → Option FaultPlan) (faults : D → ℕ)
    (dig : List ℕ → List ℕ) {L : Type 0} (commands : Commands L) (Good : WalletRecords → Type 0)
    (growing : Growing dig Good commands) (opened : Parts (NotesState D)) (disks : Parts D) (outside : Outside)
    (failed : Type 0) (status : Status) (first : WalletRecords)
    (own : IsOwn dig Good first (node_found told plan faults dig opened)) (leaved : is_some opened.leaves ≡ true)
  where
    abbrev found : NodeAt NotesAt
    found = node_found told plan faults dig opened

    abbrev tag : List ℕ
    tag = commands.tag opened.notes.records

    abbrev rules : Rules (SessionState (NodeAt NotesAt)) (List ℕ)
    rules = node_rules told plan faults dig commands opened

    abbrev Session : Type 0
    Session = NodeSession told plan faults dig commands opened disks outside failed status

    abbrev Own : WalletRecords → NodeAt NotesAt → Type 0
    Own start at = IsOwn dig Good start at

    step : (start : WalletRecords) (log : List RootCall) (at : NodeAt NotesAt) (line : List ℕ) (command : L)
        (left : NodeAt NotesAt) (text : List ℕ) → blocks log ≤ MOST_LINES → commands.command_in line ≡ Some command
        → Own start at → node_does commands log at command ≡ Ok (left, text) → Own start left
    step = own-step dig Good commands growing

    -- its leaves are there
    abbrev HasLeaves : NodeAt NotesAt → Type 0
    HasLeaves at = is_some at.kept.leaves ≡ true

    leaves-step : (log : List RootCall) (at : NodeAt NotesAt) (line : List ℕ) (command : L)
        (left : NodeAt NotesAt) (text : List ℕ) → blocks log ≤ MOST_LINES → commands.command_in line ≡ Some command
        → HasLeaves at → node_does commands log at command ≡ Ok (left, text) → HasLeaves left
    leaves-step log at line command left text few spells has did =
        grind (arith, common_steps, left-is, mapped) steps 20000

    -- a line of the session on the way to others, with which something holds that stays
    module _ (Holds : WalletRecords → Type 0)
        (stays : (one other : WalletRecords) → GoOn one other → Holds one → Holds other) (bytes : List ℕ)
        (before : Stream (SessionState (NodeAt NotesAt))) (lines : Begins rules (begun found) bytes before) (line : L)
        (spelled : commanded commands.command_in before.run (next_text bytes before) ≡ Some line)
        (adds : IsOwn dig Good first before.run.node → blocks (calls_of before.run.log) ≤ MOST_LINES
        → Holds (with_added (kept_at before.run.node) (outcome_at commands (calls_of before.run.log) before.run.node
        line).note (outcome_at commands (calls_of before.run.log) before.run.node line).leaf)) where
      abbrev at : NodeAt NotesAt
      at = before.run.node

      abbrev log : List RootCall
      log = calls_of before.run.log

      behind-holds : (stream : Stream (SessionState (NodeAt NotesAt))) (spelling : List ℕ)
          → next_text bytes before ≡ text_of spelling → GoesOn rules before spelling stream
          → Holds (kept_at stream.run.node)
      behind-holds stream spelling texts goes =
          let outcome = outcome_at commands log at line in
          let holds = run-holds tag commands.command_in (node_does commands) (Own first) (step first) found
          lines.front before lines.runs own in
          let has = (run-holds tag commands.command_in (node_does commands) HasLeaves leaves-step found lines.front
          before lines.runs (mapped (opened_at told faults) opened.leaves leaved)).node in
          let answers : rules.next before.run (next_text bytes before) ≡ Ok goes.answered =
          ap (rules.next before.run) texts ∙ goes.is in
          let does = does-in tag commands.command_in (node_does commands) before.run (next_text bytes before) line
          spelled holds.logged goes.answered answers in
          let next = goes.answered.0.node in
          let node : keeping at (with_effect with_note at.kept outcome) ≡ next =
          left-is (keeping at (with_effect with_note at.kept outcome)) outcome.says does.left does.did ∙ sym does.node
          in
          let few : blocks log ≤ MOST_LINES = omega (arith, holds.few, goes.few) in
          let after : Own first next =
          subst (Own first) (sym does.node)
          (step first log at (next_text bytes before) line does.left.0 does.left.1 few
          (spelled-in commands.command_in before.run (next_text bytes before) line spelled) holds.node does.did) in
          let there = lines-hold tag commands.command_in (node_does commands) (Own (kept_at next))
          (step (kept_at next)) goes.ended goes.start (with_answer before goes.answered) goes.lines (record {
            node = anew dig Good first next after;
            few = subst (λ (l : _). blocks (calls_of l) ≤ before.count + 1) (sym does.log) (omega (arith, holds.few));
            logged = λ over. subst (λ (l : _). is_some l ≡ true) (sym does.log) (holds.logged (sym does.over ∙ over));
          }) in
          let on : GoOn (kept_at next) (kept_at stream.run.node) =
          subst (λ (s : Stream (SessionState (NodeAt NotesAt))). GoOn (kept_at next) (kept_at s.run.node))
          (sym goes.behind)
          there.node.on in
          stays (kept_at next) (kept_at stream.run.node) on
          (subst (λ (n : NodeAt NotesAt). Holds (kept_at n)) node
          (with-added Holds at.kept outcome (λ none. absurd (cc (none, has))) (adds holds.node few)))

    -- a line that the session answered
    pub session-holds : (Holds : WalletRecords → Type 0)
        → ((one other : WalletRecords) → GoOn one other → Holds one → Holds other) → (session : Session)
        → (before : Stream (SessionState (NodeAt NotesAt)))
        → Begins rules (begun found) (lines_answered session).bytes before
        → before.count < (lines_answered session).stream.count → (line : L)
        → commanded commands.command_in before.run (next_text (lines_answered session).bytes before) ≡ Some line
        → (IsOwn dig Good first before.run.node → blocks (calls_of before.run.log) ≤ MOST_LINES
        → Holds (with_added (kept_at before.run.node) (outcome_at commands (calls_of before.run.log) before.run.node
        line).note (outcome_at commands (calls_of before.run.log) before.run.node line).leaf))
        → Holds (kept_at (lines_answered session).stream.run.node)
    session-holds Holds stays (inl answered) before lines more line spelled adds =
        let on = on-to-end rules before _ more (begun found) answered.bytes lines.front lines.rest lines.whole
        lines.runs answered.ended refl in
        behind-holds Holds stays answered.bytes before lines line spelled adds _ on.0 on.1 on.2
    session-holds Holds stays (inr (inl faulted)) before lines more line spelled adds =
        let on = on-to-more rules before _ more (begun found) faulted.bytes lines.front lines.rest lines.whole
        lines.runs faulted.begins.front faulted.begins.rest faulted.begins.whole faulted.begins.runs in
        behind-holds Holds stays faulted.bytes before lines line spelled adds _ on.0 on.1 on.2
    session-holds Holds stays (inr (inr broken)) before lines more line spelled adds =
        let on = on-to-more rules before _ more (begun found) broken.bytes lines.front lines.rest lines.whole lines.runs
        broken.begins.front broken.begins.rest broken.begins.whole broken.begins.runs in
        behind-holds Holds stays broken.bytes before lines line spelled adds _ on.0 on.1 on.2
