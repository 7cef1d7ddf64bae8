-- What a wallet's run gave out by a leaf is what the leaf binds in the records that the run left.
use Rattle.std.proofs.Common.{◌≡◌, ◌≤◌, ◌<◌, ◌+◌, ◌++◌, ◌^◌, ℕ, true, List, Option, Some, is_some, None, option_map, Ok, refl, sym, ap, ◌∙◌, subst, inl, inr, arith}
use Rattle.std.proofs.lemmas.Grind.{common_steps}
use Rattle.crash_disk.specs.Disk.{History, FaultPlan}
use Rattle.plasma_tx.specs.declared.call.RootCall.{RootCall}
use Rattle.plasma_tx.specs.Views.{blocks}
use Rattle.node_rules.specs.Wallet.{WalletRecords, who as wallet_is}
use Rattle.node_rules.specs.WalletRecords.{wallet_kinds, who_is}
use Rattle.node_rules.proofs.WalletGrow.{who-same, wallet-parts}
use Rattle.streamed_lines.specs.declared.TheConstants.{MOST_LINES}
use Rattle.streamed_lines.specs.Lines.{text_of}
use Rattle.streamed_lines.specs.Streams.{Rules, Stream, with_answer}
use Rattle.streamed_lines.specs.Reading.{next_text}
use Rattle.run_endings.specs.declared.status.Status.{Status}
use Rattle.wallet_node.specs.State.{WalletState}
use Rattle.node_replies.specs.declared.reply.Reply.{Reply}
use Rattle.node_replies.specs.declared.order.WalletOrder.{WalletOrder}
use Rattle.node_lines.specs.declared.wallet_line.WalletLine.{WalletLine}
use Rattle.node_lines.specs.Grammar.{wallet_line_in}
use Rattle.node_lines.proofs.GrammarLaws.{wallet_line_text-in}
use Rattle.node_answers.specs.Answers.{wallet_outcome}
use Rattle.node_roles.specs.Notes.{NotesAt, with_note}
use Rattle.node_journal.specs.Parts.{both}
use Rattle.node_roles.specs.Parts.{with_effect}
use Rattle.node_roles.specs.Nodes.{NodeAt, keeping, outcome_at, node_does}
use Rattle.node_roles.specs.Roles.{wallet_parts, wallet_commands}
use Rattle.node_sessions.specs.Sessions.{SessionState, begun, calls_of, commanded}
use Rattle.node_runs.specs.Sessions.{Outside, Begins}
use Rattle.node_runs.specs.Runs.{node_found, node_rules, NodeSession}
use Rattle.node_lives.specs.Standing.{GoOn}
use Rattle.node_lives.specs.Answered.{kept_at, lines_answered, gives_at}
use Rattle.node_lives.proofs.Within.{GoesOn, on-to-end, on-to-more}
use Rattle.node_lives.proofs.Sessions.{lines-hold, run-holds, spelled-in, does-in}
use Rattle.node_lives.proofs.Roles.{begins-with}
use Rattle.node_lives.proofs.WalletOrders.{IsGood}
use Rattle.node_lives.proofs.Own.{with_added, with-added, left-is, IsOwn, anew, own-step}
use Rattle.node_lives.proofs.OwnWallet.{few-blocks, wallet-grows}
use Rattle.node_lives.proofs.LeafTexts.{IsOfLeaf, sane-order, order-gives, leaf-stays}

-- records that go on are those of the same wallet
pub same-who : (dig : List ℕ → List ℕ) (wallet later : WalletRecords) → IsGood dig wallet → GoOn wallet later
    → wallet_is later ≡ wallet_is wallet
same-who dig wallet later good on =
    let b = begins-with (wallet_kinds dig) wallet.notes (wallet-parts dig wallet good.is).role in
    ap who_is (on.notes.1 ∙ ap (λ (l : List (List ℕ)). l ++ on.notes.0) b.are)
    ∙ who-same b.identity b.notes on.notes.0 ∙ ap who_is (sym b.are)

mapped : {A B : Type 0} (f : A → B) (found : Option A) → is_some found ≡ true → is_some (option_map f found) ≡ true
mapped f None is = absurd (cc is)
mapped f (Some a) is = refl

module _ {D : Type 0} (told : D → Option History) (plan : D → Option FaultPlan) (faults : D → ℕ)
    (dig : List ℕ → List ℕ) (new_notes new_leaves : D) (outside : Outside) (failed : Type 0) (status : Status)
    (opened : WalletState D (Unit {0})) (first : WalletRecords)
    (own : IsOwn dig (IsGood dig) first (node_found told plan faults dig (wallet_parts opened)))
  where
    abbrev found : NodeAt NotesAt
    found = node_found told plan faults dig (wallet_parts opened)

    abbrev tag : List ℕ
    tag = wallet_commands.tag opened.records.notes

    abbrev rules : Rules (SessionState (NodeAt NotesAt)) (List ℕ)
    rules = node_rules told plan faults dig wallet_commands (wallet_parts opened)

    abbrev Session : Type 0
    Session =
        NodeSession told plan faults dig wallet_commands (wallet_parts opened) (both new_notes new_leaves) outside
        failed status

    abbrev Own : WalletRecords → NodeAt NotesAt → Type 0
    Own start at = IsOwn dig (IsGood dig) start at

    step : (start : WalletRecords) (log : List RootCall) (at : NodeAt NotesAt) (line : List ℕ) (command : WalletLine)
        (left : NodeAt NotesAt) (text : List ℕ) → blocks log ≤ MOST_LINES → wallet_line_in line ≡ Some command
        → Own start at → node_does wallet_commands log at command ≡ Ok (left, text) → Own start left
    step = own-step dig (IsGood dig) wallet_commands (wallet-grows dig)

    -- its leaves are there
    abbrev HasLeaves : NodeAt NotesAt → Type 0
    HasLeaves at = is_some at.kept.leaves ≡ true

    leaves-step : (log : List RootCall) (at : NodeAt NotesAt) (line : List ℕ) (command : WalletLine)
        (left : NodeAt NotesAt) (text : List ℕ) → blocks log ≤ MOST_LINES → wallet_line_in line ≡ Some command
        → HasLeaves at → node_does wallet_commands log at command ≡ Ok (left, text) → HasLeaves left
    leaves-step log at line command left text few spells has did =
        grind (arith, common_steps, left-is, mapped) steps 20000

    -- a line of the session on the way to others
    module _ (bytes : List ℕ) (before stream : Stream (SessionState (NodeAt NotesAt)))
        (lines : Begins rules (begun found) bytes before) (order : WalletOrder)
        (spelled : commanded wallet_line_in before.run (next_text bytes before) ≡ Some (WalletLine.Order order)) (q : ℕ)
        (reply : (gives_at told plan faults dig before.run order).reply ≡ Reply.Sent q) where
      abbrev at : NodeAt NotesAt
      at = before.run.node

      abbrev log : List RootCall
      log = calls_of before.run.log

      abbrev line : WalletLine
      line = WalletLine.Order order

      -- what it gives out is of the leaf
      next-gives : Own first at → blocks log < 2 ^ 64
          → IsOfLeaf (with_added (kept_at at) (outcome_at wallet_commands log at line).note
          (outcome_at wallet_commands log at line).leaf) q (gives_at told plan faults dig before.run order).made
      unfolding wallet_outcome
      next-gives here few =
          let good : IsGood at.dig (kept_at at) =
          subst (λ (d : List ℕ → List ℕ). IsGood d (kept_at at)) (sym here.dig_is) here.good in
          let command = spelled-in wallet_line_in before.run (next_text bytes before) line spelled in
          order-gives at.dig log (kept_at at) good few order
          (sane-order order (wallet_line_text-in (next_text bytes before) line command).1) q reply

      behind-gives : (spelling : List ℕ) → next_text bytes before ≡ text_of spelling → GoesOn rules before spelling
          stream
          → IsOfLeaf (kept_at stream.run.node) q (gives_at told plan faults dig before.run order).made
      behind-gives spelling texts goes =
          let outcome = outcome_at wallet_commands log at line in
          let holds = run-holds tag wallet_line_in (node_does wallet_commands) (Own first) (step first) found
          lines.front before lines.runs own in
          let has = (run-holds tag wallet_line_in (node_does wallet_commands) HasLeaves leaves-step found lines.front
          before lines.runs refl).node in
          let answers : rules.next before.run (next_text bytes before) ≡ Ok goes.answered =
          ap (rules.next before.run) texts ∙ goes.is in
          let does = does-in tag wallet_line_in (node_does wallet_commands) before.run (next_text bytes before) line
          spelled holds.logged goes.answered answers in
          let next = goes.answered.0.node in
          let node : keeping at (with_effect with_note at.kept outcome) ≡ next =
          left-is (keeping at (with_effect with_note at.kept outcome)) outcome.says does.left does.did ∙ sym does.node
          in
          let few : blocks log ≤ MOST_LINES = omega (arith, holds.few, goes.few) in
          let after : Own first next =
          subst (Own first) (sym does.node)
          (step first log at (next_text bytes before) line does.left.0 does.left.1 few
          (spelled-in wallet_line_in before.run (next_text bytes before) line spelled) holds.node does.did) in
          let there = lines-hold tag wallet_line_in (node_does wallet_commands) (Own (kept_at next))
          (step (kept_at next)) goes.ended goes.start (with_answer before goes.answered) goes.lines (record {
            node = anew dig (IsGood dig) first next after;
            few = subst (λ (l : _). blocks (calls_of l) ≤ before.count + 1) (sym does.log) (omega (arith, holds.few));
            logged = λ over. subst (λ (l : _). is_some l ≡ true) (sym does.log) (holds.logged (sym does.over ∙ over));
          }) in
          let on : GoOn (kept_at next) (kept_at stream.run.node) =
          subst (λ (s : Stream (SessionState (NodeAt NotesAt))). GoOn (kept_at next) (kept_at s.run.node))
          (sym goes.behind)
          there.node.on in
          leaf-stays (kept_at next) (kept_at stream.run.node) q _ on (same-who dig (kept_at next) _ after.good on)
          (subst (λ (n : NodeAt NotesAt). IsOfLeaf (kept_at n) q (gives_at told plan faults dig before.run order).made)
          node
          (with-added (λ (r : WalletRecords). IsOfLeaf r q (gives_at told plan faults dig before.run order).made)
          at.kept outcome (λ none. absurd (cc (none, has)))
          (next-gives holds.node (few-blocks (blocks log) few))))

    -- a line that the session answered
    pub session-gives : (session : Session) (before : Stream (SessionState (NodeAt NotesAt)))
        (lines : Begins rules (begun found) (lines_answered session).bytes before)
        → before.count < (lines_answered session).stream.count → (order : WalletOrder)
        → commanded wallet_line_in before.run (next_text (lines_answered session).bytes before)
        ≡ Some (WalletLine.Order order)
        → (q : ℕ)
        → (gives_at told plan faults dig before.run order).reply ≡ Reply.Sent q
        → IsOfLeaf (kept_at (lines_answered session).stream.run.node) q
        (gives_at told plan faults dig before.run order).made
    session-gives (inl answered) before lines more order spelled q reply =
        let on = on-to-end rules before _ more (begun found) answered.bytes lines.front lines.rest lines.whole
        lines.runs
        answered.ended refl in
        behind-gives answered.bytes before _ lines order spelled q reply on.0 on.1 on.2
    session-gives (inr (inl faulted)) before lines more order spelled q reply =
        let on = on-to-more rules before _ more (begun found) faulted.bytes lines.front lines.rest lines.whole
        lines.runs
        faulted.begins.front faulted.begins.rest faulted.begins.whole faulted.begins.runs in
        behind-gives faulted.bytes before _ lines order spelled q reply on.0 on.1 on.2
    session-gives (inr (inr broken)) before lines more order spelled q reply =
        let on = on-to-more rules before _ more (begun found) broken.bytes lines.front lines.rest lines.whole lines.runs
        broken.begins.front broken.begins.rest broken.begins.whole broken.begins.runs in
        behind-gives broken.bytes before _ lines order spelled q reply on.0 on.1 on.2
