-- The session of a run, as the commands that it answered: where they leave the node, and what its log is.
use Rattle.std.proofs.Common.{◌≡◌, ◌≤◌, ◌<◌, ◌^◌, ℕ, true, false, List, [], Option, Some, None, is_some, Ok, refl, sym, ap, ◌∙◌, subst, arith, inl, inr}
use Rattle.std.specs.Prelude.{option_map}
use Rattle.std.proofs.lemmas.Grind.{common_steps}
use Rattle.crash_disk.specs.Disk.{History, FaultPlan}
use Rattle.plasma_tx.specs.declared.call.RootCall.{RootCall}
use Rattle.plasma_tx.specs.Chain.{Chain}
use Rattle.plasma_tx.specs.Views.{blocks}
use Rattle.node_journal.specs.Notes.{NotesState}
use Rattle.node_journal.specs.Parts.{Parts}
use Rattle.streamed_lines.specs.declared.TheConstants.{MOST_LINES}
use Rattle.streamed_lines.specs.Streams.{Stream}
use Rattle.streamed_lines.specs.Reading.{RunsTo}
use Rattle.node_rules.specs.Wallet.{WalletRecords}
use Rattle.node_lines.specs.declared.wallet_line.WalletLine.{WalletLine}
use Rattle.node_replies.specs.declared.order.WatcherOrder.{WatcherOrder}
use Rattle.node_answers.specs.Answers.{Outcome, watcher_outcome}
use Rattle.node_deeds.proofs.WatcherOrderLaws.{orders_add_no_leaf}
use Rattle.node_roles.specs.Notes.{NotesAt, with_note}
use Rattle.node_roles.specs.Parts.{with_effect}
use Rattle.node_roles.specs.Nodes.{NodeAt, keeping, records_at, Commands, outcome_at, node_does}
use Rattle.node_roles.specs.Roles.{wallet_records, watcher_commands, wallet_commands}
use Rattle.node_sessions.specs.Sessions.{SessionState, begun, calls_of, session_rules}
use Rattle.run_endings.specs.declared.status.Status.{Status}
use Rattle.node_runs.specs.Sessions.{Outside}
use Rattle.node_runs.specs.Runs.{node_found, NodeSession}
use Rattle.node_lives.specs.Answered.{Lines, kept_at, lines_answered}
use Rattle.node_lives.proofs.Own.{with-added, left-is}
use Rattle.node_lives.proofs.Sessions.{session-holds, run-holds}
use Rattle.chain_lives.specs.Steps.{Deed, left_by}
use Rattle.chain_lives.specs.Acts.{with_outcome, wallet_deed, watcher_deed, deeds_of, commands_in, log_in}
use Rattle.chain_lives.proofs.Streaming.{Finally, session-comes, run-comes}

-- ---- one command

-- a node of a wallet, which has leaves; and of a watcher, which has none
pub record IsWalletAt (dig : List ℕ → List ℕ) (at : NodeAt NotesAt) : Type 0 where
  pub dig_is : at.dig ≡ dig
  pub leaves : is_some at.kept.leaves ≡ true

pub record IsWatcherAt (dig : List ℕ → List ℕ) (at : NodeAt NotesAt) : Type 0 where
  pub dig_is : at.dig ≡ dig
  pub leaves : at.kept.leaves ≡ None

mapped-some : {A B : Type 0} (f : A → B) (o : Option A) → is_some o ≡ true → is_some (option_map f o) ≡ true
mapped-some f None is = absurd (cc is)
mapped-some f (Some x) is = refl

mapped-none : {A B : Type 0} (f : A → B) (o : Option A) → o ≡ None → option_map f o ≡ None
mapped-none f None is = refl
mapped-none f (Some x) is = absurd (cc is)

module _ (dig : List ℕ → List ℕ) where
  pub wallet-left : (at : NodeAt NotesAt) (outcome : Outcome) → is_some at.kept.leaves ≡ true
      → wallet_records (records_at (with_effect with_note at.kept outcome)) ≡ with_outcome (kept_at at) outcome
  wallet-left at outcome some =
      with-added (λ r. r ≡ with_outcome (kept_at at) outcome) at.kept outcome
      (λ none. absurd (cc (some, none))) refl

  pub wallet-step : (n : ℕ) (log : List RootCall) (at : NodeAt NotesAt) (command : WalletLine) (left : NodeAt NotesAt)
      (text : List ℕ) → IsWalletAt dig at → node_does wallet_commands log at command ≡ Ok (left, text)
      → IsWalletAt dig left × (kept_at left ≡ (wallet_deed n dig log (kept_at at) command).left)
  wallet-step n log at command left text is did =
      let outcome = outcome_at wallet_commands log at command in
      let now = keeping at (with_effect with_note at.kept outcome) in
      let same : now ≡ left = left-is now outcome.says (left, text) did in
      subst (λ (l : NodeAt NotesAt). IsWalletAt dig l × (kept_at l ≡ (wallet_deed n dig log (kept_at at) command).left))
      same (
        record { dig_is = is.dig_is; leaves = mapped-some _ at.kept.leaves is.leaves },
        wallet-left at outcome is.leaves
            ∙ ap (λ (d : List ℕ → List ℕ). with_outcome (kept_at at) (wallet_commands.comes_to d log
            (records_at at.kept) command)) is.dig_is,
      )

  pub watcher-left : (at : NodeAt NotesAt) (outcome : Outcome) → at.kept.leaves ≡ None → outcome.leaf ≡ None
      → wallet_records (records_at (with_effect with_note at.kept outcome)) ≡ with_outcome (kept_at at) outcome
  watcher-left at outcome none leafless =
      with-added (λ r. r ≡ with_outcome (kept_at at) outcome) at.kept outcome
      (λ off. ap (λ (o : Option (List ℕ)). with_outcome (kept_at at) (record outcome { leaf = o })) (sym leafless)) refl

  pub watcher-step : (n : ℕ) (log : List RootCall) (at : NodeAt NotesAt) (command : WatcherOrder)
      (left : NodeAt NotesAt) (text : List ℕ) → IsWatcherAt dig at
      → node_does watcher_commands log at command ≡ Ok (left, text)
      → IsWatcherAt dig left × (kept_at left ≡ (watcher_deed n dig log (kept_at at) command).left)
  unfolding watcher_outcome
  watcher-step n log at command left text is did =
      let outcome = outcome_at watcher_commands log at command in
      let now = keeping at (with_effect with_note at.kept outcome) in
      let same : now ≡ left = left-is now outcome.says (left, text) did in
      subst (λ (l : NodeAt NotesAt). IsWatcherAt dig l
      × (kept_at l ≡ (watcher_deed n dig log (kept_at at) command).left)) same (
        record { dig_is = is.dig_is; leaves = mapped-none _ at.kept.leaves is.leaves },
        watcher-left at outcome is.leaves (orders_add_no_leaf at.dig log (records_at at.kept).notes command)
            ∙ ap (λ (d : List ℕ → List ℕ). with_outcome (kept_at at) (watcher_commands.comes_to d log
            (records_at at.kept) command)) is.dig_is,
      )

-- ---- a session

-- a session's answered lines come to this: its node is where the commands among them leave the records that were found
pub record Comes {L : Type 0} (tag : List ℕ) (command_in : List ℕ → Option L)
    (does : List RootCall → WalletRecords → L → Deed) (Q : NodeAt NotesAt → Type 0) (found : WalletRecords)
    (lines : Lines (NodeAt NotesAt)) : Type 0 where
  pub node : Q lines.stream.run.node
  pub kept : kept_at lines.stream.run.node
      ≡ left_by found (deeds_of (does (log_in lines)) found (commands_in command_in lines))
  pub none : lines.stream.run.is_over ≡ false → commands_in command_in lines ≡ []
  pub logged : lines.stream.run.is_over ≡ true → is_some lines.stream.run.log ≡ true
  pub tagged : (chain : Chain) → lines.stream.run.log ≡ Some chain → chain.tag ≡ tag
  pub few : blocks (log_in lines) < 2 ^ 64

module _ {D : Type 0} (told : D → Option History) (plan : D → Option FaultPlan) (faults : D → ℕ)
    (dig : List ℕ → List ℕ) {L : Type 0} (commands : Commands L) (opened : Parts (NotesState D)) (disks : Parts D)
    (outside : Outside) (failed : Type 0) (status : Status)
    (does : List RootCall → WalletRecords → L → Deed) (Q : NodeAt NotesAt → Type 0)
    (step : (log : List RootCall) (at : NodeAt NotesAt) (command : L) (left : NodeAt NotesAt) (text : List ℕ) → Q at
    → node_does commands log at command ≡ Ok (left, text)
    → Q left × (kept_at left ≡ (does log (kept_at at) command).left))
    (here : Q (node_found told plan faults dig opened)) where
  abbrev tag : List ℕ
  tag = commands.tag opened.notes.records

  abbrev first : NodeAt NotesAt
  first = node_found told plan faults dig opened

  abbrev Came : Lines (NodeAt NotesAt) → Type 0
  Came lines = Comes tag commands.command_in does Q (kept_at first) lines

  came-of : (bytes : List ℕ) (stream : Stream (SessionState (NodeAt NotesAt)))
      → Finally tag commands.command_in (node_does commands) does Q step first bytes stream
      → blocks (calls_of stream.run.log) ≤ stream.count → Came (record { bytes = bytes; stream = stream })
  came-of bytes stream finally few = grind (arith, common_steps) steps 20000

  -- any node is one
  any-step : (log : List RootCall) (at : NodeAt NotesAt) (line : List ℕ) (command : L) (left : NodeAt NotesAt)
      (text : List ℕ) → blocks log ≤ MOST_LINES → commands.command_in line ≡ Some command → Unit {0}
      → node_does commands log at command ≡ Ok (left, text) → Unit {0}
  any-step log at line command left text few spells is did = tt

  ran-few : (front : List ℕ) (stream : Stream (SessionState (NodeAt NotesAt)))
      → RunsTo (session_rules tag commands.command_in (node_does commands)) (begun first) front stream
      → blocks (calls_of stream.run.log) ≤ stream.count
  ran-few front stream runs =
      (run-holds tag commands.command_in (node_does commands) (λ at. Unit {0}) any-step first front stream runs tt).few

  pub session-came : (session : NodeSession told plan faults dig commands opened disks outside failed status)
      → Came (lines_answered session)
  session-came (inl answered) =
      came-of answered.bytes _
      (session-comes tag commands.command_in (node_does commands) does Q step first answered.bytes answered.ended here)
      (session-holds tag commands.command_in (node_does commands) (λ at. Unit {0}) any-step first answered.bytes
      answered.ended tt).few
  session-came (inr (inl faulted)) =
      came-of faulted.bytes faulted.stream
      (run-comes tag commands.command_in (node_does commands) does Q step first faulted.begins.front
      faulted.begins.rest faulted.bytes faulted.stream faulted.begins.whole faulted.begins.runs here)
      (ran-few faulted.begins.front faulted.stream faulted.begins.runs)
  session-came (inr (inr broken)) =
      came-of broken.bytes broken.stream
      (run-comes tag commands.command_in (node_does commands) does Q step first broken.begins.front
      broken.begins.rest broken.bytes broken.stream broken.begins.whole broken.begins.runs here)
      (ran-few broken.begins.front broken.stream broken.begins.runs)
