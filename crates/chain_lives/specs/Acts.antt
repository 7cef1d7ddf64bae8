-- What a call of a node's life is to a chain: a run of the program as the commands that it did.
use Rattle.std.specs.Prelude.{◌⊎◌, ℕ, ◌-◌, if◌then◌else◌, List, [], ◌∷◌, length, map, take, Option, Some, None, Result, Ok, Err, option_map}
use Rattle.std.specs.List.{filter_map}
use Rattle.std.specs.Option.{option_map_or}
use mathlib.Core.Logic.{inl, inr}
use Rattle.crash_disk.specs.Disk.{History, FaultPlan}
use Rattle.plasma_tx.specs.declared.call.RootCall.{RootCall}
use Rattle.plasma_tx.specs.Chain.{Chain}
use Rattle.node_rules.specs.declared.identity.WalletIdentity.{WalletIdentity}
use Rattle.node_rules.specs.Wallet.{WalletRecords}
use Rattle.node_rules.specs.WalletRecords.{identity_in, owner_of}
use Rattle.node_replies.specs.Roles.{Wallet, Watcher}
use Rattle.node_replies.specs.declared.order.WatcherOrder.{WatcherOrder}
use Rattle.node_replies.specs.declared.order.NodeOrder.{NodeOrder}
use Rattle.node_replies.specs.Orders.{wallet_does, watcher_does, with_record}
use Rattle.node_lines.specs.declared.wallet_line.WalletLine.{WalletLine}
use Rattle.node_lines.specs.Grammar.{wallet_line_in, watcher_line_in}
use Rattle.root_log.specs.EndOfLog.{is_end_of_log}
use Rattle.node_answers.specs.Answers.{Outcome, wallet_outcome, watcher_outcome}
use Rattle.node_roles.specs.Notes.{NotesAt}
use Rattle.node_roles.specs.Nodes.{NodeAt}
use Rattle.node_sessions.specs.Sessions.{calls_of, commanded}
use Rattle.streamed_lines.specs.Lines.{lines_in, text_of}
use Rattle.streamed_lines.specs.Reading.{next_text}
use Rattle.run_endings.specs.declared.status.Status.{Status}
use Rattle.run_endings.specs.declared.status.Status.TheVariants.{Done}
use Rattle.node_runs.specs.Sessions.{Outside}
use Rattle.node_runs.specs.Runs.{RunsWatcher, RunsWallet}
use Rattle.node_lives.specs.Disks.{Pair}
use Rattle.node_lives.specs.Calls.{Asked, ToBegin, ToRun, DoesAsked, Starves, Call}
use Rattle.node_lives.specs.Answered.{Lines, lines_answered}
use Rattle.world_rules.specs.Events.{Event, Other}
use Rattle.world_rules.specs.OrderEvents.{event_of}
use Rattle.chain_lives.specs.Steps.{Deed, Visit, Act, Begins, Runs, Rests, Step, Enters, Refuses, Does, left_by}

-- ---- commands

-- the text of an answer; a refusal is said by the run, at its end
abbrev pub answer_text : Result (List ℕ) (List ℕ) → List ℕ
answer_text (Ok text) = text
answer_text (Err cause) = []

-- the records of a node with what a command adds
abbrev pub with_outcome : WalletRecords → Outcome → WalletRecords
with_outcome records outcome = record {
  notes = with_record records.notes outcome.note;
  leaves = with_record records.leaves outcome.leaf;
}

-- the event of a command of wallet n: an order's, or none for one that tells of the node
abbrev pub line_event : ℕ → (List ℕ → List ℕ) → List RootCall → WalletRecords → WalletLine → Event
line_event n dig log records (WalletLine.Order order) =
    event_of n (NodeOrder.Wallet order) (wallet_does dig log records order).response
line_event n dig log records line = Other n

-- a command of wallet n, and one of watcher n, behind this log
abbrev pub wallet_deed : ℕ → (List ℕ → List ℕ) → List RootCall → WalletRecords → WalletLine → Deed
wallet_deed n dig log records line =
    let outcome = wallet_outcome dig log records line in
    record {
      text = answer_text outcome.says;
      event = line_event n dig log records line;
      left = with_outcome records outcome;
    }

abbrev pub watcher_deed : ℕ → (List ℕ → List ℕ) → List RootCall → WalletRecords → WatcherOrder → Deed
watcher_deed n dig log records order =
    let outcome = watcher_outcome dig log records.notes order in
    record {
      text = answer_text outcome.says;
      event = event_of n (NodeOrder.Watcher order) (watcher_does dig log records.notes order).response;
      left = with_outcome records outcome;
    }

-- commands, one after another
abbrev pub deeds_of : {L : Type 0} → (WalletRecords → L → Deed) → WalletRecords → List L → List Deed
deeds_of does records [] = []
deeds_of does records (line ∷ lines) = does records line ∷ deeds_of does (does records line).left lines

-- ---- the lines of a run

-- the lines behind the one that ends the log
abbrev pub behind_log : List (List ℕ) → List (List ℕ)
behind_log [] = []
behind_log (line ∷ lines) = if is_end_of_log line then lines else behind_log lines

-- the commands that a run answered, and the one behind them
abbrev pub commands_in : {L : Type 0} → (List ℕ → Option L) → Lines (NodeAt NotesAt) → List L
commands_in command_in lines =
    filter_map command_in (behind_log (map text_of (take lines.stream.count (lines_in lines.bytes))))

abbrev pub next_in : {L : Type 0} → (List ℕ → Option L) → Lines (NodeAt NotesAt) → Option L
next_in command_in lines = commanded command_in lines.stream.run (next_text lines.bytes lines.stream)

-- the calls of the log that it was handed, and that log where it ended
abbrev pub log_in : Lines (NodeAt NotesAt) → List RootCall
log_in lines = calls_of lines.stream.run.log

abbrev pub ended_log : Lines (NodeAt NotesAt) → Option Chain
ended_log lines = if lines.stream.run.is_over then lines.stream.run.log else None

-- how many bytes it wrote, where its sink tells
abbrev pub written_in : Outside → ℕ
written_in outside = option_map_or length outside.after 0 - option_map_or length outside.taken 0

-- so a run that found these records and answered these lines
abbrev pub visit_of : {L : Type 0} → (List ℕ → Option L) → (List RootCall → WalletRecords → L → Deed) → Outside
    → WalletRecords → Lines (NodeAt NotesAt) → Visit
visit_of command_in does outside found lines =
    let deeds = deeds_of (does (log_in lines)) found (commands_in command_in lines) in
    record {
      found = found;
      log = ended_log lines;
      deeds = deeds;
      next = option_map (does (log_in lines) (left_by found deeds)) (next_in command_in lines);
      written = written_in outside;
    }

-- ---- calls

-- an init that was done
abbrev pub begun_by : Option WalletIdentity → Act
begun_by None = Begins None
begun_by (Some who) = Begins (Some (owner_of who))

abbrev pub ran_or : Option Visit → Act
ran_or None = Rests
ran_or (Some visit) = Runs visit

-- over disks that tell their history, foretell their faults and count them, and under a digest
module _ {D : Type 0} (told : D → Option History) (plan : D → Option FaultPlan) (faults : D → ℕ)
    (dig : List ℕ → List ℕ) where
  -- a wallet's run that did this; none where its disks weren't opened
  unfoldable pub wallet_visit : ℕ → (old new : Pair D) (outside : Outside) (status : Status)
      → RunsWallet told plan faults dig old.notes old.leaves new.notes new.leaves outside (Unit {0}) status
      → Option Visit
  unfolding RunsWallet
  wallet_visit n old new outside status (inl (opened, opens, session)) =
      Some (visit_of wallet_line_in (wallet_deed n dig) outside opened.records (lines_answered session))
  wallet_visit n old new outside status (inr refused) = None

  -- and a watcher's, which has no leaves
  unfoldable pub watcher_visit : ℕ → (old new : D) (outside : Outside) (status : Status)
      → RunsWatcher told plan faults dig old new outside (Unit {0}) status → Option Visit
  unfolding RunsWatcher
  watcher_visit n old new outside status (inl (opened, opens, session)) =
      Some (visit_of watcher_line_in (watcher_deed n dig) outside (record { notes = opened.records; leaves = [] })
      (lines_answered session))
  watcher_visit n old new outside status (inr refused) = None

  -- What a call of node n is: an init that was done began it, and a run of its program that opened its disks ran. What
  -- an operator does shows in the calls of the chain alone.
  unfoldable pub act_by : ℕ → (asked : Asked) (old new : Pair D) (outside : Outside) (status : Status)
      → DoesAsked told plan faults dig asked old new outside status ⊎ Starves old new status → Act
  act_by n (ToBegin disks identity) old new outside Done did = begun_by (identity_in identity)
  act_by n (ToRun Wallet) old new outside status (inl did) = ran_or (wallet_visit n old new outside status did)
  act_by n (ToRun Watcher) old new outside status (inl did) =
      ran_or (watcher_visit n old.notes new.notes outside status did.0)
  act_by n asked old new outside status did = Rests

  abbrev pub act_of : ℕ → Call told plan faults dig → Act
  act_of n call = act_by n call.asked call.old call.new call.outside call.status call.did

  -- a chain and its nodes' calls of the program, as the acts that these are
  unfoldable pub acts_of : List (Step (Call told plan faults dig)) → List (Step Act)
  acts_of [] = []
  acts_of (Enters call ∷ steps) = Enters call ∷ acts_of steps
  acts_of (Refuses call ∷ steps) = Refuses call ∷ acts_of steps
  acts_of (Does n call ∷ steps) = Does n (act_of n call) ∷ acts_of steps
