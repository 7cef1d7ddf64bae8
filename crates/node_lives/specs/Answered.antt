-- What a run found on its disks, and the lines that it answered.
use Rattle.std.specs.Prelude.{◌≡◌, ◌⊎◌, ◌<◌, ℕ, List, Option, Some, None, option_map}
use mathlib.Core.Logic.{inl, inr}
use Rattle.crash_disk.specs.Disk.{History, FaultPlan}
use Rattle.node_journal.specs.{Notes.{NotesState}, Parts.{Parts, alone, both, of_each}}
use Rattle.node_replies.specs.{Roles.{Role, Wallet, Watcher, Operator}, declared.reply.Reply.{Reply}, declared.order.WalletOrder.{WalletOrder}, Orders.{Response, wallet_does}}
use Rattle.wallet_node.specs.State.{WalletState}
use Rattle.plasma_tx.specs.declared.call.RootCall.{RootCall}
use Rattle.node_rules.specs.Wallet.{WalletRecords}
use Rattle.node_lines.specs.{declared.wallet_line.WalletLine.{WalletLine}, Grammar.{wallet_line_in}}
use Rattle.operator_rules.specs.Records.{who_is}
use Rattle.node_roles.specs.{Notes.{NotesAt}, Nodes.{NodeAt, records_at}, Roles.{wallet_parts, wallet_records, wallet_commands}}
use Rattle.node_sessions.specs.Sessions.{SessionState, begun, calls_of, commanded}
use Rattle.streamed_lines.specs.{Streams.{Rules, Stream, stream_of}, Reading.{next_text}}
use Rattle.run_endings.specs.declared.status.Status.{Status}
use Rattle.node_runs.specs.{Sessions.{Outside, Begins, RunsSession}, Runs.{RunsWatcher, RunsWallet, node_rules, node_found}, Operators.{RunsBehind, RunsOperator}}
use Rattle.node_lives.specs.{Disks.{Pair}, Calls.{Asked, ToRun, RunsAs, DoesAsked, Starves, Call}}

-- the bytes that a session was given, and the stream of the lines that it answered
pub record Lines (A : Type 0) : Type 0 where
  pub bytes : List ℕ
  pub stream : Stream (SessionState A)

-- those of a session that did this
abbrev pub lines_answered : {A L : Type 0} {rules : Rules (SessionState A) (List ℕ)} {command_in : List ℕ → Option L}
    {found : A} {Left : A → Type 0} {Faulted Unanswered : List RootCall → A → L → Type 0} {outside : Outside}
    {failed : Type 0} {status : Status}
    → RunsSession rules command_in found Left Faulted Unanswered outside failed status → Lines A
lines_answered {rules = rules} {found = found} (inl answered) = record {
  bytes = answered.bytes;
  stream = (stream_of rules (begun found) answered.bytes answered.ended).stream;
}
lines_answered (inr (inl faulted)) = record { bytes = faulted.bytes; stream = faulted.stream }
lines_answered (inr (inr broken)) = record { bytes = broken.bytes; stream = broken.stream }

-- the records that a run found, those that the lines which it answered left, and the text of their answers
pub record Ran : Type 0 where
  pub found : WalletRecords
  pub left : WalletRecords
  pub text : List ℕ

-- the records of a node to which commands came; one without leaves has none there
abbrev pub kept_at : NodeAt NotesAt → WalletRecords
kept_at at = wallet_records (records_at at.kept)

-- of a run that opened such a node and answered these lines
abbrev pub ran_with : {D : Type 0} → Parts (NotesState D) → Lines (NodeAt NotesAt) → Ran
ran_with opened lines = record {
  found = wallet_records (of_each (λ notes. notes.records) opened);
  left = kept_at lines.stream.run.node;
  text = lines.stream.text;
}

-- a wallet that a run opened, and the lines that it answered
pub record WalletRan (D : Type 0) : Type 0 where
  pub opened : WalletState D (Unit {0})
  pub lines : Lines (NodeAt NotesAt)

-- its records
abbrev pub ran_of : {D : Type 0} → WalletRan D → Ran
ran_of ran = ran_with (wallet_parts ran.opened) ran.lines

-- over disks that tell their history, foretell their faults and count them, and under a digest
module _ {D : Type 0} (told : D → Option History) (plan : D → Option FaultPlan) (faults : D → ℕ)
    (dig : List ℕ → List ℕ) where
  -- of a watcher's run that did this; none where its disk wasn't opened
  unfoldable pub watcher_ran : (old new : D) (outside : Outside) (status : Status)
      → RunsWatcher told plan faults dig old new outside (Unit {0}) status → Option Ran
  unfolding RunsWatcher
  watcher_ran old new outside status (inl (opened, opens, session)) =
      Some (ran_with (alone opened) (lines_answered session))
  watcher_ran old new outside status (inr refused) = None

  -- of an operator's, whose notes were opened, by the seed of its key: with a key none where its leaves weren't opened
  unfoldable pub behind_ran : (seed : Option (List ℕ)) (opened : NotesState D) (leaves new_notes new_leaves : D)
      (outside : Outside) (status : Status)
      → RunsBehind told plan faults dig seed opened leaves new_notes new_leaves outside (Unit {0}) status → Option Ran
  behind_ran None opened leaves new_notes new_leaves outside status (session, same) =
      Some (ran_with (alone opened) (lines_answered session))
  behind_ran (Some seed) opened leaves new_notes new_leaves outside status (inl (desk, opens, session)) =
      Some (ran_with (both opened desk) (lines_answered session))
  behind_ran (Some seed) opened leaves new_notes new_leaves outside status (inr refused) = None

  unfoldable pub operator_ran : (notes leaves new_notes new_leaves : D) (outside : Outside) (status : Status)
      → RunsOperator told plan faults dig notes leaves new_notes new_leaves outside (Unit {0}) status → Option Ran
  unfolding RunsOperator
  operator_ran notes leaves new_notes new_leaves outside status (inl (opened, opens, behind)) =
      behind_ran (who_is opened.records).key_seed opened leaves new_notes new_leaves outside status behind
  operator_ran notes leaves new_notes new_leaves outside status (inr refused) = None

  -- of a wallet's
  unfoldable pub wallet_ran : (notes leaves new_notes new_leaves : D) (outside : Outside) (status : Status)
      → RunsWallet told plan faults dig notes leaves new_notes new_leaves outside (Unit {0}) status
      → Option (WalletRan D)
  unfolding RunsWallet
  wallet_ran notes leaves new_notes new_leaves outside status (inl (opened, opens, session)) =
      Some (record { opened = opened; lines = lines_answered session })
  wallet_ran notes leaves new_notes new_leaves outside status (inr refused) = None

  -- of a run of any role
  unfoldable pub ran_as : (role : Role) (old new : Pair D) (outside : Outside) (status : Status)
      → RunsAs told plan faults dig role old new outside status → Option Ran
  ran_as Wallet old new outside status did =
      option_map ran_of (wallet_ran old.notes old.leaves new.notes new.leaves outside status did)
  ran_as Watcher old new outside status (did, same) =
      watcher_ran old.notes new.notes outside status did
  ran_as Operator old new outside status did =
      operator_ran old.notes old.leaves new.notes new.leaves outside status did

  -- of a call; none where it was no run, or memory ran out before it used a disk
  unfoldable pub ran_by : (asked : Asked) (old new : Pair D) (outside : Outside) (status : Status)
      → DoesAsked told plan faults dig asked old new outside status ⊎ Starves old new status → Option Ran
  ran_by (ToRun role) old new outside status (inl did) = ran_as role old new outside status did
  ran_by asked old new outside status did = None

  abbrev pub ran_in : Call told plan faults dig → Option Ran
  ran_in call = ran_by call.asked call.old call.new call.outside call.status call.did

  -- of a call that is a wallet's run, with its lines
  unfoldable pub wallet_ran_by : (asked : Asked) (old new : Pair D) (outside : Outside) (status : Status)
      → DoesAsked told plan faults dig asked old new outside status ⊎ Starves old new status → Option (WalletRan D)
  wallet_ran_by (ToRun Wallet) old new outside status (inl did) =
      wallet_ran old.notes old.leaves new.notes new.leaves outside status did
  wallet_ran_by asked old new outside status did = None

  abbrev pub wallet_ran_in : Call told plan faults dig → Option (WalletRan D)
  wallet_ran_in call = wallet_ran_by call.asked call.old call.new call.outside call.status call.did

  -- what an order gives out at a wallet to which its commands came
  abbrev pub gives_at : SessionState (NodeAt NotesAt) → WalletOrder → Response
  gives_at session order =
      (wallet_does session.node.dig (calls_of session.log) (kept_at session.node) order).response

  -- A wallet's run answered `sent q` to one of its lines, with these bytes: an order spelled there, behind the lines
  -- before it.
  pub record GivesOut (call : Call told plan faults dig) (q : ℕ) (made : List ℕ) : Type 0 where
    pub ran : WalletRan D
    pub is : wallet_ran_in call ≡ Some ran
    pub before : Stream (SessionState (NodeAt NotesAt))
    pub lines : Begins (node_rules told plan faults dig wallet_commands (wallet_parts ran.opened))
        (begun (node_found told plan faults dig (wallet_parts ran.opened))) ran.lines.bytes before
    pub answered : before.count < ran.lines.stream.count
    pub order : WalletOrder
    pub spelled : commanded wallet_line_in before.run (next_text ran.lines.bytes before)
        ≡ Some (WalletLine.Order order)
    pub reply : (gives_at before.run order).reply ≡ Reply.Sent q
    pub made_is : (gives_at before.run order).made ≡ made
