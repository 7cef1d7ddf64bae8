-- What holds of the world's steps, and of verdicts.
use Rattle.std.specs.Prelude.{◌≡◌, ◌⊎◌, ◌≤◌, ℕ, ◌==◌, ◌&&◌, Bool, true, false, if◌then◌else◌, List, [], ◌∷◌, ◌++◌, not, nat_lt, map, reverse, set, slice_get, Option, Some, is_some, length}
use Rattle.std.specs.List.{Contains, count_by, All, list_any}
use Rattle.std.specs.Str.{bytes_eq}
use Rattle.line_forms.specs.declared.tokens.OutcomeToken.{OutcomeToken}
use Rattle.gate_journal.specs.Laws.{is_added}
use Rattle.plasma_tx.specs.{declared.owner.Owner.{Owner}, declared.call.RootCall.{RootCall}, Chain.{with_log}, Shown.{tests_by, rules_of}, Table.{answer_to, is_accepted}, Spelling.{AreBytes}}
use Rattle.schedule_text.specs.{declared.line.Line.{Line}, declared.command.Command.{Command}, Grammar.{node_of, IsLine}}
use Rattle.node_replies.specs.declared.reply.Reply.{Reply}
use Rattle.wallet_core.specs.State.{holds as wallet_holds}
use Rattle.node_rules.specs.{WalletRecords.{leaves_in}, Wallet.{noted}, Watcher.{is_of, guards_in}}
use Rattle.world_rules.specs.{Safety.{holds}, declared.verdict.Verdict.{Verdict}, Events.{Event, Joins, Idle, log_of, wallet_owner, offers_of, bound_by, taken_back, is_taken, is_bundle, guarded_by}}
use Rattle.world_rules.specs.{World.{Node, World, any_role, number_of, is_wallet_role, is_watcher_role, owner_of_node, wallet_of}, Declarations.{plays, keeps_rules}, Deeds.{Deed, deed_of, adds_record}}
use Rattle.world_rules.specs.{Steps.{LineEffect, step, answers_down, is_opening, with_records, after_crash, outcome_of, Run, run_of, events_of}, Verdicts.{verdict_at, ever_held, verdicts_of}}

-- ---- steps

-- A line has a step exactly where it keeps the rules; it has one, since a step is a function.
abbrev pub LinesThatKeepTheRulesStep : Type 0
LinesThatKeepTheRulesStep = (dig : List ℕ → List ℕ) (world : Option World) (line : Line)
    → is_some (step dig world line) ≡ keeps_rules world line

-- an effect leaves the chain as it is, and its event is no accepted call
pub record LeavesTheLog (world : World) (effect : LineEffect) : Type 0 where
  pub chain : effect.world.chain ≡ world.chain
  pub event : log_of (effect.event ∷ []) ≡ []

-- an effect appends a call to the log that the contract accepted, and is the event of that
pub record AppendsOneCall (dig : List ℕ → List ℕ) (world : World) (effect : LineEffect) : Type 0 where
  pub call : RootCall
  pub accepted : is_accepted (answer_to (tests_by dig) (rules_of world.chain) world.chain.log call) ≡ true
  pub chain : effect.world.chain ≡ with_log world.chain (call ∷ world.chain.log)
  pub event : effect.event ≡ Joins call

-- each step leaves the log, or appends one accepted call
abbrev pub StepsKeepTheLog : Type 0
StepsKeepTheLog = (dig : List ℕ → List ℕ) (world : World) (line : Line) (effect : LineEffect)
    → step dig (Some world) line ≡ Some effect → LeavesTheLog world effect ⊎ AppendsOneCall dig world effect

-- so the log of a run is that of its events
abbrev pub LogsAreOfEvents : Type 0
LogsAreOfEvents = (dig : List ℕ → List ℕ) (lines : List Line) (run : Run) (world : World)
    → run_of dig lines ≡ Some run → run.world ≡ Some world → world.chain.log ≡ log_of (events_of run.entries)

-- a list of records stays, or has one more
abbrev pub GrowsByOne : List (List ℕ) → List (List ℕ) → Type 0
GrowsByOne records after = (body : List ℕ) × (after ≡ records ++ body ∷ [])

-- a node is the same one, and its records stay or have one more note or one more leaf
pub record GrowsAtMost (node after : Node) : Type 0 where
  pub name : after.name ≡ node.name
  pub account : after.account ≡ node.account
  pub role : after.role ≡ node.role
  pub notes : (after.notes ≡ node.notes) ⊎ (GrowsByOne node.notes after.notes × (after.leaves ≡ node.leaves))
  pub leaves : (after.leaves ≡ node.leaves) ⊎ (GrowsByOne node.leaves after.leaves × (after.notes ≡ node.notes))

-- one node changes, and its records have at most one more
pub record ChangesOneNode (nodes after : List Node) : Type 0 where
  pub number : ℕ
  pub old : Node
  pub new : Node
  pub is_old : slice_get nodes number ≡ Some old
  pub is_new : after ≡ set nodes number new
  pub grows : GrowsAtMost old new

-- a node is declared
abbrev pub DeclaresOneNode : List Node → List Node → Type 0
DeclaresOneNode nodes after = (node : Node) × (after ≡ nodes ++ node ∷ [])

-- each step leaves the nodes, or changes one, whose records have at most one more, or declares one
abbrev pub RecordsGrow : Type 0
RecordsGrow = (dig : List ℕ → List ℕ) (world : World) (line : Line) (effect : LineEffect)
    → step dig (Some world) line ≡ Some effect
    → (effect.world.nodes ≡ world.nodes) ⊎ ChangesOneNode world.nodes effect.world.nodes
    ⊎ DeclaresOneNode world.nodes effect.world.nodes

-- a crash leaves the records of its node, and all other nodes
abbrev pub CrashesLeaveTheRecords : Type 0
CrashesLeaveTheRecords = (dig : List ℕ → List ℕ) (world : World) (name : List ℕ) (outcome : OutcomeToken) (n : ℕ)
    (node : Node) (effect : LineEffect) → number_of any_role world name ≡ Some n → slice_get world.nodes n ≡ Some node
    → step dig (Some world) (Line.Crash name outcome) ≡ Some effect
    → effect.world.nodes ≡ set world.nodes n (after_crash node)

-- ---- the mail

-- item n of the mail is what line n made
abbrev pub ItemsAreMade : Type 0
ItemsAreMade = (dig : List ℕ → List ℕ) (lines : List Line) (run : Run) (world : World)
    → run_of dig lines ≡ Some run → run.world ≡ Some world
    → world.mail ≡ reverse (map (λ entry. entry.made) run.entries)

-- ---- nodes that are down

-- the line is a command, alone or in a cut
abbrev pub IsCommandIn : Line → Command → Type 0
IsCommandIn line command =
    (line ≡ Line.Command command)
    ⊎ ((name : List ℕ) × (calls : ℕ) × (outcome : OutcomeToken) × (line ≡ Line.Cut name calls outcome command))

-- the answer is `down`, and nothing changes but that the mail gets this line's empty item
pub record StaysDown (world : World) (effect : LineEffect) : Type 0 where
  pub reply : effect.reply ≡ Reply.Down
  pub done : effect.done ≡ false
  pub made : effect.made ≡ []
  pub event : effect.event ≡ Idle
  pub same : effect.world ≡ record world { mail = world.mail ++ [] ∷ [] }

-- A node that is down answers each command but `open` so, also in a cut.
abbrev pub DownNodesStay : Type 0
DownNodesStay = (dig : List ℕ → List ℕ) (world : World) (line : Line) (command : Command) (n : ℕ) (node : Node)
    (effect : LineEffect) → IsCommandIn line command → number_of (plays command) world (node_of command) ≡ Some n
    → slice_get world.nodes n ≡ Some node → answers_down node command ≡ true
    → step dig (Some world) line ≡ Some effect → StaysDown world effect

-- ---- cuts

-- a cut leaves its node so; the answer is the command's, after `done`, or `stopped`
pub record IsCutTo (world : World) (n : ℕ) (after : Node) (is_short : Bool) (deed : Deed) (effect : LineEffect)
    : Type 0 where
  pub nodes : effect.world.nodes ≡ set world.nodes n (after_crash after)
  pub done : effect.done ≡ not is_short
  pub reply : effect.reply ≡ (if is_short then Reply.Stopped else deed.gives.reply)

-- A cut of a command but `open`, of a node that has it and is up, leaves the node down and without offers. It is
-- stopped where the command adds a record and less than four calls pass; and the record is there afterwards exactly
-- where an append of which so many calls pass keeps its record under the outcome.
abbrev pub CutsKeepAsAppendsDo : Type 0
CutsKeepAsAppendsDo = (dig : List ℕ → List ℕ) (world : World) (name : List ℕ) (calls : ℕ) (outcome : OutcomeToken)
    (command : Command) (n : ℕ) (node : Node) (deed : Deed) (effect : LineEffect)
    → number_of (plays command) world (node_of command) ≡ Some n → slice_get world.nodes n ≡ Some node
    → answers_down node command ≡ false → is_opening command ≡ false
    → deed_of dig world n node command ≡ Some deed
    → step dig (Some world) (Line.Cut name calls outcome command) ≡ Some effect
    → IsCutTo world n (if is_added calls (outcome_of outcome) then with_records node deed else node)
    (adds_record deed && nat_lt calls 4) deed effect

-- A cut `open` leaves the records. It is stopped where the node is down and less than three calls pass.
abbrev pub CutOpeningsLeaveTheRecords : Type 0
CutOpeningsLeaveTheRecords = (dig : List ℕ → List ℕ) (world : World) (name opened : List ℕ) (calls : ℕ)
    (outcome : OutcomeToken) (n : ℕ) (node : Node) (deed : Deed) (effect : LineEffect)
    → number_of any_role world opened ≡ Some n → slice_get world.nodes n ≡ Some node
    → deed_of dig world n node (Command.Open opened) ≡ Some deed
    → step dig (Some world) (Line.Cut name calls outcome (Command.Open opened)) ≡ Some effect
    → IsCutTo world n node (not node.is_up && nat_lt calls 3) deed effect

-- ---- offers

-- what a node offers is what the events of a run say, and a node that is down offers nothing
abbrev pub OffersAreOfEvents : Type 0
OffersAreOfEvents = (dig : List ℕ → List ℕ) (lines : List Line) (run : Run) (world : World) (n : ℕ) (node : Node)
    → run_of dig lines ≡ Some run → run.world ≡ Some world → slice_get world.nodes n ≡ Some node
    → node.offers ≡ offers_of (events_of run.entries) n

abbrev pub DownNodesOfferNothing : Type 0
DownNodesOfferNothing = (dig : List ℕ → List ℕ) (lines : List Line) (run : Run) (world : World) (n : ℕ) (node : Node)
    → run_of dig lines ≡ Some run → run.world ≡ Some world → slice_get world.nodes n ≡ Some node
    → node.is_up ≡ false → node.offers ≡ []

-- ---- verdicts

-- the verdict is on the wallet with the name, and the coin
abbrev pub is_on : List ℕ → ℕ → Verdict → Bool
is_on name c verdict = bytes_eq verdict.wallet name && (verdict.coin == c)

-- a wallet and a coin that it ever held have one verdict
abbrev pub HeldCoinsHaveOneVerdict : Type 0
HeldCoinsHaveOneVerdict = (dig : List ℕ → List ℕ) (lines : List Line) (run : Run) (world : World) (n : ℕ)
    (node : Node) (c e : ℕ)
    → run_of dig lines ≡ Some run → run.world ≡ Some world → slice_get world.nodes n ≡ Some node
    → ever_held (events_of run.entries) n c e ≡ true
    → count_by (is_on node.name c) (verdicts_of dig run) ≡ 1

-- A verdict is on a wallet and a coin that it ever held; it is the one by the greatest block at which it did.
pub record IsOfHeld (dig : List ℕ → List ℕ) (run : Run) (world : World) (verdict : Verdict) : Type 0 where
  pub number : ℕ
  pub node : Node
  pub owner : Owner
  pub tip : ℕ
  pub is_node : slice_get world.nodes number ≡ Some node
  pub name : verdict.wallet ≡ node.name
  pub is_owner : wallet_owner (events_of run.entries) number ≡ Some owner
  pub held : ever_held (events_of run.entries) number verdict.coin tip ≡ true
  pub greatest : (e : ℕ) → ever_held (events_of run.entries) number verdict.coin e ≡ true → e ≤ tip
  pub kind : verdict.kind
      ≡ verdict_at (tests_by dig) (rules_of world.chain) (events_of run.entries) owner number verdict.coin tip

abbrev pub VerdictsAreOfHeldCoins : Type 0
VerdictsAreOfHeldCoins = (dig : List ℕ → List ℕ) (lines : List Line) (run : Run) (world : World) (verdict : Verdict)
    → run_of dig lines ≡ Some run → run.world ≡ Some world → Contains (verdicts_of dig run) verdict
    → IsOfHeld dig run world verdict

-- ---- events, and what disks keep

-- a digest of 32 bytes
abbrev pub IsDigest : (List ℕ → List ℕ) → Type 0
IsDigest dig = (bytes : List ℕ) → (length (dig bytes) ≡ 32) × AreBytes (dig bytes)

-- What the events say of a wallet is what its disks keep: the bodies that its leaves bind, by their numbers; which of
-- these its notes take back; and which coins it holds where, as the wallet itself would say it.
pub record AreKept (dig : List ℕ → List ℕ) (events : List Event) (log : List RootCall) (n : ℕ) (node : Node)
    : Type 0 where
  pub owner : wallet_owner events n ≡ Some (owner_of_node node)
  pub bodies : map (λ leaf. leaf.body) (leaves_in node.leaves) ≡ reverse (bound_by events n)
  pub taken : (q : ℕ) → list_any (λ other. other == q) (noted dig (wallet_of node)).reclaimed
      ≡ is_taken (taken_back events n) q
  pub held : (c e : ℕ) → holds events n c e
      ≡ wallet_holds (noted dig (wallet_of node)) (leaves_in node.leaves) log c e

-- so it is over every run of lines that are in the grammar
abbrev pub WalletsKeepWhatEventsSay : Type 0
WalletsKeepWhatEventsSay = (dig : List ℕ → List ℕ) (lines : List Line) (run : Run) (world : World) (n : ℕ)
    (node : Node) → IsDigest dig → All IsLine lines
    → run_of dig lines ≡ Some run → run.world ≡ Some world → slice_get world.nodes n ≡ Some node
    → is_wallet_role node.role ≡ true → AreKept dig (events_of run.entries) world.chain.log n node

-- and so it is of a watcher's guards
abbrev pub WatchersKeepWhatEventsSay : Type 0
WatchersKeepWhatEventsSay = (dig : List ℕ → List ℕ) (lines : List Line) (run : Run) (world : World) (n : ℕ)
    (node : Node) (c e : ℕ) → IsDigest dig → All IsLine lines
    → run_of dig lines ≡ Some run → run.world ≡ Some world → slice_get world.nodes n ≡ Some node
    → is_watcher_role node.role ≡ true
    → list_any (is_bundle c e) (guarded_by (events_of run.entries) n) ≡ list_any (is_of c e) (guards_in dig node.notes)
