-- The step of the world: what each line that keeps the rules does, and the trace that the lines leave.
use Rattle.std.specs.Prelude.{ℕ, ◌-◌, ◌==◌, ◌&&◌, not, Bool, true, false, nat_lt, if◌then◌else◌, List, [], ◌∷◌, ◌++◌, length, sum_by, codes, slice_get, Option, Some, None, option_map, option_and_then}
use Rattle.line_forms.specs.declared.tokens.OutcomeToken.{OutcomeToken}
use Rattle.crash_disk.specs.declared.outcome.Outcome.{Outcome}
use Rattle.gate_journal.specs.Laws.{is_added}
use Rattle.lms_sign.specs.Tree.{signature_of}
use Rattle.plasma_tx.specs.{declared.owner.Owner.{Owner}, declared.body.Body.{Body}, declared.call.RootCall.{RootCall}, declared.answer.Answer.{Answer}, Chain.{Chain, with_log}, Spelling.{body_text}, Money.{balance_of}}
use Rattle.plasma_tx.specs.{Shown.{tests_by, rules_of}, Table.{answer_to, is_accepted, log_after}}
use Rattle.schedule_text.specs.{declared.line.Line.{Line}, declared.command.Command.{Command}, Grammar.{node_of}}
use Rattle.node_rules.specs.{declared.identity.WalletIdentity.{WalletIdentity}, Watcher.{identity_text as watcher_text}, WalletRecords.{identity_text as wallet_text, owner_of, secret_of}}
use Rattle.operator_rules.specs.Records.{identity_text as operator_text}
use Rattle.world_rules.specs.{declared.TheConstants.{MOST_MAIL}, Events.{Event, Declares, Joins, Bounces, Watches, Leaves, Seals, Other, Idle}}
use Rattle.node_replies.specs.{declared.reply.Reply.{Reply}, Causes.{contract_cause}, Orders.{with_record}}
use Rattle.world_rules.specs.{World.{Role, Wallet, Watcher, Operator, Node, Rogue, World, with_node, padded, any_role, number_of, rogue_named, owner_named, new_owner_of, call_of}, Declarations.{plays, declared_wallet, keeps_rules}}
use Rattle.world_rules.specs.Deeds.{Deed, deed_of, adds_record}

-- ---- what a line does

-- what a line does: its answer, and whether it is that of a command in a `cut` which ended first; the bytes that it
-- makes; the event that it is; and the world after it
pub record LineEffect : Type 0 where
  pub done : Bool
  pub reply : Reply
  pub made : List ℕ
  pub event : Event
  pub world : World

-- the line is answered so, and makes nothing
abbrev pub says : Reply → Event → World → LineEffect
says reply event world = record { done = false; reply = reply; made = []; event = event; world = world }

-- ---- declarations

-- the chain that a first line begins
abbrev pub new_chain : ℕ → ℕ → ℕ → Chain
new_chain tag operator most = record { tag = padded tag; operator = operator; most_blocks = most; log = [] }

-- a node with this identity, which is up
abbrev pub new_node : Role → List ℕ → ℕ → List ℕ → Node
new_node role name account identity = record {
  name = name;
  account = account;
  role = role;
  is_up = true;
  notes = identity ∷ [];
  leaves = [];
  offers = [];
}

-- the operator
abbrev pub operator_node : Chain → Node
operator_node chain =
    new_node Operator (codes "op") chain.operator
    (operator_text (record { tag = chain.tag; account = chain.operator; key_seed = None }))

-- the world of a chain that begins
abbrev pub new_world : Chain → World
new_world chain = record { chain = chain; nodes = operator_node chain ∷ []; rogues = []; raw_callers = []; mail = [] }

-- the world with one more node
abbrev pub with_new_node : World → Node → World
with_new_node world node = record world { nodes = world.nodes ++ node ∷ [] }

-- a wallet with this identity is declared
abbrev pub declares_wallet : World → List ℕ → WalletIdentity → LineEffect
declares_wallet world name who =
    says Reply.Wallet (Declares (length world.nodes) (owner_of who))
    (with_new_node world (new_node Wallet name who.account (wallet_text who)))

-- a watcher is declared
abbrev pub declares_watcher : World → List ℕ → ℕ → LineEffect
declares_watcher world name account =
    says Reply.Watcher Idle
    (with_new_node world
    (new_node Watcher name account (watcher_text (record { tag = world.chain.tag; account = account }))))

-- a rogue is declared; its key is made as a wallet's
abbrev pub declares_rogue : World → List ℕ → WalletIdentity → LineEffect
declares_rogue world name who =
    let rogue : Rogue = record { name = name; account = who.account; secret = secret_of who } in
    says Reply.Rogue Idle (record world { rogues = world.rogues ++ rogue ∷ [] })

-- ---- calls

-- the contract's answer; want of memory, which has no text, is none that the table gives
abbrev pub reply_to : Answer → Reply
reply_to Answer.Funded = Reply.Funded
reply_to Answer.Ticked = Reply.Ticked
reply_to (Answer.Deposited coin block) = Reply.Deposited coin block
reply_to (Answer.Committed block) = Reply.Committed block
reply_to (Answer.Started opens) = Reply.Started opens
reply_to Answer.Cancelled = Reply.Cancelled
reply_to (Answer.Challenged until) = Reply.Challenged until
reply_to Answer.Responded = Reply.Responded
reply_to Answer.Paid = Reply.Paid
reply_to Answer.Dropped = Reply.Dropped
reply_to (Answer.Refused why) = Reply.Refused (contract_cause why)
reply_to Answer.NoMemory = Reply.Refused []

-- a call that was answered so
abbrev pub event_of_call : RootCall → Answer → Event
event_of_call call answer = if is_accepted answer then Joins call else Bounces call

-- the calls of the log of a world
abbrev pub log_in : World → List RootCall
log_in world = world.chain.log

-- a call is entered
abbrev pub called : (List ℕ → List ℕ) → World → RootCall → LineEffect
called dig world call =
    let answer = answer_to (tests_by dig) (rules_of world.chain) (log_in world) call in
    let log = log_after (tests_by dig) (rules_of world.chain) (log_in world) call in
    says (reply_to answer) (event_of_call call answer) (record world { chain = with_log world.chain log })

-- a raw call is entered; its account is known from then on
abbrev pub raw_called : (List ℕ → List ℕ) → World → ℕ → RootCall → LineEffect
raw_called dig world account call = called dig (record world { raw_callers = account ∷ world.raw_callers }) call

-- a wallet's account deposits for its key
abbrev pub deposit_by : ℕ → Owner → RootCall
deposit_by amount owner = RootCall.Deposit owner.account amount owner.key

-- the offer with this number, counted from 1
abbrev pub offer_numbered : ℕ → Node → Option RootCall
offer_numbered number node = if number == 0 then None else slice_get node.offers (number - 1)

-- the offer is entered, where there is one
abbrev pub entered : (List ℕ → List ℕ) → World → Option RootCall → LineEffect
entered dig world None = says Reply.Nothing Idle world
entered dig world (Some call) = called dig world call

-- ---- commands, crashes and cuts

-- the command opens the node
abbrev pub is_opening : Command → Bool
is_opening (Command.Open name) = true
is_opening command = false

-- the node answers the command as one that is down
abbrev pub answers_down : Node → Command → Bool
answers_down node command = not node.is_up && not (is_opening command)

-- the node with the records that a deed adds
abbrev pub with_records : Node → Deed → Node
with_records node deed =
    record node { notes = with_record node.notes deed.note; leaves = with_record node.leaves deed.leaf }

-- the node after a command: it is up, and offers what the command offers
abbrev pub after_command : Node → Deed → Node
after_command node deed = record (with_records node deed) { is_up = true; offers = deed.gives.offers }

-- the node after a crash: its records stay
abbrev pub after_crash : Node → Node
after_crash node = record node { is_up = false; offers = [] }

-- a command is done
abbrev pub commanded : World → ℕ → Node → Deed → LineEffect
commanded world n node deed = record {
  done = false;
  reply = deed.gives.reply;
  made = deed.gives.made;
  event = deed.gives.event;
  world = with_node world n (after_command node deed);
}

-- a command of a node that is down: nothing changes
abbrev pub down : World → LineEffect
down world = says Reply.Down Idle world

-- the node goes down, and its disks crash
abbrev pub crashed : World → ℕ → Node → LineEffect
crashed world n node = says Reply.Crashed (Other n) (with_node world n (after_crash node))

-- what an outcome's words stand for
abbrev pub outcome_of : OutcomeToken → Outcome
outcome_of OutcomeToken.Old = Outcome.Old
outcome_of OutcomeToken.New = Outcome.New
outcome_of (OutcomeToken.Mix extra bytes) = Outcome.Mix extra bytes

-- The opening of a node that is down makes three calls on each disk, and an append four on its one. A command of which
-- so many calls pass is stopped where it needs more.
abbrev pub is_stopped : ℕ → Node → Command → Deed → Bool
is_stopped calls node command deed =
    if is_opening command then not node.is_up && nat_lt calls 3 else adds_record deed && nat_lt calls 4

-- the event of a command whose node is down afterwards, so that it offers nothing
abbrev pub without_offers : ℕ → Event → Event
without_offers n (Watches m calls) = Other n
without_offers n (Leaves m call) = Other n
without_offers n (Seals call) = Other n
without_offers n event = event

-- A command that was stopped: its record is kept exactly where enough calls passed for the outcome, and then it is the
-- command's event, but for what it would offer.
abbrev pub stopped : World → ℕ → Node → ℕ → OutcomeToken → Command → Deed → LineEffect
stopped world n node calls outcome command deed =
    let kept = not (is_opening command) && is_added calls (outcome_of outcome) in
    if kept
    then says Reply.Stopped (without_offers n deed.gives.event)
    (with_node world n (after_crash (with_records node deed)))
    else says Reply.Stopped (Other n) (with_node world n (after_crash node))

-- a command that ended before the crash
abbrev pub finished : World → ℕ → Node → Deed → LineEffect
finished world n node deed = record {
  done = true;
  reply = deed.gives.reply;
  made = deed.gives.made;
  event = without_offers n deed.gives.event;
  world = with_node world n (after_crash (with_records node deed));
}

-- a command with so many calls passing, and then a crash
abbrev pub cut : World → ℕ → Node → ℕ → OutcomeToken → Command → Deed → LineEffect
cut world n node calls outcome command deed =
    if is_stopped calls node command deed then stopped world n node calls outcome command deed
    else finished world n node deed

-- what is done with node n
abbrev pub act_at : World → (ℕ → Node → Option LineEffect) → ℕ → Option LineEffect
act_at world act n = option_and_then (act n) (slice_get world.nodes n)

-- what is done with the node that has the name, and a role that passes
abbrev pub act_on : (Role → Bool) → World → List ℕ → (ℕ → Node → Option LineEffect) → Option LineEffect
act_on may world name act = option_and_then (act_at world act) (number_of may world name)

-- a command of a node
abbrev pub command_effect : (List ℕ → List ℕ) → World → Command → ℕ → Node → Option LineEffect
command_effect dig world command n node =
    if answers_down node command then Some (down world)
    else option_map (commanded world n node) (deed_of dig world n node command)

-- a cut of a node
abbrev pub cut_effect : (List ℕ → List ℕ) → World → ℕ → OutcomeToken → Command → ℕ → Node → Option LineEffect
cut_effect dig world calls outcome command n node =
    if answers_down node command then Some (down world)
    else option_map (cut world n node calls outcome command) (deed_of dig world n node command)

-- ---- strangers

-- a transfer that a rogue signs
abbrev pub signed_by : World → ℕ → Body → Rogue → LineEffect
signed_by world leaf body rogue =
    record (says Reply.Signed Idle world) {
      made = body_text body ++ signature_of rogue.secret leaf (body_text body);
    }

-- its body
abbrev pub signed_body : World → ℕ → ℕ → Option ℕ → Owner → Body
signed_body world coin parent last to =
    record { tag = world.chain.tag; coin = coin; parent = parent; to = to; last = last }

-- ---- lines

-- What a line does in a world. None where it names what nobody declared, and for a second `chain` line.
unfoldable pub effect_in : (List ℕ → List ℕ) → World → Line → Option LineEffect
effect_in dig world (Line.Chain tag operator most) = None
effect_in dig world (Line.Wallet name account seed types) =
    Some (declares_wallet world name (declared_wallet world account seed types))
effect_in dig world (Line.Watcher name account) = Some (declares_watcher world name account)
effect_in dig world (Line.Rogue name account seed types) =
    Some (declares_rogue world name (declared_wallet world account seed types))
effect_in dig world (Line.Fund account amount) = Some (called dig world (RootCall.Fund account amount))
effect_in dig world (Line.Tick time) = Some (called dig world (RootCall.Tick time))
effect_in dig world (Line.Money account) = Some (says (Reply.Money (balance_of (log_in world) account)) Idle world)
effect_in dig world (Line.Deposit wallet amount) =
    option_map (λ owner. called dig world (deposit_by amount owner)) (owner_named world wallet)
effect_in dig world (Line.Call account form) =
    option_map (raw_called dig world account) (call_of world account form)
effect_in dig world (Line.Enter node number) =
    act_on any_role world node (λ n found. Some (entered dig world (offer_numbered number found)))
effect_in dig world (Line.Command command) =
    act_on (plays command) world (node_of command) (command_effect dig world command)
effect_in dig world (Line.Sign rogue leaf coin parent to last) =
    option_and_then
    (λ owner. option_map (signed_by world leaf (signed_body world coin parent last owner)) (rogue_named world rogue))
    (new_owner_of world to)
effect_in dig world (Line.Crash node outcome) = act_on any_role world node (λ n found. Some (crashed world n found))
effect_in dig world (Line.Cut node calls outcome command) =
    act_on (plays command) world (node_of command) (cut_effect dig world calls outcome command)

-- what the first line does: it begins the chain
unfoldable pub effect_of : (List ℕ → List ℕ) → Option World → Line → Option LineEffect
effect_of dig None (Line.Chain tag operator most) =
    Some (says Reply.Chain Idle (new_world (new_chain tag operator most)))
effect_of dig None line = None
effect_of dig (Some world) line = effect_in dig world line

-- the effect with the line's mail item: the bytes that it made, or none
abbrev pub with_mail : LineEffect → LineEffect
with_mail effect =
    let world = effect.world in record effect { world = record world { mail = world.mail ++ effect.made ∷ [] } }

-- the step of a line; None where it breaks a rule of declarations
unfoldable pub step : (List ℕ → List ℕ) → Option World → Line → Option LineEffect
step dig world line = if keeps_rules world line then option_map with_mail (effect_of dig world line) else None

-- ---- the mail's limit

-- the bytes of all mail items together
abbrev pub mail_size : World → ℕ
mail_size world = sum_by length world.mail

-- The mail has more bytes than a schedule's may have. The line that made it so ends the run.
unfoldable pub is_mail_full : World → Bool
is_mail_full world = nat_lt MOST_MAIL (mail_size world)

-- ---- the trace

-- a line of a trace: the schedule's line, its answer, the bytes that it made, and the event that it is
pub record TraceEntry : Type 0 where
  pub line : Line
  pub done : Bool
  pub reply : Reply
  pub made : List ℕ
  pub event : Event

abbrev pub entry_of : Line → LineEffect → TraceEntry
entry_of line effect = record {
  line = line;
  done = effect.done;
  reply = effect.reply;
  made = effect.made;
  event = effect.event;
}

-- what a schedule's lines leave: the world, once the chain has begun, and the trace, the newest line first
pub record Run : Type 0 where
  pub world : Option World
  pub entries : List TraceEntry

-- a run that has no lines
abbrev pub no_lines : Run
no_lines = record { world = None; entries = [] }

-- the run with one more line, which did this
abbrev pub with_line : Run → Line → LineEffect → Run
with_line run line effect = record { world = Some effect.world; entries = entry_of line effect ∷ run.entries }

-- the run with one more line, where the line has a step
abbrev pub step_run : (List ℕ → List ℕ) → Line → Run → Option Run
step_run dig line run = option_map (with_line run line) (step dig run.world line)

-- The run of a schedule's lines, the newest first. None where a line breaks a rule of declarations.
unfoldable pub run_of : (List ℕ → List ℕ) → List Line → Option Run
run_of dig [] = Some no_lines
run_of dig (line ∷ lines) = option_and_then (step_run dig line) (run_of dig lines)

-- the events of a run's entries
unfoldable pub events_of : List TraceEntry → List Event
events_of [] = []
events_of (entry ∷ entries) = entry.event ∷ events_of entries
