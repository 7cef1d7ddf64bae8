-- The events of a chain with its nodes accept the chain's calls and no others.
use Rattle.std.proofs.Common.{◌≡◌, ℕ, ◌-◌, Bool, true, false, if◌then◌else◌, List, [], ◌∷◌, length, Option, Some, None, refl, ap, ◌∙◌, inl, inr, arith}
use Rattle.std.specs.Prelude.{◌⊎◌, option_map, nat_le}
use Rattle.std.proofs.lemmas.Grind.{common_steps}
use Rattle.crash_disk.specs.Disk.{History, FaultPlan}
use Rattle.plasma_tx.specs.declared.call.RootCall.{RootCall}
use Rattle.plasma_tx.specs.Shown.{Rules}
use Rattle.node_rules.specs.declared.identity.WalletIdentity.{WalletIdentity}
use Rattle.node_rules.specs.Wallet.{WalletRecords}
use Rattle.node_replies.specs.declared.reply.Reply.{Reply}
use Rattle.node_replies.specs.declared.order.WalletOrder.{WalletOrder}
use Rattle.node_replies.specs.declared.order.WatcherOrder.{WatcherOrder}
use Rattle.node_replies.specs.declared.order.NodeOrder.{NodeOrder}
use Rattle.node_replies.specs.Orders.{Response, wallet_does, watcher_does}
use Rattle.node_lines.specs.declared.wallet_line.WalletLine.{WalletLine}
use Rattle.node_lines.specs.Grammar.{wallet_line_in, watcher_line_in}
use Rattle.node_roles.specs.Notes.{NotesAt}
use Rattle.node_roles.specs.Nodes.{NodeAt}
use Rattle.run_endings.specs.declared.status.Status.{Status}
use Rattle.node_runs.specs.Sessions.{Outside}
use Rattle.node_runs.specs.Runs.{RunsWatcher, RunsWallet}
use Rattle.node_lives.specs.Disks.{Pair}
use Rattle.node_lives.specs.Calls.{Asked, DoesAsked, Starves, Call}
use Rattle.node_lives.specs.Answered.{Lines, lines_answered}
use Rattle.world_rules.specs.Events.{Event, Joins, Leaves, log_of, wallet_owner, node_in}
use Rattle.world_rules.specs.OrderEvents.{unless_refused, of_offer, wallet_event, watcher_event, event_of}
use Rattle.world_rules.specs.Steps.{without_offers}
use Rattle.chain_lives.specs.Steps.{Deed, Visit, Act, Runs, Step, Enters, Refuses, Does, Found, chain_of, left_by, event_where, answered_events, late_events, act_events, found_by, none_found, events_behind}
use Rattle.chain_lives.specs.Acts.{line_event, wallet_deed, watcher_deed, deeds_of, commands_in, next_in, log_in, visit_of, begun_by, ran_or, wallet_visit, watcher_visit, act_by, act_of, acts_of}
use Rattle.chain_lives.specs.Log.{EventsHoldTheChain}

-- ---- events that enter no call

-- the event is of node n, enters no call, and declares no wallet
pub record IsQuiet (n : ℕ) (event : Event) : Type 0 where
  pub calls : log_of (event ∷ []) ≡ []
  pub owners : (w : ℕ) → wallet_owner (event ∷ []) w ≡ None
  pub own : node_in event ≡ Some n

pub quiet_step : (n : ℕ) (event : Event) (events : List Event) → IsQuiet n event
    → log_of (event ∷ events) ≡ log_of events
unfolding log_of
quiet_step n (Joins call) events quiet = absurd (cc quiet.calls)
quiet_step n event events quiet = refl

pub without_quiet : (n : ℕ) (event : Event) → IsQuiet n event → IsQuiet n (without_offers n event)
unfolding log_of wallet_owner
without_quiet n event quiet = grind (arith, common_steps) steps 20000

unless_quiet : (n : ℕ) (reply : Reply) (event : Event) → IsQuiet n event → IsQuiet n (unless_refused n reply event)
unfolding log_of wallet_owner
unless_quiet n (Reply.Refused cause) event quiet = record { calls = refl; owners = λ w. refl; own = refl }
unless_quiet n reply event quiet = quiet

offer_quiet : (n : ℕ) (calls : List RootCall) → IsQuiet n (of_offer n (Leaves n) calls)
unfolding log_of wallet_owner
offer_quiet n calls = grind (arith, common_steps) steps 20000

wallet_quiet : (n : ℕ) (order : WalletOrder) (response : Response) → IsQuiet n (wallet_event n order response)
unfolding log_of wallet_owner
wallet_quiet n (WalletOrder.Leave coin) response = offer_quiet n response.offers
wallet_quiet n order response = record { calls = refl; owners = λ w. refl; own = refl }

watcher_quiet : (n : ℕ) (order : WatcherOrder) (response : Response) → IsQuiet n (watcher_event n order response)
unfolding log_of wallet_owner
watcher_quiet n order response = grind (arith, common_steps) steps 20000

-- ---- commands

pub line_quiet : (n : ℕ) (dig : List ℕ → List ℕ) (log : List RootCall) (records : WalletRecords) (line : WalletLine)
    → IsQuiet n (line_event n dig log records line)
unfolding log_of wallet_owner event_of
line_quiet n dig log records (WalletLine.Order order) =
    let response = (wallet_does dig log records order).response in
    unless_quiet n response.reply (wallet_event n order response) (wallet_quiet n order response)
line_quiet n dig log records line = record { calls = refl; owners = λ w. refl; own = refl }

pub order_quiet : (n : ℕ) (order : WatcherOrder) (response : Response)
    → IsQuiet n (event_of n (NodeOrder.Watcher order) response)
unfolding event_of
order_quiet n order response =
    unless_quiet n response.reply (watcher_event n order response) (watcher_quiet n order response)

abbrev pub AreQuiet : ℕ → List Deed → Type 0
AreQuiet n [] = Unit {0}
AreQuiet n (deed ∷ deeds) = IsQuiet n deed.event × AreQuiet n deeds

abbrev pub MayBeQuiet : ℕ → Option Deed → Type 0
MayBeQuiet n None = Unit {0}
MayBeQuiet n (Some deed) = IsQuiet n deed.event

abbrev pub IsQuietVisit : ℕ → Visit → Type 0
IsQuietVisit n visit = AreQuiet n visit.deeds × MayBeQuiet n visit.next

abbrev pub IsQuietAct : ℕ → Act → Type 0
IsQuietAct n (Runs visit) = IsQuietVisit n visit
IsQuietAct n act = Unit {0}

deeds_quiet : {L : Type 0} (n : ℕ) (does : WalletRecords → L → Deed)
    → ((records : WalletRecords) (line : L) → IsQuiet n (does records line).event)
    → (records : WalletRecords) (lines : List L) → AreQuiet n (deeds_of does records lines)
deeds_quiet n does each records [] = tt
deeds_quiet n does each records (line ∷ lines) =
    (each records line, deeds_quiet n does each (does records line).left lines)

next_quiet : {L : Type 0} (n : ℕ) (does : L → Deed) → ((line : L) → IsQuiet n (does line).event) → (line : Option L)
    → MayBeQuiet n (option_map does line)
next_quiet n does each None = tt
next_quiet n does each (Some line) = each line

visit_quiet : {L : Type 0} (n : ℕ) (command_in : List ℕ → Option L) (does : List RootCall → WalletRecords → L → Deed)
    → ((log : List RootCall) (records : WalletRecords) (line : L) → IsQuiet n (does log records line).event)
    → (outside : Outside) (found : WalletRecords) (lines : Lines (NodeAt NotesAt))
    → IsQuietVisit n (visit_of command_in does outside found lines)
visit_quiet n command_in does each outside found lines =
    let deeds = deeds_of (does (log_in lines)) found (commands_in command_in lines) in (
      deeds_quiet n (does (log_in lines)) (each (log_in lines)) found (commands_in command_in lines),
      next_quiet n (does (log_in lines) (left_by found deeds)) (each (log_in lines) (left_by found deeds))
          (next_in command_in lines),
    )

-- ---- runs

pub where_quiet : (n written : ℕ) (deed : Deed) → IsQuiet n deed.event → IsQuiet n (event_where n written deed)
where_quiet n written deed quiet = by (nat_le (length deed.text) written)
  where
    by : (b : Bool) → IsQuiet n (if b then deed.event else without_offers n deed.event)
    by true = quiet
    by false = without_quiet n deed.event quiet

answered_log : (n written : ℕ) (deeds : List Deed) (events : List Event) → AreQuiet n deeds
    → log_of (answered_events n written deeds events) ≡ log_of events
unfolding answered_events
answered_log n written [] events quiet = refl
answered_log n written (deed ∷ deeds) events quiet =
    answered_log n (written - length deed.text) deeds (event_where n written deed ∷ events) quiet.1
    ∙ quiet_step n (event_where n written deed) events (where_quiet n written deed quiet.0)

late_log : (n : ℕ) (found : Option WalletRecords) (visit : Visit) (events : List Event) → MayBeQuiet n visit.next
    → log_of (late_events n found visit events) ≡ log_of events
late_log n found visit events quiet = grind (arith, common_steps, quiet_step, without_quiet) steps 20000

act_log : (n : ℕ) (found : Option WalletRecords) (act : Act) (events : List Event) → IsQuietAct n act
    → log_of (act_events n found act events) ≡ log_of events
unfolding log_of
act_log n found act events quiet = grind (arith, common_steps, late_log, answered_log) steps 20000

begun_quiet : (n : ℕ) (who : Option WalletIdentity) → IsQuietAct n (begun_by who)
begun_quiet n None = tt
begun_quiet n (Some who) = tt

module _ {D : Type 0} (told : D → Option History) (plan : D → Option FaultPlan) (faults : D → ℕ)
    (dig : List ℕ → List ℕ) where
  by_wallet : (n : ℕ) (old new : Pair D) (outside : Outside) (status : Status)
      (did : RunsWallet told plan faults dig old.notes old.leaves new.notes new.leaves outside (Unit {0}) status)
      → IsQuietAct n (ran_or (wallet_visit told plan faults dig n old new outside status did))
  unfolding RunsWallet wallet_visit
  by_wallet n old new outside status (inl (opened, opens, session)) =
      visit_quiet n wallet_line_in (wallet_deed n dig) (line_quiet n dig) outside opened.records
      (lines_answered session)
  by_wallet n old new outside status (inr refused) = tt

  by_watcher : (n : ℕ) (old new : D) (outside : Outside) (status : Status)
      (did : RunsWatcher told plan faults dig old new outside (Unit {0}) status)
      → IsQuietAct n (ran_or (watcher_visit told plan faults dig n old new outside status did))
  unfolding RunsWatcher watcher_visit
  by_watcher n old new outside status (inl (opened, opens, session)) =
      visit_quiet n watcher_line_in (watcher_deed n dig)
      (λ log records order. order_quiet n order (watcher_does dig log records.notes order).response) outside
      (record { notes = opened.records; leaves = [] }) (lines_answered session)
  by_watcher n old new outside status (inr refused) = tt

  pub by_call : (n : ℕ) (asked : Asked) (old new : Pair D) (outside : Outside) (status : Status)
      (did : DoesAsked told plan faults dig asked old new outside status ⊎ Starves old new status)
      → IsQuietAct n (act_by told plan faults dig n asked old new outside status did)
  unfolding act_by
  by_call n asked old new outside status did =
      grind (arith, common_steps, begun_quiet, by_wallet, by_watcher) steps 20000

  pub behind : (found : Found) (steps : List (Step (Call told plan faults dig)))
      → log_of (events_behind found (acts_of told plan faults dig steps)) ≡ chain_of steps
  unfolding log_of events_behind acts_of chain_of
  behind found [] = refl
  behind found (Enters call ∷ steps) = ap (λ calls. call ∷ calls) (behind found steps)
  behind found (Refuses call ∷ steps) = behind found steps
  behind found (Does n call ∷ steps) =
      act_log n (found n) (act_of told plan faults dig n call)
      (events_behind (found_by n (act_of told plan faults dig n call) found) (acts_of told plan faults dig steps))
      (by_call n call.asked call.old call.new call.outside call.status call.did)
      ∙ behind (found_by n (act_of told plan faults dig n call) found) steps

  pub events_hold_the_chain : (rules : Rules) → EventsHoldTheChain told plan faults dig rules
  events_hold_the_chain rules steps = behind none_found steps
