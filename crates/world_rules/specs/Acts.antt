-- What a line of a schedule is, once everything that it names is looked up: an act, or none, where it breaks a rule of
-- declarations. And what each act does to the world.
use Rattle.std.specs.Prelude.{ℕ, ◌&&◌, not, Bool, true, false, nat_lt, if◌then◌else◌, List, [], ◌∷◌, slice_get, Option, Some, None, option_map, option_and_then}
use Rattle.std.specs.Option.{option_map_or}
use Rattle.std.specs.Str.{bytes_eq}
use Rattle.crash_disk.specs.declared.outcome.Outcome.{Outcome}
use Rattle.gate_journal.specs.Laws.{is_added}
use Rattle.lms_sign.specs.Types.{leaf_count}
use Rattle.plasma_tx.specs.{declared.body.Body.{Body}, declared.call.RootCall.{RootCall}, Money.{balance_of}}
use Rattle.schedule_text.specs.{declared.line.Line.{Line}, declared.command.Command.{Command}, Grammar.{node_of}}
use Rattle.node_rules.specs.declared.identity.WalletIdentity.{WalletIdentity}
use Rattle.node_replies.specs.{declared.reply.Reply.{Reply}, declared.order.NodeOrder.{NodeOrder}}
use Rattle.world_rules.specs.{Events.{Event, Other, Idle}, World.{Role, Node, Rogue, World, is_wallet_role, any_role, with_node, number_of, rogue_named, owner_of_node, new_owner_of, call_of}}
use Rattle.world_rules.specs.{Declarations.{plays, declared_wallet, may_be_wallet, may_be_other, is_wallet_account}, Orders.{order_of, node_does}, Deeds.{Deed, as_deed, adds_record}}
use Rattle.world_rules.specs.Steps.{LineEffect, says, declares_wallet, declares_watcher, declares_rogue, log_in, called, deposit_by, offer_numbered, with_records, after_command, after_crash, crashed, outcome_of, without_offers, signed_by, signed_body}

-- ---- what there is to do

-- a node of the world, and its number
pub record Place : Type 0 where
  pub number : ℕ
  pub node : Node

-- who is declared
pub data Newcomer : Type 0 where
  NewWallet : WalletIdentity → Newcomer
  NewWatcher : ℕ → Newcomer
  NewRogue : WalletIdentity → Newcomer

-- where a call comes from
pub data Origin : Type 0 where
  -- it is the line's own: money that comes in, or the time
  Plain : Origin
  -- the wallet there deposits
  Deposits : Place → Origin
  -- a stranger's account enters it
  Raw : ℕ → Origin
  -- the node there offers it
  Offered : Place → Origin

-- a cut: how many calls of a command pass, and what the crash leaves of an append
pub record Cut : Type 0 where
  pub calls : ℕ
  pub outcome : Outcome

-- what a line is
pub data Act : Type 0 where
  -- nothing changes, and this is the answer
  Rests : Reply → Act
  -- a stranger signs a body by a leaf of its key
  Signs : ℕ → Body → Rogue → Act
  -- a name is declared
  Adds : List ℕ → Newcomer → Act
  -- a call is entered
  Enters : Origin → RootCall → Act
  -- the node there, which isn't down for it, is given an order, and perhaps cut
  Orders : Place → NodeOrder → Option Cut → Act
  -- the node there crashes
  Crashes : Place → Act

-- ---- looking up

-- what is found, where the rule holds
abbrev pub only_where : {A : Type 0} → Bool → Option A → Option A
only_where holds found = if holds then found else None

-- the node with the number
abbrev pub place_at : World → ℕ → Option Place
place_at world n = option_map (λ node. record { number = n; node = node }) (slice_get world.nodes n)

-- the node with the name, and a role that passes
abbrev pub place_named : (Role → Bool) → World → List ℕ → Option Place
place_named may world name = option_and_then (place_at world) (number_of may world name)

-- the rogue with the name, where its key has the leaf
abbrev pub signer_named : World → List ℕ → ℕ → Option Rogue
signer_named world name leaf =
    option_and_then (λ rogue. only_where (nat_lt leaf (leaf_count rogue.secret.types)) (Some rogue))
    (rogue_named world name)

-- the order opens the node
abbrev pub opens : NodeOrder → Bool
opens NodeOrder.Open = true
opens order = false

-- the node is down, and the order doesn't open it
abbrev pub is_down_for : NodeOrder → Node → Bool
is_down_for order node = not node.is_up && not (opens order)

-- an order of the node there: one that is down for it does nothing, and says so
abbrev pub order_act : Option Cut → Place → NodeOrder → Act
order_act cut place order = if is_down_for order place.node then Rests Reply.Down else Orders place order cut

-- a command, and perhaps its cut
abbrev pub command_act : World → Option Cut → Command → Option Act
command_act world cut command =
    option_and_then (λ place. option_map (order_act cut place) (order_of world place.node.role command))
    (place_named (plays command) world (node_of command))

-- the offer with a number
abbrev pub offer_act : ℕ → Place → Act
offer_act number place =
    option_map_or (Enters (Offered place)) (offer_numbered number place.node) (Rests Reply.Nothing)

-- ---- the act of a line

-- What a line is. None where it breaks a rule of declarations.
unfoldable pub act_of : World → Line → Option Act
act_of world (Line.Chain tag operator most) = None
act_of world (Line.Wallet name account seed types) =
    let who = declared_wallet world account seed types in
    only_where (may_be_wallet world name who) (Some (Adds name (NewWallet who)))
act_of world (Line.Watcher name account) =
    only_where (may_be_other world name account) (Some (Adds name (NewWatcher account)))
act_of world (Line.Rogue name account seed types) =
    let who = declared_wallet world account seed types in
    only_where (may_be_other world name account) (Some (Adds name (NewRogue who)))
act_of world (Line.Fund account amount) = Some (Enters Plain (RootCall.Fund account amount))
act_of world (Line.Tick time) = Some (Enters Plain (RootCall.Tick time))
act_of world (Line.Money account) = Some (Rests (Reply.Money (balance_of (log_in world) account)))
act_of world (Line.Deposit wallet amount) =
    option_map (λ place. Enters (Deposits place) (deposit_by amount (owner_of_node place.node)))
    (place_named is_wallet_role world wallet)
act_of world (Line.Call account form) =
    only_where (not (is_wallet_account world account)) (option_map (Enters (Raw account)) (call_of world account form))
act_of world (Line.Enter node number) = option_map (offer_act number) (place_named any_role world node)
act_of world (Line.Command command) = command_act world None command
act_of world (Line.Sign rogue leaf coin parent to last) =
    option_and_then
    (λ signer. option_map (λ owner. Signs leaf (signed_body world coin parent last owner) signer)
    (new_owner_of world to)) (signer_named world rogue leaf)
act_of world (Line.Crash node outcome) = option_map Crashes (place_named any_role world node)
act_of world (Line.Cut node calls outcome command) =
    let cut : Cut = record { calls = calls; outcome = outcome_of outcome } in
    only_where (bytes_eq (node_of command) node) (command_act world (Some cut) command)

-- ---- what an act does

-- a name is declared
abbrev pub newcomer_effect : World → List ℕ → Newcomer → LineEffect
newcomer_effect world name (NewWallet who) = declares_wallet world name who
newcomer_effect world name (NewWatcher account) = declares_watcher world name account
newcomer_effect world name (NewRogue who) = declares_rogue world name who

-- a stranger's account is known once its call is entered
abbrev pub callers_after : List ℕ → Origin → List ℕ
callers_after callers (Raw account) = account ∷ callers
callers_after callers origin = callers

-- How an order ends: it is done, and the node goes on; or it is done, and the node crashes behind it; or it is stopped
-- where it needs more calls than pass, and its record is kept or lost.
pub data End : Type 0 where
  Whole : End
  Crashed : End
  Kept : End
  Lost : End

-- The opening of a node that is down makes three calls on each disk, and an append four on its one.
abbrev pub needs_more : Cut → Node → NodeOrder → Deed → Bool
needs_more cut node order deed =
    if opens order then not node.is_up && nat_lt cut.calls 3 else adds_record deed && nat_lt cut.calls 4

-- how an order ends with or without a cut; a record of which enough calls passed for the outcome is kept
abbrev pub end_of : Option Cut → Node → NodeOrder → Deed → End
end_of None node order deed = Whole
end_of (Some cut) node order deed =
    if needs_more cut node order deed
    then (if not (opens order) && is_added cut.calls cut.outcome then Kept else Lost)
    else Crashed

-- it was stopped
abbrev pub is_stopped : End → Bool
is_stopped Kept = true
is_stopped Lost = true
is_stopped end = false

-- it was in a cut, and ended before the crash
abbrev pub ends_first : End → Bool
ends_first Crashed = true
ends_first end = false

-- the node after an order that ended so
abbrev pub node_after : Node → Deed → End → Node
node_after node deed Whole = after_command node deed
node_after node deed Lost = after_crash node
node_after node deed end = after_crash (with_records node deed)

-- what it is as an event: a node that is down offers nothing, and a record that is lost tells nothing
abbrev pub event_after : ℕ → Deed → End → Event
event_after n deed Whole = deed.gives.event
event_after n deed Lost = Other n
event_after n deed end = without_offers n deed.gives.event

-- an order that ended so
abbrev pub end_effect : World → Place → Deed → End → LineEffect
end_effect world place deed end = record {
  done = ends_first end;
  reply = if is_stopped end then Reply.Stopped else deed.gives.reply;
  made = if is_stopped end then [] else deed.gives.made;
  event = event_after place.number deed end;
  world = with_node world place.number (node_after place.node deed end);
}

-- what the node there does for an order
abbrev pub deed_at : (List ℕ → List ℕ) → World → Place → NodeOrder → Deed
deed_at dig world place order = as_deed place.number order (node_does dig world.chain.log place.node order)

-- what an act does
unfoldable pub done : (List ℕ → List ℕ) → World → Act → LineEffect
done dig world (Rests reply) = says reply Idle world
done dig world (Signs leaf body rogue) = signed_by world leaf body rogue
done dig world (Adds name newcomer) = newcomer_effect world name newcomer
done dig world (Enters origin call) =
    called dig (record world { raw_callers = callers_after world.raw_callers origin }) call
done dig world (Orders place order cut) =
    let deed = deed_at dig world place order in end_effect world place deed (end_of cut place.node order deed)
done dig world (Crashes place) = crashed world place.number place.node
