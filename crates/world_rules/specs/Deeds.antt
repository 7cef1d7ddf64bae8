-- What a command of a node that is up does: its answer, the bytes that it makes, the calls that it offers, the record
-- that it adds, and the event that it is.
use Rattle.std.specs.Prelude.{ℕ, ◌||◌, Bool, List, Option, is_some, option_map}
use Rattle.plasma_tx.specs.declared.call.RootCall.{RootCall}
use Rattle.schedule_text.specs.declared.command.Command.{Command}
use Rattle.node_replies.specs.{declared.reply.Reply.{Reply}, declared.order.NodeOrder.{NodeOrder}, Orders.{Doing}}
use Rattle.world_rules.specs.{Events.{Event}, World.{Node, World}, Orders.{order_of, node_does}, OrderEvents.{event_of}}

-- what a command gives out: its answer, the bytes that it makes and the calls that it offers; and the event that it is
pub record Gives : Type 0 where
  pub reply : Reply
  pub made : List ℕ
  pub offers : List RootCall
  pub event : Event

-- what it gives out, and the record that it adds to the node's notes or to its leaves
pub record Deed : Type 0 where
  pub gives : Gives
  pub note : Option (List ℕ)
  pub leaf : Option (List ℕ)

-- the deed that an order of node n is which does this
abbrev pub as_deed : ℕ → NodeOrder → Doing → Deed
as_deed n order doing = record {
  gives = record {
    reply = doing.response.reply;
    made = doing.response.made;
    offers = doing.response.offers;
    event = event_of n order doing.response;
  };
  note = doing.note;
  leaf = doing.leaf;
}

-- What a command of node n does: what its order does. None where it names what nobody declared.
unfoldable pub deed_of : (List ℕ → List ℕ) → World → ℕ → Node → Command → Option Deed
deed_of dig world n node command =
    option_map (λ order. as_deed n order (node_does dig world.chain.log node order)) (order_of world node.role command)

-- the deed adds a record
abbrev pub adds_record : Deed → Bool
adds_record deed = is_some deed.note || is_some deed.leaf
