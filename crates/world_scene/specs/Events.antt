-- The event that a line is, in memory.
use Rattle.std.specs.Prelude.{◌≡◌, ℕ, true, List, slice_get, Some}
use Rattle.std.specs.Option.{ForSome}
use Rattle.plasma_tx.specs.Shown.{tests_by, rules_of}
use Rattle.schedule_text.specs.declared.line.Line.{Line}
use Rattle.node_rules.specs.WalletOpening.{is_wallet}
use Rattle.world_rules.specs.{World.{Node, World, is_wallet_role, wallet_of}, Steps.{LineEffect, effect_in}}
use Rattle.world_trace.specs.{declared.event.LineEvent.{LineEvent}, Events.{IsEvent}, Orders.{TellsFinished, TellsStopped}}
use Rattle.node_replies.specs.declared.order.NodeOrder.{NodeOrder}
use Rattle.world_nodes.specs.declared.order.CutEnd.{CutEnd}

-- the event in memory is that of an order of node n that was cut and ended so
abbrev pub EndTells : ℕ → NodeOrder → CutEnd → LineEvent → Type 0
EndTells n order CutEnd.Down event = event ≡ LineEvent.Idle
EndTells n order (CutEnd.Stopped kept) event = TellsStopped n order kept event
EndTells n order (CutEnd.Done given) event = TellsFinished n order given event

-- the event in memory is that of an effect in a world
abbrev pub TellsEffect : (List ℕ → List ℕ) → World → LineEvent → LineEffect → Type 0
TellsEffect dig world event effect =
    IsEvent (tests_by dig) (rules_of world.chain) world.chain.log effect.event event

-- the event in memory is that of what a line does in a world
abbrev pub Tells : (List ℕ → List ℕ) → World → Line → LineEvent → Type 0
Tells dig world line event = ForSome (effect_in dig world line) (TellsEffect dig world event)

-- each wallet of the world has a wallet's records; in every run it does
abbrev pub HasWallets : (List ℕ → List ℕ) → World → Type 0
HasWallets dig world = (n : ℕ) (node : Node) → slice_get world.nodes n ≡ Some node
    → is_wallet_role node.role ≡ true → is_wallet dig (wallet_of node) ≡ true

-- the event in memory is that of what a line does in a world whose wallets have a wallet's records
abbrev pub TellsInRuns : (List ℕ → List ℕ) → World → Line → LineEvent → Type 0
TellsInRuns dig world line event = HasWallets dig world → Tells dig world line event
