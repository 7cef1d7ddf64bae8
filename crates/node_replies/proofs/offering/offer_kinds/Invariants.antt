use Rattle.std.proofs.Common.{◌≡◌, take}
use Rattle.std.specs.List.{filter_map}
use Rattle.node_replies.specs.Orders.{kind_of}
use Rattle.node_replies.proofs.offering.offer_kinds.Given as goal

abbrev pub invariant-loop-call : goal.invariant-loop-call
invariant-loop-call l = l.kinds.items ≡ filter_map kind_of (take l.call-index l.calls)
