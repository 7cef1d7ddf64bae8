-- What holds of orders to the operator.
use Rattle.std.specs.Prelude.{◌≡◌, ℕ, true, List, None}
use Rattle.node_journal.specs.Role.{are_of}
use Rattle.plasma_tx.specs.declared.call.RootCall.{RootCall}
use Rattle.operator_rules.specs.Records.{operator_kinds}
use Rattle.node_replies.specs.declared.order.OperatorOrder.{OperatorOrder}
use Rattle.node_replies.specs.Orders.{operator_does, with_record}

-- an order adds no leaf
abbrev pub OrdersAddNoLeaf : Type 0
OrdersAddNoLeaf = (dig : List ℕ → List ℕ) (log : List RootCall) (notes : List (List ℕ)) (order : OperatorOrder)
    → (operator_does dig log notes order).leaf ≡ None

-- the records are an operator's with what an order adds
abbrev pub OrdersKeepTheRole : Type 0
OrdersKeepTheRole = (dig : List ℕ → List ℕ) (log : List RootCall) (notes : List (List ℕ))
    (order : OperatorOrder) → are_of operator_kinds notes ≡ true
    → are_of operator_kinds (with_record notes (operator_does dig log notes order).note) ≡ true
