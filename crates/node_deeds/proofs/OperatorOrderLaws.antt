-- Laws of orders to the operator.
use Rattle.node_deeds.proofs.Words.{◌≡◌, ℕ, List, [], true, Option, Some, None, refl, are_of, may_follow, offer_effect, lay_effect, seal_effect, with_record, operator_does}
use Rattle.node_journal.proofs.Roles.{notes_follow}
use Rattle.operator_rules.specs.Records.{operator_kinds}
use Rattle.operator_rules.proofs.Role.{commands_keep_the_role}
use Rattle.node_replies.specs.declared.order.OperatorOrder.{OperatorOrder}
use Rattle.node_deeds.specs.OperatorLaws.{OrdersAddNoLeaf, OrdersKeepTheRole}

pub orders_add_no_leaf : OrdersAddNoLeaf
unfolding operator_does
orders_add_no_leaf dig log notes (OperatorOrder.Offer transfer) = refl
orders_add_no_leaf dig log notes it = refl

-- the records are still an operator's where what is added may follow
kept : (notes : List (List ℕ)) (added : Option (List ℕ)) → are_of operator_kinds notes ≡ true
    → ((body : List ℕ) → added ≡ Some body → may_follow operator_kinds notes body ≡ true)
    → are_of operator_kinds (with_record notes added) ≡ true
kept notes None role follows = role
kept notes (Some body) role follows = notes_follow operator_kinds notes body role (follows body refl)

pub orders_keep_the_role : OrdersKeepTheRole
unfolding operator_does
orders_keep_the_role dig log notes (OperatorOrder.Offer transfer) role =
    kept notes (offer_effect dig notes log transfer).note role
    (λ body. (commands_keep_the_role dig notes log 0 transfer body role).0)
orders_keep_the_role dig log notes (OperatorOrder.Lay coin leaf) role =
    kept notes (lay_effect coin leaf).note role
    (λ body. (commands_keep_the_role dig notes log coin leaf body role).1)
orders_keep_the_role dig log notes OperatorOrder.Seal role =
    kept notes (seal_effect dig notes).note role (λ body. (commands_keep_the_role dig notes log 0 [] body role).2)
orders_keep_the_role dig log notes it role = role
