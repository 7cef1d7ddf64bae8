-- Laws of orders to a watcher.
use Rattle.node_deeds.proofs.Words.{◌≡◌, ℕ, List, [], true, ◌<◌, Option, Some, None, refl, IfSome, are_of, watcher_kinds, guard_effect, release_effect, with_record, watcher_does}
use Rattle.std.proofs.lemmas.List.Elements.{All-nil}
use Rattle.node_rules.specs.WatcherLaws.{KeepsRole}
use Rattle.node_rules.proofs.WatcherRole.{commands_keep_the_role}
use Rattle.node_replies.specs.declared.order.WatcherOrder.{WatcherOrder}
use Rattle.node_deeds.specs.WatcherLaws.{OrdersAddNoLeaf, OrdersKeepTheRole}

pub orders_add_no_leaf : OrdersAddNoLeaf
unfolding watcher_does
orders_add_no_leaf dig log notes (WatcherOrder.Guard bytes) = refl
orders_add_no_leaf dig log notes it = refl

-- the records are still a watcher's where what is added may follow
kept : (dig : List ℕ → List ℕ) (notes : List (List ℕ)) (added : Option (List ℕ))
    → are_of (watcher_kinds dig) notes ≡ true → IfSome added (KeepsRole dig notes)
    → are_of (watcher_kinds dig) (with_record notes added) ≡ true
kept dig notes None role keeps = role
kept dig notes (Some body) role keeps = keeps.1

pub orders_keep_the_role : OrdersKeepTheRole
unfolding watcher_does
orders_keep_the_role dig log notes (WatcherOrder.Guard bytes) role small =
    kept dig notes (guard_effect dig notes log bytes).note role
    (commands_keep_the_role dig notes log bytes 0 0 role small).0
orders_keep_the_role dig log notes (WatcherOrder.Release coin tip) role small =
    kept dig notes (release_effect dig notes coin tip).note role
    (commands_keep_the_role dig notes log [] coin tip role (All-nil (λ byte. byte < 256))).1
orders_keep_the_role dig log notes WatcherOrder.Watch role small = role
