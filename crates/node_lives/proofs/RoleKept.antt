-- The commands of a watcher, and of an operator without a key, keep the role of their records, and add no leaf.
use Rattle.std.proofs.Common.{◌≡◌, ℕ, true, List, [], None, arith}
use Rattle.std.proofs.lemmas.Grind.{common_steps}
use Rattle.plasma_tx.specs.declared.call.RootCall.{RootCall}
use Rattle.node_journal.specs.Role.{Kinds, are_of}
use Rattle.node_rules.specs.Wallet.{WalletRecords}
use Rattle.node_rules.specs.Watcher.{watcher_kinds}
use Rattle.operator_rules.specs.Records.{operator_kinds}
use Rattle.node_replies.specs.Orders.{with_record}
use Rattle.node_deeds.specs.WatcherLaws.{HasBytes}
use Rattle.node_deeds.proofs.WatcherOrderLaws.{orders_keep_the_role as watcher_orders_keep, orders_add_no_leaf as watcher_adds_no_leaf}
use Rattle.node_deeds.proofs.OperatorOrderLaws.{orders_keep_the_role as operator_orders_keep, orders_add_no_leaf}
use Rattle.node_replies.specs.declared.order.WatcherOrder.{WatcherOrder}
use Rattle.node_lines.specs.declared.operator_line.OperatorLine.{OperatorLine}
use Rattle.node_lines.specs.Grammar.{IsWatcherLine}
use Rattle.node_lines.proofs.GrammarLaws.{watcher_line_text-in}
use Rattle.node_answers.specs.Answers.{Outcome, watcher_outcome, operator_outcome}
use Rattle.node_roles.specs.Roles.{wallet_records, watcher_commands, operator_commands}
use Rattle.node_lives.proofs.Own.{Grows, Growing}

-- the bytes of a watcher's order that a line spells are bytes
order-bytes : (order : WatcherOrder) → IsWatcherLine order → HasBytes order
order-bytes (WatcherOrder.Guard bundle) is = is.0
order-bytes _ is = tt

-- the records of a node without leaves, whose notes are of a role
pub record AreAlone (kinds : Kinds) (records : WalletRecords) : Type 0 where
  pub notes : are_of kinds records.notes ≡ true
  pub leaves : records.leaves ≡ []

alone-grows : (kinds : Kinds) (records : WalletRecords) (outcome : Outcome) → AreAlone kinds records
    → outcome.leaf ≡ None → are_of kinds (with_record records.notes outcome.note) ≡ true
    → Grows (AreAlone kinds) records outcome
alone-grows kinds records outcome is leafless notes = grind (arith, common_steps) steps 20000

pub watcher-grows : (dig : List ℕ → List ℕ) → Growing dig (AreAlone (watcher_kinds dig)) watcher_commands
unfolding watcher_outcome
watcher-grows dig log parts line order few spells is =
    alone-grows (watcher_kinds dig) (wallet_records parts) (watcher_outcome dig log parts.notes order) is
    (watcher_adds_no_leaf dig log parts.notes order)
    (watcher_orders_keep dig log parts.notes order is.notes
    (order-bytes order (watcher_line_text-in line order spells).1))

-- a receipt and a migration are refused, and add nothing
outcome-grows : (dig : List ℕ → List ℕ) (log : List RootCall) (records : WalletRecords) (line : OperatorLine)
    → AreAlone operator_kinds records
    → Grows (AreAlone operator_kinds) records (operator_outcome dig log records.notes line)
unfolding operator_outcome
outcome-grows dig log records line is =
    grind (arith, common_steps, alone-grows, orders_add_no_leaf, operator_orders_keep) steps 20000

pub operator-grows : (dig : List ℕ → List ℕ) → Growing dig (AreAlone operator_kinds) operator_commands
operator-grows dig log parts line command few spells is = outcome-grows dig log (wallet_records parts) command is
