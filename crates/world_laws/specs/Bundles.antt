-- That a bundle which an operator makes that keeps to the rules is taken by the wallet that it is for.
use Rattle.std.specs.Prelude.{◌≡◌, ◌⊎◌, ◌≤◌, ℕ, ◌+◌, Bool, true, false, if◌then◌else◌, List, [], ◌∷◌, ◌++◌, slice_get, Some, Ok}
use Rattle.std.specs.List.{list_any}
use Rattle.line_forms.specs.declared.tokens.HexOrItem.{HexOrItem}
use Rattle.sparse_merkle.specs.{declared.tree.Entry.{Entry}, TreeDigest.{leaf_of}}
use Rattle.plasma_tx.specs.{declared.signed_tx.SignedTx.{SignedTx}, declared.call.RootCall.{RootCall}, declared.views.CoinView.{CoinView}, Spelling.{signed_in}, Transfer.{may_stand_in}, Views.{coin_at, is_withdrawn}}
use Rattle.schedule_text.specs.{declared.line.Line.{Line}, declared.call_form.CallForm.{CallForm}, declared.command.Command.{Command}, declared.command.WalletCommand.{WalletCommand}, declared.command.OperatorCommand.{OperatorCommand}}
use Rattle.node_rules.specs.{declared.refusal.WalletRefusal.{WalletRefusal}, Kept.{standing_block}}
use Rattle.operator_rules.specs.{Acts.{AreDistinct}, Commands.{forest_in}, Trees.{tree_at}, Walk.{place_at}}
use Rattle.node_replies.specs.{declared.reply.Reply.{Reply}, Causes.{wallet_cause}}
use Rattle.world_rules.specs.{Events.{Event, Joins, is_command_of}, World.{Node, World, is_wallet_role, number_of, owner_of_node, bytes_of}, Steps.{LineEffect, TraceEntry, Run, step, events_of}, Safety.{is_joined}, Laws.{IsCommandIn}}
use Rattle.world_laws.specs.Headline.{IsRun}

-- ---- an operator that keeps to the rules

-- the command lays bytes
abbrev pub lays : Command → Bool
lays (Command.Operator (OperatorCommand.Lay coin leaf)) = true
lays command = false

-- the line lays bytes, alone or in a cut, or is a raw commit
abbrev pub is_barred : Line → Bool
is_barred (Line.Command command) = lays command
is_barred (Line.Cut node calls outcome command) = lays command
is_barred (Line.Call account (CallForm.Commit root)) = true
is_barred line = false

-- a commit joined the log
abbrev pub is_commit : Event → Bool
is_commit (Joins (RootCall.Commit account root)) = true
is_commit event = false

-- how many commits joined the log since the operator's last command, which a seal's commit is an offer of
unfoldable pub commits_since : List Event → ℕ
commits_since [] = 0
commits_since (event ∷ events) =
    if is_command_of 0 event then 0 else (if is_commit event then 1 else 0) + commits_since events

-- at each line there is at most one
unfoldable pub CommitsOnce : List Event → Type 0
CommitsOnce [] = Unit {0}
CommitsOnce (event ∷ events) = (commits_since (event ∷ events) ≤ 1) × CommitsOnce events

-- The operator kept to the rules so far: nothing was laid and no commit was raw, each seal's commit joined the log at
-- most once, no two sealed trees with different leaves have one root, and no tree was committed at a block after the
-- last block of a transfer in it.
pub record IsHonestSoFar (dig : List ℕ → List ℕ) (lines : List Line) (run : Run) (world : World) (op : Node)
    : Type 0 where
  pub op_is : slice_get world.nodes 0 ≡ Some op
  pub allowed : list_any is_barred lines ≡ false
  pub once : CommitsOnce (events_of run.entries)
  pub distinct : AreDistinct dig (forest_in op.notes).sealed
  pub in_time : (n coin : ℕ) (tree : List Entry) (tx : SignedTx)
      → tree_at dig world.chain.log (forest_in op.notes).sealed n ≡ Some tree
      → signed_in world.chain.tag (leaf_of tree coin) ≡ Ok tx → may_stand_in n tx.body.last ≡ true

-- the operator made the bundle of the coin for the tip, and since then no call was accepted
pub record WasBundled (run : Run) (coin tip : ℕ) (bytes : List ℕ) : Type 0 where
  pub later : List TraceEntry
  pub entry : TraceEntry
  pub earlier : List TraceEntry
  pub entries_are : run.entries ≡ later ++ entry ∷ earlier
  pub asked : ℕ
  pub command : IsCommandIn entry.line (Command.Operator (OperatorCommand.Bundle coin asked))
  pub reply : entry.reply ≡ Reply.Bundled tip
  pub made : entry.made ≡ bytes
  pub since : list_any is_joined (events_of later) ≡ false

-- ---- what follows

-- the answer accepts the coin at the tip; or it is that the coin was withdrawn, or that an exit stands, and so it is
abbrev pub IsTakenBundle : List RootCall → ℕ → ℕ → Reply → Type 0
IsTakenBundle log coin tip reply =
    (reply ≡ Reply.Accepted coin tip)
    ⊎ ((is_withdrawn log coin ≡ true) × (reply ≡ Reply.Refused (wallet_cause WalletRefusal.Withdrawn)))
    ⊎ ((block : ℕ) × (standing_block log coin ≡ Some block)
    × (reply ≡ Reply.Refused (wallet_cause (WalletRefusal.ExitStands block))))

-- A bundle that such an operator made, for a tip at which its walk gave the coin to the wallet, is taken by the wallet,
-- where it is up and no call was accepted since; a wallet's own deposit is a tip of the walk.
abbrev pub HonestBundlesAreTaken : Type 0
HonestBundlesAreTaken = (dig : List ℕ → List ℕ) (lines : List Line) (run : Run) (world : World) (op node : Node)
    (n coin tip : ℕ) (name bytes : List ℕ) (token : HexOrItem) (made : CoinView) (effect : LineEffect)
    → IsRun dig lines run world → IsHonestSoFar dig lines run world op → WasBundled run coin tip bytes
    → number_of is_wallet_role world name ≡ Some n → slice_get world.nodes n ≡ Some node → node.is_up ≡ true
    → coin_at world.chain.log coin ≡ Some made
    → place_at dig world.chain.tag world.chain.log (forest_in op.notes).sealed coin made tip
    ≡ record { block = tip; owner = owner_of_node node }
    → bytes_of world token ≡ bytes
    → step dig (Some world) (Line.Command (Command.Wallet name (WalletCommand.Accept token))) ≡ Some effect
    → IsTakenBundle world.chain.log coin tip effect.reply
