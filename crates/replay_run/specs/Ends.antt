-- What holds at the end of a run: a coin has one holder, and what is on offer would be accepted, calls by the contract
-- and an honest operator's bundles by wallets.
use Rattle.std.specs.Prelude.{◌≡◌, ◌≢◌, ◌⊎◌, ℕ, true, false, List, slice_get, Some}
use Rattle.std.specs.List.{Contains}
use Rattle.line_forms.specs.declared.tokens.HexOrItem.{HexOrItem}
use Rattle.plasma_tx.specs.{declared.call.RootCall.{RootCall}, declared.views.CoinView.{CoinView}, Views.{coin_at}, Shown.{tests_by, rules_of}, Table.{answer_to, is_accepted}}
use Rattle.schedule_text.specs.{declared.line.Line.{Line}, declared.command.Command.{Command}, declared.command.WalletCommand.{WalletCommand}}
use Rattle.operator_rules.specs.{Commands.{forest_in}, Walk.{place_at}}
use Rattle.world_rules.specs.{Events.{coin_of_call, offers_of}, World.{Node, World, is_wallet_role, number_of, owner_of_node, bytes_of}, Steps.{LineEffect, Run, step, events_of}, Exhibits.{collides, is_forged}, Safety.{holds}}
use Rattle.node_replies.specs.Orders.{exit_block}
use Rattle.world_laws.specs.{Headline.{AreDeclaredBefore, lacks_bond, IsFreshWatch, starter, IsTaken}, Bundles.{IsHonestSoFar, WasBundled, IsTakenBundle}}

-- So it is at the end of a run of these lines, the newest first, with this world. A beginning of a schedule is a
-- schedule, so it is at each line of it.
pub record HoldsAtTheEnd (dig : List ℕ → List ℕ) (lines : List Line) (run : Run) (world : World) : Type 0 where
  -- two wallets that were declared before its deposit don't both hold a coin, unless the trace exhibits
  pub one_holder : (v w c d e : ℕ) → v ≢ w → AreDeclaredBefore (events_of run.entries) v w c
      → holds (events_of run.entries) v c d ≡ true → holds (events_of run.entries) w c e ≡ true
      → (collides dig (events_of run.entries) c ≡ true)
      ⊎ (is_forged world.chain.tag (events_of run.entries) v c ≡ true)
      ⊎ (is_forged world.chain.tag (events_of run.entries) w c ≡ true)
  -- a start that a wallet offers is taken while the wallet holds the coin at the exit's block, but where the exit
  -- stands or the money is missing
  pub starts : (w account : ℕ) (call : RootCall) → Contains (offers_of (events_of run.entries) w) call
      → starter call ≡ Some account
      → holds (events_of run.entries) w (coin_of_call call) (exit_block call) ≡ true
      → IsTaken world.chain.log account call (answer_to (tests_by dig) (rules_of world.chain) world.chain.log call)
  -- a call that a watch offers is accepted where no call was accepted since, unless it is a Before for which its
  -- account doesn't have the money, or the trace shows a clash at its coin
  pub dues : (n : ℕ) (calls : List RootCall) (call : RootCall) → IsFreshWatch (events_of run.entries) n calls
      → Contains calls call → lacks_bond world.chain.log call ≡ false
      → (collides dig (events_of run.entries) (coin_of_call call) ≡ true)
      ⊎ (is_accepted (answer_to (tests_by dig) (rules_of world.chain) world.chain.log call) ≡ true)
  -- a bundle that an operator made who kept to the rules, for a tip at which its walk gave the coin to the wallet, is
  -- taken by the wallet, where it is up and no call was accepted since
  pub bundles : (op node : Node) (n coin tip : ℕ) (name bytes : List ℕ) (token : HexOrItem) (made : CoinView)
      (effect : LineEffect)
      → IsHonestSoFar dig lines run world op → WasBundled run coin tip bytes
      → number_of is_wallet_role world name ≡ Some n → slice_get world.nodes n ≡ Some node → node.is_up ≡ true
      → coin_at world.chain.log coin ≡ Some made
      → place_at dig world.chain.tag world.chain.log (forest_in op.notes).sealed coin made tip
      ≡ record { block = tip; owner = owner_of_node node }
      → bytes_of world token ≡ bytes
      → step dig (Some world) (Line.Command (Command.Wallet name (WalletCommand.Accept token))) ≡ Some effect
      → IsTakenBundle world.chain.log coin tip effect.reply
