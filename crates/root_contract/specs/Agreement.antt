-- The game and the ledger of a contract are what its log says.
use Rattle.std.specs.Prelude.{◌≡◌, ℕ, map}
use Rattle.exit_game.specs.{declared.game.Game.{Game}, Games.{slots_in}}
use Rattle.bond_ledger.specs.{declared.ledger.Ledger.{Ledger}, Ledger.{balance_in, held_in, funded_in}}
use Rattle.plasma_tx.specs.{Chain.{Chain}, Views.{exits}, Shown.{rules_of}, Money.{balance_of, held_of, funded}, Table.{IsLegal}}
use Rattle.root_contract.specs.{Exits.{as_exit, exits_of_coin}, declared.contract.Contract.TheInside.{Inside}}

-- each call of the log was accepted; the game has the standing exits of each coin, the ledger each account's balance,
-- what is held of it, and all that was funded
pub record Agrees (chain : Chain) (game : Game) (ledger : Ledger) : Type 0 where
  pub legal : IsLegal (rules_of chain) chain.log
  pub slots_are : (coin : ℕ) → map as_exit (slots_in game coin) ≡ exits_of_coin coin (exits chain.log)
  pub balances_are : (account : ℕ) → balance_in ledger account ≡ balance_of chain.log account
  pub helds_are : (account : ℕ) → held_in ledger account ≡ held_of chain.log account
  pub funds_are : funded_in ledger ≡ funded chain.log

-- so it is of a contract
abbrev pub IsContract : Inside → Type 0
IsContract a = Agrees a.log a.game a.ledger
