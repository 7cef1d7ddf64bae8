-- What an accepted call changes beside the log.
use Rattle.std.specs.Prelude.{◌≡◌, ℕ, true, List, ◌∷◌}
use Rattle.bond_ledger.specs.{declared.ledger.Ledger.{Ledger}, Ledger.{balance_in, held_in, funded_in}}
use Rattle.plasma_tx.specs.{declared.call.RootCall.{RootCall}, Chain.{Chain}, Views.{Exit, exits}, declared.movement.Movement.{Movement}, Shown.{Tests, rules_of}, Money.{pays, takes, releases, funded}, Table.{answer_to, is_accepted}}

-- the call is accepted under some tests
abbrev pub IsAccepted : Chain → RootCall → Type 0
IsAccepted chain call = (tests : Tests) × (is_accepted (answer_to tests (rules_of chain) chain.log call) ≡ true)

-- the call is accepted; it makes these the standing exits, pays, takes and releases this, and funds nothing
pub record Changes (chain : Chain) (call : RootCall) (after : List Exit) (paid taken released : List Movement) : Type 0
  where
    pub accepted : IsAccepted chain call
    pub exits_are : exits (call ∷ chain.log) ≡ after
    pub pays_are : pays chain.log call ≡ paid
    pub takes_are : takes call ≡ taken
    pub releases_are : releases chain.log call ≡ released
    pub funds_are : funded (call ∷ chain.log) ≡ funded chain.log

-- the same money by account
pub record SameMoney (old new : Ledger) : Type 0 where
  pub balances : (account : ℕ) → balance_in new account ≡ balance_in old account
  pub helds : (account : ℕ) → held_in new account ≡ held_in old account
  pub funds : funded_in new ≡ funded_in old
