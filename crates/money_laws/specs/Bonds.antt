-- The bonds of exits: where they go when an exit ends, and what an account has at stake.
use Rattle.std.specs.Prelude.{◌≡◌, ℕ, ◌+◌, ◌==◌, ◌&&◌, not, true, if◌then◌else◌, List, [], ◌∷◌, Some}
use Rattle.plasma_tx.specs.declared.rules.TheConstants.{EXIT_BOND}
use Rattle.plasma_tx.specs.declared.call.RootCall.{RootCall}
use Rattle.plasma_tx.specs.declared.call.RootCall.TheVariants.{After, Between, Finish}
use Rattle.plasma_tx.specs.Laws.{is_end}
use Rattle.plasma_tx.specs.Views.{coin_at, Challenge, Exit, exits, exit_at, has_no_open_challenge, is_withdrawn}
use Rattle.plasma_tx.specs.Money.{amount_of, open_challenges, challenge_bonds, share_of, balance_of}

-- the bonds that the account has at an exit: 40 for each challenge of it that the account made and that is open
abbrev pub bonds_at : ℕ → Exit → ℕ
bonds_at account exit = share_of account (challenge_bonds (open_challenges exit))

-- the sum of what each of these exits gives
unfoldable pub sum_over : (Exit → ℕ) → List Exit → ℕ
sum_over of [] = 0
sum_over of (exit ∷ exits) = of exit + sum_over of exits

-- the bonds that the account has at all standing exits
abbrev pub staked : List RootCall → ℕ → ℕ
staked log account = sum_over (bonds_at account) (exits log)

-- ---- the end of an exit

-- the account whose open challenge stands first; this one, where none is open
abbrev pub first_or : ℕ → List Challenge → ℕ
first_or account [] = account
first_or account (challenge ∷ challenges) = challenge.by

-- to whom the exit's bond goes by the call that ends it: to who cancels it; by a Finish to the account whose open
-- challenge stands first in the log, and where none is open to the exit's own account
abbrev pub bond_goes_to : RootCall → Exit → ℕ
bond_goes_to (After account c block spend) exit = account
bond_goes_to (Between account c block spend) exit = account
bond_goes_to call exit = first_or exit.account (open_challenges exit)

-- the amount that the call pays beside the bonds: the coin's, by a Finish of an exit without open challenges, of a coin
-- that isn't withdrawn
abbrev pub amount_paid : List RootCall → RootCall → Exit → ℕ
amount_paid log (Finish account c block) exit =
    if has_no_open_challenge (Some exit) && not (is_withdrawn log c) then amount_of (coin_at log c) else 0
amount_paid log call exit = 0

-- what this account gets, where it is the one that is paid
abbrev pub if_to : ℕ → ℕ → ℕ → ℕ
if_to account paid amount = if paid == account then amount else 0

-- What each account has after an exit ended, by whatever call: 40 more for each challenge of it that the account made
-- and that is open, 100 more where the exit's bond goes to it, and the coin's amount where its exit is paid.
abbrev pub EndsPayBonds : Type 0
EndsPayBonds = (log : List RootCall) (call : RootCall) (c block account : ℕ) (exit : Exit)
    → exit_at log c block ≡ Some exit → is_end c block call ≡ true
    → balance_of (call ∷ log) account
    ≡ balance_of log account + bonds_at account exit + if_to account (bond_goes_to call exit) EXIT_BOND
    + if_to account exit.account (amount_paid log call exit)
