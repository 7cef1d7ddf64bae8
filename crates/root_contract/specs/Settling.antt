-- The money of an exit that leaves, by its slot and by what is unpaid of its coin.
use Rattle.std.specs.Prelude.{ℕ, not, Bool, true, false, List, [], ◌∷◌, ◌++◌, Option, Some, None, find, filter, map, option_to_list}
use Rattle.std.specs.Option.{option_map, option_map_or}
use Rattle.exit_game.specs.declared.challenges.Challenge.{Challenge as Kept}
use Rattle.plasma_tx.specs.{declared.views.CoinView.{CoinView}, Views.{Challenge, Exit}, declared.rules.TheConstants.{EXIT_BOND}, declared.movement.Movement.{Movement}, Money.{moved, open_challenges, challenge_bonds, exit_bonds}}
use Rattle.root_contract.specs.Exits.{as_challenge}

-- the bonds of the challenges that are open, each at the account that made it
abbrev pub open_bonds : List Kept → List Movement
open_bonds challenges = challenge_bonds (filter (λ challenge. not challenge.answered) (map as_challenge challenges))

-- who made the first of the challenges that are open
abbrev pub first_open : List Kept → Option ℕ
first_open challenges = option_map (λ kept. kept.by) (find (λ kept. not kept.answered) challenges)

-- what is held of a coin's depositor: the amount, unless the coin is withdrawn or isn't there
abbrev pub unpaid_of : Bool → Option CoinView → Option Movement
unpaid_of true coin = None
unpaid_of false coin = option_map (λ made. moved made.owner.account made.amount) coin

abbrev pub unpaid_amount : Option Movement → ℕ
unpaid_amount unpaid = option_map_or (λ movement. movement.amount) unpaid 0

-- what a finish pays, by what is unpaid and by the open challenges
abbrev pub payout_of : Option Movement → ℕ → List Challenge → List Movement
payout_of unpaid account (challenge ∷ challenges) =
    moved challenge.by EXIT_BOND ∷ challenge_bonds (challenge ∷ challenges)
payout_of unpaid account [] = moved account EXIT_BOND ∷ moved account (unpaid_amount unpaid) ∷ []

abbrev pub finish_paid : Option Movement → Option Exit → List Movement
finish_paid unpaid None = []
finish_paid unpaid (Some exit) = payout_of unpaid exit.account (open_challenges exit)

-- what a finish lets go of beside the bonds
abbrev pub released_of : Option Movement → List Challenge → List Movement
released_of unpaid (challenge ∷ challenges) = []
released_of unpaid [] = option_to_list unpaid

abbrev pub finish_released : Option Movement → Option Exit → List Movement
finish_released unpaid None = []
finish_released unpaid (Some exit) = exit_bonds (Some exit) ++ released_of unpaid (open_challenges exit)
