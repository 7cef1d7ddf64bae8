-- Nothing is due for a coin of which no exit stands.
use Rattle.node_rules.proofs.Words.{◌≡◌, ℕ, ◌==◌, true, List, [], ◌∷◌, length, refl, arith, common_steps, RootCall, exits_of}
use Rattle.std.proofs.lemmas.Bool.Decides.{nat_tests}
use Rattle.node_rules.specs.declared.kept_coin.KeptCoin.{KeptCoin}
use Rattle.node_rules.specs.KeptCoins.{due_for_coin}

-- a list without elements
pub none_left : {X : Type 0} (xs : List X) → true ≡ (length xs == 0) → xs ≡ []
none_left [] is = refl
none_left (x ∷ xs) is = absurd (let none : length (x ∷ xs) ≡ 0 = grind (arith, nat_tests, is) in omega (arith, none))

pub due_still : (log : List RootCall) (account : ℕ) (kept : KeptCoin) → exits_of log kept.coin ≡ []
    → due_for_coin log account kept ≡ []
due_still log account kept none = grind (arith, common_steps) steps 20000
