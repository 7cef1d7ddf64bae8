-- Money of a ledger by movements.
use Rattle.root_contract.proofs.Words.{◌≡◌, ℕ, ◌+◌, ◌-◌, ◌<◌, ◌≤◌, [], ◌∷◌, Result, Ok, Err, sym, ap, ◌∙◌, arith, MatchResult, IsTrue, common_steps, held_is_of_known, Ledger, balance_in, held_in, funded_in, is_known, amount_at, HasSums, moved, share_of}
use Rattle.bond_ledger.specs.declared.TheConstants.{MOST_MONEY}
use Rattle.bond_ledger.specs.declared.ledger.NoFunds.{NoFunds}
use Rattle.bond_ledger.specs.declared.ledger.SumTooLarge.{SumTooLarge}
use Rattle.root_contract.proofs.SettlingLemmas.{share-one}

-- money that suffices is held
pub hold-ok : (old new : Ledger) (account amount : ℕ) (r : Result (Unit {0}) NoFunds)
    → MatchResult r
    (λ _. (amount ≤ balance_in old account) × HasSums old new (λ a. balance_in old a - amount_at account amount a)
    (λ a. held_in old a + amount_at account amount a) (funded_in old))
    (λ why. (balance_in old account < amount) × (new ≡ old)
    × (why ≡ record { has = balance_in old account; needs = amount }))
    → amount ≤ balance_in old account
    → HasSums old new (λ a. balance_in old a - share_of a (moved account amount ∷ []))
    (λ a. held_in old a + share_of a (moved account amount ∷ [])) (funded_in old)
hold-ok old new account amount (Ok x) is suffices = record {
  balances = λ a. is.1.balances a ∙ ap (λ x. balance_in old a - x) (sym (share-one a account amount));
  helds = λ a. is.1.helds a ∙ ap (λ x. held_in old a + x) (sym (share-one a account amount));
  known = is.1.known;
  funds = is.1.funds;
}
hold-ok old new account amount (Err why) is suffices = absurd (omega (arith, is.0))

-- money that fits is added
pub fund-ok : (old new : Ledger) (account amount : ℕ) (r : Result (Unit {0}) SumTooLarge)
    → MatchResult r
    (λ _. (funded_in old + amount ≤ MOST_MONEY) × HasSums old new (λ a. balance_in old a + amount_at account amount a)
    (held_in old) (funded_in old + amount))
    (λ _. (MOST_MONEY < funded_in old + amount) × (new ≡ old))
    → funded_in old + amount ≤ MOST_MONEY
    → HasSums old new (λ a. balance_in old a + share_of a (moved account amount ∷ [])) (held_in old)
    (funded_in old + amount)
fund-ok old new account amount r is fits = grind (arith, common_steps, share-one) steps 20000

-- an account of which money is held is known
pub known-held : (ledger : Ledger) (account amount : ℕ) → amount ≤ held_in ledger account → 0 < amount
    → IsTrue (is_known ledger account)
known-held ledger account amount held some = held_is_of_known ledger account (omega arith)

-- a movement from one account to another
pub paid-on : (old new : Ledger) (from to amount : ℕ)
    → HasSums old new (λ a. balance_in old a + amount_at to amount a) (λ a. held_in old a - amount_at from amount a)
    (funded_in old)
    → HasSums old new (λ a. balance_in old a + share_of a (moved to amount ∷ []))
    (λ a. held_in old a - share_of a (moved from amount ∷ [])) (funded_in old)
paid-on old new from to amount sums = grind (arith, common_steps, share-one) steps 20000
