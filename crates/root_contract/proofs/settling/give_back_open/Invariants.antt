use Rattle.root_contract.proofs.Words.{◌≡◌, ℕ, ◌+◌, length, balance_in, held_in, funded_in, is_known, share_of, open_bonds}
use Rattle.root_contract.proofs.settling.give_back_open.Given as goal

-- what is paid and let go so far, and what is to be paid and let go yet, are together what is at last
abbrev pub invariant-challenges : goal.invariant-challenges
invariant-challenges l = record {
  balances : (a : ℕ) → balance_in l.ledger a + share_of a (open_bonds l.rest)
      ≡ balance_in l.fn.ledger a + share_of a (open_bonds l.challenges);
  helds : (a : ℕ) → held_in l.ledger a + share_of a (open_bonds l.challenges)
      ≡ held_in l.fn.ledger a + share_of a (open_bonds l.rest);
  known : (a : ℕ) → is_known l.ledger a ≡ is_known l.fn.ledger a;
  funds : funded_in l.ledger ≡ funded_in l.fn.ledger;
}

abbrev pub decreases-challenges : goal.decreases-challenges
decreases-challenges l = length l.rest
