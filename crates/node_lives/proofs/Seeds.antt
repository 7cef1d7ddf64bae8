-- The seed of an operator's key, which its first record says, and later records too.
use Rattle.std.proofs.Common.{◌≡◌, ℕ, List, [], ◌∷◌, Option, None, refl, arith}
use Rattle.std.proofs.lemmas.Grind.{common_steps}
use Rattle.gate_journal.specs.Life.{Continue}
use Rattle.node_rules.specs.Wallet.{WalletRecords}
use Rattle.operator_rules.specs.Records.{who_is}
use Rattle.node_replies.specs.Roles.{Role, Wallet, Watcher, Operator}
use Rattle.node_lives.specs.Standing.{identity_alone, HasDigests, DigestsFit}

-- the first record is the identity of an operator with this seed of a key, or with none
pub record HasSeed (seed : Option (List ℕ)) (records : List (List ℕ)) : Type 0 where
  pub identity : List ℕ
  pub notes : List (List ℕ)
  pub are : records ≡ identity ∷ notes
  pub seed_is : (who_is (identity ∷ [])).key_seed ≡ seed

-- records that go on have the same identity
pub seed-on : (seed : Option (List ℕ)) (first later : List (List ℕ)) → HasSeed seed first → Continue first later
    → HasSeed seed later
seed-on seed first later has (more, is) = grind (arith, common_steps) steps 20000

first-alone : (identity : List ℕ) (notes : List (List ℕ))
    → (who_is (identity ∷ notes)).key_seed ≡ (who_is (identity ∷ [])).key_seed
unfolding who_is
first-alone identity notes = refl

pub seed-is : (seed : Option (List ℕ)) (records : List (List ℕ)) → HasSeed seed records
    → (who_is records).key_seed ≡ seed
seed-is seed records has = grind (arith, common_steps, first-alone) steps 20000

module _ (dig : List ℕ → List ℕ) where
  -- So it is of an operator's records. Where it has a key the digests fit, and where it has none there are no leaves.
  pub record IsSeeded (records : WalletRecords) : Type 0 where
    pub seed : Option (List ℕ)
    pub has : HasSeed seed records.notes
    pub digests : HasDigests dig seed
    pub none : seed ≡ None → records.leaves ≡ []

  -- nor has a watcher leaves
  abbrev pub Seeded : Role → WalletRecords → Type 0
  Seeded Operator records = IsSeeded records
  Seeded Watcher records = records.leaves ≡ []
  Seeded Wallet records = Unit {0}

  pub alone-seeded : (role : Role) (identity : List ℕ) → DigestsFit dig role identity
      → Seeded role (identity_alone identity)
  alone-seeded role identity digests = grind (arith, common_steps) steps 20000
