-- An identity is one of one role alone, so a disk with records of a role has none of another.
use Rattle.std.proofs.Common.{◌≡◌, ◌≤◌, ◌⊎◌, ◌&&◌, ◌==◌, ℕ, Bool, true, false, if◌then◌else◌, List, [], ◌∷◌, length, drop, Some, None, is_some, Result, Ok, Err, refl, ap, ◌∙◌, subst, inl, inr, arith}
use Rattle.std.proofs.lemmas.Bool.{and_parts, eqb-true}
use Rattle.std.specs.Result.{result_ok}
use Rattle.std.specs.List.{slice_range}
use Rattle.std.proofs.lemmas.Grind.{common_steps}
use Rattle.plasma_tx.specs.Spelling.{number_at}
use Rattle.gate_journal.specs.Image.{spelled, journal_in}
use Rattle.gate_journal.specs.Journal.{Keeps}
use Rattle.node_journal.specs.Role.{Kinds, are_of, front_of, read_of_kinds, role_in}
use Rattle.node_rules.specs.Watcher.{identity_in as watcher_in}
use Rattle.node_rules.specs.WalletRecords.{identity_in as wallet_in, identity_of as wallet_identity_of, types_in, may_be_second}
use Rattle.operator_rules.specs.Records.{identity_in as operator_in, identity_of as operator_identity_of}
use Rattle.hss_runs.specs.Identity.{seed_in, signer_kinds}
use Rattle.node_replies.specs.Roles.{Role, Wallet, Watcher, Operator}
use Rattle.node_lives.specs.Standing.{kinds_of}
use Rattle.node_lives.proofs.Quiet.{HasRecord}
use Rattle.node_lives.proofs.Stays.{keeps-same}

-- ---- identities

-- the first byte, or 0
abbrev mark_of : List ℕ → ℕ
mark_of [] = 0
mark_of (mark ∷ bytes) = mark

some-if : {T : Type 0} (b : Bool) (x : T) → is_some (if b then Some x else None) ≡ true → b ≡ true
some-if true x is = refl
some-if false x is = is

some-either : {T : Type 0} (b c : Bool) (x y : T)
    → is_some (if b then Some x else if c then Some y else None) ≡ true → (b ≡ true) ⊎ (c ≡ true)
some-either true c x y is = inl refl
some-either false c x y is = inr (some-if c y is)

-- a number that passes a test with another is that number
marked : (mark n : ℕ) (b : Bool) → ((mark == n) && b) ≡ true → mark ≡ n
marked mark n b is = eqb-true mark n (and_parts (mark == n) b is).0

watcher-mark : (body : List ℕ) → is_some (watcher_in body) ≡ true → mark_of body ≡ 17
unfolding watcher_in
watcher-mark [] is = absurd (cc is)
watcher-mark (mark ∷ bytes) is =
    marked mark 17 (length bytes == 40)
    (some-if ((mark == 17) && (length bytes == 40))
    (record { tag = slice_range bytes 0 32; account = number_at bytes 32 }) is)

wallet-mark : (body : List ℕ) → is_some (wallet_in body) ≡ true → mark_of body ≤ 4
unfolding wallet_in
wallet-mark [] is = absurd (cc is)
wallet-mark (mark ∷ bytes) is =
    elim (some-either ((mark == 1) && (length bytes == 72))
    ((mark == 4) && (length bytes == 80) && may_be_second (types_in bytes))
    (wallet_identity_of (record { lms = 5; ots = 4 }) bytes) (wallet_identity_of (types_in bytes) (drop 8 bytes)) is) [
      | inl first ↦ (let e = marked mark 1 (length bytes == 72) first in omega (arith, e))
      | inr second ↦
          (let front = and_parts ((mark == 4) && (length bytes == 80)) (may_be_second (types_in bytes)) second in
          let e = marked mark 4 (length bytes == 80) front.0 in omega (arith, e))
    ]

operator-marks : (body : List ℕ) → is_some (operator_in body) ≡ true → (mark_of body ≡ 33) ⊎ (mark_of body ≡ 38)
unfolding operator_in
operator-marks [] is = absurd (cc is)
operator-marks (mark ∷ bytes) is =
    elim (some-either ((mark == 33) && (length bytes == 40)) ((mark == 38) && (length bytes == 72))
    (operator_identity_of bytes None) (operator_identity_of bytes (Some (slice_range bytes 40 72))) is) [
      | inl first ↦ inl (marked mark 33 (length bytes == 40) first)
      | inr second ↦ inr (marked mark 38 (length bytes == 72) second)
    ]

operator-mark : (body : List ℕ) → is_some (operator_in body) ≡ true → 33 ≤ mark_of body
operator-mark body is = grind (arith, common_steps, operator-marks) steps 20000

signer-mark : (body : List ℕ) → is_some (seed_in body) ≡ true → mark_of body ≡ 49
unfolding seed_in
signer-mark body is = grind (arith, common_steps, marked, some-if) steps 20000

module _ (dig : List ℕ → List ℕ) where
  identities-apart : (one other : Role) (body : List ℕ) → (other ≡ one → ⊥)
      → (kinds_of dig one).is_identity body ≡ true → (kinds_of dig other).is_identity body ≡ true → ⊥
  identities-apart Wallet Wallet body apart is also = apart refl
  identities-apart Wallet Watcher body apart is also = omega (arith, wallet-mark body is, watcher-mark body also)
  identities-apart Wallet Operator body apart is also = omega (arith, wallet-mark body is, operator-mark body also)
  identities-apart Watcher Wallet body apart is also = omega (arith, watcher-mark body is, wallet-mark body also)
  identities-apart Watcher Watcher body apart is also = apart refl
  identities-apart Watcher Operator body apart is also = omega (arith, watcher-mark body is, operator-mark body also)
  identities-apart Operator Wallet body apart is also = omega (arith, operator-mark body is, wallet-mark body also)
  identities-apart Operator Watcher body apart is also = omega (arith, operator-mark body is, watcher-mark body also)
  identities-apart Operator Operator body apart is also = apart refl

  pub signer-apart : (role : Role) (body : List ℕ) → (kinds_of dig role).is_identity body ≡ true
      → signer_kinds.is_identity body ≡ true → ⊥
  signer-apart Wallet body is also = omega (arith, wallet-mark body is, signer-mark body also)
  signer-apart Watcher body is also = omega (arith, watcher-mark body is, signer-mark body also)
  signer-apart Operator body is also = elim (operator-marks body is) [
    | inl first ↦ omega (arith, first, signer-mark body also)
    | inr second ↦ omega (arith, second, signer-mark body also)
  ]

-- ---- records of a role

pub ok-of : (found : Result (List (List ℕ)) ℕ) (records : List (List ℕ)) → result_ok found ≡ Some records
    → found ≡ Ok records
ok-of (Ok found) records is = (let same : found ≡ records = cc is in ap (λ (l : List (List ℕ)). Ok l) same)
ok-of (Err place) records is = absurd (cc is)

module _ (kinds : Kinds) where
  -- the first of them is an identity
  pub record BeginsWith (records : List (List ℕ)) : Type 0 where
    pub identity : List ℕ
    pub notes : List (List ℕ)
    pub are : records ≡ identity ∷ notes
    pub is : kinds.is_identity identity ≡ true

  pub begins-with : (records : List (List ℕ)) → are_of kinds records ≡ true → BeginsWith records
  begins-with records is = grind (arith, common_steps, and_parts) steps 20000

  pub role-recorded : (image : List ℕ) (records : List (List ℕ)) → Keeps records image → are_of kinds records ≡ true
      → HasRecord image
  role-recorded image records keeps is = grind (arith, common_steps, begins-with) steps 20000

  -- records that are read of an image are kept by it, and of the role; and the other way round
  pub role-read : (image : List ℕ) (records : List (List ℕ)) → role_in kinds image ≡ Ok records
      → Keeps records image × (are_of kinds records ≡ true)
  role-read image records = by (journal_in image) refl
    where
      kind : (found : List (List ℕ)) (b : Bool) → are_of kinds found ≡ b
          → (if b then Ok found else Err (length (spelled (front_of kinds found)))) ≡ Ok records
          → (found ≡ records) × (are_of kinds found ≡ true)
      kind found true is read = (cc read, is)
      kind found false is read = absurd (cc read)

      by : (found : Result (List (List ℕ)) ℕ) → journal_in image ≡ found → read_of_kinds kinds found ≡ Ok records
          → Keeps records image × (are_of kinds records ≡ true)
      by (Err place) is read = absurd (cc read)
      by (Ok found) is read =
          (let parts = kind found (are_of kinds found) refl read in (
            ap result_ok is ∙ ap (λ (l : List (List ℕ)). Some l) parts.0,
            subst (λ (l : List (List ℕ)). are_of kinds l ≡ true) parts.0 parts.1,
          ))

  pub role-found : (image : List ℕ) (records : List (List ℕ)) → Keeps records image → are_of kinds records ≡ true
      → role_in kinds image ≡ Ok records
  role-found image records keeps is =
      ap (read_of_kinds kinds) (ok-of (journal_in image) records keeps)
      ∙ ap (λ (b : Bool). if b then Ok records else Err (length (spelled (front_of kinds records)))) is

-- ---- of one role and of no other

pub kinds-apart : (one other : Kinds)
    → ((body : List ℕ) → one.is_identity body ≡ true → other.is_identity body ≡ true → ⊥) → (image : List ℕ)
    (records found : List (List ℕ)) → Keeps records image → are_of one records ≡ true → role_in other image ≡ Ok found
    → ⊥
kinds-apart one other apart image records found keeps is read =
    grind (arith, common_steps, role-read, keeps-same, begins-with) steps 20000

module _ (dig : List ℕ → List ℕ) where
  pub none-other : (one other : Role) (image : List ℕ) (records found : List (List ℕ)) → (other ≡ one → ⊥)
      → Keeps records image → are_of (kinds_of dig one) records ≡ true
      → role_in (kinds_of dig other) image ≡ Ok found → ⊥
  none-other one other image records found apart =
      kinds-apart (kinds_of dig one) (kinds_of dig other) (λ body. identities-apart dig one other body apart) image
      records found

  -- nor of a two-level signer
  pub none-signer : (role : Role) (image : List ℕ) (records found : List (List ℕ)) → Keeps records image
      → are_of (kinds_of dig role) records ≡ true → role_in signer_kinds image ≡ Ok found → ⊥
  none-signer role image records found = kinds-apart (kinds_of dig role) signer_kinds (signer-apart dig role) image
      records found
