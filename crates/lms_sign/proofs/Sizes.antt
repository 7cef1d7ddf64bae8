-- The bounds that the parameters of all types have.
use Rattle.std.proofs.Common.{◌≡◌, ℕ, zero, suc, ◌+◌, ◌-◌, ◌*◌, ◌/◌, ◌%◌, ◌^◌, ◌<◌, ◌≤◌, ◌⊎◌, true, false, cond, List, inl, inr, refl, add-one, arith, lit<, lit≤}
use Rattle.std.specs.Prelude.{◌==◌}
use Rattle.std.proofs.Math.Nat.{mod-eq_of_lt, mod-lt, pow-le-pow_right}
use Rattle.std.proofs.lemmas.Nat.{one_shl, pow_pos}
use Rattle.lms_sign.specs.declared.types.LmsTypes.{LmsTypes}
use Rattle.lms_sign.specs.Types.{chain_length, chains, height, leaf_count, shift, width}
use Rattle.lms_sign.specs.OneTime.{checksum, coefficient, digit, shortfall, hash_with_checksum}

pub leaf_count-le : (types : LmsTypes) → leaf_count types ≤ 1024
unfolding height
leaf_count-le types = elim (types.lms == 6) as (λ v. 2 ^ cond v 10 5 ≤ 1024) [ true ↦ lit≤ tt | false ↦ lit≤ tt ]

-- a shift of 1 in 32 bits by a number of bits that is 10 or less
pub one_shl-le : (h : ℕ) → h ≤ 10 → 1 * 2 ^ h % 4294967296 ≤ 1024
one_shl-le h l =
    let most : 2 ^ h ≤ 2 ^ 10 = pow-le-pow_right (lit< tt) l in
    omega (arith, one_shl h 32 (omega arith), most)

-- a digit is read within the 34 bytes of the hash and its checksum
pub digit-within : (types : LmsTypes) (i : ℕ) → i < chains types → i * width types < 272
unfolding chains width
digit-within types i = elim (types.ots == 3) as (λ v. i < cond v 67 34 → i * cond v 4 8 < 272)
    [ true ↦ λ h. omega arith | false ↦ λ h. omega arith ]

-- the last w bits by the code's mask
pub digits_of_width : (x w : ℕ) → (w ≡ 4) ⊎ (w ≡ 8) → (x % (1 * 2 ^ w % 4294967296) ≡ x % 2 ^ w) × (x % 2 ^ w < 2 ^ w)
digits_of_width x w h = elim h [ inl e ↦ rw e (refl, mod-lt x (lit< tt)) | inr e ↦ rw e (refl, mod-lt x (lit< tt)) ]

-- the greatest digit, as the code computes it
pub full-is : (w : ℕ) → (w ≡ 4) ⊎ (w ≡ 8) → (1 * 2 ^ w % 65536 - 1 ≡ 2 ^ w - 1) × (2 ^ w - 1 ≤ 255)
full-is w h = elim h [ inl e ↦ rw e (refl, lit≤ tt) | inr e ↦ rw e (refl, lit≤ tt) ]

pub coefficient-lt : (bytes : List ℕ) (i w : ℕ) → coefficient bytes i w < 2 ^ w
unfolding coefficient
coefficient-lt bytes i w = mod-lt _ (pow_pos w)

pub digit-le : (types : LmsTypes) (hash : List ℕ) (i : ℕ) → digit types hash i ≤ chain_length types
unfolding digit
digit-le types hash i = omega (arith, coefficient-lt (hash_with_checksum types hash) i (width types))

one_more : (s n d x : ℕ) → s ≤ n * d → x ≤ d → s + x ≤ suc n * d
one_more s n d x h l = omega arith

pub shortfall-le : (hash : List ℕ) (w n : ℕ) → shortfall hash w n ≤ n * (2 ^ w - 1)
unfolding shortfall
shortfall-le hash w zero = omega arith
shortfall-le hash w (suc n) = one_more _ n _ _ (shortfall-le hash w n) (omega arith)

pub checksum-lt : (types : LmsTypes) (hash : List ℕ) → checksum types hash < 65536
unfolding width shift
checksum-lt types hash = elim (types.ots == 3) as (λ v. shortfall hash (cond v 4 8) (256 / cond v 4 8) * 2 ^ cond
    v 4 0 < 65536)
    [ true ↦ omega (arith, shortfall-le hash 4 64) | false ↦ omega (arith, shortfall-le hash 8 32) ]

-- the shortfall of fewer digits than a hash has leaves room for one more in 16 bits
pub shortfall-small : (hash : List ℕ) (w i : ℕ) → (w ≡ 4) ⊎ (w ≡ 8) → i < 256 / w → shortfall hash w i + 255 < 65536
shortfall-small hash w i h = elim h [
  | inl e ↦ rw e (λ l. omega (arith, shortfall-le hash 4 i))
  | inr e ↦ rw e
      (λ l. omega (arith, shortfall-le hash 8 i))
]

pub shortfall-more : (hash : List ℕ) (w n : ℕ) → shortfall hash w (n + 1) ≡ shortfall hash w n +
    (2 ^ w - 1 - coefficient hash n w)
unfolding shortfall
shortfall-more hash w n = rw add-one refl

-- the checksum as the code computes it
pub shift-checksum : (types : LmsTypes) (hash : List ℕ) (short w ls : ℕ) → w ≡ width types → ls ≡ shift types
    → short ≡ shortfall hash w (256 / w) → short * 2 ^ ls % 65536 ≡ checksum types hash
shift-checksum types hash short w ls e f g = rw (g, e, f) (mod-eq_of_lt (checksum-lt types hash))
