-- Bundles of kept openings have bytes.
use Rattle.proof_archive.proofs.Words.{◌≡◌, ◌≢◌, ℕ, zero, suc, ◌^◌, ◌<◌, ◌≤◌, Bool, true, if◌then◌else◌, List, [], ◌∷◌, length, get_or, Result, IfOk, OnErr, sym, subst, arith, nat_le, true≢false, le-leb, All-filter, common_steps, RawOpening, openings_up_to, AreSpellable}

up-shorter : (tip : ℕ) (openings : List RawOpening) → length (openings_up_to tip openings) ≤ length openings
up-shorter tip [] = omega arith
up-shorter tip (o ∷ os) = grind (arith, common_steps, up-shorter tip os) steps 20000

pub spell-up : (tip : ℕ) (openings shown : List RawOpening) → AreSpellable openings
    → shown ≡ openings_up_to tip openings → AreSpellable shown
spell-up tip openings shown are is =
    subst AreSpellable (sym is) (record {
      count = let short = up-shorter tip openings in let few = are.count in omega arith;
      lengths = All-filter (λ opening. nat_le opening.block tip) (λ opening. length opening.bytes < 2 ^ 32) openings
          are.lengths;
    })

first-some : (b : Bool) (o : RawOpening) (os : List RawOpening) → b ≡ true
    → (if b then o ∷ os else os) ≢ []
first-some b o os is none = grind (arith, common_steps, true≢false) steps 20000

later-some : (b : Bool) (o : RawOpening) (os : List RawOpening) → os ≢ [] → (if b then o ∷ os else os) ≢ []
later-some b o os some none = grind (arith, common_steps) steps 20000

-- what holds anyway holds of an error
pub on-err : {A E P : Type 0} (result : Result A E) → P → OnErr result P
on-err result holds = grind (arith, common_steps) steps 20000

-- an opening up to the tip is among those that are shown
pub up-some : (tip i : ℕ) (openings : List RawOpening) (o : RawOpening) → i < length openings
    → o ≡ get_or openings i o → o.block ≤ tip → openings_up_to tip openings ≢ []
up-some tip i [] o inside is le = absurd (omega (arith, inside))
up-some tip zero (x ∷ xs) o inside is le = grind (arith, common_steps, first-some, le-leb) steps 20000
up-some tip (suc i) (x ∷ xs) o inside is le =
    grind (arith, common_steps, up-some tip i xs o (omega (arith, inside)) is le, later-some) steps 20000

-- what was copied of openings that have bytes
pub spell-copied : {E : Type 0} (result : Result (List RawOpening) E) (tip : ℕ) (openings shown : List RawOpening)
    → AreSpellable openings → shown ≡ openings
    → IfOk result (λ copied. copied ≡ openings_up_to tip shown) → IfOk result (λ copied. AreSpellable copied)
spell-copied result tip openings shown are same is = grind (arith, common_steps, spell-up) steps 20000
