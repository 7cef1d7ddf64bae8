-- What notes of ticks leave of the books.
use Rattle.std.proofs.Common.{◌≡◌, ◌⊎◌, ℕ, Bool, ◌==◌, if◌then◌else◌, List, [], ◌∷◌, ◌++◌, Option, Some, None, inl, inr, refl, ap, sym, ◌∙◌, arith}
use Rattle.std.specs.Prelude.{option_map}
use Rattle.std.proofs.lemmas.Bool.{cases_eq, eq-eqb, ne_eqb}
use Rattle.std.proofs.lemmas.Grind.{common_steps}
use Rattle.coin_verdicts.specs.declared.note.Change.{Change}
use Rattle.coin_verdicts.specs.Notes.{meets, each_time}
use Rattle.coin_verdicts.specs.Books.{CoinBook, with_met, with_each, book_at, IsChanged, AreMet}

each-last : (c x : ℕ) (change : Change) (xs : List ℕ)
    → each_time c change (xs ++ x ∷ [])
    ≡ (if x == c then change ∷ each_time c change xs else each_time c change xs)
each-last c x change [] = refl
each-last c x change (m ∷ ms) = grind (arith, common_steps, each-last c x change ms) steps 20000

pub met-none : (line : ℕ) (wallets : List ℕ) (is_quiet : ℕ → ℕ → Bool) (books : List CoinBook)
    → AreMet line wallets is_quiet [] books books
met-none line wallets is_quiet books c = grind (arith, common_steps) steps 20000

-- a tick meets a deadline of one more coin
pub met-more : (line : ℕ) (wallets : List ℕ) (is_quiet : ℕ → ℕ → Bool) (xs : List ℕ) (x : ℕ)
    (books mid after : List CoinBook)
    → AreMet line wallets is_quiet xs books mid → IsChanged x (with_met line x wallets is_quiet) mid after
    → AreMet line wallets is_quiet (xs ++ x ∷ []) books after
met-more line wallets is_quiet xs x books mid after are is c = is c ∙ at (cases_eq c x) (book_at books c) (are c)
  where
    one : (o : Option CoinBook) → x ≡ c
        → option_map (with_met line x wallets is_quiet) (option_map (with_each line c wallets is_quiet xs) o)
        ≡ option_map (with_each line c wallets is_quiet (xs ++ x ∷ [])) o
    one None same = refl
    one (Some book) same =
        rw (each-last c x (meets c wallets is_quiet book.guards) xs, eq-eqb x c same)
        (ap (λ k. Some (with_met line k wallets is_quiet (with_each line c wallets is_quiet xs book))) same)

    other : (o : Option CoinBook) → (x ≡ c → ⊥)
        → option_map (with_each line c wallets is_quiet xs) o
        ≡ option_map (with_each line c wallets is_quiet (xs ++ x ∷ [])) o
    other None apart = refl
    other (Some book) apart = rw (each-last c x (meets c wallets is_quiet book.guards) xs, ne_eqb x c apart) refl

    at : (c ≡ x) ⊎ (c ≡ x → ⊥) → (o : Option CoinBook)
        → book_at mid c ≡ option_map (with_each line c wallets is_quiet xs) o
        → (if c == x then option_map (with_met line x wallets is_quiet) (book_at mid c) else book_at mid c)
        ≡ option_map (with_each line c wallets is_quiet (xs ++ x ∷ [])) o
    at (inl same) o was = rw (eq-eqb c x same, was) (one o (sym same))
    at (inr apart) o was = rw (ne_eqb c x apart, was) (other o (λ same. apart (sym same)))
