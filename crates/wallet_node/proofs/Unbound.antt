-- Where the notes stop that take back leaves that may be.
use Rattle.wallet_node.proofs.Words.{◌≡◌, ◌<◌, ◌≤◌, ◌+◌, ℕ, zero, suc, cond, Bool, true, false, List, [], ◌∷◌, ◌++◌, length, take, drop, get_or, Option, None, Some, sym, ◌∙◌, ap, arith, reverse, IfSome, filter_map, list_all, take_while, and_parts, and_from, take_all, take_more, common_steps, spelled, Owner, LeafRecord, note_in, notes_of, who_is, owner_of, are_bound_notes, bound-each, memory_of, memory_in}
use Rattle.std.proofs.lemmas.List.Sums.{take_while-cons}
use Rattle.std.proofs.lemmas.List.Folds.{list_all-append, list_all_at}
use Rattle.leaf_journal.proofs.Form.{spelled-count}
use Rattle.node_rules.specs.WalletOpening.{is_bound_record, unbound_place}

-- where all before one pass and that one doesn't, those before it are those in front that pass
front-at : {X : Type 0} (p : X → Bool) (xs : List X) (i : ℕ) (d : X) → i < length xs → list_all p (take i xs) ≡ true
    → p (get_or xs i d) ≡ false → take_while p xs ≡ take i xs
front-at p [] i d less all fails = absurd (omega (arith, less))
front-at p (x ∷ xs) zero d less all fails =
    take_while-cons p x xs ∙ ap (λ (b : Bool). cond b (x ∷ take_while p xs) []) fails
front-at {X} p (x ∷ xs) (suc i) d less all fails =
    let parts = and_parts (p x) (list_all p (take i xs)) all in
    grind (arith, common_steps, front-at p xs i d (omega (arith, less)) parts.1 fails, take_while-cons) steps 20000

-- one more that passes
pub all-more : {X : Type 0} (p : X → Bool) (xs : List X) (i : ℕ) (x : X) → i < length xs → x ≡ get_or xs i x
    → list_all p (take i xs) ≡ true → p x ≡ true → list_all p (take (i + 1) xs) ≡ true
all-more {X} p xs i x less is all passes = grind (arith, common_steps, take_more, list_all-append, and_from) steps 20000

-- a place that is told, where there is one
pub told-at : (o : Option ℕ) (place a : ℕ) → o ≡ Some place → IfSome o (λ p. p ≡ a) → place ≡ a
told-at None place a is told = absurd (cc is)
told-at (Some p) place a is told = let same : p ≡ place = cc is in sym same ∙ told

pub told-as : (o : Option ℕ) (a b : ℕ) → IfSome o (λ p. p ≡ a) → a ≡ b → IfSome o (λ p. p ≡ b)
told-as None a b told same = tt
told-as (Some p) a b told same = told ∙ same

-- what was said of a record that was read is so of it
pub bound-of : (dig : List ℕ → List ℕ) (tag : List ℕ) (bodies : List LeafRecord) (note read : List ℕ) (bound b : Bool)
    → read ≡ note → bound ≡ is_bound_record dig tag bodies read → bound ≡ b → is_bound_record dig tag bodies note ≡ b
bound-of dig tag bodies note read bound b same is known =
    ap (is_bound_record dig tag bodies) (sym same) ∙ sym is ∙ known

-- the place of the gate behind the identity of records and so many notes
abbrev pub place_behind : List (List ℕ) → List (List ℕ) → ℕ → ℕ
place_behind records notes i = length (spelled (take 1 records ++ take i notes))

-- over records with an identity
module _ (records : List (List ℕ)) (identity : List ℕ) (notes : List (List ℕ)) (are : records ≡ identity ∷ notes) where
  front-is : (i : ℕ) → take 1 records ++ take i notes ≡ identity ∷ take i notes
  front-is i = ap (λ (l : List (List ℕ)). take 1 l ++ take i notes) are

  pub gate-first : 4 + 5 + length identity ≡ place_behind records notes 0
  gate-first = grind (arith, common_steps, spelled-count, front-is) steps 20000

  pub gate-more : (i : ℕ) (note : List ℕ) (place : ℕ) → i < length notes → note ≡ get_or notes i note
      → place ≡ place_behind records notes i → place + 5 + length note ≡ place_behind records notes (i + 1)
  gate-more i note place less is place_is = grind (arith, common_steps, take_more, spelled-count) steps 20000

-- over a wallet's records
module _ (dig : List ℕ → List ℕ) (bodies : List LeafRecord) (records : List (List ℕ)) (identity : List ℕ)
    (notes : List (List ℕ)) (tag : List ℕ) (are : records ≡ identity ∷ notes) (tag_is : tag ≡ (who_is records).tag)
  where
    bound-is : are_bound_notes bodies (notes_of dig records) ≡ list_all (is_bound_record dig tag bodies) notes
    bound-is =
        bound-each dig bodies records
        ∙ ap (λ (t : List ℕ). list_all (is_bound_record dig t bodies) (drop 1 records)) (sym tag_is)
        ∙ ap (λ (l : List (List ℕ)). list_all (is_bound_record dig tag bodies) (drop 1 l)) are

    place-is : unbound_place dig bodies records
        ≡ length (spelled (identity ∷ take_while (is_bound_record dig tag bodies) notes))
    place-is = grind (arith, common_steps) steps 20000

    -- the first record that isn't bound
    pub unbound-at : (i : ℕ) (note : List ℕ) → i < length notes → note ≡ get_or notes i note
        → list_all (is_bound_record dig tag bodies) (take i notes) ≡ true → is_bound_record dig tag bodies note ≡ false
        → (are_bound_notes bodies (notes_of dig records) ≡ false)
        × (place_behind records notes i ≡ unbound_place dig bodies records)
    unbound-at i note less is all fails =
        grind (arith, common_steps, front-at, bound-is, list_all_at, front-is, place-is) steps 20000

    -- all of them are
    pub bound-all : (i : ℕ) → length notes ≤ i → list_all (is_bound_record dig tag bodies) (take i notes) ≡ true
        → are_bound_notes bodies (notes_of dig records) ≡ true
    bound-all i past all =
        bound-is ∙ ap (list_all (is_bound_record dig tag bodies)) (sym (take_all i notes past)) ∙ all

    -- and what they leave
    pub memory-all : (me : Owner) → me ≡ owner_of (who_is records) → (i : ℕ) → length notes ≤ i
        → memory_of me tag (reverse (filter_map (note_in dig tag) (take i notes))) ≡ memory_in dig records
    unfolding notes_of
    memory-all me me_is i past = grind (arith, common_steps, take_all) steps 20000
