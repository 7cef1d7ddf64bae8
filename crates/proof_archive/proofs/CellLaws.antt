-- The cell of a coin has what is carried of its openings, as they come and as the log grows.
use Rattle.proof_archive.proofs.Words.{◌≡◌, ℕ, ◌-◌, ◌==◌, Bool, if◌then◌else◌, List, [], ◌∷◌, ◌++◌, map, reverse, length, Option, Some, None, inl, inr, refl, sym, ap, ◌∙◌, subst, arith, is_some, slice_get, ◌||◌, list_any, lookup, option_map, option_map_or, unwrap_or, nat_cmp, BTreeMap, is_at, cases_eq, eq-eqb, ne_eqb, reverse-append, map-append, common_steps, Owner, RawOpening, SignedTx, Link, Links, RootCall, CoinView, Chain, with_log, tip_of, last_owner_of, coin_at, Tests, Rules, tests_by, rules_of, is_absent, transfer_of, links_with, last_from, tip_from, owner_from, tip-is, last_owner-is, with_tx, coin_at-grown, LinkEnd, Move, Stays, Carried, next_tx, moved, step, carried_by, AreKept, CoinCell, no_cell, end_of, tip_in, owner_in, move_by, next_in, move_of, with_opening, IsCell, IsCellOf, cell_in, openings_of, IsWhole}
use Rattle.std.proofs.lemmas.Map.Made.{lookup-map_values}
use Rattle.sparse_merkle.specs.TreeDigest.{AreDefaults}
use Rattle.proof_archive.proofs.Kept.{kept-grown}

-- ---- where links lead

end-last : {X : Type 0} (f : LinkEnd → X) (d : X) (links : List Link)
    → option_map_or f (slice_get (map end_of links) (length (map end_of links) - 1)) d
    ≡ last_from (λ link. f (end_of link)) d links
end-last f d [] = refl
end-last f d (x ∷ []) = refl
end-last f d (x ∷ y ∷ ys) = grind (arith, common_steps, end-last f d (y ∷ ys)) steps 20000

pub ends-tip : (deposit : ℕ) (links : List Link) → tip_in deposit (map end_of links) ≡ tip_from deposit links
ends-tip deposit links = end-last (λ end. end.block) deposit links

pub ends-owner : (owner : Owner) (links : List Link) → owner_in owner (map end_of links) ≡ owner_from owner links
ends-owner owner links = end-last (λ end. end.owner) owner links

pub ends-any : (tip : ℕ) (links : List Link)
    → list_any (λ (end : LinkEnd). end.block == tip) (map end_of links)
    ≡ list_any (λ (link : Link). link.block == tip) links
ends-any tip [] = refl
ends-any tip (x ∷ xs) = ap (λ (b : Bool). (x.block == tip) || b) (ends-any tip xs)

-- ---- one more opening

pub opened-with : (cell : CoinCell) (o : RawOpening) (change : Move)
    → (with_opening cell o change).openings ≡ cell.openings ++ o ∷ []
opened-with cell o change = refl

module _ (tests : Tests) (rules : Rules) (coin : ℕ) (made : CoinView) where
  -- the cell has what is carried
  abbrev Matches : CoinCell → Carried → Type 0
  Matches cell carried = (cell.ends ≡ map end_of carried.spends) × (cell.broken ≡ carried.broken)

  module _ (cell : CoinCell) (carried : Carried) (o : RawOpening) (is : Matches cell carried) where
    abbrev links : Links
    links = links_with coin made carried.spends

    same-tip : tip_in made.deposit cell.ends ≡ tip_of links
    same-tip = ap (tip_in made.deposit) is.0 ∙ ends-tip made.deposit carried.spends ∙ sym (tip-is links)

    same-owner : owner_in made.owner cell.ends ≡ last_owner_of links
    same-owner = ap (owner_in made.owner) is.0 ∙ ends-owner made.owner carried.spends ∙ sym (last_owner-is links)

    same-next : (t : Option SignedTx) → next_in tests made cell t ≡ next_tx tests links t
    same-next t = grind (arith, common_steps, same-tip, same-owner) steps 20000

    same-move : move_of tests rules coin made cell o
        ≡ (if is_absent o || is_some carried.broken then Stays
        else move_by o (next_tx tests links (transfer_of rules coin o)))
    same-move = grind (arith, common_steps, same-next) steps 20000

    matched : (idle : Bool) (next : Option SignedTx) → Matches
        (with_opening cell o (if idle then Stays else move_by o next))
        (if idle then carried else moved carried o next)
    matched idle next = grind (arith, common_steps, map-append, with_tx) steps 20000

    stepped : Matches (with_opening cell o (move_of tests rules coin made cell o))
        (step tests rules coin made carried o)
    stepped = grind (arith, common_steps, same-move, matched) steps 20000

-- a cell with one more opening that is kept has what is carried
pub cell-step : (tests : Tests) (rules : Rules) (log : List RootCall) (coin : ℕ) (made : CoinView) (cell : CoinCell)
    (o : RawOpening) → IsCell tests rules log coin made cell → AreKept tests log coin made (o ∷ reverse cell.openings)
    → IsCell tests rules log coin made (with_opening cell o (move_of tests rules coin made cell o))
unfolding carried_by
cell-step tests rules log coin made cell o is are =
    let rev : List RawOpening = reverse cell.openings in
    let change : Move = move_of tests rules coin made cell o in
    let order : o ∷ rev ≡ reverse (with_opening cell o change).openings =
    grind (arith, common_steps, opened-with, reverse-append) steps 20000 in
    let s = stepped tests rules coin made cell (carried_by tests rules coin made rev) o (is.ends, is.broken) in
    grind (arith, common_steps) steps 20000

-- the same of a coin that the log has
pub cell-judged : (tests : Tests) (rules : Rules) (log : List RootCall) (coin : ℕ) (made : CoinView) (cell : CoinCell)
    (o : RawOpening) (change : Move) → coin_at log coin ≡ Some made → IsCell tests rules log coin made cell
    → AreKept tests log coin made (o ∷ reverse cell.openings) → change ≡ move_of tests rules coin made cell o
    → IsCellOf tests rules log coin (with_opening cell o change) (coin_at log coin)
cell-judged tests rules log coin made cell o change some is are same =
    grind (arith, common_steps, cell-step) steps 20000

-- an empty cell has what is carried of nothing
pub cell-none : (tests : Tests) (rules : Rules) (log : List RootCall) (coin : ℕ) (made : CoinView)
    → IsCell tests rules log coin made no_cell
unfolding AreKept carried_by
cell-none tests rules log coin made = record { kept = tt; ends = refl; broken = refl }

-- ---- the log grows

pub cell-grown : (tests : Tests) (rules : Rules) (log : List RootCall) (call : RootCall) (coin : ℕ) (cell : CoinCell)
    → IsCellOf tests rules log coin cell (coin_at log coin)
    → IsCellOf tests rules (call ∷ log) coin cell (coin_at (call ∷ log) coin)
cell-grown tests rules log call coin cell is =
    grind (arith, common_steps, coin_at-grown, kept-grown, cell-none) steps 20000

-- of a coin that the log has the cell is one of it
pub cell-made : (tests : Tests) (rules : Rules) (log : List RootCall) (coin : ℕ) (cell : CoinCell) (made : CoinView)
    → coin_at log coin ≡ Some made → IsCellOf tests rules log coin cell (coin_at log coin)
    → IsCell tests rules log coin made cell
cell-made tests rules log coin cell made some is = subst (IsCellOf tests rules log coin cell) some is

-- ---- all cells

pub whole-none : (dig : List ℕ → List ℕ) (chain : Chain) (defaults : List (List ℕ)) (cells : BTreeMap ℕ CoinCell)
    → AreDefaults dig defaults → cells.entries ≡ [] → chain.log ≡ [] → IsWhole dig chain defaults cells
unfolding coin_at
whole-none dig chain defaults cells are empty none = grind (arith, common_steps) steps 20000

pub whole-grown : (dig : List ℕ → List ℕ) (chain : Chain) (call : RootCall) (defaults : List (List ℕ))
    (cells : BTreeMap ℕ CoinCell) → IsWhole dig chain defaults cells
    → IsWhole dig (with_log chain (call ∷ chain.log)) defaults cells
whole-grown dig chain call defaults cells is = record {
  defaults_are = is.defaults_are;
  cells_are = λ coin.
      cell-grown (tests_by dig) (rules_of chain) chain.log call coin (cell_in cells coin) (is.cells_are coin);
}

-- one cell is changed
pub whole-put : (dig : List ℕ → List ℕ) (chain : Chain) (defaults : List (List ℕ)) (cells others : BTreeMap ℕ CoinCell)
    (coin : ℕ) (cell : CoinCell) → IsWhole dig chain defaults cells
    → ((c : ℕ) → cell_in others c ≡ (if c == coin then cell else cell_in cells c))
    → IsCellOf (tests_by dig) (rules_of chain) chain.log coin cell (coin_at chain.log coin)
    → IsWhole dig chain defaults others
whole-put dig chain defaults cells others coin cell is same here = record {
  defaults_are = is.defaults_are;
  cells_are = λ c. elim (cases_eq c coin) [
    | inl at ↦
        subst (λ (n : ℕ). IsCellOf (tests_by dig) (rules_of chain) chain.log n (cell_in others n)
        (coin_at chain.log n)) (sym at)
        (subst (λ (x : CoinCell). IsCellOf (tests_by dig) (rules_of chain) chain.log coin x (coin_at chain.log coin))
        (sym (same coin ∙ ap (λ (b : Bool). if b then cell else cell_in cells coin) (eq-eqb coin coin refl))) here)
    | inr apart ↦
        subst (λ (x : CoinCell). IsCellOf (tests_by dig) (rules_of chain) chain.log c x (coin_at chain.log c))
        (sym (same c ∙ ap (λ (b : Bool). if b then cell else cell_in cells c) (ne_eqb c coin apart))) (is.cells_are c)
  ];
}

pub whole-same : (dig : List ℕ → List ℕ) (chain : Chain) (defaults : List (List ℕ))
    (cells others : BTreeMap ℕ CoinCell) → IsWhole dig chain defaults cells
    → ((c : ℕ) → cell_in others c ≡ cell_in cells c) → IsWhole dig chain defaults others
whole-same dig chain defaults cells others is same = record {
  defaults_are = is.defaults_are;
  cells_are = λ c.
      subst (λ (x : CoinCell). IsCellOf (tests_by dig) (rules_of chain) chain.log c x (coin_at chain.log c))
      (sym (same c)) (is.cells_are c);
}

-- what callers see of a cell
pub kept-cell : (cells : BTreeMap ℕ CoinCell) (coin : ℕ)
    → unwrap_or (lookup (is_at (nat_cmp coin)) (map openings_of cells.entries)) [] ≡ (cell_in cells coin).openings
kept-cell cells coin =
    ap (λ (o : Option (List RawOpening)). unwrap_or o [])
    (lookup-map_values (λ (cell : CoinCell). cell.openings) (is_at (nat_cmp coin)) cells.entries)
    ∙ found (lookup (is_at (nat_cmp coin)) cells.entries)
  where
    found : (o : Option CoinCell)
        → unwrap_or (option_map (λ (cell : CoinCell). cell.openings) o) [] ≡ (unwrap_or o no_cell).openings
    found None = refl
    found (Some cell) = refl
