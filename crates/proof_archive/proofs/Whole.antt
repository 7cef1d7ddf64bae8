-- What callers see of an archive, by its cells.
use Rattle.proof_archive.proofs.Words.{◌≡◌, ◌≢◌, ℕ, ◌==◌, Bool, true, false, if◌then◌else◌, List, [], ◌∷◌, ◌++◌, map, Some, None, Result, Ok, Err, is_ok, sym, ap, ◌∙◌, subst, arith, ◌||◌, list_any, lookup, unwrap_or, nat_cmp, BTreeMap, is_at, cases_eq, eq-eqb, ne_eqb, common_steps, RawOpening, CoinView, Chain, coin_at, tests_by, rules_of, Bundle, AreRising, LinkEnd, Move, ArchiveRefusal, NoCoin, NotTip, place_in, put_at, put_answer, tip_answer, broken_answer, openings_up_to, bundle_answer, CoinCell, tip_in, with_opening, IsCell, cell_in, openings_of, IsWhole, StaysAHistory}
use Rattle.proof_archive.proofs.CellLaws.{opened-with, cell-made, kept-cell}
use Rattle.proof_archive.proofs.ByCell.{tip-none, tip-some, bundle-none, bundle-not, bundle-some, bundle-stays, bundle-rises, broken-cell}

-- the openings that callers see of a coin
abbrev pub seen : BTreeMap ℕ CoinCell → ℕ → List RawOpening
seen cells coin = unwrap_or (lookup (is_at (nat_cmp coin)) (map openings_of cells.entries)) []

-- ---- puts

-- where one cell has one more opening, callers see one more of that coin
pub seen-more : (cells others : BTreeMap ℕ CoinCell) (coin : ℕ) (o : RawOpening) (change : Move)
    → ((c : ℕ) → cell_in others c ≡ (if c == coin then with_opening (cell_in cells coin) o change else cell_in cells c))
    → (c : ℕ) → seen others c ≡ (if c == coin then seen cells coin ++ o ∷ [] else seen cells c)
seen-more cells others coin o change same c = grind (arith, common_steps, kept-cell, opened-with) steps 20000

-- where no cell is changed, they see the same
pub seen-same : (cells others : BTreeMap ℕ CoinCell) (coin : ℕ) → ((c : ℕ) → cell_in others c ≡ cell_in cells c)
    → (c : ℕ) → seen others c ≡ (if c == coin then seen cells coin else seen cells c)
seen-same cells others coin same c = grind (arith, common_steps, kept-cell, cases_eq, eq-eqb, ne_eqb) steps 20000

-- a put is answered by what they see
pub put-seen : (dig : List ℕ → List ℕ) (chain : Chain) (cells : BTreeMap ℕ CoinCell) (coin : ℕ) (o : RawOpening)
    (answer : Result ℕ ArchiveRefusal)
    → put_at (tests_by dig) chain.log coin (cell_in cells coin).openings o (coin_at chain.log coin) ≡ answer
    → answer ≡ put_answer dig chain (seen cells coin) coin o
unfolding put_answer
put-seen dig chain cells coin o answer is =
    sym is ∙ ap (λ (os : List RawOpening). put_at (tests_by dig) chain.log coin os o (coin_at chain.log coin))
    (sym (kept-cell cells coin))

-- and so is its place
pub placed-seen : (chain : Chain) (cells : BTreeMap ℕ CoinCell) (coin n : ℕ) (answer : Result ℕ ArchiveRefusal)
    → place_in chain.log (cell_in cells coin).openings n (coin_at chain.log coin) ≡ answer
    → place_in chain.log (seen cells coin) n (coin_at chain.log coin) ≡ answer
placed-seen chain cells coin n answer is =
    ap (λ (os : List RawOpening). place_in chain.log os n (coin_at chain.log coin)) (kept-cell cells coin) ∙ is

pub refusal-same : (one other : ArchiveRefusal) → ◌≡◌ {A = Result ℕ ArchiveRefusal} (Err one) (Err other)
    → one ≡ other
refusal-same one other same = cc same

-- ---- answers

-- openings up to a tip that a cell has are seen
pub some-seen : (cells : BTreeMap ℕ CoinCell) (coin tip : ℕ)
    → openings_up_to tip (cell_in cells coin).openings ≢ [] → openings_up_to tip (seen cells coin) ≢ []
some-seen cells coin tip some =
    subst (λ (os : List RawOpening). openings_up_to tip os ≢ []) (sym (kept-cell cells coin)) some

module _ (dig : List ℕ → List ℕ) (chain : Chain) (defaults : List (List ℕ)) (cells : BTreeMap ℕ CoinCell)
    (whole : IsWhole dig chain defaults cells) (coin : ℕ) where
  pub tip-unseen : coin_at chain.log coin ≡ None → Err NoCoin ≡ tip_answer dig chain (seen cells coin) coin
  tip-unseen none = tip-none dig chain coin (seen cells coin) none

  pub bundle-unseen : (tip : ℕ) → coin_at chain.log coin ≡ None
      → Err NoCoin ≡ bundle_answer dig chain (seen cells coin) coin tip
  bundle-unseen tip none = bundle-none dig chain coin (seen cells coin) tip none

  pub broken-seen : (cell_in cells coin).broken ≡ broken_answer dig chain (seen cells coin) coin
  broken-seen = grind (arith, common_steps, broken-cell, kept-cell) steps 20000

  module _ (made : CoinView) (some : coin_at chain.log coin ≡ Some made) where
    is_cell : IsCell (tests_by dig) (rules_of chain) chain.log coin made (cell_in cells coin)
    is_cell = grind (arith, common_steps, cell-made) steps 20000

    pub tip-seen : (n : ℕ) → n ≡ tip_in made.deposit (cell_in cells coin).ends
        → Ok n ≡ tip_answer dig chain (seen cells coin) coin
    tip-seen n is = grind (arith, common_steps, tip-some, is_cell, kept-cell) steps 20000

    module _ (tip : ℕ) (b : Bool)
        (tested : b ≡ ((made.deposit == tip)
        || list_any (λ (end : LinkEnd). end.block == tip) (cell_in cells coin).ends)) where
      pub bundle-not_seen : b ≡ false → Err (NotTip tip) ≡ bundle_answer dig chain (seen cells coin) coin tip
      bundle-not_seen unmet = grind (arith, common_steps, bundle-not, is_cell, kept-cell) steps 20000

      module _ (met : b ≡ true) (openings : List RawOpening)
          (are : openings ≡ openings_up_to tip (cell_in cells coin).openings) where
        abbrev bundle_with : List RawOpening → Bundle
        bundle_with os = record { coin = coin; tip = tip; openings = os }

        pub bundle-seen : Ok (bundle_with openings) ≡ bundle_answer dig chain (seen cells coin) coin tip
        bundle-seen = grind (arith, common_steps, bundle-some, is_cell, kept-cell) steps 20000

        pub stays-seen : StaysAHistory dig chain (seen cells coin) coin tip (bundle_with openings)
        stays-seen =
            subst (λ (os : List RawOpening). StaysAHistory dig chain os coin tip (bundle_with openings))
            (sym (kept-cell cells coin))
            (grind (arith, common_steps, bundle-stays, is_cell) steps 20000)

        pub rises-seen : AreRising openings
        rises-seen = subst AreRising (sym are)
            (bundle-rises dig chain coin made (cell_in cells coin) some is_cell tip (sym tested ∙ met))

      pub bundle-made : b ≡ true → is_ok (bundle_answer dig chain (seen cells coin) coin tip) ≡ true
      bundle-made met = grind (arith, common_steps, bundle-seen) steps 20000
