-- What an opening is refused for by its place, or its root.
use Rattle.proof_archive.proofs.Words.{◌≡◌, ℕ, ◌+◌, ◌<◌, ◌≤◌, ◌^◌, ◌&&◌, Bool, true, false, if◌then◌else◌, List, ◌∷◌, length, reverse, Option, Some, None, Result, Ok, Err, ap, ◌∙◌, arith, nat_lt, and_from, and_left, and_right, lt-ltb, le-leb, true≢false, reverse-reverse, length-reverse, common_steps, RawOpening, RootCall, CoinView, blocks, coin_at, Tests, is_committed, opens_block, is_asked, first_cause, opening_causes, unless_failed, NoneIsAsked, IsFirstAsked, asked-parts, committed-le, ArchiveRefusal, NoCoin, UnknownBlock, HaveBlock, Gap, BadOpening, newest_block, fits, has_block, first_gap, placed_behind, place_at, place_in, opened_at, put_at, AreKept, IsNextPlace}
use Rattle.coin_history.specs.declared.refusal.HistoryRefusal.{HistoryRefusal}
use Rattle.coin_history.specs.declared.refusal.HistoryRefusal.TheVariants.{BadOpening as BadOf}
use Rattle.proof_archive.proofs.Kept.{kept-count, kept-has, kept-lacks, no-gap, first-gap, kept-more}

pub place-unknown : (log : List RootCall) (deposit : ℕ) (kept : List RawOpening) (n : ℕ)
    → is_asked log deposit n n ≡ false → place_at log deposit kept n ≡ Err (UnknownBlock n)
place-unknown log deposit kept n unasked = grind (arith, common_steps, le-leb, true≢false) steps 20000

pub place-wide : (log : List RootCall) (deposit : ℕ) (kept : List RawOpening) (n : ℕ)
    → fits n ≡ false → place_at log deposit kept n ≡ Err (UnknownBlock n)
place-wide log deposit kept n wide = grind (arith, common_steps, and_right) steps 20000

-- a block that has to be opened is one of the log's
pub asked-le : (log : List RootCall) (low n : ℕ) → is_asked log low n n ≡ true → n ≤ blocks log
asked-le log low n asked = let parts = asked-parts log low n n asked in committed-le log n parts.0

module _ (tests : Tests) (log : List RootCall) (coin : ℕ) (made : CoinView) (kept : List RawOpening)
    (are : AreKept tests log coin made (reverse kept)) (n : ℕ) (asked : is_asked log made.deposit n n ≡ true)
    (narrow : n < 2 ^ 32) where
  known : (is_committed log n && nat_lt made.deposit n && fits n) ≡ true
  known = grind (arith, common_steps, asked-parts, and_from, lt-ltb) steps 20000

  placed : place_at log made.deposit kept n
      ≡ (if has_block kept n then Err (HaveBlock n) else placed_behind (first_gap log made.deposit kept n) n)
  placed = grind (arith, common_steps, known) steps 20000

  pub place-have : n ≤ newest_block made.deposit (reverse kept) → place_at log made.deposit kept n ≡ Err (HaveBlock n)
  place-have le = grind (arith, common_steps, asked-parts, placed, kept-has, reverse-reverse) steps 20000

  behind : newest_block made.deposit (reverse kept) < n
      → place_at log made.deposit kept n ≡ placed_behind (first_gap log made.deposit kept n) n
  behind less = grind (arith, common_steps, placed, kept-lacks, reverse-reverse) steps 20000

  pub place-gap : (m : ℕ) → newest_block made.deposit (reverse kept) < n
      → IsFirstAsked (is_asked log (newest_block made.deposit (reverse kept)) n) 0 n m
      → place_at log made.deposit kept n ≡ Err (Gap m)
  place-gap m less is = grind (arith, common_steps, behind, first-gap, reverse-reverse) steps 20000

  pub place-free : newest_block made.deposit (reverse kept) < n
      → NoneIsAsked (is_asked log (newest_block made.deposit (reverse kept)) n) 0 n
      → place_at log made.deposit kept n ≡ Ok n
  place-free less none = grind (arith, common_steps, behind, no-gap, reverse-reverse) steps 20000

-- ---- the opening

-- what the leaf of an opening that has to be there is refused for
opened-cases : (tests : Tests) (log : List RootCall) (coin : ℕ) (asked : Bool) (o : RawOpening) (leaf : List ℕ)
    → asked ≡ true → unless_failed (first_cause (opening_causes tests log coin asked o)) leaf
    ≡ (if opens_block tests log coin o then Ok leaf else Err (BadOf o.block))
opened-cases tests log coin asked o leaf is = grind (arith, common_steps) steps 20000

which-ok : (opens : Bool) (n : ℕ) (leaf shown : List ℕ)
    → Ok leaf ≡ (if opens then Ok shown else Err (BadOf n)) → (leaf ≡ shown) × (opens ≡ true)
which-ok opens n leaf shown is = grind (arith, common_steps) steps 20000

which-err : (opens : Bool) (n : ℕ) (why : HistoryRefusal) (shown : List ℕ)
    → Err why ≡ (if opens then Ok shown else Err (BadOf n)) → opens ≡ false
which-err opens n why shown is = grind (arith, common_steps) steps 20000

pub opened-ok : (tests : Tests) (log : List RootCall) (coin : ℕ) (asked : Bool) (o : RawOpening) (leaf shown : List ℕ)
    → asked ≡ true → Ok leaf ≡ unless_failed (first_cause (opening_causes tests log coin asked o)) shown
    → (leaf ≡ shown) × (opens_block tests log coin o ≡ true)
opened-ok tests log coin asked o leaf shown is found = grind (arith, common_steps, which-ok, opened-cases) steps 20000

pub opened-err : (tests : Tests) (log : List RootCall) (coin : ℕ) (asked : Bool) (o : RawOpening)
    (why : HistoryRefusal) (shown : List ℕ)
    → asked ≡ true → Err why ≡ unless_failed (first_cause (opening_causes tests log coin asked o)) shown
    → opens_block tests log coin o ≡ false
opened-err tests log coin asked o why shown is found = grind (arith, common_steps, which-err, opened-cases) steps 20000

-- ---- the answer

placed-found : (opens : Bool) (placed : Result ℕ ArchiveRefusal) (n : ℕ) → opened_at opens placed ≡ Ok n
    → placed ≡ Ok n
placed-found opens placed n is = grind (arith, common_steps) steps 20000

module _ (tests : Tests) (log : List RootCall) (coin : ℕ) (kept : List RawOpening) (o : RawOpening) where
  abbrev shows : Bool
  shows = fits (length o.bytes) && opens_block tests log coin o

  pub put-uncoined : coin_at log coin ≡ None → put_at tests log coin kept o (coin_at log coin) ≡ Err NoCoin
  put-uncoined none = ap (put_at tests log coin kept o) none

  -- an opening that is kept was placed
  pub put-found : (made : Option CoinView) (n : ℕ) → put_at tests log coin kept o made ≡ Ok n
      → place_in log kept o.block made ≡ Ok n
  put-found made n is = grind (arith, common_steps, placed-found) steps 20000

  module _ (made : CoinView) (some : coin_at log coin ≡ Some made) where
    pub put-unplaced : (why : ArchiveRefusal) → place_at log made.deposit kept o.block ≡ Err why
        → put_at tests log coin kept o (coin_at log coin) ≡ Err why
    put-unplaced why is = ap (put_at tests log coin kept o) some ∙ ap (opened_at shows) is

    module _ (are : AreKept tests log coin made (reverse kept))
        (next : IsNextPlace log made.deposit (newest_block made.deposit (reverse kept)) o.block) where
      free : place_at log made.deposit kept o.block ≡ Ok o.block
      free = place-free tests log coin made kept are o.block next.asked next.narrow next.past next.none

      pub put-placed : place_in log kept o.block (coin_at log coin) ≡ Ok o.block
      put-placed = ap (place_in log kept o.block) some ∙ free

      put-shown : put_at tests log coin kept o (coin_at log coin)
          ≡ (if shows then Ok o.block else Err (BadOpening o.block))
      put-shown = ap (put_at tests log coin kept o) some ∙ ap (opened_at shows) free

      unshown : shows ≡ false → put_at tests log coin kept o (coin_at log coin) ≡ Err (BadOpening o.block)
      unshown shut = put-shown ∙ ap (λ (b : Bool). if b then Ok o.block else Err (BadOpening o.block)) shut

      pub put-long : fits (length o.bytes) ≡ false
          → put_at tests log coin kept o (coin_at log coin) ≡ Err (BadOpening o.block)
      put-long long = unshown (and_left (fits (length o.bytes)) (opens_block tests log coin o) long)

      pub put-unopened : opens_block tests log coin o ≡ false
          → put_at tests log coin kept o (coin_at log coin) ≡ Err (BadOpening o.block)
      put-unopened shut = unshown (and_right (fits (length o.bytes)) (opens_block tests log coin o) shut)

      pub put-opened : fits (length o.bytes) ≡ true → opens_block tests log coin o ≡ true
          → put_at tests log coin kept o (coin_at log coin) ≡ Ok o.block
      put-opened short opens = grind (arith, common_steps, put-shown, and_from) steps 20000

      pub put-kept : opens_block tests log coin o ≡ true → AreKept tests log coin made (o ∷ reverse kept)
      put-kept opens = grind (arith, common_steps, asked-parts, kept-more, reverse-reverse) steps 20000

      -- one more is counted in four bytes too
      pub put-counted : length kept + 1 < 2 ^ 32
      put-counted = grind (arith, common_steps, kept-count, length-reverse) steps 20000
