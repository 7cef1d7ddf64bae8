-- Openings that are kept, the newest first: their blocks, and one more of them.
use Rattle.proof_archive.proofs.Words.{◌≡◌, ℕ, zero, suc, ◌+◌, ◌-◌, ◌<◌, ◌≤◌, ◌==◌, not, Bool, true, false, List, [], ◌∷◌, ◌++◌, length, reverse, filter, find, Option, Some, None, inl, inr, refl, sym, ap, ◌∙◌, subst, arith, is_some, AllByRecursion, range_with_len, option_or, cases_eq, cases_lt, true≢false, false_from_ne_true, find-append, common_steps, reverse-cons, RawOpening, RootCall, CoinView, Tests, is_committed, blocks_of, committed_blocks, opens_block, is_asked, opening_at, NoneIsAsked, IsFirstAsked, Up, found-each, asked-parts, asked-from, AreAsked, blocks-from_asked, asked-from_blocks, at-head, every-weaker, opens-le, opens-grown, committed_blocks-grown, newest_block, has_block, first_gap, AreKept}
use Rattle.proof_archive.proofs.Fine.{every-push}

pub none-committed : (log : List RootCall) (n : ℕ) → committed_blocks log n n ≡ []
unfolding committed_blocks
none-committed log n =
    let e : n - n ≡ 0 = omega arith in ap (λ (k : ℕ). filter (is_committed log) (range_with_len (n + 1) k)) e

module _ (tests : Tests) (log : List RootCall) (coin : ℕ) (made : CoinView) where
  -- what is kept is of the committed blocks up to the newest
  pub kept-blocks : (rev : List RawOpening) → AreKept tests log coin made rev
      → blocks_of (reverse rev) ≡ committed_blocks log made.deposit (newest_block made.deposit rev)
  unfolding AreKept
  kept-blocks rev kept = grind (arith, common_steps, none-committed) steps 20000

  pub kept-asked : (rev : List RawOpening) → AreKept tests log coin made rev
      → AreAsked log made.deposit (newest_block made.deposit rev) (reverse rev)
  kept-asked rev kept =
      asked-from_blocks log made.deposit (newest_block made.deposit rev) (reverse rev) (kept-blocks rev kept)

  pub kept-deposit : (rev : List RawOpening) → AreKept tests log coin made rev
      → made.deposit ≤ newest_block made.deposit rev
  unfolding AreKept
  kept-deposit [] kept = omega arith
  kept-deposit (o ∷ older) kept = omega (arith, kept-deposit older kept.3, kept.0)

  -- there are at most as many as the newest one's block says
  pub kept-count : (rev : List RawOpening) → AreKept tests log coin made rev
      → length rev ≤ newest_block made.deposit rev
  unfolding AreKept
  kept-count [] kept = omega arith
  kept-count (o ∷ older) kept = omega (arith, kept-count older kept.3, kept.0)

  pub kept-below : (rev : List RawOpening) → AreKept tests log coin made rev
      → AllByRecursion (λ x. x.block ≤ newest_block made.deposit rev) (reverse rev)
  unfolding AreKept
  kept-below [] kept = tt
  kept-below (o ∷ older) kept =
      subst (AllByRecursion (λ (x : RawOpening). x.block ≤ o.block)) (sym (reverse-cons o older))
      (every-push (λ x. x.block ≤ o.block) (reverse older) o
      (grind (arith, common_steps, kept-below older kept.3, every-weaker) steps 20000) (omega arith))

  pub kept-opened : (rev : List RawOpening) → AreKept tests log coin made rev
      → AllByRecursion (λ x. opens_block tests log coin x ≡ true) (reverse rev)
  unfolding AreKept
  kept-opened [] kept = tt
  kept-opened (o ∷ older) kept = grind (arith, common_steps, kept-opened older kept.3, every-push) steps 20000

pub kept-nothing : (tests : Tests) (log : List RootCall) (coin : ℕ) (made : CoinView) → AreKept tests log coin made []
unfolding AreKept
kept-nothing tests log coin made = tt

-- it stays so as the log grows
pub kept-grown : (tests : Tests) (log : List RootCall) (call : RootCall) (coin : ℕ) (made : CoinView)
    (rev : List RawOpening) → AreKept tests log coin made rev → AreKept tests (call ∷ log) coin made rev
unfolding AreKept
kept-grown tests log call coin made [] kept = tt
kept-grown tests log call coin made (o ∷ older) kept = (
  kept.0,
  kept.1 ∙ sym (committed_blocks-grown log call made.deposit o.block (opens-le tests log coin o kept.2)),
  opens-grown tests log call coin o kept.2,
  kept-grown tests log call coin made older kept.3,
)

-- ---- the place of one more

-- no number of a range that passes is found by another test, or the first such one is
find-none : (p q : ℕ → Bool) (start count : ℕ)
    → ((m : ℕ) → start ≤ m → m < start + count → q m ≡ true → p m ≡ false)
    → find p (filter q (range_with_len start count)) ≡ None
find-none p q start zero none = refl
find-none p q start (suc count) none =
    let rest = find-none p q (start + 1) count (λ m low high. none m (omega arith) (omega arith)) in
    grind (arith, common_steps) steps 20000

find-first : (p q : ℕ → Bool) (start count n : ℕ) → start ≤ n → n < start + count → q n ≡ true → p n ≡ true
    → ((m : ℕ) → start ≤ m → m < n → q m ≡ true → p m ≡ false)
    → find p (filter q (range_with_len start count)) ≡ Some n
find-first p q start zero n low high passes is none = absurd (omega arith)
find-first p q start (suc count) n low high passes is none = elim (cases_eq start n) [
  | inl same ↦
      grind (arith, common_steps) steps 20000
  | inr apart ↦
      let rest = find-first p q (start + 1) count n (omega arith) (omega arith) passes is
      (λ m from to. none m (omega arith) to) in
      grind (arith, common_steps) steps 20000
]

module _ (tests : Tests) (log : List RootCall) (coin : ℕ) (made : CoinView) (kept : List RawOpening)
    (are : AreKept tests log coin made (reverse kept)) (same : reverse (reverse kept) ≡ kept) where
  abbrev newest : ℕ
  newest = newest_block made.deposit (reverse kept)

  asked : AreAsked log made.deposit newest kept
  asked = subst (AreAsked log made.deposit newest) same (kept-asked tests log coin made (reverse kept) are)

  -- a committed block after the deposit is kept exactly where the newest is at least that
  pub kept-has : (n : ℕ) → is_committed log n ≡ true → made.deposit < n → n ≤ newest → has_block kept n ≡ true
  kept-has n committed more le = grind (arith, common_steps, true≢false, asked-from, asked) steps 20000

  pub kept-lacks : (n : ℕ) → newest < n → has_block kept n ≡ false
  kept-lacks n less =
      (elim (opening_at kept n) as (λ t. opening_at kept n ≡ t → is_some t ≡ false) [
        | None ↦ λ none. refl
        | Some x ↦ grind (arith, common_steps, found-each, asked, asked-parts) steps 20000
      ]) refl

  -- the first gap before a block is the first committed one behind the newest
  pub no-gap : (n : ℕ) → NoneIsAsked (is_asked log newest n) 0 n → first_gap log made.deposit kept n ≡ None
  unfolding committed_blocks
  no-gap n none =
      find-none (λ m. not (has_block kept m)) (is_committed log) (made.deposit + 1) (n - 1 - made.deposit)
      (grind (arith, common_steps, cases_lt, true≢false, asked-from, kept-has) steps 20000)

  pub first-gap : (n m : ℕ) → IsFirstAsked (is_asked log newest n) 0 n m
      → first_gap log made.deposit kept n ≡ Some m
  unfolding committed_blocks
  first-gap n m is =
      let parts = asked-parts log newest n m is.is in
      let low : made.deposit ≤ newest = kept-deposit tests log coin made (reverse kept) are in
      let high = is.high in
      find-first (λ x. not (has_block kept x)) (is_committed log) (made.deposit + 1) (n - 1 - made.deposit) m
      (omega (arith, parts.1)) (omega (arith, parts.1)) parts.0 (ap not (kept-lacks m parts.1))
      (grind (arith, common_steps, cases_lt, true≢false, asked-from, kept-has) steps 20000)

  -- ---- one more opening is kept

  up-push : (low : ℕ) (os : List RawOpening) (o : RawOpening) → Up low os
      → AllByRecursion (λ x. x.block < o.block) os → low ≤ o.block → Up low (os ++ o ∷ [])
  up-push low [] o up below le = (le, tt)
  up-push low (x ∷ xs) o up below le = (up.0, up-push (suc x.block) xs o up.1 below.1 (omega (arith, below.0)))

  -- an opening of the next committed block, which opens its root, is kept with the others
  pub kept-more : (o : RawOpening) → is_committed log o.block ≡ true → newest < o.block
      → NoneIsAsked (is_asked log newest o.block) 0 o.block → opens_block tests log coin o ≡ true
      → AreKept tests log coin made (o ∷ reverse kept)
  unfolding AreKept
  kept-more o committed less none opens =
      let low : made.deposit ≤ newest = kept-deposit tests log coin made (reverse kept) are in
      let below : AllByRecursion (λ x. x.block ≤ newest) kept =
      subst (AllByRecursion (λ (x : RawOpening). x.block ≤ newest)) same
      (kept-below tests log coin made (reverse kept) are) in
      let order : reverse (o ∷ reverse kept) ≡ kept ++ o ∷ [] =
      reverse-cons o (reverse kept) ∙ ap (λ (os : List RawOpening). os ++ o ∷ []) same in
      let all : AreAsked log made.deposit o.block (kept ++ o ∷ []) = record {
        up = grind (arith, common_steps, up-push, asked, every-weaker) steps 20000;
        each = every-push (λ x. is_asked log made.deposit o.block x.block ≡ true) kept o
            (every-weaker (λ x. is_asked log made.deposit newest x.block ≡ true)
            (λ x. is_asked log made.deposit o.block x.block ≡ true)
            (grind (arith, common_steps, asked-parts, asked-from) steps 20000) kept asked.each)
            (asked-from log made.deposit o.block o.block committed (omega arith) (omega arith));
        other = grind (arith, common_steps, false_from_ne_true, other, asked-parts) steps 20000;
      } in grind (arith, common_steps, blocks-from_asked) steps 20000
    where
      found : (n : ℕ) → opening_at (kept ++ o ∷ []) n ≡ option_or (opening_at kept n) (opening_at (o ∷ []) n)
      found n = find-append (λ (x : RawOpening). x.block == n) kept (o ∷ [])

      first-none : (a b : Option RawOpening) → option_or a b ≡ None → (a ≡ None) × (b ≡ None)
      first-none None b none = (refl, none)
      first-none (Some x) b none = absurd (cc none)

      other : (n : ℕ) → opening_at (kept ++ o ∷ []) n ≡ None
          → (is_committed log n ≡ true) × (made.deposit < n) × (n ≤ o.block) → ⊥
      other n missing parts =
          let two = first-none (opening_at kept n) (opening_at (o ∷ []) n) (sym (found n) ∙ missing) in
          grind (arith, common_steps, cases_lt, cases_eq, at-head, true≢false, asked-from, asked) steps 20000
