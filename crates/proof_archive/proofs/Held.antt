-- What is held after every list of calls and openings: what is kept of a coin is of its first committed blocks.
use Rattle.proof_archive.proofs.Words.{◌≡◌, ℕ, zero, suc, ◌+◌, ◌-◌, ◌<◌, ◌≤◌, ◌^◌, ◌==◌, ◌&&◌, not, Bool, true, false, if◌then◌else◌, List, [], ◌∷◌, ◌++◌, length, map, reverse, filter, find, Option, Some, None, Result, Ok, Err, inl, inr, refl, sym, ap, ◌∙◌, subst, arith, nat_lt, nat_le, ◌||◌, list_any, range_with_len, cases_eq, cases_lt, eq-eqb, ne_eqb, true≢false, false_from_ne_true, and_from, and_parts, le-leb, ltb-true, reverse-append, reverse-reverse, common_steps, RawOpening, RootCall, CoinView, Chain, coin_at, Tests, tests_by, rules_of, Bundle, is_committed, committed_blocks, opens_block, is_asked, asked-parts, coin_at-grown, ArchiveRefusal, NoCoin, UnknownBlock, HaveBlock, LinkEnd, newest_block, fits, has_block, first_gap, placed_behind, place_at, opened_at, put_at, put_answer, after_put, tip_answer, openings_up_to, bundle_answer, Carried, carried_by, AreKept, CoinCell, end_of, IsCell, IsNextPlace, StaysAHistory, Given, Follow, Put, Holding, held_with, held_after, BundlesAreHistories, TipsHaveBundles}
use Rattle.proof_archive.proofs.Kept.{kept-deposit, kept-has, kept-lacks, kept-more, kept-grown, kept-nothing}
use Rattle.proof_archive.proofs.ByCell.{tip-none, tip-some, bundle-none, bundle-not, bundle-some, bundle-stays, tip-is_tip}

-- an answer that is no refusal
abbrev done : {A : Type 0} → A → Result A ArchiveRefusal
done answer = Ok answer

-- ---- an opening that is kept

-- where no number of a range is found, none that passes one test passes the other
find-all : (p q : ℕ → Bool) (start count : ℕ) → find p (filter q (range_with_len start count)) ≡ None
    → (m : ℕ) → start ≤ m → m < start + count → q m ≡ true → p m ≡ false
find-all p q start zero none m low high passes = absurd (omega arith)
find-all p q start (suc count) none m low high passes =
    (elim (q start) as (λ b. q start ≡ b → find p (if b then start ∷ filter q (range_with_len (start + 1) count)
    else filter q (range_with_len (start + 1) count)) ≡ None → p m ≡ false) [
      | true ↦ λ here is. (elim (p start) as (λ b. p start ≡ b
          → (if b then Some start else find p (filter q (range_with_len (start + 1) count))) ≡ None → p m ≡ false) [
            | true ↦ λ wrong same. absurd (cc same)
            | false ↦ λ fails same. elim (cases_eq start m) [
              | inl e ↦ ap p (sym e) ∙ fails
              | inr apart ↦ find-all p q (start + 1) count same m (omega arith) (omega arith) passes
            ]
          ]) refl is
      | false ↦ λ here is. elim (cases_eq start m) [
        | inl e ↦ absurd (true≢false (sym passes ∙ ap q (sym e) ∙ here))
        | inr apart ↦ find-all p q (start + 1) count is m (omega arith) (omega arith) passes
      ]
    ]) refl none

placed-parts : (known has : Bool) (gap : Option ℕ) (n m : ℕ)
    → (if not known then Err (UnknownBlock n) else if has then Err (HaveBlock n) else placed_behind gap n) ≡ Ok m
    → (known ≡ true) × (has ≡ false) × (gap ≡ None)
placed-parts known has gap n m is = grind (arith, common_steps) steps 20000

opened-parts : (opens : Bool) (placed : Result ℕ ArchiveRefusal) (n : ℕ) → opened_at opens placed ≡ Ok n
    → (opens ≡ true) × ((m : ℕ) × (placed ≡ Ok m))
opened-parts opens placed n is = grind (arith, common_steps) steps 20000

module _ (tests : Tests) (log : List RootCall) (coin : ℕ) (made : CoinView) (kept : List RawOpening)
    (are : AreKept tests log coin made (reverse kept)) where
  -- an opening that is placed is the next one
  next-placed : (n m : ℕ) → place_at log made.deposit kept n ≡ Ok m
      → IsNextPlace log made.deposit (newest_block made.deposit (reverse kept)) n
  unfolding committed_blocks
  next-placed n m is =
      let parts = placed-parts (is_committed log n && nat_lt made.deposit n && fits n) (has_block kept n)
      (first_gap log made.deposit kept n) n m is in
      let known = and_parts (is_committed log n && nat_lt made.deposit n) (fits n) parts.0 in
      let asked : is_asked log made.deposit n n ≡ true =
      and_from (is_committed log n && nat_lt made.deposit n) (nat_le n n) known.0 (le-leb n n (omega arith)) in
      let own = asked-parts log made.deposit n n asked in
      let low : made.deposit ≤ newest_block made.deposit (reverse kept) =
      kept-deposit tests log coin made (reverse kept) are in
      record {
        asked = asked;
        narrow = ltb-true n (2 ^ 32) known.1;
        past = grind (arith, common_steps, cases_lt, true≢false, kept-has, reverse-reverse) steps 20000;
        none = λ x from to. false_from_ne_true (is_asked log (newest_block made.deposit (reverse kept)) n x) (λ a.
            let of = asked-parts log (newest_block made.deposit (reverse kept)) n x a in
            let gone : not (has_block kept x) ≡ false =
            find-all (λ y. not (has_block kept y)) (is_committed log) (made.deposit + 1) (n - 1 - made.deposit) parts.2
            x (omega (arith, of.1)) (omega (arith, of.1)) of.0 in
            true≢false (sym (ap not (kept-lacks tests log coin made kept are (reverse-reverse kept) x of.1)) ∙ gone));
      }

  -- what is kept after a put
  kept-put : (o : RawOpening) (n : ℕ)
      → put_at tests log coin kept o (Some made) ≡ Ok n
      → AreKept tests log coin made (reverse (kept ++ o ∷ []))
  kept-put o n is =
      let parts = opened-parts (fits (length o.bytes) && opens_block tests log coin o)
      (place_at log made.deposit kept o.block) n is in
      let opens = and_parts (fits (length o.bytes)) (opens_block tests log coin o) parts.0 in
      let next = next-placed o.block parts.1.0 parts.1.1 in
      grind (arith, common_steps, asked-parts, reverse-append, kept-more, reverse-reverse) steps 20000

-- ---- every list

-- what is kept of a coin that the log has, or hasn't
abbrev IsKeptOf : Tests → List RootCall → ℕ → List RawOpening → Option CoinView → Type 0
IsKeptOf tests log coin kept None = kept ≡ []
IsKeptOf tests log coin kept (Some made) = AreKept tests log coin made (reverse kept)

kept-followed : (tests : Tests) (log : List RootCall) (call : RootCall) (coin : ℕ) (kept : List RawOpening)
    → IsKeptOf tests log coin kept (coin_at log coin)
    → IsKeptOf tests (call ∷ log) coin kept (coin_at (call ∷ log) coin)
kept-followed tests log call coin kept is =
    grind (arith, common_steps, coin_at-grown, kept-grown, kept-nothing) steps 20000

kept-answered : (dig : List ℕ → List ℕ) (chain : Chain) (kept : List RawOpening) (coin : ℕ) (o : RawOpening)
    (answer : Result ℕ ArchiveRefusal) → put_answer dig chain kept coin o ≡ answer
    → IsKeptOf (tests_by dig) chain.log coin kept (coin_at chain.log coin)
    → IsKeptOf (tests_by dig) chain.log coin (after_put kept o answer) (coin_at chain.log coin)
unfolding put_answer
kept-answered dig chain kept coin o (Err why) is are = are
kept-answered dig chain kept coin o (Ok n) is are =
    (elim (coin_at chain.log coin) as (λ t. put_at (tests_by dig) chain.log coin kept o t ≡ Ok n
    → IsKeptOf (tests_by dig) chain.log coin kept t
    → IsKeptOf (tests_by dig) chain.log coin (kept ++ o ∷ []) t) [
      | None ↦ λ wrong empty. absurd (cc wrong)
      | Some made ↦ λ put has. kept-put (tests_by dig) chain.log coin made kept has o n put
    ]) is are

module _ (dig : List ℕ → List ℕ) (chain : Chain) where
  abbrev held : List Given → Holding
  held given = held_after dig chain given

  all-kept : (given : List Given) (coin : ℕ)
      → IsKeptOf (tests_by dig) (held given).chain.log coin ((held given).kept coin)
      (coin_at (held given).chain.log coin)
  unfolding held_after coin_at
  all-kept [] coin = refl
  all-kept (Follow call ∷ older) coin =
      kept-followed (tests_by dig) (held older).chain.log call coin ((held older).kept coin) (all-kept older coin)
  all-kept (Put at o ∷ older) coin =
      put-kept (held older) at o (all-kept older) coin
    where
      put-kept : (h : Holding) (at : ℕ) (o : RawOpening)
          → ((c : ℕ) → IsKeptOf (tests_by dig) h.chain.log c (h.kept c) (coin_at h.chain.log c)) → (c : ℕ)
          → IsKeptOf (tests_by dig) h.chain.log c ((held_with dig h (Put at o)).kept c) (coin_at h.chain.log c)
      put-kept h at o are c = grind (arith, common_steps, cases_eq, eq-eqb, kept-answered, ne_eqb) steps 20000

-- ---- the laws, by the cell that would have what is carried of what is kept

module _ (dig : List ℕ → List ℕ) (chain : Chain) (coin : ℕ) (kept : List RawOpening) (made : CoinView)
    (some : coin_at chain.log coin ≡ Some made) (are : AreKept (tests_by dig) chain.log coin made (reverse kept)) where
  abbrev carried : Carried
  carried = carried_by (tests_by dig) (rules_of chain) coin made (reverse kept)

  abbrev cell : CoinCell
  cell = record { openings = kept; ends = map end_of carried.spends; broken = carried.broken }

  is_cell : IsCell (tests_by dig) (rules_of chain) chain.log coin made cell
  is_cell = record { kept = are; ends = refl; broken = refl }

  bundle-good : (tip : ℕ) (bundle : Bundle) → bundle_answer dig chain kept coin tip ≡ Ok bundle
      → (bundle ≡ record { coin = coin; tip = tip; openings = openings_up_to tip kept })
      × StaysAHistory dig chain kept coin tip bundle
  bundle-good tip bundle is =
      (elim ((made.deposit == tip) || list_any (λ (end : LinkEnd). end.block == tip) cell.ends) as (λ b.
      ((made.deposit == tip) || list_any (λ (end : LinkEnd). end.block == tip) cell.ends) ≡ b
      → (bundle ≡ record { coin = coin; tip = tip; openings = openings_up_to tip kept })
      × StaysAHistory dig chain kept coin tip bundle) [
        | true ↦ λ at.
            let same : bundle ≡ record { coin = coin; tip = tip; openings = openings_up_to tip kept } =
            ok-same (sym is ∙ sym (bundle-some dig chain coin made cell some is_cell tip at)) in (
              same,
              subst (StaysAHistory dig chain kept coin tip) (sym same)
                  (bundle-stays dig chain coin made cell some is_cell tip at),
            )
        | false ↦ λ at. absurd (err-apart (bundle-not dig chain coin made cell some is_cell tip at ∙ is))
      ]) refl
    where
      ok-same : {one other : Bundle} → done one ≡ done other → one ≡ other
      ok-same e = cc

      err-apart : {why : ArchiveRefusal} {one : Bundle} → Err why ≡ done one → ⊥
      err-apart e = cc

  tip-good : (tip : ℕ) → tip_answer dig chain kept coin ≡ Ok tip
      → (bundle : Bundle) × (bundle_answer dig chain kept coin tip ≡ Ok bundle)
  tip-good tip is = (
    record { coin = coin; tip = tip; openings = openings_up_to tip kept },
    sym (bundle-some dig chain coin made cell some is_cell tip
        (tip-is_tip made.deposit carried.spends tip
        (ok-same (tip-some dig chain coin made cell some is_cell ∙ is)))),
  )
    where
      ok-same : {one other : ℕ} → done one ≡ done other → one ≡ other
      ok-same e = cc

none-bundled : (dig : List ℕ → List ℕ) (chain : Chain) (coin : ℕ) (kept : List RawOpening) (tip : ℕ) (bundle : Bundle)
    → coin_at chain.log coin ≡ None → bundle_answer dig chain kept coin tip ≡ Ok bundle → ⊥
none-bundled dig chain coin kept tip bundle none is =
    let wrong : Err NoCoin ≡ Ok bundle = bundle-none dig chain coin kept tip none ∙ is in cc

none-tipped : (dig : List ℕ → List ℕ) (chain : Chain) (coin : ℕ) (kept : List RawOpening) (tip : ℕ)
    → coin_at chain.log coin ≡ None → tip_answer dig chain kept coin ≡ Ok tip → ⊥
none-tipped dig chain coin kept tip none is =
    let wrong : Err NoCoin ≡ Ok tip = tip-none dig chain coin kept none ∙ is in cc

pub bundles_are_histories : BundlesAreHistories
bundles_are_histories dig chain given coin tip bundle is =
    grind (arith, common_steps, none-bundled, bundle-good, all-kept) steps 20000

pub tips_have_bundles : TipsHaveBundles
tips_have_bundles dig chain given coin tip is = grind (arith, common_steps, none-tipped, tip-good, all-kept) steps 20000
