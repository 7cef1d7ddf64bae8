use Rattle.crash_disk.proofs.Words.{◌≡◌, ◌<◌, ◌||◌, ◌&&◌, ℕ, ◌+◌, Bool, false, leb, ltb, length, get_or, arith, ap, ◌∙◌, list_any, nat_tests, list_any_none, is_within}
use Rattle.std.proofs.lemmas.List.Elements.{All-from_get_or}
use Rattle.crash_disk.proofs.mix.first_touched.Goals as goal

outside : (place start count : ℕ) → place < start → (leb start place && ltb place (start + count)) ≡ false
outside place start count lt = grind (arith, nat_tests)

untouched : (len place : ℕ) → place < len → leb len place ≡ false
untouched len place lt = grind (arith, nat_tests)

pub returns-clause-none : goal.returns-clause-none
returns-clause-none c = λ place lt.
    let ranges = c.args.ranges.now in
    let none = list_any_none (is_within place) ranges
    (All-from_get_or (λ range. is_within place range ≡ false) ranges (0, 0) (λ k within.
    let range = get_or ranges k (0, 0) in
    outside place range.0 range.1
    (omega (arith, lt, c.loop-range.invariant.below k (omega (arith, within, c.loop-range-test.false)))))) in
    ap (λ (b : Bool). b || list_any (is_within place) ranges)
    (untouched (length c.args.bytes.now) place (omega (arith, lt, c.loop-range.invariant.within))) ∙ none
