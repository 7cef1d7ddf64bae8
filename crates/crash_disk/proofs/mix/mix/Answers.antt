use Rattle.crash_disk.proofs.Words.{◌≡◌, ◌+◌, ◌%◌, ℕ, Bool, true, false, refl, cond, List, [], ◌∷◌, ◌++◌, length, take, slice_index, sym, ◌∙◌, ap, arith, map-range_with_len_more, map-id, sum_by-append, bool_byte, range_with_len, count_by, is_touched, mix_byte}
use Rattle.crash_disk.proofs.Images.{none_below, mix-front}
use Rattle.crash_disk.proofs.mix.mix.Goals as goal

range_more : (n : ℕ) → range_with_len 0 (n + 1) ≡ range_with_len 0 n ++ n ∷ []
range_more n = sym (map-id (range_with_len 0 (n + 1))) ∙ map-range_with_len_more (λ x. x) 0 n n (omega arith)
    ∙ ap (λ (l : List ℕ). l ++ n ∷ []) (map-id (range_with_len 0 n))

count_more : (p : ℕ → Bool) (n : ℕ)
    → count_by p (range_with_len 0 (n + 1)) ≡ count_by p (range_with_len 0 n) + cond (p n) 1 0
count_more p n = ap (λ (l : List ℕ). count_by p l) (range_more n)
    ∙ sum_by-append (λ x. cond (p x) 1 0) (range_with_len 0 n) (n ∷ []) ∙ omega arith

byte_of : (b : Bool) → bool_byte b ≡ cond b 1 0
byte_of true = refl
byte_of false = refl

pub loop-place-preserved : goal.loop-place-preserved
loop-place-preserved c =
    let bytes = c.args.bytes.now in
    let ranges = c.args.ranges.now in
    let pattern = c.args.pattern.now in
    let n = c.loop-place.place in
    let f = mix_byte bytes ranges pattern in
    let touched = c.is_touched-touched.ensures in
    let byte : c.next_byte.result ≡ f n =
    c.next_byte.ensures
    ∙ (λ i. cond (touched i) (slice_index pattern (c.loop-place.invariant.turns i % length pattern))
    (slice_index bytes n)) in
    record {
      made = c.in_ok-push.ensures.items ∙ (λ i. c.loop-place.invariant.made i ++ byte i ∷ [])
          ∙ sym (map-range_with_len_more f 0 n n (omega arith));
      turns = omega (
        arith,
        c.loop-place.invariant.turns,
        count_more (is_touched bytes ranges) n,
        c.from-turn.ensures
            ∙ byte_of c.is_touched-touched.result ∙ ap (λ (b : Bool). cond b 1 0) touched,
      );
    }

pub loop-place-init : goal.loop-place-init
loop-place-init c =
    let bytes = c.args.bytes.now in
    let ranges = c.args.ranges.now in
    let first = c.first_touched-first in
    record {
      made =
          c.in_ok-extend_from_slice.ensures.items
          ∙ ap (λ (l : List ℕ). l ++ take first.result bytes) c.in_ok-image.ensures.items
          ∙ mix-front bytes ranges c.args.pattern.now first.result first.ensures.within first.ensures.none;
      turns = sym (none_below (is_touched bytes ranges) 0 first.result
          (λ place from lt. first.ensures.none place (omega (arith, lt))));
    }
