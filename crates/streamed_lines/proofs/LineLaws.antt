-- The first line of an input ends at the first line feed, and the limits of a line whose end wasn't seen.
use Rattle.std.proofs.Common.{◌≡◌, ℕ, zero, suc, inl, inr, ◌+◌, ◌-◌, ◌<◌, ◌≤◌, ◌==◌, ◌||◌, true, false, min, nat_lt, if◌then◌else◌, List, [], ◌∷◌, ◌++◌, length, take, Some, None, position, refl, sym, ap, ◌∙◌, subst, arith, append_assoc}
use Rattle.std.specs.Prelude.{◌≢◌, slice_index, get_or}
use Rattle.std.specs.List.{position_or_len}
use Rattle.std.proofs.lemmas.Bool.{true≢false, eqb-true, ne_eqb, cases_lt, lt-ltb}
use Rattle.std.proofs.lemmas.List.{length-append, length-take}
use Rattle.std.proofs.lemmas.List.Elements.{All-cons, All-nil, All-append, All-from_get_or}
use Rattle.std.proofs.lemmas.List.Quantifiers.{position-Some}
use Rattle.std.proofs.lemmas.List.Sums.{fails_before_first}
use Rattle.streamed_lines.specs.declared.TheConstants.{MOST_LINES, MOST_LINE_BYTES, MOST_INPUT_BYTES}
use Rattle.streamed_lines.specs.Lines.{lines_in, is_feed, is_whole, text_of, is_too_long, before_lines, HasNoFeed, EndsWithItsFeed}
use Rattle.streamed_lines.specs.Reading.{IsKept}

-- ---- bytes without a line feed

other : (b : ℕ) → (b == 10) ≡ false → b ≢ 10
other b isnt is = true≢false (sym (ap (λ x. x == 10) is) ∙ isnt)

pub no-feed : (b : ℕ) (bytes : List ℕ) → b ≢ 10 → HasNoFeed bytes → HasNoFeed (b ∷ bytes)
no-feed b bytes isnt rest = All-cons (λ byte. byte ≢ 10) b bytes isnt rest

pub plain-nil : HasNoFeed []
plain-nil = All-nil (λ byte. byte ≢ 10)

pub first-of : (b : ℕ) (bytes : List ℕ) → HasNoFeed (b ∷ bytes) → (b == 10) ≡ false
first-of b bytes none = ne_eqb b 10 (none 0 0 (omega arith))

pub rest-of : (b : ℕ) (bytes : List ℕ) → HasNoFeed (b ∷ bytes) → HasNoFeed bytes
rest-of b bytes none k d below = none (suc k) d (omega arith)

pub plain-append : (xs ys : List ℕ) → HasNoFeed xs → HasNoFeed ys → HasNoFeed (xs ++ ys)
plain-append xs ys first second = All-append (λ byte. byte ≢ 10) xs ys first second

position-none : (xs : List ℕ) → position is_feed xs ≡ None → length xs ≤ position_or_len is_feed xs
position-none xs found =
    elim (cases_lt (position_or_len is_feed xs) (length xs)) [
      | inl below ↦ absurd (some_none (position_or_len is_feed xs)
          (simp (lt-ltb (position_or_len is_feed xs) (length xs) below) at found))
      | inr above ↦ above
    ]
  where
    some_none : (x : ℕ) → Some x ≡ None → ⊥
    some_none x e = cc

pub plain-none : (bytes : List ℕ) → position is_feed bytes ≡ None → HasNoFeed bytes
plain-none bytes found =
    let long = position-none bytes found in
    All-from_get_or (λ byte. byte ≢ 10) bytes 0
    (λ k low. other (get_or bytes k 0) (fails_before_first is_feed bytes k 0 (omega arith)))

-- ---- a line up to its line feed

feed-at : (bytes : List ℕ) (i : ℕ) → i < length bytes → is_feed (get_or bytes i 0) ≡ true
    → ((k : ℕ) → k < i → is_feed (get_or bytes k 0) ≡ false) → EndsWithItsFeed (take (suc i) bytes)
feed-at [] i low is before = absurd (omega arith)
feed-at (b ∷ bs) zero low is before = ([], ap (λ x. x ∷ []) (eqb-true b 10 is), plain-nil)
feed-at (b ∷ bs) (suc i) low is before =
    let rest = feed-at bs i (omega arith) is (λ k l. before (suc k) (omega arith)) in
    (b ∷ rest.0, ap (λ xs. b ∷ xs) rest.1, no-feed b rest.0 (other b (before 0 (omega arith))) rest.2)

pub feed-some : (bytes : List ℕ) (i : ℕ) → position is_feed bytes ≡ Some i → EndsWithItsFeed (take (i + 1) bytes)
feed-some bytes i found =
    let at = position-Some is_feed bytes i 0 found in
    let next : suc i ≡ i + 1 = omega arith in
    subst (λ n. EndsWithItsFeed (take n bytes)) next (feed-at bytes i at.0 at.1 at.2)

pub feed-append : (line rest : List ℕ) → HasNoFeed line → EndsWithItsFeed rest → EndsWithItsFeed (line ++ rest)
feed-append line rest plain ends = (
  line ++ ends.0,
  ap (λ xs. line ++ xs) ends.1 ∙ sym (append_assoc line ends.0 (10 ∷ [])),
  plain-append line ends.0 plain ends.2,
)

whole-last : (text : List ℕ) → is_whole (text ++ 10 ∷ []) ≡ true
whole-last [] = refl
whole-last (b ∷ text) =
    let long : length (b ∷ (text ++ 10 ∷ [])) - 1 ≡ length (text ++ 10 ∷ []) = omega arith in
    ap (λ n. is_feed (slice_index (b ∷ (text ++ 10 ∷ [])) n)) long ∙ last b text
  where
    last : (b : ℕ) (text : List ℕ) → is_feed (slice_index (b ∷ (text ++ 10 ∷ [])) (length (text ++ 10 ∷ []))) ≡ true
    last b [] = refl
    last b (c ∷ text) = last c text

pub whole-feed : (line : List ℕ) → EndsWithItsFeed line → is_whole line ≡ true
whole-feed line ends = ap is_whole ends.1 ∙ whole-last ends.0

pub plain-open : (line : List ℕ) → HasNoFeed line → is_whole line ≡ false
plain-open [] plain = refl
plain-open (b ∷ line) plain =
    ne_eqb (slice_index (b ∷ line) (length (b ∷ line) - 1)) 10 (plain (length (b ∷ line) - 1) 0 (omega arith))

-- the text of a line of which something was kept isn't empty
pub text-kept : (line own : List ℕ) → HasNoFeed line → EndsWithItsFeed own → line ≢ [] → text_of (line ++ own) ≢ []
text-kept line own plain ends some none =
    let all = line ++ own in
    let text : text_of all ≡ take (length all - 1) all =
    ap (λ t. if t then take (length all - 1) all else all) (whole-feed all (feed-append line own plain ends)) in
    let short : length (take (length all - 1) all) ≡ 0 = ap length (sym text ∙ none) in
    some (none-long line
    (omega (
      arith,
      short,
      length-take (length all - 1) all,
      length-append line own,
      ap length ends.1,
      length-append ends.0 (10 ∷ []),
    )))
  where
    none-long : (xs : List ℕ) → length xs ≡ 0 → xs ≡ []
    none-long [] is = refl
    none-long (x ∷ xs) is = absurd (omega arith)

-- ---- the lines of an input

-- the first line of bytes that begin with it
lines_in-ended : (text rest : List ℕ) → HasNoFeed text
    → lines_in (text ++ 10 ∷ rest) ≡ (text ++ 10 ∷ []) ∷ lines_in rest
unfolding lines_in
lines_in-ended [] rest none = refl
lines_in-ended (b ∷ text) rest none =
    rw (first-of b text none) (ap (before_lines b) (lines_in-ended text rest (rest-of b text none)))

pub lines_in-feed : (line rest : List ℕ) → EndsWithItsFeed line → lines_in (line ++ rest) ≡ line ∷ lines_in rest
lines_in-feed line rest ends =
    let cut : line ++ rest ≡ ends.0 ++ 10 ∷ rest =
    ap (λ xs. xs ++ rest) ends.1 ∙ append_assoc ends.0 (10 ∷ []) rest in
    ap lines_in cut ∙ lines_in-ended ends.0 rest ends.2 ∙ ap (λ x. x ∷ lines_in rest) (sym ends.1)

pub some-bytes : (b : ℕ) (bytes : List ℕ) → (b ∷ bytes) ≢ []
some-bytes b bytes is = absurd (cc)

-- bytes without a line feed are one line
pub lines_in-unfinished : (line : List ℕ) → line ≢ [] → HasNoFeed line → lines_in line ≡ line ∷ []
unfolding lines_in
lines_in-unfinished [] some none = absurd (some refl)
lines_in-unfinished (b ∷ []) some none = rw (first-of b [] none) refl
lines_in-unfinished (b ∷ c ∷ cs) some none =
    rw (first-of b (c ∷ cs) none)
    (ap (before_lines b) (lines_in-unfinished (c ∷ cs) (some-bytes c cs) (rest-of b (c ∷ cs) none)))

-- ---- limits

-- what is kept of a line, if anything, passes no limit
pub kept-fits : (n start : ℕ) (line : List ℕ) → IsKept n start line → line ≢ [] → is_too_long n start line ≡ false
kept-fits n start [] kept some = absurd (some refl)
kept-fits n start (b ∷ bs) kept some =
    let text : length (text_of (b ∷ bs)) ≡ length (b ∷ bs) =
    ap (λ t. length (if t then take (length (b ∷ bs) - 1) (b ∷ bs) else (b ∷ bs))) (plain-open (b ∷ bs) kept.plain) in
    (elim (nat_lt MOST_LINES n) as (λ t. start + length (b ∷ bs)
    ≤ (if t then start else min (start + MOST_LINE_BYTES) MOST_INPUT_BYTES)
    → (t || nat_lt MOST_LINE_BYTES (length (text_of (b ∷ bs)))
    || nat_lt MOST_INPUT_BYTES (start + length (b ∷ bs))) ≡ false) [
      | true ↦ λ over. absurd (omega arith)
      | false ↦ λ within. both (length (text_of (b ∷ bs))) (length (b ∷ bs)) text within
    ]) kept.fits
  where
    both : (t l : ℕ) → t ≡ l → start + l ≤ min (start + MOST_LINE_BYTES) MOST_INPUT_BYTES
        → (nat_lt MOST_LINE_BYTES t || nat_lt MOST_INPUT_BYTES (start + l)) ≡ false
    both t l is within = grind arith
