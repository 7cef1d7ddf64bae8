-- The first line of an input ends at the first line feed.
use Rattle.std.proofs.Common.{◌≡◌, ℕ, ◌==◌, false, List, [], ◌∷◌, ◌++◌, suc, refl, sym, ap, ◌∙◌, arith, append_assoc}
use Rattle.std.specs.Prelude.{◌≢◌}
use Rattle.std.proofs.lemmas.Bool.{ne_eqb}
use Rattle.std.proofs.lemmas.List.Elements.{All-cons, All-nil}
use Rattle.streamed_lines.specs.Lines.{lines_in, before_lines, HasNoFeed, EndsWithItsFeed}

-- ---- bytes without a line feed

pub no-feed : (b : ℕ) (bytes : List ℕ) → b ≢ 10 → HasNoFeed bytes → HasNoFeed (b ∷ bytes)
no-feed b bytes isnt rest = All-cons (λ byte. byte ≢ 10) b bytes isnt rest

pub plain-nil : HasNoFeed []
plain-nil = All-nil (λ byte. byte ≢ 10)

first-of : (b : ℕ) (bytes : List ℕ) → HasNoFeed (b ∷ bytes) → (b == 10) ≡ false
first-of b bytes none = ne_eqb b 10 (none 0 0 (omega arith))

rest-of : (b : ℕ) (bytes : List ℕ) → HasNoFeed (b ∷ bytes) → HasNoFeed bytes
rest-of b bytes none k d below = none (suc k) d (omega arith)

-- ---- the lines of an input

-- the first line of bytes that begin with it
lines_in-ended : (text rest : List ℕ) → HasNoFeed text
    → lines_in (text ++ 10 ∷ rest) ≡ (text ++ 10 ∷ []) ∷ lines_in rest
unfolding lines_in
lines_in-ended [] rest none = refl
lines_in-ended (b ∷ text) rest none =
    rw (first-of b text none) (ap (before_lines b) (lines_in-ended text rest (rest-of b text none)))

pub lines_in-feed : (line rest : List ℕ) → EndsWithItsFeed line → lines_in (line ++ rest) ≡ line ∷ lines_in rest
lines_in-feed line rest ends =
    let cut : line ++ rest ≡ ends.0 ++ 10 ∷ rest =
    ap (λ xs. xs ++ rest) ends.1 ∙ append_assoc ends.0 (10 ∷ []) rest in
    ap lines_in cut ∙ lines_in-ended ends.0 rest ends.2 ∙ ap (λ x. x ∷ lines_in rest) (sym ends.1)

pub some-bytes : (b : ℕ) (bytes : List ℕ) → (b ∷ bytes) ≢ []
some-bytes b bytes is = absurd (cc)

-- bytes without a line feed are one line
pub lines_in-unfinished : (line : List ℕ) → line ≢ [] → HasNoFeed line → lines_in line ≡ line ∷ []
unfolding lines_in
lines_in-unfinished [] some none = absurd (some refl)
lines_in-unfinished (b ∷ []) some none = rw (first-of b [] none) refl
lines_in-unfinished (b ∷ c ∷ cs) some none =
    rw (first-of b (c ∷ cs) none)
    (ap (before_lines b) (lines_in-unfinished (c ∷ cs) (some-bytes c cs) (rest-of b (c ∷ cs) none)))
