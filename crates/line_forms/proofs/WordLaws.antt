-- Words and lines, both ways.
use Rattle.line_forms.proofs.Basics.{◌≡◌, ℕ, ◌+◌, ◌-◌, ◌≤◌, ◌==◌, Bool, true, false, ltb, cond, List, [], ◌∷◌, length, take, drop, Some, None, refl, arith, All, AllByRecursion, onto_first, position, position_or_len, and_parts, ltb-true, ltb-false, not-true, cond_some, take_all, length-drop, common_steps, words_of, line_of_words, is_end, is_unbroken}
use Rattle.std.proofs.lemmas.List.Elements.{All-nil}
use Rattle.std.proofs.lemmas.List.Sums.{prefix_len_passes}
use Rattle.std.proofs.lemmas.List.Splits.{slice_split_at, slice_split_first, slice_split_none, join_with_byte-slice_split}

-- what is left after a place, as code slices it
rest_is : (text : List ℕ) (i : ℕ) → take (length text - i) (drop i text) ≡ drop i text
rest_is text i = take_all _ (drop i text) (omega (arith, length-drop i text))

-- a word before a blank
pub words_of-blank : (text : List ℕ) (i : ℕ) → position (λ byte. byte == 32) text ≡ Some i
    → words_of text ≡ take i text ∷ words_of (take (length text - (i + 1)) (drop (i + 1) text))
words_of-blank text i h = grind (arith, common_steps, cond_some, ltb-true, rest_is, slice_split_first) steps 20000

-- a test that failed
cond_none : {A : Type 0} (b : Bool) (x : A) → cond b (Some x) None ≡ None → b ≡ false
cond_none b x h = grind (arith, common_steps) steps 20000

-- the last word
pub words_of-last : (text : List ℕ) → position (λ byte. byte == 32) text ≡ None → words_of text ≡ text ∷ []
words_of-last text h =
    let p = cond_none (ltb (position_or_len (λ byte. byte == 32) text) (length text)) _ h in
    let past : length text ≤ position_or_len (λ byte. byte == 32) text = ltb-false _ _ p in
    grind (arith, common_steps, slice_split_none, not-true, prefix_len_passes) steps 20000

is_end-onto : (byte : ℕ) (words : List (List ℕ)) → is_end (onto_first byte words) ≡ false
is_end-onto byte words = grind (arith, common_steps) steps 20000

-- a line has a word
pub is_end-words_of : (text : List ℕ) → is_end (words_of text) ≡ false
is_end-words_of [] = refl
is_end-words_of (byte ∷ text) = grind (arith, common_steps, is_end-onto) steps 20000

-- no blank stands in a word
abbrev pub HasNoBlank : List ℕ → Type 0
HasNoBlank word = All (λ byte. (byte == 32) ≡ false) word

-- the words of a line that was made of words
pub words_of-line : (word : List ℕ) (words : List (List ℕ)) → AllByRecursion HasNoBlank (word ∷ words)
    → words_of (line_of_words (word ∷ words)) ≡ word ∷ words
words_of-line word [] h = slice_split_none (λ byte. byte == 32) word h.0
words_of-line word (next ∷ words) h =
    grind (arith, common_steps, words_of-line next words h.1, slice_split_at) steps 20000

-- the line of its words
pub line-words_of : (line : List ℕ) → line_of_words (words_of line) ≡ line
line-words_of line = join_with_byte-slice_split 32 line

pub HasNoBlank-from_test : (word : List ℕ) → is_unbroken word ≡ true → HasNoBlank word
HasNoBlank-from_test [] h = All-nil (λ byte. (byte == 32) ≡ false)
HasNoBlank-from_test (byte ∷ word) h = grind (arith, common_steps, and_parts, not-true) steps 20000
