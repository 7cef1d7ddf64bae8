-- A line is words with one blank between each two.
use Rattle.std.specs.Prelude.{ℕ, ◌==◌, Bool, true, false, List, [], ◌∷◌, ◌++◌, Option, None, Some}
use Rattle.std.specs.List.{slice_split, join_with_byte}

-- the words of a line: what stands between its single blanks; 32 is the blank
abbrev pub words_of : List ℕ → List (List ℕ)
words_of line = slice_split (λ byte. byte == 32) line

-- the line of some words: one blank between each two
abbrev pub line_of_words : List (List ℕ) → List ℕ
line_of_words words = join_with_byte 32 words

-- the words that are left: those of what stands after the last blank, if a word is left
abbrev pub words_left : Option (List ℕ) → List (List ℕ)
words_left None = []
words_left (Some rest) = words_of rest

-- whether no word is left
abbrev pub is_end : List (List ℕ) → Bool
is_end [] = true
is_end (word ∷ words) = false

-- words with a blank after each
unfoldable pub trailed : List (List ℕ) → List ℕ
trailed [] = []
trailed (word ∷ words) = word ++ 32 ∷ trailed words
