-- Words are put at the end, a blank after each.
use Rattle.line_forms.proofs.Basics.{◌≡◌, ℕ, ◌+◌, ◌<◌, ◌≤◌, List, [], ◌∷◌, ◌++◌, length, map, take, get_or, refl, ap, append_assoc, arith, take-append-le, take_all, take-take, append-nil, length-take, take_more, common_steps, line_of_words, trailed, Table, Parts, these, words_of_parts, piece_words, words_of_pieces, words_then, number_text}
use Rattle.line_forms.specs.declared.pieces.Piece.{Piece}

-- what was put at the end leaves what was there
pub front_put : (old new more : List ℕ) → new ≡ old ++ more → take (length old) new ≡ old
front_put old new more h =
    rw (h, take-append-le (length old) old more (omega arith)) (take_all (length old) old (omega arith))

pub front_more : (old now new : List ℕ) → take (length old) now ≡ old → take (length now) new ≡ now
    → take (length old) new ≡ old
front_more old now new h k = grind (arith, common_steps, length-take, take-take) steps 20000

pub trailed-append : (first second : List (List ℕ)) → trailed (first ++ second) ≡ trailed first ++ trailed second
unfolding trailed
trailed-append [] second = refl
trailed-append (word ∷ first) second = grind (arith, common_steps, trailed-append first second) steps 20000

-- one word
pub trailed_one : (word : List ℕ) → trailed (word ∷ []) ≡ word ++ 32 ∷ []
unfolding trailed
trailed_one word = refl

-- no word
pub trailed_none : trailed [] ≡ []
unfolding trailed
trailed_none = refl

-- words after words
pub trailed_two : (old now new : List ℕ) (first second : List (List ℕ)) → now ≡ old ++ trailed first
    → new ≡ now ++ trailed second
    → new ≡ old ++ trailed (first ++ second)
trailed_two old now new first second h k = grind (arith, common_steps, trailed-append) steps 20000

-- the last kind's words after those before
pub trailed_last : (old now new : List ℕ) (first second : List (List ℕ)) → now ≡ old ++ trailed first
    → new ≡ now ++ trailed second
    → new ≡ old ++ trailed (first ++ (second ++ []))
trailed_last old now new first second h k = rw (append-nil second) (trailed_two old now new first second h k)

-- pieces and then other words
words_then-append : (pieces : List Piece) (last : List (List ℕ))
    → words_then pieces last ≡ words_of_pieces pieces ++ last
words_then-append [] last = refl
words_then-append (piece ∷ pieces) last = grind (arith, common_steps, words_then-append pieces last) steps 20000

pub trailed_then : (old now new : List ℕ) (pieces : List Piece) (last : List (List ℕ))
    → now ≡ old ++ trailed (words_of_pieces pieces) → new ≡ now ++ trailed last
    → new ≡ old ++ trailed (words_then pieces (last ++ []))
trailed_then old now new pieces last h k =
    rw (words_then-append pieces (last ++ [])) (trailed_last old now new (words_of_pieces pieces) last h k)

-- one piece more
words_of_pieces-append : (first second : List Piece)
    → words_of_pieces (first ++ second) ≡ words_of_pieces first ++ words_of_pieces second
words_of_pieces-append [] second = refl
words_of_pieces-append (piece ∷ first) second =
    grind (arith, common_steps, words_of_pieces-append first second) steps 20000

pub pieces-more : (old now new : List ℕ) (pieces : List Piece) (i : ℕ) (piece d : Piece) → i < length pieces
    → piece ≡ get_or pieces i d
    → now ≡ old ++ trailed (words_of_pieces (take i pieces)) → new ≡ now ++ trailed (piece_words piece)
    → new ≡ old ++ trailed (words_of_pieces (take (i + 1) pieces))
pieces-more old now new pieces i piece d lt e h k =
    grind (arith, common_steps, take_more, words_of_pieces-append, trailed_last) steps 20000

-- one number more
numbers-append : (first second : List ℕ)
    → map number_text (first ++ second) ≡ map number_text first ++ map number_text second
numbers-append [] second = refl
numbers-append (n ∷ first) second = ap (λ (rest : List (List ℕ)). number_text n ∷ rest) (numbers-append first second)

pub numbers-more : (old now new numbers : List ℕ) (i n d : ℕ) → i < length numbers → n ≡ get_or numbers i d
    → now ≡ old ++ trailed (map number_text (take i numbers)) → new ≡ now ++ (number_text n ++ 32 ∷ [])
    → new ≡ old ++ trailed (map number_text (take (i + 1) numbers))
unfolding trailed
numbers-more old now new numbers i n d lt e h k =
    grind (arith, common_steps, take_more, numbers-append, trailed_two) steps 20000

-- a line, and the blank after its last word
pub trailed-line : (word : List ℕ) (words : List (List ℕ))
    → trailed (word ∷ words) ≡ line_of_words (word ∷ words) ++ 32 ∷ []
unfolding trailed
trailed-line word [] = refl
trailed-line word (next ∷ words) = grind (arith, common_steps, trailed-line next words) steps 20000

-- the blank after the last word goes
pop_last : (front popped pushed : List ℕ) (byte n : ℕ) → pushed ≡ front ++ byte ∷ [] → n + 1 ≡ length pushed
    → popped ≡ take n pushed → popped ≡ front
pop_last front popped pushed byte n h len k = grind (arith, common_steps, take-append-le, take_all) steps 20000

pub line-done : {N B : Type 0} (table : Table N B) (p : Parts N B table) (old popped pushed : List ℕ) (n : ℕ)
    → pushed ≡ old ++ trailed (words_of_parts table p)
    → n + 1 ≡ length pushed → popped ≡ take n pushed → popped ≡ old ++ line_of_words (words_of_parts table p)
line-done table (these name values) old popped pushed n h len k =
    grind (arith, common_steps, trailed-line, pop_last) steps 20000

pub line-longer : {N B : Type 0} (table : Table N B) (p : Parts N B table) (old pushed : List ℕ)
    → pushed ≡ old ++ trailed (words_of_parts table p) → 1 ≤ length pushed
line-longer table (these name values) old pushed h = grind (arith, common_steps, trailed-line) steps 20000

pub ruleset fronts = (front_put, front_more, append_assoc)

pub ruleset words = (front_put, front_more, trailed_one, trailed_none, trailed_two, trailed_last, trailed_then)
