-- The lines of an input, and its limits.
use Rattle.std.specs.Prelude.{◌≡◌, ◌≢◌, ℕ, ◌+◌, ◌-◌, ◌==◌, ◌||◌, Bool, if◌then◌else◌, nat_lt, min, List, [], ◌∷◌, ◌++◌, length, take, slice_index}
use Rattle.std.specs.List.{All}
use Rattle.streamed_lines.specs.declared.TheConstants.{MOST_LINES, MOST_LINE_BYTES, MOST_INPUT_BYTES}

-- the byte before the first of these lines
abbrev pub before_lines : ℕ → List (List ℕ) → List (List ℕ)
before_lines byte [] = (byte ∷ []) ∷ []
before_lines byte (line ∷ lines) = (byte ∷ line) ∷ lines

-- the line feed
abbrev pub is_feed : ℕ → Bool
is_feed byte = byte == 10

-- the lines of an input, each with the line feed that ends it; the last may have none
unfoldable pub lines_in : List ℕ → List (List ℕ)
lines_in [] = []
lines_in (byte ∷ bytes) = if is_feed byte then (byte ∷ []) ∷ lines_in bytes else before_lines byte (lines_in bytes)

-- a line feed ends the line
abbrev pub is_whole : List ℕ → Bool
is_whole line = is_feed (slice_index line (length line - 1))

-- the line without its line feed
abbrev pub text_of : List ℕ → List ℕ
text_of line = if is_whole line then take (length line - 1) line else line

-- line n, which begins after so many bytes, passes a limit: there are too many lines, it is too long, or it reaches
-- past the bytes that an input may have
abbrev pub is_too_long : ℕ → ℕ → List ℕ → Bool
is_too_long n start line =
    nat_lt MOST_LINES n
    || nat_lt MOST_LINE_BYTES (length (text_of line))
    || nat_lt MOST_INPUT_BYTES (start + length line)

-- how many bytes there may be up to the end of line n, which begins after so many: none of it where there may be no
-- such line
abbrev pub limit_of : ℕ → ℕ → ℕ
limit_of n start = if nat_lt MOST_LINES n then start else min (start + MOST_LINE_BYTES) MOST_INPUT_BYTES

-- bytes without a line feed
abbrev pub HasNoFeed : List ℕ → Type 0
HasNoFeed bytes = All (λ byte. byte ≢ 10) bytes

-- a line that ends with its only line feed
abbrev pub EndsWithItsFeed : List ℕ → Type 0
EndsWithItsFeed line = (text : List ℕ) × (line ≡ text ++ 10 ∷ []) × HasNoFeed text
