-- What lines are printed from.
use Rattle.std.specs.Prelude.{ℕ, List, [], ◌∷◌, ◌++◌, map}
use Rattle.plasma_base.specs.HexText.{hex_text}
use Rattle.line_forms.specs.declared.pieces.Piece.{Piece}
use Rattle.line_forms.specs.Tokens.{number_text, outcome, optional_number}

-- the words that a piece is printed as; 35 is `#`
abbrev pub piece_words : Piece → List (List ℕ)
piece_words (Piece.Name word) = word.now ∷ []
piece_words (Piece.Number count) = number_text count ∷ []
piece_words (Piece.Numbers counts) = map number_text counts.now
piece_words (Piece.Hex bytes) = hex_text bytes.now ∷ []
piece_words (Piece.Item line) = (35 ∷ number_text line) ∷ []
piece_words (Piece.Outcome value) = outcome.words value.now
piece_words (Piece.OptionalNumber value) = optional_number.words value

-- the words of pieces
abbrev pub words_of_pieces : List Piece → List (List ℕ)
words_of_pieces [] = []
words_of_pieces (piece ∷ pieces) = piece_words piece ++ words_of_pieces pieces

-- the words of pieces, and then others
abbrev pub words_then : List Piece → List (List ℕ) → List (List ℕ)
words_then [] last = last
words_then (piece ∷ pieces) last = piece_words piece ++ words_then pieces last
