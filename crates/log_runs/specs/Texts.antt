-- Words with a number behind them.
use Rattle.std.specs.Prelude.{ℕ, List, [], ◌∷◌, ◌++◌}
use Rattle.line_forms.specs.Tokens.{number_text}

-- words, and a number behind them; 32 is the blank
abbrev pub with_number : List ℕ → ℕ → List ℕ
with_number words number = words ++ 32 ∷ number_text number

-- the same as a line; 10 is the line feed
abbrev pub told : List ℕ → ℕ → List ℕ
told words number = with_number words number ++ 10 ∷ []
