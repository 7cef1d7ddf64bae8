-- What holds of each schedule that is made.
use Rattle.std.specs.Prelude.{◌≡◌, ℕ, ◌≤◌, ◌==◌, true, List, [], ◌∷◌, ◌++◌, map, reverse, Some, is_some}
use Rattle.std.specs.List.{All, slice_split}
use Rattle.schedule_text.specs.Grammar.{IsLine, line_text, line_in}
use Rattle.world_rules.specs.Steps.{run_of}
use Rattle.world_maker.specs.declared.generator.TheConstants.{MOST_ROUNDS}
use Rattle.world_maker.specs.Generator.{made_lines, made_text}

-- the text, cut at its line feeds, is the texts of these lines, with nothing after the last; 10 is the line feed
abbrev pub TextsAreOfTheirLines : Type 0
TextsAreOfTheirLines = (seed count : ℕ) → count ≤ MOST_ROUNDS
    → slice_split (λ byte. byte == 10) (made_text seed count) ≡ map line_text (made_lines seed count) ++ [] ∷ []

-- each line is in the grammar, and its text is read as that line
abbrev pub LinesAreInTheGrammar : Type 0
LinesAreInTheGrammar = (seed count : ℕ) → count ≤ MOST_ROUNDS
    → All (λ line. IsLine line × (line_in (line_text line) ≡ Some line)) (made_lines seed count)

-- the lines have a run, whatever the digest is: none of them breaks a rule of declarations
abbrev pub LinesKeepTheRules : Type 0
LinesKeepTheRules = (dig : List ℕ → List ℕ) (seed count : ℕ)
    → is_some (run_of dig (reverse (made_lines seed count))) ≡ true
