-- The command that words are handed to once they are known to be a form, and what its matches hold.
use Rattle.std.specs.Prelude.{true, List, [], ◌∷◌, map, fold, codes, Option, Some, None, unwrap_or}
use Rattle.clap.specs.Words.{App, Row, Rule, Shape, Text, all_of, new_app, new_rule, with_rule, with_subcommand}
use Rattle.run_words.specs.declared.parsing.TheConstants.{NAMES}

-- the positional of a subcommand: it takes the words that remain, as many as there are
abbrev pub rest_rule : Rule
rest_rule = record (new_rule (codes "rest")) {
  range = Some (record { start_inclusive = 0; end_inclusive = 18446744073709551615 });
  trailing_var_arg = true;
}

-- the subcommand of a name
abbrev pub subcommand_shape : Text → Shape
subcommand_shape name = (with_rule (new_app name) rest_rule).top

-- the command without a subcommand: it has no help, since no word of a form asks for it
abbrev pub bare_command : App
bare_command = record {
  top = record (new_app (codes "plasma")).top {
    no_binary_name = true;
    disable_help_flag = true;
    disable_help_subcommand = true;
  };
  subs = [];
}

-- the command with a subcommand for each of these names
abbrev pub command_with : List Text → App
command_with names = fold (λ app name. with_subcommand app (subcommand_shape name)) bare_command names

-- the command of a run
abbrev pub run_command : App
run_command = command_with (map (λ name. name.now) NAMES)

-- the words that matches hold: the name of the subcommand, and those that its positional took
abbrev pub matched_words : Option (Text × List Row) → List Text
matched_words None = []
matched_words (Some found) = found.0 ∷ unwrap_or (all_of (codes "rest") found.1) []
