-- The first word of a line is one of a line's own, or of a command.
use Rattle.std.proofs.Common.{◌≡◌, ℕ, List, map, Option, option_map, ◌∙◌, ap, Some, None}
use Rattle.std.specs.Map.{lookup}
use Rattle.std.specs.Str.{bytes_eq}
use Rattle.line_forms.proofs.NameLaws.{lookup-after, lookup-before, lookup-mapped}
use Rattle.schedule_text.specs.declared.names.LineName.{LineName}
use Rattle.schedule_text.specs.declared.names.TheConstants.{LINE_NAMES}
use Rattle.schedule_text.specs.declared.command_names.CommandName.{CommandName}
use Rattle.schedule_text.specs.Grammar.{line_names, commands}

pub own-line_name : (word : List ℕ) (found : LineName)
    → lookup (bytes_eq word) (map (λ row. (row.0.now, row.1)) LINE_NAMES) ≡ Some found
    → lookup (bytes_eq word) line_names ≡ Some found
own-line_name word found h =
    lookup-before (bytes_eq word) (map (λ row. (row.0.now, row.1)) LINE_NAMES)
    (map (λ (row : List ℕ × CommandName). (row.0, LineName.Command row.1)) commands.names) found h

pub command-line_name : (word : List ℕ) (found : Option CommandName)
    → lookup (bytes_eq word) (map (λ row. (row.0.now, row.1)) LINE_NAMES) ≡ None
    → lookup (bytes_eq word) commands.names ≡ found
    → lookup (bytes_eq word) line_names ≡ option_map LineName.Command found
command-line_name word found own h =
    lookup-after (bytes_eq word) (map (λ row. (row.0.now, row.1)) LINE_NAMES)
    (map (λ (row : List ℕ × CommandName). (row.0, LineName.Command row.1)) commands.names) own
    ∙ lookup-mapped (bytes_eq word) LineName.Command commands.names
    ∙ ap (option_map LineName.Command) h
