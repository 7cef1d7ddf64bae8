use Rattle.line_forms.proofs.TokenLaws.{number-is, number_within-is, name-is, declared_name-is, hex-is, hex_of-is, some_bytes-is, hex_or_name-is, bytes-is, shown-is, outcome-is, optional_number-is}
use Rattle.line_forms.proofs.laws.the_kinds_are_lawful.Goals as goal

pub returns : goal.returns
returns c = record {
  number = number-is;
  number_within = number_within-is;
  name = name-is;
  declared_name = declared_name-is;
  hex = hex-is;
  hex_of = hex_of-is;
  some_bytes = some_bytes-is;
  hex_or_name = hex_or_name-is;
  bytes = bytes-is;
  shown = shown-is;
  outcome = outcome-is;
  optional_number = optional_number-is;
}
