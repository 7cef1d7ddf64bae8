use Rattle.std.proofs.Common.{true, lit<}
use Rattle.line_forms.proofs.TokenLaws.{hex_of-is}
use Rattle.root_log.specs.declared.first_line.TheConstants.{TAG_BYTES}
use Rattle.root_log.proofs.first_line.first_of.Goals as goal

pub array_of-requires : goal.array_of-requires
array_of-requires c =
    (lit< tt, ((hex_of-is TAG_BYTES true).spelled _ _ c.in_ok-tag.tag tt c.in_ok-tag.ensures.found).1.1)
