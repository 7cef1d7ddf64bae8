use Rattle.std.proofs.Common.{true, sym, ◌∙◌, ap, length}
use Rattle.line_forms.specs.declared.tokens.TheConstants.{OWNER_BYTES}
use Rattle.line_forms.proofs.TokenLaws.{hex_of-is}
use Rattle.node_lines.proofs.owner_word.take_owner.Goals as goal

pub copy_from_slice-requires : goal.copy_from_slice-requires
copy_from_slice-requires c =
    let long = ((hex_of-is OWNER_BYTES true).spelled _ _ c.in_ok-bytes.bytes tt c.in_ok-bytes.ensures.found).1.1 in
    sym (ap length c.as_slice.ensures ∙ long)
