use Rattle.std.proofs.Common.{slice_index_or}
use Rattle.schedule_text.proofs.GrammarLaws.{line_in-line_text}
use Rattle.world_maker.specs.Generator.{made_lines}
use Rattle.world_maker.proofs.MadeLines.{made-lines}
use Rattle.world_maker.proofs.TextLines.{made-cut}
use Rattle.world_maker.proofs.laws.lines_are_in_the_grammar.Goals as goal

pub returns-clause-text : goal.returns-clause-text
returns-clause-text c = made-cut

pub returns-clause-lines : goal.returns-clause-lines
returns-clause-lines c seed count le k line lt =
    let is = made-lines seed count le k line lt in
    (is, line_in-line_text (slice_index_or (made_lines seed count) k line) is)
