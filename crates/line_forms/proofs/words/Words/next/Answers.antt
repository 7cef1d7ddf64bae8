use Rattle.std.proofs.Common.{sym, ◌∙◌}
use Rattle.line_forms.proofs.WordLaws.{words_of-blank, words_of-last}
use Rattle.line_forms.proofs.words.Words.next.Goals as goal

pub returns-in-Some : goal.returns-in-Some
returns-in-Some c =
    let left = rw c.in_ok-rest.was at c.self.view_is in
    sym left ∙ words_of-blank c.in_ok-rest.rest.now c.in-Some.blank (sym c.in-Some.ensures)

pub returns-in-None : goal.returns-in-None
returns-in-None c =
    let left = rw c.in_ok-rest.was at c.self.view_is in
    sym left ∙ words_of-last c.in_ok-rest.rest.now (sym c.in-None.ensures)
