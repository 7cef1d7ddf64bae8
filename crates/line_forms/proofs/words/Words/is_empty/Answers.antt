use Rattle.line_forms.proofs.Basics.{◌≡◌, false, refl, is_end}
use Rattle.line_forms.proofs.WordLaws.{is_end-words_of}
use Rattle.line_forms.proofs.words.Words.is_empty.Goals as goal

pub returns-in-Some : goal.returns-in-Some
returns-in-Some c =
    let left = rw c.in-Some.is at c.self.view_is in
    let e : is_end c.args.self.now ≡ false = rw (← left) (is_end-words_of c.in-Some.field-0.now) in
    rw e refl
