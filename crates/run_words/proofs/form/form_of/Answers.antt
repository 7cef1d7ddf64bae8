use Rattle.run_words.proofs.Basics.{sym, subst, IfOk-weaker, IsSound}
use Rattle.run_words.proofs.SoundLaws.{forms-sound}
use Rattle.run_words.proofs.form.form_of.Goals as goal

pub returns-in-Ok-clause-sound : goal.returns-in-Ok-clause-sound
returns-in-Ok-clause-sound c =
    IfOk-weaker c.matched_form.result _ IsSound (λ form is. subst IsSound (sym is) (forms-sound _))
    c.matched_form.ensures
