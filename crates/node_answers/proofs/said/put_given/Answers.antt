use Rattle.std.proofs.Common.{refl, ◌∙◌}
use Rattle.node_answers.specs.Answers.{given_text}
use Rattle.node_answers.proofs.Sayings.{no-refusal}
use Rattle.node_answers.proofs.said.put_given.Goals as goal

pub returns-clause-said : goal.returns-clause-said
returns-clause-said c =
    λ gives is.
    let pushed =
    c.in_ok-push_given-in_default.ensures gives is.reply (c.as_slice.ensures ∙ is.made)
    (c.deref.ensures.value ∙ is.offers) in (
      given_text gives,
      no-refusal gives.reply (given_text gives)
          (λ cause refused. c.in_default.not-Refused cause (is.reply ∙ refused)),
      rw (
        c.in_ok-extend_from_slice-in_default.ensures.items,
        c.deref-in_default.ensures.value,
        pushed,
        c.new-out.ensures.items,
      ) refl,
    )
