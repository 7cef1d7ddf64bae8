use Rattle.std.proofs.Common.{List, ℕ, ◌++◌, Bool, if◌then◌else◌, ap, ◌∙◌}
use Rattle.run_endings.specs.declared.status.Status.TheVariants.{Done, Refused}
use Rattle.safe_runs.proofs.Looking.{good-said, text-said}
use Rattle.safe_runs.proofs.look.say_all.Goals as goal

pub returns-then-branch-clause-said : goal.returns-then-branch-clause-said
returns-then-branch-clause-said g c = λ at run is ran.
    c.in_ok-say.ensures.text
    ∙ ap (λ (said : List ℕ). c.args.text.now.items ++ said)
    (text-said at run c.take-log.result.0.log c.take-log.result.1 c.account.result c.time.result c.deref.result.now
    (c.take-log.ensures.log run ran) (c.take-log.ensures.told run ran) (c.account.ensures at is) c.time.ensures
    (c.deref.ensures.value ∙ c.in_ok-cases.ensures at is))

pub returns-then-branch-clause-status : goal.returns-then-branch-clause-status
returns-then-branch-clause-status g c = λ at run is ran.
    good-said at run c.take-log.result.0.log c.take-log.result.1 c.account.result c.time.result c.deref.result.now
    (c.take-log.ensures.log run ran) (c.take-log.ensures.told run ran) (c.account.ensures at is) c.time.ensures
    (c.deref.ensures.value ∙ c.in_ok-cases.ensures at is)
    c.in_ok-say.field-0 c.in_ok-say.ensures.good
    ∙ ap (λ (good : Bool). if good then Done else Refused) c.if-branch.true

pub returns-clause-said : goal.returns-clause-said
returns-clause-said g c = λ at run is ran.
    c.in_ok-say.ensures.text
    ∙ ap (λ (said : List ℕ). c.args.text.now.items ++ said)
    (text-said at run c.take-log.result.0.log c.take-log.result.1 c.account.result c.time.result c.deref.result.now
    (c.take-log.ensures.log run ran) (c.take-log.ensures.told run ran) (c.account.ensures at is) c.time.ensures
    (c.deref.ensures.value ∙ c.in_ok-cases.ensures at is))

pub returns-clause-status : goal.returns-clause-status
returns-clause-status g c = λ at run is ran.
    good-said at run c.take-log.result.0.log c.take-log.result.1 c.account.result c.time.result c.deref.result.now
    (c.take-log.ensures.log run ran) (c.take-log.ensures.told run ran) (c.account.ensures at is) c.time.ensures
    (c.deref.ensures.value ∙ c.in_ok-cases.ensures at is)
    c.in_ok-say.field-0 c.in_ok-say.ensures.good
    ∙ ap (λ (good : Bool). if good then Done else Refused) c.if-branch.false
