use Rattle.root_contract.proofs.Words.{sym, refl, Err, ap, ◌∙◌, Ticked, Tick, answer_to}
use Rattle.root_contract.proofs.Called.{no_tests, takes-stopped, takes-unheld, accepted-may, accepted, tick-changes}
use Rattle.root_contract.proofs.contract.Contract.tick.Goals as goal

pub returns-in_err-judge_tick : goal.returns-in_err-judge_tick
unfolding answer_to
returns-in_err-judge_tick c = λ tests.
    takes-stopped tests c.args.self.now (Tick c.args.now) (Unit {0}) (λ _. Ticked) c.in_err-judge_tick.field-0.0
    c.from_residual.result c.from_residual.ensures.1 c.in_err-judge_tick.ensures.answer
    (λ is. absurd (c.judge_tick.ensures.never (c.in_err-judge_tick.was ∙ ap Err is)))

pub keep-requires : goal.keep-requires
unfolding answer_to
keep-requires c = tick-changes c.args.self.now c.args.now
    (accepted no_tests c.args.self.now (Tick c.args.now) Ticked c.in_ok-judge_tick.ensures.answer refl)

pub returns-in_err-keep : goal.returns-in_err-keep
unfolding answer_to
returns-in_err-keep c = λ tests.
    takes-unheld tests c.args.self.now _ (Tick c.args.now)
    c.from_residual-in_err-keep.result c.from_residual-in_err-keep.ensures.1 c.in_err-keep.ensures.err
    (accepted-may tests c.args.self.now (Tick c.args.now) Ticked c.in_ok-judge_tick.ensures.answer refl)

pub returns : goal.returns
unfolding answer_to
returns c = λ tests. (sym c.in_ok-judge_tick.ensures.answer, refl, c.in_ok-keep.ensures.ok)
