use Rattle.root_contract.proofs.Words.{◌+◌, ◌∙◌, sym, refl, ap, Err, Committed, Commit, blocks, answer_to}
use Rattle.root_contract.proofs.Called.{no_tests, takes-stopped, takes-unheld, accepted-may, accepted, commit-changes}
use Rattle.root_contract.proofs.contract.Contract.commit.Goals as goal

pub returns-in_err-judge_commit : goal.returns-in_err-judge_commit
unfolding answer_to
returns-in_err-judge_commit c = λ tests.
    takes-stopped tests c.args.self.now (Commit c.args.account c.args.root) (Unit {0}) (λ x. Committed
    (blocks c.args.self.now.log + 1)) c.in_err-judge_commit.field-0.0
    c.from_residual.result c.from_residual.ensures.1 c.in_err-judge_commit.ensures.answer
    (λ is. absurd (c.judge_commit.ensures.never (c.in_err-judge_commit.was ∙ ap Err is)))

pub keep-requires : goal.keep-requires
unfolding answer_to
keep-requires c =
    commit-changes c.args.self.now c.args.account c.args.root
    (accepted no_tests c.args.self.now (Commit c.args.account c.args.root) (Committed
    (blocks c.args.self.now.log + 1)) c.in_ok-judge_commit.ensures.answer refl)

pub returns-in_err-keep : goal.returns-in_err-keep
unfolding answer_to
returns-in_err-keep c = λ tests.
    takes-unheld tests c.args.self.now _ (Commit c.args.account c.args.root)
    c.from_residual-in_err-keep.result c.from_residual-in_err-keep.ensures.1 c.in_err-keep.ensures.err
    (accepted-may tests c.args.self.now (Commit c.args.account c.args.root) (Committed
    (blocks c.args.self.now.log + 1)) c.in_ok-judge_commit.ensures.answer refl)

pub returns : goal.returns
unfolding answer_to
returns c = λ tests. (
  ap (λ x. Committed (x + 1)) c.block_count-block.ensures.is
      ∙ sym c.in_ok-judge_commit.ensures.answer,
  refl,
  c.in_ok-keep.ensures.ok,
)
