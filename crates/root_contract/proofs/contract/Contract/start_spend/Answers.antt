use Rattle.root_contract.proofs.Words.{◌+◌, ◌∙◌, sym, refl, ap, Started, StartSpend, now, EXIT_PERIOD, tests_by, answer_to, Owners}
use Rattle.root_contract.proofs.Called.{takes-stopped, takes-unheld, accepted, start_spend-changes}
use Rattle.root_contract.proofs.contract.Contract.start_spend.Goals as goal

pub returns-in_err-owners : goal.returns-in_err-owners
unfolding answer_to
returns-in_err-owners g c =
    takes-stopped (tests_by (g.H.Hash32.digest_of c.args.h.now)) c.args.self.now
    (StartSpend c.args.account c.args.coin c.args.parent.now c.args.exit.now) Owners
    (λ x. Started (now c.args.self.now.log + EXIT_PERIOD)) c.in_err-owners.field-0.0 c.from_residual.result
    c.from_residual.ensures.1 c.in_err-owners.ensures.answer (λ is. refl)

pub start-requires-clause-changes : goal.start-requires-clause-changes
unfolding answer_to
start-requires-clause-changes g c =
    rw (c.in_ok-copy.ensures, c.in_ok-copy-2.ensures)
    (start_spend-changes c.args.self.now c.args.account c.args.coin c.args.parent.now c.args.exit.now
    c.in_ok-owners.owners.exit c.in_ok-owners.owners.parent c.block.result c.new_slot-slot.result
    (accepted (tests_by (g.H.Hash32.digest_of c.args.h.now)) c.args.self.now
    (StartSpend c.args.account c.args.coin c.args.parent.now c.args.exit.now)
    (Started (now c.args.self.now.log + EXIT_PERIOD)) c.in_ok-owners.ensures.answer refl)
    c.in_ok-owners.ensures.exit c.in_ok-owners.ensures.parent c.in_ok-owners.ensures.account c.block.ensures
    c.new_slot-slot.ensures)

pub returns-in_err-copy : goal.returns-in_err-copy
unfolding answer_to
returns-in_err-copy g c =
    takes-unheld (tests_by (g.H.Hash32.digest_of c.args.h.now)) c.args.self.now _
    (StartSpend c.args.account c.args.coin c.args.parent.now c.args.exit.now)
    c.from_residual-in_err-copy.result c.from_residual-in_err-copy.ensures.1 refl refl

pub returns-in_err-copy-2 : goal.returns-in_err-copy-2
unfolding answer_to
returns-in_err-copy-2 g c =
    takes-unheld (tests_by (g.H.Hash32.digest_of c.args.h.now)) c.args.self.now _
    (StartSpend c.args.account c.args.coin c.args.parent.now c.args.exit.now)
    c.from_residual-in_err-copy-2.result c.from_residual-in_err-copy-2.ensures.1 refl refl

pub returns-in_err-start : goal.returns-in_err-start
unfolding answer_to
returns-in_err-start g c =
    takes-unheld (tests_by (g.H.Hash32.digest_of c.args.h.now)) c.args.self.now _
    (StartSpend c.args.account c.args.coin c.args.parent.now c.args.exit.now)
    c.from_residual-in_err-start.result c.from_residual-in_err-start.ensures.1 c.in_err-start.ensures.err refl

pub returns : goal.returns
unfolding answer_to
returns g c = (
  ap (λ x. Started (x + EXIT_PERIOD)) c.clock-opens.ensures.is ∙ sym c.in_ok-owners.ensures.answer,
  refl,
  rw (c.in_ok-copy.ensures, c.in_ok-copy-2.ensures) at c.in_ok-start.ensures.ok,
)
