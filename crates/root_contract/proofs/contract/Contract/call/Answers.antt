use Rattle.plasma_tx.specs.Shown.{tests_by}
use Rattle.root_contract.proofs.Called.{call-answer, call-log, call-no_memory, call-memory}
use Rattle.root_contract.proofs.contract.Contract.call.Goals as goal

pub returns-clause-answer : goal.returns-clause-answer
returns-clause-answer g c = rw (c.answer_of.ensures)
    (call-answer (tests_by (g.H.Hash32.digest_of c.args.h.now)) c.args.self.now _ c.args.call.now c.take.result
    c.take.ensures)

pub returns-clause-log : goal.returns-clause-log
returns-clause-log g c = rw (c.answer_of.ensures)
    (call-log (tests_by (g.H.Hash32.digest_of c.args.h.now)) c.args.self.now _ c.args.call.now c.take.result
    c.take.ensures)

pub returns-clause-no_memory : goal.returns-clause-no_memory
returns-clause-no_memory g c = rw (c.answer_of.ensures)
    (call-no_memory (tests_by (g.H.Hash32.digest_of c.args.h.now)) c.args.self.now _ c.args.call.now c.take.result
    c.take.ensures)

pub returns-clause-memory : goal.returns-clause-memory
returns-clause-memory g c = rw (c.answer_of.ensures)
    (call-memory (tests_by (g.H.Hash32.digest_of c.args.h.now)) c.args.self.now _ c.args.call.now c.take.result
    c.take.ensures)
