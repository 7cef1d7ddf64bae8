use Rattle.std.proofs.Common.{None, Ok, Err, refl, sym, ◌∙◌}
use Rattle.receipt_audit.specs.Desk.{issue_effect, issue_stop}
use Rattle.node_sessions.specs.declared.said.Said.TheVariants.{Refused}
use Rattle.node_answers.proofs.DeskDeeds.{issue-did, promised, quiet, ran-out, ran-out-of}
use Rattle.node_answers.proofs.keyed.answer_receipt.Goals as goal

pub returns-in_err-words_of-in-Ok-clause-did : goal.returns-in_err-words_of-in-Ok-clause-did
returns-in_err-words_of-in-Ok-clause-did g c =
    issue-did g.D.Disk.told g.D.Disk.plan g.D.Disk.faults None
    (issue_effect (g.H.Hash32.digest_of c.args.keyed.now.hash) (g.H.Hash32.digest_of c.args.keyed.now.node.hash)
    c.args.keyed.now.key c.args.keyed.now.node.notes.records c.args.keyed.now.desk.notes.records c.args.log.now.log
    c.args.transfer.now c.args.due)
    c.args.keyed.now.node.notes c.args.keyed.now.desk.notes c.issue-issued.new.op.notes
    c.issue-issued.new.self.notes c.from_residual.result
    (quiet (g.H.Hash32.digest_of c.args.keyed.now.hash) (g.H.Hash32.digest_of c.args.keyed.now.node.hash)
    c.args.keyed.now.key c.args.keyed.now.node.notes.records c.args.keyed.now.desk.notes.records c.args.log.now.log
    c.args.transfer.now c.args.due)
    c.requires.open c.in-Ok.ensures.did (ran-out c.from_residual.result c.from_residual.ensures.1)

pub returns-in_err-put_words-in-Ok-clause-did : goal.returns-in_err-put_words-in-Ok-clause-did
returns-in_err-put_words-in-Ok-clause-did g c =
    issue-did g.D.Disk.told g.D.Disk.plan g.D.Disk.faults None
    (issue_effect (g.H.Hash32.digest_of c.args.keyed.now.hash) (g.H.Hash32.digest_of c.args.keyed.now.node.hash)
    c.args.keyed.now.key c.args.keyed.now.node.notes.records c.args.keyed.now.desk.notes.records c.args.log.now.log
    c.args.transfer.now c.args.due)
    c.args.keyed.now.node.notes c.args.keyed.now.desk.notes c.issue-issued.new.op.notes
    c.issue-issued.new.self.notes c.from_residual-in_err-put_words-in-Ok.result
    (quiet (g.H.Hash32.digest_of c.args.keyed.now.hash) (g.H.Hash32.digest_of c.args.keyed.now.node.hash)
    c.args.keyed.now.key c.args.keyed.now.node.notes.records c.args.keyed.now.desk.notes.records c.args.log.now.log
    c.args.transfer.now c.args.due)
    c.requires.open c.in-Ok.ensures.did
    (ran-out c.from_residual-in_err-put_words-in-Ok.result c.from_residual-in_err-put_words-in-Ok.ensures.1)

pub returns-in_err-issue_cause-in-None-clause-did : goal.returns-in_err-issue_cause-in-None-clause-did
returns-in_err-issue_cause-in-None-clause-did g c =
    issue-did g.D.Disk.told g.D.Disk.plan g.D.Disk.faults (issue_stop (Err c.in-Err.why))
    (issue_effect (g.H.Hash32.digest_of c.args.keyed.now.hash) (g.H.Hash32.digest_of c.args.keyed.now.node.hash)
    c.args.keyed.now.key c.args.keyed.now.node.notes.records c.args.keyed.now.desk.notes.records c.args.log.now.log
    c.args.transfer.now c.args.due)
    c.args.keyed.now.node.notes c.args.keyed.now.desk.notes c.issue-issued.new.op.notes
    c.issue-issued.new.self.notes c.from_residual-in_err-issue_cause-in-None.result
    (quiet (g.H.Hash32.digest_of c.args.keyed.now.hash) (g.H.Hash32.digest_of c.args.keyed.now.node.hash)
    c.args.keyed.now.key c.args.keyed.now.node.notes.records c.args.keyed.now.desk.notes.records c.args.log.now.log
    c.args.transfer.now c.args.due)
    c.requires.open c.in-Err.ensures.did
    (ran-out-of c.from_residual-in_err-issue_cause-in-None.result _ (sym c.stop_of.ensures ∙ c.in-None.is)
    c.from_residual-in_err-issue_cause-in-None.ensures.1)

pub returns-in_ok-put_words-in-Ok-clause-did : goal.returns-in_ok-put_words-in-Ok-clause-did
returns-in_ok-put_words-in-Ok-clause-did g c =
    issue-did g.D.Disk.told g.D.Disk.plan g.D.Disk.faults None
    (issue_effect (g.H.Hash32.digest_of c.args.keyed.now.hash) (g.H.Hash32.digest_of c.args.keyed.now.node.hash)
    c.args.keyed.now.key c.args.keyed.now.node.notes.records c.args.keyed.now.desk.notes.records c.args.log.now.log
    c.args.transfer.now c.args.due)
    c.args.keyed.now.node.notes c.args.keyed.now.desk.notes c.issue-issued.new.op.notes
    c.issue-issued.new.self.notes (Ok c.in_ok-put_words-in-Ok.field-0)
    (quiet (g.H.Hash32.digest_of c.args.keyed.now.hash) (g.H.Hash32.digest_of c.args.keyed.now.node.hash)
    c.args.keyed.now.key c.args.keyed.now.node.notes.records c.args.keyed.now.desk.notes.records c.args.log.now.log
    c.args.transfer.now c.args.due)
    c.requires.open c.in-Ok.ensures.did refl

pub returns-in_ok-issue_cause-in-None-clause-did : goal.returns-in_ok-issue_cause-in-None-clause-did
returns-in_ok-issue_cause-in-None-clause-did g c =
    issue-did g.D.Disk.told g.D.Disk.plan g.D.Disk.faults (issue_stop (Err c.in-Err.why))
    (issue_effect (g.H.Hash32.digest_of c.args.keyed.now.hash) (g.H.Hash32.digest_of c.args.keyed.now.node.hash)
    c.args.keyed.now.key c.args.keyed.now.node.notes.records c.args.keyed.now.desk.notes.records c.args.log.now.log
    c.args.transfer.now c.args.due)
    c.args.keyed.now.node.notes c.args.keyed.now.desk.notes c.issue-issued.new.op.notes
    c.issue-issued.new.self.notes (Ok (Refused c.in_ok-issue_cause-in-None.field-0))
    (quiet (g.H.Hash32.digest_of c.args.keyed.now.hash) (g.H.Hash32.digest_of c.args.keyed.now.node.hash)
    c.args.keyed.now.key c.args.keyed.now.node.notes.records c.args.keyed.now.desk.notes.records c.args.log.now.log
    c.args.transfer.now c.args.due)
    c.requires.open c.in-Err.ensures.did (sym c.stop_of.ensures ∙ c.in-None.is)

pub returns-in_ok-put_words-in-Ok-clause-said : goal.returns-in_ok-put_words-in-Ok-clause-said
returns-in_ok-put_words-in-Ok-clause-said g c =
    promised c.blocks-blocks.result _ c.args.due c.in-Ok.receipt _ c.in_ok-words_of-in-Ok.field-0.items _ _
    c.in_ok-put_words-in-Ok.field-0 c.blocks-blocks.ensures.is (c.in-Ok.ensures.answer refl)
    c.in_ok-words_of-in-Ok.ensures c.in_ok-put_words-in-Ok.ensures.said
