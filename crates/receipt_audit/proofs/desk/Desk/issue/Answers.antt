use Rattle.std.proofs.Common.{refl, sym, ◌∙◌}
use Rattle.receipt_audit.proofs.Issues.{refused-answer, refused-did, starved-did, unoffered-said, unoffered-did, offered-long, offered-pooled, issued-answer, issued-did, faulted-did}
use Rattle.receipt_audit.proofs.desk.Desk.issue.Goals as goal

pub returns-in-Some-clause-answer : goal.returns-in-Some-clause-answer
returns-in-Some-clause-answer g c stop =
    refused-answer g.E.Disk.told g.E.Disk.plan g.E.Disk.faults g.D.Disk.told g.D.Disk.plan g.D.Disk.faults
    (g.H.Hash32.digest_of c.args.h) (g.H.Hash32.digest_of c.args.op.now.hash) c.args.key.now c.args.self.now.notes.records
    c.args.log.now.log c.args.tx.now c.args.due c.blocks-blocks.result c.args.op.now.notes c.args.self.now.notes
    c.blocks-blocks.ensures.is (sym c.is_closed.ensures ∙ c.if-is_closed.false)
    c.in-Some.why c.in-Some.ensures

pub returns-in-Some-clause-did : goal.returns-in-Some-clause-did
returns-in-Some-clause-did g c =
    refused-did g.E.Disk.told g.E.Disk.plan g.E.Disk.faults g.D.Disk.told g.D.Disk.plan g.D.Disk.faults
    (g.H.Hash32.digest_of c.args.h) (g.H.Hash32.digest_of c.args.op.now.hash) c.args.key.now c.args.self.now.notes.records
    c.args.log.now.log c.args.tx.now c.args.due c.blocks-blocks.result c.args.op.now.notes c.args.self.now.notes
    c.blocks-blocks.ensures.is (sym c.is_closed.ensures ∙ c.if-is_closed.false)
    c.in-Some.why c.in-Some.ensures

pub returns-in_default-room_for-clause-did : goal.returns-in_default-room_for-clause-did
returns-in_default-room_for-clause-did g c =
    starved-did g.E.Disk.told g.E.Disk.plan g.E.Disk.faults g.D.Disk.told g.D.Disk.plan g.D.Disk.faults
    (g.H.Hash32.digest_of c.args.h) (g.H.Hash32.digest_of c.args.op.now.hash) c.args.key.now c.args.self.now.notes.records
    c.args.log.now.log c.args.tx.now c.args.due c.blocks-blocks.result c.args.op.now.notes c.args.self.now.notes
    c.blocks-blocks.ensures.is (sym c.is_closed.ensures ∙ c.if-is_closed.false) c.in_default.ensures

pub returns-in-Err-clause-answer : goal.returns-in-Err-clause-answer
returns-in-Err-clause-answer g c =
    unoffered-said g.E.Disk.told g.E.Disk.plan g.E.Disk.faults g.D.Disk.told g.D.Disk.plan g.D.Disk.faults
    (g.H.Hash32.digest_of c.args.h) (g.H.Hash32.digest_of c.args.op.now.hash) c.args.key.now c.args.self.now.notes.records
    c.args.log.now.log c.args.tx.now c.args.due c.blocks-blocks.result c.args.op.now.notes c.args.self.now.notes
    c.blocks-blocks.ensures.is (sym c.is_closed.ensures ∙ c.if-is_closed.false)
    c.in_default.ensures c.in-Err.why c.unoffered.result c.unoffered.ensures c.in-Err.ensures.answer

pub returns-in-Err-clause-did : goal.returns-in-Err-clause-did
returns-in-Err-clause-did g c =
    unoffered-did g.E.Disk.told g.E.Disk.plan g.E.Disk.faults g.D.Disk.told g.D.Disk.plan g.D.Disk.faults
    (g.H.Hash32.digest_of c.args.h) (g.H.Hash32.digest_of c.args.op.now.hash) c.args.key.now c.args.self.now.notes.records
    c.args.log.now.log c.args.tx.now c.args.due c.blocks-blocks.result c.args.op.now.notes c.args.self.now.notes
    c.blocks-blocks.ensures.is (sym c.is_closed.ensures ∙ c.if-is_closed.false)
    c.in_default.ensures c.offer.new.self.notes c.in-Err.why c.unoffered.result c.unoffered.ensures
    c.in-Err.ensures.answer c.in-Err.ensures.did

pub promise_for-promise-requires : goal.promise_for-promise-requires
promise_for-promise-requires g c =
    offered-long (g.H.Hash32.digest_of c.args.op.now.hash) c.args.op.now.notes.records c.args.log.now.log c.args.tx.now
    c.in-Ok-offer.field-0 (c.in-Ok-offer.ensures.answer refl)

pub returns-in-Ok-sign_promise-clause-answer : goal.returns-in-Ok-sign_promise-clause-answer
returns-in-Ok-sign_promise-clause-answer g c stop =
    issued-answer g.E.Disk.told g.E.Disk.plan g.E.Disk.faults g.D.Disk.told g.D.Disk.plan g.D.Disk.faults
    (g.H.Hash32.digest_of c.args.h) (g.H.Hash32.digest_of c.args.op.now.hash) c.args.key.now c.args.self.now.notes.records
    c.args.log.now.log c.args.tx.now c.args.due c.blocks-blocks.result c.args.op.now.notes c.args.self.now.notes
    c.blocks-blocks.ensures.is (sym c.is_closed.ensures ∙ c.if-is_closed.false)
    c.in_default.ensures c.in-Ok-offer.field-0 c.promise_for-promise.result c.tag-tag.result
    (c.in-Ok-offer.ensures.answer refl) c.tag-tag.ensures c.promise_for-promise.ensures
    c.in-Ok-sign_promise.receipt c.in-Ok-sign_promise.ensures.value

pub returns-in-Ok-sign_promise-clause-did : goal.returns-in-Ok-sign_promise-clause-did
returns-in-Ok-sign_promise-clause-did g c =
    issued-did g.E.Disk.told g.E.Disk.plan g.E.Disk.faults g.D.Disk.told g.D.Disk.plan g.D.Disk.faults
    (g.H.Hash32.digest_of c.args.h) (g.H.Hash32.digest_of c.args.op.now.hash) c.args.key.now c.args.self.now.notes.records
    c.args.log.now.log c.args.tx.now c.args.due c.blocks-blocks.result c.args.op.now.notes c.args.self.now.notes
    c.blocks-blocks.ensures.is (sym c.is_closed.ensures ∙ c.if-is_closed.false)
    c.in_default.ensures c.in-Ok-offer.field-0 c.promise_for-promise.result c.tag-tag.result
    (c.in-Ok-offer.ensures.answer refl) c.tag-tag.ensures c.promise_for-promise.ensures
    c.offer.new.self.notes c.sign_promise.new.self.notes c.in-Ok-offer.ensures.did
    c.in-Ok-sign_promise.ensures.did

pub returns-in-Ok-sign_promise-clause-pooled : goal.returns-in-Ok-sign_promise-clause-pooled
returns-in-Ok-sign_promise-clause-pooled g c =
    offered-pooled (g.H.Hash32.digest_of c.args.op.now.hash) c.args.op.now.notes.records c.args.log.now.log
    c.args.tx.now
    c.in-Ok-offer.field-0 (c.in-Ok-offer.ensures.answer refl)
    g.E.Disk.told g.E.Disk.plan g.E.Disk.faults c.args.op.now.notes c.offer.new.self.notes refl
    c.is_whole.ensures.role c.in-Ok-offer.ensures.did

pub returns-in-Err-sign_promise-clause-did : goal.returns-in-Err-sign_promise-clause-did
returns-in-Err-sign_promise-clause-did g c =
    faulted-did g.E.Disk.told g.E.Disk.plan g.E.Disk.faults g.D.Disk.told g.D.Disk.plan g.D.Disk.faults
    (g.H.Hash32.digest_of c.args.h) (g.H.Hash32.digest_of c.args.op.now.hash) c.args.key.now c.args.self.now.notes.records
    c.args.log.now.log c.args.tx.now c.args.due c.blocks-blocks.result c.args.op.now.notes c.args.self.now.notes
    c.blocks-blocks.ensures.is (sym c.is_closed.ensures ∙ c.if-is_closed.false)
    c.in_default.ensures c.in-Ok-offer.field-0 c.promise_for-promise.result c.tag-tag.result
    (c.in-Ok-offer.ensures.answer refl) c.tag-tag.ensures c.promise_for-promise.ensures
    c.offer.new.self.notes c.sign_promise.new.self.notes c.in-Ok-offer.ensures.did
    c.in-Err-sign_promise.ensures.failed
