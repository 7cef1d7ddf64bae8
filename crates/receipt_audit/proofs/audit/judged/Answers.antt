use Rattle.plasma_tx.specs.Shown.{tests_by}
use Rattle.receipt_audit.proofs.Audits.{breach-answer, breach-cause, memory-told}
use Rattle.receipt_audit.specs.Audit.{breach_of}
use Rattle.receipt_audit.proofs.audit.judged.Goals as goal

pub audit_refusal-requires : goal.audit_refusal-requires
audit_refusal-requires g c =
    breach-cause (tests_by (g.H.Hash32.digest_of c.args.h.now)) (g.H.Hash32.digest_of c.args.h.now)
    c.args.log.now.log c.args.promise.now c.args.bundle.now c.in-Err.why c.in-Err.ensures.value

pub returns-in-Err-clause-value : goal.returns-in-Err-clause-value
returns-in-Err-clause-value g c given =
    breach-answer c.args.promise.now
    (breach_of (tests_by (g.H.Hash32.digest_of c.args.h.now)) (g.H.Hash32.digest_of c.args.h.now) c.args.log.now.log
    c.args.promise.now c.args.bundle.now)
    c.in-Err.why c.audit_refusal.result c.audit_refusal.ensures c.in-Err.ensures.value given

pub returns-in-Err-clause-some : goal.returns-in-Err-clause-some
returns-in-Err-clause-some g c given =
    c.in-Err.ensures.some (memory-told c.in-Err.why c.audit_refusal.result c.audit_refusal.ensures
    (breach-cause (tests_by (g.H.Hash32.digest_of c.args.h.now)) (g.H.Hash32.digest_of c.args.h.now)
    c.args.log.now.log c.args.promise.now c.args.bundle.now c.in-Err.why c.in-Err.ensures.value) given)
