use Rattle.std.proofs.Common.{sym}
use Rattle.coin_history.specs.Bundles.{bundle_in}
use Rattle.receipt_audit.proofs.Audits.{unread-answer, read-cause, memory-told}
use Rattle.coin_history.proofs.FirstItems.{has-first_item}
use Rattle.receipt_audit.proofs.audit.shown_by.Goals as goal

pub audit_refusal-requires : goal.audit_refusal-requires
audit_refusal-requires g c = read-cause c.args.bytes.now c.in-Err.why c.in-Err.ensures.value

pub returns-in-Err-clause-value : goal.returns-in-Err-clause-value
returns-in-Err-clause-value g c given =
    unread-answer (g.H.Hash32.digest_of c.args.h.now) c.args.log.now.log c.args.promise.now (bundle_in c.args.bytes.now)
    c.in-Err.why c.audit_refusal.result c.audit_refusal.ensures c.in-Err.ensures.value given

pub returns-in-Err-clause-item : goal.returns-in-Err-clause-item
returns-in-Err-clause-item g c given =
    c.in-Err.ensures.memory (memory-told c.in-Err.why c.audit_refusal.result c.audit_refusal.ensures
    (read-cause c.args.bytes.now c.in-Err.why c.in-Err.ensures.value) given)

pub returns-clause-item : goal.returns-clause-item
returns-clause-item g c given =
    has-first_item c.args.bytes.now c.in-Ok.bundle (sym (c.in-Ok.ensures.value (λ e. cc e)))
    (c.judged.ensures.some given)
