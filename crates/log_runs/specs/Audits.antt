-- What is kept of the log of an audit in memory.
use Rattle.log_runs.specs.declared.audit.AuditLog.{AuditLog}
use Rattle.log_runs.specs.Auditing.{AuditAt}

-- the chain, and whether the bundle was answered
abbrev pub audit_at : AuditLog → AuditAt
audit_at kept = record { chain = kept.log; is_answered = kept.is_answered }
