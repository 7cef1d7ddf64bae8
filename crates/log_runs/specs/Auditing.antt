-- What a run of an audit does behind the lines of its log.
use Rattle.std.specs.Prelude.{◌≡◌, ℕ, Bool, true, false, if◌then◌else◌, List, ◌∷◌, codes, Option, Some, None, IsSome, Result, Ok, Err}
use Rattle.plasma_base.specs.HexText.{hex_in}
use Rattle.plasma_tx.specs.Chain.{Chain, with_log}
use Rattle.receipt_audit.specs.declared.audit.Conviction.{Conviction}
use Rattle.receipt_audit.specs.declared.refusal.AuditRefusal.{AuditRefusal}
use Rattle.receipt_audit.specs.declared.refusal.AuditRefusal.TheVariants.{BadReceipt, BadKey, NotSigned, NotYet, BadBundle, OtherCoin, UnknownBlock, MissingBlock, BadOpening, Honoured, NoMemory}
use Rattle.receipt_audit.specs.Audit.{conviction_answer}
use Rattle.streamed_lines.specs.declared.ending.Stop.TheVariants.{BadLine, Ends}
use Rattle.log_runs.specs.Following.{Following, OrStop}
use Rattle.log_runs.specs.Texts.{with_number, told}

-- what an auditor refuses for; that memory ran out is no answer of it
abbrev pub audit_cause : AuditRefusal → List ℕ
audit_cause BadReceipt = codes "bad-receipt"
audit_cause BadKey = codes "bad-key"
audit_cause NotSigned = codes "not-signed"
audit_cause (NotYet due) = with_number (codes "not-yet") due
audit_cause (BadBundle place) = with_number (codes "bad-bundle") place
audit_cause (OtherCoin coin) = with_number (codes "other-coin") coin
audit_cause (UnknownBlock n) = with_number (codes "unknown-block") n
audit_cause (MissingBlock n) = with_number (codes "missing-block") n
audit_cause (BadOpening n) = with_number (codes "bad-opening") n
audit_cause (Honoured n) = with_number (codes "honoured") n
audit_cause NoMemory = codes "no-memory"

-- the coin and the due block of a broken promise, as a line
abbrev pub convicted_text : Conviction → List ℕ
convicted_text conviction = told (with_number (codes "convicted") conviction.coin) conviction.due

-- a chain, and whether the bundle was answered
pub record AuditAt : Type 0 where
  pub chain : Chain
  pub is_answered : Bool

-- the bundle was answered so, or refused
abbrev pub verdict : AuditAt → Result Conviction AuditRefusal → OrStop (AuditAt × List ℕ)
verdict at (Ok conviction) = Ok (record at { is_answered = true }, convicted_text conviction)
verdict at (Err why) = Err (Ends (audit_cause why))

-- the bundle's line, by the bytes that it spells
abbrev pub bundle_line : (List ℕ → List ℕ) → List ℕ → List ℕ → AuditAt → Option (List ℕ) → OrStop (AuditAt × List ℕ)
bundle_line dig key receipt at None = Err BadLine
bundle_line dig key receipt at (Some bundle) = verdict at (conviction_answer dig at.chain key receipt bundle)

-- a line behind the log: one is the bundle, and a second one may not stand there
abbrev pub audit_line : (List ℕ → List ℕ) → List ℕ → List ℕ → AuditAt → List ℕ → OrStop (AuditAt × List ℕ)
audit_line dig key receipt at line =
    if at.is_answered then Err BadLine else bundle_line dig key receipt at (hex_in line)

-- a run of an audit, under a digest, with a key and a receipt: its input ends behind the bundle
abbrev pub auditing : (List ℕ → List ℕ) → List ℕ → List ℕ → Following AuditAt
auditing dig key receipt = record {
  begin = λ chain. record { chain = chain; is_answered = false };
  follow = λ call at. record at { chain = with_log at.chain (call ∷ at.chain.log) };
  command = audit_line dig key receipt;
  may_end = λ at. at.is_answered;
}

-- behind the log memory is taken for a bundle, which is answered once
abbrev pub audit_takes_memory : AuditAt → List ℕ → Type 0
audit_takes_memory at line = (at.is_answered ≡ false) × IsSome (hex_in line)
