-- What a command of an operator with a key is answered in a run of its own, as text, and what it adds to the operator's
-- records and to its desk's.
use Rattle.std.specs.Prelude.{ℕ, Bool, if◌then◌else◌, List, [], ◌∷◌, ◌++◌, codes, Some, None, Result, Ok, Err, unwrap_or}
use Rattle.plasma_base.specs.HexText.{hex_text}
use Rattle.lms_sign.specs.declared.secret.Secret.{Secret}
use Rattle.node_journal.specs.declared.stop.Stop.{Stop}
use Rattle.leaf_journal.specs.declared.refusal.MigrateRefusal.{MigrateRefusal}
use Rattle.leaf_journal.specs.declared.refusal.MigrateRefusal.TheVariants.{AlreadyNew, DeviceFault as MigrateFault, Closed as MigrateClosed}
use Rattle.leaf_journal.specs.Records.{is_marked, marker}
use Rattle.plasma_tx.specs.declared.call.RootCall.{RootCall}
use Rattle.plasma_tx.specs.Views.{blocks}
use Rattle.operator_rules.specs.Records.{who_is}
use Rattle.receipt_audit.specs.declared.issuing.Receipt.{Receipt}
use Rattle.receipt_audit.specs.declared.refusal.IssueRefusal.{IssueRefusal}
use Rattle.receipt_audit.specs.declared.refusal.IssueRefusal.TheVariants.{BadDue, OldJournal, KeySpent, Offer, DeviceFault, Closed, NoMemory}
use Rattle.receipt_audit.specs.Desk.{desk_secret, IssueEffect, issue_effect, IssueStop, AtOperator, AtDesk}
use Rattle.node_replies.specs.Causes.{phrase, offer_cause, device_fault, closed, no_memory}
use Rattle.node_replies.specs.Orders.{operator_does}
use Rattle.node_lines.specs.declared.operator_line.OperatorLine.{OperatorLine}
use Rattle.node_answers.specs.Answers.{Outcome, outcome_of}

-- ---- receipts, as text; 10 is the line feed

-- what an issue is refused for
abbrev pub issue_cause : IssueRefusal → List ℕ
issue_cause (BadDue blocks) = phrase (codes "bad-due") (blocks ∷ [])
issue_cause OldJournal = codes "old-journal"
issue_cause (KeySpent used) = phrase (codes "key-spent") (used ∷ [])
issue_cause (Offer why) = offer_cause why
issue_cause DeviceFault = device_fault
issue_cause Closed = closed
issue_cause NoMemory = no_memory

-- by how many blocks it was issued and when it is due, and the receipt as a hex on a line of its own
abbrev pub promised_text : ℕ → ℕ → List ℕ → List ℕ
promised_text issued due receipt =
    ((phrase (codes "promised") (issued ∷ due ∷ []) ++ 10 ∷ []) ++ hex_text receipt) ++ 10 ∷ []

-- what stopped it, on either side
abbrev pub stop_at : IssueStop → Stop
stop_at (AtOperator why) = why
stop_at (AtDesk why) = why

abbrev pub issue_says : ℕ → ℕ → Result Receipt IssueRefusal → Result (List ℕ) (List ℕ)
issue_says issued due (Ok receipt) = Ok (promised_text issued due receipt.bytes)
issue_says issued due (Err why) = Err (issue_cause why)

-- ---- migrations, as text

abbrev pub migrate_cause : MigrateRefusal → List ℕ
migrate_cause AlreadyNew = codes "already-new"
migrate_cause MigrateFault = device_fault
migrate_cause MigrateClosed = closed

abbrev pub migration_says : Result Unit MigrateRefusal → Result (List ℕ) (List ℕ)
migration_says (Ok done) = Ok (codes "migrated" ++ 10 ∷ [])
migration_says (Err why) = Err (migrate_cause why)

-- ---- what a command comes to

-- the operator's records, and its desk's
pub record DeskRecords : Type 0 where
  pub notes : List (List ℕ)
  pub leaves : List (List ℕ)

abbrev pub desk_records : List (List ℕ) → List (List ℕ) → DeskRecords
desk_records notes leaves = record { notes = notes; leaves = leaves }

-- the key that the operator's identity keeps
abbrev pub secret_of : List (List ℕ) → Secret
secret_of notes = desk_secret (unwrap_or (who_is notes).key_seed [])

-- an issue adds what it offers, and then the record of the desk's next leaf
abbrev pub issue_outcome : ℕ → ℕ → IssueEffect → Outcome
issue_outcome issued due effect =
    record { says = issue_says issued due effect.answer; note = effect.note; leaf = effect.leaf }

-- a migration of the desk adds the marker, unless that is there
abbrev pub migration_outcome : Bool → Outcome
migration_outcome marked = record {
  says = migration_says (if marked then Err AlreadyNew else Ok tt);
  note = None;
  leaf = if marked then None else Some marker;
}

-- by the records of both, and the log; one digest is that of openings and of promises
unfoldable pub desk_outcome : (List ℕ → List ℕ) → List RootCall → DeskRecords → OperatorLine → Outcome
desk_outcome dig log desk (OperatorLine.Order order) = outcome_of (operator_does dig log desk.notes order)
desk_outcome dig log desk (OperatorLine.Receipt transfer due) =
    issue_outcome (blocks log) due
    (issue_effect dig dig (secret_of desk.notes) desk.notes desk.leaves log transfer due)
desk_outcome dig log desk OperatorLine.Migrate = migration_outcome (is_marked desk.leaves)
