-- A refused command of an operator with a key adds nothing, and the key that its identity keeps stays.
use Rattle.node_roles.proofs.Words.{◌≡◌, ℕ, Bool, true, false, List, [], ◌∷◌, ◌++◌, Option, Some, None, Result, Ok, Err, refl, are_of, Effect, is_marked, RootCall, signed_in, blocks, OfferRefusal, forest_in, offer_effect, OperatorLine, operator_outcome}
use Rattle.lms_sign.specs.declared.secret.Secret.{Secret}
use Rattle.operator_rules.specs.Records.{operator_kinds, who_is}
use Rattle.receipt_audit.specs.declared.refusal.IssueRefusal.{IssueRefusal}
use Rattle.receipt_audit.specs.Desk.{IssueEffect, issue_effect, issue_or, receipt_or, record_or}
use Rattle.node_answers.specs.Desks.{DeskRecords, desk_outcome, issue_outcome, migration_outcome, secret_of}
use Rattle.node_roles.proofs.Refusals.{AddsNothingRefused}
use Rattle.node_roles.proofs.OperatorRefusals.{offer-quiet, operator-quiet}

-- an issue that goes on to the offer
offered-quiet : (issued due : ℕ) (secret : Secret) (records : List (List ℕ)) (text : List ℕ)
    (offered : Effect (Result ℕ OfferRefusal))
    → ((why : OfferRefusal) → offered.answer ≡ Err why → offered.note ≡ None)
    → AddsNothingRefused
    (issue_outcome issued due
    (record {
      answer = receipt_or secret records text offered.answer;
      is_offered = true;
      note = offered.note;
      leaf = record_or records text offered.answer;
    }))
offered-quiet issued due secret records text offered quiet cause is = by offered.answer refl is
  where
    by : (answer : Result ℕ OfferRefusal) → offered.answer ≡ answer
        → (issue_outcome issued due
        (record {
          answer = receipt_or secret records text answer;
          is_offered = true;
          note = offered.note;
          leaf = record_or records text answer;
        })).says
        ≡ Err cause
        → (record_or records text offered.answer ≡ None) × (offered.note ≡ None)
    by (Ok coin) same is = cc
    by (Err why) same is = (rw same refl, quiet why same)

-- one that is refused before it
or-quiet : (issued due : ℕ) (cause : Option IssueRefusal) (effect : IssueEffect)
    → AddsNothingRefused (issue_outcome issued due effect)
    → AddsNothingRefused (issue_outcome issued due (issue_or cause effect))
or-quiet issued due None effect quiet = quiet
or-quiet issued due (Some why) effect quiet = λ cause is. (refl, refl)

issue-quiet : (dig : List ℕ → List ℕ) (log : List RootCall) (desk : DeskRecords) (bytes : List ℕ) (due : ℕ)
    → AddsNothingRefused
    (issue_outcome (blocks log) due (issue_effect dig dig (secret_of desk.notes) desk.notes desk.leaves log bytes due))
unfolding issue_effect offer_effect
issue-quiet dig log desk bytes due =
    or-quiet (blocks log) due _ _
    (offered-quiet (blocks log) due (secret_of desk.notes) desk.leaves _ (offer_effect dig desk.notes log bytes)
    (offer-quiet dig (who_is desk.notes).tag log (forest_in desk.notes) bytes
    (signed_in (who_is desk.notes).tag bytes)))

migration-quiet : (marked : Bool) → AddsNothingRefused (migration_outcome marked)
migration-quiet true cause is = (refl, refl)
migration-quiet false cause is = cc

pub desk-quiet : (dig : List ℕ → List ℕ) (log : List RootCall) (desk : DeskRecords) (line : OperatorLine)
    → AddsNothingRefused (desk_outcome dig log desk line)
unfolding desk_outcome operator_outcome
desk-quiet dig log desk (OperatorLine.Order order) = operator-quiet dig log desk.notes (OperatorLine.Order order)
desk-quiet dig log desk (OperatorLine.Receipt bytes due) = issue-quiet dig log desk bytes due
desk-quiet dig log desk OperatorLine.Migrate = migration-quiet (is_marked desk.leaves)

-- the key is that of the first record
pub secret-stays : (records : List (List ℕ)) → are_of operator_kinds records ≡ true → (body : List ℕ)
    → secret_of (records ++ body ∷ []) ≡ secret_of records
unfolding who_is
secret-stays [] role body = cc
secret-stays (first ∷ records) role body = refl
