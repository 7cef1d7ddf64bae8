-- An operator's desk: the leaves of its key, each of which is bound to a promise; and the issue of a receipt.
use Rattle.std.specs.Prelude.{◌≡◌, ℕ, not, Bool, true, false, nat_le, List, [], ◌∷◌, ◌++◌, length, take, Option, Some, None, Result, Ok, Err}
use Rattle.sha2.specs.Sha256.{sha256}
use Rattle.crash_disk.specs.Disk.{History, FaultPlan}
use Rattle.lms_sign.specs.{declared.secret.Secret.{Secret}, Types.{leaf_count}, Tree.{signature_of}}
use Rattle.node_journal.specs.{Effect.{first_cause}, Notes.{NotesState, Did}, declared.stop.Stop.{Stop}, declared.stop.Stop.TheVariants.{Closed as StopClosed, NoMemory as StopNoMemory, DeviceFault as StopFault}}
use Rattle.leaf_journal.specs.Records.{binding_record, is_marked, messages_of}
use Rattle.plasma_tx.specs.{declared.call.RootCall.{RootCall}, Spelling.{body_at_start}, Views.{blocks}}
use Rattle.operator_rules.specs.{declared.refusal.OfferRefusal.{OfferRefusal}, declared.refusal.OfferRefusal.TheVariants.{Closed as OfferClosed, DeviceFault as OfferFault, NoMemory as OfferNoMemory}, Records.{who_is}}
use Rattle.operator_rules.specs.Commands.{offer_effect}
use Rattle.receipt_audit.specs.{declared.promise.Promise.{Promise}, declared.issuing.Receipt.{Receipt}, declared.refusal.IssueRefusal.{IssueRefusal}}
use Rattle.receipt_audit.specs.{declared.refusal.IssueRefusal.TheVariants.{BadDue, OldJournal, KeySpent, Offer, DeviceFault, Closed, NoMemory}, Promises.{promise_text}}

-- a desk's key: types 5 and 4, and the first 16 bytes of the seed's SHA-256 as its identifier
abbrev pub desk_secret : List ℕ → Secret
desk_secret seed = record { types = record { lms = 5; ots = 4 }; id = take 16 (sha256 seed); seed = seed }

-- ---- the issue of a receipt

-- what it is refused for before the transfer is offered
abbrev pub issue_causes : ℕ → List (List ℕ) → ℕ → ℕ → List (Bool × IssueRefusal)
issue_causes leaves records count due =
    (
    (nat_le due count, BadDue count)
    ∷ (not (is_marked records), OldJournal)
    ∷ (nat_le leaves (length (messages_of records)), KeySpent (length (messages_of records)))
    ∷ []
    )

-- the promise for a signed transfer's bytes, by so many blocks
abbrev pub promise_for : (List ℕ → List ℕ) → List ℕ → ℕ → List ℕ → ℕ → Promise
promise_for dig tag count bytes due = record {
  tag = tag;
  coin = (body_at_start bytes).coin;
  parent = (body_at_start bytes).parent;
  digest = dig bytes;
  issued = count;
  due = due;
}

-- What an issue does by its definition: its answer; whether the transfer is offered, and the operator's note; and the
-- desk's record.
pub record IssueEffect : Type 0 where
  pub answer : Result Receipt IssueRefusal
  pub is_offered : Bool
  pub note : Option (List ℕ)
  pub leaf : Option (List ℕ)

-- a promise's receipt and record, where the offer of its transfer is answered so
abbrev pub receipt_or : Secret → List (List ℕ) → List ℕ → Result ℕ OfferRefusal → Result Receipt IssueRefusal
receipt_or secret records text (Err why) = Err (Offer why)
receipt_or secret records text (Ok coin) =
    Ok (record { bytes = text ++ signature_of secret (length (messages_of records)) text })

abbrev pub record_or : List (List ℕ) → List ℕ → Result ℕ OfferRefusal → Option (List ℕ)
record_or records text (Err why) = None
record_or records text (Ok coin) = Some (binding_record records text)

-- it is refused before the offer, for the first cause that holds, or does this
abbrev pub issue_or : Option IssueRefusal → IssueEffect → IssueEffect
issue_or None effect = effect
issue_or (Some why) effect = record { answer = Err why; is_offered = false; note = None; leaf = None }

-- The transfer is offered to the operator, and then promised: the next leaf is bound to the promise and signs it. `dig`
-- is the digest of the promise, and `judge` that of the operator; `notes` are the operator's records, and `records` the
-- desk's.
unfoldable pub issue_effect : (List ℕ → List ℕ) → (List ℕ → List ℕ) → Secret → List (List ℕ) → List (List ℕ)
    → List RootCall → List ℕ → ℕ → IssueEffect
issue_effect dig judge secret notes records log bytes due =
    let offered = offer_effect judge notes log bytes in
    let text = promise_text (promise_for dig (who_is notes).tag (blocks log) bytes due) in
    issue_or (first_cause (issue_causes (leaf_count secret.types) records (blocks log) due))
    (record {
      answer = receipt_or secret records text offered.answer;
      is_offered = true;
      note = offered.note;
      leaf = record_or records text offered.answer;
    })

-- what an issue is refused for, whose offer was refused so
abbrev pub unoffered : OfferRefusal → IssueRefusal
unoffered OfferNoMemory = NoMemory
unoffered why = Offer why

-- ---- what stops an issue

-- the operator's disk, or the desk's, or memory
pub data IssueStop : Type 0 where
  AtOperator : Stop → IssueStop
  AtDesk : Stop → IssueStop

-- what stopped an issue whatever its definition says, if something did
abbrev pub issue_stop : Result Receipt IssueRefusal → Option IssueStop
issue_stop (Err (Offer OfferFault)) = Some (AtOperator StopFault)
issue_stop (Err (Offer OfferClosed)) = Some (AtOperator StopClosed)
issue_stop (Err NoMemory) = Some (AtDesk StopNoMemory)
issue_stop (Err DeviceFault) = Some (AtDesk StopFault)
issue_stop (Err Closed) = Some (AtDesk StopClosed)
issue_stop result = None

-- over the operator's disks and the desk's, which tell their histories, foretell their faults and count them
module _ {E D : Type 0} (told : E → Option History) (plan : E → Option FaultPlan) (faults : E → ℕ)
    (desk_told : D → Option History) (desk_plan : D → Option FaultPlan) (desk_faults : D → ℕ) where
  -- what the operator's part did that wasn't stopped; an operator that isn't asked stays, be it open or closed
  abbrev pub DidOffer : Bool → Option (List ℕ) → NotesState E → NotesState E → Type 0
  DidOffer false added old new = new ≡ old
  DidOffer true added old new = Did told plan faults added old None new

  -- What an issue did by its effect, and how it was stopped, or not: the operator's append comes first, and then the
  -- desk's. Where the operator stopped it the desk is open and stays. Where the desk's disk failed the offer is kept.
  -- For want of memory, which comes behind the causes that are asked before the offer, and with a closed desk, both
  -- stay.
  abbrev pub DidIssue : IssueEffect → NotesState E → NotesState D → Option IssueStop → NotesState E → NotesState D
      → Type 0
  DidIssue effect old desk None new after =
      DidOffer effect.is_offered effect.note old new × Did desk_told desk_plan desk_faults effect.leaf desk None after
  DidIssue effect old desk (Some (AtOperator why)) new after =
      (effect.is_offered ≡ true) × Did told plan faults effect.note old (Some why) new
      × Did desk_told desk_plan desk_faults None desk None after
  DidIssue effect old desk (Some (AtDesk StopFault)) new after =
      (effect.is_offered ≡ true) × Did told plan faults effect.note old None new
      × Did desk_told desk_plan desk_faults effect.leaf desk (Some StopFault) after
  DidIssue effect old desk (Some (AtDesk StopNoMemory)) new after =
      (effect.is_offered ≡ true) × (new ≡ old)
      × Did desk_told desk_plan desk_faults effect.leaf desk (Some StopNoMemory) after
  DidIssue effect old desk (Some (AtDesk StopClosed)) new after =
      (new ≡ old) × Did desk_told desk_plan desk_faults effect.leaf desk (Some StopClosed) after
