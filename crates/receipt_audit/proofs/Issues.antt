-- What an issue does to an operator and a desk.
use Rattle.receipt_audit.proofs.Words.{◌≡◌, ℕ, ◌<◌, ◌≤◌, ◌==◌, Bool, true, false, if◌then◌else◌, List, [], ◌∷◌, ◌++◌, length, take, drop, Option, Some, None, Ok, Err, refl, sym, ap, ◌∙◌, subst, arith, lit<, Result, All, leb-false, not-false, true≢false, eqb-true, and_parts, All-push, common_steps, Secret, leaf_count, signature_of, public_key_of, IsValid, types_of, binding_record, is_marked, messages_of, MayBind, MessagesPass, bind-did, bind-fails, RootCall, has_second_mark, body_at_start, blocks, leaf_of, leaf_of-with_leaf, OfferRefusal, Note, Offered, note_text, notes_in, operator_kinds, who_is, forest_in, offer_effect, Receipt, Promise, IssueRefusal, begins_promise, is_promise, promise_text, DidIssue, IssueEffect, AtDesk, issue_causes, issue_effect, issue_stop, promise_for, receipt_or, record_or, unoffered}
use Rattle.std.proofs.Math.Seq.{take-append_seam, drop-append_seam}
use Rattle.crash_disk.specs.Disk.{History, FaultPlan}
use Rattle.node_journal.specs.Effect.{Effect, first_cause}
use Rattle.node_journal.specs.Role.{are_of}
use Rattle.node_journal.specs.Notes.{NotesState, Did}
use Rattle.node_journal.specs.declared.stop.Stop.TheVariants.{NoMemory as StopNoMemory, DeviceFault as StopFault}
use Rattle.leaf_journal.specs.Leaves.{LeavesState, leaves_of, leaf_effect, bind_stop}
use Rattle.leaf_journal.specs.declared.refusal.BindRefusal.{BindRefusal}
use Rattle.leaf_journal.specs.declared.refusal.BindRefusal.TheVariants.{KeySpent as BindSpent, DeviceFault as BindFault, Closed as BindClosed}
use Rattle.plasma_tx.proofs.Spellings.{Fits, signed_in-ok}
use Rattle.operator_rules.specs.Trees.{coin_named, forest_of}
use Rattle.operator_rules.proofs.Role.{commands_add_their_notes}
use Rattle.operator_rules.proofs.Run.{offerable}
use Rattle.operator_core.specs.State.{offer_stop}
use Rattle.operator_core.proofs.Offers.{offered_note}

-- ---- the next leaf

-- nothing but a fault keeps an open desk with a leaf from binding a promise
pub bind-failed : {D : Type 0} (told : D → Option History) (plan : D → Option FaultPlan) (faults : D → ℕ)
    (text : List ℕ) (old new : LeavesState D) → length (messages_of old.notes.records) < leaves_of old.key
    → (why : BindRefusal) → old.notes.closed ≡ false
    → (bind_stop (Err why) ≡ None → Err why ≡ (leaf_effect old.key old.notes.records text).answer)
    → Did told plan faults (leaf_effect old.key old.notes.records text).note old.notes (bind_stop (Err why)) new.notes
    → Did told plan faults (Some (binding_record old.notes.records text)) old.notes (Some StopFault) new.notes
bind-failed told plan faults text old new left (BindSpent count) is_open answered did =
    absurd (bind-fails old.key old.notes.records text left (BindSpent count) answered refl)
bind-failed told plan faults text old new left BindFault is_open answered did =
    bind-did old.key old.notes.records text left told plan faults old.notes new.notes (Some StopFault) did
bind-failed told plan faults text old new left BindClosed is_open answered did =
    absurd (true≢false (sym did.0 ∙ is_open))

-- a leaf is left of the key that the desk was opened with
pub left-of : {D : Type 0} (old seen : LeavesState D) (secret : Secret) (count : ℕ) → old ≡ seen
    → public_key_of secret ≡ seen.key → count ≡ leaf_count secret.types
    → count ≡ leaf_count (types_of (public_key_of secret))
    → length (messages_of seen.notes.records) < leaf_count secret.types
    → length (messages_of old.notes.records) < leaves_of old.key
left-of old seen secret count same key value public left = grind (arith, common_steps) steps 20000

-- a promise has 100 bytes
pub promise-length : (text : List ℕ) → is_promise text ≡ true → length text ≡ 100
promise-length text is =
    eqb-true (length text) 100 (and_parts (length text == 100) (begins_promise text) is).0

-- it may be bound behind the marker
pub promise-binds : (records : List (List ℕ)) (text : List ℕ) → is_promise text ≡ true → is_marked records ≡ true
    → MayBind records text
promise-binds records text is marked = grind (arith, common_steps, promise-length) steps 20000

-- a receipt's two parts
pub parts-in : (text signature bytes : List ℕ) → length text ≡ 100 → bytes ≡ text ++ signature
    → (take 100 bytes ≡ text) × (drop 100 bytes ≡ signature)
parts-in text signature bytes long is = (
  ap (take 100) is ∙ ap (λ (n : ℕ). take n (text ++ signature)) (sym long) ∙ take-append_seam text signature,
  ap (drop 100) is ∙ ap (λ (n : ℕ). drop n (text ++ signature)) (sym long) ∙ drop-append_seam text signature,
)

pub parts-valid : (key text signature bytes : List ℕ) → length text ≡ 100 → bytes ≡ text ++ signature
    → IsValid key text signature → IsValid key (take 100 bytes) (drop 100 bytes)
parts-valid key text signature bytes long is valid =
    let parts = parts-in text signature bytes long is in
    grind (arith, common_steps) steps 20000

-- every message is a promise, also with one more
pub pass-more : (text : List ℕ) (records more : List (List ℕ)) → is_promise text ≡ true
    → messages_of more ≡ messages_of records ++ text ∷ [] → MessagesPass is_promise records
    → MessagesPass is_promise more
pass-more text records more is grown pass =
    subst (All (λ message. is_promise message ≡ true)) (sym grown)
    (All-push (λ message. is_promise message ≡ true) (messages_of records) text pass is)

pub pass-same : (records more : List (List ℕ)) → messages_of more ≡ messages_of records
    → MessagesPass is_promise records → MessagesPass is_promise more
pass-same records more same pass = subst (All (λ message. is_promise message ≡ true)) (sym same) pass

-- ---- the effect

-- what stops nothing is refused before the offer
cause-fine : (leaves : ℕ) (records : List (List ℕ)) (count due : ℕ) (why : IssueRefusal)
    → first_cause (issue_causes leaves records count due) ≡ Some why → issue_stop (Err why) ≡ None
cause-fine leaves records count due why is = grind (arith, common_steps) steps 20000

-- what an issue does where the offer is made
abbrev pub issued : Secret → List (List ℕ) → List ℕ → Effect (Result ℕ OfferRefusal) → IssueEffect
issued secret records text offered = record {
  answer = receipt_or secret records text offered.answer;
  is_offered = true;
  note = offered.note;
  leaf = record_or records text offered.answer;
}

module _ (dig judge : List ℕ → List ℕ) (secret : Secret) (notes records : List (List ℕ)) (log : List RootCall)
    (bytes : List ℕ) (due : ℕ) where
  abbrev pub text_of : List ℕ
  text_of = promise_text (promise_for dig (who_is notes).tag (blocks log) bytes due)

  pub effect-refused : (why : IssueRefusal)
      → first_cause (issue_causes (leaf_count secret.types) records (blocks log) due) ≡ Some why
      → issue_effect dig judge secret notes records log bytes due
      ≡ record { answer = Err why; is_offered = false; note = None; leaf = None }
  unfolding issue_effect
  effect-refused why is = grind (arith, common_steps) steps 20000

  pub effect-issued : first_cause (issue_causes (leaf_count secret.types) records (blocks log) due) ≡ None
      → issue_effect dig judge secret notes records log bytes due
      ≡ issued secret records text_of (offer_effect judge notes log bytes)
  unfolding issue_effect
  effect-issued is = grind (arith, common_steps) steps 20000

-- where none of the causes holds the due block isn't there, the marker is, and a leaf is left
pub causes-none : (leaves : ℕ) (records : List (List ℕ)) (count due : ℕ)
    → first_cause (issue_causes leaves records count due) ≡ None
    → (count < due) × (is_marked records ≡ true) × (length (messages_of records) < leaves)
causes-none leaves records count due is = grind (arith, common_steps, leb-false, not-false) steps 20000

-- ---- what was done

module _ {E D : Type 0} (told : E → Option History) (plan : E → Option FaultPlan) (faults : E → ℕ)
    (desk_told : D → Option History) (desk_plan : D → Option FaultPlan) (desk_faults : D → ℕ) where
  -- it was refused before the offer
  pub did-refused : (effect : IssueEffect) (old : NotesState E) (desk : NotesState D) (why : IssueRefusal)
      → effect ≡ record { answer = Err why; is_offered = false; note = None; leaf = None }
      → issue_stop (Err why) ≡ None → desk.closed ≡ false
      → DidIssue told plan faults desk_told desk_plan desk_faults effect old desk (issue_stop (Err why)) old desk
  did-refused effect old desk why is none is_open = rw (is, none) (refl, (is_open, refl))

  module _ (secret : Secret) (records : List (List ℕ)) (text : List ℕ) (offered : Effect (Result ℕ OfferRefusal))
      (old new : NotesState E) (desk : NotesState D) (is_open : desk.closed ≡ false) where
    -- the operator refused the transfer
    pub did-unoffered : (why : OfferRefusal) → (offer_stop (Err why) ≡ None → Err why ≡ offered.answer)
        → Did told plan faults offered.note old (offer_stop (Err why)) new
        → DidIssue told plan faults desk_told desk_plan desk_faults (issued secret records text offered) old desk
        (issue_stop (Err (unoffered why))) new desk
    did-unoffered why answered did = grind (arith, common_steps) steps 20000

    -- the transfer was offered, and the promise bound
    pub did-issued : (after : NotesState D) (coin : ℕ) → Ok coin ≡ offered.answer
        → Did told plan faults offered.note old None new
        → Did desk_told desk_plan desk_faults (Some (binding_record records text)) desk None after
        → DidIssue told plan faults desk_told desk_plan desk_faults (issued secret records text offered) old desk
        None new after
    did-issued after coin is done bound = grind (arith, common_steps) steps 20000

    -- the transfer was offered, and the desk's disk failed
    pub did-faulted : (after : NotesState D) (coin : ℕ) → Ok coin ≡ offered.answer
        → Did told plan faults offered.note old None new
        → Did desk_told desk_plan desk_faults (Some (binding_record records text)) desk (Some StopFault) after
        → DidIssue told plan faults desk_told desk_plan desk_faults (issued secret records text offered) old desk
        (Some (AtDesk StopFault)) new after
    did-faulted after coin is done failed = grind (arith, common_steps) steps 20000

-- a refusal that isn't a stop is answered by its definition
unoffered-answer : (secret : Secret) (records : List (List ℕ)) (text : List ℕ)
    (offered : Effect (Result ℕ OfferRefusal)) (why : OfferRefusal)
    → (offer_stop (Err why) ≡ None → Err why ≡ offered.answer) → issue_stop (Err (unoffered why)) ≡ None
    → Err (unoffered why) ≡ (issued secret records text offered).answer
unoffered-answer secret records text offered why answered none = grind (arith, common_steps) steps 20000

-- ---- an offer that was taken

pooled : (before : List Note) (bytes : List ℕ)
    → leaf_of (forest_of (Offered bytes ∷ before)).pool (coin_named bytes) ≡ bytes
unfolding forest_of
pooled before bytes = leaf_of-with_leaf (forest_of before).pool (coin_named bytes) bytes

module _ (judge : List ℕ → List ℕ) (notes : List (List ℕ)) (log : List RootCall) (bytes : List ℕ) (coin : ℕ)
    (is : Ok coin ≡ (offer_effect judge notes log bytes).answer) where
  -- its bytes have a transfer's
  pub offered-fits : Fits (who_is notes).tag bytes
  unfolding offer_effect
  offered-fits =
      let tag = (who_is notes).tag in
      let shown = offerable judge tag log (forest_in notes) bytes coin (sym is) in
      (signed_in-ok tag bytes shown.tx shown.tx_is).0

  pub offered-long : 52 ≤ length bytes
  offered-long = long (has_second_mark bytes) offered-fits.long
    where
      long : (second : Bool) → (if second then 124 else 116) ≤ length bytes → 52 ≤ length bytes
      long true le = omega arith
      long false le = omega arith

  -- and the pool has them
  pub offered-pooled : {E : Type 0} (told : E → Option History) (plan : E → Option FaultPlan) (faults : E → ℕ)
      (old new : NotesState E) → old.records ≡ notes → are_of operator_kinds notes ≡ true
      → Did told plan faults (offer_effect judge notes log bytes).note old None new
      → leaf_of (forest_in new.records).pool (body_at_start bytes).coin ≡ bytes
  offered-pooled told plan faults old new old_is are done =
      let note = offered_note judge notes log bytes coin is in
      let added : Did told plan faults (Some (note_text (Offered bytes))) old None new =
      subst (λ (n : Option (List ℕ)). Did told plan faults n old None new) note done in
      let grown = commands_add_their_notes judge notes log 0 bytes (note_text (Offered bytes)) are (lit< tt) in
      let records : new.records ≡ notes ++ note_text (Offered bytes) ∷ [] =
      added.records ∙ ap (λ (r : List (List ℕ)). r ++ note_text (Offered bytes) ∷ []) old_is in
      ap (λ (r : List (List ℕ)). leaf_of (forest_in r).pool (coin_named bytes)) records
      ∙ ap (λ (n : List Note). leaf_of (forest_of n).pool (coin_named bytes)) (grown.1 note)
      ∙ pooled (notes_in notes) bytes

-- ---- the whole

abbrev receipt_of : List ℕ → Result Receipt IssueRefusal
receipt_of bytes = Ok (record { bytes = bytes })

module _ {E D : Type 0} (told : E → Option History) (plan : E → Option FaultPlan) (faults : E → ℕ)
    (desk_told : D → Option History) (desk_plan : D → Option FaultPlan) (desk_faults : D → ℕ)
    (dig judge : List ℕ → List ℕ) (secret : Secret) (records : List (List ℕ)) (log : List RootCall)
    (bytes : List ℕ) (due count : ℕ) (old : NotesState E) (desk : NotesState D) (count_is : count ≡ blocks log)
    (is_open : desk.closed ≡ false) where
  abbrev effect_is : IssueEffect
  effect_is = issue_effect dig judge secret old.records records log bytes due

  abbrev causes_by : ℕ → Option IssueRefusal
  causes_by n = first_cause (issue_causes (leaf_count secret.types) records n due)

  counted : (cause : Option IssueRefusal) → cause ≡ causes_by count → causes_by (blocks log) ≡ cause
  counted cause is = sym (is ∙ ap causes_by count_is)

  pub refused-did : (why : IssueRefusal) → Some why ≡ causes_by count
      → DidIssue told plan faults desk_told desk_plan desk_faults effect_is old desk (issue_stop (Err why)) old desk
  refused-did why is =
      did-refused told plan faults desk_told desk_plan desk_faults effect_is old desk why
      (effect-refused dig judge secret old.records records log bytes due why (counted (Some why) is))
      (cause-fine (leaf_count secret.types) records (blocks log) due why (counted (Some why) is)) is_open

  pub refused-answer : (why : IssueRefusal) → Some why ≡ causes_by count → Err why ≡ effect_is.answer
  refused-answer why is =
      sym (ap (λ (e : IssueEffect). e.answer)
      (effect-refused dig judge secret old.records records log bytes due why (counted (Some why) is)))

  module _ (none : None ≡ causes_by count) where
    abbrev offer_is : Effect (Result ℕ OfferRefusal)
    offer_is = offer_effect judge old.records log bytes

    abbrev text_is : List ℕ
    text_is = promise_text (promise_for dig (who_is old.records).tag (blocks log) bytes due)

    issued_is : effect_is ≡ issued secret records text_is offer_is
    issued_is = effect-issued dig judge secret old.records records log bytes due (counted None none)

    pub marked-left : (blocks log < due) × (is_marked records ≡ true)
        × (length (messages_of records) < leaf_count secret.types)
    marked-left = causes-none (leaf_count secret.types) records (blocks log) due (counted None none)

    -- there was no room for the receipt
    pub starved-did : DidIssue told plan faults desk_told desk_plan desk_faults effect_is old desk
        (Some (AtDesk StopNoMemory)) old desk
    starved-did = (ap (λ (e : IssueEffect). e.is_offered) issued_is, refl, (is_open, refl))

    pub unoffered-did : (new : NotesState E) (why : OfferRefusal) (said : IssueRefusal) → said ≡ unoffered why
        → (offer_stop (Err why) ≡ None → Err why ≡ offer_is.answer)
        → Did told plan faults offer_is.note old (offer_stop (Err why)) new
        → DidIssue told plan faults desk_told desk_plan desk_faults effect_is old desk (issue_stop (Err said)) new desk
    unoffered-did new why said is answered did =
        subst (λ (w : IssueRefusal). DidIssue told plan faults desk_told desk_plan desk_faults effect_is old desk
        (issue_stop (Err w)) new desk) (sym is)
        (grind (arith, common_steps, issued_is, did-unoffered) steps 20000)

    pub unoffered-said : (why : OfferRefusal) (said : IssueRefusal) → said ≡ unoffered why
        → (offer_stop (Err why) ≡ None → Err why ≡ offer_is.answer)
        → issue_stop (Err said) ≡ None → Err said ≡ effect_is.answer
    unoffered-said why said is answered = grind (arith, common_steps, unoffered-answer, issued_is) steps 20000

    module _ (coin : ℕ) (promise : Promise) (tag : List ℕ) (coin_is : Ok coin ≡ offer_is.answer)
        (tag_is : tag ≡ (who_is old.records).tag) (promise_is : promise ≡ promise_for dig tag count bytes due) where
      same-text : promise_text promise ≡ text_is
      same-text = grind (arith, common_steps) steps 20000

      pub issued-answer : (receipt : Receipt)
          → receipt.bytes ≡ promise_text promise
          ++ signature_of secret (length (messages_of records)) (promise_text promise)
          → Ok receipt ≡ effect_is.answer
      issued-answer receipt is =
          ap receipt_of (is ∙ ap (λ (t : List ℕ). t ++ signature_of secret (length (messages_of records)) t) same-text)
          ∙ ap (receipt_or secret records text_is) coin_is
          ∙ sym (ap (λ (e : IssueEffect). e.answer) issued_is)

      pub issued-did : (new : NotesState E) (after : NotesState D) → Did told plan faults offer_is.note old None new
          → Did desk_told desk_plan desk_faults (Some (binding_record records (promise_text promise))) desk None after
          → DidIssue told plan faults desk_told desk_plan desk_faults effect_is old desk None new after
      issued-did new after done bound =
          subst (λ (e : IssueEffect). DidIssue told plan faults desk_told desk_plan desk_faults e old desk None new
          after) (sym issued_is)
          (did-issued told plan faults desk_told desk_plan desk_faults secret records text_is offer_is old new desk
          is_open after coin coin_is done
          (subst (λ (t : List ℕ). Did desk_told desk_plan desk_faults (Some (binding_record records t)) desk None
          after) same-text bound))

      pub faulted-did : (new : NotesState E) (after : NotesState D) → Did told plan faults offer_is.note old None new
          → Did desk_told desk_plan desk_faults (Some (binding_record records (promise_text promise))) desk
          (Some StopFault) after
          → DidIssue told plan faults desk_told desk_plan desk_faults effect_is old desk (Some (AtDesk StopFault)) new
          after
      faulted-did new after done failed =
          subst (λ (e : IssueEffect). DidIssue told plan faults desk_told desk_plan desk_faults e old desk
          (Some (AtDesk StopFault)) new after) (sym issued_is)
          (did-faulted told plan faults desk_told desk_plan desk_faults secret records text_is offer_is old new desk
          is_open after coin coin_is done
          (subst (λ (t : List ℕ). Did desk_told desk_plan desk_faults (Some (binding_record records t)) desk
          (Some StopFault) after) same-text failed))
