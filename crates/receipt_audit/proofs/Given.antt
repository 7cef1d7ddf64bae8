-- The receipts that an issue gives bind their operator.
use Rattle.receipt_audit.proofs.Words.{◌≡◌, ℕ, ◌<◌, true, Bool, if◌then◌else◌, List, [], ◌∷◌, ◌++◌, length, Some, None, Ok, Err, inr, refl, sym, ap, ◌∙◌, subst, arith, Result, nat_lt, slice_range, common_steps, Secret, is_supported, leaf_count, public_key_of, signature_of, types_of, IsValid, binding_record, is_marked, messages_of, binding-messages, RootCall, AreBytes, blocks, bytes-range, length-range, number-below, bundle_in, OfferRefusal, who_is, offer_effect, Promise, Receipt, NotYet, IssueRefusal, promise_in, promise_text, promised_part, signature_part, IsPromise, audited, conviction_answer, shown_by, IssueEffect, issue_causes, issue_effect, promise_for, receipt_or, record_or, MayIssue, IsGiven, IssuesGiveReceipts, GivenReceiptsAreTaken, KeptReceiptsDoNotConvict}
use Rattle.lms_sign.proofs.Laws.{key-types, signatures_are_valid}
use Rattle.node_journal.specs.Effect.{first_cause}
use Rattle.receipt_audit.proofs.PromiseTexts.{promise-long, promises_are_read_back}
use Rattle.receipt_audit.proofs.Convictions.{kept_promises_are_not_convicted}
use Rattle.receipt_audit.proofs.Issues.{causes-none, effect-issued, effect-refused, offered-fits, offered-long, parts-in}

-- a receipt that reads and is signed is refused for its due block or for the bundle
taken : (dig : List ℕ → List ℕ) (log : List RootCall) (key receipt bundle : List ℕ) (promise : Promise)
    → is_supported (types_of key) ≡ true → IsValid key (promised_part receipt) (signature_part receipt)
    → audited dig log key receipt bundle (Some promise)
    ≡ (if nat_lt (blocks log) promise.due then Err (NotYet promise.due)
    else shown_by dig log promise (bundle_in bundle))
taken dig log key receipt bundle promise supported valid = rw (supported, valid) refl

module _ (dig judge : List ℕ → List ℕ) (secret : Secret) (notes records : List (List ℕ)) (log : List RootCall)
    (bytes : List ℕ) (due : ℕ) where
  abbrev causes : List (Bool × IssueRefusal)
  causes = issue_causes (leaf_count secret.types) records (blocks log) due

  abbrev promise : Promise
  promise = promise_for dig (who_is notes).tag (blocks log) bytes due

  abbrev text : List ℕ
  text = promise_text promise

  abbrev signature : List ℕ
  signature = signature_of secret (length (messages_of records)) text

  -- what is known where a receipt was given
  record IsIssued (receipt : Receipt) : Type 0 where
    none : first_cause causes ≡ None
    coin : ℕ
    coin_is : Ok coin ≡ (offer_effect judge notes log bytes).answer
    bytes_are : receipt.bytes ≡ text ++ signature
    leaf : (issue_effect dig judge secret notes records log bytes due).leaf ≡ Some (binding_record records text)

  issued-by : (answered : Result ℕ OfferRefusal) → (offer_effect judge notes log bytes).answer ≡ answered
      → (receipt : Receipt) → first_cause causes ≡ None → receipt_or secret records text answered ≡ Ok receipt
      → IsIssued receipt
  issued-by (Err why) answered_is receipt none is = absurd (cc is)
  issued-by (Ok coin) answered_is receipt none is =
      let same : ◌≡◌ {A = Receipt} (record { bytes = text ++ signature }) receipt = cc is in
      record {
        none = none;
        coin = coin;
        coin_is = sym answered_is;
        bytes_are = sym (ap (λ (r : Receipt). r.bytes) same);
        leaf = ap (λ (e : IssueEffect). e.leaf) (effect-issued dig judge secret notes records log bytes due none)
            ∙ ap (record_or records text) answered_is;
      }

  is-issued : (receipt : Receipt) → (issue_effect dig judge secret notes records log bytes due).answer ≡ Ok receipt
      → IsIssued receipt
  is-issued receipt is =
      (elim (first_cause causes) as (λ o. first_cause causes ≡ o → IsIssued receipt) [
        | Some why ↦ grind (arith, common_steps, effect-refused) steps 20000
        | None ↦ λ none. issued-by (offer_effect judge notes log bytes).answer refl receipt none
            (grind (arith, common_steps, effect-issued) steps 20000)
      ]) refl

  module _ (may : MayIssue dig secret bytes due) (receipt : Receipt) (given : IsIssued receipt) where
    fine : (blocks log < due) × (is_marked records ≡ true) × (length (messages_of records) < leaf_count secret.types)
    fine = causes-none (leaf_count secret.types) records (blocks log) due given.none

    fits : IsPromise promise
    fits =
        let read = offered-fits judge notes log bytes given.coin given.coin_is in
        let long = offered-long judge notes log bytes given.coin given.coin_is in
        record {
          tag = ap length (sym read.tagged)
              ∙ length-range bytes 4 36 (omega arith) (omega (arith, long));
          digest = may.long bytes;
          coin = number-below (slice_range bytes 36 44) (bytes-range bytes 36 44 may.small);
          parent = number-below (slice_range bytes 44 52) (bytes-range bytes 44 52 may.small);
          issued = omega (arith, fine.0, may.narrow);
          due = may.narrow;
        }

    parts : (promised_part receipt.bytes ≡ text) × (signature_part receipt.bytes ≡ signature)
    parts = parts-in text signature receipt.bytes (promise-long promise fits) given.bytes_are

    read : promise_in (who_is notes).tag receipt.bytes ≡ Some promise
    read =
        ap (promise_in (who_is notes).tag) given.bytes_are ∙ promises_are_read_back promise signature fits

    valid : IsValid (public_key_of secret) (promised_part receipt.bytes) (signature_part receipt.bytes)
    valid =
        subst (λ (m : List ℕ). IsValid (public_key_of secret) m (signature_part receipt.bytes)) (sym parts.0)
        (subst (λ (s : List ℕ). IsValid (public_key_of secret) text s) (sym parts.1)
        (signatures_are_valid secret (length (messages_of records)) text may.supported may.id fine.2))

    is-given : IsGiven dig secret notes records log bytes due receipt.bytes (records ++ binding_record records text
        ∷ [])
    is-given =
        let long = promise-long promise fits in
        record {
          promise = read;
          early = fine.0;
          signed = valid;
          leaf = parts.1
              ∙ ap (signature_of secret (length (messages_of records))) (sym parts.0);
          bound = binding-messages records text (inr (fine.1, omega (arith, long), omega (arith, long)))
              ∙ ap (λ (m : List ℕ). messages_of records ++ m ∷ []) (sym parts.0);
        }

pub issues_give_receipts : IssuesGiveReceipts
issues_give_receipts dig judge secret notes records log bytes due receipt may is =
    let given = is-issued dig judge secret notes records log bytes due receipt is in (
      binding_record records (text dig judge secret notes records log bytes due),
      given.leaf,
      is-given dig judge secret notes records log bytes due may receipt given,
    )

pub given_receipts_are_taken : GivenReceiptsAreTaken
unfolding conviction_answer
given_receipts_are_taken dig judge secret notes records log bytes due receipt chain bundle may is tagged =
    let given = is-issued dig judge secret notes records log bytes due receipt is in
    ap (audited dig chain.log (public_key_of secret) receipt.bytes bundle)
    (ap (λ (t : List ℕ). promise_in t receipt.bytes) tagged
    ∙ read dig judge secret notes records log bytes due may receipt given)
    ∙ taken dig chain.log (public_key_of secret) receipt.bytes bundle
    (promise dig judge secret notes records log bytes due)
    (ap is_supported (key-types secret may.supported may.id) ∙ may.supported)
    (valid dig judge secret notes records log bytes due may receipt given)

pub kept_receipts_do_not_convict : KeptReceiptsDoNotConvict
kept_receipts_do_not_convict dig judge secret notes records log bytes due receipt chain key bundle n entries conviction
    may is tagged small others less le has below leaf_is convicts =
    let given = is-issued dig judge secret notes records log bytes due receipt is in
    let long = offered-long judge notes log bytes given.coin given.coin_is in
    kept_promises_are_not_convicted dig chain (promise dig judge secret notes records log bytes due) key
    (signature dig judge secret notes records log bytes due) bytes bundle n entries conviction may.long
    (subst AreBytes given.bytes_are small) others (fits dig judge secret notes records log bytes due may receipt given)
    (sym tagged) refl (λ e. absurd (omega (arith, long, ap length e))) less le has below leaf_is
    (subst (λ (b : List ℕ). conviction_answer dig chain key b bundle ≡ Ok conviction) given.bytes_are convicts)
