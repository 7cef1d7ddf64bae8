-- What holds of the audit of a receipt, and of the receipts that an issue gives.
use Rattle.std.specs.Prelude.{◌≡◌, ◌≢◌, ℕ, ◌^◌, ◌<◌, ◌≤◌, true, nat_lt, if◌then◌else◌, List, [], ◌∷◌, ◌++◌, length, Some, Ok, Err}
use Rattle.std.specs.List.{All}
use Rattle.lms_sign.specs.{declared.secret.Secret.{Secret}, Types.{is_supported}, Tree.{public_key_of, signature_of}, Valid.{IsValid}}
use Rattle.leaf_journal.specs.Records.{messages_of}
use Rattle.sparse_merkle.specs.{declared.tree.Entry.{Entry}, TreeDigest.{leaf_of, root_of}}
use Rattle.plasma_tx.specs.{declared.call.RootCall.{RootCall}, Chain.{Chain}, Spelling.{AreBytes, body_at_start}, Shown.{Tests, root_at}, Views.{blocks}}
use Rattle.coin_history.specs.{declared.bundle.Bundle.{Bundle}, Bundles.{AreRising, bundle_in}}
use Rattle.operator_rules.specs.Records.{who_is}
use Rattle.receipt_audit.specs.{declared.promise.Promise.{Promise}, declared.issuing.Receipt.{Receipt}, declared.audit.Conviction.{Conviction}, declared.refusal.AuditRefusal.TheVariants.{NotYet, NoMemory}}
use Rattle.receipt_audit.specs.{Promises.{promise_in, promise_text, promised_part, signature_part, IsPromise}, Audit.{breach_of, conviction_answer, shown_by, ClashesAt, IsBroken, ShowsBreach}, Desk.{issue_effect, promise_for}}

-- the test of a bundle of the promise's coin, whose blocks rise, passes exactly what goes to the due block and shows a
-- breach
abbrev pub OnlyBreachesPass : Type 0
OnlyBreachesPass = (tests : Tests) (dig : List ℕ → List ℕ) (log : List RootCall) (promise : Promise) (bundle : Bundle)
    → AreRising bundle.openings → breach_of tests dig log promise bundle ≡ Ok tt
    → (bundle.tip ≡ promise.due) × ShowsBreach tests dig log promise bundle.openings

abbrev pub BreachesPass : Type 0
BreachesPass = (tests : Tests) (dig : List ℕ → List ℕ) (log : List RootCall) (promise : Promise) (bundle : Bundle)
    → bundle.tip ≡ promise.due → ShowsBreach tests dig log promise bundle.openings
    → breach_of tests dig log promise bundle ≡ Ok tt

-- a conviction shows a broken promise
abbrev pub ConvictionsShowBrokenPromises : Type 0
ConvictionsShowBrokenPromises = (dig : List ℕ → List ℕ) (chain : Chain) (key receipt bundle : List ℕ)
    (conviction : Conviction)
    → ((bytes : List ℕ) → length (dig bytes) ≡ 32) → AreBytes receipt → AreBytes bundle
    → conviction_answer dig chain key receipt bundle ≡ Ok conviction → IsBroken dig chain key receipt bundle

-- A promise is kept by the block of a map that has, at the promise's coin, bytes of the promised digest, if the block
-- comes after the promise was issued and is at most the due one. Where it convicts all the same, the bundle's opening
-- of that block and the map show two different strings of one digest.
abbrev pub KeptPromisesAreNotConvicted : Type 0
KeptPromisesAreNotConvicted = (dig : List ℕ → List ℕ) (chain : Chain) (promise : Promise)
    (key signature bytes bundle : List ℕ) (n : ℕ) (entries : List Entry) (conviction : Conviction)
    → ((bytes : List ℕ) → length (dig bytes) ≡ 32) → AreBytes (promise_text promise ++ signature)
    → AreBytes bundle
    → IsPromise promise → promise.tag ≡ chain.tag → promise.digest ≡ dig bytes → bytes ≢ []
    → promise.issued < n → n ≤ promise.due → root_at chain.log n ≡ Some (root_of dig entries)
    → All (λ entry. entry.coin < 2 ^ 64) entries → leaf_of entries promise.coin ≡ bytes
    → conviction_answer dig chain key (promise_text promise ++ signature) bundle ≡ Ok conviction
    → (shown : Bundle) × (bundle_in bundle ≡ Ok shown) × ClashesAt dig promise.coin n entries shown.openings

-- An audit's own answer isn't want of memory.
abbrev pub AuditsHaveTheirCauses : Type 0
AuditsHaveTheirCauses = (dig : List ℕ → List ℕ) (chain : Chain) (key receipt bundle : List ℕ)
    → conviction_answer dig chain key receipt bundle ≢ Err NoMemory

-- ---- receipts that an issue gives

-- An issue over values of their types: a digest of 32 bytes, a key of supported types with an identifier of 16 bytes,
-- a transfer's bytes, and a due block of 64 bits.
pub record MayIssue (dig : List ℕ → List ℕ) (secret : Secret) (bytes : List ℕ) (due : ℕ) : Type 0 where
  pub long : (message : List ℕ) → length (dig message) ≡ 32
  pub supported : is_supported secret.types ≡ true
  pub id : length secret.id ≡ 16
  pub small : AreBytes bytes
  pub narrow : due < 2 ^ 64

-- A receipt that a desk gives for a transfer: it begins with the promise of the transfer, by a due block that isn't
-- there yet; the desk's next leaf signs that promise, and is bound to it in the records that the desk has then.
pub record IsGiven (dig : List ℕ → List ℕ) (secret : Secret) (notes records : List (List ℕ)) (log : List RootCall)
    (bytes : List ℕ) (due : ℕ) (receipt : List ℕ) (after : List (List ℕ)) : Type 0 where
  pub promise : promise_in (who_is notes).tag receipt
      ≡ Some (promise_for dig (who_is notes).tag (blocks log) bytes due)
  pub early : blocks log < due
  pub signed : IsValid (public_key_of secret) (promised_part receipt) (signature_part receipt)
  pub leaf : signature_part receipt ≡ signature_of secret (length (messages_of records)) (promised_part receipt)
  pub bound : messages_of after ≡ messages_of records ++ promised_part receipt ∷ []

-- what an issue gives by its definition is such a receipt
abbrev pub IssuesGiveReceipts : Type 0
IssuesGiveReceipts = (dig judge : List ℕ → List ℕ) (secret : Secret) (notes records : List (List ℕ))
    (log : List RootCall) (bytes : List ℕ) (due : ℕ) (receipt : Receipt)
    → MayIssue dig secret bytes due
    → (issue_effect dig judge secret notes records log bytes due).answer ≡ Ok receipt
    → (body : List ℕ) × ((issue_effect dig judge secret notes records log bytes due).leaf ≡ Some body)
    × IsGiven dig secret notes records log bytes due receipt.bytes (records ++ body ∷ [])

-- An auditor takes it at any later log of the chain: the one cause left, beside those of the bundle, is a due block
-- that isn't there.
abbrev pub GivenReceiptsAreTaken : Type 0
GivenReceiptsAreTaken = (dig judge : List ℕ → List ℕ) (secret : Secret) (notes records : List (List ℕ))
    (log : List RootCall) (bytes : List ℕ) (due : ℕ) (receipt : Receipt) (chain : Chain) (bundle : List ℕ)
    → MayIssue dig secret bytes due
    → (issue_effect dig judge secret notes records log bytes due).answer ≡ Ok receipt
    → chain.tag ≡ (who_is notes).tag
    → conviction_answer dig chain (public_key_of secret) receipt.bytes bundle
    ≡ (if nat_lt (blocks chain.log) due then Err (NotYet due)
    else shown_by dig chain.log (promise_for dig (who_is notes).tag (blocks log) bytes due) (bundle_in bundle))

-- An operator that gave a receipt and committed the transfer behind it and in time isn't convicted, but by two
-- different strings of one digest: the bundle's opening of that block and the operator's map show them.
abbrev pub KeptReceiptsDoNotConvict : Type 0
KeptReceiptsDoNotConvict = (dig judge : List ℕ → List ℕ) (secret : Secret) (notes records : List (List ℕ))
    (log : List RootCall) (bytes : List ℕ) (due : ℕ) (receipt : Receipt) (chain : Chain) (key bundle : List ℕ)
    (n : ℕ) (entries : List Entry) (conviction : Conviction)
    → MayIssue dig secret bytes due
    → (issue_effect dig judge secret notes records log bytes due).answer ≡ Ok receipt
    → chain.tag ≡ (who_is notes).tag → AreBytes receipt.bytes → AreBytes bundle
    → blocks log < n → n ≤ due → root_at chain.log n ≡ Some (root_of dig entries)
    → All (λ entry. entry.coin < 2 ^ 64) entries → leaf_of entries (body_at_start bytes).coin ≡ bytes
    → conviction_answer dig chain key receipt.bytes bundle ≡ Ok conviction
    → (shown : Bundle) × (bundle_in bundle ≡ Ok shown)
    × ClashesAt dig (body_at_start bytes).coin n entries shown.openings
