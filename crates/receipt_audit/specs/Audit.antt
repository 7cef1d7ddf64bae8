-- The audit of a receipt: openings of each block of its span, none of which has the promised transfer.
use Rattle.std.specs.Prelude.{◌≡◌, ◌⊎◌, ℕ, ◌^◌, ◌<◌, ◌≤◌, ◌==◌, ◌&&◌, not, Bool, true, false, nat_lt, if◌then◌else◌, List, [], ◌∷◌, ◌++◌, Option, Some, None, Result, Ok, Err}
use Rattle.std.specs.List.{All, Contains}
use Rattle.std.specs.Str.{bytes_eq}
use Rattle.lms_sign.specs.{Types.{is_supported}, Valid.{types_of, is_valid, IsValid}}
use Rattle.sparse_merkle.specs.{declared.tree.Entry.{Entry}, TreeDigest.{leaf_of, root_of, path_to}, MaskedPath.{proof_path}, Opening.{hashed_strings, HasClash}}
use Rattle.plasma_tx.specs.{declared.opening.RawOpening.{RawOpening}, declared.opening.Opening.{Opening}, declared.call.RootCall.{RootCall}, Chain.{Chain}, Openings.{opening_in}, Views.{blocks}, Shown.{Tests, tests_by, root_at}}
use Rattle.coin_history.specs.{declared.bundle.Bundle.{Bundle}, declared.refusal.HistoryRefusal.{HistoryRefusal}}
use Rattle.coin_history.specs.{declared.refusal.HistoryRefusal.TheVariants.{BadBundle as BadBytes, UnknownBlock as Unknown, MissingBlock as Missing, BadOpening as Unopened, NotAbsent, NoCoin, NotLink, BadSignature}, Bundles.{bundle_in}}
use Rattle.coin_history.specs.{History.{blocks_of, committed_blocks, is_absent, leaf_of_opening, opens_block}, Checking.{above, first_cause, is_asked, lowest_failure, missing, opening_at, opening_causes, unless_failed}}
use Rattle.receipt_audit.specs.{declared.promise.Promise.{Promise}, declared.audit.Conviction.{Conviction}, declared.refusal.AuditRefusal.{AuditRefusal}}
use Rattle.receipt_audit.specs.declared.refusal.AuditRefusal.TheVariants.{BadReceipt, BadKey, NotSigned, NotYet, BadBundle, OtherCoin, UnknownBlock, MissingBlock, BadOpening, Honoured, NoMemory}
use Rattle.receipt_audit.specs.Promises.{promise_in, promised_part, signature_part, Honours}

-- the opening shows the promised transfer
abbrev pub is_kept : (List ℕ → List ℕ) → Promise → RawOpening → Bool
is_kept dig promise opening = not (is_absent opening) && bytes_eq (dig (leaf_of_opening opening)) promise.digest

-- Openings show that a promise was broken: each committed block after it was issued and up to the due one has one
-- opening, which opens its root at the coin and doesn't show the transfer, and there are no other openings.
pub record ShowsBreach (tests : Tests) (dig : List ℕ → List ℕ) (log : List RootCall) (promise : Promise)
    (openings : List RawOpening) : Type 0 where
  pub blocks : blocks_of openings ≡ committed_blocks log promise.issued promise.due
  pub opened : All (λ opening. opens_block tests log promise.coin opening ≡ true) openings
  pub unkept : All (λ opening. is_kept dig promise opening ≡ false) openings

-- ---- what it is refused for

-- What is wrong at block n, in the words of histories, in which `NotAbsent` says that the block has the transfer.
abbrev pub failure_of_breach : Tests → (List ℕ → List ℕ) → List RootCall → Promise → ℕ → Option RawOpening
    → Option HistoryRefusal
failure_of_breach tests dig log promise n None = missing (is_asked log promise.issued promise.due n) n
failure_of_breach tests dig log promise n (Some opening) =
    first_cause
    (opening_causes tests log promise.coin (is_asked log promise.issued promise.due n) opening
    ++ (is_kept dig promise opening, NotAbsent opening.block) ∷ [])

-- that a bundle's openings show a breach, or what they are refused for
unfoldable pub breach_of : Tests → (List ℕ → List ℕ) → List RootCall → Promise → Bundle → Result Unit HistoryRefusal
breach_of tests dig log promise bundle =
    if bundle.tip == promise.due
    then unless_failed
    (lowest_failure
    (λ n. failure_of_breach tests dig log promise n (opening_at bundle.openings n))
    (above promise.due bundle.openings))
    tt
    else Err (Unknown bundle.tip)

-- a bundle that is read or shows a breach is refused for none of these three
abbrev pub is_of_audit : HistoryRefusal → Bool
is_of_audit NoCoin = false
is_of_audit (NotLink n) = false
is_of_audit (BadSignature n) = false
is_of_audit why = true

-- the others as an auditor's refusal
abbrev pub audit_refusal : HistoryRefusal → AuditRefusal
audit_refusal (BadBytes place) = BadBundle place
audit_refusal (Unknown n) = UnknownBlock n
audit_refusal (Missing n) = MissingBlock n
audit_refusal (Unopened n) = BadOpening n
audit_refusal (NotAbsent n) = Honoured n
audit_refusal why = NoMemory

-- ---- the answer

-- what a promise that was broken convicts of
abbrev pub conviction_of : Promise → Conviction
conviction_of promise = record { coin = promise.coin; issued = promise.issued; due = promise.due }

abbrev pub convicted : Promise → Result Unit HistoryRefusal → Result Conviction AuditRefusal
convicted promise (Ok done) = Ok (conviction_of promise)
convicted promise (Err why) = Err (audit_refusal why)

-- what a bundle that was read shows of a promise
abbrev pub shown_by : (List ℕ → List ℕ) → List RootCall → Promise → Result Bundle HistoryRefusal
    → Result Conviction AuditRefusal
shown_by dig log promise (Err why) = Err (audit_refusal why)
shown_by dig log promise (Ok bundle) =
    if bundle.coin == promise.coin then convicted promise (breach_of (tests_by dig) dig log promise bundle)
    else Err (OtherCoin bundle.coin)

-- the answer, where a receipt begins with this promise
abbrev pub audited : (List ℕ → List ℕ) → List RootCall → List ℕ → List ℕ → List ℕ → Option Promise
    → Result Conviction AuditRefusal
audited dig log key receipt bundle None = Err BadReceipt
audited dig log key receipt bundle (Some promise) =
    if not (is_supported (types_of key)) then Err BadKey
    else if not (is_valid key (promised_part receipt) (signature_part receipt)) then Err NotSigned
    else if nat_lt (blocks log) promise.due then Err (NotYet promise.due)
    else shown_by dig log promise (bundle_in bundle)

-- the answer to a key, a receipt and a bundle, by a chain's log
unfoldable pub conviction_answer : (List ℕ → List ℕ) → Chain → List ℕ → List ℕ → List ℕ → Result Conviction AuditRefusal
conviction_answer dig chain key receipt bundle =
    audited dig chain.log key receipt bundle (promise_in chain.tag receipt)

-- A receipt is due: it begins with a promise of the chain, which the owner of the key signed, and the due block is
-- there.
pub record IsDue (chain : Chain) (key receipt : List ℕ) : Type 0 where
  pub promise : Promise
  pub is_promise : promise_in chain.tag receipt ≡ Some promise
  pub supported : is_supported (types_of key) ≡ true
  pub signed : IsValid key (promised_part receipt) (signature_part receipt)
  pub there : promise.due ≤ blocks chain.log

-- ---- what it means

-- One of the openings is of block n, and with the path of the coin in a map it shows two different strings of one
-- digest.
pub record ClashesAt (dig : List ℕ → List ℕ) (coin n : ℕ) (entries : List Entry) (openings : List RawOpening)
    : Type 0 where
  pub raw : RawOpening
  pub opening : Opening
  pub shown : Contains openings raw
  pub block : raw.block ≡ n
  pub reads : opening_in dig raw ≡ Ok opening
  pub clash : HasClash dig (hashed_strings dig coin opening.leaf (proof_path dig opening.proof))
      (hashed_strings dig coin (leaf_of entries coin) (path_to dig coin entries))

-- A receipt's promise was broken: it is signed under the key; and of each map whose root a block after it was issued
-- and up to the due one has, the map doesn't honour it, or the bundle's opening of the block and the map show two
-- different strings of one digest.
pub record IsBroken (dig : List ℕ → List ℕ) (chain : Chain) (key receipt bundle : List ℕ) : Type 0 where
  pub promise : Promise
  pub shown : Bundle
  pub is_promise : promise_in chain.tag receipt ≡ Some promise
  pub is_bundle : bundle_in bundle ≡ Ok shown
  pub signed : IsValid key (promised_part receipt) (signature_part receipt)
  pub broken : (n : ℕ) (root : List ℕ) (entries : List Entry) → promise.issued < n → n ≤ promise.due
      → root_at chain.log n ≡ Some root → All (λ entry. entry.coin < 2 ^ 64) entries → root_of dig entries ≡ root
      → (Honours dig entries promise → ⊥) ⊎ ClashesAt dig promise.coin n entries shown.openings
