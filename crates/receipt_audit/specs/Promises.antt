-- Promises and receipts: an operator promises that a transfer will be in a block by a certain one, and signs that.
use Rattle.std.specs.Prelude.{◌≡◌, ◌≢◌, ℕ, ◌^◌, ◌<◌, ◌==◌, ◌&&◌, nat_le, Bool, if◌then◌else◌, List, [], ◌++◌, length, take, drop, slice_range, codes, Option, Some, None}
use Rattle.std.specs.Str.{bytes_eq}
use Rattle.sparse_merkle.specs.{declared.tree.Entry.{Entry}, TreeDigest.{leaf_of}}
use Rattle.plasma_tx.specs.Spelling.{number_text, number_at, AreBytes}
use Rattle.receipt_audit.specs.declared.promise.Promise.{Promise}

-- what a promise begins with
abbrev pub promise_mark : List ℕ
promise_mark = codes "PCR1"

-- a promise: these 100 bytes, with a tag and a digest of 32 bytes
unfoldable pub promise_text : Promise → List ℕ
promise_text promise =
    promise_mark ++ promise.tag ++ number_text promise.coin ++ number_text promise.parent ++ promise.digest
    ++ number_text promise.issued ++ number_text promise.due

-- whether the bytes begin with the mark of a promise, and are long enough for one
abbrev pub begins_promise : List ℕ → Bool
begins_promise bytes = nat_le 100 (length bytes) && bytes_eq (take 4 bytes) promise_mark

-- the promise that the bytes begin with, where they do
abbrev pub promise_at_start : List ℕ → Promise
promise_at_start bytes = record {
  tag = slice_range bytes 4 36;
  coin = number_at bytes 36;
  parent = number_at bytes 44;
  digest = slice_range bytes 52 84;
  issued = number_at bytes 84;
  due = number_at bytes 92;
}

-- the messages of a desk's leaves: a promise, of whatever chain
abbrev pub is_promise : List ℕ → Bool
is_promise message = (length message == 100) && begins_promise message

-- A receipt is a promise and the signature behind it. The promise with this tag that a receipt begins with, and both
-- parts:
unfoldable pub promise_in : List ℕ → List ℕ → Option Promise
promise_in tag receipt =
    if begins_promise receipt && bytes_eq (slice_range receipt 4 36) tag then Some (promise_at_start receipt) else None

abbrev pub promised_part : List ℕ → List ℕ
promised_part receipt = take 100 receipt

abbrev pub signature_part : List ℕ → List ℕ
signature_part receipt = drop 100 receipt

-- a promise of the type: a tag and a digest of 32 bytes, and numbers of 64 bits
pub record IsPromise (promise : Promise) : Type 0 where
  pub tag : length promise.tag ≡ 32
  pub digest : length promise.digest ≡ 32
  pub coin : promise.coin < 2 ^ 64
  pub parent : promise.parent < 2 ^ 64
  pub issued : promise.issued < 2 ^ 64
  pub due : promise.due < 2 ^ 64

-- a promise's bytes are read as that promise, under its own tag and before every signature
abbrev pub PromisesAreReadBack : Type 0
PromisesAreReadBack = (promise : Promise) (signature : List ℕ) → IsPromise promise
    → promise_in promise.tag (promise_text promise ++ signature) ≡ Some promise

-- the bytes that are read as a promise are its own, and it has the tag
abbrev pub PromisesHaveOneSpelling : Type 0
PromisesHaveOneSpelling = (tag receipt : List ℕ) (promise : Promise) → AreBytes receipt
    → promise_in tag receipt ≡ Some promise
    → (promised_part receipt ≡ promise_text promise) × (promise.tag ≡ tag) × IsPromise promise

-- ---- kept promises

-- the map has the promised transfer at the promise's coin, by its digest
pub record Honours (dig : List ℕ → List ℕ) (entries : List Entry) (promise : Promise) : Type 0 where
  pub there : leaf_of entries promise.coin ≢ []
  pub digest : dig (leaf_of entries promise.coin) ≡ promise.digest
