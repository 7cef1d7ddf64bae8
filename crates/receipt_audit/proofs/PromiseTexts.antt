-- Promises are read as they are written, and have one spelling.
use Rattle.receipt_audit.proofs.Words.{◌≡◌, ℕ, ◌+◌, ◌^◌, ◌<◌, ◌≤◌, ◌&&◌, Bool, true, false, if◌then◌else◌, List, [], ◌++◌, Some, None, length, take, refl, sym, ap, ◌∙◌, subst, arith, nat_le, slice_range, bytes_eq, and_from, and_parts, le-leb, leb-true, length-append, bytes_eq-Decides, common_steps, number_text, number_at, AreBytes, some_same, range-front, range-back, range-join, length-range, bytes-range, number-below, number-bytes, number-in, Promise, promise_mark, promise_text, begins_promise, promise_at_start, promise_in, promised_part, IsPromise, PromisesAreReadBack, PromisesHaveOneSpelling}

-- ---- a promise's parts in the bytes

module _ (mark tag coin parent digest issued due rest : List ℕ) (mark_long : length mark ≡ 4)
    (tag_long : length tag ≡ 32) (coin_long : length coin ≡ 8) (parent_long : length parent ≡ 8)
    (digest_long : length digest ≡ 32) (issued_long : length issued ≡ 8) (due_long : length due ≡ 8) where
  two : length (mark ++ tag) ≡ 36
  two = omega (arith, length-append mark tag)

  three : length (mark ++ tag ++ coin) ≡ 44
  three = omega (arith, two, length-append (mark ++ tag) coin)

  four : length (mark ++ tag ++ coin ++ parent) ≡ 52
  four = omega (arith, three, length-append (mark ++ tag ++ coin) parent)

  five : length (mark ++ tag ++ coin ++ parent ++ digest) ≡ 84
  five = omega (arith, four, length-append (mark ++ tag ++ coin ++ parent) digest)

  six : length (mark ++ tag ++ coin ++ parent ++ digest ++ issued) ≡ 92
  six = omega (arith, five, length-append (mark ++ tag ++ coin ++ parent ++ digest) issued)

  seven : length (mark ++ tag ++ coin ++ parent ++ digest ++ issued ++ due) ≡ 100
  seven = omega (arith, six, length-append (mark ++ tag ++ coin ++ parent ++ digest ++ issued) due)

  -- what stands within the first bytes
  within : (a b : ℕ) → a ≤ b → b ≤ 84
      → slice_range (mark ++ tag ++ coin ++ parent ++ digest ++ issued ++ due ++ rest) a b
      ≡ slice_range (mark ++ tag ++ coin ++ parent ++ digest) a b
  within a b le fits =
      range-front (mark ++ tag ++ coin ++ parent ++ digest ++ issued ++ due) rest a b le (omega (arith, seven))
      ∙ range-front (mark ++ tag ++ coin ++ parent ++ digest ++ issued) due a b le (omega (arith, six))
      ∙ range-front (mark ++ tag ++ coin ++ parent ++ digest) issued a b le (omega (arith, five))

  tag-in : slice_range (mark ++ tag ++ coin ++ parent ++ digest ++ issued ++ due ++ rest) 4 36 ≡ tag
  tag-in =
      within 4 36 (omega arith) (omega arith)
      ∙ range-front (mark ++ tag ++ coin ++ parent) digest 4 36 (omega arith) (omega (arith, four))
      ∙ range-front (mark ++ tag ++ coin) parent 4 36 (omega arith) (omega (arith, three))
      ∙ range-front (mark ++ tag) coin 4 36 (omega arith) (omega (arith, two))
      ∙ range-back mark tag 4 36 mark_long (omega arith)

  coin-in : slice_range (mark ++ tag ++ coin ++ parent ++ digest ++ issued ++ due ++ rest) 36 44 ≡ coin
  coin-in =
      within 36 44 (omega arith) (omega arith)
      ∙ range-front (mark ++ tag ++ coin ++ parent) digest 36 44 (omega arith) (omega (arith, four))
      ∙ range-front (mark ++ tag ++ coin) parent 36 44 (omega arith) (omega (arith, three))
      ∙ range-back (mark ++ tag) coin 36 44 two (omega arith)

  parent-in : slice_range (mark ++ tag ++ coin ++ parent ++ digest ++ issued ++ due ++ rest) 44 52 ≡ parent
  parent-in =
      within 44 52 (omega arith) (omega arith)
      ∙ range-front (mark ++ tag ++ coin ++ parent) digest 44 52 (omega arith) (omega (arith, four))
      ∙ range-back (mark ++ tag ++ coin) parent 44 52 three (omega arith)

  digest-in : slice_range (mark ++ tag ++ coin ++ parent ++ digest ++ issued ++ due ++ rest) 52 84 ≡ digest
  digest-in =
      within 52 84 (omega arith) (omega arith)
      ∙ range-back (mark ++ tag ++ coin ++ parent) digest 52 84 four (omega arith)

  issued-in : slice_range (mark ++ tag ++ coin ++ parent ++ digest ++ issued ++ due ++ rest) 84 92 ≡ issued
  issued-in =
      range-front (mark ++ tag ++ coin ++ parent ++ digest ++ issued ++ due) rest 84 92 (omega arith)
      (omega (arith, seven))
      ∙ range-front (mark ++ tag ++ coin ++ parent ++ digest ++ issued) due 84 92 (omega arith) (omega (arith, six))
      ∙ range-back (mark ++ tag ++ coin ++ parent ++ digest) issued 84 92 five (omega arith)

  due-in : slice_range (mark ++ tag ++ coin ++ parent ++ digest ++ issued ++ due ++ rest) 92 100 ≡ due
  due-in =
      range-front (mark ++ tag ++ coin ++ parent ++ digest ++ issued ++ due) rest 92 100 (omega arith)
      (omega (arith, seven))
      ∙ range-back (mark ++ tag ++ coin ++ parent ++ digest ++ issued) due 92 100 six (omega arith)

  mark-in : take 4 (mark ++ tag ++ coin ++ parent ++ digest ++ issued ++ due ++ rest) ≡ mark
  mark-in =
      within 0 4 (omega arith) (omega arith)
      ∙ range-front (mark ++ tag ++ coin ++ parent) digest 0 4 (omega arith) (omega (arith, four))
      ∙ range-front (mark ++ tag ++ coin) parent 0 4 (omega arith) (omega (arith, three))
      ∙ range-front (mark ++ tag) coin 0 4 (omega arith) (omega (arith, two))
      ∙ range-front mark tag 0 4 (omega arith) (omega arith)
      ∙ range-back [] mark 0 4 refl (omega arith)

-- ---- read back

-- what the bytes begin with is read where the mark and the tag are there
pub read-promise : (tag receipt : List ℕ) → begins_promise receipt ≡ true → slice_range receipt 4 36 ≡ tag
    → promise_in tag receipt ≡ Some (promise_at_start receipt)
unfolding promise_in
read-promise tag receipt begins tagged =
    ap (λ (b : Bool). if b then Some (promise_at_start receipt) else None)
    (and_from (begins_promise receipt) (bytes_eq (slice_range receipt 4 36) tag) begins
    ((bytes_eq-Decides (slice_range receipt 4 36) tag).1 tagged))

pub promises_are_read_back : PromisesAreReadBack
unfolding promise_text
promises_are_read_back promise signature h =
    let mark = promise_mark in
    let coin = number_text promise.coin in
    let parent = number_text promise.parent in
    let issued = number_text promise.issued in
    let due = number_text promise.due in
    let whole : List ℕ = promise_mark ++ promise.tag ++ number_text promise.coin ++ number_text promise.parent
    ++ promise.digest ++ number_text promise.issued ++ number_text promise.due ++ signature in
    let long = seven mark promise.tag coin parent promise.digest issued due signature refl h.tag refl refl h.digest
    refl refl in
    let marked = mark-in mark promise.tag coin parent promise.digest issued due signature refl h.tag refl refl h.digest
    refl refl in
    let tagged = tag-in mark promise.tag coin parent promise.digest issued due signature refl h.tag refl refl h.digest
    refl refl in
    let begins : begins_promise whole ≡ true =
    grind (arith, common_steps, and_from, le-leb, length-append, bytes_eq-Decides) steps 20000 in
    let coin_is = number-in whole 36 promise.coin h.coin (coin-in mark promise.tag coin parent promise.digest issued due
    signature refl h.tag refl refl h.digest refl refl) in
    let parent_is = number-in whole 44 promise.parent h.parent (parent-in mark promise.tag coin parent promise.digest
    issued due signature refl h.tag refl refl h.digest refl refl) in
    let digest_is = digest-in mark promise.tag coin parent promise.digest issued due signature refl h.tag refl refl
    h.digest refl refl in
    let issued_is = number-in whole 84 promise.issued h.issued (issued-in mark promise.tag coin parent promise.digest
    issued due signature refl h.tag refl refl h.digest refl refl) in
    let due_is = number-in whole 92 promise.due h.due (due-in mark promise.tag coin parent promise.digest issued due
    signature refl h.tag refl refl h.digest refl refl) in
    read-promise promise.tag whole begins tagged
    ∙ ap Some (λ i. record {
      tag = tagged i;
      coin = coin_is i;
      parent = parent_is i;
      digest = digest_is i;
      issued = issued_is i;
      due = due_is i;
    })

-- a promise has 100 bytes
pub promise-long : (promise : Promise) → IsPromise promise → length (promise_text promise) ≡ 100
unfolding promise_text
promise-long promise h =
    seven promise_mark promise.tag (number_text promise.coin) (number_text promise.parent) promise.digest
    (number_text promise.issued) (number_text promise.due) [] refl h.tag refl refl h.digest refl refl

-- ---- one spelling

-- what is known where a receipt begins with a promise
pub record IsRead (tag receipt : List ℕ) (promise : Promise) : Type 0 where
  pub begins : begins_promise receipt ≡ true
  pub long : 100 ≤ length receipt
  pub marked : take 4 receipt ≡ promise_mark
  pub tagged : slice_range receipt 4 36 ≡ tag
  pub is : promise ≡ promise_at_start receipt

pub promise-read : (tag receipt : List ℕ) (promise : Promise) → promise_in tag receipt ≡ Some promise
    → IsRead tag receipt promise
unfolding promise_in
promise-read tag receipt promise is =
    (elim (begins_promise receipt && bytes_eq (slice_range receipt 4 36) tag) as
    (λ b. (begins_promise receipt && bytes_eq (slice_range receipt 4 36) tag) ≡ b
    → (if b then Some (promise_at_start receipt) else None) ≡ Some promise → IsRead tag receipt promise) [
      | true ↦ λ both same.
          let parts = and_parts (begins_promise receipt) (bytes_eq (slice_range receipt 4 36) tag) both in
          let begun = and_parts (nat_le 100 (length receipt)) (bytes_eq (take 4 receipt) promise_mark) parts.0 in
          record {
            begins = parts.0;
            long = leb-true 100 (length receipt) begun.0;
            marked = (bytes_eq-Decides (take 4 receipt) promise_mark).0 begun.1;
            tagged = (bytes_eq-Decides (slice_range receipt 4 36) tag).0 parts.1;
            is = sym (some_same (promise_at_start receipt) promise same);
          }
      | false ↦ λ other wrong. absurd (cc wrong)
    ]) refl is

module _ (bytes : List ℕ) (small : AreBytes bytes) (long : 100 ≤ length bytes) where
  number-there : (place : ℕ) → place + 8 ≤ length bytes
      → number_text (number_at bytes place) ≡ slice_range bytes place (place + 8)
  number-there place fits = number-bytes (slice_range bytes place (place + 8))
      (bytes-range bytes place (place + 8) small)
      (omega (arith, length-range bytes place (place + 8) (omega arith) fits))

  number-fits : (place : ℕ) → number_at bytes place < 2 ^ 64
  number-fits place = number-below (slice_range bytes place (place + 8)) (bytes-range bytes place (place + 8) small)

  text-there : promise_mark ≡ take 4 bytes → promise_text (promise_at_start bytes) ≡ take 100 bytes
  unfolding promise_text
  text-there is =
      let coin = number-there 36 (omega arith) in
      let parent = number-there 44 (omega arith) in
      let issued = number-there 84 (omega arith) in
      let due = number-there 92 (omega arith) in
      (λ i. is i ++ slice_range bytes 4 36 ++ coin i ++ parent i ++ slice_range bytes 52 84 ++ issued i ++ due i)
      ∙ ap (λ (front : List ℕ). front ++ slice_range bytes 36 44 ++ slice_range bytes 44 52 ++ slice_range bytes 52 84
      ++ slice_range bytes 84 92 ++ slice_range bytes 92 100) (range-join bytes 4 36 (omega arith))
      ∙ ap (λ (front : List ℕ). front ++ slice_range bytes 44 52 ++ slice_range bytes 52 84 ++ slice_range bytes 84 92
      ++ slice_range bytes 92 100) (range-join bytes 36 44 (omega arith))
      ∙ ap (λ (front : List ℕ). front ++ slice_range bytes 52 84 ++ slice_range bytes 84 92 ++ slice_range bytes 92 100)
      (range-join bytes 44 52 (omega arith))
      ∙ ap (λ (front : List ℕ). front ++ slice_range bytes 84 92 ++ slice_range bytes 92 100)
      (range-join bytes 52 84 (omega arith))
      ∙ ap (λ (front : List ℕ). front ++ slice_range bytes 92 100) (range-join bytes 84 92 (omega arith))
      ∙ range-join bytes 92 100 (omega arith)

  start-is : IsPromise (promise_at_start bytes)
  start-is = record {
    tag = length-range bytes 4 36 (omega arith) (omega arith);
    digest = length-range bytes 52 84 (omega arith) (omega arith);
    coin = number-fits 36;
    parent = number-fits 44;
    issued = number-fits 84;
    due = number-fits 92;
  }

pub promises_have_one_spelling : PromisesHaveOneSpelling
promises_have_one_spelling tag receipt promise small is =
    let read = promise-read tag receipt promise is in
    subst (λ (p : Promise). (promised_part receipt ≡ promise_text p) × (p.tag ≡ tag) × IsPromise p) (sym read.is)
    (sym (text-there receipt small read.long (sym read.marked)), read.tagged, start-is receipt small read.long)
