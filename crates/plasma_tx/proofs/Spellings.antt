-- Owners, bodies and signed transfers are read as they are written, and have one spelling.
use Rattle.plasma_tx.proofs.Words.{◌≡◌, ℕ, ◌^◌, ◌<◌, ◌≤◌, Bool, true, false, ◌||◌, nat_lt, List, [], ◌++◌, Option, Some, None, Ok, Err, length, take, drop, refl, sym, ap, ◌∙◌, inl, inr, append_assoc, append-nil, arith, IfSome, Result, slice_range, cases_Bool, ltb-false, le-ltb, length-append, take_all, take-append-drop, length-drop, drop_at, common_steps, Owner, SignedTx, TxRefusal, number_text, number_at, owner_text, owner_in, first_mark, second_mark, mark_of, common_text, body_text, signed_text, has_first_mark, has_second_mark, body_length, body_at_start, body_in, with_signature, signed_in, IsOwner, IsBody, AreBytes}
use Rattle.std.specs.Str.{bytes_eq}
use Rattle.std.proofs.lemmas.Slice.Eq.{bytes_eq-Decides}
use Rattle.plasma_tx.specs.declared.body.Body.{Body}
use Rattle.plasma_tx.specs.declared.signed_tx.TxRefusal.TheVariants.{Short, BadMark, BadTag}
use Rattle.plasma_tx.proofs.Parts.{range-front, range-back, range-join, length-range, bytes-range, number-below, number-bytes, number-in}

-- ---- owners

pub owner_in-text : (owner : Owner) → IsOwner owner → owner_in (owner_text owner) ≡ owner
unfolding owner_in owner_text
owner_in-text owner h =
    let key_long = h.key in
    let account : number_at (number_text owner.account ++ owner.key) 0 ≡ owner.account =
    number-in (number_text owner.account ++ owner.key) 0 owner.account h.account
    (range-front (number_text owner.account) owner.key 0 8 (omega arith) (omega arith)) in
    let key : slice_range (number_text owner.account ++ owner.key) 8 64 ≡ owner.key =
    range-back (number_text owner.account) owner.key 8 64 refl (omega arith) in
    λ i. record { account = account i; key = key i }

pub length-owner_text : (owner : Owner) → IsOwner owner → length (owner_text owner) ≡ 64
unfolding owner_text
length-owner_text owner h = let key_long = h.key in omega (arith, length-append (number_text owner.account) owner.key)

pub owner_text-in : (bytes : List ℕ) → AreBytes bytes → length bytes ≡ 64 → owner_text (owner_in bytes) ≡ bytes
unfolding owner_in owner_text
owner_text-in bytes small long =
    let account : number_text (number_at bytes 0) ≡ take 8 bytes = number-bytes (take 8 bytes)
    (bytes-range bytes 0 8 small) (length-range bytes 0 8 (omega arith) (omega arith)) in
    let key : slice_range bytes 8 64 ≡ drop 8 bytes = take_all 56 (drop 8 bytes) (omega (arith, length-drop 8 bytes)) in
    (λ i. account i ++ key i) ∙ take-append-drop 8 bytes

pub owner_in-is : (bytes : List ℕ) → AreBytes bytes → length bytes ≡ 64 → IsOwner (owner_in bytes)
unfolding owner_in
owner_in-is bytes small long = record {
  account = number-below (take 8 bytes) (bytes-range bytes 0 8 small);
  key = length-range bytes 8 64 (omega arith) (omega arith);
}

-- ---- what is read

-- the bytes are long enough, have a mark and the tag
pub record Fits (tag bytes : List ℕ) : Type 0 where
  pub long : body_length bytes ≤ length bytes
  pub marked : has_first_mark bytes || has_second_mark bytes ≡ true
  pub tagged : slice_range bytes 4 36 ≡ tag

-- the signed transfer that they spell then
abbrev pub signed_at_start : List ℕ → SignedTx
signed_at_start bytes = record { body = body_at_start bytes; signature = drop (body_length bytes) bytes }

pub body_in-fits : (tag bytes : List ℕ) → Fits tag bytes → body_in tag bytes ≡ Ok (body_at_start bytes)
unfolding body_in
body_in-fits tag bytes h =
    let same : bytes_eq (slice_range bytes 4 36) tag ≡ true =
    (bytes_eq-Decides (slice_range bytes 4 36) tag).1 h.tagged in
    rw (le-ltb (length bytes) (body_length bytes) h.long, h.marked, same) refl

pub body_in-ok : (tag bytes : List ℕ) (body : Body) → body_in tag bytes ≡ Ok body
    → Fits tag bytes × (body ≡ body_at_start bytes)
unfolding body_in
body_in-ok tag bytes body h = elim (cases_Bool (nat_lt (length bytes) (body_length bytes))) [
  | inl short ↦ let bad : Err Short ≡ Ok body = rw short at h in cc bad
  | inr long ↦ elim (cases_Bool (has_first_mark bytes || has_second_mark bytes)) [
    | inr unmarked ↦ let bad : Err BadMark ≡ Ok body = rw (long, unmarked) at h in cc bad
    | inl marked ↦ elim (cases_Bool (bytes_eq (slice_range bytes 4 36) tag)) [
      | inr other ↦ let bad : Err BadTag ≡ Ok body = rw (long, marked, other) at h in cc bad
      | inl same ↦
          let is : Ok (body_at_start bytes) ≡ Ok body = rw (long, marked, same) at h in (
            record {
              long = ltb-false (length bytes) (body_length bytes) long;
              marked = marked;
              tagged = (bytes_eq-Decides (slice_range bytes 4 36) tag).0 same;
            },
            ok_same body (body_at_start bytes) (Ok body) refl (sym is),
          )
    ]
  ]
]
  where
    ok_same : (x y : Body) (r : Result Body TxRefusal) → r ≡ Ok x → r ≡ Ok y → x ≡ y
    ok_same x y r d e = cc

pub signed_in-fits : (tag bytes : List ℕ) → Fits tag bytes → signed_in tag bytes ≡ Ok (signed_at_start bytes)
unfolding signed_in
signed_in-fits tag bytes h = ap (with_signature bytes) (body_in-fits tag bytes h)

pub signed_in-ok : (tag bytes : List ℕ) (tx : SignedTx) → signed_in tag bytes ≡ Ok tx
    → Fits tag bytes × (tx ≡ signed_at_start bytes)
unfolding signed_in
signed_in-ok tag bytes tx h = read (body_in tag bytes) refl h
  where
    same : (x y : SignedTx) (r : Result SignedTx TxRefusal) → r ≡ Ok x → r ≡ Ok y → x ≡ y
    same x y r d e = cc

    read : (r : Result Body TxRefusal) → body_in tag bytes ≡ r → with_signature bytes r ≡ Ok tx
        → Fits tag bytes × (tx ≡ signed_at_start bytes)
    read (Err why) is wrong = absurd (cc wrong)
    read (Ok body) is right =
        let known = body_in-ok tag bytes body is in (
          known.0,
          same tx (record { body = body; signature = drop (body_length bytes) bytes }) (Ok tx) refl
              (sym right) ∙ ap (λ b. record { body = b; signature = drop (body_length bytes) bytes }) known.1,
        )

-- ---- a body's parts in the bytes

module _ (mark tag coin parent to rest : List ℕ) (four : length mark ≡ 4) (tag_long : length tag ≡ 32)
    (coin_long : length coin ≡ 8) (parent_long : length parent ≡ 8) (to_long : length to ≡ 64) where
  -- the lengths of the beginnings
  two : length (mark ++ tag) ≡ 36
  two = omega (arith, length-append mark tag)

  three : length (mark ++ tag ++ coin) ≡ 44
  three = omega (arith, two, length-append (mark ++ tag) coin)

  fore : length (mark ++ tag ++ coin ++ parent) ≡ 52
  fore = omega (arith, three, length-append (mark ++ tag ++ coin) parent)

  pub common-long : length (mark ++ tag ++ coin ++ parent ++ to) ≡ 116
  common-long = omega (arith, fore, length-append (mark ++ tag ++ coin ++ parent) to)

  pub tag-in : slice_range (mark ++ tag ++ coin ++ parent ++ to ++ rest) 4 36 ≡ tag
  tag-in =
      range-front (mark ++ tag ++ coin ++ parent ++ to) rest 4 36 (omega arith) (omega (arith, common-long))
      ∙ range-front (mark ++ tag ++ coin ++ parent) to 4 36 (omega arith) (omega (arith, fore))
      ∙ range-front (mark ++ tag ++ coin) parent 4 36 (omega arith) (omega (arith, three))
      ∙ range-front (mark ++ tag) coin 4 36 (omega arith) (omega (arith, two))
      ∙ range-back mark tag 4 36 four (omega arith)

  pub coin-in : slice_range (mark ++ tag ++ coin ++ parent ++ to ++ rest) 36 44 ≡ coin
  coin-in =
      range-front (mark ++ tag ++ coin ++ parent ++ to) rest 36 44 (omega arith) (omega (arith, common-long))
      ∙ range-front (mark ++ tag ++ coin ++ parent) to 36 44 (omega arith) (omega (arith, fore))
      ∙ range-front (mark ++ tag ++ coin) parent 36 44 (omega arith) (omega (arith, three))
      ∙ range-back (mark ++ tag) coin 36 44 two (omega arith)

  pub parent-in : slice_range (mark ++ tag ++ coin ++ parent ++ to ++ rest) 44 52 ≡ parent
  parent-in =
      range-front (mark ++ tag ++ coin ++ parent ++ to) rest 44 52 (omega arith) (omega (arith, common-long))
      ∙ range-front (mark ++ tag ++ coin ++ parent) to 44 52 (omega arith) (omega (arith, fore))
      ∙ range-back (mark ++ tag ++ coin) parent 44 52 three (omega arith)

  pub to-in : slice_range (mark ++ tag ++ coin ++ parent ++ to ++ rest) 52 116 ≡ to
  to-in =
      range-front (mark ++ tag ++ coin ++ parent ++ to) rest 52 116 (omega arith) (omega (arith, common-long))
      ∙ range-back (mark ++ tag ++ coin ++ parent) to 52 116 fore (omega arith)

-- ---- a transfer is read as it is written

module _ (body : Body) (h : IsBody body) (rest : List ℕ) where
  mark-long : length (mark_of body.last) ≡ 4
  mark-long = grind (arith, common_steps) steps 20000

  to-long : length (owner_text body.to) ≡ 64
  to-long = length-owner_text body.to h.to

  common_text-long : length (common_text body) ≡ 116
  common_text-long = grind (arith, common_steps, common-long, mark-long, to-long) steps 20000

  tag-read : slice_range (common_text body ++ rest) 4 36 ≡ body.tag
  tag-read = grind (arith, common_steps, tag-in, mark-long, to-long) steps 20000

  coin-read : number_at (common_text body ++ rest) 36 ≡ body.coin
  coin-read = number-in (common_text body ++ rest) 36 body.coin h.coin
      (grind (arith, common_steps, coin-in, mark-long, to-long) steps 20000)

  parent-read : number_at (common_text body ++ rest) 44 ≡ body.parent
  parent-read = number-in (common_text body ++ rest) 44 body.parent h.parent
      (grind (arith, common_steps, parent-in, mark-long, to-long) steps 20000)

  to-read : owner_in (slice_range (common_text body ++ rest) 52 116) ≡ body.to
  to-read = grind (arith, common_steps, to-in, mark-long, to-long, owner_in-text) steps 20000

signed_in-of : (tag : List ℕ) (coin parent : ℕ) (to : Owner) (last : Option ℕ) (signature : List ℕ)
    → IsBody (record { tag = tag; coin = coin; parent = parent; to = to; last = last })
    → signed_in tag
    (signed_text
    (record {
      body = record { tag = tag; coin = coin; parent = parent; to = to; last = last };
      signature =
          signature;
    }))
    ≡ Ok (record {
      body = record { tag = tag; coin = coin; parent = parent; to = to; last = last };
      signature =
          signature;
    })
unfolding signed_text body_text
signed_in-of tag coin parent to None signature h =
    let body : Body = record { tag = tag; coin = coin; parent = parent; to = to; last = None } in
    let long = common_text-long body h signature in
    let whole : List ℕ = common_text body ++ signature in
    let fits : Fits tag whole =
    record {
      long = omega (arith, length-append (common_text body) signature);
      marked = refl;
      tagged =
          tag-read body h signature;
    } in
    let behind : drop 116 whole ≡ signature = drop_at (common_text body) signature 116 long in
    ap (λ (front : List ℕ). signed_in tag (front ++ signature)) (append-nil (common_text body))
    ∙ signed_in-fits tag whole fits
    ∙ ap Ok (λ i. record {
      body = record {
        tag = tag-read body h signature i;
        coin = coin-read body h signature i;
        parent =
            parent-read body h signature i;
        to = to-read body h signature i;
        last = None;
      };
      signature = behind i;
    })
signed_in-of tag coin parent to (Some last) signature h =
    let body : Body = record { tag = tag; coin = coin; parent = parent; to = to; last = Some last } in
    let rest : List ℕ = number_text last ++ signature in
    let long = common_text-long body h rest in
    let whole : List ℕ = common_text body ++ number_text last ++ signature in
    let same : whole ≡ common_text body ++ rest = append_assoc (common_text body) (number_text last) signature in
    let front_long : length (common_text body ++ number_text last) ≡ 124 =
    omega (arith, length-append (common_text body) (number_text last)) in
    let tagged : slice_range whole 4 36 ≡ tag = ap (λ (w : List ℕ). slice_range w 4 36) same ∙ tag-read body h rest in
    let fits : Fits tag whole = grind (arith, common_steps, length-append) steps 20000 in
    let coin_read : number_at whole 36 ≡ coin = ap (λ (w : List ℕ). number_at w 36) same ∙ coin-read body h rest in
    let parent_read : number_at whole 44 ≡ parent = ap (λ (w : List ℕ). number_at w 44) same
    ∙ parent-read body h rest in
    let to_read : owner_in (slice_range whole 52 116) ≡ to =
    ap (λ (w : List ℕ). owner_in (slice_range w 52 116)) same ∙ to-read body h rest in
    let last_read : number_at whole 116 ≡ last = number-in whole 116 last h.last
    (range-front (common_text body ++ number_text last) signature 116 124 (omega arith) (omega arith)
    ∙ range-back (common_text body) (number_text last) 116 124 long refl) in
    let behind : drop 124 whole ≡ signature = drop_at (common_text body ++ number_text last) signature 124 front_long in
    signed_in-fits tag whole fits
    ∙ ap Ok (λ i. record {
      body = record {
        tag = tagged i;
        coin = coin_read i;
        parent = parent_read i;
        to = to_read i;
        last =
            Some (last_read i);
      };
      signature = behind i;
    })

pub signed_in-text : (tx : SignedTx) → IsBody tx.body → signed_in tx.body.tag (signed_text tx) ≡ Ok tx
signed_in-text tx h = signed_in-of tx.body.tag tx.body.coin tx.body.parent tx.body.to tx.body.last tx.signature h

-- ---- bytes that are read are those that are written

module _ (bytes : List ℕ) (small : AreBytes bytes) (long : 116 ≤ length bytes) where
  read_common : (mark : List ℕ) → mark ≡ take 4 bytes
      → mark ++ slice_range bytes 4 36 ++ number_text (number_at bytes 36) ++ number_text
      (number_at bytes 44) ++ owner_text (owner_in (slice_range bytes 52 116)) ≡ take 116 bytes
  read_common mark is =
      let coin : number_text (number_at bytes 36) ≡ slice_range bytes 36 44 = number-bytes (slice_range bytes 36 44)
      (bytes-range bytes 36 44 small) (length-range bytes 36 44 (omega arith) (omega arith)) in
      let parent : number_text (number_at bytes 44) ≡ slice_range bytes 44 52 = number-bytes
      (slice_range bytes 44 52) (bytes-range bytes 44 52 small)
      (length-range bytes 44 52 (omega arith) (omega arith)) in
      let to : owner_text (owner_in (slice_range bytes 52 116)) ≡ slice_range bytes 52 116 =
      owner_text-in (slice_range bytes 52 116) (bytes-range bytes 52 116 small)
      (length-range bytes 52 116 (omega arith) (omega arith)) in
      (λ i. is i ++ slice_range bytes 4 36 ++ coin i ++ parent i ++ to i)
      ∙ ap (λ (front : List ℕ). front ++ slice_range bytes 36 44 ++ slice_range bytes 44 52 ++ slice_range bytes 52 116)
      (range-join bytes 4 36 (omega arith))
      ∙ ap (λ (front : List ℕ). front ++ slice_range bytes 44 52 ++ slice_range bytes 52 116)
      (range-join bytes 36 44 (omega arith))
      ∙ ap (λ (front : List ℕ). front ++ slice_range bytes 52 116) (range-join bytes 44 52 (omega arith))
      ∙ range-join bytes 52 116 (omega arith)

  read_body : (last : Option ℕ) → IfSome last (λ n. n < 2 ^ 64)
      → IsBody
      (record {
        tag = slice_range bytes 4 36;
        coin = number_at bytes 36;
        parent = number_at bytes 44;
        to =
            owner_in (slice_range bytes 52 116);
        last = last;
      })
  read_body last below = record {
    tag = length-range bytes 4 36 (omega arith) (omega arith);
    coin = number-below (slice_range bytes 36 44) (bytes-range bytes 36 44 small);
    parent = number-below (slice_range bytes 44 52) (bytes-range bytes 44 52 small);
    to = owner_in-is (slice_range bytes 52 116) (bytes-range bytes 52 116 small)
        (length-range bytes 52 116 (omega arith) (omega arith));
    last = below;
  }

marked_first : (first : Bool) → first || false ≡ true → first ≡ true
marked_first first h = grind (arith, common_steps) steps 20000

-- so they are, and the body is one of the type
read_is : (tag bytes : List ℕ) → AreBytes bytes → Fits tag bytes
    → (bytes ≡ signed_text (signed_at_start bytes)) × IsBody (body_at_start bytes)
unfolding signed_text body_text
read_is tag bytes small fits = elim (cases_Bool (has_second_mark bytes)) [
  | inl second ↦
      let long : 124 ≤ length bytes = rw second at fits.long in
      let mark : second_mark ≡ take 4 bytes = (bytes_eq-Decides second_mark (take 4 bytes)).0 second in
      let last : number_text (number_at bytes 116) ≡ slice_range bytes 116 124 =
      number-bytes (slice_range bytes 116 124) (bytes-range bytes 116 124 small)
      (length-range bytes 116 124 (omega arith) (omega arith)) in
      let common = read_common bytes small (omega arith) second_mark mark in
      let whole = (λ i. common i ++ last i ++ drop 124 bytes) ∙ ap (λ (front : List ℕ). front ++ drop 124 bytes)
      (range-join bytes 116 124 (omega arith)) ∙ take-append-drop 124 bytes in
      rw second (
        sym whole,
        read_body bytes small (omega arith) (Some (number_at bytes 116))
            (number-below (slice_range bytes 116 124) (bytes-range bytes 116 124 small)),
      )
  | inr isnt ↦
      let long : 116 ≤ length bytes = rw isnt at fits.long in
      let first : has_first_mark bytes ≡ true = marked_first (has_first_mark bytes) (rw isnt at fits.marked) in
      let mark : first_mark ≡ take 4 bytes = (bytes_eq-Decides first_mark (take 4 bytes)).0 first in
      let common = read_common bytes small (omega arith) first_mark mark in
      let whole = (λ i. common i ++ [] ++ drop 116 bytes) ∙ ap (λ (front : List ℕ). front ++ drop 116 bytes)
      (append-nil (take 116 bytes)) ∙ take-append-drop 116 bytes in
      rw isnt (sym whole, read_body bytes small (omega arith) None tt)
]

pub signed_text-in : (tag bytes : List ℕ) (tx : SignedTx) → AreBytes bytes → signed_in tag bytes ≡ Ok tx
    → (bytes ≡ signed_text tx) × (tx.body.tag ≡ tag) × IsBody tx.body
signed_text-in tag bytes tx small h =
    let known = signed_in-ok tag bytes tx h in
    let is = read_is tag bytes small known.0 in
    rw known.1 (is.0, known.0.tagged, is.1)
