-- The body that is read of a message, or of a message with its signature behind it.
use Rattle.std.proofs.Common.{◌≡◌, ℕ, zero, suc, ◌*◌, ◌≤◌, ◌==◌, cond, Bool, true, false, List, [], ◌++◌, drop, length, Option, Some, None, inl, inr, refl, sym, ap, ◌∙◌, append-nil, arith}
use Rattle.std.specs.List.{slice_range}
use Rattle.std.specs.Int.{w32, w64, to_be_bytes, from_be_bytes}
use Rattle.std.proofs.lemmas.Bool.{le-ltb, eq-eqb, ne_eqb}
use Rattle.std.proofs.lemmas.List.{length-append, drop_at}
use Rattle.lms_sign.specs.declared.types.LmsTypes.{LmsTypes}
use Rattle.lms_sign.specs.declared.secret.Secret.{Secret}
use Rattle.lms_sign.specs.Types.{chains}
use Rattle.lms_sign.specs.OneTime.{concatenation, message_hash, randomizer, signed_string}
use Rattle.lms_sign.specs.Tree.{signature_of}
use Rattle.lms_sign.proofs.Lists.{length-chain_at}
use Rattle.plasma_tx.specs.declared.owner.Owner.{Owner}
use Rattle.plasma_tx.specs.declared.body.Body.{Body}
use Rattle.plasma_tx.specs.Spelling.{mark_of, number_text, owner_text, owner_in, common_text, body_text, body_at_start}
use Rattle.plasma_tx.proofs.Parts.{range-front}
use Rattle.plasma_tx.proofs.Spellings.{Fits, body_in-fits}
use Rattle.leaf_journal.specs.Records.{binding_record, is_marked, messages_of, with_number, MayBind}
use Rattle.node_rules.proofs.Bodies.{text-long}
use Rattle.world_trace.specs.Reading.{body_found, message_in}

-- ---- signatures

length-pieces : (f : ℕ → List ℕ) (n : ℕ) → ((i : ℕ) → length (f i) ≡ 32) → length (concatenation f n) ≡ 32 * n
unfolding concatenation
length-pieces f zero h = refl
length-pieces f (suc n) h = omega (arith, length-append (concatenation f n) (f n), length-pieces f n h, h n)

length-signed : (secret : Secret) (q : ℕ) (hash : List ℕ) (i : ℕ) → length (signed_string secret q hash i) ≡ 32
unfolding signed_string
length-signed secret q hash i = length-chain_at secret q i _

some-chains : (types : LmsTypes) → 34 ≤ chains types
unfolding chains
some-chains types = elim (types.ots == 3) as (λ b. 34 ≤ cond b 67 34) [
  | true ↦ omega arith
  | false ↦ omega arith
]

-- a signature is longer than what a body without a tag and a key lacks
pub signature-long : (secret : Secret) (q : ℕ) (message : List ℕ) → 88 ≤ length (signature_of secret q message)
unfolding signature_of
signature-long secret q message =
    let hash = message_hash secret.id q (randomizer secret q) message in
    let pieces = length-pieces (signed_string secret q hash) (chains secret.types) (length-signed secret q hash) in
    simp length-append (omega (arith, pieces, some-chains secret.types))

-- ---- bodies

-- how many bytes a body has
abbrev pub long_of : Option ℕ → ℕ
long_of None = 116
long_of (Some last) = 124

least-long : (last : Option ℕ) → 116 ≤ long_of last
least-long None = omega arith
least-long (Some last) = omega arith

parts-long : (mark tag coin parent to : List ℕ) → length mark ≡ 4 → length coin ≡ 8 → length parent ≡ 8 → 8 ≤ length to
    → 28 ≤ length (mark ++ tag ++ coin ++ parent ++ to)
parts-long mark tag coin parent to four eight other least = omega (
  arith,
  length-append mark tag,
  length-append (mark ++ tag) coin,
  length-append (mark ++ tag ++ coin) parent,
  length-append (mark ++ tag ++ coin ++ parent) to,
)

module _ (tag : List ℕ) (coin parent : ℕ) (to : Owner) where
  abbrev pub body_of : Option ℕ → Body
  body_of last = record { tag = tag; coin = coin; parent = parent; to = to; last = last }

  abbrev pub text_of : Option ℕ → List ℕ
  text_of last = body_text (body_of last)

  owner-long : 8 ≤ length (owner_text to)
  unfolding owner_text
  owner-long = omega (arith, length-append (number_text to.account) to.key)

  common-long : (last : Option ℕ) → 28 ≤ length (common_text (body_of last))
  common-long None =
      parts-long (mark_of None) tag (number_text coin) (number_text parent) (owner_text to) refl refl refl owner-long
  common-long (Some last) =
      parts-long (mark_of (Some last)) tag (number_text coin) (number_text parent) (owner_text to) refl refl refl
      owner-long

  -- with a signature behind it there are bytes enough
  signed-long : (last : Option ℕ) (signature : List ℕ) → 88 ≤ length signature
      → long_of last ≤ length (text_of last ++ signature)
  unfolding body_text
  signed-long None signature long =
      let front = common-long None in
      omega (
        arith,
        length-append (common_text (body_of None) ++ []) signature,
        length-append (common_text (body_of None)) [],
      )
  signed-long (Some last) signature long =
      let front = common-long (Some last) in
      omega (
        arith,
        length-append (common_text (body_of (Some last)) ++ number_text last) signature,
        length-append (common_text (body_of (Some last))) (number_text last),
      )

  fits : (last : Option ℕ) (rest : List ℕ) → long_of last ≤ length (text_of last ++ rest)
      → Fits (slice_range (text_of last ++ rest) 4 36) (text_of last ++ rest)
  unfolding body_text
  fits None rest long = record { long = long; marked = refl; tagged = refl }
  fits (Some last) rest long = record { long = long; marked = refl; tagged = refl }

  found-behind : (last : Option ℕ) (rest : List ℕ) → long_of last ≤ length (text_of last ++ rest)
      → body_found (text_of last ++ rest) ≡ Some (body_at_start (text_of last ++ rest))
  found-behind last rest long =
      let bytes = text_of last ++ rest in
      let least : 36 ≤ length bytes = omega (arith, least-long last) in
      rw (le-ltb (length bytes) 36 least, body_in-fits (slice_range bytes 4 36) bytes (fits last rest long)) refl

  -- the body of a message with its signature is found
  pub found-signed : (last : Option ℕ) (secret : Secret) (q : ℕ)
      → let bytes = text_of last ++ signature_of secret q (text_of last) in
      body_found bytes ≡ Some (body_at_start bytes)
  found-signed last secret q =
      let signature = signature_of secret q (text_of last) in
      found-behind last signature (signed-long last signature (signature-long secret q (text_of last)))

  module _ (tag_long : length tag ≡ 32) (key_long : length to.key ≡ 56) where
    text-is : (last : Option ℕ) → length (text_of last) ≡ long_of last
    text-is None = text-long tag coin parent to tag_long key_long None
    text-is (Some last) = text-long tag coin parent to tag_long key_long (Some last)

    last-same : (last : Option ℕ) (rest : List ℕ)
        → (body_at_start (text_of last ++ rest)).last ≡ (body_at_start (text_of last)).last
    unfolding body_text
    last-same None rest = refl
    last-same (Some last) rest =
        let long = text-is (Some last) in
        ap (λ (part : List ℕ). Some (from_be_bytes w64 part))
        (range-front (body_text (body_of (Some last))) rest 116 124 (omega arith) (omega (arith, long)))

    -- what stands behind a body doesn't change it
    pub start-same : (last : Option ℕ) (rest : List ℕ)
        → body_at_start (text_of last ++ rest) ≡ body_at_start (text_of last)
    start-same last rest =
        let text = text_of last in
        let least : 116 ≤ length text = omega (arith, least-long last, text-is last) in
        let own : slice_range (text ++ rest) 4 36 ≡ slice_range text 4 36 =
        range-front text rest 4 36 (omega arith) (omega (arith, least)) in
        let first : slice_range (text ++ rest) 36 44 ≡ slice_range text 36 44 =
        range-front text rest 36 44 (omega arith) (omega (arith, least)) in
        let second : slice_range (text ++ rest) 44 52 ≡ slice_range text 44 52 =
        range-front text rest 44 52 (omega arith) (omega (arith, least)) in
        let third : slice_range (text ++ rest) 52 116 ≡ slice_range text 52 116 =
        range-front text rest 52 116 (omega arith) (omega (arith, least)) in
        let fourth = last-same last rest in
        λ i. record {
          tag = own i;
          coin = from_be_bytes w64 (first i);
          parent = from_be_bytes w64 (second i);
          to = owner_in (third i);
          last = fourth i;
        }

    found-text : (last : Option ℕ) → body_found (text_of last) ≡ Some (body_at_start (text_of last))
    found-text last =
        let text = text_of last in
        let found = found-behind last [] (omega (arith, text-is last, length-append text [])) in
        ap body_found (sym (append-nil text)) ∙ found ∙ ap (λ bytes. Some (body_at_start bytes)) (append-nil text)

    -- ---- records of leaves

    module _ (leaves : List (List ℕ)) where
      -- the message is found in its record
      message-in : (last : Option ℕ) → MayBind leaves (text_of last)
          → message_in (binding_record leaves (text_of last)) ≡ text_of last
      message-in last may = by (is_marked leaves) refl may
        where
          text : List ℕ
          text = text_of last

          q : ℕ
          q = length (messages_of leaves)

          alone : length text ≡ 116 → message_in text ≡ text
          alone long = ap (λ b. cond b text (drop 4 text)) (eq-eqb (length text) 116 long)

          numbered : message_in (with_number q text) ≡ text
          numbered =
              let own = with_number q text in
              let least : 116 ≤ length text = omega (arith, least-long last, text-is last) in
              let longer : length own ≡ 116 → ⊥ = λ same.
              omega (arith, length-append (to_be_bytes w32 q) text) in
              ap (λ b. cond b own (drop 4 own)) (ne_eqb (length own) 116 longer)
              ∙ drop_at (to_be_bytes w32 q) text 4 refl

          by : (marked : Bool) → is_marked leaves ≡ marked → MayBind leaves text
              → message_in (cond marked (with_number q text) text) ≡ text
          by true is may = numbered
          by false is (inl long) = alone long
          by false is (inr some) = absurd (cc (is, some.0))

      -- so the body that the message is signed for is found in its record
      pub found-bound : (last : Option ℕ) (signature : List ℕ) → MayBind leaves (text_of last)
          → body_found (message_in (binding_record leaves (text_of last)))
          ≡ Some (body_at_start (text_of last ++ signature))
      found-bound last signature may =
          ap body_found (message-in last may)
          ∙ found-text last
          ∙ ap Some (sym (start-same last signature))
