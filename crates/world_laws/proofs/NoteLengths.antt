-- The note of a coin that a wallet accepts is never too long: a coin has at most as many links as the chain has blocks,
-- and a link's opening is short, since its leaf is a transfer with a valid signature.
use Rattle.world_laws.proofs.Basics.{◌≡◌, ℕ, zero, suc, ◌+◌, ◌-◌, ◌*◌, ◌≤◌, ◌==◌, Bool, true, false, if◌then◌else◌, List, [], ◌∷◌, length, map, filter, drop, All, Option, Some, None, Ok, Err, refl, subst, length-drop, nat_lt, nat_le, arith, Result, filter_map, cons_option, flat_map, range_with_len, option_map, and_parts, eqb-true, le-ltb, false≢true, length-take-le, length-map, All-head, All-tail, common_steps, some_same}
use Rattle.world_laws.proofs.CoinWords.{MaskedPath, set_bits, has_proof_length, mask_in, proof_in, Owner, Opening, RawOpening, Link, Links, SignedTx, RootCall, leaf_length, leaf_in, opening_in, signed_in, transfer_in, is_signed_by, blocks, opening_in-ok, tests_by, Bundle, item_text, bundle_text, is_committed, committed_blocks, opens_block, transfer_of, link_of, links_in, AreLinked, IsHistory, committed-le}
use Rattle.world_laws.proofs.NodeWords.{chain_of, kept_of, most_note, Accepts, note_text}
use Rattle.sparse_merkle.proofs.ProofLaws.{set_bits-bound}
use Rattle.operator_rules.proofs.Openings.{leaf-short}

-- ---- openings

-- what is answered with a value passed
passed : {A E : Type 0} (b : Bool) (result : Result A E) (why : E) (answer : A)
    → (if b then result else Err why) ≡ Ok answer → b ≡ true
passed true result why answer is = refl
passed false result why answer is = absurd (cc is)

-- a proof that is read
proof-length : (dig : List ℕ → List ℕ) (bytes : List ℕ) (proof : MaskedPath) → proof_in dig bytes ≡ Ok proof
    → length bytes ≤ 2056
unfolding proof_in
proof-length dig bytes proof is =
    let long = passed (has_proof_length bytes) _ _ proof is in
    let exact = eqb-true (length bytes) (8 + 32 * set_bits (mask_in bytes) 64)
    (and_parts (nat_le 8 (length bytes)) (length bytes == 8 + 32 * set_bits (mask_in bytes) 64) long).1 in
    omega (arith, exact, set_bits-bound (mask_in bytes) 64)

-- an opening that is read
opening-length : (dig : List ℕ → List ℕ) (raw : RawOpening) (opening : Opening) → opening_in dig raw ≡ Ok opening
    → length raw.bytes ≤ 2060 + length (leaf_in raw.bytes)
unfolding leaf_in
opening-length dig raw opening is =
    let read = opening_in-ok dig raw opening is in
    let rest = proof-length dig (drop (4 + leaf_length raw.bytes) raw.bytes) opening.proof read.proof in
    let cut = length-drop (4 + leaf_length raw.bytes) raw.bytes in
    let front = length-drop 4 raw.bytes in
    let long = read.long in
    let leaf = length-take-le (leaf_length raw.bytes) (drop 4 raw.bytes) (omega (arith, front, long)) in
    omega (arith, rest, cut, long, leaf)

-- an opening that opens its block's root is read
opened-read : (dig : List ℕ → List ℕ) (log : List RootCall) (coin : ℕ) (o : RawOpening)
    → opens_block (tests_by dig) log coin o ≡ true → (opening : Opening) × (opening_in dig o ≡ Ok opening)
opened-read dig log coin o is = grind (arith, common_steps, false≢true)

-- a leaf that is a transfer reads as one
leaf-read : (tag leaf : List ℕ) (coin block : ℕ) (tx : SignedTx) → transfer_in tag coin block leaf ≡ Some tx
    → signed_in tag leaf ≡ Ok tx
unfolding transfer_in
leaf-read tag leaf coin block tx is = grind (arith, common_steps, some_same)

-- ---- links

abbrev opening_of : Link → RawOpening
opening_of link = link.opening

abbrev link_by : RawOpening → Option SignedTx → Option Link
link_by o found = option_map (λ tx. record { block = o.block; tx = tx; opening = o }) found

item-length : (o : RawOpening) → length (item_text o) ≡ 12 + length o.bytes
item-length o = grind (arith, common_steps)

module _ (dig : List ℕ → List ℕ) (tag : List ℕ) (log : List RootCall) (coin : ℕ) where
  abbrev shown : List RawOpening → List Link
  shown openings = filter_map (link_of (chain_of tag) coin) openings

  abbrev texts : List Link → List ℕ
  texts links = flat_map item_text (map opening_of links)

  one-short : (o : RawOpening) (tx : SignedTx) (owner : Owner) → opens_block (tests_by dig) log coin o ≡ true
      → transfer_of (chain_of tag) coin o ≡ Some tx → is_signed_by tx owner ≡ true → length (item_text o) ≤ 4704
  one-short o tx owner opened is signed =
      grind (arith, common_steps, opened-read, opening-length, leaf-short, leaf-read, item-length)

  links-short : (openings : List RawOpening) (block : ℕ) (owner : Owner)
      → All (λ o. opens_block (tests_by dig) log coin o ≡ true) openings
      → AreLinked (tests_by dig) block owner (shown openings)
      → length (texts (shown openings)) ≤ 4704 * length openings
  unfolding AreLinked
  links-short [] block owner opened linked = omega arith
  links-short (o ∷ openings) block owner opened linked =
      by (transfer_of (chain_of tag) coin o) refl linked
      (λ next to is.
      links-short openings next to (All-tail (λ o. opens_block (tests_by dig) log coin o ≡ true) o openings opened) is)
    where
      here : opens_block (tests_by dig) log coin o ≡ true
      here = All-head (λ o. opens_block (tests_by dig) log coin o ≡ true) o openings opened

      by : (found : Option SignedTx) → transfer_of (chain_of tag) coin o ≡ found
          → AreLinked (tests_by dig) block owner (cons_option (link_by o found) (shown openings))
          → ((next : ℕ) (to : Owner) → AreLinked (tests_by dig) next to (shown openings)
          → length (texts (shown openings)) ≤ 4704 * length openings)
          → length (texts (cons_option (link_by o found) (shown openings))) ≤ 4704 * length (o ∷ openings)
      by None none linked again = let more = again block owner linked in omega (arith, more)
      by (Some tx) some linked again = grind (arith, common_steps, one-short, here)

-- ---- blocks

committed-few : (log : List RootCall) (a n : ℕ)
    → length (filter (is_committed log) (range_with_len a n)) ≤ blocks log + 1 - a
committed-few log a zero = omega arith
committed-few log a (suc n) = grind (arith, common_steps, committed-few log (a + 1) n, committed-le)

openings-few : (dig : List ℕ → List ℕ) (tag : List ℕ) (log : List RootCall) (bundle : Bundle) (links : Links)
    → IsHistory (tests_by dig) (chain_of tag) log bundle links → length bundle.openings ≤ blocks log
unfolding committed_blocks
openings-few dig tag log bundle links history = grind (arith, common_steps, length-map, committed-few)

-- ---- the note

pub note-short : (dig : List ℕ → List ℕ) (tag : List ℕ) (log : List RootCall) (bundle : Bundle) (links : Links)
    → IsHistory (tests_by dig) (chain_of tag) log bundle links → blocks log ≤ 3000
    → nat_lt most_note (length (note_text (Accepts (kept_of links)))) ≡ false
unfolding note_text bundle_text links_in
note-short dig tag log bundle links history small =
    let openings = openings-few dig tag log bundle links history in
    let linked = subst (λ (l : Links). AreLinked (tests_by dig) links.deposit links.owner l.spends) history.shown
    history.linked in
    let items = links-short dig tag log bundle.coin bundle.openings links.deposit links.owner history.opened linked in
    grind (arith, common_steps, le-ltb)
