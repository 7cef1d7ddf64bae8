-- The openings and signatures of the worked lists: what they show, and that they are valid.
use Rattle.money_laws.proofs.Basics.{◌≡◌, ℕ, ◌^◌, ◌<◌, ◌==◌, ◌&&◌, Bool, true, false, if◌then◌else◌, nat_lt, List, length, Option, Some, None, Ok, refl, sym, ap, ◌∙◌, subst, arith, bytes_eq, and_parts, and_from, eqb-true, eq-eqb, bytes_eq-Decides, common_steps}
use Rattle.money_laws.proofs.CoinWords.{height, chains, u32_at, is_supported, leaf_count, public_key_of, signature_of, set_bits, lowest_default, is_opening, Body, SignedTx, RootCall, IsBody, mark_of, last_text, body_text, signed_text, signed_in, opening_in, leaf_in, transfer_in, is_signed_by, is_transfer, may_stand_in, kept_transfer, tests_by, opens_root, root_at, shown_tx}
use Rattle.money_laws.proofs.WorldWords.{me, secret, stranger, tag, rules, signed, unsigned, digest, alone, root_with, shows}
use Rattle.std.proofs.lemmas.List.{length-append}
use Rattle.lms_sign.specs.declared.types.LmsTypes.{LmsTypes}
use Rattle.lms_sign.specs.Valid.{types_of, id_of, key_root, type_place, is_valid, is_formed, candidate_root}
use Rattle.lms_sign.proofs.Laws.{key-types, signatures_are_valid}
use Rattle.lms_sign.proofs.Nodes.{length-tree_node}
use Rattle.lms_sign.proofs.Lists.{length-u32str}
use Rattle.sparse_merkle.proofs.ProofLaws.{length-proof_path}
use Rattle.plasma_tx.proofs.OpeningTexts.{opening_in-text, leaf-shown}
use Rattle.plasma_tx.proofs.Spellings.{signed_in-text, length-owner_text}

-- ---- signatures

pub key_long : length stranger.key ≡ 56
unfolding public_key_of
key_long = simp length-append (omega (arith, length-u32str 5, length-u32str 4, length-tree_node secret 1))

-- what the stranger signed is valid under his key
valid : (body : Body) → is_valid stranger.key (body_text body) (signature_of secret 0 (body_text body)) ≡ true
unfolding height
valid body = signatures_are_valid secret 0 (body_text body) refl refl (omega arith)

pub signs : (body : Body) → is_signed_by (signed body) stranger ≡ true
unfolding is_signed_by signed
signs body =
    and_from (is_supported (types_of stranger.key)) (is_valid stranger.key (body_text body) (signed body).signature)
    (ap is_supported (key-types secret refl refl)) (valid body)

formed : (body : Body) → is_formed secret.types (signature_of secret 0 (body_text body)) ≡ true
unfolding is_valid
formed body =
    let signature : List ℕ = signature_of secret 0 (body_text body) in
    ap (λ (t : LmsTypes). is_formed t signature) (sym (key-types secret refl refl))
    ∙ (and_parts (is_formed (types_of stranger.key) signature)
    (bytes_eq (candidate_root (types_of stranger.key) (id_of stranger.key) (body_text body) signature)
    (key_root stranger.key)) (valid body)).0

second : (a b c d e : Bool) → (a && b && c && d && e) ≡ true → b ≡ true
second a b c d e is = grind (arith, common_steps)

pub signature_long : (body : Body) → length (signature_of secret 0 (body_text body)) ≡ 1292
unfolding height chains
signature_long body =
    let signature : List ℕ = signature_of secret 0 (body_text body) in
    eqb-true (length signature) 1292 (second (is_supported secret.types) (length signature == 1292)
    (u32_at signature 4 == 4) (u32_at signature (type_place secret.types) == 5)
    (nat_lt (u32_at signature 0) (leaf_count secret.types)) (formed body))

-- and not under the wallet's, whose signatures are longer
pub signs_not : (body : Body) → is_signed_by (signed body) me ≡ false
unfolding is_signed_by is_valid signed height chains u32_at
signs_not body = rw (signature_long body) refl

pub unsigned_not : (body : Body) → is_signed_by (unsigned body) me ≡ false
unfolding is_signed_by is_valid unsigned height chains u32_at
unsigned_not body = refl

-- ---- openings

-- a transfer of the worked lists
pub record IsWorked (tx : SignedTx) : Type 0 where
  pub is_body : IsBody tx.body
  pub tagged : tx.body.tag ≡ tag
  pub endless : tx.body.last ≡ None
  pub small : length tx.signature < 1293

long : (tx : SignedTx) → IsWorked tx → length (signed_text tx) < 2 ^ 32
unfolding signed_text body_text
long tx h =
    let mark : length (mark_of tx.body.last) ≡ 4 = ap (λ (o : Option ℕ). length (mark_of o)) h.endless in
    let last : length (last_text tx.body.last) ≡ 0 = ap (λ (o : Option ℕ). length (last_text o)) h.endless in
    simp length-append (omega (
      arith,
      mark,
      last,
      h.is_body.tag,
      length-owner_text tx.body.to h.is_body.to,
      h.small,
    ))

pub read : (dig : List ℕ → List ℕ) (block : ℕ) (tx : SignedTx) → IsWorked tx
    → opening_in dig (shows block tx) ≡ Ok (record { block = block; leaf = signed_text tx; proof = alone })
unfolding set_bits lowest_default shows
read dig block tx h =
    opening_in-text dig (record { block = block; leaf = signed_text tx; proof = alone }) (long tx h)
    (record { small = omega arith; count = refl; long = λ k d less. absurd (omega (arith, less)) }) refl

pub transfer_shown : (block : ℕ) (tx : SignedTx) → IsWorked tx
    → transfer_in tag tx.body.coin block (leaf_in (shows block tx).bytes) ≡ Some tx
unfolding transfer_in
transfer_shown block tx h =
    let leaf : leaf_in (shows block tx).bytes ≡ signed_text tx =
    leaf-shown digest (shows block tx) (record { block = block; leaf = signed_text tx; proof = alone })
    (read digest block tx h) in
    let spelled : signed_in tag (signed_text tx) ≡ Ok tx =
    subst (λ (t : List ℕ). signed_in t (signed_text tx) ≡ Ok tx) h.tagged (signed_in-text tx h.is_body) in
    let fits : is_transfer tx.body.coin block tx.body ≡ true =
    and_from (tx.body.coin == tx.body.coin) (may_stand_in block tx.body.last)
    (eq-eqb tx.body.coin tx.body.coin refl) (ap (may_stand_in block) h.endless) in
    ap (λ (l : List ℕ). kept_transfer tx.body.coin block (signed_in tag l)) leaf
    ∙ ap (kept_transfer tx.body.coin block) spelled
    ∙ ap (λ b. if b then Some tx else None) fits

pub opened : (block : ℕ) (tx : SignedTx) → IsWorked tx
    → opens_root digest (root_with tx.body.coin tx) tx.body.coin (opening_in digest (shows block tx)) ≡ true
unfolding is_opening
opened block tx h = grind (arith, common_steps, read, and_from, eq-eqb, length-proof_path, bytes_eq-Decides)

-- the opening shows the transfer, where its block has that root
pub shown : (log : List RootCall) (block : ℕ) (tx : SignedTx) → IsWorked tx
    → root_at log block ≡ Some (root_with tx.body.coin tx)
    → shown_tx (tests_by digest) rules log tx.body.coin (shows block tx) ≡ Some tx
unfolding shown_tx shows
shown log block tx h root = grind (arith, common_steps, opened, transfer_shown)
