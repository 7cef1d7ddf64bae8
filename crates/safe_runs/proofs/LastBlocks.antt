-- The last blocks of the transfers that leaves bind, read of their records.
use Rattle.std.proofs.Common.{◌≡◌, ◌<◌, ◌+◌, ◌||◌, ◌==◌, ◌&&◌, ℕ, Bool, true, false, cond, if◌then◌else◌, List, [], ◌∷◌, ◌++◌, length, take, get_or, map, Option, None, Some, refl, sym, ap, ◌∙◌, arith}
use Rattle.std.specs.Prelude.{drop, nat_le, option_map, slice_get, slice_range}
use Rattle.std.specs.List.{All}
use Rattle.std.specs.Option.{option_map_or}
use Rattle.std.specs.Result.{is_ok}
use Rattle.std.proofs.lemmas.Bool.{eqb-true, le-leb}
use Rattle.std.proofs.lemmas.List.{map-append, take_more}
use Rattle.std.proofs.lemmas.List.Elements.{All-head, All-tail}
use Rattle.std.proofs.lemmas.List.Folds.{list_any-append}
use Rattle.std.proofs.lemmas.Option.{slice_get-map}
use Rattle.plasma_tx.specs.Spelling.{has_second_mark, number_at, body_in, body_length, body_at_start}
use Rattle.leaf_journal.specs.Records.{MessagesPass, is_marked, is_marker, messages_of}
use Rattle.leaf_journal.proofs.Messages.{messages-append}
use Rattle.wallet_core.specs.declared.notes.LeafRecord.{LeafRecord}
use Rattle.node_rules.specs.WalletRecords.{is_body, leaves_in}
use Rattle.node_rules.specs.Wallet.{last_of}
use Rattle.safe_runs.specs.Inside.{last_at, last_in, lasts_in, lasts_of}

-- ---- one record more

one-more : (records : List (List ℕ)) (body : List ℕ)
    → lasts_in (records ++ body ∷ []) ≡ lasts_in records ++ lasts_of (is_marked records) body
one-more records body =
    ap (map last_in) (messages-append records (body ∷ []))
    ∙ map-append last_in (messages_of records)
    (cond (is_marked records) (map (drop 4) (body ∷ [])) (messages_of (body ∷ [])))
    ∙ ap (λ (lasts : List (Option ℕ)). lasts_in records ++ lasts) (at (is_marked records))
  where
    at : (marked : Bool)
        → map last_in (cond marked (map (drop 4) (body ∷ [])) (messages_of (body ∷ []))) ≡ lasts_of marked body
    at true = refl
    at false = elim (is_marker body) as (λ marker. map last_in (if marker then [] else body ∷ [])
        ≡ (if marker then [] else last_in body ∷ [])) [ true ↦ refl | false ↦ refl ]

module _ (records : List (List ℕ)) (i : ℕ) (entry body : List ℕ) (less : i < length records)
    (is : entry ≡ get_or records i entry) (same : body ≡ entry) where
  grown : take i records ++ body ∷ [] ≡ take (i + 1) records
  grown =
      ap (λ (l : List ℕ). take i records ++ l ∷ []) (same ∙ is) ∙ sym (take_more records i entry less)

  pub lasts-more : lasts_in (take i records) ++ lasts_of (is_marked (take i records)) body
      ≡ lasts_in (take (i + 1) records)
  lasts-more = sym (one-more (take i records) body) ∙ ap lasts_in grown

  pub marked-more : (is_marked (take i records) || is_marker body) ≡ is_marked (take (i + 1) records)
  marked-more =
      last (is_marked (take i records)) (is_marker body)
      ∙ sym (list_any-append is_marker (take i records) (body ∷ []))
      ∙ ap is_marked grown
    where
      last : (front back : Bool) → (front || back) ≡ (front || (back || false))
      last true back = refl
      last false true = refl
      last false false = refl

-- ---- a body's last block

both-true : (one other : Bool) → (one && other) ≡ true → other ≡ true
both-true true other is = is
both-true false other is = absurd (cc is)

last-of-body : (message : List ℕ) → is_body message ≡ true → last_in message ≡ (body_at_start message).last
last-of-body message body = at (has_second_mark message) refl
  where
    at : (second : Bool) → has_second_mark message ≡ second → last_in message ≡ (body_at_start message).last
    at false first = rw first refl
    at true marked =
        let whole =
        both-true (is_ok (body_in (slice_range message 4 36) message)) (length message == body_length message) body in
        let long : length message ≡ 124 =
        eqb-true (length message) 124
        (ap (λ (second : Bool). length message == (if second then 124 else 116)) (sym marked) ∙ whole) in
        let room : nat_le 124 (length message) ≡ true = le-leb 124 (length message) (omega arith) in
        rw (marked, room) refl

lasts-of-bodies : (messages : List (List ℕ)) → All (λ message. is_body message ≡ true) messages
    → map last_in messages ≡ map (λ message. (body_at_start message).last) messages
lasts-of-bodies [] pass = refl
lasts-of-bodies (message ∷ messages) pass =
    let Passes : List ℕ → Type 0 = λ message. is_body message ≡ true in
    ap (λ (last : Option ℕ). last ∷ map last_in messages)
    (last-of-body message (All-head Passes message messages pass))
    ∙ ap (λ (lasts : List (Option ℕ)). (body_at_start message).last ∷ lasts)
    (lasts-of-bodies messages (All-tail Passes message messages pass))

mapped : (messages : List (List ℕ))
    → map (λ (message : List ℕ). (body_at_start message).last) messages
    ≡ map (λ (leaf : LeafRecord). leaf.body.last)
    (map (λ (message : List ℕ). record { body = body_at_start message }) messages)
mapped [] = refl
mapped (message ∷ messages) = ap (λ (lasts : List (Option ℕ)). (body_at_start message).last ∷ lasts) (mapped messages)

pub lasts-are : (records : List (List ℕ)) → MessagesPass is_body records
    → lasts_in records ≡ map (λ (leaf : LeafRecord). leaf.body.last) (leaves_in records)
lasts-are records pass = lasts-of-bodies (messages_of records) pass ∙ mapped (messages_of records)

-- ---- the last block of one leaf

pub last-at : (leaves : List LeafRecord) (lasts : List (Option ℕ)) (q : ℕ)
    → lasts ≡ map (λ (leaf : LeafRecord). leaf.body.last) leaves → last_at lasts q ≡ last_of leaves q
last-at leaves lasts q are =
    ap (λ (l : List (Option ℕ)). last_at l q) are
    ∙ ap (λ (found : Option (Option ℕ)). option_map_or (λ last. last) found None)
    (slice_get-map (λ (leaf : LeafRecord). leaf.body.last) leaves q)
    ∙ at (slice_get leaves q)
  where
    at : (leaf : Option LeafRecord)
        → option_map_or (λ (last : Option ℕ). last) (option_map (λ (l : LeafRecord). l.body.last) leaf) None
        ≡ option_map_or (λ (l : LeafRecord). l.body.last) leaf None
    at None = refl
    at (Some leaf) = refl
