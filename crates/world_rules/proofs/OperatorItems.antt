-- What the operator makes, and the records that it adds, are bytes.
use Rattle.world_rules.proofs.Basics.{◌≡◌, ℕ, ◌==◌, ◌&&◌, Bool, true, false, if◌then◌else◌, List, [], ◌∷◌, drop, length, Option, Some, None, Ok, Err, refl, subst, lit<, arith, Result, IfSome, reverse, nat_le, nat_lt, AllByRecursion, filter_map, bytes_eq, reverse-append, common_steps}
use Rattle.world_rules.proofs.CoinWords.{Entry, root_of, RawOpening, RootCall, CoinView, number_at, coin_at, blocks, some_same, root_at, all-append, all-found, Bundle, bundle_text, committed_blocks, may_be_tip}
use Rattle.world_rules.proofs.NodeWords.{Effect, only, unless, Small, small-nil, small-cons, small-append, small-drop, small-number, small-back, IsSmallOpening, AreSmallOpenings, small-bundle}
use Rattle.world_rules.proofs.OperatorWords.{Note, Offered, Laid, Sealed, spells_transfer, note_text, note_in, who_is, notes_of, Forest, forest_of, tree_of, tree_at, opening_in_tree, forest_in, offer_effect, lay_effect, seal_effect, prove_by, prove_answer, openings_of, as_bundle, bundle_between, bundle_to, bundle_of, bundle_answer, absences_answer, tip_asked}
use Rattle.world_rules.proofs.WorldWords.{and_then_some, IsDigest}
use Rattle.operator_rules.specs.declared.refusal.OfferRefusal.{OfferRefusal}
use Rattle.operator_rules.specs.declared.refusal.ProveRefusal.{ProveRefusal}
use Rattle.operator_rules.specs.declared.TheConstants.{MOST_LAID}
use Rattle.operator_rules.specs.declared.refusal.ProveRefusal.TheVariants.{UnknownBlock}
use Rattle.operator_rules.specs.Walk.{present}
use Rattle.operator_rules.specs.declared.refusal.LayRefusal.TheVariants.{LeafTooLong}
use Rattle.operator_rules.specs.Walk.{present}
use Rattle.world_rules.proofs.ItemTexts.{IsSmallTree, tree-with, opening-small}

-- ---- records

-- each record is bytes
abbrev pub AreSmallRecords : List (List ℕ) → Type 0
AreSmallRecords records = AllByRecursion Small records

-- the bytes of a note
abbrev IsSmallNote : Note → Type 0
IsSmallNote (Offered bytes) = Small bytes
IsSmallNote (Laid coin bytes) = Small bytes
IsSmallNote Sealed = Unit {0}

note-small : (tag body : List ℕ) (note : Note) → Small body → note_in tag body ≡ Some note → IsSmallNote note
unfolding note_in
note-small tag [] note small is = absurd (cc is)
note-small tag (mark ∷ bytes) note small is = offered ((mark == 34) && spells_transfer tag bytes) is
  where
    rest : Small bytes
    rest = small-back (mark ∷ []) bytes small

    sealed : (b : Bool) → (if b then Some Sealed else None) ≡ Some note → IsSmallNote note
    sealed true is = subst IsSmallNote (some_same Sealed note is) tt
    sealed false is = absurd (cc is)

    laid : (b : Bool) → (if b then Some (Laid (number_at bytes 0) (drop 8 bytes))
        else if (mark == 36) && (length bytes == 0) then Some Sealed else None) ≡ Some note → IsSmallNote note
    laid true is = subst IsSmallNote (some_same (Laid (number_at bytes 0) (drop 8 bytes)) note is) (small-drop 8 rest)
    laid false is = sealed ((mark == 36) && (length bytes == 0)) is

    offered : (b : Bool) → (if b then Some (Offered bytes)
        else if (mark == 35) && nat_le 8 (length bytes) then Some (Laid (number_at bytes 0) (drop 8 bytes))
        else if (mark == 36) && (length bytes == 0) then Some Sealed
        else None) ≡ Some note → IsSmallNote note
    offered true is = subst IsSmallNote (some_same (Offered bytes) note is) rest
    offered false is = laid ((mark == 35) && nat_le 8 (length bytes)) is

read-notes : (tag : List ℕ) (records : List (List ℕ)) → AreSmallRecords records
    → AllByRecursion IsSmallNote (filter_map (note_in tag) records)
read-notes tag [] small = tt
read-notes tag (body ∷ records) small = grind (arith, common_steps, read-notes tag records small.1, note-small)

all-reverse : {X : Type 0} (P : X → Type 0) (xs : List X) → AllByRecursion P xs → AllByRecursion P (reverse xs)
all-reverse P [] all = tt
all-reverse P (x ∷ xs) all = grind (arith, common_steps, all-reverse P xs all.1, reverse-append, all-append)

drop-one : (records : List (List ℕ)) → AreSmallRecords records → AreSmallRecords (drop 1 records)
drop-one records small = grind (arith, common_steps)

notes-small : (records : List (List ℕ)) → AreSmallRecords records → AllByRecursion IsSmallNote (notes_of records)
unfolding notes_of
notes-small records small = grind (arith, common_steps, all-reverse, read-notes, drop-one)

-- ---- trees

record IsSmallForest (forest : Forest) : Type 0 where
  pool : IsSmallTree forest.pool
  sealed : AllByRecursion IsSmallTree forest.sealed

forest-small : (notes : List Note) → AllByRecursion IsSmallNote notes → IsSmallForest (forest_of notes)
unfolding forest_of
forest-small [] small = record { pool = tt; sealed = tt }
forest-small (Offered bytes ∷ notes) small = grind (arith, common_steps, forest-small notes small.1, tree-with)
forest-small (Laid coin bytes ∷ notes) small = grind (arith, common_steps, forest-small notes small.1, tree-with)
forest-small (Sealed ∷ notes) small = grind (arith, common_steps, forest-small notes small.1, all-append)

-- ---- answers

module _ (dig : List ℕ → List ℕ) (is_digest : IsDigest dig) (log : List RootCall) (sealed : List (List Entry))
    (small : AllByRecursion IsSmallTree sealed) where
  proved-small : (coin n : ℕ) (opening : RawOpening) → prove_by dig coin n (tree_at dig log sealed n) ≡ Ok opening
      → IsSmallOpening opening
  unfolding tree_of
  proved-small coin n opening is = at (tree_at dig log sealed n) refl is
    where
      at : (found : Option (List Entry)) → tree_at dig log sealed n ≡ found → prove_by dig coin n found ≡ Ok opening
          → IsSmallOpening opening
      at None none is = absurd (cc is)
      at (Some tree) some is =
          let root = and_then_some (tree_of dig sealed) (root_at log n) tree some in
          let there = all-found IsSmallTree (λ t. bytes_eq (root_of dig t) root.0) sealed tree small
          root.2 in
          let same : opening_in_tree dig coin n tree ≡ opening = cc is in
          subst IsSmallOpening same (opening-small dig is_digest coin n tree there.0)

  openings-small : (coin : ℕ) (blocks : List ℕ) (openings : List RawOpening)
      → openings_of dig log sealed coin blocks ≡ Ok openings → AreSmallOpenings openings
  unfolding openings_of
  openings-small coin [] openings is = let same : [] ≡ openings = cc is in subst AreSmallOpenings same tt
  openings-small coin (n ∷ blocks) openings is = grind (arith, common_steps, openings-small coin blocks, proved-small)

  between-small : (coin after tip : ℕ) (bundle : Bundle) → bundle_between dig log sealed coin after tip ≡ Ok bundle
      → Small (bundle_text bundle)
  between-small coin after tip bundle is = at (openings_of dig log sealed coin blocks) refl is
    where
      blocks : List ℕ
      blocks = committed_blocks log after tip

      at : (read : Result (List RawOpening) ProveRefusal) → openings_of dig log sealed coin blocks ≡ read
          → as_bundle coin tip read ≡ Ok bundle → Small (bundle_text bundle)
      at (Err why) known is = absurd (cc is)
      at (Ok openings) known is =
          let own : Bundle = record { coin = coin; tip = tip; openings = openings } in
          let same : own ≡ bundle = cc is in
          subst (λ (b : Bundle). Small (bundle_text b)) same
          (small-bundle own (openings-small coin blocks openings known))

-- ---- what is made

module _ (dig : List ℕ → List ℕ) (is_digest : IsDigest dig) (records : List (List ℕ)) (small : AreSmallRecords records)
    (log : List RootCall) where
  sealed-small : AllByRecursion IsSmallTree (forest_in records).sealed
  sealed-small = (forest-small (notes_of records) (notes-small records small)).sealed

  pub prove-small : (coin n : ℕ) (opening : RawOpening) → prove_answer dig records log coin n ≡ Ok opening
      → Small opening.bytes
  unfolding prove_answer
  prove-small coin n opening is =
      proved-small dig is_digest log (forest_in records).sealed sealed-small coin n opening is

  pub bundle-made : (coin tip : ℕ) (bundle : Bundle) → bundle_answer dig records log coin tip ≡ Ok bundle
      → Small (bundle_text bundle)
  unfolding bundle_answer
  bundle-made coin tip bundle is = at (coin_at log coin) is
    where
      at : (made : Option CoinView)
          → bundle_of dig (who_is records).tag log (forest_in records).sealed coin tip made ≡ Ok bundle
          → Small (bundle_text bundle)
      at None is = absurd (cc is)
      at (Some made) is = to_tip made (tip_asked tip (present dig (who_is records).tag log
          (forest_in records).sealed coin made)) is
        where
          to_tip : (made : CoinView) (asked : ℕ)
              → bundle_to dig log (forest_in records).sealed coin made asked ≡ Ok bundle
              → Small (bundle_text bundle)
          to_tip made asked is = by (may_be_tip log made.deposit asked) is
            where
              by : (b : Bool)
                  → (if b then bundle_between dig log (forest_in records).sealed coin made.deposit asked
                  else Err (UnknownBlock asked)) ≡ Ok bundle → Small (bundle_text bundle)
              by true is =
                  between-small dig is_digest log (forest_in records).sealed sealed-small coin made.deposit asked
                  bundle is
              by false is = absurd (cc is)

  pub absences-made : (coin after last : ℕ) (bundle : Bundle)
      → absences_answer dig records log coin after last ≡ Ok bundle → Small (bundle_text bundle)
  unfolding absences_answer
  absences-made coin after last bundle is = by (nat_lt (blocks log) last) is
    where
      by : (b : Bool) → (if b then Err (UnknownBlock last)
          else bundle_between dig log (forest_in records).sealed coin after last) ≡ Ok bundle
          → Small (bundle_text bundle)
      by true is = absurd (cc is)
      by false is = between-small dig is_digest log (forest_in records).sealed sealed-small coin after last bundle is

-- ---- what is noted

abbrev taken : ℕ → List ℕ → Effect (Result ℕ OfferRefusal)
taken coin bytes = record { answer = Ok coin; note = Some (note_text (Offered bytes)) }

offered-small : (failed : Option OfferRefusal) (coin : ℕ) (bytes : List ℕ) → Small bytes
    → IfSome (unless failed (taken coin bytes)).note Small
unfolding note_text
offered-small failed coin bytes small = grind (arith, common_steps, small-cons)

pub offer-noted : (dig : List ℕ → List ℕ) (records : List (List ℕ)) (log : List RootCall) (bytes : List ℕ)
    → Small bytes → IfSome (offer_effect dig records log bytes).note Small
unfolding offer_effect
offer-noted dig records log bytes small = grind (arith, common_steps, offered-small)

pub lay-noted : (coin : ℕ) (bytes : List ℕ) → Small bytes → IfSome (lay_effect coin bytes).note Small
unfolding lay_effect note_text
lay-noted coin bytes small =
    elim (nat_lt MOST_LAID (length bytes)) as (λ b. IfSome (if b then only (Err (LeafTooLong (length bytes)))
    else record { answer = Ok tt; note = Some (note_text (Laid coin bytes)) }).note Small) [
      | true ↦ tt
      | false ↦ small-cons 35 (lit< tt) (small-append (small-number coin) small)
    ]

pub seal-noted : (dig : List ℕ → List ℕ) (records : List (List ℕ)) → IfSome (seal_effect dig records).note Small
unfolding seal_effect note_text
seal-noted dig records = small-cons 36 (lit< tt) small-nil
