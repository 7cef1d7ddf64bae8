-- What a command's record does to what the records leave.
use Rattle.operator_core.proofs.Words.{◌≡◌, ℕ, ◌^◌, ◌<◌, true, false, List, [], ◌∷◌, ◌++◌, length, length-append, Some, None, Ok, Err, refl, sym, ap, ◌∙◌, arith, nat_lt, ◌≤◌, le-ltb, lt-ltb, All-push, common_steps, only, most, are_of, RootCall, number_text, Note, Offered, Laid, Sealed, note_text, operator_kinds, notes_of, coin_named, forest_of, forest_in, offer_effect, lay_effect, seal_effect, HashedMap, Stop, Who, lay_stop, PoolState, TreesState, FitJournal, IsRight, AddsRecord, lay_refusal, put_of, with_put}
use Rattle.operator_rules.specs.declared.TheConstants.{MOST_LAID}
use Rattle.operator_rules.specs.declared.refusal.LayRefusal.TheVariants.{LeafTooLong}
use Rattle.operator_rules.proofs.Role.{commands_keep_the_role, commands_add_their_notes}
use Rattle.operator_core.proofs.Rebuilt.{with_put-is}

-- ---- the record

-- a note that stands in front of the others
forest-front : (records : List (List ℕ)) (body : List ℕ) (note : Note)
    → notes_of (records ++ body ∷ []) ≡ note ∷ notes_of records
    → forest_in (records ++ body ∷ []) ≡ with_put (put_of note) (forest_in records)
unfolding forest_of
forest-front records body note is =
    ap (λ (notes : List Note). forest_of notes) is ∙ sym (with_put-is note (forest_in records))

laid-note : (coin : ℕ) (bytes : List ℕ) → nat_lt MOST_LAID (length bytes) ≡ false
    → (lay_effect coin bytes).note ≡ Some (note_text (Laid coin bytes))
unfolding lay_effect
laid-note coin bytes short = rw short refl

module _ (dig : List ℕ → List ℕ) (records : List (List ℕ)) (log : List RootCall) where
  pub adds_offered : (bytes : List ℕ) → are_of operator_kinds records ≡ true → length bytes ≤ 2632
      → (offer_effect dig records log bytes).note ≡ Some (note_text (Offered bytes))
      → AddsRecord records (note_text (Offered bytes)) (Some (coin_named bytes, bytes))
  unfolding note_text
  adds_offered bytes are short is =
      let body = note_text (Offered bytes) in
      let adds = commands_add_their_notes dig records log 0 bytes body are (omega arith) in
      record {
        fits = omega (arith, short);
        kind = (commands_keep_the_role dig records log 0 bytes body are).0 is;
        who_stays = adds.0;
        forest = forest-front records body (Offered bytes) (adds.1 is);
      }

  pub adds_laid : (coin : ℕ) (bytes : List ℕ) → are_of operator_kinds records ≡ true → coin < 2 ^ 64
      → length bytes ≤ MOST_LAID → AddsRecord records (note_text (Laid coin bytes)) (Some (coin, bytes))
  unfolding note_text
  adds_laid coin bytes are small short =
      let body = note_text (Laid coin bytes) in
      let is = laid-note coin bytes (le-ltb MOST_LAID (length bytes) short) in
      let adds = commands_add_their_notes dig records log coin bytes body are small in
      let field : length (number_text coin) ≡ 8 = refl in
      record {
        fits = omega (arith, short, field, length-append (number_text coin) bytes);
        kind = (commands_keep_the_role dig records log coin bytes body are).1 is;
        who_stays = adds.0;
        forest = forest-front records body (Laid coin bytes) (adds.2 is);
      }

  pub adds_sealed : are_of operator_kinds records ≡ true → AddsRecord records (note_text Sealed) None
  unfolding seal_effect note_text
  adds_sealed are =
      let body = note_text Sealed in
      let adds = commands_add_their_notes dig records log 0 [] body are (omega arith) in
      record {
        fits = omega arith;
        kind = (commands_keep_the_role dig records log 0 [] body are).2 refl;
        who_stays = adds.0;
        forest = forest-front records body Sealed (adds.3 refl);
      }

-- ---- the same, of a body that was made

pub laid_adds : (records : List (List ℕ)) (coin : ℕ) (bytes body : List ℕ) → body ≡ note_text (Laid coin bytes)
    → length bytes ≤ MOST_LAID → coin < 2 ^ 64 → are_of operator_kinds records ≡ true
    → AddsRecord records body (Some (coin, bytes))
laid_adds records coin bytes body is short small are =
    rw is (adds_laid (λ any. any) records [] coin bytes are small short)

pub sealed_adds : (records : List (List ℕ)) (body : List ℕ) → body ≡ note_text Sealed
    → are_of operator_kinds records ≡ true → AddsRecord records body None
sealed_adds records body is are = rw is (adds_sealed (λ any. any) records [] are)

-- ---- a lay

pub lay_long : (coin : ℕ) (bytes : List ℕ) → MOST_LAID < length bytes
    → lay_effect coin bytes ≡ only (Err (LeafTooLong (length bytes)))
unfolding lay_effect
lay_long coin bytes long = rw (lt-ltb MOST_LAID (length bytes) long) refl

pub lay_short : (coin : ℕ) (bytes : List ℕ) → length bytes ≤ MOST_LAID
    → lay_effect coin bytes ≡ record { answer = Ok tt; note = Some (note_text (Laid coin bytes)) }
unfolding lay_effect
lay_short coin bytes short = rw (le-ltb MOST_LAID (length bytes) short) refl

pub lay_stop-refusal : (stop : Stop) → lay_stop (Err (lay_refusal stop)) ≡ Some stop
lay_stop-refusal stop = grind (arith, common_steps) steps 20000

-- ---- what is kept, once the pool was sealed

pub fits_more : (records : List (List ℕ)) (body : List ℕ) → FitJournal records → length body ≤ most
    → FitJournal (records ++ body ∷ [])
fits_more = All-push (λ (body : List ℕ). length body ≤ most)

pub right_sealed : {H : Type 0} (hash : H) (records now : List (List ℕ)) (body : List ℕ) (who : Who)
    (pool undone taken : PoolState H) (trees roomy pushed : TreesState H) (tree : HashedMap H)
    → IsRight hash records who pool trees → AddsRecord records body None → now ≡ records ++ body ∷ []
    → undone.ahead ≡ pool.entries → undone.hash ≡ pool.hash
    → roomy.sealed ≡ trees.sealed → roomy.hash ≡ trees.hash
    → tree ≡ record { hash = undone.hash; entries = undone.ahead }
    → taken ≡ record { hash = undone.hash; entries = []; ahead = [] }
    → pushed.sealed ≡ roomy.sealed ++ tree.entries ∷ [] → pushed.hash ≡ roomy.hash
    → IsRight hash now who taken pushed
right_sealed hash records now body who pool undone taken trees roomy pushed tree right adds is ahead same_pool
    sealed same_trees tree_is taken_is added same_pushed = grind (arith, common_steps, fits_more) steps 20000
