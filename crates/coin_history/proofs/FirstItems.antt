-- Bytes that spell a bundle with an opening have a first item.
use Rattle.coin_history.proofs.Words.{◌≡◌, ◌≢◌, ℕ, zero, suc, ◌+◌, ◌≤◌, ◌==◌, Bool, true, false, if◌then◌else◌, List, [], length, Option, Result, Ok, Err, refl, sym, ◌∙◌, arith, ltb-false, common_steps, RawOpening, number_at, Bundle, HistoryRefusal, BadBundle, IsLookedAt, Items, length_at, items_in, with_item, bundle_of, bundle_in, HasFirstItem}
use Rattle.std.specs.Prelude.{nat_lt, is_ok, slice_range}

-- where tests let one answer through, they let another
ok-too : (a b c d : Bool) (one two three four : HistoryRefusal) (items : Items)
    (further other : Result Items HistoryRefusal) → is_ok other ≡ true
    → (if a then Err one else if b then Err two else if c then Err three else if d then Err four else further)
    ≡ Ok items
    → is_ok (if a then Err one else if b then Err two else if c then Err three else if d then Err four else other)
    ≡ true
ok-too a b c d one two three four items further other fine is = grind (arith, common_steps) steps 20000

first-whole : (bytes : List ℕ) (place low count : ℕ) (items : Items)
    → items_in bytes place low (suc count) ≡ Ok items → is_ok (items_in bytes place low 1) ≡ true
unfolding items_in
first-whole bytes place low count items is =
    let block = number_at bytes place in
    let end = place + 12 + length_at bytes (place + 8) in
    ok-too (nat_lt (length bytes) (place + 8)) (nat_lt block low) (nat_lt (length bytes) (place + 12))
    (nat_lt (length bytes) end) (BadBundle place) (BadBundle place) (BadBundle (place + 8)) (BadBundle (place + 12))
    items
    (with_item (record { block = block; bytes = slice_range bytes (place + 12) end })
    (items_in bytes end (block + 1) count))
    (with_item (record { block = block; bytes = slice_range bytes (place + 12) end })
    (items_in bytes end (block + 1) 0)) refl is

counted-items : (bytes : List ℕ) (count : ℕ) (items : Items) → items_in bytes 20 0 count ≡ Ok items
    → items.openings ≢ [] → (1 ≤ count) × (is_ok (items_in bytes 20 0 1) ≡ true)
unfolding items_in
counted-items bytes zero items is some = grind (arith, common_steps) steps 20000
counted-items bytes (suc count) items is some = (omega arith, first-whole bytes 20 0 count items is)

items-of : (bytes : List ℕ) (read : Result Items HistoryRefusal) (bundle : Bundle) → bundle_of bytes read ≡ Ok bundle
    → bundle.openings ≢ [] → (items : Items) × (read ≡ Ok items) × (items.openings ≢ [])
items-of bytes (Err why) bundle is some = absurd (cc is)
items-of bytes (Ok items) bundle is some = (
  items,
  refl,
  λ none. some (sym (placed (items.place == length bytes) is) ∙ none),
)
  where
    placed : (b : Bool)
        → (if b then Ok (record { coin = number_at bytes 0; tip = number_at bytes 8; openings = items.openings })
        else Err (BadBundle items.place)) ≡ Ok bundle
        → items.openings ≡ bundle.openings
    placed true same = cc same
    placed false wrong = absurd (cc wrong)

-- a bundle with an opening has a first item
pub has-first_item : (bytes : List ℕ) (bundle : Bundle) → bundle_in bytes ≡ Ok bundle → bundle.openings ≢ []
    → HasFirstItem bytes
unfolding bundle_in
has-first_item bytes bundle is some =
    let read = items_in bytes 20 0 (length_at bytes 16) in
    let tested = tests (nat_lt (length bytes) 8) (nat_lt (length bytes) 16) (nat_lt (length bytes) 20)
    (bundle_of bytes read) is in
    let of = items-of bytes read bundle tested.1 some in
    let counted = counted-items bytes (length_at bytes 16) of.0 of.1 of.2 in
    record { numbers = ltb-false (length bytes) 20 tested.0; counted = counted.0; whole = counted.1 }
  where
    tests : (a b c : Bool) (further : Result Bundle HistoryRefusal)
        → (if a then Err (BadBundle 0) else if b then Err (BadBundle 8) else if c then Err (BadBundle 16) else further)
        ≡ Ok bundle
        → (c ≡ false) × (further ≡ Ok bundle)
    tests true b c further wrong = absurd (cc wrong)
    tests false true c further wrong = absurd (cc wrong)
    tests false false true further wrong = absurd (cc wrong)
    tests false false false further same = (refl, same)

-- a bundle of which an opening is looked at has one
pub looked-some : {asks : ℕ → Bool} {failure : ℕ → Option HistoryRefusal} (openings : List RawOpening)
    → IsLookedAt asks failure openings → openings ≢ []
looked-some openings looks none = grind (arith, common_steps) steps 20000
