-- Bundles are read as they are written, and have one spelling.
use Rattle.coin_history.proofs.Words.{◌≡◌, ℕ, zero, suc, ◌+◌, ◌-◌, ◌^◌, ◌<◌, ◌≤◌, ◌==◌, List, [], ◌∷◌, ◌++◌, Ok, Err, length, get_or, take, drop, refl, sym, ap, ◌∙◌, inl, inr, append_assoc, append-nil, arith, Result, All, slice_range, flat_map, cases_Bool, cases_lt, lt-ltb, le-ltb, eq-eqb, eqb-true, take_at, drop_at, take-append-drop, drop-drop, length-drop, length-append, drop_all, All-cons, All-head, All-tail, common_steps, number_text, number_at, AreBytes, RawOpening, Bundle, HistoryRefusal, BadBundle, length_text, length_at, item_text, bundle_text, Items, with_item, items_in, bundle_of, bundle_in, AreRising, IsBundle}
use Rattle.std.proofs.lemmas.Nat.{from_be_bytes-to_be_bytes_4}
use Rattle.plasma_tx.proofs.Parts.{number-in, number-below, number-bytes, short_number-below, short_number-bytes, bytes-range, length-range}
use Rattle.coin_history.proofs.BundleItems.{first-no_block, first-fallen, first-no_length, first-no_bytes, first-item, items_in-none}

-- ---- fields at a place

-- the part that stands first from a place on
part_at : (xs part rest : List ℕ) (place end : ℕ) → drop place xs ≡ part ++ rest → place + length part ≡ end
    → slice_range xs place end ≡ part
part_at xs part rest place end is ends =
    ap (λ (l : List ℕ). take (end - place) l) is ∙ take_at part rest (end - place) (omega arith)

-- what stands behind it
behind_part : (xs part rest : List ℕ) (place end : ℕ) → drop place xs ≡ part ++ rest → place + length part ≡ end
    → drop end xs ≡ rest
behind_part xs part rest place end is ends =
    ap (λ n. drop n xs) (sym ends) ∙ sym (drop-drop (length part) place xs)
    ∙ ap (λ (l : List ℕ). drop (length part) l) is
    ∙ drop_at part rest (length part) refl

number_first : (xs rest : List ℕ) (place number : ℕ) → number < 2 ^ 64 → drop place xs ≡ number_text number ++ rest
    → number_at xs place ≡ number
number_first xs rest place number small is =
    number-in xs place number small (part_at xs (number_text number) rest place (place + 8) is refl)

length_first : (xs rest : List ℕ) (place number : ℕ) → number < 2 ^ 32 → drop place xs ≡ length_text number ++ rest
    → length_at xs place ≡ number
length_first xs rest place number small is =
    grind (arith, common_steps, part_at, from_be_bytes-to_be_bytes_4) steps 20000

-- ---- rising blocks

rising-cons : (opening : RawOpening) (openings : List RawOpening)
    → All (λ later. opening.block + 1 ≤ later.block) openings → AreRising openings
    → (i j : ℕ) (d : RawOpening) → i < j → j < length (opening ∷ openings)
    → (get_or (opening ∷ openings) i d).block < (get_or (opening ∷ openings) j d).block
rising-cons opening openings above rising zero zero d lt within = absurd (omega arith)
rising-cons opening openings above rising zero (suc j) d lt within =
    let le = above j d (omega arith) in omega (arith, le)
rising-cons opening openings above rising (suc i) zero d lt within = absurd (omega arith)
rising-cons opening openings above rising (suc i) (suc j) d lt within = rising i j d (omega arith) (omega arith)

rising-tail : (opening : RawOpening) (openings : List RawOpening) → AreRising (opening ∷ openings) → AreRising openings
rising-tail opening openings rising = λ i j d lt within. rising (suc i) (suc j) d (omega arith) (omega arith)

rising-head : (opening : RawOpening) (openings : List RawOpening) → AreRising (opening ∷ openings)
    → All (λ later. opening.block + 1 ≤ later.block) openings
rising-head opening openings rising =
    λ k d lt. let below = rising 0 (suc k) d (omega arith) (omega arith) in omega (arith, below)

-- ---- a bundle's bytes are read as that bundle

-- openings whose numbers fit their fields, the first at a block from low on
record Fit (low : ℕ) (openings : List RawOpening) : Type 0 where
  blocks : All (λ opening. opening.block < 2 ^ 64) openings
  lengths : All (λ opening. length opening.bytes < 2 ^ 32) openings
  above : All (λ opening. low ≤ opening.block) openings
  rising : AreRising openings

Fit-tail : (low : ℕ) (opening : RawOpening) (openings : List RawOpening) → Fit low (opening ∷ openings)
    → Fit (opening.block + 1) openings
Fit-tail low opening openings fit = record {
  blocks = All-tail (λ o. o.block < 2 ^ 64) opening openings fit.blocks;
  lengths = All-tail (λ o. length o.bytes < 2 ^ 32) opening openings fit.lengths;
  above = rising-head opening openings fit.rising;
  rising = rising-tail opening openings fit.rising;
}

-- where the first of these items stands at a place, and what of it
record IsFirst (bytes : List ℕ) (place : ℕ) (opening : RawOpening) (rest : List ℕ) : Type 0 where
  block : number_at bytes place ≡ opening.block
  count : length_at bytes (place + 8) ≡ length opening.bytes
  shown : slice_range bytes (place + 12) (place + 12 + length opening.bytes) ≡ opening.bytes
  long : place + 12 + length opening.bytes ≤ length bytes
  behind : drop (place + 12 + length opening.bytes) bytes ≡ rest

item_first : (bytes : List ℕ) (place : ℕ) (opening : RawOpening) (rest : List ℕ) → opening.block < 2 ^ 64
    → length opening.bytes < 2 ^ 32 → drop place bytes ≡ item_text opening ++ rest
    → IsFirst bytes place opening rest
item_first bytes place opening rest block_small length_small is =
    let text = length_text (length opening.bytes) in
    let whole = is ∙ regroup (number_text opening.block) text opening.bytes in
    let four : length text ≡ 4 = refl in
    let at_length = behind_part bytes (number_text opening.block) (text ++ (opening.bytes ++ rest)) place (place + 8)
    whole refl in
    let at_bytes = behind_part bytes text (opening.bytes ++ rest) (place + 8) (place + 12) at_length (omega arith) in
    let long = ap (λ (l : List ℕ). length l) whole in
    let fits : place + 12 + length opening.bytes ≤ length bytes =
    omega (arith, long, length-drop place bytes, length-append opening.bytes rest) in
    record {
      block = number_first bytes (text ++ (opening.bytes ++ rest)) place opening.block block_small whole;
      count = length_first bytes (opening.bytes ++ rest) (place + 8) (length opening.bytes) length_small at_length;
      shown = part_at bytes opening.bytes rest (place + 12) (place + 12 + length opening.bytes) at_bytes refl;
      long = fits;
      behind = behind_part bytes opening.bytes rest (place + 12) (place + 12 + length opening.bytes) at_bytes refl;
    }
  where
    regroup : (a b c : List ℕ) → a ++ b ++ c ++ rest ≡ a ++ (b ++ (c ++ rest))
    regroup a b c = simp append_assoc

items_in-first : (bytes : List ℕ) (place low count : ℕ) (opening : RawOpening) (rest : List ℕ)
    → IsFirst bytes place opening rest → low ≤ opening.block
    → items_in bytes place low (suc count)
    ≡ with_item opening (items_in bytes (place + 12 + length opening.bytes) (opening.block + 1) count)
items_in-first bytes place low count opening rest first rises =
    let block = first.block in
    let counted = first.count in
    let shown = ap (λ n. slice_range bytes (place + 12) (place + 12 + n)) counted ∙ first.shown in
    let long = first.long in
    first-item bytes place low count (omega arith) (omega arith)
    ∙ (λ i. with_item (record { block = block i; bytes = shown i })
    (items_in bytes (place + 12 + counted i) (block i + 1) count))

items_in-text : (bytes : List ℕ) (place low : ℕ) (openings : List RawOpening) → place ≤ length bytes
    → drop place bytes ≡ flat_map item_text openings → Fit low openings
    → items_in bytes place low (length openings) ≡ Ok (record { openings = openings; place = length bytes })
items_in-text bytes place low [] within is fit =
    let none : length (drop place bytes) ≡ 0 = ap (λ (l : List ℕ). length l) is in
    grind (arith, common_steps, length-drop, items_in-none) steps 20000
items_in-text bytes place low (opening ∷ openings) within is fit =
    let first = item_first bytes place opening (flat_map item_text openings)
    (All-head (λ o. o.block < 2 ^ 64) opening openings fit.blocks)
    (All-head (λ o. length o.bytes < 2 ^ 32) opening openings fit.lengths) is in
    let rises = All-head (λ o. low ≤ o.block) opening openings fit.above in
    items_in-first bytes place low (length openings) opening (flat_map item_text openings) first rises
    ∙ ap (with_item opening) (items_in-text bytes (place + 12 + length opening.bytes) (opening.block + 1) openings
    first.long first.behind (Fit-tail low opening openings fit))

pub bundle_in-text : (bundle : Bundle) → IsBundle bundle → bundle_in (bundle_text bundle) ≡ Ok bundle
unfolding bundle_in bundle_text
bundle_in-text bundle h =
    let coin = number_text bundle.coin in
    let tip = number_text bundle.tip in
    let count = length_text (length bundle.openings) in
    let items = flat_map item_text bundle.openings in
    let bytes : List ℕ = coin ++ tip ++ count ++ items in
    let at_coin : bytes ≡ coin ++ (tip ++ (count ++ items)) = regroup coin tip count items in
    let at_tip = behind_part bytes coin (tip ++ (count ++ items)) 0 8 at_coin refl in
    let at_count = behind_part bytes tip (count ++ items) 8 16 at_tip refl in
    let at_items = behind_part bytes count items 16 20 at_count refl in
    let measured = ap (λ (l : List ℕ). length l) at_coin in
    let long : 20 ≤ length bytes = omega (arith, measured) in
    let is_coin = number_first bytes (tip ++ (count ++ items)) 0 bundle.coin h.coin at_coin in
    let is_tip = number_first bytes (count ++ items) 8 bundle.tip h.tip at_tip in
    let is_count = length_first bytes items 16 (length bundle.openings) h.count at_count in
    let read = items_in-text bytes 20 0 bundle.openings (omega arith) at_items (record {
      blocks = h.blocks;
      lengths = h.lengths;
      above = λ k d lt. omega arith;
      rising = h.rising;
    }) in
    let counted : items_in bytes 20 0 (length_at bytes 16)
    ≡ Ok (record { openings = bundle.openings; place = length bytes }) =
    ap (λ n. items_in bytes 20 0 n) is_count ∙ read in
    grind (arith, common_steps, le-ltb, eq-eqb) steps 20000
  where
    regroup : (a b c d : List ℕ) → a ++ b ++ c ++ d ≡ a ++ (b ++ (c ++ d))
    regroup a b c d = simp append_assoc

-- ---- bytes that are read as a bundle are its own

ok_same : {A : Type 0} (x y : A) (read : Result A HistoryRefusal) → read ≡ Ok x → read ≡ Ok y → x ≡ y
ok_same x y read d e = cc

-- what is known where a first item was read
record IsFirstRead (bytes : List ℕ) (place low count : ℕ) (items : Items) : Type 0 where
  later : Items
  rises : low ≤ number_at bytes place
  long : place + 12 + length_at bytes (place + 8) ≤ length bytes
  rest : items_in bytes (place + 12 + length_at bytes (place + 8)) (number_at bytes place + 1) count ≡ Ok later
  place_is : items.place ≡ later.place
  openings_is : items.openings ≡ record {
    block = number_at bytes place;
    bytes = slice_range bytes (place + 12) (place + 12 + length_at bytes (place + 8));
  } ∷ later.openings

with_item-ok : (opening : RawOpening) (read : Result Items HistoryRefusal) (items : Items)
    → with_item opening read ≡ Ok items
    → (later : Items) × (read ≡ Ok later) × (record later { openings = opening ∷ later.openings } ≡ items)
with_item-ok opening read items h = grind (arith, common_steps, ok_same) steps 20000

items_in-suc : (bytes : List ℕ) (place low count : ℕ) (items : Items) → items_in bytes place low (suc count) ≡ Ok items
    → IsFirstRead bytes place low count items
items_in-suc bytes place low count items h = elim (cases_lt (length bytes) (place + 8)) [
  | inl short ↦ refused place (first-no_block bytes place low count short)
  | inr to_block ↦ elim (cases_lt (number_at bytes place) low) [
    | inl fallen ↦ refused place (first-fallen bytes place low count to_block fallen)
    | inr rises ↦ elim (cases_lt (length bytes) (place + 12)) [
      | inl short ↦ refused (place + 8) (first-no_length bytes place low count to_block rises short)
      | inr to_length ↦ elim (cases_lt (length bytes) (place + 12 + length_at bytes (place + 8))) [
        | inl short ↦ refused (place + 12) (first-no_bytes bytes place low count to_length rises short)
        | inr long ↦
            let end = place + 12 + length_at bytes (place + 8) in
            let opening : RawOpening = record {
              block = number_at bytes place;
              bytes = slice_range bytes (place + 12) end;
            } in
            let known = with_item-ok opening (items_in bytes end (number_at bytes place + 1) count) items
            (sym (first-item bytes place low count rises long) ∙ h) in
            record {
              later = known.0;
              rises = rises;
              long = long;
              rest = known.1;
              place_is = sym (ap (λ (i : Items). i.place) known.2);
              openings_is = sym (ap (λ (i : Items). i.openings) known.2);
            }
      ]
    ]
  ]
]
  where
    refused : (bad : ℕ) → items_in bytes place low (suc count) ≡ Err (BadBundle bad)
        → IsFirstRead bytes place low count items
    refused bad is = let wrong : Err (BadBundle bad) ≡ Ok items = sym is ∙ h in absurd (cc wrong)

-- what holds of items that were read, whatever the bytes are
pub record AreRead (bytes : List ℕ) (low count : ℕ) (items : Items) : Type 0 where
  pub counted : length items.openings ≡ count
  pub within : items.place ≤ length bytes
  pub above : All (λ opening. low ≤ opening.block) items.openings
  pub rising : AreRising items.openings

pub items_in-ok : (bytes : List ℕ) (place low count : ℕ) (items : Items) → place ≤ length bytes
    → items_in bytes place low count ≡ Ok items → AreRead bytes low count items
items_in-ok bytes place low zero items within h =
    let none = ok_same (record { openings = []; place = place }) items (Ok items)
    (sym h ∙ items_in-none bytes place low) refl in
    grind (arith, common_steps) steps 20000
items_in-ok bytes place low (suc count) items within h =
    let first = items_in-suc bytes place low count items h in
    let opening : RawOpening = record {
      block = number_at bytes place;
      bytes = slice_range bytes (place + 12) (place + 12 + length_at bytes (place + 8));
    } in
    let later = first.later in
    let rises = first.rises in
    let read = items_in-ok bytes (place + 12 + length_at bytes (place + 8)) (opening.block + 1) count later first.long
    first.rest in
    record {
      counted = ap (λ (os : List RawOpening). length os) first.openings_is ∙ ap (λ n. suc n) read.counted;
      within = rw first.place_is read.within;
      above = rw first.openings_is (All-cons (λ o. low ≤ o.block) opening later.openings rises
          (λ k d lt. let le = read.above k d lt in omega (arith, le, rises)));
      rising = rw first.openings_is (rising-cons opening later.openings read.above read.rising);
    }

-- what holds of them where the bytes are bytes
pub record AreSpelled (bytes : List ℕ) (place : ℕ) (items : Items) : Type 0 where
  pub text : drop place bytes ≡ flat_map item_text items.openings ++ drop items.place bytes
  pub blocks : All (λ opening. opening.block < 2 ^ 64) items.openings
  pub lengths : All (λ opening. length opening.bytes < 2 ^ 32) items.openings

-- a range and what stands behind it
range-drop : (xs : List ℕ) (a b : ℕ) → a ≤ b → drop a xs ≡ slice_range xs a b ++ drop b xs
range-drop xs a b le =
    let e : a + (b - a) ≡ b = omega arith in
    sym (take-append-drop (b - a) (drop a xs)) ∙ ap (λ (l : List ℕ). slice_range xs a b ++ l)
    (drop-drop (b - a) a xs ∙ ap (λ n. drop n xs) e)

module _ (bytes : List ℕ) (small : AreBytes bytes) where
  number-spelled : (place : ℕ) → place + 8 ≤ length bytes
      → number_text (number_at bytes place) ≡ slice_range bytes place (place + 8)
  number-spelled place long = number-bytes (slice_range bytes place (place + 8))
      (bytes-range bytes place (place + 8) small)
      (omega (arith, length-range bytes place (place + 8) (omega arith) long))

  length-spelled : (place number : ℕ) → place + 4 ≤ length bytes → number ≡ length_at bytes place
      → length_text number ≡ slice_range bytes place (place + 4)
  length-spelled place number long is = short_number-bytes (slice_range bytes place (place + 4)) number
      (bytes-range bytes place (place + 4) small)
      (omega (arith, length-range bytes place (place + 4) (omega arith) long)) is

  length-small : (place : ℕ) → length_at bytes place < 2 ^ 32
  length-small place = short_number-below (slice_range bytes place (place + 4))
      (bytes-range bytes place (place + 4) small)

  number-small : (place : ℕ) → number_at bytes place < 2 ^ 64
  number-small place = number-below (slice_range bytes place (place + 8)) (bytes-range bytes place (place + 8) small)

  -- an item that stands at a place
  item-spelled : (place count : ℕ) → count ≡ length_at bytes (place + 8) → place + 12 + count ≤ length bytes
      → drop place bytes ≡ item_text (record {
        block = number_at bytes place;
        bytes = slice_range bytes (place + 12) (place + 12 + count);
      }) ++ drop (place + 12 + count) bytes
  item-spelled place count is long =
      let end = place + 12 + count in
      let shown : List ℕ = slice_range bytes (place + 12) end in
      let shown_long : length shown ≡ count =
      omega (arith, length-range bytes (place + 12) end (omega arith) (omega arith)) in
      let behind_length : place + 8 + 4 ≡ place + 12 = omega arith in
      let block = number-spelled place (omega arith) in
      let counted = length-spelled (place + 8) (length shown) (omega arith) (shown_long ∙ is)
      ∙ ap (λ n. slice_range bytes (place + 8) n) behind_length in
      let front : List ℕ = slice_range bytes place (place + 8) in
      let middle : List ℕ = slice_range bytes (place + 8) (place + 12) in
      range-drop bytes place (place + 8) (omega arith)
      ∙ ap (λ (l : List ℕ). front ++ l) (range-drop bytes (place + 8) (place + 12) (omega arith))
      ∙ ap (λ (l : List ℕ). front ++ (middle ++ l)) (range-drop bytes (place + 12) end (omega arith))
      ∙ sym (regroup front middle shown (drop end bytes))
      ∙ (λ i. sym block i ++ sym counted i ++ shown ++ drop end bytes)
    where
      regroup : (a b c d : List ℕ) → a ++ b ++ c ++ d ≡ a ++ (b ++ (c ++ d))
      regroup a b c d = simp append_assoc

  pub items_in-spelled : (place low count : ℕ) (items : Items) → place ≤ length bytes
      → items_in bytes place low count ≡ Ok items → AreSpelled bytes place items
  items_in-spelled place low zero items within h = grind (arith, common_steps, ok_same, items_in-none) steps 20000
  items_in-spelled place low (suc count) items within h =
      let first = items_in-suc bytes place low count items h in
      let long = length_at bytes (place + 8) in
      let end = place + 12 + long in
      let opening : RawOpening = record {
        block = number_at bytes place;
        bytes = slice_range bytes (place + 12) end;
      } in
      let later = first.later in
      let fits = first.long in
      let spelled = items_in-spelled end (opening.block + 1) count later fits first.rest in
      let small_length : length opening.bytes < 2 ^ 32 =
      omega (arith, length-range bytes (place + 12) end (omega arith) fits, length-small (place + 8)) in
      record {
        text = item-spelled place long refl fits ∙ ap (λ (l : List ℕ). item_text opening ++ l) spelled.text
            ∙ sym (append_assoc (item_text opening) (flat_map item_text later.openings) (drop later.place bytes))
            ∙ (λ i. flat_map item_text (sym first.openings_is i) ++ drop (sym first.place_is i) bytes);
        blocks = rw first.openings_is (All-cons (λ o. o.block < 2 ^ 64) opening later.openings (number-small place)
            spelled.blocks);
        lengths = rw first.openings_is (All-cons (λ o. length o.bytes < 2 ^ 32) opening later.openings small_length
            spelled.lengths);
      }

-- what is known where a bundle was read
record IsBundleRead (bytes : List ℕ) (bundle : Bundle) : Type 0 where
  items : Items
  long : 20 ≤ length bytes
  read : items_in bytes 20 0 (length_at bytes 16) ≡ Ok items
  end : items.place ≡ length bytes
  bundle_is : record { coin = number_at bytes 0; tip = number_at bytes 8; openings = items.openings } ≡ bundle

bundle_of-ok : (bytes : List ℕ) (bundle : Bundle) (read : Result Items HistoryRefusal) → 20 ≤ length bytes
    → items_in bytes 20 0 (length_at bytes 16) ≡ read → bundle_of bytes read ≡ Ok bundle → IsBundleRead bytes bundle
bundle_of-ok bytes bundle (Err why) long is h = absurd (cc h)
bundle_of-ok bytes bundle (Ok items) long is h = elim (cases_Bool (items.place == length bytes)) [
  | inl ends ↦
      let made : Bundle = record { coin = number_at bytes 0; tip = number_at bytes 8; openings = items.openings } in
      let good : Ok made ≡ Ok bundle = rw ends at h in
      record {
        items = items;
        long = long;
        read = is;
        end = eqb-true items.place (length bytes) ends;
        bundle_is = ok_same made bundle (Ok bundle) (sym good) refl;
      }
  | inr goes_on ↦ let bad : Err (BadBundle items.place) ≡ Ok bundle = rw goes_on at h in cc bad
]

bundle_in-ok : (bytes : List ℕ) (bundle : Bundle) → bundle_in bytes ≡ Ok bundle → IsBundleRead bytes bundle
unfolding bundle_in
bundle_in-ok bytes bundle h = elim (cases_lt (length bytes) 8) [
  | inl short ↦ let bad : Err (BadBundle 0) ≡ Ok bundle = rw (lt-ltb (length bytes) 8 short) at h in cc bad
  | inr coin ↦ elim (cases_lt (length bytes) 16) [
    | inl short ↦
        grind (arith, common_steps, le-ltb, lt-ltb) steps 20000
    | inr tip ↦ elim (cases_lt (length bytes) 20) [
      | inl short ↦
          grind (arith, common_steps, le-ltb, lt-ltb) steps 20000
      | inr long ↦
          grind (arith, common_steps, le-ltb, bundle_of-ok) steps 20000
    ]
  ]
]

-- the bytes of the bundle that they spell
bundle-spelled : (bytes : List ℕ) (items : Items) → AreBytes bytes → 20 ≤ length bytes
    → length items.openings ≡ length_at bytes 16 → items.place ≡ length bytes → AreSpelled bytes 20 items
    → bytes ≡ number_text (number_at bytes 0) ++ number_text (number_at bytes 8)
    ++ length_text (length items.openings) ++ flat_map item_text items.openings
bundle-spelled bytes items small long counted end spelled =
    let coin = number-spelled bytes small 0 (omega arith) in
    let tip = number-spelled bytes small 8 (omega arith) in
    let count = length-spelled bytes small 16 (length items.openings) long counted in
    let none : drop items.place bytes ≡ [] = drop_all items.place bytes (omega arith) in
    let listed : List ℕ = flat_map item_text items.openings in
    let rest : drop 20 bytes ≡ listed = spelled.text ∙ ap (λ (l : List ℕ). listed ++ l) none ∙ append-nil listed in
    let one : List ℕ = slice_range bytes 0 8 in
    let two : List ℕ = slice_range bytes 8 16 in
    let three : List ℕ = slice_range bytes 16 20 in
    range-drop bytes 0 8 (omega arith) ∙ ap (λ (l : List ℕ). one ++ l) (range-drop bytes 8 16 (omega arith))
    ∙ ap (λ (l : List ℕ). one ++ (two ++ l)) (range-drop bytes 16 20 (omega arith))
    ∙ ap (λ (l : List ℕ). one ++ (two ++ (three ++ l))) rest ∙ sym (regroup one two three listed)
    ∙ (λ i. sym coin i ++ sym tip i ++ sym count i ++ listed)
  where
    regroup : (a b c d : List ℕ) → a ++ b ++ c ++ d ≡ a ++ (b ++ (c ++ d))
    regroup a b c d = simp append_assoc

pub text-bundle_in : (bytes : List ℕ) (bundle : Bundle) → AreBytes bytes → bundle_in bytes ≡ Ok bundle
    → (bytes ≡ bundle_text bundle) × IsBundle bundle
unfolding bundle_text
text-bundle_in bytes bundle small h =
    let known = bundle_in-ok bytes bundle h in
    let long = known.long in
    let items = known.items in
    let read = items_in-ok bytes 20 0 (length_at bytes 16) items long known.read in
    let spelled = items_in-spelled bytes small 20 0 (length_at bytes 16) items long known.read in
    rw (← known.bundle_is) (
      bundle-spelled bytes items small long read.counted known.end spelled,
      record {
        coin = number-small bytes small 0;
        tip = number-small bytes small 8;
        count = omega (arith, read.counted, length-small bytes small 16);
        blocks = spelled.blocks;
        lengths = spelled.lengths;
        rising = read.rising;
      },
    )
