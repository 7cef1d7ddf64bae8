-- The items of a bundle's bytes, one after another, and what is written of a bundle.
use Rattle.coin_history.proofs.Words.{◌≡◌, ℕ, suc, ◌+◌, ◌-◌, ◌<◌, ◌≤◌, List, [], ◌∷◌, ◌++◌, Option, Ok, Err, length, get_or, take, drop, refl, sym, ap, ◌∙◌, inl, inr, arith, ◌⊎◌, true, is_ok, Result, slice_range, flat_map, option_map_or, lt-ltb, le-ltb, take_at, take_more, take-append-drop, flat_map_more, common_steps, number_text, number_at, RawOpening, Bundle, HistoryRefusal, BadBundle, length_text, length_at, item_text, bundle_text, Items, with_item, items_in}

-- ---- the first of some items

module _ (bytes : List ℕ) (place low count : ℕ) where
  pub first-no_block : length bytes < place + 8 → items_in bytes place low (suc count) ≡ Err (BadBundle place)
  unfolding items_in
  first-no_block short = rw (lt-ltb (length bytes) (place + 8) short) refl

  pub first-fallen : place + 8 ≤ length bytes → number_at bytes place < low
      → items_in bytes place low (suc count) ≡ Err (BadBundle place)
  unfolding items_in
  first-fallen long fallen =
      rw (le-ltb (length bytes) (place + 8) long, lt-ltb (number_at bytes place) low fallen) refl

  pub first-no_length : place + 8 ≤ length bytes → low ≤ number_at bytes place → length bytes < place + 12
      → items_in bytes place low (suc count) ≡ Err (BadBundle (place + 8))
  unfolding items_in
  first-no_length long rises short =
      rw (
        le-ltb (length bytes) (place + 8) long,
        le-ltb (number_at bytes place) low rises,
        lt-ltb (length bytes) (place + 12) short,
      ) refl

  pub first-no_bytes : place + 12 ≤ length bytes → low ≤ number_at bytes place
      → length bytes < place + 12 + length_at bytes (place + 8)
      → items_in bytes place low (suc count) ≡ Err (BadBundle (place + 12))
  unfolding items_in
  first-no_bytes long rises short =
      rw (
        le-ltb (length bytes) (place + 8) (omega arith),
        le-ltb (number_at bytes place) low rises,
        le-ltb (length bytes) (place + 12) long,
        lt-ltb (length bytes) (place + 12 + length_at bytes (place + 8)) short,
      ) refl

  pub first-item : low ≤ number_at bytes place → place + 12 + length_at bytes (place + 8) ≤ length bytes
      → items_in bytes place low (suc count)
      ≡ with_item (record {
        block = number_at bytes place;
        bytes = slice_range bytes (place + 12) (place + 12 + length_at bytes (place + 8));
      }) (items_in bytes (place + 12 + length_at bytes (place + 8)) (number_at bytes place + 1) count)
  unfolding items_in
  first-item rises long =
      rw (
        le-ltb (length bytes) (place + 8) (omega arith),
        le-ltb (number_at bytes place) low rises,
        le-ltb (length bytes) (place + 12) (omega arith),
        le-ltb (length bytes) (place + 12 + length_at bytes (place + 8)) long,
      ) refl

pub items_in-none : (bytes : List ℕ) (place low : ℕ)
    → items_in bytes place low 0 ≡ Ok (record { openings = []; place = place })
unfolding items_in
items_in-none bytes place low = refl

-- the lowest block after one
abbrev pub low_of : Option ℕ → ℕ
low_of before = option_map_or (λ block. block + 1) before 0

-- ---- items that are read one after another

-- items before others that were read
abbrev pub with_items : List RawOpening → Result Items HistoryRefusal → Result Items HistoryRefusal
with_items openings (Err why) = Err why
with_items openings (Ok items) = Ok (record items { openings = openings ++ items.openings })

with_items-with_item : (openings : List RawOpening) (opening : RawOpening) (read : Result Items HistoryRefusal)
    → with_items openings (with_item opening read) ≡ with_items (openings ++ opening ∷ []) read
with_items-with_item openings opening read = grind (arith, common_steps) steps 20000

-- the first item at a place stands there whole
abbrev pub IsFirstWhole : List ℕ → ℕ → Type 0
IsFirstWhole bytes place = is_ok (items_in bytes place 0 1) ≡ true

-- Of so many items at a place these were read up to an end, and so many are left. None was read, or the first stands
-- there whole.
pub record HaveRead (bytes : List ℕ) (place count : ℕ) (openings : List RawOpening) (end low left : ℕ) : Type 0 where
  pub within : end ≤ length bytes
  pub rest : items_in bytes place 0 count ≡ with_items openings (items_in bytes end low left)
  pub first : ((end ≡ place) × (low ≡ 0)) ⊎ IsFirstWhole bytes place

-- an item that stands at the end, where none was read, or the first is whole, is behind a first one that is whole
first-whole : (bytes : List ℕ) (place end low next : ℕ) (opening : RawOpening)
    → ((end ≡ place) × (low ≡ 0)) ⊎ IsFirstWhole bytes place
    → ((left : ℕ) → items_in bytes end low (suc left)
    ≡ with_item opening (items_in bytes next (opening.block + 1) left)) → IsFirstWhole bytes place
unfolding items_in
first-whole bytes place end low next opening (inr whole) item = whole
first-whole bytes place end low next opening (inl none) item =
    let here : items_in bytes place 0 1 ≡ items_in bytes end low 1 =
    λ i. items_in bytes (sym none.0 i) (sym none.1 i) 1 in
    ap (λ (r : Result Items HistoryRefusal). is_ok r) (here ∙ item 0)

module _ (bytes : List ℕ) (place count : ℕ) where
  module _ (openings : List RawOpening) (end low i : ℕ)
      (known : HaveRead bytes place count openings end low (count - i)) where
    pub HaveRead-more : (now : List RawOpening) (opening : RawOpening) (next : ℕ) → i < count → next ≤ length bytes
        → now ≡ openings ++ opening ∷ []
        → ((left : ℕ) → items_in bytes end low (suc left)
        ≡ with_item opening (items_in bytes next (opening.block + 1) left))
        → HaveRead bytes place count now next (opening.block + 1) (count - (i + 1))
    HaveRead-more now opening next lt within pushed first = record {
      within = within;
      rest = grind (arith, common_steps, with_items-with_item) steps 20000;
      first = inr (first-whole bytes place end low next opening known.first first);
    }

    -- where an item stands behind those that were read, there is a first one, and it stands there whole
    pub HaveRead-whole : (opening : RawOpening) (next : ℕ) → i < count
        → ((left : ℕ) → items_in bytes end low (suc left)
        ≡ with_item opening (items_in bytes next (opening.block + 1) left))
        → (1 ≤ count) × IsFirstWhole bytes place
    HaveRead-whole opening next lt first =
        (omega arith, first-whole bytes place end low next opening known.first first)

    pub HaveRead-refused : (why : HistoryRefusal) → i < count
        → ((left : ℕ) → items_in bytes end low (suc left) ≡ Err why) → items_in bytes place 0 count ≡ Err why
    HaveRead-refused why lt first =
        let left = count - (i + 1) in
        let e : count - i ≡ suc left = omega arith in
        grind (arith, common_steps) steps 20000

    pub HaveRead-all : count ≤ i → items_in bytes place 0 count ≡ Ok (record { openings = openings; place = end })
    unfolding items_in
    HaveRead-all le = grind (arith, common_steps) steps 20000

-- ---- what is written

-- what was at the front stays there, where more was put after it
pub front_kept : (out now last more : List ℕ) → now ≡ out ++ more → take (length now) last ≡ now
    → take (length out) last ≡ out
front_kept out now last more put kept =
    let rest = drop (length now) last in
    let whole : last ≡ out ++ (more ++ rest) = grind (arith, common_steps, take-append-drop) steps 20000 in
    ap (λ (l : List ℕ). take (length out) l) whole ∙ take_at out (more ++ rest) (length out) refl

-- one more item
pub item_put : (out now new : List ℕ) (openings : List RawOpening) (opening : RawOpening) (i : ℕ) → i < length openings
    → opening ≡ get_or openings i opening → now ≡ out ++ flat_map item_text (take i openings)
    → new ≡ now ++ item_text opening → new ≡ out ++ flat_map item_text (take (i + 1) openings)
item_put out now new openings opening i lt is known put =
    let more : take (i + 1) openings ≡ take i openings ++ opening ∷ [] = take_more openings i opening lt
    ∙ ap (λ o. take i openings ++ o ∷ []) (sym is) in
    put ∙ ap (λ (l : List ℕ). l ++ item_text opening) known ∙ flat_map_more item_text out (take i openings) opening
    ∙ ap (λ os. out ++ flat_map item_text os) (sym more)

-- the numbers that a bundle begins with
pub header_put : (out one two three coin tip count : List ℕ) → one ≡ out ++ coin → two ≡ one ++ tip
    → three ≡ two ++ count → three ≡ out ++ (coin ++ tip ++ count)
header_put out one two three coin tip count is_one is_two is_three = grind (arith, common_steps) steps 20000

-- these numbers and the items
pub bundle_put : (out now : List ℕ) (bundle : Bundle) (openings : List RawOpening) → openings ≡ bundle.openings
    → now ≡ out ++ (number_text bundle.coin ++ number_text bundle.tip ++ length_text (length openings))
    → now ++ flat_map item_text openings ≡ out ++ bundle_text bundle
unfolding bundle_text
bundle_put out now bundle openings same known = grind (arith, common_steps) steps 20000
