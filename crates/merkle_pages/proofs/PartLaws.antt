-- Parts of a map: the two halves of a part, the whole map and one coin as parts, and the coins of a part.
use Rattle.merkle_pages.proofs.Words.{◌≡◌, ◌≢◌, ◌⊎◌, ℕ, zero, suc, ◌+◌, ◌-◌, ◌/◌, ◌^◌, ◌<◌, ◌≤◌, ◌==◌, ◌&&◌, Bool, true, false, not, List, [], ◌∷◌, length, get_or, slice_index_or, refl, sym, ap, ◌∙◌, inl, inr, arith, ◌%◌, bit_xor, filter, All, cases_Bool, cases_lt, eq-eqb, eqb-true, eqb-false, ne_eqb, both_ways, ext_get_or, get_or_push, get_or_append_left, get_or-map, length-map, nil_from_length, filter_passes, All-head, All-tail, shr-shr, xor_lt, pow_below, div-le_self, common_steps, parent_string, bit_of, leaf_string, leaf_of, only_leaf, near_part, far_part, subtree_digest, path_below, path_to, IsMap, IsSubtree, Entry, AllPairs-filter, agree-lower, bit_at-same, parent_string-sides, length-path_below, IsSubtree-parted, coins_of, near_coins, far_coins, part_at}
use Rattle.std.specs.Int.{bit_at}
use Rattle.std.specs.List.Sorted.{IsPartitionedBy}
use Rattle.std.proofs.lemmas.Nat.Bits.{bit_at_xor, bit_at-pow_same, bit_at-pow_other, bit_at-lt, same_from_bits_below}

-- ---- filters

filter-twice : {X : Type 0} (p q r : X → Bool) → ((x : X) → r x ≡ (q x && p x)) → (xs : List X)
    → filter p (filter q xs) ≡ filter r xs
filter-twice p q r both [] = refl
filter-twice p q r both (x ∷ xs) = grind (arith, common_steps, filter-twice p q r both xs, cases_Bool) steps 20000

pub filter-every : {X : Type 0} (p : X → Bool) (xs : List X) → All (λ x. p x ≡ true) xs → filter p xs ≡ xs
filter-every p [] h = refl
filter-every p (x ∷ xs) h =
    rw (All-head (λ y. p y ≡ true) x xs h, filter-every p xs (All-tail (λ y. p y ≡ true) x xs h)) refl

pub not_not : (b : Bool) → b ≡ not (not b)
not_not b = grind (arith, common_steps) steps 20000

-- ---- the halves of a part

-- two coins that agree from a level on agree above it
pub prefix-up : (m n low high : ℕ) → low ≤ high → m / 2 ^ low ≡ n / 2 ^ low → m / 2 ^ high ≡ n / 2 ^ high
prefix-up m n low high le e =
    let width = high - low in
    let top : low + width ≡ high = omega arith in
    rw (← top) (sym (shr-shr m low width) ∙ ap (λ (q : ℕ). q / 2 ^ width) e ∙ shr-shr n low width)

-- two coins whose bits at a level are the same agree from the level on where they agree above it
same_prefix : (m n level : ℕ) → bit_of m level ≡ bit_of n level
    → (m / 2 ^ level == n / 2 ^ level) ≡ (m / 2 ^ suc level == n / 2 ^ suc level)
same_prefix m n level bit = elim (cases_Bool (m / 2 ^ suc level == n / 2 ^ suc level)) [
  | inl is ↦ rw is (eq-eqb _ _ (agree-lower m n level (eqb-true _ _ is) (bit_at-same m n level bit)))
  | inr isnt ↦ rw isnt (ne_eqb _ _ (λ e. eqb-false _ _ isnt (prefix-up m n level (suc level) (omega arith) e)))
]

-- two coins whose bits at a level differ don't agree from the level on
other_prefix : (m n level : ℕ) → bit_of m level ≢ bit_of n level → (m / 2 ^ level == n / 2 ^ level) ≡ false
other_prefix m n level differ = ne_eqb _ _ (λ e. differ (ap (λ (k : ℕ). k % 2 == 1) e))

and_true : (b : Bool) → b ≡ (b && true)
and_true b = grind (arith, common_steps) steps 20000

and_false : (b : Bool) → false ≡ (b && false)
and_false b = grind (arith, common_steps) steps 20000

-- the coins of a part that have a 1 at the bit below, and those that have a 0
right_half : (m n level : ℕ) → bit_of n level ≡ true
    → (m / 2 ^ level == n / 2 ^ level) ≡ (m / 2 ^ suc level == n / 2 ^ suc level && bit_of m level)
right_half m n level one = elim (cases_Bool (bit_of m level)) [
  | inl is ↦ rw (is, same_prefix m n level (is ∙ sym one)) (and_true _)
  | inr isnt ↦ rw (isnt, other_prefix m n level (λ e. both_ways (bit_of m level) isnt (e ∙ one))) (and_false _)
]

left_half : (m n level : ℕ) → bit_of n level ≡ false
    → (m / 2 ^ level == n / 2 ^ level) ≡ (m / 2 ^ suc level == n / 2 ^ suc level && not (bit_of m level))
left_half m n level zero_is = elim (cases_Bool (bit_of m level)) [
  | inl is ↦ rw (is, other_prefix m n level (λ e. both_ways (bit_of m level) (e ∙ zero_is) is)) (and_false _)
  | inr isnt ↦ rw (isnt, same_prefix m n level (isnt ∙ sym zero_is)) (and_true _)
]

pub near-part : (coin level : ℕ) (entries : List Entry)
    → near_part coin level (part_at (suc level) coin entries) ≡ part_at level coin entries
unfolding part_at
near-part coin level entries = elim (cases_Bool (bit_of coin level)) [
  | inl is ↦ rw is (filter-twice (λ entry. bit_of entry.coin level) (λ entry. entry.coin / 2 ^ suc level == coin / 2 ^
      suc level)
      (λ entry. entry.coin / 2 ^ level == coin / 2 ^ level) (λ entry. right_half entry.coin coin level is) entries)
  | inr isnt ↦ rw isnt (filter-twice (λ entry. not (bit_of entry.coin level))
      (λ entry. entry.coin / 2 ^ suc level == coin / 2 ^ suc level)
      (λ entry. entry.coin / 2 ^ level == coin / 2 ^ level) (λ entry. left_half entry.coin coin level isnt) entries)
]

-- a coin that agrees with a coin above a level, and differs at it
pub record IsSibling (coin other level : ℕ) : Type 0 where
  pub bit : bit_of other level ≡ not (bit_of coin level)
  pub above : other / 2 ^ suc level ≡ coin / 2 ^ suc level

-- coins of one prefix have one part
pub part_at-same : (one other level : ℕ) (entries : List Entry) → one / 2 ^ level ≡ other / 2 ^ level
    → part_at level one entries ≡ part_at level other entries
unfolding part_at
part_at-same one other level entries e = rw e refl

far-near : (coin other level : ℕ) (entries : List Entry) → bit_of other level ≡ not (bit_of coin level)
    → far_part coin level entries ≡ near_part other level entries
far-near coin other level entries e = grind (arith, common_steps, cases_Bool) steps 20000

pub far-part : (coin other level : ℕ) (entries : List Entry) → IsSibling coin other level
    → far_part coin level (part_at (suc level) coin entries) ≡ part_at level other entries
far-part coin other level entries h =
    far-near coin other level (part_at (suc level) coin entries) h.bit
    ∙ rw (← part_at-same other coin (suc level) entries h.above) (near-part other level entries)

-- the digest of a part is that of its halves
pub digest-above : (dig : List ℕ → List ℕ) (coin other level : ℕ) (entries : List Entry) → IsSibling coin other level
    → subtree_digest dig (suc level) (part_at (suc level) coin entries)
    ≡ dig (parent_string (bit_of coin level) (subtree_digest dig level (part_at level coin entries))
    (subtree_digest dig level (part_at level other entries)))
unfolding subtree_digest
digest-above dig coin other level entries h =
    let whole = part_at (suc level) coin entries in
    rw (← near-part coin level entries, ← far-part coin other level entries h)
    (ap dig (sym (parent_string-sides dig coin level whole)))

-- ---- the parts of no bit and of all bits

only_leaf-part : (coin : ℕ) (entries : List Entry) → only_leaf (part_at 0 coin entries) ≡ leaf_of entries coin
unfolding part_at leaf_of
only_leaf-part coin [] = refl
only_leaf-part coin (entry ∷ entries) = elim (cases_Bool (entry.coin == coin)) [
  | inl is ↦
      grind (arith, common_steps, eqb-true, eq-eqb) steps 20000
  | inr isnt ↦
      grind (arith, common_steps, only_leaf-part coin entries, eqb-false, ne_eqb) steps 20000
]

pub digest-leaf : (dig : List ℕ → List ℕ) (coin : ℕ) (entries : List Entry)
    → subtree_digest dig 0 (part_at 0 coin entries) ≡ dig (leaf_string (leaf_of entries coin))
unfolding subtree_digest
digest-leaf dig coin entries = rw (only_leaf-part coin entries) refl

pub digest-at_leaf : (dig : List ℕ → List ℕ) (level coin : ℕ) (entries : List Entry) (leaf digest : List ℕ)
    → level ≡ 0 → leaf ≡ leaf_of entries coin → digest ≡ dig (leaf_string leaf)
    → digest ≡ subtree_digest dig level (part_at level coin entries)
digest-at_leaf dig level coin entries leaf digest bottom leaf_is is =
    is ∙ rw (bottom, digest-leaf dig coin entries, ← leaf_is) refl

pub part_at-whole : (coin : ℕ) (entries : List Entry) → coin < 2 ^ 64 → All (λ entry. entry.coin < 2 ^ 64) entries
    → part_at 64 coin entries ≡ entries
unfolding part_at
part_at-whole coin entries lt small = grind (arith, common_steps, filter-every, eq-eqb) steps 20000

-- a part of a part without a leaf has none
pub part_at-none : (k level other coin : ℕ) (entries : List Entry) → k ≤ level
    → other / 2 ^ level ≡ coin / 2 ^ level → part_at level coin entries ≡ [] → part_at k other entries ≡ []
unfolding part_at
part_at-none k level other coin entries le e none =
    let low : Entry → Bool = λ entry. entry.coin / 2 ^ k == other / 2 ^ k in
    let high : Entry → Bool = λ entry. entry.coin / 2 ^ level == coin / 2 ^ level in
    sym (filter-twice low high low (λ entry. within entry) entries) ∙ ap (λ (part : List Entry). filter low part) none
  where
    within : (entry : Entry) → (entry.coin / 2 ^ k == other / 2 ^ k)
        ≡ (entry.coin / 2 ^ level == coin / 2 ^ level && (entry.coin / 2 ^ k == other / 2 ^ k))
    within entry = elim (cases_Bool (entry.coin / 2 ^ k == other / 2 ^ k)) [
      | inl is ↦
          let up : entry.coin / 2 ^ level ≡ coin / 2 ^ level =
          prefix-up entry.coin other k level le (eqb-true _ _ is) ∙ e in
          rw (is, eq-eqb _ _ up) refl
      | inr isnt ↦ rw isnt (and_false (entry.coin / 2 ^ level == coin / 2 ^ level))
    ]

-- ---- the path of a coin

path_below-at : (dig : List ℕ → List ℕ) (coin : ℕ) (entries : List Entry) (other : ℕ → ℕ) (level k : ℕ)
    → ((i : ℕ) → i < level → IsSibling coin (other i) i) → k < level
    → slice_index_or (path_below dig coin level (part_at level coin entries)) k [] ≡ subtree_digest dig k
    (part_at k (other k) entries)
unfolding path_below
path_below-at dig coin entries other zero k siblings lt = absurd (omega arith)
path_below-at dig coin entries other (suc level) k siblings lt =
    let below = path_below dig coin level (part_at level coin entries) in
    let long = length-path_below dig coin level (part_at level coin entries) in
    let sibling = subtree_digest dig level (part_at level (other level) entries) in
    rw (near-part coin level entries, far-part coin (other level) level entries (siblings level (omega arith)))
    (elim (cases_lt k level) [
      | inl under ↦
          let within : k < length below = omega arith in
          rw (get_or_append_left below (sibling ∷ []) [] k within)
          (path_below-at dig coin entries other level k (λ i le. siblings i (omega arith)) under)
      | inr here ↦ let e : k ≡ level = omega arith in rw (e, get_or_push below sibling [] level long) refl
    ])

pub path_to-from : (dig : List ℕ → List ℕ) (coin : ℕ) (entries : List Entry) (other : ℕ → ℕ) (path : List (List ℕ))
    → coin < 2 ^ 64 → All (λ entry. entry.coin < 2 ^ 64) entries → ((i : ℕ) → i < 64 → IsSibling coin (other i) i)
    → length path ≡ 64
    → ((k : ℕ) → k < 64 → slice_index_or path k [] ≡ subtree_digest dig k (part_at k (other k) entries))
    → path ≡ path_to dig coin entries
unfolding path_to
path_to-from dig coin entries other path lt small siblings long same =
    let below = path_below dig coin 64 (part_at 64 coin entries) in
    let ext : path ≡ below = ext_get_or [] path below (grind (arith, common_steps, length-path_below) steps 20000)
    (λ k within. same k (omega arith) ∙ sym (path_below-at dig coin entries other 64 k siblings (omega arith))) in
    rw (part_at-whole coin entries lt small) at ext

-- ---- the sibling's coin

bit_at-high : (n k i : ℕ) → bit_at (n / 2 ^ k) i ≡ bit_at n (k + i)
bit_at-high n k i = ap (λ (m : ℕ). m % 2) (shr-shr n k i)

turned : (a b c : ℕ) → a < 2 → b ≡ 1 → c ≡ (a + b) % 2 → (c == 1) ≡ not (a == 1)
turned a b c lt one is = grind (arith, common_steps, eq-eqb, ne_eqb) steps 20000

unturned : (a b c : ℕ) → a < 2 → b ≡ 0 → c ≡ (a + b) % 2 → c ≡ a
unturned a b c lt none is = grind (arith, common_steps) steps 20000

pub IsSibling-xor : (coin level : ℕ) → coin < 2 ^ 64 → level < 64 → IsSibling coin (bit_xor coin (2 ^ level)) level
IsSibling-xor coin level lt in_tree =
    let small = xor_lt 64 coin (2 ^ level) lt (pow_below level 64 in_tree) in
    let other = bit_xor coin (2 ^ level) in
    let same : (i : ℕ) → i < 64 → bit_at (other / 2 ^ suc level) i ≡ bit_at (coin / 2 ^ suc level) i =
    grind (arith, common_steps, bit_at-high, unturned, bit_at-lt, bit_at-pow_other, bit_at_xor) steps 20000 in
    record {
      bit = grind (arith, common_steps, turned, bit_at-lt, bit_at-pow_same, bit_at_xor) steps 20000;
      above = same_from_bits_below 64 (other / 2 ^ suc level) (coin / 2 ^ suc level)
          (omega (arith, div-le_self other (2 ^ suc level)))
          (omega (arith, div-le_self coin (2 ^ suc level))) same;
    }

-- ---- the two halves of a part, by their coins

pub sibling-apart : (coin other level : ℕ) → IsSibling coin other level → other / 2 ^ level ≢ coin / 2 ^ level
sibling-apart coin other level h e = grind (arith, common_steps) steps 20000

-- a coin that agrees with another above a level is on its side there or on the other
pub halves : (one coin other level : ℕ) → IsSibling coin other level → one / 2 ^ suc level ≡ coin / 2 ^ suc level
    → (one / 2 ^ level ≡ coin / 2 ^ level) ⊎ (one / 2 ^ level ≡ other / 2 ^ level)
halves one coin other level h e = elim (cases_Bool (bit_of one level)) [
  | inl is ↦ elim (cases_Bool (bit_of coin level)) [
    | inl same ↦ inl (agree-lower one coin level e (bit_at-same one coin level (is ∙ sym same)))
    | inr differs ↦ inr (agree-lower one other level (e ∙ sym h.above)
        (bit_at-same one other level (is ∙ sym (h.bit ∙ ap not differs))))
  ]
  | inr isnt ↦ elim (cases_Bool (bit_of coin level)) [
    | inl differs ↦ inr (agree-lower one other level (e ∙ sym h.above)
        (bit_at-same one other level (isnt ∙ sym (h.bit ∙ ap not differs))))
    | inr same ↦ inl (agree-lower one coin level e (bit_at-same one coin level (isnt ∙ sym same)))
  ]
]

pub digest-sides : (dig : List ℕ → List ℕ) (coin level below : ℕ) (entries : List Entry)
    (near far string digest : List ℕ) (turn : Bool) → level ≡ suc below → coin < 2 ^ 64 → below < 64
    → near ≡ subtree_digest dig below (part_at below coin entries)
    → far ≡ subtree_digest dig below (part_at below (bit_xor coin (2 ^ below)) entries) → turn ≡ bit_of coin below
    → string ≡ parent_string turn near far → digest ≡ dig string
    → digest ≡ subtree_digest dig level (part_at level coin entries)
digest-sides dig coin level below entries near far string digest turn up lt in_tree near_is far_is turn_is string_is
    digest_is = grind (arith, common_steps, digest-above, IsSibling-xor) steps 20000

-- ---- the coins of a part

filter-coins : (p : ℕ → Bool) (entries : List Entry) → filter p (coins_of entries) ≡ coins_of (filter (λ entry. p
    entry.coin) entries)
filter-coins p [] = refl
filter-coins p (entry ∷ entries) = grind (arith, common_steps, filter-coins p entries, cases_Bool) steps 20000

pub near-coins : (coin level below : ℕ) (entries : List Entry) (coins near : List ℕ) → level ≡ suc below
    → coins ≡ coins_of (part_at level coin entries) → near ≡ near_coins coin below coins
    → near ≡ coins_of (part_at below coin entries)
near-coins coin level below entries coins near up are is = grind (arith, common_steps, sides, near-part) steps 20000
  where
    sides : (part : List Entry) → near_coins coin below (coins_of part) ≡ coins_of (near_part coin below part)
    sides part = grind (arith, common_steps, cases_Bool, filter-coins) steps 20000

pub far-coins : (coin level below : ℕ) (entries : List Entry) (coins far : List ℕ) → level ≡ suc below
    → coin < 2 ^ 64 → below < 64 → coins ≡ coins_of (part_at level coin entries) → far ≡ far_coins coin below coins
    → far ≡ coins_of (part_at below (bit_xor coin (2 ^ below)) entries)
far-coins coin level below entries coins far up lt in_tree are is =
    grind (arith, common_steps, sides, far-part, IsSibling-xor) steps 20000
  where
    sides : (part : List Entry) → far_coins coin below (coins_of part) ≡ coins_of (far_part coin below part)
    sides part = grind (arith, common_steps, cases_Bool, filter-coins) steps 20000

pub coins-none : (level coin : ℕ) (entries : List Entry) (coins : List ℕ)
    → coins ≡ coins_of (part_at level coin entries) → length coins ≡ 0 → part_at level coin entries ≡ []
coins-none level coin entries coins are none = grind (arith, common_steps, nil_from_length, length-map) steps 20000

part-subtree : (level coin : ℕ) (entries : List Entry) → IsMap entries → IsSubtree level (part_at level coin entries)
unfolding part_at
part-subtree level coin entries map i j d lt long =
    let p : Entry → Bool = λ entry. entry.coin / 2 ^ level == coin / 2 ^ level in
    let first : i < length (filter p entries) = omega arith in
    let one : (get_or (filter p entries) i d).coin / 2 ^ level ≡ coin / 2 ^ level =
    eqb-true _ _ (filter_passes p entries i d first) in
    let two : (get_or (filter p entries) j d).coin / 2 ^ level ≡ coin / 2 ^ level =
    eqb-true _ _ (filter_passes p entries j d long) in (
      AllPairs-filter (λ earlier later. earlier.coin < later.coin) p entries map.rising i j d lt long,
      one ∙ sym two,
    )

-- the coins with a 0 at the bit below a part's level stand before those with a 1
pub coins-parted : (coin level below : ℕ) (entries : List Entry) (coins : List ℕ) → level ≡ suc below → IsMap entries
    → coins ≡ coins_of (part_at level coin entries) → IsPartitionedBy (λ c. not (bit_of c below)) coins
coins-parted coin level below entries coins up map are =
    rw are (λ i j d le lt.
    let part = part_at level coin entries in
    let bare : Entry = record { coin = d; leaf = [] } in
    let next : below + 1 ≡ level = omega arith in
    let subtree : IsSubtree (below + 1) part = rw next (part-subtree level coin entries map) in
    let long : j < length part = omega (arith, length-map part (λ entry. entry.coin)) in
    let first : i < length part = omega arith in
    rw (
      get_or-map (λ (entry : Entry). entry.coin) part i bare d first,
      get_or-map (λ (entry : Entry). entry.coin) part j bare d long,
    ) (IsSubtree-parted below part subtree i j bare le long))
