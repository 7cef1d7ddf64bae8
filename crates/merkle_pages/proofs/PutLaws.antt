-- The parts of a map after a put: what it leaves as it was, and the digests on the way up from its coin.
use Rattle.merkle_pages.proofs.Words.{◌≡◌, ◌≢◌, ℕ, suc, ◌+◌, ◌/◌, ◌^◌, ◌<◌, Bool, false, nat_lt, List, [], ◌∷◌, ◌++◌, length, get_or, refl, inl, inr, arith, bit_xor, filter, All, AllPairs, cases_Bool, cases_lt, ne_eqb, lt-ltb, le-ltb, filter-append, All-head, All-tail, common_steps, parent_string, bit_of, leaf_string, entry_of, with_leaf, subtree_digest, IsMap, Entry, leaf_of-with_leaf, part_at}
use Rattle.merkle_pages.proofs.PartLaws.{filter-every, digest-above, digest-leaf, IsSibling-xor, sibling-apart}

filter-no : {X : Type 0} (p : X → Bool) (xs : List X) → All (λ x. p x ≡ false) xs → filter p xs ≡ []
filter-no p [] h = refl
filter-no p (x ∷ xs) h =
    rw (All-head (λ y. p y ≡ false) x xs h, filter-no p xs (All-tail (λ y. p y ≡ false) x xs h)) refl

pub part_at-empty : (level coin : ℕ) → part_at level coin [] ≡ []
unfolding part_at
part_at-empty level coin = refl

-- ---- what a put leaves as it was

split-filter : (p : Entry → Bool) (coin : ℕ) (entries : List Entry)
    → AllPairs (λ earlier later. earlier.coin < later.coin) entries
    → ((entry : Entry) → entry.coin ≡ coin → p entry ≡ false)
    → filter p (filter (λ entry. nat_lt entry.coin coin) entries) ++ filter p
    (filter (λ entry. nat_lt coin entry.coin) entries) ≡ filter p entries
split-filter p coin [] rising fails = refl
split-filter p coin (entry ∷ entries) rising fails = elim (cases_lt entry.coin coin) [
  | inl below ↦
      let rest = split-filter p coin entries (λ i j d lt long. rising (suc i) (suc j) d (omega arith) (omega arith))
      fails in
      grind (arith, common_steps, lt-ltb, le-ltb, cases_Bool) steps 20000
  | inr above ↦
      let higher : (k : ℕ) (d : Entry) → k < length entries → coin < (get_or entries k d).coin =
      λ k d long. let up = rising 0 (suc k) d (omega arith) (omega arith) in omega arith in
      let none = filter-no (λ e. nat_lt e.coin coin) entries
      (λ k d long. le-ltb _ coin (omega (arith, higher k d long))) in
      let every = filter-every (λ e. nat_lt coin e.coin) entries (λ k d long. lt-ltb coin _ (higher k d long)) in
      grind (arith, common_steps, le-ltb, cases_lt, lt-ltb) steps 20000
]

entry_of-fails : (p : Entry → Bool) (coin : ℕ) (leaf : List ℕ) → ((entry : Entry) → entry.coin ≡ coin → p entry ≡ false)
    → filter p (entry_of coin leaf) ≡ []
entry_of-fails p coin leaf fails = grind (arith, common_steps) steps 20000

pub part_at-other : (coin other level : ℕ) (leaf : List ℕ) (entries : List Entry) → IsMap entries
    → other / 2 ^ level ≢ coin / 2 ^ level
    → part_at level other (with_leaf entries coin leaf) ≡ part_at level other entries
unfolding part_at
part_at-other coin other level leaf entries map apart =
    grind (arith, common_steps, ne_eqb, filter-append, entry_of-fails, split-filter) steps 20000

-- ---- the digests on the way up from a coin that has a new leaf

pub way-start : (dig : List ℕ → List ℕ) (coin : ℕ) (leaf : List ℕ) (entries : List Entry) (digest : List ℕ)
    → digest ≡ dig (leaf_string leaf)
    → digest ≡ subtree_digest dig 0 (part_at 0 coin (with_leaf entries coin leaf))
way-start dig coin leaf entries digest is =
    rw (digest-leaf dig coin (with_leaf entries coin leaf), leaf_of-with_leaf entries coin leaf) is

pub way-up : (dig : List ℕ → List ℕ) (coin level : ℕ) (leaf : List ℕ) (entries : List Entry)
    (digest sibling string above : List ℕ) (turn : Bool)
    → coin < 2 ^ 64 → level < 64 → IsMap entries
    → digest ≡ subtree_digest dig level (part_at level coin (with_leaf entries coin leaf))
    → sibling ≡ subtree_digest dig level (part_at level (bit_xor coin (2 ^ level)) entries) → turn ≡ bit_of coin level
    → string ≡ parent_string turn digest sibling → above ≡ dig string
    → above ≡ subtree_digest dig (level + 1) (part_at (level + 1) coin (with_leaf entries coin leaf))
way-up dig coin level leaf entries digest sibling string above turn lt in_tree map digest_is sibling_is turn_is
    string_is above_is =
    let other = bit_xor coin (2 ^ level) in
    let h = IsSibling-xor coin level lt in_tree in
    let apart = sibling-apart coin other level h in
    let e : level + 1 ≡ suc level = omega arith in
    rw (
      e,
      digest-above dig coin other level (with_leaf entries coin leaf) h,
      part_at-other coin other level leaf
          entries map apart,
      ← digest_is,
      ← sibling_is,
      ← turn_is,
      ← string_is,
    ) above_is
