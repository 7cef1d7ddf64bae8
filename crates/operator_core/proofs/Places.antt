-- The sealed trees, and the index of their roots.
use Rattle.operator_core.proofs.Words.{◌≡◌, ℕ, zero, suc, ◌+◌, ◌<◌, ◌||◌, Bool, true, false, List, [], ◌∷◌, ◌++◌, length, find, if◌then◌else◌, Option, Some, None, is_some, option_map, IfSome, Bor, refl, sym, ap, ◌∙◌, inl, inr, arith, get_or, All, AllByRecursion, list_any, position_from, slice_get, bytes_eq, cases_Bool, true≢false, get_or-map, length-map, map-append, All-append, All-cons, All-nil, recursion_from_All, bytes_eq-Decides, common_steps, Entry, root_of, HashedMap, tree_of, entries_of, with_place, KeepsTrees}
use Rattle.std.specs.HashMap.{HashMap, get, Updates}

-- ---- the first that passes

module _ {X : Type 0} (p : X → Bool) where
  abbrev or_last : ℕ → X → Option ℕ → Option ℕ
  or_last place x (Some found) = Some found
  or_last place x None = if p x then Some place else None

  place-push : (xs : List X) (x : X) (i k : ℕ) → i + length xs ≡ k
      → position_from p i (xs ++ x ∷ []) ≡ or_last k x (position_from p i xs)
  place-push [] x i k e =
      ap (λ (n : ℕ). if p x then Some n else None) (let same : i ≡ k = omega (arith, e) in same)
  place-push (y ∷ ys) x i k e =
      grind (arith, common_steps, place-push ys x (i + 1) k (omega (arith, e)), cases_Bool) steps 20000

  none-found : (xs : List X) (i : ℕ) → position_from p i xs ≡ None → find p xs ≡ None
  none-found [] i is = refl
  none-found (y ∷ ys) i is = elim (cases_Bool (p y)) [
    | inl here ↦ let wrong : Some i ≡ None = rw here at is in absurd (cc wrong)
    | inr isnt ↦ rw isnt (none-found ys (i + 1) (rw isnt at is))
  ]

  record IsFirst (xs : List X) (i k : ℕ) : Type 0 where
    count : ℕ
    at : k ≡ i + count
    within : count < length xs
    found : (d : X) → find p xs ≡ Some (get_or xs count d)

  first-found : (xs : List X) (i k : ℕ) → position_from p i xs ≡ Some k → IsFirst xs i k
  first-found [] i k is = absurd (cc is)
  first-found (y ∷ ys) i k is = elim (cases_Bool (p y)) [
    | inl here ↦
        grind (arith, common_steps) steps 20000
    | inr isnt ↦
        let rest = first-found ys (i + 1) k (rw isnt at is) in
        record {
          count = suc rest.count;
          at = omega (arith, rest.at);
          within = omega (arith, rest.within);
          found = λ d. rw isnt (rest.found d);
        }
  ]

slice_get-some : {X : Type 0} (xs : List X) (k : ℕ) → k < length xs
    → (x : X) × (slice_get xs k ≡ Some x) × (get_or xs k x ≡ x)
slice_get-some [] k lt = absurd (omega arith)
slice_get-some (x ∷ xs) zero lt = (x, refl, refl)
slice_get-some (x ∷ xs) (suc k) lt = slice_get-some xs k (omega arith)

-- ---- the trees

module _ {H S : Type 0} (hash : H) (dig : List ℕ → List ℕ) (trees : List (HashedMap H)) (index : HashMap
    (List ℕ) ℕ S) where
  pub no_tree : (root : List ℕ) → KeepsTrees hash dig trees index → None ≡ get bytes_eq index root
      → None ≡ tree_of dig (entries_of trees) root
  unfolding tree_of
  no_tree root keeps is = grind (arith, common_steps, none-found) steps 20000

  -- what stands at the place that the index gives
  pub has_tree : (root : List ℕ) (place : ℕ) → KeepsTrees hash dig trees index → Some place ≡ get bytes_eq index root
      → (tree : HashedMap H) × (slice_get trees place ≡ Some tree) × (tree.hash ≡ hash)
      × (tree_of dig (entries_of trees) root ≡ Some tree.entries)
  unfolding tree_of
  has_tree root place keeps is =
      let first = first-found (λ tree. bytes_eq (root_of dig tree) root) (entries_of trees) 0 place
      (sym (keeps.places root) ∙ sym is) in
      let long : length (entries_of trees) ≡ length trees = length-map trees (λ tree. tree.entries) in
      let here : place ≡ first.count = omega (arith, first.at) in
      let within : place < length trees = omega (arith, first.within, long, here) in
      let some = slice_get-some trees place within in (
        some.0,
        some.1,
        rw some.2 at (keeps.hashes place some.0 within),
        first.found some.0.entries
            ∙ ap (λ (t : List Entry). Some t) (get_or-map
            (λ tree. tree.entries) trees first.count some.0 some.0.entries
            (omega (arith, first.within, long)))
            ∙ ap (λ (n : ℕ). Some (get_or trees n some.0).entries) (sym here)
            ∙ ap (λ (t : HashedMap H). Some t.entries) some.2,
      )

  pub tree_known : (root : List ℕ) → KeepsTrees hash dig trees index → is_some (get bytes_eq index root) ≡ true
      → is_some (tree_of dig (entries_of trees) root) ≡ true
  tree_known root keeps = grind (arith, common_steps, true≢false, has_tree) steps 20000

  pub pushed : {T : Type 0} (tree : HashedMap H) (new : HashMap (List ℕ) ℕ T) (root : List ℕ) (place : ℕ)
      → KeepsTrees hash dig trees index
      → place ≡ length trees → tree.hash ≡ hash → root ≡ root_of dig tree.entries
      → ((other : List ℕ) → get bytes_eq new other ≡ with_place root place other (get bytes_eq index other))
      → KeepsTrees hash dig (trees ++ tree ∷ []) new
  pushed tree new root place keeps at_end same is adds = record {
    hashes = All-append (λ one. one.hash ≡ hash) trees (tree ∷ []) keeps.hashes
        (All-cons (λ one. one.hash ≡ hash) tree [] same (All-nil (λ one. one.hash ≡ hash)));
    places = grind (arith, common_steps, last, map-append, place-push, length-map) steps 20000;
  }
    where
      last : (other : List ℕ) (o : Option ℕ) → with_place root (length trees) other o
          ≡ or_last (λ t. bytes_eq (root_of dig t) other) (length trees) tree.entries o
      last other (Some found) = refl
      last other None = ap (λ (r : List ℕ). if bytes_eq r other then Some (length trees) else None) is

-- what the index gives once a root's place was added
pub root_known : {S : Type 0} (index : HashMap (List ℕ) ℕ S) (root : List ℕ) (place : ℕ) (other : List ℕ)
    → is_some (get bytes_eq index root) ≡ true
    → get bytes_eq index other ≡ with_place root place other (get bytes_eq index other)
root_known index root place other known =
    grind (arith, common_steps, cases_Bool, bytes_eq-Decides, true≢false) steps 20000

pub root_added : {S : Type 0} (index new : HashMap (List ℕ) ℕ S) (root : List ℕ) (place : ℕ) (other : List ℕ)
    → is_some (get bytes_eq index root) ≡ false → Updates bytes_eq index new root (Some place)
    → get bytes_eq new other ≡ with_place root place other (get bytes_eq index other)
root_added index new root place other unknown adds =
    grind (arith, common_steps, cases_Bool, bytes_eq-Decides, true≢false) steps 20000

-- so what was found there is the tree of the root
pub found_is : {H : Type 0} (trees : List (HashedMap H)) (place : ℕ) (hash : H) (result : Option (Bor (HashedMap H)))
    (wanted : Option (List Entry))
    → (tree : HashedMap H) × (slice_get trees place ≡ Some tree) × (tree.hash ≡ hash) × (wanted ≡ Some tree.entries)
    → option_map (λ tree. tree.now) result ≡ slice_get trees place
    → (option_map (λ tree. tree.now.entries) result ≡ wanted) × IfSome result (λ tree. tree.now.hash ≡ hash)
found_is trees place hash result wanted has is = grind (arith, common_steps) steps 20000

-- trees that were made with one digest pass a test alike by it and by their own
pub any-same : {H : Type 0} (dig_of : H → List ℕ → List ℕ) (hash : H) (test : (List ℕ → List ℕ) → List Entry → Bool)
    (trees : List (HashedMap H)) → All (λ tree. tree.hash ≡ hash) trees
    → list_any (λ tree. test (dig_of tree.hash) tree.entries) trees ≡ list_any (test (dig_of hash)) (entries_of trees)
any-same dig_of hash test trees are = by trees (recursion_from_All (λ tree. tree.hash ≡ hash) trees are)
  where
    by : (all : List (HashedMap _)) → AllByRecursion (λ tree. tree.hash ≡ hash) all
        → list_any (λ tree. test (dig_of tree.hash) tree.entries) all ≡ list_any (test (dig_of hash)) (entries_of all)
    by [] same = refl
    by (tree ∷ rest) same =
        (λ i. test (dig_of (same.0 i)) tree.entries || by rest same.1 i)
