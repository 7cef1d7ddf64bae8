-- Leaves as transfers, the trees of roots, and how often a root is sealed and committed.
use Rattle.operator_rules.proofs.Words.{◌≡◌, ◌⊎◌, ℕ, zero, suc, ◌+◌, ◌<◌, ◌≤◌, ◌||◌, not, Bool, true, false, if◌then◌else◌, List, [], ◌∷◌, ◌++◌, length, find, filter, Contains, Some, None, Ok, inl, inr, refl, sym, ap, ◌∙◌, arith, list_any, AllByRecursion, bytes_eq, cases_eq, eq-eqb, ne_eqb, and_from, or_cases, or_parts, true≢false, false≢true, All-from_recursion, All-contains, bytes_eq-Decides, common_steps, Entry, root_of, SignedTx, RootCall, Deposit, Commit, signed_in, may_stand_in, transfer_in, blocks, block_at, some_same, signed_in-ok, root_at, is_empty, block_at-le, root_at-grown, coin_named, tree_of, commits, is_root_committed, times_sealed}

-- ---- leaves

pub leaf_cases : (leaf : List ℕ) → (leaf ≡ []) ⊎ (not (is_empty leaf) ≡ true)
leaf_cases [] = inl refl
leaf_cases (byte ∷ bytes) = inr refl

pub filled-not : (leaf : List ℕ) → not (is_empty leaf) ≡ true → leaf ≡ [] → ⊥
filled-not leaf filled empty = false≢true (ap (λ (l : List ℕ). not (is_empty l)) (sym empty) ∙ filled)

pub empty-from : (leaf : List ℕ) → not (is_empty leaf) ≡ false → leaf ≡ []
empty-from [] is = refl
empty-from (byte ∷ bytes) is = absurd (true≢false is)

-- a leaf that spells a transfer of the coin is one of each block that the transfer may stand in
pub transfer-from_signed : (tag leaf : List ℕ) (c n : ℕ) (tx : SignedTx) → signed_in tag leaf ≡ Ok tx
    → tx.body.coin ≡ c → may_stand_in n tx.body.last ≡ true → transfer_in tag c n leaf ≡ Some tx
unfolding transfer_in
transfer-from_signed tag leaf c n tx is coin_is in_time = grind (arith, common_steps, and_from, eq-eqb) steps 20000

pub coin-named : (tag bytes : List ℕ) (tx : SignedTx) → signed_in tag bytes ≡ Ok tx → tx.body.coin ≡ coin_named bytes
coin-named tag bytes tx is = ap (λ (t : SignedTx). t.body.coin) (signed_in-ok tag bytes tx is).1

-- ---- what is found

abbrev pub one_if : Bool → ℕ
one_if b = if b then 1 else 0

module _ {X : Type 0} (p : X → Bool) where
  found-has : (xs : List X) (x : X) → find p xs ≡ Some x → Contains xs x × (p x ≡ true)
  found-has [] x is = absurd (cc is)
  found-has (y ∷ ys) x is =
      (elim (p y) as (λ b. p y ≡ b → (if b then Some y else find p ys) ≡ Some x
      → Contains (y ∷ ys) x × (p x ≡ true)) [
        | true ↦ λ on same. let e = some_same y x same in ((zero, omega arith, e), ap p (sym e) ∙ on)
        | false ↦ λ off same.
            let r = found-has ys x same in ((suc r.0.0, omega (arith, r.0.1), r.0.2), r.1)
      ]) refl is

  found-more : (xs ys : List X) (x : X) → find p xs ≡ Some x → find p (xs ++ ys) ≡ Some x
  found-more [] ys x is = absurd (cc is)
  found-more (y ∷ rest) ys x is =
      (elim (p y) as (λ b. (if b then Some y else find p rest) ≡ Some x
      → (if b then Some y else find p (rest ++ ys)) ≡ Some x) [
        | true ↦ λ same. same
        | false ↦ λ same. found-more rest ys x same
      ]) is

  found-some : (xs : List X) → 1 ≤ length (filter p xs) → (x : X) × (find p xs ≡ Some x)
  found-some [] some = absurd (omega (arith, some))
  found-some (y ∷ ys) some =
      (elim (p y) as (λ b. 1 ≤ length (if b then y ∷ filter p ys else filter p ys)
      → (x : X) × ((if b then Some y else find p ys) ≡ Some x)) [
        | true ↦ λ e. (y, refl)
        | false ↦ λ e. found-some ys e
      ]) some

  pub any-counted : (xs : List X) → list_any p xs ≡ true → 1 ≤ length (filter p xs)
  any-counted [] is = absurd (false≢true is)
  any-counted (y ∷ ys) is =
      (elim (p y) as (λ b. (b || list_any p ys) ≡ true → 1 ≤ length (if b then y ∷ filter p ys else filter p ys)) [
        | true ↦ λ e. omega arith
        | false ↦ λ e. any-counted ys e
      ]) is

  none-each : (xs : List X) → list_any p xs ≡ false → AllByRecursion (λ x. p x ≡ false) xs
  none-each [] is = tt
  none-each (y ∷ ys) is = let parts = or_parts (p y) (list_any p ys) is in (parts.0, none-each ys parts.1)

  pub none-has : (xs : List X) (x : X) → list_any p xs ≡ false → Contains xs x → p x ≡ false
  none-has xs x is has =
      All-contains (λ x. p x ≡ false) xs x (All-from_recursion (λ x. p x ≡ false) xs (none-each xs is)) has

  pub count-push : (xs : List X) (x : X)
      → length (filter p (xs ++ x ∷ [])) ≡ length (filter p xs) + one_if (p x)
  count-push [] x = grind (arith, common_steps) steps 20000
  count-push (y ∷ ys) x = grind (arith, common_steps, count-push ys x) steps 20000

-- ---- trees of roots

module _ (dig : List ℕ → List ℕ) where
  abbrev has_root : List ℕ → List Entry → Bool
  has_root root tree = bytes_eq (root_of dig tree) root

  pub tree_of-has : (sealed : List (List Entry)) (root : List ℕ) (tree : List Entry)
      → tree_of dig sealed root ≡ Some tree → Contains sealed tree × (root_of dig tree ≡ root)
  unfolding tree_of
  tree_of-has sealed root tree is =
      let r = found-has (has_root root) sealed tree is in
      (r.0, (bytes_eq-Decides (root_of dig tree) root).0 r.1)

  -- one more tree changes no root's tree
  pub tree_of-grow : (sealed : List (List Entry)) (t : List Entry) (root : List ℕ) (tree : List Entry)
      → tree_of dig sealed root ≡ Some tree → tree_of dig (sealed ++ t ∷ []) root ≡ Some tree
  unfolding tree_of
  tree_of-grow sealed t root tree is = found-more (has_root root) sealed (t ∷ []) tree is

  -- a root that is sealed has a tree
  pub sealed-tree : (sealed : List (List Entry)) (root : List ℕ) → 1 ≤ times_sealed dig sealed root
      → (tree : List Entry) × (tree_of dig sealed root ≡ Some tree)
  unfolding tree_of
  sealed-tree sealed root some = found-some (has_root root) sealed some

-- ---- blocks

pub blocks-up : (log : List RootCall) (call : RootCall)
    → (blocks log ≤ blocks (call ∷ log)) × (blocks (call ∷ log) ≤ blocks log + 1)
unfolding blocks
blocks-up log call = grind (arith, common_steps) steps 20000

pub root_at-le : (log : List RootCall) (n : ℕ) (root : List ℕ) → root_at log n ≡ Some root → n ≤ blocks log
root_at-le log n root is = grind (arith, common_steps, block_at-le) steps 20000

pub root_at-none : (log : List RootCall) (n : ℕ) → blocks log < n → root_at log n ≡ None
root_at-none log n over = grind (arith, common_steps, root_at-le) steps 20000

-- a commit makes the next block
pub root_at-new : (account : ℕ) (root : List ℕ) (log : List RootCall)
    → root_at (Commit account root ∷ log) (suc (blocks log)) ≡ Some root
unfolding block_at
root_at-new account root log = grind (arith, common_steps, eq-eqb) steps 20000

-- a deposit makes none that is committed
pub root_at-deposit : (account amount : ℕ) (key : List ℕ) (log : List RootCall) (n : ℕ)
    → root_at (Deposit account amount key ∷ log) n ≡ root_at log n
unfolding block_at
root_at-deposit account amount key log n =
    grind (arith, common_steps, cases_eq, eq-eqb, root_at-none, ne_eqb) steps 20000

-- a committed root is that of a block
pub committed-block : (log : List RootCall) (root : List ℕ) → is_root_committed log root ≡ true
    → (k : ℕ) × (root_at log (suc k) ≡ Some root) × (suc k ≤ blocks log)
unfolding blocks
committed-block [] root is = absurd (false≢true is)
committed-block (call ∷ log) root is =
    elim (or_cases (commits root call) (is_root_committed log root) is) [
      | inl here ↦ new call here
      | inr before ↦
          grind (arith, common_steps, committed-block log root before, root_at-grown, blocks-up) steps 20000
    ]
  where
    new : (call : RootCall) → commits root call ≡ true
        → (k : ℕ) × (root_at (call ∷ log) (suc k) ≡ Some root) × (suc k ≤ blocks (call ∷ log))
    new (Commit account committed) here = (
      blocks log,
      root_at-new account committed log ∙ ap (λ (r : List ℕ). Some r) ((bytes_eq-Decides committed root).0 here),
      omega arith,
    )
    new call here = absurd (false≢true here)
