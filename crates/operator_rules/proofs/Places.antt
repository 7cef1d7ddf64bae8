-- The walk of a coin: where it is after each block.
use Rattle.operator_rules.proofs.Words.{◌≡◌, ◌⊎◌, ℕ, zero, suc, ◌<◌, ◌≤◌, true, List, [], Option, Some, None, inl, inr, refl, sym, ap, ◌∙◌, arith, cases_eq, cases_lt, eq-eqb, lt-ltb, le-ltb, and_from, common_steps, Entry, leaf_of, SignedTx, RootCall, CoinView, transfer_in, is_signed_by, empty-none, root_at, tree_of, Place, start_of, moved_by, transfer_at, place_at}

-- the leaf is the next link of block n after this place
pub record IsLink (tag : List ℕ) (c n : ℕ) (last : Place) (leaf : List ℕ) : Type 0 where
  pub tx : SignedTx
  pub tx_is : transfer_in tag c n leaf ≡ Some tx
  pub parent : tx.body.parent ≡ last.block
  pub signed : is_signed_by tx last.owner ≡ true

module _ (dig : List ℕ → List ℕ) (tag : List ℕ) (c : ℕ) where
  pub transfer_at-tree : (log : List RootCall) (sealed : List (List Entry)) (n : ℕ) (root : List ℕ) (tree : List Entry)
      → root_at log n ≡ Some root → tree_of dig sealed root ≡ Some tree
      → transfer_at dig tag log sealed c n ≡ transfer_in tag c n (leaf_of tree c)
  transfer_at-tree log sealed n root tree root_is tree_is = grind (arith, common_steps) steps 20000

  pub transfer_at-idle : (log : List RootCall) (sealed : List (List Entry)) (n : ℕ) → root_at log n ≡ None
      → transfer_at dig tag log sealed c n ≡ None
  transfer_at-idle log sealed n none = grind (arith, common_steps) steps 20000

  -- it hangs on the block's root and on that root's tree alone
  pub transfer_at-same : (log more : List RootCall) (sealed others : List (List Entry)) (n : ℕ)
      → root_at more n ≡ root_at log n
      → ((root : List ℕ) → root_at log n ≡ Some root → tree_of dig others root ≡ tree_of dig sealed root)
      → transfer_at dig tag more others c n ≡ transfer_at dig tag log sealed c n
  transfer_at-same log more sealed others n same trees = grind (arith, common_steps) steps 20000

  module _ (made : CoinView) where
    pub place-start : (log : List RootCall) (sealed : List (List Entry)) (n : ℕ) → n ≤ made.deposit
        → place_at dig tag log sealed c made n ≡ start_of made
    unfolding place_at
    place-start log sealed zero low = refl
    place-start log sealed (suc n) low = simp (le-ltb made.deposit (suc n) low)

    -- one block more
    pub place-next : (log : List RootCall) (sealed : List (List Entry)) (n : ℕ) → made.deposit ≤ n
        → place_at dig tag log sealed c made (suc n)
        ≡ moved_by (suc n) (place_at dig tag log sealed c made n) (transfer_at dig tag log sealed c (suc n))
    unfolding place_at
    place-next log sealed n low = grind (arith, common_steps, lt-ltb) steps 20000

    moved-bound : (n : ℕ) (last : Place) (o : Option SignedTx) → last.block ≤ n
        → ((moved_by (suc n) last o).block ≤ suc n) × (last.block ≤ (moved_by (suc n) last o).block)
    moved-bound n last o low = grind (arith, common_steps) steps 20000

    start-block : (log : List RootCall) (sealed : List (List Entry)) (n : ℕ) → n ≤ made.deposit
        → (place_at dig tag log sealed c made n).block ≡ made.deposit
    start-block log sealed n low = ap (λ (x : Place). x.block) (place-start log sealed n low)

    pub place-bound : (log : List RootCall) (sealed : List (List Entry)) (n : ℕ) → made.deposit ≤ n
        → (place_at dig tag log sealed c made n).block ≤ n
    place-bound log sealed zero low = let e = start-block log sealed zero (omega arith) in omega (arith, e)
    place-bound log sealed (suc n) low =
        elim (cases_lt n made.deposit) [
          | inl at ↦ let e = start-block log sealed (suc n) (omega arith) in omega (arith, e)
          | inr past ↦
              grind (arith, common_steps, place-bound log sealed n past, place-next, moved-bound) steps 20000
        ]

    place-up : (log : List RootCall) (sealed : List (List Entry)) (n : ℕ) → made.deposit ≤ n
        → (place_at dig tag log sealed c made n).block ≤ (place_at dig tag log sealed c made (suc n)).block
    place-up log sealed n low = grind (arith, common_steps, place-next, moved-bound, place-bound) steps 20000

    pub place-mono : (log : List RootCall) (sealed : List (List Entry)) (m n : ℕ) → made.deposit ≤ m → m ≤ n
        → (place_at dig tag log sealed c made m).block ≤ (place_at dig tag log sealed c made n).block
    place-mono log sealed m zero low under = grind (arith, common_steps) steps 20000
    place-mono log sealed m (suc n) low under =
        elim (cases_eq m (suc n)) [
          | inl same ↦
              grind (arith, common_steps) steps 20000
          | inr apart ↦
              grind (arith, common_steps, place-mono log sealed m n low (omega arith), place-up) steps 20000
        ]

    -- a link moves it
    pub place-moved : (log : List RootCall) (sealed : List (List Entry)) (n : ℕ) (root : List ℕ) (tree : List Entry)
        → made.deposit ≤ n → root_at log (suc n) ≡ Some root → tree_of dig sealed root ≡ Some tree
        → (link : IsLink tag c (suc n) (place_at dig tag log sealed c made n) (leaf_of tree c))
        → place_at dig tag log sealed c made (suc n) ≡ record { block = suc n; owner = link.tx.body.to }
    place-moved log sealed n root tree low root_is tree_is link =
        grind (arith, common_steps, place-next, transfer_at-tree, and_from, eq-eqb) steps 20000

    -- an empty leaf doesn't
    pub place-stays : (log : List RootCall) (sealed : List (List Entry)) (n : ℕ) (root : List ℕ) (tree : List Entry)
        → made.deposit ≤ n → root_at log (suc n) ≡ Some root → tree_of dig sealed root ≡ Some tree
        → leaf_of tree c ≡ []
        → place_at dig tag log sealed c made (suc n) ≡ place_at dig tag log sealed c made n
    place-stays log sealed n root tree low root_is tree_is empty =
        grind (arith, common_steps, place-next, transfer_at-tree, empty-none) steps 20000

    -- nor does a block that isn't committed
    pub place-idle : (log : List RootCall) (sealed : List (List Entry)) (n : ℕ) → made.deposit ≤ n
        → root_at log (suc n) ≡ None
        → place_at dig tag log sealed c made (suc n) ≡ place_at dig tag log sealed c made n
    place-idle log sealed n low none = grind (arith, common_steps, place-next, transfer_at-idle) steps 20000

    -- it hangs on the blocks up to n and their trees alone
    pub place-same : (log more : List RootCall) (sealed others : List (List Entry)) (n : ℕ)
        → ((m : ℕ) → m ≤ n → root_at more m ≡ root_at log m)
        → ((m : ℕ) (root : List ℕ) → root_at log m ≡ Some root → tree_of dig others root ≡ tree_of dig sealed root)
        → place_at dig tag more others c made n ≡ place_at dig tag log sealed c made n
    place-same log more sealed others zero roots trees =
        place-start more others zero (omega arith) ∙ sym (place-start log sealed zero (omega arith))
    place-same log more sealed others (suc n) roots trees =
        elim (cases_lt n made.deposit) [
          | inl at ↦ place-start more others (suc n) (omega arith) ∙ sym (place-start log sealed (suc n) (omega arith))
          | inr past ↦
              place-next more others n past
              ∙ ap (moved_by (suc n) (place_at dig tag more others c made n))
              (grind (arith, common_steps, transfer_at-same) steps 20000)
              ∙ ap (λ (x : Place). moved_by (suc n) x (transfer_at dig tag log sealed c (suc n)))
              (place-same log more sealed others n (λ m under. roots m (omega arith)) trees)
              ∙ sym (place-next log sealed n past)
        ]

    -- where the walk is at a block, the block is the deposit or committed
    pub place-committed : (log : List RootCall) (sealed : List (List Entry)) (n : ℕ)
        → (place_at dig tag log sealed c made n).block ≡ n
        → (n ≡ made.deposit) ⊎ ((made.deposit < n) × ((root : List ℕ) × (root_at log n ≡ Some root)))
    place-committed log sealed zero is =
        inl (let e = start-block log sealed zero (omega arith) in omega (arith, e))
    place-committed log sealed (suc n) is =
        grind (arith, common_steps, cases_lt, start-block, place-idle, place-bound) steps 20000

    moved-cases : (n : ℕ) (last : Place) (o : Option SignedTx)
        → (moved_by n last o ≡ last) ⊎ ((moved_by n last o).block ≡ n)
    moved-cases n last o = grind (arith, common_steps) steps 20000

    start-passed : (log : List RootCall) (sealed : List (List Entry)) (n : ℕ) → n ≤ made.deposit
        → place_at dig tag log sealed c made (place_at dig tag log sealed c made n).block
        ≡ place_at dig tag log sealed c made n
    start-passed log sealed n low = grind (arith, common_steps, start-block, place-start) steps 20000

    -- the walk passed the block at which it is
    pub place-passed : (log : List RootCall) (sealed : List (List Entry)) (n : ℕ) → made.deposit ≤ n
        → place_at dig tag log sealed c made (place_at dig tag log sealed c made n).block
        ≡ place_at dig tag log sealed c made n
    place-passed log sealed zero low = start-passed log sealed zero (omega arith)
    place-passed log sealed (suc n) low =
        elim (cases_lt n made.deposit) [
          | inl at ↦ start-passed log sealed (suc n) (omega arith)
          | inr past ↦
              grind (arith, common_steps, place-passed log sealed n past, place-next, moved-cases) steps 20000
        ]
