-- What stays true of a coin's leaves while the operator is honest.
use Rattle.operator_rules.proofs.Words.{◌≡◌, ◌≢◌, ◌⊎◌, ℕ, suc, ◌+◌, ◌≤◌, not, true, false, List, [], ◌∷◌, ◌++◌, Contains, Option, Some, None, Ok, inl, inr, refl, sym, ap, ◌∙◌, subst, arith, Result, cases_Bool, cases_eq, or_left, or_right, true≢false, false_from_ne_true, Contains-append_left, Contains-push, Contains-push_cases, bytes_eq-Decides, common_steps, Entry, leaf_of, root_of, SignedTx, TxRefusal, RootCall, Commit, CoinView, signed_in, may_stand_in, is_signed_by, blocks, transfer-read, some_same, root_at, is_empty, root_at-grown, tree_of, is_root_committed, Place, place_at, present, AreDistinct}
use Rattle.operator_rules.proofs.Trees.{leaf_cases, filled-not, transfer-from_signed, tree_of-has, tree_of-grow, blocks-up, root_at-le, root_at-none, root_at-new, committed-block}
use Rattle.operator_rules.proofs.Places.{IsLink, place-bound, place-mono, place-moved, place-stays, place-idle, place-same}

pub ok_same : (x y : SignedTx) (r : Result SignedTx TxRefusal) → r ≡ Ok x → r ≡ Ok y → x ≡ y
ok_same x y r d e = cc

-- the leaf spells the transfer that the coin's next block may have
pub record IsReady (tag : List ℕ) (c : ℕ) (tip : Place) (leaf : List ℕ) : Type 0 where
  pub tx : SignedTx
  pub tx_is : signed_in tag leaf ≡ Ok tx
  pub coin_is : tx.body.coin ≡ c
  pub parent : tx.body.parent ≡ tip.block
  pub signed : is_signed_by tx tip.owner ≡ true

-- of a coin that isn't deposited there is no leaf
pub record IsUnknown (sealed : List (List Entry)) (pool : List Entry) (c : ℕ) : Type 0 where
  pub sealed_has : (tree : List Entry) → Contains sealed tree → leaf_of tree c ≡ []
  pub pooled : leaf_of pool c ≡ []

-- no tree that waits for its commit has a leaf of the coin
abbrev pub NoneWaits : (List ℕ → List ℕ) → List RootCall → List (List Entry) → ℕ → Type 0
NoneWaits dig log sealed c = (tree : List Entry) → Contains sealed tree
    → is_root_committed log (root_of dig tree) ≡ false → leaf_of tree c ≡ []

-- the leaf is empty, or the next link of the block behind k, after the walk's place there
abbrev pub IsNextLeaf : (List ℕ → List ℕ) → List ℕ → List RootCall → List (List Entry) → ℕ → CoinView → ℕ
    → List ℕ → Type 0
IsNextLeaf dig tag log sealed c made k leaf =
    (leaf ≡ []) ⊎ ((made.deposit ≤ k) × IsLink tag c (suc k) (place_at dig tag log sealed c made k) leaf)

-- Each block's leaf is empty or the next link. A leaf that waits, in a tree or in the pool, is ready, and is the only
-- one.
pub record IsTracked (dig : List ℕ → List ℕ) (tag : List ℕ) (log : List RootCall) (sealed : List (List Entry))
    (pool : List Entry) (c : ℕ) (made : CoinView) : Type 0 where
  pub deposited : made.deposit ≤ blocks log
  pub linked : (k : ℕ) (root : List ℕ) (tree : List Entry) → root_at log (suc k) ≡ Some root
      → tree_of dig sealed root ≡ Some tree → IsNextLeaf dig tag log sealed c made k (leaf_of tree c)
  pub waits : (tree : List Entry) → Contains sealed tree → is_root_committed log (root_of dig tree) ≡ false
      → (leaf_of tree c ≡ []) ⊎ IsReady tag c (present dig tag log sealed c made) (leaf_of tree c)
  pub pooled : (leaf_of pool c ≡ [])
      ⊎ (IsReady tag c (present dig tag log sealed c made) (leaf_of pool c) × NoneWaits dig log sealed c)
  pub one : (tree other : List Entry) → Contains sealed tree → Contains sealed other
      → is_root_committed log (root_of dig tree) ≡ false → is_root_committed log (root_of dig other) ≡ false
      → not (is_empty (leaf_of tree c)) ≡ true → not (is_empty (leaf_of other c)) ≡ true
      → root_of dig tree ≡ root_of dig other

abbrev pub Tracks : (List ℕ → List ℕ) → List ℕ → List RootCall → List (List Entry) → List Entry → ℕ
    → Option CoinView → Type 0
Tracks dig tag log sealed pool c None = IsUnknown sealed pool c
Tracks dig tag log sealed pool c (Some made) = IsTracked dig tag log sealed pool c made

-- the root of each block has a tree
abbrev pub IsKnown : (List ℕ → List ℕ) → List RootCall → List (List Entry) → Type 0
IsKnown dig log sealed = (m : ℕ) (root : List ℕ) → root_at log m ≡ Some root
    → (tree : List Entry) × (tree_of dig sealed root ≡ Some tree)

module _ (dig : List ℕ → List ℕ) (tag : List ℕ) (c : ℕ) where
  -- ---- the pool

  pub tracked-pool : (log : List RootCall) (sealed : List (List Entry)) (pool other : List Entry) (made : CoinView)
      → leaf_of other c ≡ leaf_of pool c → IsTracked dig tag log sealed pool c made
      → IsTracked dig tag log sealed other c made
  tracked-pool log sealed pool other made same t = grind (arith, common_steps) steps 20000

  pub tracked-offer : (log : List RootCall) (sealed : List (List Entry)) (pool other : List Entry) (made : CoinView)
      → IsReady tag c (present dig tag log sealed c made) (leaf_of other c) → NoneWaits dig log sealed c
      → IsTracked dig tag log sealed pool c made → IsTracked dig tag log sealed other c made
  tracked-offer log sealed pool other made ready none t = grind (arith, common_steps) steps 20000

  -- ---- the log grows by a call that is no commit, nor the coin's deposit

  module _ (log more : List RootCall) (sealed : List (List Entry)) (pool : List Entry) where
    pub tracked-log : (made : CoinView)
        → ((n : ℕ) → root_at more n ≡ root_at log n)
        → ((root : List ℕ) → is_root_committed more root ≡ is_root_committed log root)
        → blocks log ≤ blocks more → blocks more ≤ blocks log + 1
        → IsTracked dig tag log sealed pool c made → IsTracked dig tag more sealed pool c made
    tracked-log made roots commits up few t =
        record {
          deposited = let d = t.deposited in omega (arith, d, up);
          linked = grind (arith, common_steps, old) steps 20000;
          waits = λ tree h off. elim (t.waits tree h (sym (commits (root_of dig tree)) ∙ off)) [
            | inl empty ↦ inl empty
            | inr ready ↦ inr (subst (λ (x : Place). IsReady tag c x (leaf_of tree c)) (sym tip) ready)
          ];
          pooled = elim t.pooled [
            | inl empty ↦ inl empty
            | inr both ↦ inr (
              subst (λ (x : Place). IsReady tag c x (leaf_of pool c)) (sym tip) both.0,
              λ tree h off. both.1 tree h (sym (commits (root_of dig tree)) ∙ off),
            )
          ];
          one = λ tree other ht ho off oof. t.one tree other ht ho
              (sym (commits (root_of dig tree)) ∙ off) (sym (commits (root_of dig other)) ∙ oof);
        }
      where
        old : (n : ℕ) → place_at dig tag more sealed c made n ≡ place_at dig tag log sealed c made n
        old n = place-same dig tag c made log more sealed sealed n (λ m under. roots m) (λ m root is. refl)

        tip : present dig tag more sealed c made ≡ present dig tag log sealed c made
        tip =
            elim (cases_eq (blocks more) (blocks log)) [
              | inl same ↦ ap (place_at dig tag more sealed c made) same ∙ old (blocks log)
              | inr apart ↦
                  let e : blocks more ≡ suc (blocks log) = omega arith in
                  grind (arith, common_steps, place-idle, root_at-none, old) steps 20000
            ]

    pub tracks-log : (o : Option CoinView)
        → ((n : ℕ) → root_at more n ≡ root_at log n)
        → ((root : List ℕ) → is_root_committed more root ≡ is_root_committed log root)
        → blocks log ≤ blocks more → blocks more ≤ blocks log + 1
        → Tracks dig tag log sealed pool c o → Tracks dig tag more sealed pool c o
    tracks-log None roots commits up few t = t
    tracks-log (Some made) roots commits up few t = tracked-log made roots commits up few t

  -- ---- the coin is deposited

  pub tracked-new : (log : List RootCall) (sealed : List (List Entry)) (pool : List Entry) (made : CoinView)
      → made.deposit ≤ blocks log → IsUnknown sealed pool c → IsTracked dig tag log sealed pool c made
  tracked-new log sealed pool made low u =
      record {
        deposited = low;
        linked = λ k root tree root_is tree_is. inl (u.sealed_has tree (tree_of-has dig sealed root tree tree_is).0);
        waits = λ tree h off. inl (u.sealed_has tree h);
        pooled = inl u.pooled;
        one = λ tree other ht ho off oof filled more.
            absurd (filled-not (leaf_of tree c) filled (u.sealed_has tree ht));
      }

  -- ---- a seal

  -- a leaf of the coin that the pool has is in no tree with the pool's root
  pub sealed-fresh : (log : List RootCall) (sealed : List (List Entry)) (pool : List Entry) (made : CoinView)
      → IsKnown dig log sealed → AreDistinct dig (sealed ++ pool ∷ []) → IsTracked dig tag log sealed pool c made
      → not (is_empty (leaf_of pool c)) ≡ true → (tree : List Entry) → Contains sealed tree
      → root_of dig tree ≡ root_of dig pool → ⊥
  sealed-fresh log sealed pool made known distinct t filled tree h root_is =
      elim t.pooled [
        | inl empty ↦ filled-not (leaf_of pool c) filled empty
        | inr both ↦ elim (cases_Bool (is_root_committed log (root_of dig tree))) [
          | inr off ↦
              let same : leaf_of pool c ≡ leaf_of tree c =
              distinct pool tree c last (Contains-append_left sealed (pool ∷ []) tree h) (sym root_is) in
              filled-not (leaf_of pool c) filled (same ∙ both.1 tree h off)
          | inl on ↦
              let m = committed-block log (root_of dig tree) on in
              let first = known (suc m.0) (root_of dig tree) m.1 in
              let has = tree_of-has dig sealed (root_of dig tree) first.0 first.1 in
              let leaf_is : leaf_of pool c ≡ leaf_of first.0 c =
              distinct pool first.0 c last (Contains-append_left sealed (pool ∷ []) first.0 has.0)
              (sym root_is ∙ sym has.1) in
              elim (t.linked m.0 (root_of dig tree) first.0 m.1 first.1) [
                | inl empty ↦ filled-not (leaf_of pool c) filled (leaf_is ∙ empty)
                | inr link ↦
                    again both.0 m.0 (root_of dig tree) first.0 m.1 first.1 m.2 leaf_is link.0 link.1
              ]
        ]
      ]
    where
      last : Contains (sealed ++ pool ∷ []) pool
      last = Contains-push sealed pool

      again : IsReady tag c (present dig tag log sealed c made) (leaf_of pool c)
          → (k : ℕ) (root : List ℕ) (first : List Entry) → root_at log (suc k) ≡ Some root
          → tree_of dig sealed root ≡ Some first → suc k ≤ blocks log → leaf_of pool c ≡ leaf_of first c
          → made.deposit ≤ k → IsLink tag c (suc k) (place_at dig tag log sealed c made k) (leaf_of first c) → ⊥
      again ready k root first root_is tree_is under leaf_is low link =
          let read = transfer-read tag (leaf_of first c) c (suc k) link.tx link.tx_is in
          let same : link.tx ≡ ready.tx = grind (arith, common_steps, ok_same) steps 20000 in
          let parent : link.tx.body.parent ≡ ready.tx.body.parent = ap (λ (x : SignedTx). x.body.parent) same in
          let moved : (place_at dig tag log sealed c made (suc k)).block ≡ suc k =
          ap (λ (x : Place). x.block)
          (place-moved dig tag c made log sealed k root first low root_is tree_is link) in
          let up = place-mono dig tag c made log sealed (suc k) (blocks log) (omega arith) under in
          grind (arith, common_steps, place-bound) steps 20000

  pub tracked-seal : (log : List RootCall) (sealed : List (List Entry)) (pool : List Entry) (made : CoinView)
      → IsKnown dig log sealed → IsTracked dig tag log sealed pool c made
      → IsTracked dig tag log (sealed ++ pool ∷ []) [] c made
  unfolding leaf_of
  tracked-seal log sealed pool made known t =
      record {
        deposited = t.deposited;
        linked = λ k root tree root_is tree_is.
            let first = known (suc k) root root_is in
            let same : first.0 ≡ tree = grind (arith, common_steps, some_same, tree_of-grow) steps 20000 in
            grind (arith, common_steps, old) steps 20000;
        waits = λ tree h off. elim (Contains-push_cases sealed pool tree h) [
          | inr same ↦ elim t.pooled [
            | inl empty ↦ inl (ap (λ (x : List Entry). leaf_of x c) (sym same) ∙ empty)
            | inr both ↦ inr (ready-as (leaf_of pool c) tree (ap (λ (x : List Entry). leaf_of x c) same) both.0)
          ]
          | inl has ↦ elim (t.waits tree has off) [
            | inl empty ↦ inl empty
            | inr ready ↦ inr (ready-as (leaf_of tree c) tree refl ready)
          ]
        ];
        pooled = inl refl;
        one = λ tree other ht ho off oof filled more. elim (Contains-push_cases sealed pool tree ht) [
          | inr same ↦ elim (Contains-push_cases sealed pool other ho) [
            | inr too ↦ ap (root_of dig) (sym same ∙ too)
            | inl has ↦ absurd (not_both tree other same has oof filled more)
          ]
          | inl has ↦ elim (Contains-push_cases sealed pool other ho) [
            | inr too ↦ absurd (not_both other tree too has off more filled)
            | inl too ↦ t.one tree other has too off oof filled more
          ]
        ];
      }
    where
      old : (n : ℕ) → place_at dig tag log (sealed ++ pool ∷ []) c made n ≡ place_at dig tag log sealed c made n
      old n = place-same dig tag c made log log sealed (sealed ++ pool ∷ []) n (λ m under. refl)
          (grind (arith, common_steps, tree_of-grow) steps 20000)

      ready-as : (leaf : List ℕ) (tree : List Entry) → leaf ≡ leaf_of tree c
          → IsReady tag c (present dig tag log sealed c made) leaf
          → IsReady tag c (present dig tag log (sealed ++ pool ∷ []) c made) (leaf_of tree c)
      ready-as leaf tree leaf_is ready = grind (arith, common_steps, old) steps 20000

      not_both : (tree other : List Entry) → pool ≡ tree → Contains sealed other
          → is_root_committed log (root_of dig other) ≡ false → not (is_empty (leaf_of tree c)) ≡ true
          → not (is_empty (leaf_of other c)) ≡ true → ⊥
      not_both tree other same has off filled more = grind (arith, common_steps, filled-not) steps 20000

  -- ---- a commit

  -- the tree has no leaf of the coin; or its root wasn't committed before, and the transfer is in time
  abbrev pub IsOnce : List RootCall → List ℕ → List Entry → Type 0
  IsOnce log root first = (leaf_of first c ≡ []) ⊎ ((is_root_committed log root ≡ false)
      × ((tx : SignedTx) → signed_in tag (leaf_of first c) ≡ Ok tx
      → may_stand_in (blocks log + 1) tx.body.last ≡ true))

  module _ (log : List RootCall) (sealed : List (List Entry)) (pool : List Entry) (made : CoinView) (account : ℕ)
      (root : List ℕ) (first : List Entry) (first_is : tree_of dig sealed root ≡ Some first)
      (t : IsTracked dig tag log sealed pool c made) where
    old : (n : ℕ) → n ≤ blocks log
        → place_at dig tag (Commit account root ∷ log) sealed c made n ≡ place_at dig tag log sealed c made n
    old n under = place-same dig tag c made log (Commit account root ∷ log) sealed sealed n
        (λ m low. root_at-grown log (Commit account root) m (omega arith)) (λ m r is. refl)

    tip-next : present dig tag (Commit account root ∷ log) sealed c made
        ≡ place_at dig tag (Commit account root ∷ log) sealed c made (suc (blocks log))
    unfolding blocks
    tip-next = grind (arith, common_steps) steps 20000

    before : (r : List ℕ) → is_root_committed (Commit account root ∷ log) r ≡ false
        → (is_root_committed log r ≡ false) × (root ≢ r)
    before r off =
        grind (arith, common_steps, false_from_ne_true, true≢false, or_right, or_left, bytes_eq-Decides) steps 20000

    deposited-more : made.deposit ≤ blocks (Commit account root ∷ log)
    deposited-more = let d = t.deposited in omega (arith, d, (blocks-up log (Commit account root)).0)

    linked-more : IsNextLeaf dig tag (Commit account root ∷ log) sealed c made (blocks log) (leaf_of first c)
        → (k : ℕ) (r : List ℕ) (tree : List Entry) → root_at (Commit account root ∷ log) (suc k) ≡ Some r
        → tree_of dig sealed r ≡ Some tree
        → IsNextLeaf dig tag (Commit account root ∷ log) sealed c made k (leaf_of tree c)
    linked-more new k r tree r_is tree_is =
        elim (cases_eq k (blocks log)) [
          | inl same ↦
              grind (arith, common_steps, some_same, root_at-new) steps 20000
          | inr apart ↦
              let below : suc k ≤ blocks (Commit account root ∷ log) =
              root_at-le (Commit account root ∷ log) (suc k) r r_is in
              grind (arith, common_steps, blocks-up, root_at-grown, old) steps 20000
        ]

    one-more : (tree other : List Entry) → Contains sealed tree → Contains sealed other
        → is_root_committed (Commit account root ∷ log) (root_of dig tree) ≡ false
        → is_root_committed (Commit account root ∷ log) (root_of dig other) ≡ false
        → not (is_empty (leaf_of tree c)) ≡ true → not (is_empty (leaf_of other c)) ≡ true
        → root_of dig tree ≡ root_of dig other
    one-more tree other ht ho off oof =
        t.one tree other ht ho (before (root_of dig tree) off).0 (before (root_of dig other) oof).0

    -- its tree has no leaf of the coin
    tracked-skip : leaf_of first c ≡ [] → IsTracked dig tag (Commit account root ∷ log) sealed pool c made
    tracked-skip empty =
        record {
          deposited = deposited-more;
          linked = linked-more (inl empty);
          waits = λ tree h off. elim (t.waits tree h (before (root_of dig tree) off).0) [
            | inl none ↦ inl none
            | inr ready ↦ inr (subst (λ (x : Place). IsReady tag c x (leaf_of tree c)) (sym tip) ready)
          ];
          pooled = elim t.pooled [
            | inl none ↦ inl none
            | inr both ↦ grind (arith, common_steps, tip, before) steps 20000
          ];
          one = one-more;
        }
      where
        tip : present dig tag (Commit account root ∷ log) sealed c made ≡ present dig tag log sealed c made
        tip = grind (arith, common_steps, tip-next, place-stays, root_at-new, old) steps 20000

    -- its tree moves the coin
    tracked-move : not (is_empty (leaf_of first c)) ≡ true → is_root_committed log root ≡ false
        → ((tx : SignedTx) → signed_in tag (leaf_of first c) ≡ Ok tx
        → may_stand_in (blocks log + 1) tx.body.last ≡ true)
        → IsTracked dig tag (Commit account root ∷ log) sealed pool c made
    tracked-move filled off in_time =
        record {
          deposited = deposited-more;
          linked = linked-more (inr (t.deposited, link));
          waits = λ tree h late. inl (alone tree h late);
          pooled = elim t.pooled [
            | inl none ↦ inl none
            | inr both ↦ absurd (filled-not (leaf_of first c) filled (both.1 first has.0 first_off))
          ];
          one = one-more;
        }
      where
        has : Contains sealed first × (root_of dig first ≡ root)
        has = tree_of-has dig sealed root first first_is

        first_off : is_root_committed log (root_of dig first) ≡ false
        first_off = ap (is_root_committed log) has.1 ∙ off

        ready : IsReady tag c (present dig tag log sealed c made) (leaf_of first c)
        ready = grind (arith, common_steps, has, first_off, filled-not) steps 20000

        link : IsLink tag c (suc (blocks log))
            (place_at dig tag (Commit account root ∷ log) sealed c made (blocks log)) (leaf_of first c)
        link =
            let e : blocks log + 1 ≡ suc (blocks log) = omega arith in
            let timed : may_stand_in (suc (blocks log)) ready.tx.body.last ≡ true =
            ap (λ (n : ℕ). may_stand_in n ready.tx.body.last) (sym e) ∙ in_time ready.tx ready.tx_is in
            grind (arith, common_steps, old, ready, transfer-from_signed) steps 20000

        alone : (tree : List Entry) → Contains sealed tree
            → is_root_committed (Commit account root ∷ log) (root_of dig tree) ≡ false → leaf_of tree c ≡ []
        alone tree h late =
            elim (leaf_cases (leaf_of tree c)) [
              | inl empty ↦ empty
              | inr other ↦ absurd ((before (root_of dig tree) late).1 (sym has.1
                  ∙ t.one first tree has.0 h first_off (before (root_of dig tree) late).0 filled other))
            ]

    pub tracked-commit : IsOnce log root first → IsTracked dig tag (Commit account root ∷ log) sealed pool c made
    tracked-commit once = grind (arith, common_steps, leaf_cases, tracked-skip, tracked-move) steps 20000
