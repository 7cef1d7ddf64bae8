-- Each run of an honest operator keeps a coin's leaves in order.
use Rattle.operator_rules.proofs.Words.{◌≡◌, ℕ, ◌+◌, ◌<◌, ◌≤◌, ◌==◌, ◌&&◌, not, Bool, true, false, if◌then◌else◌, List, [], ◌∷◌, ◌++◌, Contains, Option, Some, None, Ok, Err, inl, inr, refl, sym, ap, ◌∙◌, subst, arith, Result, list_any, AllByRecursion, slice_range, option_and_then, bytes_eq, cases_Bool, cases_eq, cases_lt, eq-eqb, ne_eqb, eqb-true, and_cases, or_parts, not-false, true≢false, false_from_ne_true, Contains-append_left, Contains-push, Contains-push_cases, bytes_eq-Decides, common_steps, Effect, first_cause, unless, Entry, leaf_of, with_leaf, root_of, IsMap, leaf_of-with_leaf, leaf_of-with_other, IsMap-with_leaf, SignedTx, TxRefusal, RootCall, Deposit, Commit, CoinView, signed_in, may_stand_in, is_signed_by, blocks, coins, block_at, new_coin, coin_at, some_same, bytes-range, number-below, root_in, root_at, is_empty, OfferRefusal, Note, Offered, Laid, Sealed, Forest, coin_named, after_note, forest_of, tree_of, is_root_committed, has_leaf, is_waiting, Place, present, late_causes, offer_at, offer_of, Act, Called, Kept, log_of, kept_notes, sealed_in, times_committed, times_sealed, IsHonestNote, IsHonestCall, IsHonest, AreDistinct}
use Rattle.plasma_tx.specs.declared.views.BlockView.TheVariants.{Root}
use Rattle.plasma_tx.proofs.Bounds.{coin_at-le}
use Rattle.operator_rules.specs.declared.refusal.OfferRefusal.TheVariants.{PoolHasCoin}
use Rattle.operator_rules.proofs.Trees.{one_if, leaf_cases, filled-not, empty-from, coin-named, any-counted, none-has, count-push, tree_of-has, tree_of-grow, sealed-tree, blocks-up, root_at-deposit}
use Rattle.operator_rules.proofs.Track.{IsReady, IsUnknown, NoneWaits, Tracks, IsKnown, IsOnce, tracked-pool, tracked-offer, tracks-log, tracked-new, sealed-fresh, tracked-seal, tracked-commit}

-- ---- what an offer that is taken shows

pub record IsOfferable (dig : List ℕ → List ℕ) (tag : List ℕ) (log : List RootCall) (forest : Forest)
    (bytes : List ℕ) : Type 0 where
  pub tx : SignedTx
  pub tx_is : signed_in tag bytes ≡ Ok tx
  pub made : CoinView
  pub coin_is : coin_at log tx.body.coin ≡ Some made
  pub parent : tx.body.parent ≡ (present dig tag log forest.sealed tx.body.coin made).block
  pub signed : is_signed_by tx (present dig tag log forest.sealed tx.body.coin made).owner ≡ true
  pub free : is_waiting dig log forest tx.body.coin ≡ false

causes-false : (causes : List (Bool × OfferRefusal)) (effect : Effect (Result ℕ OfferRefusal)) (coin : ℕ)
    → (unless (first_cause causes) effect).answer ≡ Ok coin → AllByRecursion (λ cause. cause.0 ≡ false) causes
causes-false [] effect coin is = tt
causes-false (cause ∷ causes) effect coin is =
    (elim cause.0 as (λ b. cause.0 ≡ b
    → (unless (if b then Some cause.1 else first_cause causes) effect).answer ≡ Ok coin
    → (cause.0 ≡ false) × AllByRecursion (λ cause. cause.0 ≡ false) causes) [
      | true ↦ λ holds wrong. absurd (cc wrong)
      | false ↦ λ fails same. (fails, causes-false causes effect coin same)
    ]) refl is

last-false : (count : ℕ) (last : Option ℕ) (waiting : Bool)
    → AllByRecursion (λ cause. cause.0 ≡ false) (late_causes count last ++ (waiting, PoolHasCoin) ∷ [])
    → waiting ≡ false
last-false count None waiting all = all.0
last-false count (Some last) waiting all = all.1.0

module _ (dig : List ℕ → List ℕ) (tag : List ℕ) (log : List RootCall) (forest : Forest) (bytes : List ℕ) where
  offerable-at : (tx : SignedTx) → signed_in tag bytes ≡ Ok tx → (k : Option CoinView)
      → coin_at log tx.body.coin ≡ k → (coin : ℕ) → (offer_at dig tag log forest bytes tx k).answer ≡ Ok coin
      → IsOfferable dig tag log forest bytes
  offerable-at tx tx_is k k_is coin is =
      grind (arith, common_steps, causes-false, eqb-true, not-false, last-false) steps 20000

  offerable-by : (r : Result SignedTx TxRefusal) → signed_in tag bytes ≡ r → (coin : ℕ)
      → (offer_of dig tag log forest bytes r).answer ≡ Ok coin → IsOfferable dig tag log forest bytes
  offerable-by (Err why) r_is coin is = absurd (cc is)
  offerable-by (Ok tx) r_is coin is = offerable-at tx r_is (coin_at log tx.body.coin) refl coin is

  pub offerable : (coin : ℕ) → (offer_of dig tag log forest bytes (signed_in tag bytes)).answer ≡ Ok coin
      → IsOfferable dig tag log forest bytes
  offerable coin is = offerable-by (signed_in tag bytes) refl coin is

pub none_waits : (dig : List ℕ → List ℕ) (log : List RootCall) (forest : Forest) (c : ℕ)
    → is_waiting dig log forest c ≡ false → NoneWaits dig log forest.sealed c
none_waits dig log forest c free tree h off =
    let waiting = λ (tree : List Entry). has_leaf tree c && not (is_root_committed log (root_of dig tree)) in
    let parts = or_parts (has_leaf forest.pool c) (list_any waiting forest.sealed) free in
    let none = none-has waiting forest.sealed tree parts.1 h in
    grind (arith, common_steps, and_cases, empty-from, true≢false) steps 20000

-- ---- what holds after each act

-- of a tree with a leaf of the coin there is one seal
abbrev pub IsSole : (List ℕ → List ℕ) → ℕ → List (List Entry) → Type 0
IsSole dig c sealed = (tree : List Entry) → Contains sealed tree → not (is_empty (leaf_of tree c)) ≡ true
    → times_sealed dig sealed (root_of dig tree) ≤ 1

pub record IsKept (dig : List ℕ → List ℕ) (tag : List ℕ) (c : ℕ) (log : List RootCall) (forest : Forest)
    : Type 0 where
  pub known : IsKnown dig log forest.sealed
  pub tracks : Tracks dig tag log forest.sealed forest.pool c (coin_at log c)
  pub sole : IsSole dig c forest.sealed
  pub pool_map : IsMap forest.pool
  pub maps : (tree : List Entry) → Contains forest.sealed tree → IsMap tree

map-none : IsMap []
map-none = grind (arith, common_steps) steps 20000

module _ (dig : List ℕ → List ℕ) (tag : List ℕ) (c : ℕ) where
  -- ---- notes

  tracks-offer : (log : List RootCall) (forest : Forest) (bytes : List ℕ)
      → IsOfferable dig tag log forest bytes → (o : Option CoinView) → coin_at log c ≡ o
      → Tracks dig tag log forest.sealed forest.pool c o
      → Tracks dig tag log forest.sealed (with_leaf forest.pool (coin_named bytes) bytes) c o
  tracks-offer log forest bytes f o o_is t =
      elim (cases_eq f.tx.body.coin c) [
        | inr apart ↦ grind (arith, common_steps, other, leaf_of-with_other, named) steps 20000
        | inl same ↦ own same o o_is t
      ]
    where
      pool : List Entry
      pool = with_leaf forest.pool (coin_named bytes) bytes

      named : f.tx.body.coin ≡ coin_named bytes
      named = coin-named tag bytes f.tx f.tx_is

      other : (o : Option CoinView) → leaf_of pool c ≡ leaf_of forest.pool c
          → Tracks dig tag log forest.sealed forest.pool c o → Tracks dig tag log forest.sealed pool c o
      other None is t = record { sealed_has = t.sealed_has; pooled = is ∙ t.pooled }
      other (Some made) is t = tracked-pool dig tag c log forest.sealed forest.pool pool made is t

      own : f.tx.body.coin ≡ c → (o : Option CoinView) → coin_at log c ≡ o
          → Tracks dig tag log forest.sealed forest.pool c o → Tracks dig tag log forest.sealed pool c o
      own same None o_is t = absurd (wrong f.made (sym o_is ∙ ap (coin_at log) (sym same) ∙ f.coin_is))
        where
          wrong : (made : CoinView) → None ≡ Some made → ⊥
          wrong made e = cc e
      own same (Some made) o_is t =
          let made_same : f.made ≡ made = grind (arith, common_steps, some_same) steps 20000 in
          let tip : present dig tag log forest.sealed f.tx.body.coin f.made
          ≡ present dig tag log forest.sealed c made = grind (arith, common_steps) steps 20000 in
          let leaf_is : leaf_of pool c ≡ bytes =
          ap (leaf_of pool) (sym same ∙ named) ∙ leaf_of-with_leaf forest.pool (coin_named bytes) bytes in
          let ready : IsReady tag c (present dig tag log forest.sealed c made) bytes = record {
            tx = f.tx;
            tx_is = f.tx_is;
            coin_is = same;
            parent = f.parent ∙ ap (λ (x : Place). x.block) tip;
            signed = subst (λ (x : Place). is_signed_by f.tx x.owner ≡ true) tip f.signed;
          } in
          tracked-offer dig tag c log forest.sealed forest.pool pool made
          (subst (IsReady tag c (present dig tag log forest.sealed c made)) (sym leaf_is) ready)
          (subst (NoneWaits dig log forest.sealed) same (none_waits dig log forest f.tx.body.coin f.free)) t

  tracks-seal : (log : List RootCall) (sealed : List (List Entry)) (pool : List Entry) → IsKnown dig log sealed
      → (o : Option CoinView) → Tracks dig tag log sealed pool c o
      → Tracks dig tag log (sealed ++ pool ∷ []) [] c o
  unfolding leaf_of
  tracks-seal log sealed pool known None t = record {
    sealed_has = λ tree h. elim (Contains-push_cases sealed pool tree h) [
      | inr same ↦ ap (λ (x : List Entry). leaf_of x c) (sym same) ∙ t.pooled
      | inl has ↦ t.sealed_has tree has
    ];
    pooled = refl;
  }
  tracks-seal log sealed pool known (Some made) t = tracked-seal dig tag c log sealed pool made known t

  fresh : (log : List RootCall) (sealed : List (List Entry)) (pool : List Entry) → IsKnown dig log sealed
      → AreDistinct dig (sealed ++ pool ∷ []) → (o : Option CoinView) → Tracks dig tag log sealed pool c o
      → not (is_empty (leaf_of pool c)) ≡ true → (tree : List Entry) → Contains sealed tree
      → root_of dig tree ≡ root_of dig pool → ⊥
  fresh log sealed pool known distinct None t filled tree h same = filled-not (leaf_of pool c) filled t.pooled
  fresh log sealed pool known distinct (Some made) t filled tree h same =
      sealed-fresh dig tag c log sealed pool made known distinct t filled tree h same

  sole-seal : (log : List RootCall) (sealed : List (List Entry)) (pool : List Entry) → IsKnown dig log sealed
      → AreDistinct dig (sealed ++ pool ∷ []) → (o : Option CoinView) → Tracks dig tag log sealed pool c o
      → IsSole dig c sealed → IsSole dig c (sealed ++ pool ∷ [])
  sole-seal log sealed pool known distinct o t sole tree h filled =
      let count = count-push (λ (x : List Entry). bytes_eq (root_of dig x) (root_of dig tree)) sealed pool in
      elim (cases_Bool (bytes_eq (root_of dig pool) (root_of dig tree))) [
        | inr apart ↦
            let more : one_if (bytes_eq (root_of dig pool) (root_of dig tree)) ≡ 0 =
            ap one_if apart in
            elim (Contains-push_cases sealed pool tree h) [
              | inr same ↦ absurd (grind (arith, common_steps, true≢false, bytes_eq-Decides) steps 20000)
              | inl has ↦ let low = sole tree has filled in omega (arith, low, count, more)
            ]
        | inl on ↦
            let more : one_if (bytes_eq (root_of dig pool) (root_of dig tree)) ≡ 1 =
            ap one_if on in
            let few = none_before ((bytes_eq-Decides (root_of dig pool) (root_of dig tree)).0 on) in
            omega (arith, few, count, more)
      ]
    where
      none_before : root_of dig pool ≡ root_of dig tree → times_sealed dig sealed (root_of dig tree) ≤ 0
      none_before root_is =
          let leaf_is : leaf_of pool c ≡ leaf_of tree c =
          distinct pool tree c (Contains-push sealed pool) h root_is in
          elim (cases_lt 0 (times_sealed dig sealed (root_of dig tree))) [
            | inr none ↦ none
            | inl some ↦
                let first = sealed-tree dig sealed (root_of dig tree) some in
                let has = tree_of-has dig sealed (root_of dig tree) first.0 first.1 in
                absurd (fresh log sealed pool known distinct o t
                (ap (λ (l : List ℕ). not (is_empty l)) leaf_is ∙ filled) first.0 has.0 (has.1 ∙ sym root_is))
          ]

  kept-note : (acts : List Act) (note : Note) → IsHonestNote dig tag acts note
      → AreDistinct dig (after_note note (forest_of (kept_notes acts))).sealed
      → IsKept dig tag c (log_of acts) (forest_of (kept_notes acts))
      → IsKept dig tag c (log_of acts) (after_note note (forest_of (kept_notes acts)))
  kept-note acts (Offered bytes) honest distinct kept =
      let log : List RootCall = log_of acts in
      let forest : Forest = forest_of (kept_notes acts) in
      let f = offerable dig tag log forest bytes honest.1.0 honest.1.1 in
      record {
        known = kept.known;
        tracks = tracks-offer log forest bytes f (coin_at log c) refl kept.tracks;
        sole = kept.sole;
        pool_map = IsMap-with_leaf forest.pool (coin_named bytes) bytes kept.pool_map
            (number-below (slice_range bytes 36 44) (bytes-range bytes 36 44 honest.0));
        maps = kept.maps;
      }
  kept-note acts (Laid coin bytes) honest distinct kept = absurd honest
  kept-note acts Sealed honest distinct kept =
      let log : List RootCall = log_of acts in
      let forest : Forest = forest_of (kept_notes acts) in
      record {
        known = λ m root is. let first = kept.known m root is in
            (first.0, tree_of-grow dig forest.sealed forest.pool root first.0 first.1);
        tracks = tracks-seal log forest.sealed forest.pool kept.known (coin_at log c) kept.tracks;
        sole = sole-seal log forest.sealed forest.pool kept.known distinct (coin_at log c) kept.tracks kept.sole;
        pool_map = map-none;
        maps = λ tree h. elim (Contains-push_cases forest.sealed forest.pool tree h) [
          | inr same ↦ subst IsMap same kept.pool_map
          | inl has ↦ kept.maps tree has
        ];
      }

  -- ---- calls

  tracks-deposit : (log : List RootCall) (sealed : List (List Entry)) (pool : List Entry) (account amount : ℕ)
      (key : List ℕ) → Tracks dig tag log sealed pool c (coin_at log c)
      → Tracks dig tag (Deposit account amount key ∷ log) sealed pool c (coin_at (Deposit account amount key ∷ log) c)
  unfolding coin_at blocks
  tracks-deposit log sealed pool account amount key t =
      let new : CoinView = new_coin log account amount key in
      let call : RootCall = Deposit account amount key in
      elim (cases_eq c (coins log + 1)) [
        | inl same ↦
            let coin_is : coin_at (Deposit account amount key ∷ log) c ≡ Some new =
            ap (λ (b : Bool). if b then Some new else coin_at log c) (eq-eqb c (coins log + 1) same) in
            let u : IsUnknown sealed pool c =
            subst (Tracks dig tag log sealed pool c) (none same (coin_at log c) refl) t in
            subst (Tracks dig tag (call ∷ log) sealed pool c) (sym coin_is)
            (tracked-new dig tag c (call ∷ log) sealed pool new (omega arith) u)
        | inr apart ↦
            grind (arith, common_steps, ne_eqb, tracks-log, root_at-deposit) steps 20000
      ]
    where
      none : c ≡ coins log + 1 → (o : Option CoinView) → coin_at log c ≡ o → o ≡ None
      none same None is = refl
      none same (Some made) is = absurd (omega (arith, coin_at-le log c made is))

  tracks-commit : (log : List RootCall) (sealed : List (List Entry)) (pool : List Entry) (account : ℕ) (root : List ℕ)
      (first : List Entry) → tree_of dig sealed root ≡ Some first → IsOnce dig tag c log root first
      → (o : Option CoinView) → Tracks dig tag log sealed pool c o
      → Tracks dig tag (Commit account root ∷ log) sealed pool c o
  tracks-commit log sealed pool account root first first_is once None t = t
  tracks-commit log sealed pool account root first first_is once (Some made) t =
      tracked-commit dig tag c log sealed pool made account root first first_is t once

  known-commit : (log : List RootCall) (sealed : List (List Entry)) (account : ℕ) (root : List ℕ)
      (first : List Entry) → tree_of dig sealed root ≡ Some first → IsKnown dig log sealed
      → IsKnown dig (Commit account root ∷ log) sealed
  unfolding block_at
  known-commit log sealed account root first first_is known m r is =
      (elim (m == blocks log + 1) as (λ b.
      option_and_then root_in (if b then Some (Root root) else block_at log m) ≡ Some r
      → (tree : List Entry) × (tree_of dig sealed r ≡ Some tree)) [
        | true ↦ λ e. (first, ap (tree_of dig sealed) (sym (some_same root r e)) ∙ first_is)
        | false ↦ λ e. known m r e
      ]) is

  once-from : (log : List RootCall) (sealed : List (List Entry)) (root : List ℕ) (first : List Entry)
      → times_committed log root < times_sealed dig sealed root → tree_of dig sealed root ≡ Some first
      → IsSole dig c sealed
      → ((tx : SignedTx) → signed_in tag (leaf_of first c) ≡ Ok tx
      → may_stand_in (blocks log + 1) tx.body.last ≡ true)
      → IsOnce dig tag c log root first
  once-from log sealed root first few first_is sole in_time =
      grind (arith, common_steps, tree_of-has, leaf_cases, false_from_ne_true, any-counted) steps 20000

  kept-other : (log : List RootCall) (call : RootCall) (forest : Forest)
      → ((n : ℕ) → root_at (call ∷ log) n ≡ root_at log n)
      → Tracks dig tag (call ∷ log) forest.sealed forest.pool c (coin_at (call ∷ log) c)
      → IsKept dig tag c log forest → IsKept dig tag c (call ∷ log) forest
  kept-other log call forest roots tracks kept = record {
    known = λ m root is. kept.known m root (sym (roots m) ∙ is);
    tracks = tracks;
    sole = kept.sole;
    pool_map = kept.pool_map;
    maps = kept.maps;
  }

  kept-call : (acts : List Act) (call : RootCall) → IsHonestCall dig tag acts call
      → IsKept dig tag c (log_of acts) (forest_of (kept_notes acts))
      → IsKept dig tag c (call ∷ log_of acts) (forest_of (kept_notes acts))
  unfolding coin_at block_at
  kept-call acts (Commit account root) honest kept =
      let log : List RootCall = log_of acts in
      let forest : Forest = forest_of (kept_notes acts) in
      let few = honest.0 in
      let first = sealed-tree dig forest.sealed root (omega (arith, few)) in
      let once = once-from log forest.sealed root first.0 few first.1 kept.sole
      (λ tx tx_is. honest.1 first.0 c tx first.1 tx_is) in
      record {
        known = known-commit log forest.sealed account root first.0 first.1 kept.known;
        tracks = tracks-commit log forest.sealed forest.pool account root first.0 first.1 once (coin_at log c)
            kept.tracks;
        sole = kept.sole;
        pool_map = kept.pool_map;
        maps = kept.maps;
      }
  kept-call acts (Deposit account amount key) honest kept =
      let log : List RootCall = log_of acts in
      let forest : Forest = forest_of (kept_notes acts) in
      kept-other log (Deposit account amount key) forest (root_at-deposit account amount key log)
      (tracks-deposit log forest.sealed forest.pool account amount key kept.tracks) kept
  kept-call acts call honest kept =
      let log : List RootCall = log_of acts in
      let forest : Forest = forest_of (kept_notes acts) in
      kept-other log call forest (λ n. refl)
      (tracks-log dig tag c log (call ∷ log) forest.sealed forest.pool (coin_at log c) (λ n. refl) (λ r. refl)
      (blocks-up log call).0 (blocks-up log call).1 kept.tracks) kept

  -- ---- all acts

  distinct-before : (note : Note) (forest : Forest) → AreDistinct dig (after_note note forest).sealed
      → AreDistinct dig forest.sealed
  distinct-before (Offered bytes) forest distinct = distinct
  distinct-before (Laid coin bytes) forest distinct = distinct
  distinct-before Sealed forest distinct = λ one other k h1 h2.
      distinct one other k (Contains-append_left forest.sealed (forest.pool ∷ []) one h1)
      (Contains-append_left forest.sealed (forest.pool ∷ []) other h2)

  pub all_kept : (acts : List Act) → IsHonest dig tag acts → AreDistinct dig (sealed_in acts)
      → IsKept dig tag c (log_of acts) (forest_of (kept_notes acts))
  unfolding IsHonest log_of kept_notes forest_of coin_at block_at leaf_of
  all_kept [] honest distinct = grind (arith, common_steps, map-none) steps 20000
  all_kept (Called call ∷ acts) honest distinct =
      kept-call acts call honest.0 (all_kept acts honest.1 distinct)
  all_kept (Kept note ∷ acts) honest distinct =
      kept-note acts note honest.0 distinct
      (all_kept acts honest.1 (distinct-before note (forest_of (kept_notes acts)) distinct))
