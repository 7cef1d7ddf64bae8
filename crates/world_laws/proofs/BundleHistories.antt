-- A bundle that an operator makes that keeps to the rules is one of a history.
use Rattle.world_laws.proofs.Basics.{◌≡◌, ℕ, zero, suc, ◌+◌, ◌^◌, ◌<◌, ◌≤◌, ◌==◌, Bool, true, false, if◌then◌else◌, List, [], ◌∷◌, length, filter, Contains, Option, Some, None, Ok, refl, sym, ap, ◌∙◌, subst, nat_lt, arith, option_and_then, eq-eqb, and_from, bytes_eq-Decides, common_steps, Contains-append_left}
use Rattle.world_laws.proofs.CoinWords.{Entry, leaf_of, Owner, Links, RootCall, CoinView, tip_of, last_owner_of, transfer_in, blocks, coins, block_at, coin_at, root_in, root_at, tests_by, Bundle, IsBundle, bundle_in, bundle_text, IsHistory, history_of, bundle_in-text, histories_are_found, is_owner}
use Rattle.world_laws.proofs.NodeWords.{chain_of, links_handed}
use Rattle.world_laws.proofs.OperatorWords.{Note, forest_of, tree_of, tree_at, commits, start_of, moved_by, place_at, bundle_of, Act, log_of, kept_notes, times_committed, times_sealed, IsHonest, AreDistinct, root_at-deposit, sealed-tree}
use Rattle.world_laws.proofs.WorldWords.{IsDigest}
use Rattle.plasma_tx.specs.declared.views.BlockView.TheVariants.{Root}
use Rattle.operator_rules.proofs.Made.{bundles_are_histories}
use Rattle.world_laws.proofs.OperatorGrowth.{HasTrees, tree-stays}

-- ---- roots that are committed

filter-more : {X : Type 0} (p : X → Bool) (x : X) (xs : List X)
    → length (filter p xs) ≤ length (filter p (x ∷ xs))
filter-more p x xs = grind (arith, common_steps)

-- the root of a block is committed
committed-once : (log : List RootCall) (n : ℕ) (root : List ℕ) → root_at log n ≡ Some root
    → 1 ≤ times_committed log root
unfolding block_at
committed-once [] n root is = absurd (cc is)
committed-once (RootCall.Deposit account amount key ∷ log) n root is =
    committed-once log n root (sym (root_at-deposit account amount key log n) ∙ is)
committed-once (RootCall.Commit account committed ∷ log) n root is =
    (elim (n == blocks log + 1) as (λ b. option_and_then root_in (if b then Some (Root committed) else block_at log n)
    ≡ Some root → 1 ≤ times_committed (RootCall.Commit account committed ∷ log) root) [
      | true ↦ grind (arith, bytes_eq-Decides)
      | false ↦ λ before.
          let once = committed-once log n root before in
          let more = filter-more (commits root) (RootCall.Commit account committed) log in
          omega (arith, once, more)
    ]) is
committed-once (call ∷ log) n root is = grind (arith, common_steps, committed-once log n root is, filter-more)

-- each coin has a block
pub coins-few : (log : List RootCall) → coins log ≤ blocks log
unfolding coins blocks
coins-few [] = omega arith
coins-few (RootCall.Deposit account amount key ∷ log) = let few = coins-few log in omega (arith, few)
coins-few (RootCall.Commit account root ∷ log) = let few = coins-few log in omega (arith, few)
coins-few (call ∷ log) = coins-few log

-- ---- trees that were sealed later change no committed tree

module _ (dig : List ℕ → List ℕ) (log : List RootCall) (sealed after : List (List Entry))
    (counted : (root : List ℕ) → times_committed log root ≤ times_sealed dig sealed root)
    (more : HasTrees sealed after) where
  pub tree-at-same : (n : ℕ) → tree_at dig log after n ≡ tree_at dig log sealed n
  tree-at-same n = by (root_at log n) refl
    where
      by : (o : Option (List ℕ)) → root_at log n ≡ o → tree_at dig log after n ≡ tree_at dig log sealed n
      by None none =
          ap (option_and_then (tree_of dig after)) none ∙ sym (ap (option_and_then (tree_of dig sealed)) none)
      by (Some root) some =
          let once = committed-once log n root some in
          let enough = counted root in
          let tree = sealed-tree dig sealed root (omega (arith, once, enough)) in
          ap (option_and_then (tree_of dig after)) some ∙ tree-stays dig sealed after root tree.0 more tree.1
          ∙ sym tree.1 ∙ sym (ap (option_and_then (tree_of dig sealed)) some)

  pub place-same : (tag : List ℕ) (coin : ℕ) (made : CoinView) (n : ℕ)
      → place_at dig tag log after coin made n ≡ place_at dig tag log sealed coin made n
  unfolding place_at
  place-same tag coin made zero = refl
  place-same tag coin made (suc n) = λ i.
      if nat_lt made.deposit (suc n)
      then moved_by (suc n) (place-same tag coin made n i)
      (option_and_then (λ tree. transfer_in tag coin (suc n) (leaf_of tree coin)) (tree-at-same (suc n) i))
      else start_of made

-- distinct trees are so among fewer
pub distinct-before : (dig : List ℕ → List ℕ) (sealed after : List (List Entry)) → HasTrees sealed after
    → AreDistinct dig after → AreDistinct dig sealed
distinct-before dig sealed after more distinct one other coin has_one has_other same =
    let in_after : (tree : List Entry) → Contains sealed tree → Contains after tree = λ tree has.
    subst (λ (trees : List (List Entry)). Contains trees tree) (sym more.is)
    (Contains-append_left sealed more.more tree has) in
    distinct one other coin (in_after one has_one) (in_after other has_other) same

-- ---- an honest operator's bundle

pub record IsGoodAt (dig : List ℕ → List ℕ) (tag : List ℕ) (log : List RootCall) (sealed : List (List Entry))
    (coin tip : ℕ) (made : CoinView) : Type 0 where
  pub bundle : Bundle
  pub links : Links
  pub made_is : bundle_of dig tag log sealed coin tip (coin_at log coin) ≡ Ok bundle
  pub is_bundle : IsBundle bundle
  pub is_history : history_of (tests_by dig) (chain_of tag) log bundle ≡ Ok links
  pub ends_with : last_owner_of links ≡ (place_at dig tag log sealed coin made tip).owner

-- what honest acts give of the log and the notes that they leave
pub good-at : (dig : List ℕ → List ℕ) (tag : List ℕ) (acts : List Act) (log : List RootCall) (notes : List Note)
    (coin tip : ℕ) (made : CoinView) → log_of acts ≡ log → kept_notes acts ≡ notes → IsDigest dig
    → coin < 2 ^ 64 → blocks log < 2 ^ 32 → IsHonest dig tag acts → AreDistinct dig (forest_of notes).sealed
    → coin_at log coin ≡ Some made → (place_at dig tag log (forest_of notes).sealed coin made tip).block ≡ tip
    → IsGoodAt dig tag log (forest_of notes).sealed coin tip made
good-at dig tag acts log notes coin tip made log_is notes_is digest narrow =
    subst (λ (l : List RootCall). blocks l < 2 ^ 32 → IsHonest dig tag acts
    → AreDistinct dig (forest_of notes).sealed → coin_at l coin ≡ Some made
    → (place_at dig tag l (forest_of notes).sealed coin made tip).block ≡ tip
    → IsGoodAt dig tag l (forest_of notes).sealed coin tip made) log_is
    (subst (λ (ns : List Note). blocks (log_of acts) < 2 ^ 32 → IsHonest dig tag acts
    → AreDistinct dig (forest_of ns).sealed → coin_at (log_of acts) coin ≡ Some made
    → (place_at dig tag (log_of acts) (forest_of ns).sealed coin made tip).block ≡ tip
    → IsGoodAt dig tag (log_of acts) (forest_of ns).sealed coin tip made) notes_is
    (λ small honest distinct coin_is at.
    let good = bundles_are_histories dig (chain_of tag) acts coin tip made (λ bytes. (digest bytes).0) narrow small
    honest distinct coin_is at in
    grind (arith, common_steps)))

-- a history of a bundle's bytes, which ends with an owner at a tip
pub record IsOwnHistory (dig : List ℕ → List ℕ) (tag : List ℕ) (log : List RootCall) (bytes : List ℕ)
    (coin tip : ℕ) (me : Owner) : Type 0 where
  pub bundle : Bundle
  pub links : Links
  pub history : IsHistory (tests_by dig) (chain_of tag) log bundle links
  pub handed : links_handed dig tag log bytes ≡ Ok links
  pub mine : is_owner (last_owner_of links) me ≡ true
  pub coin_is : links.coin ≡ coin
  pub tip_is : tip_of links ≡ tip

same-owner : (one other : Owner) → one ≡ other → is_owner one other ≡ true
same-owner one other is = grind (arith, common_steps, and_from, eq-eqb, bytes_eq-Decides)

pub own-history : (dig : List ℕ → List ℕ) (tag : List ℕ) (log : List RootCall) (sealed : List (List Entry))
    (bundle : Bundle) (bytes : List ℕ) (coin tip : ℕ) (made : CoinView) (me : Owner)
    → IsGoodAt dig tag log sealed coin tip made
    → bundle_of dig tag log sealed coin tip (coin_at log coin) ≡ Ok bundle → bundle.coin ≡ coin → bundle.tip ≡ tip
    → bytes ≡ bundle_text bundle → (place_at dig tag log sealed coin made tip).owner ≡ me
    → IsOwnHistory dig tag log bytes coin tip me
own-history dig tag log sealed bundle bytes coin tip made me good is coin_is tip_is bytes_are owner_is =
    let same : good.bundle ≡ bundle = cc (sym good.made_is ∙ is) in
    let read : bundle_in bytes ≡ Ok good.bundle =
    ap bundle_in (bytes_are ∙ ap bundle_text (sym same)) ∙ bundle_in-text good.bundle good.is_bundle in
    let history = histories_are_found (tests_by dig) (chain_of tag) log good.bundle good.links good.is_bundle.rising
    good.is_history in
    grind (arith, common_steps, same-owner)
