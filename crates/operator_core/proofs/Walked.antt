-- Where walks ended.
use Rattle.operator_core.proofs.Words.{◌≡◌, ◌≢◌, ℕ, zero, suc, ◌+◌, ◌<◌, ◌≤◌, Bool, true, false, List, [], ◌∷◌, ◌++◌, length, find, get_or, Option, Some, None, is_some, refl, sym, ap, ◌∙◌, subst, inl, inr, arith, option_and_then, bytes_eq, cases_Bool, cases_lt, true≢false, get_or_append_left, get_or_push, bytes_eq-Decides, common_steps, Entry, root_of, RootCall, CoinView, root_at, blocks, tree_of, tree_at, place_at, place_of_tip, Follows, IsEnd, IsOnWay, KeepsEnds}
use Rattle.std.specs.Ordering.{nat_cmp}
use Rattle.std.specs.BTreeMap.{get}
use Rattle.operator_core.specs.declared.ends.End.{End}
use Rattle.operator_core.specs.declared.ends.Ends.{Ends}

-- ---- the roots

module _ (log : List RootCall) where
  pub follows-more : (roots : List (Option (List ℕ))) (root : Option (List ℕ)) (n : ℕ) → length roots ≡ n
      → root ≡ root_at log (n + 1) → Follows log roots → Follows log (roots ++ root ∷ [])
  follows-more roots root n long is follows = record {
    roots_are = λ m lt. elim (cases_lt m (length roots)) [
      | inl before ↦ get_or_append_left roots (root ∷ []) None m before ∙ follows.roots_are m before
      | inr past ↦
          grind (arith, common_steps, get_or_push) steps 20000
    ];
  }

  pub follows-front : (roots : List (Option (List ℕ))) (root : Option (List ℕ)) → Follows log (roots ++ root ∷ [])
      → Follows log roots
  follows-front roots root follows = record {
    roots_are = λ m lt. grind (arith, common_steps, get_or_append_left) steps 20000;
  }

-- ---- the places

module _ (dig : List ℕ → List ℕ) where
  -- a place hangs on the trees of the blocks before it alone
  pub place-alike : (tag : List ℕ) (log more : List RootCall) (sealed others : List (List Entry)) (coin : ℕ)
      (made : CoinView) (n : ℕ)
      → ((m : ℕ) → m < n → tree_at dig more others (m + 1) ≡ tree_at dig log sealed (m + 1))
      → place_at dig tag more others coin made n ≡ place_at dig tag log sealed coin made n
  unfolding place_at
  place-alike tag log more sealed others coin made zero same = refl
  place-alike tag log more sealed others coin made (suc n) same =
      let e : n + 1 ≡ suc n = omega arith in
      let here : tree_at dig more others (suc n) ≡ tree_at dig log sealed (suc n) =
      subst (λ (k : ℕ). tree_at dig more others k ≡ tree_at dig log sealed k) e (same n (omega arith)) in
      let before = place-alike tag log more sealed others coin made n (λ m lt. same m (omega (arith, lt))) in
      grind (arith, common_steps) steps 20000

  -- so under each other log that follows the roots a walk is there too
  pub end_is : (sealed : List (List Entry)) (roots : List (Option (List ℕ))) (coin : ℕ) (end : End)
      (log : List RootCall) → Follows log roots → end.upto ≤ length roots
      → place_of_tip end.tip ≡ place_at dig end.tag log sealed coin end.made end.upto
      → IsEnd dig sealed roots coin end
  end_is sealed roots coin end log follows within placed = record {
    within = within;
    placed = λ more others. grind (arith, common_steps, place-alike) steps 20000;
  }

  pub end-more : (sealed : List (List Entry)) (roots : List (Option (List ℕ))) (root : Option (List ℕ)) (coin : ℕ)
      (end : End) → IsEnd dig sealed roots coin end → IsEnd dig sealed (roots ++ root ∷ []) coin end
  end-more sealed roots root coin end is = grind (arith, common_steps, follows-front) steps 20000

-- ---- what is kept

module _ (dig : List ℕ → List ℕ) (sealed : List (List Entry)) where
  pub ends-same : (ends new : Ends) → new.ends ≡ ends.ends → new.roots.items ≡ ends.roots.items
      → KeepsEnds dig sealed ends → KeepsEnds dig sealed new
  ends-same ends new same items keeps = grind (arith, common_steps) steps 20000

  pub ends-more : (ends new : Ends) (root : Option (List ℕ)) → new.ends ≡ ends.ends
      → new.roots.items ≡ ends.roots.items ++ root ∷ [] → KeepsEnds dig sealed ends → KeepsEnds dig sealed new
  ends-more ends new root same items keeps = record {
    each = λ coin end is. rw items (end-more dig sealed ends.roots.items root coin end
        (keeps.each coin end (ap (λ m. get nat_cmp m coin) (sym same) ∙ is)));
  }

  -- what is kept of the coin serves a log whose first blocks have the roots
  pub on_way : (tag : List ℕ) (log : List RootCall) (coin : ℕ) (made : CoinView) (ends : Ends) (end : End)
      → KeepsEnds dig sealed ends → Follows log ends.roots.items → get nat_cmp ends.ends coin ≡ Some end
      → end.tag ≡ tag → end.made ≡ made → made.deposit ≤ end.upto → end.upto ≤ blocks log
      → IsOnWay dig tag log sealed coin made end
  on_way tag log coin made ends end keeps follows is tag_is made_is low high = grind (arith, common_steps) steps 20000

-- ---- one more tree

module _ {X : Type 0} (p : X → Bool) where
  find-push : (xs : List X) (x : X) → p x ≡ false → find p (xs ++ x ∷ []) ≡ find p xs
  find-push [] x isnt = rw isnt refl
  find-push (y ∷ ys) x isnt = grind (arith, common_steps, find-push ys x isnt, cases_Bool) steps 20000

  find-kept : (xs : List X) (x : X) → is_some (find p xs) ≡ true → find p (xs ++ x ∷ []) ≡ find p xs
  find-kept [] x some = absurd (true≢false (sym some))
  find-kept (y ∷ ys) x some = elim (cases_Bool (p y)) [
    | inl here ↦ rw here refl
    | inr other ↦ rw other (find-kept ys x (rw other at some))
  ]

module _ (dig : List ℕ → List ℕ) (sealed : List (List Entry)) (tree : List Entry) (ends : Ends) where
  ends-alike : (others : List (List Entry)) → KeepsEnds dig sealed ends
      → ((log : List RootCall) → Follows log ends.roots.items → (m : ℕ) → m < length ends.roots.items
      → tree_at dig log sealed (m + 1) ≡ tree_at dig log others (m + 1))
      → KeepsEnds dig others ends
  ends-alike others keeps same = grind (arith, common_steps, place-alike) steps 20000

  abbrev passes : List ℕ → List Entry → Bool
  passes root one = bytes_eq (root_of dig one) root

  -- the root's tree stays where the new one has another root, or there is one already
  tree_of-stays : (root : List ℕ) → bytes_eq (root_of dig tree) root ≡ false
      → tree_of dig sealed root ≡ tree_of dig (sealed ++ tree ∷ []) root
  unfolding tree_of
  tree_of-stays root isnt = sym (find-push (passes root) sealed tree isnt)

  tree_of-first : (root : List ℕ) → is_some (tree_of dig sealed root) ≡ true
      → tree_of dig sealed root ≡ tree_of dig (sealed ++ tree ∷ []) root
  unfolding tree_of
  tree_of-first root some = sym (find-kept (passes root) sealed tree some)

  pub ends-unknown : (root : List ℕ) → KeepsEnds dig sealed ends → root ≡ root_of dig tree
      → ((m : ℕ) → m < length ends.roots.items → get_or ends.roots.items m None ≢ Some root)
      → KeepsEnds dig (sealed ++ tree ∷ []) ends
  ends-unknown root keeps is apart = ends-alike (sealed ++ tree ∷ []) keeps (λ log follows m lt.
      by (root_at log (m + 1)) (λ e. apart m lt (follows.roots_are m lt ∙ e)))
    where
      by : (o : Option (List ℕ)) → o ≢ Some root
          → option_and_then (tree_of dig sealed) o ≡ option_and_then (tree_of dig (sealed ++ tree ∷ [])) o
      by None other = refl
      by (Some one) other = grind (arith, common_steps, cases_Bool, bytes_eq-Decides, tree_of-stays) steps 20000

  pub ends-known : (root : List ℕ) → KeepsEnds dig sealed ends → root ≡ root_of dig tree
      → is_some (tree_of dig sealed root) ≡ true → KeepsEnds dig (sealed ++ tree ∷ []) ends
  ends-known root keeps is some = ends-alike (sealed ++ tree ∷ []) keeps (λ log follows m lt. by (root_at log (m + 1)))
    where
      by : (o : Option (List ℕ))
          → option_and_then (tree_of dig sealed) o ≡ option_and_then (tree_of dig (sealed ++ tree ∷ [])) o
      by None = refl
      by (Some one) =
          grind (arith, common_steps, cases_Bool, tree_of-first, bytes_eq-Decides, tree_of-stays) steps 20000
