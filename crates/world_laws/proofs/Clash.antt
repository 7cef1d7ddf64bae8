-- Two accepted openings of one block show one leaf, where no two of the strings that they digest clash.
use Rattle.world_laws.proofs.Basics.{◌≡◌, ◌≢◌, ℕ, true, false, List, [], ◌∷◌, Some, inl, inr, sym, ap, ◌∙◌, subst, arith, rules, flat_map, bytes_eq, cases_Bool, and_from, or_parts, true≢false, false≢true, not_from_false, false_from_ne_true, bytes_eq-Decides, common_steps, some_same}
use Rattle.world_laws.proofs.CoinWords.{proof_path, hashed_strings, is_opening, RawOpening, Opening, RootCall, leaf-shown, Tests, Rules, tests_by, root_at, leaf_of_opening, transfer_of, Has, has-left, has-right, any-has, contains-has, transfer_in}
use Rattle.world_laws.proofs.WorldWords.{IsDigest, strings_in, strings_of, do_clash, has_clash}
use Rattle.sparse_merkle.proofs.OpeningLaws.{HasClash-openings}

-- the opening opens its block's root
pub record IsOpened (tests : Tests) (log : List RootCall) (c : ℕ) (o : RawOpening) : Type 0 where
  pub root : List ℕ
  pub root_is : root_at log o.block ≡ Some root
  pub opens : tests.opens root c o ≡ true

-- of these openings, those of one block that open its root have one leaf
abbrev pub HasOneLeaf : Tests → List RootCall → ℕ → List RawOpening → Type 0
HasOneLeaf tests log c os = (o p : RawOpening) → Has os o → Has os p → IsOpened tests log c o → IsOpened tests log c p
    → o.block ≡ p.block → leaf_of_opening o ≡ leaf_of_opening p

-- and so one transfer
pub one_tx : (tests : Tests) (rules : Rules) (log : List RootCall) (c : ℕ) (os : List RawOpening)
    → HasOneLeaf tests log c os → (o p : RawOpening) → Has os o → Has os p → IsOpened tests log c o
    → IsOpened tests log c p → o.block ≡ p.block → transfer_of rules c o ≡ transfer_of rules c p
one_tx tests rules log c os one o p ho hp is_o is_p same =
    ap (λ n. transfer_in rules.tag c n (leaf_of_opening o)) same
    ∙ ap (transfer_in rules.tag c p.block) (one o p ho hp is_o is_p same)

-- ---- under a digest

bytes-same : (x y : List ℕ) → bytes_eq x y ≡ true → x ≡ y
bytes-same x y is = (bytes_eq-Decides x y).0 is

module _ (dig : List ℕ → List ℕ) where
  strings-has : (c : ℕ) (os : List RawOpening) (o : RawOpening) (s : List ℕ) → Has os o → Has (strings_in dig c o) s
      → Has (strings_of dig c os) s
  unfolding strings_of
  strings-has c [] o s h is = absurd h
  strings-has c (p ∷ os) o s (inl same) is =
      has-left (strings_in dig c p) (flat_map (strings_in dig c) os) s
      (subst (λ (x : RawOpening). Has (strings_in dig c x) s) (sym same) is)
  strings-has c (p ∷ os) o s (inr h) is =
      has-right (strings_in dig c p) (flat_map (strings_in dig c) os) s (strings-has c os o s h is)

  pub clash-from : (x y : List ℕ) → x ≢ y → dig x ≡ dig y → do_clash dig x y ≡ true
  clash-from x y differ same =
      and_from _ _ (not_from_false _ (false_from_ne_true (bytes_eq x y) (λ is. differ (bytes-same x y is))))
      ((bytes_eq-Decides (dig x) (dig y)).1 same)

  none-clash : (ss : List (List ℕ)) (x y : List ℕ) → has_clash dig ss ≡ false → Has ss x → Has ss y → x ≢ y
      → dig x ≡ dig y → ⊥
  unfolding has_clash
  none-clash [] x y none hx hy differ same = hx
  none-clash (s ∷ ss) x y none (inl sx) (inl sy) differ same = differ (sym sx ∙ sy)
  none-clash (s ∷ ss) x y none (inl sx) (inr hy) differ same =
      true≢false (sym (any-has (do_clash dig s) ss y hy
      (clash-from s y (λ e. differ (sym sx ∙ e)) (ap dig sx ∙ same))) ∙ (or_parts _ _ none).0)
  none-clash (s ∷ ss) x y none (inr hx) (inl sy) differ same =
      true≢false (sym (any-has (do_clash dig s) ss x hx
      (clash-from s x (λ e. differ (sym (sym sy ∙ e))) (ap dig sy ∙ sym same))) ∙ (or_parts _ _ none).0)
  none-clash (s ∷ ss) x y none (inr hx) (inr hy) differ same = none-clash ss x y (or_parts _ _ none).1 hx hy differ same

  -- an opening that opens a root is read, with the leaf that its bytes show
  pub record IsRead (root : List ℕ) (c : ℕ) (o : RawOpening) : Type 0 where
    pub opening : Opening
    pub strings : strings_in dig c o ≡ hashed_strings dig c opening.leaf (proof_path dig opening.proof)
    pub opens : is_opening dig root c opening.leaf (proof_path dig opening.proof) ≡ true
    pub leaf : leaf_of_opening o ≡ opening.leaf

  read-opening : (root : List ℕ) (c : ℕ) (o : RawOpening) → (tests_by dig).opens root c o ≡ true → IsRead root c o
  read-opening root c o is = grind (arith, common_steps, false≢true, leaf-shown)

  pub one_leaf : IsDigest dig → (log : List RootCall) (c : ℕ) (os : List RawOpening)
      → has_clash dig (strings_of dig c os) ≡ false → HasOneLeaf (tests_by dig) log c os
  one_leaf digest log c os none o p ho hp is_o is_p same =
      elim (cases_Bool (bytes_eq (leaf_of_opening o) (leaf_of_opening p))) [
        | inl is ↦ bytes-same (leaf_of_opening o) (leaf_of_opening p) is
        | inr isnt ↦
            let root : is_o.root ≡ is_p.root =
            some_same is_o.root is_p.root (sym is_o.root_is ∙ ap (root_at log) same ∙ is_p.root_is) in
            let a = read-opening is_o.root c o is_o.opens in
            let b = read-opening is_p.root c p is_p.opens in
            let k = HasClash-openings dig is_p.root a.opening.leaf b.opening.leaf c
            (proof_path dig a.opening.proof) (proof_path dig b.opening.proof) (λ bytes. (digest bytes).0)
            (subst (λ r. is_opening dig r c a.opening.leaf (proof_path dig a.opening.proof) ≡ true) root a.opens)
            b.opens
            (λ e. true≢false (sym
            ((bytes_eq-Decides (leaf_of_opening o) (leaf_of_opening p)).1 (a.leaf ∙ e ∙ sym b.leaf))
            ∙ isnt)) in
            let one = contains-has _ k.one k.is_one in
            let other = contains-has _ k.other k.is_other in
            absurd (none-clash (strings_of dig c os) k.one k.other none
            (strings-has c os o k.one ho (subst (λ l. Has l k.one) (sym a.strings) one))
            (strings-has c os p k.other hp (subst (λ l. Has l k.other) (sym b.strings) other)) k.differ k.collide)
      ]
