-- What holds of each thing of a list and each later one.
use Rattle.safety_laws.proofs.Basics.{◌≡◌, ℕ, ◌≤◌, Bool, true, List, [], ◌∷◌, ◌++◌, map, filter, inl, inr, refl, sym, ap, ◌∙◌, subst, arith, flat_map, common_steps}
use Rattle.safety_laws.proofs.CoinWords.{one_if, count, Has, has-cases, has-filter, has-map, has-flat_map}

abbrev pub Pairs : {X : Type 0} → (X → X → Type 0) → List X → Type 0
Pairs R [] = Unit {0}
Pairs {X} R (x ∷ xs) = ((y : X) → Has xs y → R x y) × Pairs R xs

module _ {X : Type 0} where
  pub pairs-append : (R : X → X → Type 0) (xs ys : List X) → Pairs R xs → Pairs R ys
      → ((x y : X) → Has xs x → Has ys y → R x y) → Pairs R (xs ++ ys)
  pairs-append R [] ys left right across = right
  pairs-append R (x ∷ xs) ys left right across = (
    λ y h. elim (has-cases xs ys y h) [
      | inl here ↦ left.0 y here
      | inr there ↦ across x y (inl refl) there
    ],
    pairs-append R xs ys left.1 right (λ z y h. across z y (inr h)),
  )

  pub pairs-filter : (R : X → X → Type 0) (p : X → Bool) (xs : List X) → Pairs R xs → Pairs R (filter p xs)
  pairs-filter R p [] all = tt
  pairs-filter R p (x ∷ xs) all = grind (arith, common_steps, pairs-filter R p xs all.1, has-filter)

  -- at most one has each name
  counted : (p : X → Bool) (xs : List X) (x : X) → Has xs x → p x ≡ true → 1 ≤ count p xs
  unfolding count
  counted p [] x h is = absurd h
  counted p (y ∷ ys) x (inl same) is = let e : one_if (p y) ≡ 1 = ap one_if (ap p same ∙ is) in omega arith
  counted p (y ∷ ys) x (inr h) is = omega (arith, counted p ys x h is)

  pub pairs-once : (name : X → X → Bool) → ((x : X) → name x x ≡ true) → (xs : List X)
      → ((x : X) → count (name x) xs ≤ 1) → Pairs (λ x y. name x y ≡ true → ⊥) xs
  unfolding count
  pairs-once name own [] once = tt
  pairs-once name own (x ∷ xs) once = (
    λ y h same.
        let here : one_if (name x x) ≡ 1 = ap one_if (own x) in
        let one = once x in
        let more = counted (name x) xs y h same in
        absurd (omega (arith, here, one, more)),
    pairs-once name own xs (λ z. let one = once z in omega (arith, one)),
  )

  -- two with one block are one
  pub pairs-same : (block : X → ℕ) (xs : List X) → Pairs (λ x y. block x ≡ block y → ⊥) xs → (x y : X) → Has xs x
      → Has xs y → block x ≡ block y → x ≡ y
  pairs-same block [] all x y h k same = absurd h
  pairs-same block (z ∷ zs) all x y (inl here) (inl there) same = sym here ∙ there
  pairs-same block (z ∷ zs) all x y (inl here) (inr k) same = absurd (all.0 y k (ap block here ∙ same))
  pairs-same block (z ∷ zs) all x y (inr h) (inl there) same = absurd (all.0 x h (ap block there ∙ sym same))
  pairs-same block (z ∷ zs) all x y (inr h) (inr k) same = pairs-same block zs all.1 x y h k same

module _ {X Y : Type 0} (Q : X → X → Type 0) (R : Y → Y → Type 0) where
  pub pairs-map : (f : X → Y) (xs : List X) → ((x y : X) → Has xs x → Has xs y → Q x y → R (f x) (f y)) → Pairs Q xs
      → Pairs R (map f xs)
  pairs-map f [] gives all = tt
  pairs-map f (x ∷ xs) gives all = (
    λ b h. let r = has-map f xs b h in subst (R (f x)) r.2 (gives x r.0 (inl refl) (inr r.1) (all.0 r.0 r.1)),
    pairs-map f xs (λ y z h k. gives y z (inr h) (inr k)) all.1,
  )

  pub pairs-flat : (f : X → List Y) (xs : List X) → ((x : X) → Has xs x → Pairs R (f x))
      → ((x y : X) → Has xs x → Has xs y → Q x y → (a b : Y) → Has (f x) a → Has (f y) b → R a b) → Pairs Q xs
      → Pairs R (flat_map f xs)
  pairs-flat f [] each across all = tt
  pairs-flat f (x ∷ xs) each across all =
      pairs-append R (f x) (flat_map f xs) (each x (inl refl))
      (pairs-flat f xs (λ y h. each y (inr h)) (λ y z h k. across y z (inr h) (inr k)) all.1)
      (λ a b here there. let r = has-flat_map f xs b there in
      across x r.0 (inl refl) (inr r.1) (all.0 r.0 r.1) a b here r.2)
