-- The links that openings show, those before an opening, and where they end.
use Rattle.coin_history.proofs.Words.{◌≡◌, ℕ, suc, ◌-◌, ◌<◌, ◌≤◌, ◌==◌, not, Bool, true, false, if◌then◌else◌, List, [], ◌∷◌, ◌++◌, length, Option, Some, None, inl, inr, refl, sym, ap, ◌∙◌, subst, filter, arith, is_some, nat_lt, slice_get, ◌||◌, ◌⊎◌, option_map, option_map_or, AllByRecursion, cons_option, eqb-true, eq-eqb, ne_eqb, lt-ltb, le-ltb, true≢false, common_steps, Owner, RawOpening, SignedTx, Link, Links, tip_of, last_owner_of, empty-none, Tests, Rules, spends, signs, is_empty, is_absent, transfer_of, links_in, AreLinked, opening_at, links_before, is_next, is_next_signed}
use Rattle.coin_history.proofs.HistoryOpenings.{Up, up-each, found-cases, at-head, past-head, below-none}

-- ---- lists

pub every-weaker : {X : Type 0} (P Q : X → Type 0) → ((x : X) → P x → Q x) → (xs : List X) → AllByRecursion P xs
    → AllByRecursion Q xs
every-weaker P Q h [] all = tt
every-weaker P Q h (x ∷ xs) all = (h x all.0, every-weaker P Q h xs all.1)

every-push : {X : Type 0} (P : X → Type 0) (xs : List X) (x : X) → AllByRecursion P xs → P x
    → AllByRecursion P (xs ++ x ∷ [])
every-push P [] x all p = (p, tt)
every-push P (y ∷ ys) x all p = (all.0, every-push P ys x all.1 p)

-- what f gives of the last link, where d stands before all
abbrev pub last_from : {X : Type 0} → (Link → X) → X → List Link → X
last_from f d [] = d
last_from f d (link ∷ links) = last_from f (f link) links

-- the block of the last link, and to whom it goes
abbrev pub tip_from : ℕ → List Link → ℕ
tip_from block links = last_from (λ link. link.block) block links

abbrev pub owner_from : Owner → List Link → Owner
owner_from owner links = last_from (λ link. link.tx.body.to) owner links

last-is : {X : Type 0} (f : Link → X) (d : X) (links : List Link)
    → option_map_or f (slice_get links (length links - 1)) d ≡ last_from f d links
last-is f d [] = refl
last-is f d (x ∷ []) = refl
last-is f d (x ∷ y ∷ ys) = grind (arith, common_steps, last-is f d (y ∷ ys)) steps 20000

pub last-push : {X : Type 0} (f : Link → X) (d : X) (links : List Link) (link : Link)
    → last_from f d (links ++ link ∷ []) ≡ f link
last-push f d [] link = refl
last-push f d (x ∷ xs) link = last-push f (f x) xs link

pub tip-is : (links : Links) → tip_of links ≡ tip_from links.deposit links.spends
tip-is links = last-is (λ link. link.block) links.deposit links.spends

pub last_owner-is : (links : Links) → last_owner_of links ≡ owner_from links.owner links.spends
last_owner-is links = last-is (λ link. link.tx.body.to) links.owner links.spends

-- ---- leaves and links

empty-is : (leaf : List ℕ) → is_empty leaf ≡ true → leaf ≡ []
empty-is [] is = refl
empty-is (byte ∷ bytes) is = absurd (cc is)

-- an empty leaf is no transfer
pub absent-none : (rules : Rules) (coin : ℕ) (o : RawOpening) → is_absent o ≡ true → transfer_of rules coin o ≡ None
absent-none rules coin o absent = grind (arith, common_steps, empty-is, empty-none) steps 20000

-- the link of a transfer that an opening shows
abbrev pub with_tx : RawOpening → SignedTx → Link
with_tx o tx = record { block = o.block; tx = tx; opening = o }

pub links-block : (rules : Rules) (coin : ℕ) (P : ℕ → Type 0) (openings : List RawOpening)
    → AllByRecursion (λ o. P o.block) openings → AllByRecursion (λ link. P link.block) (links_in rules coin openings)
unfolding links_in
links-block rules coin P [] all = tt
links-block rules coin P (o ∷ os) all = grind (arith, common_steps, links-block rules coin P os all.1) steps 20000

pub none-linked : (rules : Rules) (coin : ℕ) → links_in rules coin [] ≡ []
unfolding links_in
none-linked rules coin = refl

-- the links below n, where they come first
filter-split : (n : ℕ) (xs ys : List Link) → AllByRecursion (λ link. link.block < n) xs
    → AllByRecursion (λ link. n ≤ link.block) ys → filter (λ link. nat_lt link.block n) (xs ++ ys) ≡ xs
filter-split n [] [] low high = refl
filter-split n [] (y ∷ ys) low high = grind (arith, common_steps, filter-split n [] ys tt high.1, le-ltb) steps 20000
filter-split n (x ∷ xs) ys low high = grind (arith, common_steps, filter-split n xs ys low.1 high, lt-ltb) steps 20000

-- ---- openings that are next

abbrev pub IsLeaf : Rules → ℕ → RawOpening → Type 0
IsLeaf rules coin o = (is_absent o || is_some (transfer_of rules coin o)) ≡ true

-- the opening is next after the links before it
abbrev pub IsNext : Tests → Rules → ℕ → Links → RawOpening → Type 0
IsNext tests rules tip before o =
    (is_next rules tip before o ≡ true) × (is_next_signed tests rules before o ≡ true)

abbrev pub IsSome : Option SignedTx → Type 0
IsSome t = is_some t ≡ true

module _ (tests : Tests) (rules : Rules) (tip : ℕ) (links : Links) where
  abbrev pub At : List Link → Links
  At before = record links { spends = before }

  -- the links after those are linked
  abbrev pub LinkedAfter : List Link → List Link → Type 0
  LinkedAfter before after =
      AreLinked tests (tip_from links.deposit before) (owner_from links.owner before) after

  before-is : (low : ℕ) (before : List Link) (o : RawOpening) (os : List RawOpening)
      → AllByRecursion (λ link. link.block < low) before → Up low (o ∷ os)
      → links.spends ≡ before ++ links_in rules links.coin (o ∷ os) → links_before o.block links ≡ At before
  before-is low before o os below up is =
      ap At (ap (filter (λ (link : Link). nat_lt link.block o.block)) is
      ∙ filter-split o.block before (links_in rules links.coin (o ∷ os))
      (grind (arith, common_steps, every-weaker) steps 20000)
      (links-block rules links.coin (λ n. o.block ≤ n) (o ∷ os) (
        omega arith,
        grind (arith, common_steps, every-weaker, up-each) steps 20000,
      )))

  -- where an opening is no link, and where it is one
  after-none : (o : RawOpening) (os : List RawOpening) (before : List Link)
      → links.spends ≡ before ++ links_in rules links.coin (o ∷ os) → transfer_of rules links.coin o ≡ None
      → links.spends ≡ before ++ links_in rules links.coin os
  unfolding links_in
  after-none o os before is none = grind (arith, common_steps) steps 20000

  after-some : (o : RawOpening) (os : List RawOpening) (before : List Link) (tx : SignedTx)
      → links.spends ≡ before ++ links_in rules links.coin (o ∷ os) → transfer_of rules links.coin o ≡ Some tx
      → links.spends ≡ (before ++ with_tx o tx ∷ []) ++ links_in rules links.coin os
  unfolding links_in
  after-some o os before tx is some = grind (arith, common_steps) steps 20000

  below-some : (low : ℕ) (o : RawOpening) (before : List Link) (tx : SignedTx) → low ≤ o.block
      → AllByRecursion (λ link. link.block < low) before
      → AllByRecursion (λ link. link.block < suc o.block) (before ++ with_tx o tx ∷ [])
  below-some low o before tx le below = grind (arith, common_steps, every-push, every-weaker) steps 20000

  below-none_there : (low : ℕ) (o : RawOpening) (before : List Link) → low ≤ o.block
      → AllByRecursion (λ link. link.block < low) before → AllByRecursion (λ link. link.block < suc o.block) before
  below-none_there low o before le below = grind (arith, common_steps, every-weaker) steps 20000

  linked-one : {R : Type 0} (o : RawOpening) (a : Bool) (t : Option SignedTx) (before rest : List Link)
      → (a ≡ true → t ≡ None)
      → (if a then not (o.block == tip) else spends (tip_of (At before)) t) ≡ true
      → (a || signs tests (Some (last_owner_of (At before))) t) ≡ true
      → (t ≡ None → R × LinkedAfter before rest)
      → ((tx : SignedTx) → t ≡ Some tx → R × AreLinked tests o.block tx.body.to rest)
      → (((a || is_some t) ≡ true) × R) × LinkedAfter before (cons_option (option_map (with_tx o) t) rest)
  unfolding AreLinked
  linked-one o true None before rest absent next signed none some = let r = none refl in ((refl, r.0), r.1)
  linked-one o true (Some tx) before rest absent next signed none some = absurd (cc (absent refl))
  linked-one o false None before rest absent next signed none some = absurd (true≢false (sym next))
  linked-one o false (Some tx) before rest absent next signed none some =
      let r = some tx refl in (
        (refl, r.0),
        (
          eqb-true tx.body.parent (tip_of (At before)) next ∙ tip-is (At before),
          ap (tests.is_signed tx) (sym (last_owner-is (At before))) ∙ signed,
          r.1,
        ),
      )

  -- openings that are next have leaves and links
  pub linked : (low : ℕ) (before : List Link) (os : List RawOpening)
      → AllByRecursion (λ link. link.block < low) before → Up low os
      → links.spends ≡ before ++ links_in rules links.coin os
      → AllByRecursion (λ o. IsNext tests rules tip (links_before o.block links) o) os
      → AllByRecursion (IsLeaf rules links.coin) os × LinkedAfter before (links_in rules links.coin os)
  unfolding links_in AreLinked
  linked low before [] below up is next = (tt, tt)
  linked low before (o ∷ os) below up is next =
      let here = subst (λ (x : Links). IsNext tests rules tip x o) (before-is low before o os below up is) next.0 in
      linked-one o (is_absent o) (transfer_of rules links.coin o) before (links_in rules links.coin os)
      (absent-none rules links.coin o) here.0 here.1
      (λ none. linked (suc o.block) before os (below-none_there low o before up.0 below) up.1
      (after-none o os before is none) next.1)
      (λ tx some.
      let r = linked (suc o.block) (before ++ with_tx o tx ∷ []) os (below-some low o before tx up.0 below) up.1
      (after-some o os before tx is some) next.1 in grind (arith, common_steps, last-push) steps 20000)

  next-one : {R : Type 0} (o : RawOpening) (a : Bool) (t : Option SignedTx) (before rest : List Link)
      → (a || is_some t) ≡ true → (a ≡ true → t ≡ None) → (a ≡ true → o.block ≡ tip → ⊥)
      → LinkedAfter before (cons_option (option_map (with_tx o) t) rest)
      → (t ≡ None → LinkedAfter before rest → R)
      → ((tx : SignedTx) → t ≡ Some tx → AreLinked tests o.block tx.body.to rest → R)
      → (((if a then not (o.block == tip) else spends (tip_of (At before)) t) ≡ true)
      × ((a || signs tests (Some (last_owner_of (At before))) t) ≡ true)) × R
  unfolding AreLinked
  next-one o true None before rest leaf absent other are none some =
      ((ap not (ne_eqb o.block tip (other refl)), refl), none refl are)
  next-one o true (Some tx) before rest leaf absent other are none some = absurd (cc (absent refl))
  next-one o false None before rest leaf absent other are none some = absurd (true≢false (sym leaf))
  next-one o false (Some tx) before rest leaf absent other are none some = (
    (
      eq-eqb tx.body.parent (tip_of (At before)) (are.0 ∙ sym (tip-is (At before))),
      ap (tests.is_signed tx) (last_owner-is (At before)) ∙ are.1,
    ),
    some tx refl are.2,
  )

  -- openings with leaves and links, none of them empty at the tip, are next
  pub are-next : (low : ℕ) (before : List Link) (os : List RawOpening)
      → AllByRecursion (λ link. link.block < low) before → Up low os
      → links.spends ≡ before ++ links_in rules links.coin os
      → AllByRecursion (IsLeaf rules links.coin) os
      → AllByRecursion (λ o. is_absent o ≡ true → o.block ≡ tip → ⊥) os
      → LinkedAfter before (links_in rules links.coin os)
      → AllByRecursion (λ o. IsNext tests rules tip (links_before o.block links) o) os
  unfolding links_in
  are-next low before [] below up is leaves other are = tt
  are-next low before (o ∷ os) below up is leaves other are =
      let both = next-one o (is_absent o) (transfer_of rules links.coin o) before (links_in rules links.coin os)
      leaves.0 (absent-none rules links.coin o) other.0 are
      (λ none further. are-next (suc o.block) before os (below-none_there low o before up.0 below) up.1
      (after-none o os before is none) leaves.1 other.1 further)
      (λ tx some further. are-next (suc o.block) (before ++ with_tx o tx ∷ []) os
      (below-some low o before tx up.0 below) up.1 (after-some o os before tx is some) leaves.1 other.1
      (grind (arith, common_steps, last-push) steps 20000)) in (
        subst (λ (x : Links). IsNext tests rules tip x o) (sym (before-is low before o os below up is)) both.0,
        both.1,
      )

-- ---- the tip

module _ (rules : Rules) (coin tip : ℕ) where
  tip-cons : (block : ℕ) (o : RawOpening) (t : Option SignedTx) (rest : List Link)
      → ((b : ℕ) → tip_from b rest ≡ tip) → tip_from block (cons_option (option_map (with_tx o) t) rest) ≡ tip
  tip-cons block o None rest h = h block
  tip-cons block o (Some tx) rest h = h o.block

  tip-own : (block : ℕ) (o : RawOpening) (t : Option SignedTx) (rest : List Link) → IsSome t → rest ≡ []
      → o.block ≡ tip → tip_from block (cons_option (option_map (with_tx o) t) rest) ≡ tip
  tip-own block o None rest some none e = absurd (true≢false (sym some))
  tip-own block o (Some tx) rest some none e = ap (tip_from o.block) none ∙ e

  -- where the tip's opening is a link, it is the last
  pub tip-reached : (low block : ℕ) (os : List RawOpening) → Up low os → AllByRecursion (λ o. o.block ≤ tip) os
      → (x : RawOpening) → opening_at os tip ≡ Some x → IsSome (transfer_of rules coin x)
      → tip_from block (links_in rules coin os) ≡ tip
  unfolding links_in
  tip-reached low block [] up most x found some = absurd (cc found)
  tip-reached low block (o ∷ os) up most x found some = elim (found-cases tip o os x found) [
    | inl here ↦
        grind (arith, common_steps, tip-own, none-above) steps 20000
    | inr later ↦ tip-cons block o (transfer_of rules coin o) (links_in rules coin os)
        (λ b. tip-reached (suc o.block) b os up.1 most.1 x later.1 some)
  ]
    where
      none-above : (xs : List RawOpening) → Up (suc o.block) xs → AllByRecursion (λ y. y.block ≤ tip) xs
          → o.block ≡ tip → xs ≡ []
      none-above [] h all e = refl
      none-above (y ∷ ys) h all e = absurd (omega (arith, h.0, all.0))

  -- the tip's opening is found, and is a link
  abbrev pub IsTipShown : List RawOpening → Type 0
  IsTipShown os = (x : RawOpening) × (opening_at os tip ≡ Some x) × IsSome (transfer_of rules coin x)

  -- where the links end at the tip, it is the block before them, or its opening is a link
  pub tip-found : (low block : ℕ) (os : List RawOpening) → Up low os → tip_from block (links_in rules coin os) ≡ tip
      → (block ≡ tip) ⊎ IsTipShown os
  unfolding links_in
  tip-found low block [] up is = inl is
  tip-found low block (o ∷ os) up is =
      (elim (transfer_of rules coin o) as (λ t. transfer_of rules coin o ≡ t
      → tip_from block (cons_option (option_map (with_tx o) t) (links_in rules coin os)) ≡ tip
      → (block ≡ tip) ⊎ IsTipShown (o ∷ os)) [
        | None ↦ λ none same. grind (arith, common_steps, tip-found (suc o.block) block os up.1 same, later) steps 20000
        | Some tx ↦ λ some same. elim (tip-found (suc o.block) o.block os up.1 same) [
          | inl e ↦ inr (o, at-head tip o os e, ap is_some some)
          | inr shown ↦ inr (later shown)
        ]
      ]) refl is
    where
      later : IsTipShown os → IsTipShown (o ∷ os)
      later shown = grind (arith, common_steps, past-head, below-none) steps 20000
