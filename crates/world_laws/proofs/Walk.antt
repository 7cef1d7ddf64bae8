-- What a history shows, as a walk along its openings.
use Rattle.world_laws.proofs.Basics.{◌≡◌, ◌≢◌, ◌⊎◌, ℕ, ◌<◌, ◌≤◌, true, List, [], ◌∷◌, Some, None, inl, inr, refl, sym, ap, ◌∙◌, subst, arith, rules, is_some, cases_order, ne_eqb, eq-eqb, common_steps, some_same, none_some}
use Rattle.world_laws.proofs.CoinWords.{Owner, RawOpening, SignedTx, RootCall, transfer_in, empty-none, Tests, Rules, root_at, leaf_of_opening, transfer_of, links_in, with_tx, none-linked, next_link, Has}
use Rattle.world_laws.proofs.Clash.{IsOpened}

-- where a coin is
pub record Place : Type 0 where
  pub block : ℕ
  pub owner : Owner

-- no committed block lies between
abbrev pub IsGap : List RootCall → ℕ → ℕ → Type 0
IsGap log low high = (m : ℕ) → low < m → m < high → root_at log m ≡ None

pub empty-no_tx : (rules : Rules) (c : ℕ) (o : RawOpening) (tx : SignedTx) → leaf_of_opening o ≡ []
    → transfer_of rules c o ≡ Some tx → ⊥
empty-no_tx rules c o tx empty is =
    none_some tx (sym (empty-none rules.tag c o.block) ∙ ap (transfer_in rules.tag c o.block) (sym empty) ∙ is)

-- the links that an opening and those behind it show, by what it shows
links-none : (rules : Rules) (c : ℕ) (o : RawOpening) (os : List RawOpening) → transfer_of rules c o ≡ None
    → links_in rules c (o ∷ os) ≡ links_in rules c os
unfolding links_in
links-none rules c o os none = grind (arith, common_steps, with_tx)

links-some : (rules : Rules) (c : ℕ) (o : RawOpening) (os : List RawOpening) (tx : SignedTx)
    → transfer_of rules c o ≡ Some tx → links_in rules c (o ∷ os) ≡ with_tx o tx ∷ links_in rules c os
unfolding links_in
links-some rules c o os tx is = grind (arith, common_steps, with_tx)

links-absent : (rules : Rules) (c : ℕ) (o : RawOpening) (os : List RawOpening) → leaf_of_opening o ≡ []
    → links_in rules c (o ∷ os) ≡ links_in rules c os
links-absent rules c o os empty =
    links-none rules c o os (ap (transfer_in rules.tag c o.block) empty ∙ empty-none rules.tag c o.block)

-- an opening of the list shows a transfer at the block to the owner
pub record Spent (rules : Rules) (c : ℕ) (os : List RawOpening) (n : ℕ) (owner : Owner) : Type 0 where
  pub o : RawOpening
  pub has : Has os o
  pub tx : SignedTx
  pub tx_is : transfer_of rules c o ≡ Some tx
  pub block_is : o.block ≡ n
  pub to_is : tx.body.to ≡ owner

spent-later : (rules : Rules) (c : ℕ) (p : RawOpening) (os : List RawOpening) (n : ℕ) (owner : Owner)
    → Spent rules c os n owner → Spent rules c (p ∷ os) n owner
spent-later rules c p os n owner s =
    record { o = s.o; has = inr s.has; tx = s.tx; tx_is = s.tx_is; block_is = s.block_is; to_is = s.to_is }

module _ (tests : Tests) (rules : Rules) where
  -- a spend of the block n that the owner signed
  pub record Successor (c : ℕ) (os : List RawOpening) (n : ℕ) (owner : Owner) : Type 0 where
    pub o : RawOpening
    pub has : Has os o
    pub tx : SignedTx
    pub tx_is : transfer_of rules c o ≡ Some tx
    pub parent_is : tx.body.parent ≡ n
    pub signed : tests.is_signed tx owner ≡ true
    pub above : n < o.block

  successor-later : (c : ℕ) (p : RawOpening) (os : List RawOpening) (n : ℕ) (owner : Owner)
      → Successor c os n owner → Successor c (p ∷ os) n owner
  successor-later c p os n owner s = grind (arith, common_steps)

  -- what one opening does to the coin's place: nothing where its leaf is empty; else its leaf is the next link
  pub data IsStep (c : ℕ) (last : Place) (o : RawOpening) (next : Place) : Type 0 where
    Absent : leaf_of_opening o ≡ [] → next ≡ last → IsStep c last o next
    Moves : (tx : SignedTx) → transfer_of rules c o ≡ Some tx → tx.body.parent ≡ last.block
        → tests.is_signed tx last.owner ≡ true → next ≡ record { block = o.block; owner = tx.body.to }
        → IsStep c last o next

  -- from the place `last`, where the blocks up to n are passed, these openings lead to the tip and its owner
  unfoldable pub IsWalk : List RootCall → ℕ → ℕ → Place → List RawOpening → Place → Type 0
  IsWalk log c n last [] end = (n ≡ end.block) × (last ≡ end)
  IsWalk log c n last (o ∷ os) end = record {
    rises : n < o.block;
    gap : IsGap log n o.block;
    opened : IsOpened tests log c o;
    next : Place;
    step : IsStep c last o next;
    rest : IsWalk log c o.block next os end;
  }

  module _ (log : List RootCall) (c : ℕ) where
    pub walk-passes : (n : ℕ) (last : Place) (os : List RawOpening) (end : Place) → IsWalk log c n last os end
        → n ≤ end.block
    unfolding IsWalk
    walk-passes n last [] end walk = omega (arith, walk.0)
    walk-passes n last (o ∷ os) end walk =
        let up = walk-passes o.block walk.next os end walk.rest in omega (arith, up, walk.rises)

    pub walk-above : (n : ℕ) (last : Place) (os : List RawOpening) (end : Place) → IsWalk log c n last os end
        → (o : RawOpening) → Has os o → n < o.block
    unfolding IsWalk
    walk-above n last [] end walk o h = absurd h
    walk-above n last (p ∷ os) end walk o (inl same) = subst (λ (x : RawOpening). n < x.block) same walk.rises
    walk-above n last (p ∷ os) end walk o (inr h) =
        let up = walk-above p.block walk.next os end walk.rest o h in omega (arith, up, walk.rises)

    pub walk-opened : (n : ℕ) (last : Place) (os : List RawOpening) (end : Place) → IsWalk log c n last os end
        → (o : RawOpening) → Has os o → IsOpened tests log c o
    unfolding IsWalk
    walk-opened n last [] end walk o h = absurd h
    walk-opened n last (p ∷ os) end walk o (inl same) = subst (IsOpened tests log c) same walk.opened
    walk-opened n last (p ∷ os) end walk o (inr h) = walk-opened p.block walk.next os end walk.rest o h

    -- each committed block up to the tip has an opening
    pub walk-covers : (n : ℕ) (last : Place) (os : List RawOpening) (end : Place) → IsWalk log c n last os end
        → (m : ℕ) (root : List ℕ) → root_at log m ≡ Some root → n < m → m ≤ end.block
        → (o : RawOpening) × Has os o × (o.block ≡ m)
    unfolding IsWalk
    walk-covers n last [] end walk m root is above below = absurd (omega (arith, walk.0))
    walk-covers n last (p ∷ os) end walk m root is above below =
        elim (cases_order m p.block) [
          | inl same ↦ (p, inl refl, sym same)
          | inr apart ↦ elim apart [
            | inl under ↦ absurd (none_some root (sym (walk.gap m above under) ∙ is))
            | inr over ↦
                let r = walk-covers p.block walk.next os end walk.rest m root is over below in (r.0, inr r.1, r.2)
          ]
        ]

    -- the last link is the tip
    pub walk-end : (n : ℕ) (last : Place) (os : List RawOpening) (end : Place) → IsWalk log c n last os end
        → (last ≡ end) ⊎ Spent rules c os end.block end.owner
    unfolding IsWalk
    walk-end n last [] end walk = inl walk.1
    walk-end n last (p ∷ os) end walk =
        elim (walk-end p.block walk.next os end walk.rest) [
          | inr s ↦ inr (spent-later rules c p os end.block end.owner s)
          | inl is ↦ by_step walk.next walk.step is
        ]
      where
        by_step : (next : Place) → IsStep c last p next → next ≡ end
            → (last ≡ end) ⊎ Spent rules c (p ∷ os) end.block end.owner
        by_step next (Absent empty same) is = inl (sym same ∙ is)
        by_step next (Moves tx tx_is parent signed same) is = grind (arith, common_steps)

    step-above : (n : ℕ) (last : Place) (p : RawOpening) (next : Place) → IsStep c last p next → last.block ≤ n
        → n < p.block → (last.block ≤ next.block) × (next.block ≤ p.block)
    step-above n last p next h4 low rises = grind (arith, common_steps)

    step-parent : (last : Place) (p : RawOpening) (next : Place) (tx : SignedTx) → IsStep c last p next
        → transfer_of rules c p ≡ Some tx
        → (tx.body.parent ≡ last.block) × (next ≡ record { block = p.block; owner = tx.body.to })
        × (tests.is_signed tx last.owner ≡ true)
    step-parent last p next tx h4 is = grind (arith, common_steps, empty-no_tx, some_same)

    -- no later link goes back behind the last
    walk-parents : (n : ℕ) (last : Place) (os : List RawOpening) (end : Place) → IsWalk log c n last os end
        → last.block ≤ n → (o : RawOpening) (tx : SignedTx) → Has os o → transfer_of rules c o ≡ Some tx
        → last.block ≤ tx.body.parent
    unfolding IsWalk
    walk-parents n last [] end walk low o tx h is = absurd h
    walk-parents n last (p ∷ os) end walk low o tx (inl same) is =
        let parent = (step-parent last p walk.next tx walk.step (ap (transfer_of rules c) same ∙ is)).0 in
        omega (arith, parent)
    walk-parents n last (p ∷ os) end walk low o tx (inr h) is =
        let up = step-above n last p walk.next walk.step low walk.rises in
        grind (arith, common_steps, walk-parents p.block walk.next os end walk.rest up.1 o tx h is)

    -- of two links the later has its parent not before the earlier
    pub walk-order : (n : ℕ) (last : Place) (os : List RawOpening) (end : Place) → IsWalk log c n last os end
        → last.block ≤ n → (o p : RawOpening) (tx up : SignedTx) → Has os o → Has os p
        → transfer_of rules c o ≡ Some tx → transfer_of rules c p ≡ Some up → o.block < p.block
        → o.block ≤ up.body.parent
    unfolding IsWalk
    walk-order n last [] end walk low o p tx up ho hp o_is p_is below = absurd ho
    walk-order n last (q ∷ os) end walk low o p tx up (inl so) (inl sp) o_is p_is below =
        let e : o.block ≡ p.block = ap (λ (x : RawOpening). x.block) (sym so ∙ sp) in absurd (omega arith)
    walk-order n last (q ∷ os) end walk low o p tx up (inr ho) (inl sp) o_is p_is below =
        let above = walk-above q.block walk.next os end walk.rest o ho in
        let e : q.block ≡ p.block = ap (λ (x : RawOpening). x.block) sp in absurd (omega (arith, above))
    walk-order n last (q ∷ os) end walk low o p tx up (inl so) (inr hp) o_is p_is below =
        let s = step-parent last q walk.next tx walk.step (ap (transfer_of rules c) so ∙ o_is) in
        grind (arith, common_steps, walk-parents)
    walk-order n last (q ∷ os) end walk low o p tx up (inr ho) (inr hp) o_is p_is below =
        let s = step-above n last q walk.next walk.step low walk.rises in
        walk-order q.block walk.next os end walk.rest s.1 o p tx up ho hp o_is p_is below

    -- the place is spent, unless it is the tip
    pub walk-spends_last : (n : ℕ) (last : Place) (os : List RawOpening) (end : Place) → IsWalk log c n last os end
        → last.block ≤ n → last.block < end.block → Successor c os last.block last.owner
    unfolding IsWalk
    walk-spends_last n last [] end walk low below =
        let e : last.block ≡ end.block = ap (λ (x : Place). x.block) walk.1 in absurd (omega arith)
    walk-spends_last n last (p ∷ os) end walk low below =
        by_step walk.next walk.step (omega (arith, walk.rises))
        (λ same. walk-spends_last p.block last os end (subst (λ x. IsWalk log c p.block x os end) same walk.rest)
        (omega (arith, walk.rises)) below)
      where
        by_step : (next : Place) → IsStep c last p next → last.block < p.block
            → (next ≡ last → Successor c os last.block last.owner) → Successor c (p ∷ os) last.block last.owner
        by_step next (Absent empty same) up later = successor-later c p os last.block last.owner (later same)
        by_step next (Moves tx tx_is parent signed same) up later = grind (arith, common_steps)

    pub walk-spends : (n : ℕ) (last : Place) (os : List RawOpening) (end : Place) → IsWalk log c n last os end
        → (o : RawOpening) (tx : SignedTx) → Has os o → transfer_of rules c o ≡ Some tx → o.block < end.block
        → Successor c os o.block tx.body.to
    unfolding IsWalk
    walk-spends n last [] end walk o tx h is below = absurd h
    walk-spends n last (p ∷ os) end walk o tx (inl same) is below =
        let s = step-parent last p walk.next tx walk.step (ap (transfer_of rules c) same ∙ is) in
        grind (arith, common_steps, successor-later, walk-spends_last)
    walk-spends n last (p ∷ os) end walk o tx (inr h) is below =
        successor-later c p os o.block tx.body.to (walk-spends p.block walk.next os end walk.rest o tx h is below)

    -- ---- what a guard finds

    -- the first link comes after the place
    next-here : (last : Place) (p : RawOpening) (os : List RawOpening) (next : Place) (b : ℕ) → b ≡ last.block
        → IsStep c last p next
        → (next ≡ last → is_some (next_link b last.block (links_in rules c os)) ≡ true)
        → is_some (next_link b last.block (links_in rules c (p ∷ os))) ≡ true
    unfolding next_link
    next-here last p os next b is (Absent empty same) later = simp (links-absent rules c p os empty) (later same)
    next-here last p os next b is (Moves tx tx_is parent signed same) later =
        simp (links-some rules c p os tx tx_is, eq-eqb last.block b (sym is))

    pub next-last : (n : ℕ) (last : Place) (os : List RawOpening) (end : Place) (b : ℕ) → b ≡ last.block
        → IsWalk log c n last os end → last.block < end.block
        → is_some (next_link b last.block (links_in rules c os)) ≡ true
    unfolding IsWalk
    next-last n last [] end b is walk below =
        let e : last.block ≡ end.block = ap (λ (x : Place). x.block) walk.1 in absurd (omega arith)
    next-last n last (p ∷ os) end b is walk below =
        next-here last p os walk.next b is walk.step
        (λ same. next-last p.block last os end b is (subst (λ x. IsWalk log c p.block x os end) same walk.rest) below)

    -- one more opening in front keeps a link
    next-front : (last : Place) (p : RawOpening) (os : List RawOpening) (next : Place) (b : ℕ) → IsStep c last p next
        → is_some (next_link b next.block (links_in rules c os)) ≡ true
        → is_some (next_link b last.block (links_in rules c (p ∷ os))) ≡ true
    unfolding next_link
    next-front last p os next b h5 later = grind (arith, common_steps, links-absent, links-some, with_tx)

    pub next-link : (n : ℕ) (last : Place) (os : List RawOpening) (end : Place) → IsWalk log c n last os end
        → (o : RawOpening) (tx : SignedTx) → Has os o → transfer_of rules c o ≡ Some tx → o.block < end.block
        → is_some (next_link o.block last.block (links_in rules c os)) ≡ true
    unfolding IsWalk
    next-link n last [] end walk o tx h is below = absurd h
    next-link n last (p ∷ os) end walk o tx (inl same) is below =
        let s = step-parent last p walk.next tx walk.step (ap (transfer_of rules c) same ∙ is) in
        let e : walk.next.block ≡ p.block = ap (λ (x : Place). x.block) s.1 in
        let f : p.block ≡ o.block = ap (λ (x : RawOpening). x.block) same in
        next-front last p os walk.next o.block walk.step
        (next-last p.block walk.next os end o.block (sym f ∙ sym e) walk.rest (omega arith))
    next-link n last (p ∷ os) end walk o tx (inr h) is below =
        next-front last p os walk.next o.block walk.step (next-link p.block walk.next os end walk.rest o tx h is below)

    -- and there is none after the tip
    next-skip : (last : Place) (p : RawOpening) (os : List RawOpening) (next : Place) (b : ℕ) → last.block ≢ b
        → IsStep c last p next → next_link b next.block (links_in rules c os) ≡ None
        → next_link b last.block (links_in rules c (p ∷ os)) ≡ None
    unfolding next_link
    next-skip last p os next b apart h6 later = grind (arith, common_steps, links-absent, links-some, ne_eqb)

    pub next-tip : (n : ℕ) (last : Place) (os : List RawOpening) (end : Place) → IsWalk log c n last os end
        → last.block ≤ n → next_link end.block last.block (links_in rules c os) ≡ None
    unfolding IsWalk next_link
    next-tip n last [] end walk low = ap (next_link end.block last.block) (none-linked rules c)
    next-tip n last (p ∷ os) end walk low =
        let up = walk-passes p.block walk.next os end walk.rest in
        let s = step-above n last p walk.next walk.step low walk.rises in
        next-skip last p os walk.next end.block (λ e. absurd (omega (arith, up, walk.rises, e))) walk.step
        (next-tip p.block walk.next os end walk.rest s.1)
