-- The links of a history: each comes after its parent's block, whose owner signed it, and an opening shows it.
use Rattle.watch_duty.proofs.Words.{◌≡◌, ◌⊎◌, ℕ, zero, suc, ◌<◌, ◌≤◌, ◌==◌, true, false, if◌then◌else◌, List, [], ◌∷◌, map, Option, Some, None, inl, inr, refl, sym, ap, arith, option_map, option_map_or, AllByRecursion, AllPairs, cons_option, eqb-true, eq-eqb, ne_eqb, true≢false, common_steps, Owner, RawOpening, SignedTx, Link, RootCall, Tests, Rules, root_at, ShowsTx, some_same, tip_from, with_tx, next_link}
use Rattle.coin_history.specs.History.{opens_block, transfer_of, links_in, AreLinked}
use Rattle.watch_duty.proofs.Members.{Has}

-- ---- rising links

-- the blocks of the links rise strictly from this one on
abbrev pub Rises : ℕ → List Link → Type 0
Rises last [] = Unit {0}
Rises last (link ∷ links) = (last < link.block) × Rises link.block links

pub rises-from : (last : ℕ) (links : List Link)
    → AllPairs (λ earlier later. earlier < later) (last ∷ map (λ link. link.block) links) → Rises last links
rises-from last [] pairs = tt
rises-from last (link ∷ links) pairs = (
  pairs zero (suc zero) 0 (omega arith) (omega arith),
  rises-from link.block links (λ i j d less long. pairs (suc i) (suc j) d (omega arith) (omega arith)),
)

-- each link is above what they rise from, and at most the tip
pub has-above : (last : ℕ) (links : List Link) (link : Link) → Rises last links → Has links link → last < link.block
has-above last [] link rise h = absurd h
has-above last (l ∷ ls) link rise (inl is) = omega (arith, rise.0, ap (λ (x : Link). x.block) is)
has-above last (l ∷ ls) link rise (inr h) = omega (arith, rise.0, has-above l.block ls link rise.1 h)

tip-above : (last : ℕ) (links : List Link) → Rises last links → last ≤ tip_from last links
tip-above last [] rise = omega arith
tip-above last (l ∷ ls) rise = omega (arith, rise.0, tip-above l.block ls rise.1)

pub has-tip : (last : ℕ) (links : List Link) (link : Link) → Rises last links → Has links link
    → link.block ≤ tip_from last links
has-tip last [] link rise h = absurd h
has-tip last (l ∷ ls) link rise (inl is) =
    omega (arith, ap (λ (x : Link). x.block) is, tip-above l.block ls rise.1)
has-tip last (l ∷ ls) link rise (inr h) = has-tip l.block ls link rise.1 h

-- the tip is what they rise from, or a link's
pub tip-link : (last : ℕ) (links : List Link)
    → (tip_from last links ≡ last) ⊎ ((link : Link) × Has links link × (link.block ≡ tip_from last links))
tip-link last [] = inl refl
tip-link last (l ∷ ls) = grind (arith, common_steps, tip-link l.block ls) steps 20000

-- ---- the link after a block

module _ (tests : Tests) where
  -- the owner after a block, where the links come after this block and owner
  abbrev pub IsAt : ℕ → Owner → List Link → ℕ → Owner → Type 0
  IsAt last owner links block own =
      ((block ≡ last) × (own ≡ owner))
      ⊎ ((link : Link) × Has links link × (link.block ≡ block) × (link.tx.body.to ≡ own))

  -- the link spends the block, and was signed by its owner
  pub record Follows (last : ℕ) (owner : Owner) (links : List Link) (block : ℕ) (link : Link) : Type 0 where
    pub has : Has links link
    pub child : link.tx.body.parent ≡ block
    pub own : Owner
    pub signed : tests.is_signed link.tx own ≡ true
    pub at : IsAt last owner links block own
    pub above : block < link.block
    pub low : last ≤ block

  pub follows : (last : ℕ) (owner : Owner) (links : List Link) (block : ℕ) (link : Link)
      → AreLinked tests last owner links → Rises last links → next_link block last links ≡ Some link
      → Follows last owner links block link
  unfolding next_link AreLinked
  follows last owner [] block link are rise is = absurd (cc is)
  follows last owner (l ∷ ls) block link are rise is =
      (elim (last == block) as (λ b. (last == block) ≡ b
      → (if b then Some l else next_link block l.block ls) ≡ Some link → Follows last owner (l ∷ ls) block link) [
        | true ↦ grind (arith, common_steps, eqb-true, some_same) steps 20000
        | false ↦ λ other later.
            let r = follows l.block l.tx.body.to ls block link are.2 rise.1 later in
            grind (arith, common_steps, further) steps 20000
      ]) refl is
    where
      further : {own : Owner} → IsAt l.block l.tx.body.to ls block own → IsAt last owner (l ∷ ls) block own
      further (inl is) = inr (l, inl refl, sym is.0, sym is.1)
      further (inr m) = inr (m.0, inr m.1, m.2, m.3)

  -- a link's parent is what they come after, or later, and the link comes after it
  parent-low : (last : ℕ) (owner : Owner) (links : List Link) (link : Link) → AreLinked tests last owner links
      → Rises last links → Has links link → last ≤ link.tx.body.parent
  unfolding AreLinked
  parent-low last owner [] link are rise h = absurd h
  parent-low last owner (l ∷ ls) link are rise (inl is) =
      omega (arith, ap (λ (x : Link). x.tx.body.parent) is, are.0)
  parent-low last owner (l ∷ ls) link are rise (inr h) =
      omega (arith, rise.0, parent-low l.block l.tx.body.to ls link are.2 rise.1 h)

  pub next_link-parent : (last : ℕ) (owner : Owner) (links : List Link) (link : Link)
      → AreLinked tests last owner links → Rises last links → Has links link
      → next_link link.tx.body.parent last links ≡ Some link
  unfolding next_link AreLinked
  next_link-parent last owner [] link are rise h = absurd h
  next_link-parent last owner (l ∷ ls) link are rise (inl is) = grind (arith, common_steps, eq-eqb) steps 20000
  next_link-parent last owner (l ∷ ls) link are rise (inr h) =
      let low = parent-low l.block l.tx.body.to ls link are.2 rise.1 h in
      grind (arith, common_steps, next_link-parent l.block l.tx.body.to ls link are.2 rise.1 h, ne_eqb) steps 20000

  -- of two blocks that links come after, the link after the earlier one is no later than the other
  pub next_link-ordered : (last : ℕ) (owner : Owner) (links : List Link) (block other : ℕ) (link next : Link)
      → AreLinked tests last owner links → Rises last links → next_link block last links ≡ Some link
      → next_link other last links ≡ Some next → block < other → link.block ≤ other
  unfolding next_link AreLinked
  next_link-ordered last owner [] block other link next are rise is also less = absurd (cc is)
  next_link-ordered last owner (l ∷ ls) block other link next are rise is also less =
      (elim (last == other) as (λ b. (last == other) ≡ b
      → (if b then Some l else next_link other l.block ls) ≡ Some next → link.block ≤ other) [
        | true ↦ λ here same.
            let f = follows last owner (l ∷ ls) block link are rise is in
            absurd (omega (arith, f.low, eqb-true last other here))
        | false ↦ λ apart later.
            let f = follows l.block l.tx.body.to ls other next are.2 rise.1 later in
            (elim (last == block) as (λ b. (last == block) ≡ b
            → (if b then Some l else next_link block l.block ls) ≡ Some link → link.block ≤ other) [
              | true ↦ λ here same. omega (arith, f.low, ap (λ (x : Link). x.block) (some_same l link same))
              | false ↦ λ more further.
                  next_link-ordered l.block l.tx.body.to ls block other link next are.2 rise.1 further later less
            ]) refl is
      ]) refl also

-- ---- the openings of links

module _ (tests : Tests) (rules : Rules) (log : List RootCall) (coin : ℕ) where
  -- the link's opening is one of these, and shows its transfer in its block
  pub record IsOpened (openings : List RawOpening) (link : Link) : Type 0 where
    pub has : Has openings link.opening
    pub block : link.opening.block ≡ link.block
    pub shown : ShowsTx tests rules log coin link.opening link.tx

  shows-link : (o : RawOpening) (tx : SignedTx) (found : Option (List ℕ)) → root_at log o.block ≡ found
      → option_map_or (λ root. tests.opens root coin o) found false ≡ true → transfer_of rules coin o ≡ Some tx
      → ShowsTx tests rules log coin o tx
  shows-link o tx None root opens is = absurd (true≢false (sym opens))
  shows-link o tx (Some root) at opens is = record { root = root; committed = at; opened = opens; spelled = is }

  pub links-opened : (openings : List RawOpening) (link : Link)
      → AllByRecursion (λ o. opens_block tests log coin o ≡ true) openings → Has (links_in rules coin openings) link
      → IsOpened openings link
  unfolding links_in
  links-opened [] link opens h = absurd h
  links-opened (o ∷ os) link opens h =
      (elim (transfer_of rules coin o) as (λ t. transfer_of rules coin o ≡ t
      → Has (cons_option (option_map (with_tx o) t) (links_in rules coin os)) link → IsOpened (o ∷ os) link) [
        | None ↦ λ none there. later (links-opened os link opens.1 there)
        | Some tx ↦ λ some there. elim there [
          | inl same ↦ grind (arith, common_steps, shows-link) steps 20000
          | inr more ↦ later (links-opened os link opens.1 more)
        ]
      ]) refl h
    where
      later : IsOpened os link → IsOpened (o ∷ os) link
      later r = record { has = inr r.has; block = r.block; shown = r.shown }
