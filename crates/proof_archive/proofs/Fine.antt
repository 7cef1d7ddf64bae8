-- Openings that show links, each the next one, and one more opening behind them.
use Rattle.proof_archive.proofs.Words.{◌≡◌, ℕ, true, false, List, [], ◌∷◌, ◌++◌, Some, None, refl, sym, subst, arith, is_some, ◌||◌, option_map, AllByRecursion, cons_option, true≢false, or_left, or_right, filter_map-append, common_steps, Owner, RawOpening, SignedTx, Link, CoinView, Tests, Rules, is_absent, transfer_of, link_of, links_in, AreLinked, tip_from, owner_from, with_tx, absent-none, IsLeaf}

-- ---- lists

pub every-front : {X : Type 0} (P : X → Type 0) (xs : List X) (x : X) → AllByRecursion P (xs ++ x ∷ [])
    → AllByRecursion P xs
every-front P [] x all = tt
every-front P (y ∷ ys) x all = (all.0, every-front P ys x all.1)

pub every-push : {X : Type 0} (P : X → Type 0) (xs : List X) (x : X) → AllByRecursion P xs → P x
    → AllByRecursion P (xs ++ x ∷ [])
every-push P [] x all p = (p, tt)
every-push P (y ∷ ys) x all p = (all.0, every-push P ys x all.1 p)

pub every-last : {X : Type 0} (P : X → Type 0) (xs : List X) (x : X) → AllByRecursion P (xs ++ x ∷ []) → P x
every-last P [] x all = all.0
every-last P (y ∷ ys) x all = every-last P ys x all.1

-- ---- links

module _ (tests : Tests) where
  linked-front : (block : ℕ) (owner : Owner) (links : List Link) (link : Link)
      → AreLinked tests block owner (links ++ link ∷ []) → AreLinked tests block owner links
  unfolding AreLinked
  linked-front block owner [] link are = tt
  linked-front block owner (x ∷ xs) link are =
      (are.0, are.1, linked-front x.block x.tx.body.to xs link are.2)

  linked-last : (block : ℕ) (owner : Owner) (links : List Link) (link : Link)
      → AreLinked tests block owner (links ++ link ∷ [])
      → (link.tx.body.parent ≡ tip_from block links) × (tests.is_signed link.tx (owner_from owner links) ≡ true)
  unfolding AreLinked
  linked-last block owner [] link are = (are.0, are.1)
  linked-last block owner (x ∷ xs) link are = linked-last x.block x.tx.body.to xs link are.2

  linked-more : (block : ℕ) (owner : Owner) (links : List Link) (link : Link) → AreLinked tests block owner links
      → link.tx.body.parent ≡ tip_from block links → tests.is_signed link.tx (owner_from owner links) ≡ true
      → AreLinked tests block owner (links ++ link ∷ [])
  unfolding AreLinked
  linked-more block owner [] link are parent signed = (parent, signed, tt)
  linked-more block owner (x ∷ xs) link are parent signed =
      (are.0, are.1, linked-more x.block x.tx.body.to xs link are.2 parent signed)

module _ (rules : Rules) (coin : ℕ) where
  links-one : (os : List RawOpening) (o : RawOpening)
      → links_in rules coin (os ++ o ∷ [])
      ≡ links_in rules coin os ++ cons_option (option_map (with_tx o) (transfer_of rules coin o)) []
  unfolding links_in
  links-one os o = filter_map-append (link_of rules coin) os (o ∷ [])

  -- one more opening without a transfer shows no link, and one with a transfer its link
  pub links-none : (os : List RawOpening) (o : RawOpening) → transfer_of rules coin o ≡ None
      → links_in rules coin (os ++ o ∷ []) ≡ links_in rules coin os
  links-none os o none = grind (arith, common_steps, links-one, with_tx) steps 20000

  pub links-some : (os : List RawOpening) (o : RawOpening) (tx : SignedTx) → transfer_of rules coin o ≡ Some tx
      → links_in rules coin (os ++ o ∷ []) ≡ links_in rules coin os ++ with_tx o tx ∷ []
  links-some os o tx some = grind (arith, common_steps, links-one, with_tx) steps 20000

-- ---- openings that show links

module _ (tests : Tests) (rules : Rules) (coin : ℕ) (made : CoinView) where
  -- each leaf is empty or a transfer, and each transfer spends the one before
  pub record IsFine (os : List RawOpening) : Type 0 where
    pub leaves : AllByRecursion (IsLeaf rules coin) os
    pub linked : AreLinked tests made.deposit made.owner (links_in rules coin os)

  -- an opening's leaf is the next link behind others
  pub record IsNextLink (links : List Link) (o : RawOpening) (tx : SignedTx) : Type 0 where
    pub tx_is : transfer_of rules coin o ≡ Some tx
    pub parent : tx.body.parent ≡ tip_from made.deposit links
    pub signed : tests.is_signed tx (owner_from made.owner links) ≡ true

  pub fine-none : IsFine []
  unfolding AreLinked links_in
  fine-none = record { leaves = tt; linked = tt }

  pub fine-absent : (os : List RawOpening) (o : RawOpening) → is_absent o ≡ true → IsFine os → IsFine (os ++ o ∷ [])
  fine-absent os o absent fine = grind (arith, common_steps, every-push, or_left, links-none, absent-none) steps 20000

  pub fine-next : (os : List RawOpening) (o : RawOpening) (tx : SignedTx) → IsNextLink (links_in rules coin os) o tx
      → IsFine os → IsFine (os ++ o ∷ [])
  fine-next os o tx next fine = record {
    leaves = grind (arith, common_steps, every-push, or_right) steps 20000;
    linked = subst (AreLinked tests made.deposit made.owner) (sym (links-some rules coin os o tx next.tx_is))
        (grind (arith, common_steps, linked-more, with_tx) steps 20000);
  }

  pub fine-front : (os : List RawOpening) (o : RawOpening) → IsFine (os ++ o ∷ []) → IsFine os
  fine-front os o fine = record {
    leaves = every-front (IsLeaf rules coin) os o fine.leaves;
    linked = (elim (transfer_of rules coin o) as (λ t. transfer_of rules coin o ≡ t
        → AreLinked tests made.deposit made.owner (links_in rules coin os)) [
          | None ↦ λ none. subst (AreLinked tests made.deposit made.owner) (links-none rules coin os o none) fine.linked
          | Some tx ↦ λ some. linked-front tests made.deposit made.owner (links_in rules coin os) (with_tx o tx)
              (subst (AreLinked tests made.deposit made.owner) (links-some rules coin os o tx some) fine.linked)
        ]) refl;
  }

  pub fine-last : (os : List RawOpening) (o : RawOpening) → is_absent o ≡ false → IsFine (os ++ o ∷ [])
      → (tx : SignedTx) × IsNextLink (links_in rules coin os) o tx
  fine-last os o there fine =
      (elim (transfer_of rules coin o) as (λ t. transfer_of rules coin o ≡ t
      → (tx : SignedTx) × IsNextLink (links_in rules coin os) o tx) [
        | None ↦ λ none.
            let leaf : (is_absent o || is_some (transfer_of rules coin o)) ≡ true =
            every-last (IsLeaf rules coin) os o fine.leaves in
            grind (arith, common_steps, true≢false) steps 20000
        | Some tx ↦ λ some.
            let last = linked-last tests made.deposit made.owner (links_in rules coin os) (with_tx o tx)
            (subst (AreLinked tests made.deposit made.owner) (links-some rules coin os o tx some) fine.linked) in
            (tx, record { tx_is = some; parent = last.0; signed = last.1 })
      ]) refl
