-- How an opening moves a cell, by what is tested in turn.
use Rattle.proof_archive.proofs.Words.{◌≡◌, ℕ, ◌==◌, ◌&&◌, Bool, true, false, if◌then◌else◌, List, Option, Some, None, sym, ap, ◌∙◌, arith, is_some, ◌||◌, or_left, or_right, or_from, and_left, and_right, and_from, common_steps, RawOpening, SignedTx, CoinView, Tests, Rules, spends, signs, transfer_in, leaf_of_opening, is_absent, transfer_of, Stays, MovesTo, Breaks, CoinCell, tip_in, owner_in, move_by, next_in, move_of}

-- what was read of the leaf
pub transfer-read : (rules : Rules) (coin : ℕ) (o : RawOpening) (tag leaf : List ℕ) (read t : Option SignedTx)
    → tag ≡ rules.tag → leaf ≡ leaf_of_opening o → read ≡ transfer_in tag coin o.block leaf → read ≡ t
    → transfer_of rules coin o ≡ t
transfer-read rules coin o tag leaf read t tag_is leaf_is read_is is = grind (arith, common_steps) steps 20000

module _ (tests : Tests) (rules : Rules) (coin : ℕ) (made : CoinView) (cell : CoinCell) (o : RawOpening) where
  abbrev next : Option SignedTx → Option SignedTx
  next t = next_in tests made cell t

  idle : (is_absent o || is_some cell.broken) ≡ true → Stays ≡ move_of tests rules coin made cell o
  idle is = sym (ap (λ (b : Bool). if b then Stays else move_by o (next (transfer_of rules coin o))) is)

  pub move-absent : is_absent o ≡ true → Stays ≡ move_of tests rules coin made cell o
  move-absent absent = idle (or_left (is_absent o) (is_some cell.broken) absent)

  pub move-broken : is_some cell.broken ≡ true → Stays ≡ move_of tests rules coin made cell o
  move-broken broken = idle (or_right (is_absent o) (is_some cell.broken) broken)

  module _ (there : is_absent o ≡ false) (whole : is_some cell.broken ≡ false) where
    moving : (t : Option SignedTx) → transfer_of rules coin o ≡ t
        → move_of tests rules coin made cell o ≡ move_by o (next t)
    moving t is = grind (arith, common_steps, or_from) steps 20000

    pub move-none : transfer_of rules coin o ≡ None → Breaks ≡ move_of tests rules coin made cell o
    move-none none = sym (moving None none)

    module _ (tx : SignedTx) (some : transfer_of rules coin o ≡ Some tx) where
      tested : (b : Bool) → (spends (tip_in made.deposit cell.ends) (Some tx)
          && signs tests (Some (owner_in made.owner cell.ends)) (Some tx)) ≡ b
          → move_of tests rules coin made cell o ≡ move_by o (if b then Some tx else None)
      tested b is =
          moving (Some tx) some ∙ ap (λ (x : Bool). move_by o (if x then Some tx else None)) is

      pub move-apart : (tx.body.parent == tip_in made.deposit cell.ends) ≡ false
          → Breaks ≡ move_of tests rules coin made cell o
      move-apart apart = grind (arith, common_steps, tested, and_left) steps 20000

      pub move-unsigned : tests.is_signed tx (owner_in made.owner cell.ends) ≡ false
          → Breaks ≡ move_of tests rules coin made cell o
      move-unsigned unsigned = grind (arith, common_steps, tested, and_right) steps 20000

      pub move-link : (tx.body.parent == tip_in made.deposit cell.ends) ≡ true
          → tests.is_signed tx (owner_in made.owner cell.ends) ≡ true
          → MovesTo (record { block = o.block; owner = tx.body.to }) ≡ move_of tests rules coin made cell o
      move-link at signed = grind (arith, common_steps, tested, and_from) steps 20000
