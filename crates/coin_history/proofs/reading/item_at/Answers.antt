use Rattle.coin_history.proofs.Words.{◌≡◌, ◌≤◌, ◌<◌, ℕ, Bool, false, IsTrue, ◌↔◌, inl, inr, arith, cases_lt, both_ways, err_from_is_err_and, number_at}
use Rattle.coin_history.proofs.BundleItems.{low_of, first-no_block, first-fallen, first-no_length, first-no_bytes, first-item}
use Rattle.coin_history.proofs.reading.item_at.Goals as goal

-- a block that isn't after the one before
fallen : (is : Bool) (low block number : ℕ) → IsTrue is ↔ (low ≤ block) → is ≡ false → block ≡ number → number < low
fallen is low block number means isnt same = elim (cases_lt block low) [
  | inl lt ↦ omega arith
  | inr le ↦ absurd (both_ways is isnt (means.1 le))
]

-- one that is
rises : (is : Bool) (low block number : ℕ) → IsTrue is ↔ (low ≤ block) → IsTrue is → block ≡ number → low ≤ number
rises is low block number means after same = let le = means.0 after in omega arith

pub returns-in_err-block-clause-err : goal.returns-in_err-block-clause-err
returns-in_err-block-clause-err c =
    let p = err_from_is_err_and c.from_residual.result c.from_residual.ensures.1 in
    rw (p.1, p.2, c.in_err-block.ensures.1) (λ count. first-no_block c.args.bytes.now c.args.place
    (low_of c.args.before) count c.in_err-block.ensures.0)

pub returns-then-not-is_after-clause-err : goal.returns-then-not-is_after-clause-err
returns-then-not-is_after-clause-err c =
    let low = low_of c.args.before in
    let number = number_at c.args.bytes.now c.args.place in
    let lt = fallen c.is_after.result low c.in_ok-block.block number c.is_after.ensures c.if-not-is_after.true
    c.in_ok-block.ensures.1 in
    λ count. first-fallen c.args.bytes.now c.args.place low count c.in_ok-block.ensures.0 lt

pub returns-in_err-length-clause-err : goal.returns-in_err-length-clause-err
returns-in_err-length-clause-err c =
    let low = low_of c.args.before in
    let number = number_at c.args.bytes.now c.args.place in
    let le = rises c.is_after.result low c.in_ok-block.block number c.is_after.ensures c.if-not-is_after.false
    c.in_ok-block.ensures.1 in
    let p = err_from_is_err_and c.from_residual-in_err-length.result c.from_residual-in_err-length.ensures.1 in
    rw (p.1, p.2, c.in_err-length.ensures.1) (λ count. first-no_length c.args.bytes.now c.args.place low count
    c.in_ok-block.ensures.0 le (omega (arith, c.in_err-length.ensures.0)))

pub returns-then-bytes-end-clause-err : goal.returns-then-bytes-end-clause-err
returns-then-bytes-end-clause-err c =
    let low = low_of c.args.before in
    let number = number_at c.args.bytes.now c.args.place in
    let le = rises c.is_after.result low c.in_ok-block.block number c.is_after.ensures c.if-not-is_after.false
    c.in_ok-block.ensures.1 in
    λ count. first-no_bytes c.args.bytes.now c.args.place low count (omega (arith, c.in_ok-length.ensures.0)) le
    (omega (arith, c.in_ok-length.ensures.1))

pub returns-clause-ok : goal.returns-clause-ok
returns-clause-ok c =
    let low = low_of c.args.before in
    let number = number_at c.args.bytes.now c.args.place in
    let le = rises c.is_after.result low c.in_ok-block.block number c.is_after.ensures c.if-not-is_after.false
    c.in_ok-block.ensures.1 in
    rw (c.in_ok-block.ensures.1, c.in_ok-length.ensures.1)
    (λ count. first-item c.args.bytes.now c.args.place low count le (omega (arith, c.in_ok-length.ensures.1)))
