-- Records as bytes.
use Rattle.operator_core.proofs.Words.{◌≡◌, ◌≤◌, ℕ, true, false, List, [], ◌++◌, length, Some, None, Result, Ok, Err, refl, ◌∙◌, ap, inl, inr, arith, append_assoc, slice_range, cases_Bool, common_steps, TxRefusal, signed_in, body_in, has_second_mark, spells_transfer, offered_coin}
use Rattle.std.specs.Result.{is_ok}
use Rattle.plasma_tx.specs.declared.body.Body.{Body}
use Rattle.plasma_tx.proofs.Spellings.{Fits, body_in-ok}
use Rattle.plasma_tx.proofs.Parts.{length-range}

-- a body is read where a signed transfer is
pub read_same : (tag bytes : List ℕ) → spells_transfer tag bytes ≡ is_ok (body_in tag bytes)
unfolding signed_in
read_same tag bytes = grind (arith, common_steps) steps 20000

-- a body that is read has the tag at its place
pub no_transfer : (bytes : List ℕ) → spells_transfer [] bytes ≡ false
no_transfer bytes = read_same [] bytes ∙ at (body_in [] bytes) refl
  where
    none : Fits [] bytes → ⊥
    none fits =
        let long = fits.long in
        let no_tag : length (slice_range bytes 4 36) ≡ 0 = ap (λ (xs : List ℕ). length xs) fits.tagged in
        let tag = length-range bytes 4 36 (omega arith)
        (elim (cases_Bool (has_second_mark bytes)) [
          | inl is ↦ (let h : 124 ≤ length bytes = rw is at long in omega (arith, h))
          | inr isnt ↦ (let h : 116 ≤ length bytes = rw isnt at long in omega (arith, h))
        ]) in
        omega (arith, tag, no_tag)

    at : (r : Result Body TxRefusal) → body_in [] bytes ≡ r → is_ok r ≡ false
    at (Ok body) is = absurd (none (body_in-ok [] bytes body is).0)
    at (Err why) is = refl

-- the coin of what is read
pub coin_read : (tag bytes : List ℕ) (body : Body) → body_in tag bytes ≡ Ok body
    → Some body.coin ≡ offered_coin tag bytes
coin_read tag bytes body is =
    let read : spells_transfer tag bytes ≡ true = grind (arith, common_steps, read_same) steps 20000 in
    rw (read, (body_in-ok tag bytes body is).1) refl

pub not_read : (tag bytes : List ℕ) (why : TxRefusal) → body_in tag bytes ≡ Err why → offered_coin tag bytes ≡ None
not_read tag bytes why is =
    let unread : spells_transfer tag bytes ≡ false = grind (arith, common_steps, read_same) steps 20000 in
    rw unread refl

pub ruleset reading = (no_transfer, coin_read, not_read)

-- one way to group
pub grouped : (a b c d : List ℕ) → ((a ++ b) ++ c) ++ d ≡ a ++ (b ++ (c ++ d))
grouped a b c d = append_assoc (a ++ b) c d ∙ append_assoc a b (c ++ d)
