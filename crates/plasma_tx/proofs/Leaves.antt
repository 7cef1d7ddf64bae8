-- The transfer that a leaf spells.
use Rattle.plasma_tx.proofs.Words.{◌≡◌, ℕ, ◌==◌, true, List, [], Some, None, Ok, refl, sym, ap, ◌∙◌, arith, Result, slice_range, and_parts, eqb-true, common_steps, SignedTx, TxRefusal, body_in, signed_in, may_stand_in, is_transfer, kept_transfer, transfer_in, named_owner, recipient_in}
use Rattle.plasma_tx.proofs.Spellings.{body_in-fits, signed_in-ok}

-- the result is this one
abbrev IsRead : Result SignedTx TxRefusal → SignedTx → Type 0
IsRead r tx = r ≡ Ok tx

kept-some : (coin block : ℕ) (r : Result SignedTx TxRefusal) (tx : SignedTx) → kept_transfer coin block r ≡ Some tx
    → (r ≡ Ok tx) × (is_transfer coin block tx.body ≡ true)
kept-some coin block r tx h = grind (arith, common_steps) steps 20000

pub transfer-read : (tag leaf : List ℕ) (coin block : ℕ) (tx : SignedTx) → transfer_in tag coin block leaf ≡ Some tx
    → (signed_in tag leaf ≡ Ok tx) × (tx.body.tag ≡ tag) × (tx.body.coin ≡ coin) × (may_stand_in block tx.body.last
    ≡ true)
unfolding transfer_in
transfer-read tag leaf coin block tx h =
    let kept = kept-some coin block (signed_in tag leaf) tx h in
    let parts = and_parts (tx.body.coin == coin) (may_stand_in block tx.body.last) kept.1 in
    let known = signed_in-ok tag leaf tx kept.0 in
    (kept.0, ap (λ (t : SignedTx). t.body.tag) known.1 ∙ known.0.tagged, eqb-true tx.body.coin coin parts.0, parts.1)

pub recipient-named : (tag leaf : List ℕ) (coin block : ℕ) (tx : SignedTx)
    → transfer_in tag coin block leaf ≡ Some tx → recipient_in leaf ≡ tx.body.to
unfolding recipient_in
recipient-named tag leaf coin block tx h =
    let known = signed_in-ok tag leaf tx (transfer-read tag leaf coin block tx h).0 in
    let fits = known.0 in
    ap named_owner
    (body_in-fits (slice_range leaf 4 36) leaf (record { long = fits.long; marked = fits.marked; tagged = refl }))
    ∙ ap (λ (t : SignedTx). t.body.to) (sym known.1)

pub empty-none : (tag : List ℕ) (coin block : ℕ) → transfer_in tag coin block [] ≡ None
unfolding transfer_in signed_in body_in
empty-none tag coin block = refl
