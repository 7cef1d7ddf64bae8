-- An operator's refused command adds nothing.
use Rattle.node_roles.proofs.Words.{◌≡◌, ℕ, nat_lt, true, List, [], ◌∷◌, ◌++◌, length, Option, Some, None, Result, Ok, Err, refl, first_cause, are_of, RootCall, signed_in, blocks, coin_at, OfferRefusal, forest_in, offer_causes, offer_at, offer_of, offer_effect, lay_effect, seal_effect, offer_cause, lay_cause, seal_cause, on_pooled, on_laid, on_sealed, operator_does, OperatorLine, operator_outcome}
use Rattle.plasma_tx.specs.declared.signed_tx.SignedTx.{SignedTx}
use Rattle.plasma_tx.specs.declared.signed_tx.TxRefusal.{TxRefusal}
use Rattle.plasma_tx.specs.declared.views.CoinView.{CoinView}
use Rattle.operator_rules.specs.declared.TheConstants.{MOST_LAID}
use Rattle.operator_rules.specs.Trees.{Forest, is_waiting}
use Rattle.operator_rules.specs.Walk.{present}
use Rattle.operator_rules.specs.Records.{Offered, Laid, note_text, operator_kinds, who_is}
use Rattle.node_replies.specs.declared.order.OperatorOrder.{OperatorOrder}
use Rattle.node_roles.proofs.Refusals.{AddsNothingRefused, refused-by, unless-quiet, second-quiet}

at-quiet : (dig : List ℕ → List ℕ) (tag : List ℕ) (log : List RootCall) (forest : Forest) (bytes : List ℕ)
    (tx : SignedTx) (made : Option CoinView) (why : OfferRefusal)
    → (offer_at dig tag log forest bytes tx made).answer ≡ Err why
    → (offer_at dig tag log forest bytes tx made).note ≡ None
at-quiet dig tag log forest bytes tx None why is = refl
at-quiet dig tag log forest bytes tx (Some made) why is =
    unless-quiet
    (first_cause
    (offer_causes (blocks log) tx (present dig tag log forest.sealed tx.body.coin made)
    (is_waiting dig log forest tx.body.coin)))
    (record { answer = Ok tx.body.coin; note = Some (note_text (Offered bytes)) }) tx.body.coin why refl is

pub offer-quiet : (dig : List ℕ → List ℕ) (tag : List ℕ) (log : List RootCall) (forest : Forest) (bytes : List ℕ)
    (read : Result SignedTx TxRefusal) (why : OfferRefusal)
    → (offer_of dig tag log forest bytes read).answer ≡ Err why → (offer_of dig tag log forest bytes read).note ≡ None
offer-quiet dig tag log forest bytes (Err refusal) why is = refl
offer-quiet dig tag log forest bytes (Ok tx) why is =
    at-quiet dig tag log forest bytes tx (coin_at log tx.body.coin) why is

pub operator-quiet : (dig : List ℕ → List ℕ) (log : List RootCall) (notes : List (List ℕ)) (line : OperatorLine)
    → AddsNothingRefused (operator_outcome dig log notes line)
unfolding operator_outcome operator_does offer_effect lay_effect seal_effect
operator-quiet dig log notes (OperatorLine.Order (OperatorOrder.Offer bytes)) cause is = (
  refl,
  refused-by offer_cause on_pooled (offer_effect dig notes log bytes).answer
      ((offer_effect dig notes log bytes).note ≡ None) cause (λ a why wrong. cc)
      (offer-quiet dig (who_is notes).tag log (forest_in notes) bytes (signed_in (who_is notes).tag bytes)) is,
)
operator-quiet dig log notes (OperatorLine.Order (OperatorOrder.Lay coin bytes)) cause is = (
  refl,
  refused-by lay_cause (on_laid coin) (lay_effect coin bytes).answer ((lay_effect coin bytes).note ≡ None) cause
      (λ a why wrong. cc)
      (λ why. second-quiet (nat_lt MOST_LAID (length bytes)) tt (Some (note_text (Laid coin bytes))) _ why) is,
)
operator-quiet dig log notes (OperatorLine.Order OperatorOrder.Seal) cause is = (
  refl,
  refused-by seal_cause on_sealed (seal_effect dig notes).answer ((seal_effect dig notes).note ≡ None) cause
      (λ a why wrong. cc) (λ why wrong. cc) is,
)
operator-quiet dig log notes (OperatorLine.Order (OperatorOrder.Bundle coin tip)) cause is = (refl, refl)
operator-quiet dig log notes (OperatorLine.Order (OperatorOrder.Prove coin block)) cause is = (refl, refl)
operator-quiet dig log notes (OperatorLine.Order (OperatorOrder.Absences coin after last)) cause is = (refl, refl)
operator-quiet dig log notes (OperatorLine.Receipt bytes due) cause is = (refl, refl)
operator-quiet dig log notes OperatorLine.Migrate cause is = (refl, refl)

-- the tag is that of the first record
pub operator-tag : (records : List (List ℕ)) → are_of operator_kinds records ≡ true → (body : List ℕ)
    → (who_is (records ++ body ∷ [])).tag ≡ (who_is records).tag
unfolding who_is
operator-tag [] role body = cc
operator-tag (first ∷ records) role body = refl
