-- What an offer answers and adds.
use Rattle.operator_core.proofs.Words.{◌≡◌, ℕ, Bool, true, false, if◌then◌else◌, List, [], ◌∷◌, ◌≤◌, length, Option, Some, None, Result, Ok, Err, refl, ◌∙◌, arith, MatchResult, is_some, AllByRecursion, common_steps, Stop, Effect, first_cause, unless, are_of, NotesState, Did, History, FaultPlan, TxRefusal, RootCall, CoinView, signed_in, blocks, coin_at, Offered, note_text, operator_kinds, who_is, Forest, coin_named, is_waiting, Place, present, forest_in, offer_causes, offer_at, offer_of, offer_effect, offer_stop, AddsRecord, offer_refusal, has_its_coin}
use Rattle.plasma_tx.specs.declared.signed_tx.SignedTx.{SignedTx}
use Rattle.operator_rules.specs.declared.refusal.OfferRefusal.{OfferRefusal}
use Rattle.operator_rules.specs.declared.refusal.OfferRefusal.TheVariants.{NoMemory as NoMemoryOffer}
use Rattle.operator_rules.proofs.Trees.{coin-named}
use Rattle.operator_rules.proofs.Run.{offerable}
use Rattle.operator_rules.proofs.Openings.{leaf-short}
use Rattle.operator_core.proofs.Adds.{adds_offered}

pub offer_stop-refusal : (stop : Stop) → offer_stop (Err (offer_refusal stop)) ≡ Some stop
offer_stop-refusal stop = grind (arith, common_steps) steps 20000

-- a coin is answered with its note, and a refusal of the rules without
IsFine : List ℕ → Effect (Result ℕ OfferRefusal) → Type 0
IsFine bytes effect =
    MatchResult effect.answer (λ coin. (effect.note ≡ Some (note_text (Offered bytes))) × (coin ≡ coin_named bytes))
    (λ why. (effect.note ≡ None) × (offer_stop (Err why) ≡ None))

first-fine : (causes : List (Bool × OfferRefusal)) (why : OfferRefusal)
    → AllByRecursion (λ cause. offer_stop (Err cause.1) ≡ None) causes → first_cause causes ≡ Some why
    → offer_stop (Err why) ≡ None
first-fine [] why all is = absurd (cc is)
first-fine (cause ∷ causes) why all is =
    (elim cause.0 as (λ b. (if b then Some cause.1 else first_cause causes) ≡ Some why → offer_stop (Err why) ≡ None) [
      | true ↦ grind (arith, common_steps) steps 20000
      | false ↦ λ rest. first-fine causes why all.1 rest
    ]) is

unless-fine : (bytes : List ℕ) (failed : Option OfferRefusal) (effect : Effect (Result ℕ OfferRefusal))
    → IsFine bytes effect → ((why : OfferRefusal) → failed ≡ Some why → offer_stop (Err why) ≡ None)
    → IsFine bytes (unless failed effect)
unfolding IsFine
unless-fine bytes None effect fine rules = fine
unless-fine bytes (Some why) effect fine rules = (refl, rules why refl)

causes-fine : (count : ℕ) (tx : SignedTx) (tip : Place) (waiting : Bool)
    → AllByRecursion (λ cause. offer_stop (Err cause.1) ≡ None) (offer_causes count tx tip waiting)
causes-fine count tx tip waiting = grind (arith, common_steps) steps 20000

module _ (dig : List ℕ → List ℕ) (tag : List ℕ) (log : List RootCall) (forest : Forest) (bytes : List ℕ) where
  at-fine : (tx : SignedTx) (made : Option CoinView) → tx.body.coin ≡ coin_named bytes
      → IsFine bytes (offer_at dig tag log forest bytes tx made)
  unfolding IsFine
  at-fine tx None named = (refl, refl)
  at-fine tx (Some made) named =
      let causes = offer_causes (blocks log) tx (present dig tag log forest.sealed tx.body.coin made)
      (is_waiting dig log forest tx.body.coin) in
      unless-fine bytes (first_cause causes)
      (record { answer = Ok tx.body.coin; note = Some (note_text (Offered bytes)) })
      (refl, named)
      (λ why is. first-fine causes why (causes-fine (blocks log) tx
      (present dig tag log forest.sealed tx.body.coin made) (is_waiting dig log forest tx.body.coin)) is)

  of-fine : (read : Result SignedTx TxRefusal) → signed_in tag bytes ≡ read
      → IsFine bytes (offer_of dig tag log forest bytes read)
  unfolding IsFine
  of-fine (Err why) is = (refl, refl)
  of-fine (Ok tx) is = at-fine tx (coin_at log tx.body.coin) (coin-named tag bytes tx is)

-- a coin that is answered is in the log
there-at : (dig : List ℕ → List ℕ) (tag : List ℕ) (log : List RootCall) (forest : Forest) (bytes : List ℕ)
    (tx : SignedTx) (made : Option CoinView) (coin : ℕ)
    → Ok coin ≡ (offer_at dig tag log forest bytes tx made).answer → is_some made ≡ true
there-at dig tag log forest bytes tx None coin is = absurd (cc is)
there-at dig tag log forest bytes tx (Some made) coin is = refl

there-of : (dig : List ℕ → List ℕ) (tag : List ℕ) (log : List RootCall) (forest : Forest) (bytes : List ℕ)
    (read : Result SignedTx TxRefusal) (coin : ℕ)
    → Ok coin ≡ (offer_of dig tag log forest bytes read).answer → has_its_coin log read ≡ true
there-of dig tag log forest bytes read coin is = grind (arith, common_steps, there-at) steps 20000

pub offered_there : (dig : List ℕ → List ℕ) (records : List (List ℕ)) (log : List RootCall) (bytes : List ℕ) (coin : ℕ)
    → Ok coin ≡ (offer_effect dig records log bytes).answer
    → has_its_coin log (signed_in (who_is records).tag bytes) ≡ true
unfolding offer_effect
offered_there dig records log bytes coin is =
    there-of dig (who_is records).tag log (forest_in records) bytes (signed_in (who_is records).tag bytes) coin is

offer-fine : (dig : List ℕ → List ℕ) (records : List (List ℕ)) (log : List RootCall) (bytes : List ℕ)
    → IsFine bytes (offer_effect dig records log bytes)
unfolding offer_effect
offer-fine dig records log bytes =
    of-fine dig (who_is records).tag log (forest_in records) bytes (signed_in (who_is records).tag bytes) refl

fine-ok : (bytes : List ℕ) (answer : Result ℕ OfferRefusal) (added : Option (List ℕ)) (coin : ℕ)
    → IsFine bytes (record { answer = answer; note = added }) → Ok coin ≡ answer
    → (added ≡ Some (note_text (Offered bytes))) × (coin ≡ coin_named bytes)
unfolding IsFine
fine-ok bytes (Ok named) added coin fine is = (fine.0, (let e : coin ≡ named = cc is in e) ∙ fine.1)
fine-ok bytes (Err why) added coin fine is = absurd (cc is)

fine-err : (bytes : List ℕ) (answer : Result ℕ OfferRefusal) (added : Option (List ℕ)) (why : OfferRefusal)
    → IsFine bytes (record { answer = answer; note = added }) → Err why ≡ answer
    → (added ≡ None) × (offer_stop (Err why) ≡ None)
unfolding IsFine
fine-err bytes answer added why fine is = grind (arith, common_steps) steps 20000

module _ (dig : List ℕ → List ℕ) (records : List (List ℕ)) (log : List RootCall) (bytes : List ℕ) where
  -- a coin that is answered is the one that the bytes name, and their note is added
  pub offered_note : (coin : ℕ) → Ok coin ≡ (offer_effect dig records log bytes).answer
      → (offer_effect dig records log bytes).note ≡ Some (note_text (Offered bytes))
  offered_note coin is =
      (fine-ok bytes (offer_effect dig records log bytes).answer (offer_effect dig records log bytes).note coin
      (offer-fine dig records log bytes) is).0

  offered-short : (coin : ℕ) → Ok coin ≡ (offer_effect dig records log bytes).answer → length bytes ≤ 2632
  unfolding offer_effect
  offered-short coin is = grind (arith, common_steps, offerable, leaf-short) steps 20000

  pub offered_adds : (coin : ℕ) → are_of operator_kinds records ≡ true
      → Ok coin ≡ (offer_effect dig records log bytes).answer
      → AddsRecord records (note_text (Offered bytes)) (Some (coin, bytes))
  offered_adds coin are is =
      let fine = fine-ok bytes (offer_effect dig records log bytes).answer
      (offer_effect dig records log bytes).note coin
      (offer-fine dig records log bytes) is in
      rw fine.1 (adds_offered dig records log bytes are (offered-short coin is) fine.0)

  -- a refusal that is answered adds nothing, and is no stop
  pub refused_note : (why : OfferRefusal) → Err why ≡ (offer_effect dig records log bytes).answer
      → ((offer_effect dig records log bytes).note ≡ None) × (offer_stop (Err why) ≡ None)
  refused_note why is =
      fine-err bytes (offer_effect dig records log bytes).answer (offer_effect dig records log bytes).note why
      (offer-fine dig records log bytes) is

-- what an offer did that was refused before its record was added
pub did_refused : {D : Type 0} (told : D → Option History) (plan : D → Option FaultPlan) (faults : D → ℕ)
    (added : Option (List ℕ)) (old : NotesState D) (why : OfferRefusal) → old.closed ≡ false
    → ((why ≡ NoMemoryOffer → ⊥) → (added ≡ None) × (offer_stop (Err why) ≡ None))
    → Did told plan faults added old (offer_stop (Err why)) old
did_refused told plan faults added old why is_open ruled = grind (arith, common_steps) steps 20000
