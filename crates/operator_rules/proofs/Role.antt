-- The record that a command adds is one of the operator's kinds.
use Rattle.operator_rules.proofs.Words.{◌≡◌, ℕ, true, List, [], ◌∷◌, ◌++◌, Option, Some, None, Ok, Err, refl, sym, ap, ◌∙◌, arith, Result, reverse-append, filter_map-append, false≢true, common_steps, Effect, unless, SignedTx, TxRefusal, RootCall, CoinView, number_text, number_at, signed_in, coin_at, some_same, OfferRefusal, Note, Offered, Laid, Sealed, note_text, is_read, note_in, tag_in, operator_kinds, who_is, notes_of, Forest, forest_in, offer_at, offer_of, offer_effect, lay_effect, seal_effect, CommandsKeepTheRole, CommandsAddTheirNotes}
use Rattle.node_journal.specs.Role.{may_follow}
use Rattle.operator_rules.proofs.RecordTexts.{offered-read, laid-some, laid-read, sealed-read}

-- records begin with the identity that has their tag
tag-same : (identity : List ℕ) (notes : List (List ℕ)) → (who_is (identity ∷ notes)).tag ≡ tag_in identity
unfolding who_is
tag-same identity notes = grind (arith, common_steps) steps 20000

-- ---- what is added

noted : (failed : Option OfferRefusal) (effect : Effect (Result ℕ OfferRefusal)) (body : List ℕ)
    → (unless failed effect).note ≡ Some body → effect.note ≡ Some body
noted None effect body is = is
noted (Some why) effect body is = absurd (cc is)

module _ (dig : List ℕ → List ℕ) (tag : List ℕ) (log : List RootCall) (forest : Forest) (bytes body : List ℕ) where
  offered-at : (tx : SignedTx) (made : Option CoinView) → (offer_at dig tag log forest bytes tx made).note ≡ Some body
      → note_text (Offered bytes) ≡ body
  offered-at tx made is = grind (arith, common_steps, some_same, noted) steps 20000

  offered : (r : Result SignedTx TxRefusal) → (offer_of dig tag log forest bytes r).note ≡ Some body
      → (is_read r ≡ true) × (note_text (Offered bytes) ≡ body)
  offered (Err why) is = absurd (cc is)
  offered (Ok tx) is = (refl, offered-at tx (coin_at log tx.body.coin) is)

laid : (coin : ℕ) (bytes body : List ℕ) → (lay_effect coin bytes).note ≡ Some body
    → note_text (Laid coin bytes) ≡ body
unfolding lay_effect
laid coin bytes body is = grind (arith, common_steps, some_same) steps 20000

-- ---- behind an identity

module _ (identity : List ℕ) (notes : List (List ℕ)) where
  abbrev tag : List ℕ
  tag = (who_is (identity ∷ notes)).tag

  may : (body : List ℕ) (note : Note) → note_in tag body ≡ Some note
      → may_follow operator_kinds (identity ∷ notes) body ≡ true
  may body note is = grind (arith, common_steps, tag-same) steps 20000

  who-same : (body : List ℕ) → who_is ((identity ∷ notes) ++ body ∷ []) ≡ who_is (identity ∷ notes)
  unfolding who_is
  who-same body = refl

  added : (body : List ℕ) (note : Note) → note_in tag body ≡ Some note
      → notes_of ((identity ∷ notes) ++ body ∷ []) ≡ note ∷ notes_of (identity ∷ notes)
  unfolding notes_of
  added body note is = grind (arith, common_steps, who-same, filter_map-append, reverse-append) steps 20000

  by-offer : (dig : List ℕ → List ℕ) (log : List RootCall) (bytes body : List ℕ)
      → (offer_effect dig (identity ∷ notes) log bytes).note ≡ Some body
      → note_in tag body ≡ Some (Offered bytes)
  unfolding offer_effect
  by-offer dig log bytes body is =
      let both = offered dig tag log (forest_in (identity ∷ notes)) bytes body (signed_in tag bytes) is in
      ap (note_in tag) (sym both.1) ∙ offered-read tag bytes both.0

  by-seal : (dig : List ℕ → List ℕ) (body : List ℕ) → (seal_effect dig (identity ∷ notes)).note ≡ Some body
      → note_in tag body ≡ Some Sealed
  unfolding seal_effect
  by-seal dig body is = ap (note_in tag) (sym (some_same (note_text Sealed) body is)) ∙ sealed-read tag

pub commands_keep_the_role : CommandsKeepTheRole
commands_keep_the_role dig [] log coin bytes body are = absurd (false≢true are)
commands_keep_the_role dig (identity ∷ notes) log coin bytes body are = (
  λ is. may identity notes body (Offered bytes) (by-offer identity notes dig log bytes body is),
  λ is. may identity notes body (Laid (number_at (number_text coin ++ bytes) 0) bytes)
      (ap (note_in (tag identity notes)) (sym (laid coin bytes body is)) ∙ laid-some (tag identity notes) coin bytes),
  λ is. may identity notes body Sealed (by-seal identity notes dig body is),
)

pub commands_add_their_notes : CommandsAddTheirNotes
commands_add_their_notes dig [] log coin bytes body are small = absurd (false≢true are)
commands_add_their_notes dig (identity ∷ notes) log coin bytes body are small = (
  who-same identity notes body,
  λ is. added identity notes body (Offered bytes) (by-offer identity notes dig log bytes body is),
  λ is. added identity notes body (Laid coin bytes)
      (ap (note_in (tag identity notes)) (sym (laid coin bytes body is))
      ∙ laid-read (tag identity notes) coin bytes small),
  λ is. added identity notes body Sealed (by-seal identity notes dig body is),
)
