-- A body's bytes as a message of a leaf.
use Rattle.node_rules.proofs.Words.{◌≡◌, ℕ, ◌==◌, true, List, [], ◌++◌, length, Option, Some, None, is_ok, refl, sym, ap, ◌∙◌, append-nil, arith, slice_range, and_from, eq-eqb, length-append, common_steps, Owner, Body, SignedTx, is_body}
use Rattle.plasma_tx.specs.Spelling.{IsBody, number_text, owner_text, common_text, body_text, signed_text, body_in, body_length, body_at_start}
use Rattle.plasma_tx.proofs.Spellings.{Fits, body_in-fits, signed_in-text, signed_in-ok, common-long}

-- the body that its bytes begin with
pub body-read : (body : Body) → IsBody body → body_at_start (body_text body) ≡ body
unfolding signed_text
body-read body h =
    let tx : SignedTx = record { body = body; signature = [] } in
    let known = signed_in-ok body.tag (body_text body ++ []) tx (signed_in-text tx h) in
    ap body_at_start (sym (append-nil (body_text body))) ∙ sym (ap (λ (t : SignedTx). t.body) known.1)

-- how long they are
abbrev text_length : Option ℕ → ℕ
text_length None = 116
text_length (Some last) = 124

module _ (tag : List ℕ) (coin parent : ℕ) (to : Owner) (tag_long : length tag ≡ 32) (key_long : length to.key ≡ 56)
  where
    abbrev body : Option ℕ → Body
    body last = record { tag = tag; coin = coin; parent = parent; to = to; last = last }

    owner-long : length (owner_text to) ≡ 64
    unfolding owner_text
    owner-long = omega (arith, length-append (number_text to.account) to.key)

    front-long : (last : Option ℕ) → length (common_text (body last)) ≡ 116
    front-long last = grind (arith, common_steps, common-long, owner-long) steps 20000

    pub text-long : (last : Option ℕ) → length (body_text (body last)) ≡ text_length last
    unfolding body_text
    text-long None = ap length (append-nil (common_text (body None))) ∙ front-long None
    text-long (Some last) =
        omega (arith, length-append (common_text (body (Some last))) (number_text last), front-long (Some last))

    length-is : (last : Option ℕ) → body_length (body_text (body last)) ≡ text_length last
    unfolding body_text
    length-is None = refl
    length-is (Some last) = refl

    fits : (last : Option ℕ) → Fits (slice_range (body_text (body last)) 4 36) (body_text (body last))
    unfolding body_text
    fits None = record { long = omega (arith, text-long None); marked = refl; tagged = refl }
    fits (Some last) = record { long = omega (arith, text-long (Some last)); marked = refl; tagged = refl }

    -- a body's bytes are a message that a leaf may bind
    pub text-is_body : (last : Option ℕ) → is_body (body_text (body last)) ≡ true
    text-is_body last =
        let message = body_text (body last) in
        and_from (is_ok (body_in (slice_range message 4 36) message)) (length message == body_length message)
        (ap (λ r. is_ok r) (body_in-fits (slice_range message 4 36) message (fits last)))
        (eq-eqb (length message) (body_length message) (text-long last ∙ sym (length-is last)))
