use Rattle.std.proofs.Common.{◌≡◌, ℕ, ◌==◌, Bool, true, cond, List, length, Some, Ok, is_ok, refl, sym, ◌∙◌, ap}
use Rattle.std.specs.List.{slice_range}
use Rattle.std.proofs.lemmas.Bool.{and_from, eq-eqb}
use Rattle.plasma_tx.specs.declared.body.Body.{Body}
use Rattle.plasma_tx.specs.Spelling.{body_in, body_length}
use Rattle.plasma_tx.proofs.Spellings.{body_in-ok}
use Rattle.node_rules.specs.WalletRecords.{is_body}
use Rattle.wallet_node.specs.Inside.{body_of}
use Rattle.wallet_node.proofs.role.body_of.Goals.{then-starts_with, else-starts_with}
use Rattle.wallet_node.proofs.role.body_of.Goals as goal

-- what is read of a message that is as long as its body
read : (tag message : List ℕ) (body : Body) → tag ≡ slice_range message 4 36 → Ok body ≡ body_in tag message
    → length message ≡ body_length message → Some body ≡ body_of message
read tag message body tag_is is long =
    let parts = body_in-ok tag message body (sym is) in
    let good : is_body message ≡ true =
    and_from (is_ok (body_in (slice_range message 4 36) message)) (length message == body_length message)
    (ap (λ (t : List ℕ). is_ok (body_in t message)) (sym tag_is) ∙ ap (λ r. is_ok r) (sym is))
    (eq-eqb (length message) (body_length message) long) in
    ap Some parts.1 ∙ rw good refl

pub returns-in-Ok : goal.returns-in-Ok
returns-in-Ok c =
    let message = c.args.message.now in
    let long : c.if-starts_with.length ≡ body_length message =
    elim c.if-starts_with.branch [
      | then-starts_with w ↦
          w.length-is ∙ ap (λ (b : Bool). cond b 124 116) w.if-starts_with.ensures.value
      | else-starts_with w ↦
          w.length-is ∙ ap (λ (b : Bool). cond b 124 116) w.if-starts_with.ensures.value
    ] in
    read c.copy_from_slice.new.self message c.in-Ok.body c.copy_from_slice.ensures.after
    (sym c.in-Ok.is ∙ c.read.ensures.value) (c.if-message-length.true ∙ long)
