use Rattle.std.proofs.Common.{ℕ, List, [], ◌∷◌, ◌++◌, take, drop, length, sym, ap, ◌∙◌, subst}
use Rattle.lms_sign.specs.Tree.{signature_of}
use Rattle.lms_sign.specs.Valid.{IsValid}
use Rattle.leaf_journal.specs.Records.{messages_of}
use Rattle.receipt_audit.proofs.Issues.{parts-in, parts-valid, promise-length}
use Rattle.receipt_audit.proofs.desk.Desk.sign_promise.Goals as goal

pub returns-in-Ok-clause-valid : goal.returns-in-Ok-clause-valid
returns-in-Ok-clause-valid g c =
    let long = ap length c.in-Ok.ensures.message ∙ promise-length c.write-text.result c.write-text.ensures.is_promise in
    subst (λ (k : List ℕ). IsValid k (take 100 c.signed.result.bytes) (drop 100 c.signed.result.bytes))
    (c.in-Ok.ensures.bound ∙ sym c.requires.key)
    (parts-valid c.in-Ok.bound.key c.in-Ok.bound.message
    (signature_of c.args.key.now c.in-Ok.bound.leaf c.in-Ok.bound.message) c.signed.result.bytes long
    c.signed.ensures.value c.signed.ensures.valid)

pub returns-in-Ok-clause-bound : goal.returns-in-Ok-clause-bound
returns-in-Ok-clause-bound g c =
    let long = ap length c.in-Ok.ensures.message ∙ promise-length c.write-text.result c.write-text.ensures.is_promise in
    let parts = parts-in c.in-Ok.bound.message
    (signature_of c.args.key.now c.in-Ok.bound.leaf c.in-Ok.bound.message) c.signed.result.bytes long
    c.signed.ensures.value in
    c.in-Ok.ensures.messages
    ∙ ap (λ (m : List ℕ). messages_of c.args.self.now.notes.records ++ m ∷ []) (sym (parts.0 ∙ c.in-Ok.ensures.message))
