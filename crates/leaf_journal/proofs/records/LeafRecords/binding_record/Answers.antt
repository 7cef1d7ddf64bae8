use Rattle.leaf_journal.proofs.Words.{◌≡◌, ◌≢◌, ◌∙◌, ◌++◌, ◌∷◌, [], ℕ, List, drop, length, ap, sym, refl, arith, inl, inr, w32, to_be_bytes, drop_at, messages_of}
use Rattle.leaf_journal.proofs.Messages.{other_length}
use Rattle.leaf_journal.proofs.Form.{more-marked, more-unmarked}
use Rattle.leaf_journal.proofs.records.LeafRecords.binding_record.Goals as goal

pub returns-then-is_marked-clause-message : goal.returns-then-is_marked-clause-message
returns-then-is_marked-clause-message c =
    let records = c.args.self.now.records in
    let marked = sym c.is_marked.ensures ∙ c.if-is_marked.true in
    let message : drop 4 c.with_number.result ≡ c.args.message.now = ap (drop 4) c.with_number.ensures
    ∙ drop_at (to_be_bytes w32 c.used.result) c.args.message.now 4 refl in
    more-marked records c.with_number.result marked ∙ ap (λ (l : List ℕ). messages_of records ++ l ∷ []) message

pub returns-else-is_marked-clause-message : goal.returns-else-is_marked-clause-message
returns-else-is_marked-clause-message c =
    let records = c.args.self.now.records in
    let not_marked = sym c.is_marked.ensures ∙ c.if-is_marked.false in
    let whole : length c.of.result ≢ 4 = λ four. elim c.requires.form [
      | inl is ↦ omega (arith, is, four, ap length c.of.ensures)
      | inr is ↦ absurd (cc (is.0, not_marked))
    ] in
    more-unmarked records c.of.result not_marked (other_length c.of.result whole)
    ∙ ap (λ (l : List ℕ). messages_of records ++ l ∷ []) c.of.ensures
