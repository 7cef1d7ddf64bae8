use Rattle.leaf_journal.proofs.Words.{ℕ, List, [], ◌∷◌, ◌++◌, sym, ◌∙◌, ap, messages_of}
use Rattle.leaf_journal.proofs.Binding.{marker-messages}
use Rattle.leaf_journal.proofs.leaves.Leaves.migrate.Goals as goal

pub returns-in-Ok-clause-messages : goal.returns-in-Ok-clause-messages
returns-in-Ok-clause-messages g c =
    let records = c.args.self.now.notes.records in
    ap messages_of c.in-Ok.ensures.added.records
    ∙ ap (λ (l : List ℕ). messages_of (records ++ l ∷ [])) c.of.ensures
    ∙ marker-messages records (sym c.marked.ensures ∙ c.if-marked.false)
