use Rattle.node_rules.proofs.Words.{List, ◌++◌, sym, ◌∙◌, ap, append-nil, RootCall}
use Rattle.node_rules.proofs.Still.{none_left, due_still}
use Rattle.node_rules.proofs.due.push_due_for.Goals as goal

pub returns-then-is_empty : goal.returns-then-is_empty
returns-then-is_empty c =
    sym (append-nil c.args.calls.now.items)
    ∙ ap (λ (due : List RootCall). c.args.calls.now.items ++ due)
    (sym (due_still c.args.log.now.log c.args.account c.args.kept.now
    (sym c.exits.ensures ∙ none_left c.exits.result.now c.if-is_empty.ensures)))
