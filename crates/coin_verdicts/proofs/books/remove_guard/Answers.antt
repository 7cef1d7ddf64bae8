use Rattle.std.proofs.Common.{rules, not}
use Rattle.std.proofs.lemmas.Fn.{filter_same}
use Rattle.coin_verdicts.specs.Notes.{is_guard}
use Rattle.coin_verdicts.proofs.books.remove_guard.Goals as goal

pub returns : goal.returns
returns c = filter_same _ (λ guard. not (is_guard c.args.watcher c.args.tip guard)) _
    (λ _ _ _ step. (search (rules, step), search (rules, step))) _ _ c.retain.ensures.filtered
