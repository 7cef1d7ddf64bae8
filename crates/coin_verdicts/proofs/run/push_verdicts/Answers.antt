use Rattle.std.proofs.Common.{◌++◌, ◌+◌, List, sym, ap, ◌∙◌}
use Rattle.std.specs.Option.{option_to_list}
use Rattle.std.proofs.lemmas.List.{append_assoc}
use Rattle.world_rules.specs.declared.verdict.Verdict.{Verdict}
use Rattle.coin_verdicts.specs.Books.{book_at}
use Rattle.coin_verdicts.specs.Wallets.{verdict_of_book, verdicts_of_books}
use Rattle.coin_verdicts.proofs.FactLoops.{verdicts-more}
use Rattle.coin_verdicts.proofs.run.push_verdicts.Goals as goal

pub loop-i-preserved : goal.loop-i-preserved
loop-i-preserved c =
    c.in_ok-push_verdict.ensures
    ∙ ap (λ (vs : List Verdict). vs ++ option_to_list (verdict_of_book c.args.holder.now c.args.name.now
    (c.loop-i.i + 1) (book_at c.args.books.now (c.loop-i.i + 1)))) c.loop-i.invariant
    ∙ append_assoc c.args.found.now.items
    (verdicts_of_books c.args.books.now c.args.holder.now c.args.name.now c.loop-i.i)
    (option_to_list (verdict_of_book c.args.holder.now c.args.name.now (c.loop-i.i + 1)
    (book_at c.args.books.now (c.loop-i.i + 1))))
    ∙ ap (λ (vs : List Verdict). c.args.found.now.items ++ vs)
    (sym (verdicts-more c.args.books.now c.args.holder.now c.args.name.now c.loop-i.i))
