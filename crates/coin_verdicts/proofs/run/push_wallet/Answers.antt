use Rattle.std.proofs.Common.{◌≡◌, ◌++◌, List, reverse, subst}
use Rattle.std.specs.Prelude.{OnOk}
use Rattle.world_rules.specs.declared.verdict.Verdict.{Verdict}
use Rattle.coin_verdicts.specs.Wallets.{named_of}
use Rattle.coin_verdicts.proofs.FactLoops.{some-found}
use Rattle.coin_verdicts.proofs.run.push_wallet.Goals as goal

pub returns-in-Some : goal.returns-in-Some
returns-in-Some c =
    subst (λ (vs : List Verdict).
    OnOk c.push_verdicts.result (c.push_verdicts.new.found.items ≡ c.args.found.now.items ++ vs))
    (some-found c.args.books.now (reverse c.args.facts.now) (named_of c.args.wallet.now) c.in-Some.holder c.args.count
    c.requires.books c.requires.count c.in-Some.ensures)
    c.push_verdicts.ensures
