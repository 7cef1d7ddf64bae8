use Rattle.std.proofs.Common.{◌≡◌, List, map, reverse, subst}
use Rattle.std.specs.Prelude.{IfOk}
use Rattle.world_rules.specs.declared.verdict.Verdict.{Verdict}
use Rattle.coin_verdicts.specs.Wallets.{named_of}
use Rattle.coin_verdicts.proofs.Whole.{all-same}
use Rattle.coin_verdicts.proofs.run.verdicts.Goals as goal

pub returns : goal.returns
returns c tests rules events are legal stay =
    subst (λ (all : List Verdict). IfOk c.verdicts_by_facts.result (λ found. found.items ≡ all))
    (all-same tests rules events (reverse c.args.facts.now) are legal stay (map named_of c.args.wallets.now))
    c.verdicts_by_facts.ensures
