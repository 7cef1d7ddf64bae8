use Rattle.coin_safety.proofs.Words.{◌++◌, ◌&&◌, List, sym, ap, ◌∙◌, append-nil, nat_lt, list_any, RootCall, ExitView, is_answered, tip}
use Rattle.coin_safety.proofs.Again.{none-again}
use Rattle.coin_safety.proofs.look.Look.push_shown_again.Goals as goal

pub returns-then-not-any_answered : goal.returns-then-not-any_answered
returns-then-not-any_answered c =
    let look = c.args.self.now in
    let calls : List RootCall = c.args.calls.now.items in
    let none = none-again look.log.now.log look.account look.kept.now
    (ap (λ l. list_any (λ (exit : ExitView). nat_lt (tip look.kept.now) exit.parent
    && is_answered (tip look.kept.now) exit.challenges) l) (sym c.exits-exits.ensures)
    ∙ ap (λ n. list_any (λ (exit : ExitView). nat_lt n exit.parent && is_answered n exit.challenges)
    c.exits-exits.result.now) (sym c.tip-tip.ensures)
    ∙ sym c.any_answered.ensures ∙ c.if-not-any_answered.true) in
    sym (ap (λ l. calls ++ l) none ∙ append-nil calls)
