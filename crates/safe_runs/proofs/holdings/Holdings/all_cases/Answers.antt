use Rattle.std.proofs.Common.{List, ℕ, ap, ◌∙◌}
use Rattle.std.specs.List.{flat_map}
use Rattle.std.specs.Option.{option_to_list}
use Rattle.std.proofs.lemmas.Result.{IfOk-weaker}
use Rattle.safe_runs.specs.Cases.{wallet_case}
use Rattle.safe_runs.proofs.HeldCases.{coins-are}
use Rattle.safe_runs.proofs.holdings.Holdings.all_cases.Goals as goal

pub returns : goal.returns
returns g c =
    let dig = g.H.Hash32.digest_of c.args.self.now.node.hash in
    let records = c.args.self.now.node.records in
    let log = c.args.log.now.log in
    IfOk-weaker c.cases_of.result _ _
    (λ cases is. is
    ∙ ap (λ (coins : List ℕ). flat_map (λ (coin : ℕ). option_to_list (wallet_case dig records log c.args.hidden.now coin)) coins)
    (c.in_ok-coins.ensures ∙ coins-are dig records log c.args.self.now.accepted.items c.requires.accepted_are))
    c.cases_of.ensures
