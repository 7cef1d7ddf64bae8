use Rattle.std.proofs.Common.{rules, ◌≡◌, ℕ, List, ◌∷◌, ◌∙◌, ap}
use Rattle.std.specs.Option.{option_map}
use Rattle.node_rules.specs.Watcher.{identity_in}
use Rattle.watcher_node.proofs.Kept.{kept-from}
use Rattle.safe_runs.proofs.guards.read_records.Goals as goal

pub returns : goal.returns
returns g c =
    let first = c.in-Some.first.now in
    let records : c.args.records.now ≡ first ∷ c.in-Some.notes.now = search (rules, c.in-Some.ensures) in
    kept-from (g.H.Hash32.digest_of c.args.h.now) c.args.records.now first c.in-Some.notes.now
    c.in-Some-identity_in.who c.in_ok-all.all.entries records
    (c.in-Some-identity_in.ensures
    ∙ ap (λ (b : List ℕ). option_map (λ who. (who.tag, who.account)) (identity_in b)) c.as_slice.ensures)
    c.in_ok-all.ensures
