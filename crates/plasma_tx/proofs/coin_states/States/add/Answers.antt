use Rattle.plasma_tx.proofs.Words.{◌≡◌, ◌+◌, ◌++◌, ◌∷◌, [], List, length, sym, ap, ◌∙◌, arith, Option, unwrap_or, Standing, no_standing, other_in}
use Rattle.plasma_tx.proofs.States.{standing-added}
use Rattle.plasma_tx.proofs.coin_states.States.add.Goals as goal
use Rattle.plasma_tx.proofs.coin_states.States.add.Goals.{in-Some, in-None}

pub returns : goal.returns
returns c =
    let made : List Standing = c.args.self.now.made.items in
    let counted : c.len.result ≡ length made =
    omega (arith, c.len.ensures, c.reserve.new.self.ok.0, ap length c.in_ok-reserve.ensures.items) in
    record {
      same = standing-added made c.push_reserved.new.items.items c.args.self.now.others c.remove.new.self
          c.match-remove.state (c.len.result + 1)
          (c.push_reserved.ensures
          ∙ ap (λ (l : List Standing). l ++ c.match-remove.state ∷ []) c.in_ok-reserve.ensures.items)
          (ap (λ n. n + 1) counted) was c.remove.ensures.updates.2;
    }
  where
    was : c.match-remove.state ≡ other_in c.args.self.now.others (c.len.result + 1)
    was = elim c.match-remove.branch [
      | in-Some w ↦ w.state-is
          ∙ ap (λ (s : Option Standing). unwrap_or s no_standing) (sym w.in-Some.is ∙ c.remove.ensures.value)
      | in-None w ↦ w.state-is ∙ w.new-state.ensures
          ∙ ap (λ (s : Option Standing). unwrap_or s no_standing) (sym w.in-None.is ∙ c.remove.ensures.value)
    ]
