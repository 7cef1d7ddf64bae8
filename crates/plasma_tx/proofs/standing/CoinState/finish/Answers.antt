use Rattle.plasma_tx.proofs.Words.{◌≡◌, ◌==◌, ◌||◌, Bool, sym, ap, ◌∙◌, find, standing_after, without_view, has_no_open_view, without_responses}
use Rattle.plasma_tx.proofs.States.{distinct-without}
use Rattle.plasma_tx.proofs.standing.CoinState.finish.Goals as goal
use Rattle.plasma_tx.proofs.standing.CoinState.finish.Goals.{then-has_no_open_challenge, else-has_no_open_challenge}

pub invariant_of-self : goal.invariant_of-self
invariant_of-self c = rw c.remove_exit.ensures.exits (distinct-without c.args.block _ c.self.invariant)

pub returns : goal.returns
unfolding standing_after
returns c =
    let read : c.has_no_open_challenge.result ≡ has_no_open_view
    (find (λ exit. exit.block == c.args.block) c.self.inside.exits.items) = cc in
    let withdrawn : c.if-has_no_open_challenge.self
    ≡ (has_no_open_view
    (find (λ exit. exit.block == c.args.block) c.self.inside.exits.items) || c.self.inside.withdrawn) =
    elim c.if-has_no_open_challenge.branch [
      | then-has_no_open_challenge w ↦ w.self-is ∙ w.if-has_no_open_challenge.true
          ∙ ap (λ (b : Bool). b || c.self.inside.withdrawn) (sym w.if-has_no_open_challenge.true ∙ read)
      | else-has_no_open_challenge w ↦ w.self-is ∙ ap (λ (b : Bool). b || c.self.inside.withdrawn)
          (sym w.if-has_no_open_challenge.false ∙ read)
    ]
    in
    rw (c.remove_exit.ensures.exits, c.remove_responses.ensures, ← c.self.view_is)
    (λ i. record {
      withdrawn = withdrawn i;
      exits = without_view c.args.block c.self.inside.exits.items;
      responses =
          without_responses c.args.coin c.args.block c.self.inside.responses.items;
    })
