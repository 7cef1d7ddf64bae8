use Rattle.coin_safety.proofs.Words.{◌++◌, map, ap, ◌∙◌, exits_of, least, standing, shown_again, end_of_call}
use Rattle.coin_safety.proofs.look.Look.advice.Goals as goal

pub act_by-requires-clause-end : goal.act_by-requires-clause-end
act_by-requires-clause-end c =
    let look = c.args.self.now in
    c.in_ok-end.ensures.end
    ∙ ap (λ n. least (map (end_of_call (exits_of look.log.now.log n)) c.push_shown_again.new.calls.items))
    c.coin.ensures
    ∙ ap (λ l. least (map (end_of_call (standing look.log.now.log look.kept.now)) l))
    (c.in_ok-push_shown_again.ensures
    ∙ ap (λ l. l ++ shown_again look.log.now.log look.account look.kept.now) c.in_ok-calls.ensures)
