use Rattle.world_nodes.proofs.Words.{◌∙◌, arith, nat_tests, Reply}
use Rattle.world_nodes.proofs.cutting.open_cut.Goals as goal

pub returns : goal.returns
returns g c = (
  (let least = c.if-calls-lt3.false in grind (arith, nat_tests)),
  (
    c.in_ok-node.node,
    c.in_ok-node.ensures.opens,
    c.take_down.ensures,
    record {
      reply = c.says.ensures.reply
          ∙ (λ i. Reply.Opened (c.counts-notes.ensures.notes i) (c.counts-notes.ensures.leaves i));
      made = c.says.ensures.made;
      offers = c.says.ensures.offers;
    },
  ),
)
