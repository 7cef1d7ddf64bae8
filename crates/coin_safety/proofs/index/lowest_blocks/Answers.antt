use Rattle.coin_safety.proofs.Words.{rules, ◌∙◌, nat_cmp, get}
use Rattle.coin_safety.proofs.Indexes.{lowest-more, lowest-none}
use Rattle.coin_safety.proofs.index.lowest_blocks.Goals as goal

pub loop-exit-init : goal.loop-exit-init
loop-exit-init c parent =
    lowest-none (get nat_cmp c.new-blocks.result parent) parent (search (rules, c.new-blocks.ensures.empty))

pub loop-exit-preserved : goal.loop-exit-preserved
loop-exit-preserved c parent =
    c.in_ok-lower.ensures parent
    ∙ lowest-more c.args.exits.now c.loop-exit.exit-index c.exit-item.result c.loop-exit-test.true
    (get nat_cmp c.loop-exit.blocks) c.exit-item.is c.loop-exit.invariant parent
