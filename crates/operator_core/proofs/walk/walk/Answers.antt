use Rattle.operator_core.proofs.Words.{sym, ap, ◌∙◌, arith, blocks, tree_of, place_of_tip}
use Rattle.operator_core.proofs.Ways.{place-rooted, place-idle, place-last, walk_knows, on_err}
use Rattle.operator_core.proofs.walk.walk.Goals as goal
use Rattle.operator_core.proofs.walk.walk.Goals.{in-Some+in_ok-tip, in_default}

pub way-init : goal.way-init
way-init g c = record {
  place = c.requires.placed;
  within = c.requires.high;
  low = c.requires.low;
  found = c.find.ensures.found;
}

pub way-preserved : goal.way-preserved
way-preserved g c =
    let dig = g.H.Hash32.digest_of c.args.trees.now.hash in
    record {
      place = elim c.match-root_at.branch [
        | in-Some+in_ok-tip w ↦ rw w.tip-is (w.in_ok-tip.ensures.value
            ∙ place-rooted dig c.args.tag.now c.args.log.now.log c.args.trees.now.sealed c.args.coin c.args.made.now
            c.way.before w.in-Some.root _ (place_of_tip c.way.tip) (omega arith) (sym w.in-Some.ensures)
            w.look_again-found.ensures.tree c.way.invariant.place)
        | in_default w ↦ rw w.tip-is (c.way.invariant.place
            ∙ place-idle dig c.args.tag.now c.args.log.now.log c.args.trees.now.sealed c.args.coin c.args.made.now
            c.way.before (omega arith) (sym c.root_at.ensures ∙ w.in_default.is))
      ];
      within = λ lt. rw (← c.blocks-before-end.ensures.is) (omega arith);
      low = omega arith;
      found = elim c.match-root_at.branch [
        | in-Some+in_ok-tip w ↦ rw w.found-is (w.look_again-found.ensures.tree
            ∙ ap (tree_of dig c.args.trees.now.sealed) (sym w.look_again-found.ensures.root))
        | in_default w ↦ rw w.found-is c.way.invariant.found
      ];
    }

pub returns-clause-value : goal.returns-clause-value
returns-clause-value g c =
    c.way.invariant.place
    ∙ place-last (g.H.Hash32.digest_of c.args.trees.now.hash) c.args.tag.now c.args.log.now.log
    c.args.trees.now.sealed c.args.coin c.args.made.now c.way.before (omega arith)
    (rw c.blocks-before-end.ensures.is at c.way-test.false) c.way.invariant.within

pub returns-in_err-tip-clause-memory : goal.returns-in_err-tip-clause-memory
returns-in_err-tip-clause-memory g c =
    on_err c.from_residual.result (walk_knows (g.H.Hash32.digest_of c.args.trees.now.hash) c.args.log.now.log
    c.args.trees.now.sealed c.args.made.now.deposit c.way.before (blocks c.args.log.now.log) c.in-Some.root _
    (omega arith) (rw (← c.blocks-before-end.ensures.is) (omega arith)) (sym c.in-Some.ensures)
    c.look_again-found.ensures.tree c.in_err-tip.ensures.memory)
