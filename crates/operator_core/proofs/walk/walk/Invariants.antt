use Rattle.operator_core.proofs.Words.{◌≡◌, ◌<◌, ◌≤◌, option_map, blocks, tree_of, place_at, place_of_tip}
use Rattle.operator_core.proofs.walk.walk.Given as goal

abbrev pub invariant-way : goal.invariant-way
invariant-way g l = record {
  place : place_of_tip l.tip
      ≡ place_at (g.H.Hash32.digest_of l.trees.hash) l.tag l.log.log l.trees.sealed l.coin l.made l.before;
  low : l.made.deposit ≤ l.before;
  within : l.made.deposit < l.before → l.before ≤ blocks l.log.log;
  found : option_map (λ tree. tree.now.entries) l.found.tree
      ≡ tree_of (g.H.Hash32.digest_of l.trees.hash) l.trees.sealed l.found.root;
}
