use Rattle.std.proofs.Common.{◌≡◌, ◌<◌, ◌≤◌, ◌^◌, length, All, Ok}
use Rattle.operator_core.proofs.Words.{committed_blocks, openings_of}
use Rattle.operator_core.proofs.showing.openings_between.Given as goal

abbrev pub invariant-way : goal.invariant-way
invariant-way g l = record {
  made : openings_of (g.H.Hash32.digest_of l.trees.hash) l.log.log l.trees.sealed l.coin
      (committed_blocks l.log.log l.after l.before)
      ≡ Ok l.openings.items;
  count : length l.openings.items < 2 ^ 32;
  lengths : All (λ opening. length opening.bytes < 2 ^ 32) l.openings.items;
  within : l.after < l.before → l.before ≤ l.last;
}
