use Rattle.std.proofs.Common.{◌≡◌, true}
use Rattle.std.specs.Prelude.{Result, Ok, Err, OnErr}
use Rattle.std.specs.Ordering.{nat_cmp}
use Rattle.std.specs.BTreeSet.{contains}
use Rattle.std.specs.Map.Iter.{deref}
use Rattle.std.specs.Cmp.{nat_cmp_total}
use Rattle.std.proofs.lemmas.Map.Views.{All-set_contains, All-turn}
use Rattle.wallet_node.proofs.Watched.{watched-may}
use Rattle.wallet_node.proofs.node.WalletNode.due_for.Goals as goal

-- what holds anyway holds of an error
on-error : {T E : Type 0} (result : Result T E) (P : Type 0) → P → OnErr result P
on-error (Ok x) P is = tt
on-error (Err why) P is = is

pub returns-in_err-push_for-clause-memory : goal.returns-in_err-push_for-clause-memory
returns-in_err-push_for-clause-memory g c =
    on-error c.from_residual.result _ (
      c.in-Some.coin.now,
      All-turn deref (λ k. contains nat_cmp c.args.coins.now k ≡ true) _ _ _ _ _ _ _
          (All-set_contains nat_cmp_total c.args.coins.now) c.into_iter-coin-iterator.ensures.into_iter_gives.0
          c.loop-coin.yielded_by c.in-Some.is c.next.ensures.steps,
      watched-may (g.H.Hash32.digest_of c.args.self.now.hash) c.args.self.now.records c.args.log.now.log
          c.in-Some.coin.now c.in_err-push_for.ensures.memory,
    )
