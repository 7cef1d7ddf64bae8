use Rattle.plasma_tx.proofs.Words.{◌++◌, ◌∷◌, [], ℕ, List, length, refl, ap, ◌∙◌, Result, Ok, Err, OnErr, slice_cmp, list_any, nat_cmp, is_at, RootCall, BlockView, Root, item_at, Keeps}
use Rattle.plasma_tx.proofs.Keeps.{keeps-Commit}
use Rattle.plasma_tx.proofs.kept.Kept.commit.Goals as goal

-- what holds whatever the result is
on_err : {X Y P : Type 0} (result : Result X Y) → P → OnErr result P
on_err (Ok x) holds = tt
on_err (Err e) holds = holds

pub returns-in_err-insert-clause-err : goal.returns-in_err-insert-clause-err
returns-in_err-insert-clause-err c =
    let same : (log : List RootCall) → Keeps log c.args.self.now
    → Keeps log (record c.args.self.now { blocks = c.reserve.new.self; roots = c.insert.new.self }) =
    λ log k. record {
      clock = k.clock;
      block_count = ap (λ (l : List BlockView). length l) c.in_ok-reserve.ensures.items ∙ k.block_count;
      blocks_are = λ n. ap (λ (l : List BlockView). item_at l n) c.in_ok-reserve.ensures.items ∙ k.blocks_are n;
      coin_count = k.coin_count;
      coins_are = k.coins_are;
      states_are = k.states_are;
      exiting_are = k.exiting_are;
      exiting_rise = k.exiting_rise;
      roots_are = λ root. ap (λ (keys : List (List ℕ)). list_any (is_at (slice_cmp nat_cmp root)) keys)
          c.in_err-insert.ensures.err ∙ k.roots_are root;
      deposits_are = k.deposits_are;
    }
    in
    on_err _ same

pub returns-clause-ok : goal.returns-clause-ok
returns-clause-ok c =
    λ log k. keeps-Commit log c.args.account c.args.root c.args.self.now _ refl refl refl refl refl
    (c.push_reserved.ensures
    ∙ ap (λ (l : List BlockView). l ++ Root c.args.root ∷ []) c.in_ok-reserve.ensures.items)
    c.in_ok-insert.ensures.updates.0 k
