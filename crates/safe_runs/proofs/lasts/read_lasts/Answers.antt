use Rattle.std.proofs.Common.{◌≡◌, List, ℕ, Option, Bool, ◌++◌, ◌||◌, take, refl, sym, ap, ◌∙◌}
use Rattle.leaf_journal.specs.Records.{is_marker}
use Rattle.safe_runs.specs.Inside.{lasts_in, lasts_of}
use Rattle.safe_runs.proofs.LastBlocks.{lasts-more, marked-more}
use Rattle.safe_runs.proofs.lasts.read_lasts.Goals as goal

pub loop-entry-preserved : goal.loop-entry-preserved
loop-entry-preserved c = record {
  lasts =
      c.in_ok-is_behind.ensures.lasts
      ∙ ap (λ (lasts : List (Option ℕ)). lasts ++ lasts_of c.loop-entry.is_behind c.as_slice.result.now)
      c.loop-entry.invariant.lasts
      ∙ ap (λ (behind : Bool). lasts_in (take c.loop-entry.entry-index c.args.records.now)
      ++ lasts_of behind c.as_slice.result.now) c.loop-entry.invariant.behind
      ∙ lasts-more c.args.records.now c.loop-entry.entry-index c.entry-item.result c.as_slice.result.now
      c.loop-entry-test.true c.entry-item.is c.as_slice.ensures;
  behind =
      c.in_ok-is_behind.ensures.behind
      ∙ ap (λ (behind : Bool). behind || is_marker c.as_slice.result.now) c.loop-entry.invariant.behind
      ∙ marked-more c.args.records.now c.loop-entry.entry-index c.entry-item.result c.as_slice.result.now
      c.loop-entry-test.true c.entry-item.is c.as_slice.ensures;
}
