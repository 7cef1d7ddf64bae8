-- The counts of a world are those of its run.
use Rattle.world_core.proofs.Words.{◌≡◌, ℕ, List, length, Some, None, refl, sym, ap, ◌∙◌, count_by, tests_by, rules_of, Line, Verdict, log_of, TraceEntry, Run, run_of, events_of, is_refused, verdicts_of, counts_of, TraceState, SceneState, RunningState, IsAfter, verdict_counts, with_log}
use Rattle.plasma_tx.specs.Views.{blocks, coins}
use Rattle.world_core.proofs.RunFacts.{facts_count}
use Rattle.world_core.proofs.Readings.{same-run, no_entries, tells, log_is}

module _ {H : Type 0} (dig : List ℕ → List ℕ) (lines : List Line) (state : RunningState H)
    (after : IsAfter dig lines state) (run : Run) (ran : run_of dig lines ≡ Some run) where
  refused-is : state.refused ≡ count_by is_refused run.entries
  refused-is = after.refused ∙ ap (λ (r : Run). count_by is_refused r.entries) (same-run dig lines state after run ran)

  -- the counts of the verdicts, with those of the log
  counted : (lines_ accepted blocks_ coins_ : ℕ) (verdicts : List Verdict) → lines_ ≡ length run.entries
      → accepted ≡ length (log_of (events_of run.entries)) → blocks_ ≡ blocks (log_of (events_of run.entries))
      → coins_ ≡ coins (log_of (events_of run.entries)) → verdicts ≡ verdicts_of dig run
      → record (verdict_counts lines_ state.refused verdicts) {
        accepted = accepted;
        blocks = blocks_;
        coins = coins_;
      } ≡ counts_of dig run
  unfolding counts_of
  counted lines_ accepted blocks_ coins_ verdicts long log_long log_blocks log_coins found =
      rw (long, log_long, log_blocks, log_coins, found, refused-is) refl

  -- before the first line nothing is there
  pub counts_none : (verdicts : List Verdict) → state.scene ≡ None → verdicts ≡ verdicts_of dig run
      → verdict_counts (length state.trace.facts) state.refused verdicts ≡ counts_of dig run
  unfolding log_of events_of blocks coins
  counts_none verdicts none found =
      let empty = no_entries dig lines state after run ran none in
      counted (length state.trace.facts) 0 0 0 verdicts
      (ap (λ (t : TraceState). length t.facts) empty.1 ∙ ap (λ (es : List TraceEntry). length es) (sym empty.0))
      (ap (λ (es : List TraceEntry). length (log_of (events_of es))) (sym empty.0))
      (ap (λ (es : List TraceEntry). blocks (log_of (events_of es))) (sym empty.0))
      (ap (λ (es : List TraceEntry). coins (log_of (events_of es))) (sym empty.0)) found

  -- once the chain has begun
  pub counts_some : (scene : SceneState H) (verdicts : List Verdict) → state.scene ≡ Some scene
      → verdicts ≡ verdicts_of dig run
      → with_log scene.chain.log (verdict_counts (length state.trace.facts) state.refused verdicts)
      ≡ counts_of dig run
  counts_some scene verdicts some found =
      let log = log_is dig lines state after run ran scene some in
      counted (length state.trace.facts) (length scene.chain.log) (blocks scene.chain.log) (coins scene.chain.log)
      verdicts
      (facts_count dig (tests_by dig) (rules_of scene.chain) run.entries state.trace
      (tells dig lines state after run ran scene some))
      (ap length log) (ap blocks log) (ap coins log) found
