use Rattle.std.proofs.Common.{◌∙◌, length, sym, ap}
use Rattle.plasma_tx.specs.Chain.{Chain}
use Rattle.world_rules.specs.declared.verdict.Counts.{Counts}
use Rattle.world_core.specs.Worlds.{RunningState}
use Rattle.world_core.specs.Counting.{verdict_counts, with_log}
use Rattle.world_core.proofs.Countings.{counts_none, counts_some}
use Rattle.world_core.proofs.running.RunningWorld.counts.Goals as goal

pub returns-in-None : goal.returns-in-None
returns-in-None g c lines run after ran found =
    let dig = g.H.Hash32.digest_of c.args.self.now.hash in
    let verdicts = c.args.verdicts.now in
    c.verdict_counts-counts.ensures
    ∙ ap (λ n. verdict_counts n c.self.inside.refused verdicts) c.len.ensures
    ∙ ap (λ (s : RunningState _). verdict_counts (length s.trace.facts) s.refused verdicts) c.self.view_is
    ∙ counts_none dig lines c.args.self.now after run ran verdicts
    (ap (λ (s : RunningState _). s.scene) (sym c.self.view_is) ∙ c.in-None.is) found

pub returns-in-Some : goal.returns-in-Some
returns-in-Some g c lines run after ran found =
    let dig = g.H.Hash32.digest_of c.args.self.now.hash in
    let verdicts = c.args.verdicts.now in
    let counted = c.verdict_counts-counts.ensures
    ∙ ap (λ n. verdict_counts n c.self.inside.refused verdicts) c.len.ensures
    ∙ ap (λ (s : RunningState _). verdict_counts (length s.trace.facts) s.refused verdicts) c.self.view_is in
    c.with_log.ensures
    ∙ ap (λ (l : Chain). with_log l.log c.verdict_counts-counts.result) c.log.ensures
    ∙ ap (λ (counts : Counts). with_log c.in-Some.scene.chain.log counts) counted
    ∙ counts_some dig lines c.args.self.now after run ran c.in-Some.scene verdicts
    (ap (λ (s : RunningState _). s.scene) (sym c.self.view_is) ∙ c.in-Some.is) found
