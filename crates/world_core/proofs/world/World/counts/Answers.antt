use Rattle.std.proofs.Common.{◌≡◌, ◌∙◌, List, Some, ap, subst}
use Rattle.schedule_text.specs.declared.line.Line.{Line}
use Rattle.world_rules.specs.Steps.{Run, run_of}
use Rattle.world_rules.specs.Verdicts.{verdicts_of, counts_of}
use Rattle.world_core.specs.Worlds.{RunningState, WorldState, IsAfter}
use Rattle.world_core.proofs.world.World.counts.Goals as goal

pub returns : goal.returns
returns g c lines run after ran =
    let digest = g.H.Hash32.digest_of in
    subst (λ (s : RunningState _). IsAfter (digest s.hash) lines s → run_of (digest s.hash) lines ≡ Some run
    → c.deref.result.now ≡ verdicts_of (digest s.hash) run → c.counts.result ≡ counts_of (digest s.hash) run)
    (ap (λ (s : WorldState _). s.running) c.self.view_is) (c.counts.ensures lines run) after ran
    (c.deref.ensures.value ∙ c.in_ok-verdicts.ensures lines run after ran)
