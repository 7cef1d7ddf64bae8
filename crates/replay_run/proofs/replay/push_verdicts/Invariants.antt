use Rattle.std.proofs.Common.{◌≡◌, ◌++◌, take}
use Rattle.std.specs.List.{flat_map}
use Rattle.world_rules.specs.Texts.{verdict_text}
use Rattle.replay_run.proofs.replay.push_verdicts.Given as goal

abbrev pub invariant-loop-verdict : goal.invariant-loop-verdict
invariant-loop-verdict l =
    l.text.items ≡ l.fn.text.items ++ flat_map verdict_text (take l.verdict-index l.verdicts)
