use Rattle.run_words.proofs.Basics.{◌∙◌, sym, ap₂, with_subcommand, bare_command}
use Rattle.std.proofs.lemmas.List.Sums.{fold_more}
use Rattle.run_words.proofs.parsing.command.Goals as goal

pub loop-name-preserved : goal.loop-name-preserved
loop-name-preserved c =
    c.in_ok-command.ensures.shape c.in_ok-subcommand.ensures.local
    ∙ (ap₂ with_subcommand c.loop-name.invariant c.in_ok-subcommand.ensures.shape
    ∙ sym (fold_more _ bare_command _ c.loop-name.name-index _ c.loop-name-test.true))
