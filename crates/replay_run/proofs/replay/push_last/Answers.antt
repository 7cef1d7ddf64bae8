use Rattle.std.proofs.Common.{◌≡◌, ◌++◌, sym, subst}
use Rattle.std.specs.Prelude.{OnOk}
use Rattle.replay_run.specs.Text.{closing_text, last_text}
use Rattle.replay_run.proofs.replay.push_last.Goals as goal

pub returns-in-Complete : goal.returns-in-Complete
unfolding last_text
returns-in-Complete g c =
    λ run ran.
    subst (λ e. OnOk c.push_closing.result
    (c.push_closing.new.text.items ≡ c.args.text.now.items ++ last_text (closing_text run.digest run.run) e))
    (sym c.in-Complete.is) (c.push_closing.ensures run (ran c.in-Complete.is))
