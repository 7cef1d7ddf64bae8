use Rattle.std.proofs.Common.{◌≡◌, ◌++◌, sym, subst}
use Rattle.std.specs.Prelude.{OnOk}
use Rattle.replay_run.specs.Text.{brief_text, last_text}
use Rattle.replay_run.proofs.brief.push_last.Goals as goal

pub returns-in-Complete : goal.returns-in-Complete
unfolding last_text
returns-in-Complete g c =
    λ run ran.
    subst (λ e. OnOk c.push_counts.result
    (c.push_counts.new.text.items ≡ c.args.text.now.items ++ last_text (brief_text run.digest run.run) e))
    (sym c.in-Complete.is) (c.push_counts.ensures run (ran c.in-Complete.is))
