use Rattle.std.proofs.Common.{◌≡◌, ◌∙◌, ◌++◌, ap, List, ℕ}
use Rattle.world_rules.specs.Texts.{counts_text, exhibit_text}
use Rattle.replay_run.specs.Text.{brief_text}
use Rattle.replay_run.proofs.OutsideLaws.{joined}
use Rattle.replay_run.proofs.ReplayLaws.{on-ok}
use Rattle.replay_run.proofs.brief.push_counts.Goals as goal

pub returns : goal.returns
returns g c =
    λ run ran.
    let dig : List ℕ → List ℕ = g.H.Hash32.digest_of c.args.world.now.running.hash in
    let old : List ℕ = c.args.text.now.items in
    let counts = c.in_ok-counts.ensures ran.lines run.run ran.after ran.is in
    let shown = c.in_ok-exhibit.ensures ran.lines run.run ran.after ran.is in
    let front =
    ◌∙◌ {A = List ℕ} c.in_ok-print_counts.ensures.ok (ap (λ n. old ++ counts_text n) counts) in
    rw ran.digest
    (on-ok _ (c.print_exhibit.new.out.items ≡ old ++ brief_text dig run.run) _
    (λ is. joined _ _ _ _ _ _ is front (ap exhibit_text shown)) c.print_exhibit.ensures.ok)
