use Rattle.std.proofs.Common.{rules, ◌≡◌, List, ℕ, ap, ◌∙◌, subst}
use Rattle.crash_disk.specs.Disk.{History, content}
use Rattle.gate_journal.specs.Journal.{Keeps}
use Rattle.safe_runs.specs.Inside.{lasts_in}
use Rattle.safe_runs.proofs.LastBlocks.{lasts-are}
use Rattle.safe_runs.proofs.Opening.{kept-same}
use Rattle.safe_runs.proofs.holdings.read_both.Goals as goal

pub returns : goal.returns
returns g c =
    let leaves = c.args.node.now.records.leaves in
    let read = c.in_ok-records.records.items in
    let same : read ≡ leaves =
    kept-same c.args.leaves.items read leaves
    (subst (λ (history : History). Keeps read (content history)) c.disk_of.ensures c.in_ok-records.ensures)
    c.requires.leaves in
    let slice : c.deref.result.now ≡ read = search (rules, c.deref.ensures) in
    record {
      accepted_are = c.in_ok-accepted.ensures;
      lasts_are = c.in_ok-lasts.ensures ∙ ap lasts_in (slice ∙ same) ∙ lasts-are leaves c.requires.pass;
    }
