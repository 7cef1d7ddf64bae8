use Rattle.std.proofs.Common.{◌≡◌, List, ℕ, Some, Ok, refl, sym, ap, ◌∙◌, subst}
use Rattle.crash_disk.specs.Disk.{content, fresh_history}
use Rattle.gate_journal.specs.Journal.{Keeps}
use Rattle.node_journal.specs.Role.{role_in}
use Rattle.node_rules.specs.Watcher.{watcher_kinds}
use Rattle.safe_runs.specs.Runs.{IsRefused, watcher_in}
use Rattle.safe_runs.proofs.Opening.{same-records, role-are, watcher-refused}
use Rattle.safe_runs.proofs.guards.watcher_records.Goals as goal

pub returns-in_ok-records_of-in-Ok-clause-records : goal.returns-in_ok-records_of-in-Ok-clause-records
returns-in_ok-records_of-in-Ok-clause-records g c =
    same-records _ _ _ (watcher_kinds (g.H.Hash32.digest_of c.args.h)) _ c.in-Ok.node.notes
    (fresh_history c.args.image.items) _ c.in_ok-records_of-in-Ok.field-0.items (ap Some c.disk_of.ensures)
    c.in-Ok.ensures.opened refl
    (subst (λ disk. Keeps c.in_ok-records_of-in-Ok.field-0.items (content disk.history)) c.take_disk.ensures
    c.in_ok-records_of-in-Ok.ensures)

pub returns-in_ok-records_of-in-Ok-clause-role : goal.returns-in_ok-records_of-in-Ok-clause-role
returns-in_ok-records_of-in-Ok-clause-role g c =
    role-are (watcher_kinds (g.H.Hash32.digest_of c.args.h)) c.args.image.items c.in_ok-records_of-in-Ok.field-0.items
    (returns-in_ok-records_of-in-Ok-clause-records g c)

pub returns-in-Err-clause-refused : goal.returns-in-Err-clause-refused
returns-in-Err-clause-refused g c =
    subst (IsRefused (watcher_in (g.H.Hash32.digest_of c.args.h) c.args.image.items)) (sym c.only_place.ensures)
    (watcher-refused _ _ _ (g.H.Hash32.digest_of c.args.h) _ c.in-Err.returned.disk
    (fresh_history c.args.image.items) c.in-Err.returned.why (ap Some c.disk_of.ensures) c.in-Err.ensures.refused)
