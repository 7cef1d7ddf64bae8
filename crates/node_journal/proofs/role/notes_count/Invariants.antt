use Rattle.node_journal.proofs.Words.{◌≡◌, ◌+◌, drop, prefix_len}
use Rattle.node_journal.proofs.role.notes_count.Given as goal

abbrev pub invariant-loop-count : goal.invariant-loop-count
invariant-loop-count g l =
    let test = (g.R.Role.kinds l.role).is_note l.identity in
    prefix_len test l.notes ≡ l.count + prefix_len test (drop l.count l.notes)
