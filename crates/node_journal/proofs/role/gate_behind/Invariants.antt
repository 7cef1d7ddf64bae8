use Rattle.node_journal.proofs.Words.{◌≡◌, length, take, spelled}
use Rattle.node_journal.proofs.role.gate_behind.Given as goal

abbrev pub invariant-records : goal.invariant-records
invariant-records l = l.place ≡ length (spelled (take l.record-index l.records))
