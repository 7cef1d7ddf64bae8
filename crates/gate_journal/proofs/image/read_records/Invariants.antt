use Rattle.gate_journal.proofs.Words.{◌≡◌, ◌+◌, length, journal_in, spelled}
use Rattle.gate_journal.proofs.Read.{ReadsOn}
use Rattle.gate_journal.proofs.image.read_records.Given as goal

abbrev pub invariant-records : goal.invariant-records
invariant-records l = record {
  all : l.place + length l.rest ≡ length l.image;
  gate : l.place ≡ length (spelled l.records.items);
  read : ReadsOn (journal_in l.image) l.records.items l.place l.rest;
}

abbrev pub decreases-records : goal.decreases-records
decreases-records l = length l.rest
