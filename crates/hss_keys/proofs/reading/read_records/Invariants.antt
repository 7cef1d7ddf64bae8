use Rattle.hss_keys.proofs.Words.{◌≡◌, ◌≤◌, Ok, take, length, spelled, entries_of, level_records, leaves_left}
use Rattle.hss_keys.proofs.reading.read_records.Given as goal

abbrev pub invariant-loop-body : goal.invariant-loop-body
invariant-loop-body l = record {
  front : l.kept.records ≡ take l.body-index l.bodies;
  are : level_records l.kept.seed l.kept.records ≡ Ok l.kept.records;
  seed : l.kept.seed ≡ l.secret;
  room : leaves_left l.kept.seed (entries_of l.kept.records) ≤ l.kept.spare;
  place : l.place ≡ length (spelled l.kept.records);
}
