use Rattle.std.proofs.Common.{◌≡◌, take}
use Rattle.leaf_journal.specs.Records.{is_marked}
use Rattle.safe_runs.specs.Inside.{lasts_in}
use Rattle.safe_runs.proofs.lasts.read_lasts.Given as goal

abbrev pub invariant-loop-entry : goal.invariant-loop-entry
invariant-loop-entry l = record {
  lasts : l.lasts.items ≡ lasts_in (take l.entry-index l.records);
  behind : l.is_behind ≡ is_marked (take l.entry-index l.records);
}
