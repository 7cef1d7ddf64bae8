use Rattle.operator_core.proofs.Words.{take, FitJournal}
use Rattle.operator_core.proofs.rebuild.long_record.Given as goal

abbrev pub invariant-records : goal.invariant-records
invariant-records l = FitJournal (take l.record-index l.records)
