use Rattle.plasma_tx.proofs.Leaves.{transfer-read, recipient-named, empty-none}
use Rattle.plasma_tx.proofs.laws.transfers_are_read.Goals as goal

pub returns : goal.returns
returns c = record { read = transfer-read; named = recipient-named; empty = empty-none }
