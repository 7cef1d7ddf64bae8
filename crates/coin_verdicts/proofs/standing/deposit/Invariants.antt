use Rattle.std.proofs.Common.{◌≡◌, take, reverse}
use Rattle.std.specs.Option.{option_to_list}
use Rattle.coin_verdicts.specs.Standings.{deposited_in}
use Rattle.coin_verdicts.proofs.standing.deposit.Given as goal

abbrev pub invariant-loop-note : goal.invariant-loop-note
invariant-loop-note l = option_to_list l.found ≡ deposited_in l.owner (reverse (take l.note-index l.notes))
