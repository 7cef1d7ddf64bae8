use Rattle.std.proofs.Common.{◌≡◌, ◌≤◌, take, reverse}
use Rattle.coin_verdicts.specs.Standings.{standing_in}
use Rattle.coin_verdicts.proofs.standing.standing.Given as goal

abbrev pub invariant-loop-note : goal.invariant-loop-note
invariant-loop-note l = record {
  is : l.standing ≡ standing_in l.holder l.tip (reverse (take l.note-index l.notes));
  few : l.standing.sent ≤ l.note-index;
}
