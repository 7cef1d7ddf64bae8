use Rattle.coin_history.proofs.absence.absent.Goals as goal

pub returns-clause-memory : goal.returns-clause-memory
returns-clause-memory g c given = record {
  tip = c.if-bundle-last.false;
  looks = c.are_absent.ensures.memory given;
}
