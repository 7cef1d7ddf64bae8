use Rattle.money_laws.proofs.Reserves.{reserve_is_needed}
use Rattle.money_laws.proofs.OnOffer.{reserve_suffices, run_reserve_suffices}
use Rattle.money_laws.proofs.laws.a_reserve_suffices.Goals as goal

pub returns-clause-legal : goal.returns-clause-legal
returns-clause-legal c = reserve_suffices

pub returns-clause-run : goal.returns-clause-run
returns-clause-run c = run_reserve_suffices

pub returns-clause-needed : goal.returns-clause-needed
returns-clause-needed c = reserve_is_needed
