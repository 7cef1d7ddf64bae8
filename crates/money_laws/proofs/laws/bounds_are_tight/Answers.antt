use Rattle.money_laws.proofs.WorkedAfter.{an_after_needs_no_money}
use Rattle.money_laws.proofs.WorkedBetween.{a_between_needs_no_money}
use Rattle.money_laws.proofs.WorkedReserve.{reserve_is_tight}
use Rattle.money_laws.proofs.WorkedLeft.{leaving_first_is_tight}
use Rattle.money_laws.proofs.WorkedGuard.{guarding_is_tight, is_guarded_so}
use Rattle.money_laws.proofs.WorkedCover.{attack_costs_nothing}
use Rattle.money_laws.proofs.laws.bounds_are_tight.Goals as goal

pub returns-clause-reserve : goal.returns-clause-reserve
returns-clause-reserve c = reserve_is_tight

pub returns-clause-guarding : goal.returns-clause-guarding
returns-clause-guarding c = guarding_is_tight

pub returns-clause-guarded : goal.returns-clause-guarded
returns-clause-guarded c = is_guarded_so

pub returns-clause-attack : goal.returns-clause-attack
returns-clause-attack c = attack_costs_nothing

pub returns-clause-leaving : goal.returns-clause-leaving
returns-clause-leaving c = leaving_first_is_tight

pub returns-clause-after : goal.returns-clause-after
returns-clause-after c = an_after_needs_no_money

pub returns-clause-between : goal.returns-clause-between
returns-clause-between c = a_between_needs_no_money
