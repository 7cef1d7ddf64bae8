use Rattle.money_laws.proofs.Lead.{leaders_are_paid, firsts_lead, run_leaders_are_paid, firsts_are_paid, run_firsts_are_paid}
use Rattle.money_laws.proofs.LookedTimely.{looked_after_is_in_time, run_looked_after_is_in_time}
use Rattle.money_laws.proofs.Timely.{timely_coins_are_safe, run_timely_coins_are_safe}
use Rattle.money_laws.proofs.laws.leaving_first_needs_no_reserve.Goals as goal

pub returns-clause-paid : goal.returns-clause-paid
returns-clause-paid c = leaders_are_paid

pub returns-clause-first : goal.returns-clause-first
returns-clause-first c = firsts_lead

pub returns-clause-run : goal.returns-clause-run
returns-clause-run c = run_leaders_are_paid

pub returns-clause-legal_safe : goal.returns-clause-legal_safe
returns-clause-legal_safe c = timely_coins_are_safe

pub returns-clause-safe : goal.returns-clause-safe
returns-clause-safe c = run_timely_coins_are_safe

pub returns-clause-finished : goal.returns-clause-finished
returns-clause-finished c = firsts_are_paid

pub returns-clause-run_finished : goal.returns-clause-run_finished
returns-clause-run_finished c = run_firsts_are_paid

pub returns-clause-legal_looked_after : goal.returns-clause-legal_looked_after
returns-clause-legal_looked_after c = looked_after_is_in_time

pub returns-clause-looked_after : goal.returns-clause-looked_after
returns-clause-looked_after c = run_looked_after_is_in_time
