use Rattle.money_laws.proofs.Ledger.{guarding_costs_nothing, run_guarding_costs_nothing, guardians_have_their_money, run_guardians_have_their_money}
use Rattle.money_laws.proofs.laws.guarding_costs_nothing.Goals as goal

pub returns-clause-legal : goal.returns-clause-legal
returns-clause-legal c = guarding_costs_nothing

pub returns-clause-run : goal.returns-clause-run
returns-clause-run c = run_guarding_costs_nothing

pub returns-clause-legal_ended : goal.returns-clause-legal_ended
returns-clause-legal_ended c = guardians_have_their_money

pub returns-clause-ended : goal.returns-clause-ended
returns-clause-ended c = run_guardians_have_their_money
