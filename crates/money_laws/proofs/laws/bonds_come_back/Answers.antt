use Rattle.money_laws.proofs.Ends.{ends_pay_bonds}
use Rattle.money_laws.proofs.Back.{bonds_come_back, run_bonds_come_back, cancels_need_no_money, run_cancels_need_no_money}
use Rattle.money_laws.proofs.laws.bonds_come_back.Goals as goal

pub returns-clause-ends : goal.returns-clause-ends
returns-clause-ends c = ends_pay_bonds

pub returns-clause-legal : goal.returns-clause-legal
returns-clause-legal c = bonds_come_back

pub returns-clause-run : goal.returns-clause-run
returns-clause-run c = run_bonds_come_back

pub returns-clause-legal_cancels : goal.returns-clause-legal_cancels
returns-clause-legal_cancels c = cancels_need_no_money

pub returns-clause-cancels : goal.returns-clause-cancels
returns-clause-cancels c = run_cancels_need_no_money
