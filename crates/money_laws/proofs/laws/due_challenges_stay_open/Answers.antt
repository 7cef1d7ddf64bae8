use Rattle.money_laws.proofs.Tips.{holders_keep, tips_are_not_answered, tips_stay_open, run_tips_stay_open, run_tips_are_not_answered}
use Rattle.money_laws.proofs.laws.due_challenges_stay_open.Goals as goal

pub returns-clause-keeps : goal.returns-clause-keeps
returns-clause-keeps c = holders_keep

pub returns-clause-unanswered : goal.returns-clause-unanswered
returns-clause-unanswered c = tips_are_not_answered

pub returns-clause-run_unanswered : goal.returns-clause-run_unanswered
returns-clause-run_unanswered c = run_tips_are_not_answered

pub returns-clause-legal : goal.returns-clause-legal
returns-clause-legal c = tips_stay_open

pub returns-clause-run : goal.returns-clause-run
returns-clause-run c = run_tips_stay_open
