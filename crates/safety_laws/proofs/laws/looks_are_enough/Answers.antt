use Rattle.safety_laws.proofs.Begins.{holders_begin_in_time}
use Rattle.safety_laws.proofs.SafeWords.{looks_are_enough}
use Rattle.safety_laws.proofs.NextLook.{next_look_is_in_time}
use Rattle.safety_laws.proofs.Runs.{looked_at_are_safe, run_looked_at_are_safe}
use Rattle.safety_laws.proofs.laws.looks_are_enough.Goals as goal

pub returns-clause-begins : goal.returns-clause-begins
returns-clause-begins c = holders_begin_in_time

pub returns-clause-next : goal.returns-clause-next
returns-clause-next c = next_look_is_in_time

pub returns-clause-chain : goal.returns-clause-chain
returns-clause-chain c = looks_are_enough

pub returns-clause-legal : goal.returns-clause-legal
returns-clause-legal c = looked_at_are_safe

pub returns-clause-run : goal.returns-clause-run
returns-clause-run c = run_looked_at_are_safe
