use Rattle.safe_runs.proofs.look.put_refusal.Goals as goal

pub returns-in-DeviceFault-clause-ends : goal.returns-in-DeviceFault-clause-ends
returns-in-DeviceFault-clause-ends g c = rw c.in-DeviceFault.is c.put_line.ensures.output
