use Rattle.std.proofs.Common.{inl}
use Rattle.run_endings.specs.Endings.{status_of, last_text}
use Rattle.run_endings.proofs.EndingLaws.{ends-whole, ends-stopped}
use Rattle.safe_runs.proofs.look.put_stopped.Goals as goal

pub returns-in-Ok-clause-ends : goal.returns-in-Ok-clause-ends
returns-in-Ok-clause-ends g c =
    rw c.status_of.ensures.status
    (ends-whole (record {
      status = status_of c.args.ending.now;
      answers = c.args.text.now.items;
      last = last_text c.args.ending.now;
    }) _ _ (Unit {0}) (λ is. tt) c.in-Ok.ensures.ok)

pub returns-in-Err-clause-ends : goal.returns-in-Err-clause-ends
returns-in-Err-clause-ends g c =
    rw c.of_refusal.ensures.status
    (ends-stopped c.in-Err.refusal
    (record {
      status = status_of c.args.ending.now;
      answers = c.args.text.now.items;
      last = last_text c.args.ending.now;
    }) _ _ (Unit {0}) (record { front = c.in-Err.ensures.err; fault = λ is. inl tt }))
