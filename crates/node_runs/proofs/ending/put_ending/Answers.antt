use Rattle.std.proofs.Common.{inl, sym, ◌∙◌}
use Rattle.run_endings.specs.Endings.{status_of, last_text}
use Rattle.run_endings.proofs.EndingLaws.{ends-whole, ends-stopped}
use Rattle.node_runs.proofs.QuietLaws.{status-none}
use Rattle.node_runs.proofs.ending.put_ending.Goals as goal

pub returns-in-Ok-clause-ends : goal.returns-in-Ok-clause-ends
returns-in-Ok-clause-ends g c =
    rw c.status_of.ensures.status
    (ends-whole (record {
      status = status_of c.args.ending.now;
      answers = c.args.text.now.items;
      last = last_text c.args.ending.now;
    }) _ _ (Unit {0}) (λ is. tt) c.in-Ok.ensures.ok)

pub returns-in-Err-clause-ends : goal.returns-in-Err-clause-ends
returns-in-Err-clause-ends g c =
    rw c.of_refusal.ensures.status
    (ends-stopped c.in-Err.refusal
    (record {
      status = status_of c.args.ending.now;
      answers = c.args.text.now.items;
      last = last_text c.args.ending.now;
    }) _ _ (Unit {0}) (record { front = c.in-Err.ensures.err; fault = λ is. inl tt }))

pub returns-in-Ok-clause-memory : goal.returns-in-Ok-clause-memory
returns-in-Ok-clause-memory g c = λ is. absurd (status-none c.args.ending.now (sym c.status_of.ensures.status ∙ is))
