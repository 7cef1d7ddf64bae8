use Rattle.std.proofs.Common.{List, ℕ, ◌++◌, sym, ap, ◌∙◌, subst, append_assoc}
use Rattle.run_endings.specs.Outputs.{EndsAs}
use Rattle.safe_runs.specs.Runs.{ended_output}
use Rattle.safe_runs.proofs.Looking.{complete-is, ends-other, status-complete, text-complete}
use Rattle.safe_runs.proofs.look.put_ended.Goals as goal

pub returns-then-not-is_complete-clause-ends : goal.returns-then-not-is_complete-clause-ends
returns-then-not-is_complete-clause-ends g c = λ at run is ran.
    ends-other at run c.args.ending.now c.put_stopped.result c.args.text.now.items _ _
    (sym c.is_complete.ensures ∙ c.if-not-is_complete.true) c.put_stopped.ensures.ends

pub returns-in-Ok-clause-ends : goal.returns-in-Ok-clause-ends
returns-in-Ok-clause-ends g c = λ at run is ran.
    let output = ended_output at run c.args.ending.now in
    let complete = sym c.is_complete.ensures ∙ c.if-not-is_complete.false in
    let ran_whole = ran (complete-is c.args.ending.now complete) in
    subst (λ status. EndsAs (record {
      status = status;
      answers = c.args.text.now.items ++ output.answers;
      last = output.last;
    }) c.put_whole.result (g.K.Sink.taken c.args.sink.now) (g.K.Sink.taken c.put_whole.new.sink) (Unit {0}))
    (sym (status-complete at run c.args.ending.now complete ∙ c.in-Ok.ensures.status at run is ran_whole))
    (c.put_whole.ensures.ends (c.args.text.now.items ++ output.answers) output.last
    (c.in-Ok.ensures.said at run is ran_whole
    ∙ ap (λ (said : List ℕ). c.args.text.now.items ++ said) (text-complete at run c.args.ending.now complete)
    ∙ sym (append_assoc c.args.text.now.items output.answers output.last)))
