use Rattle.std.proofs.Common.{sym, ◌∙◌}
use Rattle.node_sessions.proofs.SessionLaws.{on-ok, begins, ends, reads, commands}
use Rattle.node_sessions.proofs.session.SessionAnswerer.answer.Goals.{in-Ok-Answered, in-Ok-Refused, in-Err-DeviceFault, in-Err-NoMemory-answer}
use Rattle.node_sessions.proofs.session.SessionAnswerer.answer.Goals as goal

pub returns-in_default-clause-answered : goal.returns-in_default-clause-answered
returns-in_default-clause-answered g c =
    rw (← c.self.view_is)
    (λ run is.
    begins g.N.Commanded.is_at g.N.Commanded.is_stopped (g.N.Commanded.tag c.self.inside.node)
    (g.N.Commanded.command_in c.self.inside.node) (g.N.Commanded.does c.self.inside.node)
    (record { log = c.self.inside.log; is_over = c.self.inside.is_over; node = c.self.inside.node })
    run c.args.line.now c.args.text.now.items c.in_ok-first_log.field-0 c.in_default.is
    (rw c.tag.ensures at c.in_ok-first_log.ensures.begun) is)

pub returns-then-is_end_of_log-clause-answered : goal.returns-then-is_end_of_log-clause-answered
returns-then-is_end_of_log-clause-answered g c =
    rw (← c.self.view_is)
    (λ run is.
    ends g.N.Commanded.is_at g.N.Commanded.is_stopped (g.N.Commanded.tag c.self.inside.node)
    (g.N.Commanded.command_in c.self.inside.node) (g.N.Commanded.does c.self.inside.node)
    (record { log = c.self.inside.log; is_over = c.self.inside.is_over; node = c.self.inside.node })
    run c.args.line.now c.args.text.now.items c.in-Some.log c.in-Some.is c.if-not-self.true
    (sym c.is_end_of_log.ensures ∙ c.if-is_end_of_log.true) is)

pub returns-then-not-self-clause-answered : goal.returns-then-not-self-clause-answered
returns-then-not-self-clause-answered g c =
    rw (← c.self.view_is)
    (λ run is.
    on-ok c.read_call.result
    (λ longer.
    reads g.N.Commanded.is_at g.N.Commanded.is_stopped (g.N.Commanded.tag c.self.inside.node)
    (g.N.Commanded.command_in c.self.inside.node) (g.N.Commanded.does c.self.inside.node)
    (record { log = c.self.inside.log; is_over = c.self.inside.is_over; node = c.self.inside.node })
    run c.args.line.now c.args.text.now.items c.in-Some.log c.read_call.new.log c.in-Some.is c.if-not-self.true
    (sym c.is_end_of_log.ensures ∙ c.if-is_end_of_log.false) longer is)
    c.read_call.ensures.longer)

pub returns-clause-answered : goal.returns-clause-answered
returns-clause-answered g c =
    rw (← c.self.view_is)
    (λ run is. elim c.match-answer.branch [
      | in-Ok-Answered w ↦
          rw w.result-is
          (commands g.N.Commanded.is_at g.N.Commanded.is_stopped (g.N.Commanded.tag c.self.inside.node)
          (g.N.Commanded.command_in c.self.inside.node) (g.N.Commanded.does c.self.inside.node)
          (record { log = c.self.inside.log; is_over = c.self.inside.is_over; node = c.self.inside.node })
          run c.args.line.now c.args.text.now.items c.answer.new.text.items c.in-Some.log c.answer.new.self
          c.in-Ok.command c.in-Some.is c.if-not-self.false c.in-Ok.ensures.found is
          (rw w.in-Ok-Answered.field-0-is at (w.in-Ok-Answered.ensures.said run.node is.node_is)))
      | in-Ok-Refused w ↦ rw w.result-is tt
      | in-Err-DeviceFault w ↦ rw w.result-is tt
      | in-Err-NoMemory-answer w ↦ rw w.result-is tt
    ])
