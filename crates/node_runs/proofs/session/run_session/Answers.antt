use Rattle.std.proofs.Common.{inl, inr, sym, ◌∙◌}
use Rattle.std.proofs.lemmas.Bool.{false≢true}
use Rattle.node_sessions.specs.Commands.{IsSession, IsHaltedSession}
use Rattle.streamed_lines.specs.Outside.{ReadsToFault}
use Rattle.streamed_lines.proofs.PromptLaws.{prompt-more}
use Rattle.run_endings.specs.Endings.{status_of, last_text, fault_output}
use Rattle.run_endings.proofs.PromptLaws.{prompt-last, composed-reads}
use Rattle.node_runs.proofs.EndLaws.{ends-front}
use Rattle.node_runs.proofs.SessionLaws.{answered-runs, faulted-runs, refused-runs, starved-runs}
use Rattle.node_runs.proofs.session.run_session.Goals as goal

pub returns-in-Ok-clause-runs : goal.returns-in-Ok-clause-runs
returns-in-Ok-clause-runs g c =
    rw (← c.new-session.ensures.rules)
    (answered-runs _ _ g.found (IsSession g.N.Commanded.is_at g.N.Commanded.is_stopped)
    (λ session. IsHaltedSession g.N.Commanded.is_at g.N.Commanded.is_stopped (g.N.Commanded.command_in session.node)
    g.N.Commanded.begins_with_bytes session)
    g.N.Commanded.is_at g.N.Commanded.is_stopped
    _ _ c.take_node.ensures.ran c.take_node.ensures.halted _ _ _ _ _ _ c.in-Ok.ending
    (ReadsToFault (g.S.Source.faults c.args.source.now) (g.S.Source.faults c.answer_lines.new.source)
    (g.S.Source.failed_last c.answer_lines.new.source))
    _ c.in-Ok.ensures.answered c.in-Ok.ensures.reads c.put_ending-status.ensures.ends)

pub returns-in-Err-Failed-clause-runs : goal.returns-in-Err-Failed-clause-runs
returns-in-Err-Failed-clause-runs g c =
    rw (← c.new-session.ensures.rules)
    (faulted-runs _ _ g.found (IsSession g.N.Commanded.is_at g.N.Commanded.is_stopped)
    (λ session. IsHaltedSession g.N.Commanded.is_at g.N.Commanded.is_stopped (g.N.Commanded.command_in session.node)
    g.N.Commanded.begins_with_bytes session)
    g.N.Commanded.is_at g.N.Commanded.is_stopped
    _ _ c.take_node-in-Err-Failed.ensures.ran c.take_node-in-Err-Failed.ensures.halted _ _ _ _ _ _ _ _ _
    c.in-Err-Failed.field-0-is c.in-Err-Failed.ensures.broken c.put_fault-status.ensures.ends)

pub returns-in-Err-WriteFault-clause-runs : goal.returns-in-Err-WriteFault-clause-runs
returns-in-Err-WriteFault-clause-runs g c =
    rw (← c.new-session.ensures.rules)
    (refused-runs _ _ g.found (IsSession g.N.Commanded.is_at g.N.Commanded.is_stopped)
    (λ session. IsHaltedSession g.N.Commanded.is_at g.N.Commanded.is_stopped (g.N.Commanded.command_in session.node)
    g.N.Commanded.begins_with_bytes session)
    g.N.Commanded.is_at g.N.Commanded.is_stopped
    _ _ c.take_node-in-Err-WriteFault.ensures.ran c.take_node-in-Err-WriteFault.ensures.halted _ _ _ _ _ _ _
    c.in-Err-WriteFault.field-0-is c.in-Err-WriteFault.ensures.broken)

pub returns-clause-runs : goal.returns-clause-runs
returns-clause-runs g c =
    rw (← c.new-session.ensures.rules)
    (starved-runs _ _ g.found (IsSession g.N.Commanded.is_at g.N.Commanded.is_stopped)
    (λ session. IsHaltedSession g.N.Commanded.is_at g.N.Commanded.is_stopped (g.N.Commanded.command_in session.node)
    g.N.Commanded.begins_with_bytes session)
    g.N.Commanded.is_at g.N.Commanded.is_stopped
    _ _ c.take_node-in-Err-NoMemory.ensures.ran c.take_node-in-Err-NoMemory.ensures.halted _ _ _ _ _ _ _
    c.in-Err-NoMemory.field-0-is c.in-Err-NoMemory.ensures.broken)

-- ---- a run that ends for want of memory over a sink that takes none met no device fault

pub returns-in-Ok-clause-memory : goal.returns-in-Ok-clause-memory
returns-in-Ok-clause-memory g c = λ none is.
    rw (← c.new-session.ensures.rules)
    (answered-runs _ _ g.found (IsSession g.N.Commanded.is_at g.N.Commanded.is_stopped)
    (λ session. IsHaltedSession g.N.Commanded.is_at g.N.Commanded.is_stopped (g.N.Commanded.command_in session.node)
    g.N.Commanded.begins_with_bytes session)
    g.N.Commanded.is_at g.N.Commanded.is_stopped
    _ _ c.take_node.ensures.ran c.take_node.ensures.halted _ _ _ _ _ _ c.in-Ok.ending
    (ReadsToFault (g.S.Source.faults c.args.source.now) (g.S.Source.faults c.answer_lines.new.source)
    (g.S.Source.failed_last c.answer_lines.new.source))
    _ c.in-Ok.ensures.answered c.in-Ok.ensures.reads c.put_ending-status.ensures.ends)

pub returns-in-Err-Failed-clause-memory : goal.returns-in-Err-Failed-clause-memory
returns-in-Err-Failed-clause-memory g c = λ none is.
    absurd (false≢true (sym none ∙ c.put_fault-status.ensures.memory is))

pub returns-in-Err-WriteFault-clause-memory : goal.returns-in-Err-WriteFault-clause-memory
returns-in-Err-WriteFault-clause-memory g c = λ none is. absurd (cc (is))

pub returns-clause-memory : goal.returns-clause-memory
returns-clause-memory g c = λ none is.
    rw (← c.new-session.ensures.rules)
    (starved-runs _ _ g.found (IsSession g.N.Commanded.is_at g.N.Commanded.is_stopped)
    (λ session. IsHaltedSession g.N.Commanded.is_at g.N.Commanded.is_stopped (g.N.Commanded.command_in session.node)
    g.N.Commanded.begins_with_bytes session)
    g.N.Commanded.is_at g.N.Commanded.is_stopped
    _ _ c.take_node-in-Err-NoMemory.ensures.ran c.take_node-in-Err-NoMemory.ensures.halted _ _ _ _ _ _ _
    c.in-Err-NoMemory.field-0-is c.in-Err-NoMemory.ensures.broken)

-- ---- the answers are written before more is read

pub returns-in-Ok-clause-prompt : goal.returns-in-Ok-clause-prompt
returns-in-Ok-clause-prompt g c =
    rw (← c.new-session.ensures.rules)
    (prompt-last _ _ _ _ _ _ _ _ _ _ _ c.in-Ok.ending _ c.in-Ok.ensures.last c.in-Ok.ensures.put
    c.in-Ok.ensures.answered c.in-Ok.ensures.prompt
    (ends-front (record {
      status = status_of c.in-Ok.ending;
      answers = c.answer_lines.new.text.items;
      last = last_text c.in-Ok.ending;
    }) _ _ (Unit {0}) _ c.put_ending-status.ensures.ends))

pub returns-in-Err-Failed-clause-prompt : goal.returns-in-Err-Failed-clause-prompt
returns-in-Err-Failed-clause-prompt g c =
    let front =
    ends-front (fault_output c.answer_lines.new.text.items) _ _ (Unit {0}) _ c.put_fault-status.ensures.ends in
    rw (← c.new-session.ensures.rules)
    (prompt-more _ _ _ _ _ _ _ front.front c.in-Err-Failed.ensures.prompt front.wrote c.in-Err-Failed.ensures.last)

pub returns-in-Err-WriteFault-clause-prompt : goal.returns-in-Err-WriteFault-clause-prompt
returns-in-Err-WriteFault-clause-prompt g c = rw (← c.new-session.ensures.rules) c.in-Err-WriteFault.ensures.prompt

pub returns-clause-prompt : goal.returns-clause-prompt
returns-clause-prompt g c = rw (← c.new-session.ensures.rules) c.in-Err-NoMemory.ensures.prompt

-- ---- and the source met none

pub returns-in-Ok-clause-source_memory : goal.returns-in-Ok-clause-source_memory
returns-in-Ok-clause-source_memory g c = λ none is.
    elim (c.put_ending-status.ensures.memory is) [
      | inl takes ↦ absurd (false≢true (sym none ∙ takes))
      | inr composed ↦
          composed-reads
          (ReadsToFault (g.S.Source.faults c.args.source.now) (g.S.Source.faults c.answer_lines.new.source)
          (g.S.Source.failed_last c.answer_lines.new.source))
          c.in-Ok.ending composed c.in-Ok.ensures.reads
    ]
