use Rattle.std.proofs.Common.{Bool, false, ◌++◌, sym, ◌∙◌, subst}
use Rattle.std.proofs.lemmas.Bool.{false≢true}
use Rattle.plasma_outside.specs.declared.sink.SinkRefusal.TheVariants.{Failed, NoMemory}
use Rattle.streamed_lines.specs.Outside.{ReadsToFault}
use Rattle.safe_runs.specs.Runs.{ended_output}
use Rattle.safe_runs.proofs.FaultLaws.{ended-read, ended-unmet, reads-by}
use Rattle.safe_runs.proofs.Looking.{lines-of, broken-of, ran-whole, looks-whole, looks-early}
use Rattle.safe_runs.proofs.look.run_look.Goals as goal

pub returns-in-Ok-clause-looks : goal.returns-in-Ok-clause-looks
returns-in-Ok-clause-looks g c = λ at is.
    let answers =
    lines-of at _ _ _ _ _ _ _ _ c.new-session.result.tag c.in-Ok.ending
    (c.new-session.ensures.tag ∙ c.tag.ensures at is) c.in-Ok.ensures.answered in
    looks-whole at _ _ _ _ _ _ _ _ c.in-Ok.ending
    (ReadsToFault (g.S.Source.faults c.args.source.now) (g.S.Source.faults c.answer_lines.new.source)
    (g.S.Source.failed_last c.answer_lines.new.source))
    answers c.in-Ok.ensures.reads _ _
    (c.put_ended.ensures.ends at answers.ends.stream.run is
    (ran-whole at _ _ _ _ _ _ _ _ c.in-Ok.ending
    (ReadsToFault (g.S.Source.faults c.args.source.now) (g.S.Source.faults c.answer_lines.new.source)
    (g.S.Source.failed_last c.answer_lines.new.source))
    answers c.in-Ok.ensures.reads))

pub returns-in-Err-WriteFault-clause-looks : goal.returns-in-Err-WriteFault-clause-looks
returns-in-Err-WriteFault-clause-looks g c = λ at is.
    looks-early at _ _ _ _ _ _ _ _ _ _ Failed
    (broken-of at _ _ _ _ _ _ _ _ c.new-session.result.tag _ (c.new-session.ensures.tag ∙ c.tag.ensures at is)
    c.in-Err-WriteFault.ensures.broken)

pub returns-clause-looks : goal.returns-clause-looks
returns-clause-looks g c = λ at is.
    looks-early at _ _ _ _ _ _ _ _ _ _ NoMemory
    (broken-of at _ _ _ _ _ _ _ _ c.new-session.result.tag _ (c.new-session.ensures.tag ∙ c.tag.ensures at is)
    c.in-Err.ensures.broken)

pub returns-in-Ok-clause-source_faults : goal.returns-in-Ok-clause-source_faults
returns-in-Ok-clause-source_faults g c = λ at is.
    let Reads : Bool → Type 0 =
    ReadsToFault (g.S.Source.faults c.args.source.now) (g.S.Source.faults c.answer_lines.new.source)
    (g.S.Source.failed_last c.answer_lines.new.source) in
    let answers =
    lines-of at _ _ _ _ _ _ _ _ c.new-session.result.tag c.in-Ok.ending
    (c.new-session.ensures.tag ∙ c.tag.ensures at is) c.in-Ok.ensures.answered in
    let output = ended_output at answers.ends.stream.run c.in-Ok.ending in
    reads-by Reads (record {
      status = output.status;
      answers = c.answer_lines.new.text.items ++ output.answers;
      last = output.last;
    }) c.put_ended.result _ _ (Unit {0})
    (c.put_ended.ensures.ends at answers.ends.stream.run is
    (ran-whole at _ _ _ _ _ _ _ _ c.in-Ok.ending Reads answers c.in-Ok.ensures.reads))
    (subst Reads (ended-read at answers.ends.stream.run c.in-Ok.ending) c.in-Ok.ensures.reads)

pub returns-in-Err-WriteFault-clause-source_faults : goal.returns-in-Err-WriteFault-clause-source_faults
returns-in-Err-WriteFault-clause-source_faults g c = λ at is. (false, c.in-Err-WriteFault.ensures.reads)

pub returns-clause-source_faults : goal.returns-clause-source_faults
returns-clause-source_faults g c = λ at is. (false, c.in-Err.ensures.reads)

-- ---- a run that ends for want of memory over a sink that takes none met no fault of the source

pub returns-in-Ok-clause-source_memory : goal.returns-in-Ok-clause-source_memory
returns-in-Ok-clause-source_memory g c = λ none is.
    ended-unmet (ReadsToFault (g.S.Source.faults c.args.source.now) (g.S.Source.faults c.answer_lines.new.source)
    (g.S.Source.failed_last c.answer_lines.new.source)) c.in-Ok.ending
    (λ fault. false≢true (sym none ∙ c.put_ended.ensures.memory fault is)) c.in-Ok.ensures.reads

pub returns-clause-source_memory : goal.returns-clause-source_memory
returns-clause-source_memory g c = λ none is. c.in-Err.ensures.reads
