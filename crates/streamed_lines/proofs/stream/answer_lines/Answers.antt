use Rattle.std.proofs.Common.{◌∙◌, [], Err, refl, ap, arith}
use Rattle.std.proofs.lemmas.Grind.{common_steps}
use Rattle.streamed_lines.specs.Reading.{break_of}
use Rattle.streamed_lines.proofs.OutsideLaws.{gave-part, wrote-none}
use Rattle.streamed_lines.proofs.StreamLaws.{err-given}
use Rattle.streamed_lines.proofs.GoingLaws.{going-none, going-faults, going-ends, going-breaks, going-reads, going-on, halt-ends, halt-breaks, put-breaks}
use Rattle.streamed_lines.proofs.PromptLaws.{promptly, took-few, unfailed}
use Rattle.streamed_lines.proofs.stream.answer_lines.Goals as goal

pub loop-answerer-init : goal.loop-answerer-init
loop-answerer-init g c = record {
  going = going-none _ _ _ _ _ _ _ _ c.requires.1.1.1.1.0 c.new.ensures.items c.requires.1.1.1.1.1.1;
  rules = refl;
  ready = c.requires.1.1.1.1.1.0;
  unread = refl;
  unended = refl;
  unsunk = refl;
}

pub returns-in-Err-clause-answered : goal.returns-in-Err-clause-answered
returns-in-Err-clause-answered g c =
    going-faults _ _ _ _ _ _ _ _ _ _ _ _ c.loop-answerer.invariant.going g.A.Answerer.halted _ c.in-Err.ensures.err

pub returns-in-Ok-eq0-clause-answered : goal.returns-in-Ok-eq0-clause-answered
returns-in-Ok-eq0-clause-answered g c =
    going-ends _ _ _ _ _ _ _ _ _ _ _ _ c.loop-answerer.invariant.going g.A.Answerer.halted _ _ _
    (g.A.Answerer.rules c.loop-answerer.answerer) _ c.loop-answerer.invariant.rules
    (rw c.in-Ok-eq0.field-0-test at c.in-Ok-eq0.ensures.ok) c.answer_last.ensures.ends

pub returns-in-Ok-eq0-clause-broken : goal.returns-in-Ok-eq0-clause-broken
returns-in-Ok-eq0-clause-broken g c =
    going-breaks _ _ _ _ _ _ _ _ _ _ _ _ c.loop-answerer.invariant.going g.A.Answerer.halted _ _ _
    (g.A.Answerer.rules c.loop-answerer.answerer) _ c.loop-answerer.invariant.rules
    (rw c.in-Ok-eq0.field-0-test at c.in-Ok-eq0.ensures.ok) g.K.Sink.takes_memory _
    (rw c.in-Ok-eq0.field-0-test at c.in-Ok-eq0.ensures.given) c.answer_last.ensures.breaks

pub loop-answerer-preserved : goal.loop-answerer-preserved
loop-answerer-preserved g c = record {
  going =
      rw c.in_ok-put_text-in-Ok-answer_taken.ensures.none_left
      (going-on _ _ _ _ _ _ _ _ _ _ _ _ c.loop-answerer.invariant.going _ _ _ _ _ _ _
      (gave-part _ _ _ c.in-Ok.ensures.ok)
      (going-reads _ _ _ _ _ _ _ _ _ _ _ _ c.loop-answerer.invariant.going _ _ _ _ _ _
      (g.A.Answerer.rules c.loop-answerer.answerer) c.loop-answerer.invariant.rules
      c.in-Ok-answer_taken.ensures.reads)
      _ c.in-Ok-answer_taken.ensures.kept c.in_ok-put_text-in-Ok-answer_taken.ensures.ok);
  rules = c.in-Ok-answer_taken.ensures.rules ∙ c.loop-answerer.invariant.rules;
  ready = c.in-Ok-answer_taken.ensures.ready;
  unread = c.in-Ok.ensures.reads.count ∙ c.loop-answerer.invariant.unread;
  unended = grind (arith, common_steps, c.in-Ok.ensures.end, c.in-Ok.count-test, c.loop-answerer.invariant.unended);
  unsunk = c.in_ok-put_text-in-Ok-answer_taken.ensures.cause ∙ c.loop-answerer.invariant.unsunk;
}

pub returns-in_err-put_text-in-Ok-answer_taken-clause-broken :
    goal.returns-in_err-put_text-in-Ok-answer_taken-clause-broken
returns-in_err-put_text-in-Ok-answer_taken-clause-broken g c =
    err-given _ (break_of c.in_err-put_text-in-Ok-answer_taken.field-0.0) _ c.from_residual.ensures.1
    (put-breaks _ _ _ _ _ _ _ _ _ _ _ _ c.loop-answerer.invariant.going g.A.Answerer.halted _ _ _ _ _ _ _
    (gave-part _ _ _ c.in-Ok.ensures.ok)
    (going-reads _ _ _ _ _ _ _ _ _ _ _ _ c.loop-answerer.invariant.going _ _ _ _ _ _
    (g.A.Answerer.rules c.loop-answerer.answerer) c.loop-answerer.invariant.rules
    c.in-Ok-answer_taken.ensures.reads)
    _ c.in_err-put_text-in-Ok-answer_taken.field-0.0 _ c.in_err-put_text-in-Ok-answer_taken.ensures.err
    g.K.Sink.takes_memory _ (λ is. c.in_err-put_text-in-Ok-answer_taken.ensures.memory (ap Err is)))

pub returns-in-Err-answer_taken-clause-answered : goal.returns-in-Err-answer_taken-clause-answered
returns-in-Err-answer_taken-clause-answered g c =
    halt-ends _ _ _ _ _ _ _ _ _ _ _ _ c.loop-answerer.invariant.going g.A.Answerer.halted _ _ _ _ _
    c.in-Err-answer_taken.halt (g.A.Answerer.rules c.loop-answerer.answerer) _ c.outcome.ensures
    c.loop-answerer.invariant.rules (gave-part _ _ _ c.in-Ok.ensures.ok) c.in-Err-answer_taken.ensures.halts

pub returns-in-Err-answer_taken-clause-broken : goal.returns-in-Err-answer_taken-clause-broken
returns-in-Err-answer_taken-clause-broken g c =
    halt-breaks _ _ _ _ _ _ _ _ _ _ _ _ c.loop-answerer.invariant.going g.A.Answerer.halted _ _ _ _ _
    c.in-Err-answer_taken.halt (g.A.Answerer.rules c.loop-answerer.answerer) _ c.outcome.ensures
    c.loop-answerer.invariant.rules (gave-part _ _ _ c.in-Ok.ensures.ok) c.in-Err-answer_taken.ensures.halts
    g.K.Sink.takes_memory _ (grind (arith, common_steps, c.in-Ok.ensures.given, c.in-Ok.ensures.bound))

-- ---- the answers are written before more is read

pub returns-in-Err-clause-prompt : goal.returns-in-Err-clause-prompt
returns-in-Err-clause-prompt g c =
    promptly _ _ _ _ _ _ _ _ _ _ _ _ c.loop-answerer.invariant.going _ _ [] [] _ c.in-Err.ensures.err
    (omega arith) (λ failed. refl) (λ failed. refl) (wrote-none _)

pub returns-in-Ok-eq0-clause-prompt : goal.returns-in-Ok-eq0-clause-prompt
returns-in-Ok-eq0-clause-prompt g c =
    promptly _ _ _ _ _ _ _ _ _ _ _ _ c.loop-answerer.invariant.going _ _ _ [] _
    (gave-part _ _ _ c.in-Ok-eq0.ensures.ok) (took-few _ _ _ c.in-Ok-eq0.ensures.bound c.size_to_lend-size.ensures.most)
    (unfailed _ _ c.in-Ok-eq0.ensures.last) (λ failed. refl) (wrote-none _)

pub returns-in_err-put_text-in-Ok-answer_taken-clause-prompt :
    goal.returns-in_err-put_text-in-Ok-answer_taken-clause-prompt
returns-in_err-put_text-in-Ok-answer_taken-clause-prompt g c =
    let front = c.in_err-put_text-in-Ok-answer_taken.ensures.err in
    promptly _ _ _ _ _ _ _ _ _ _ _ _ c.loop-answerer.invariant.going _ _ _ front.front _
    (gave-part _ _ _ c.in-Ok.ensures.ok) (took-few _ _ _ c.in-Ok.ensures.bound c.size_to_lend-size.ensures.most)
    (unfailed _ _ c.in-Ok.ensures.last) (unfailed _ _ c.in-Ok.ensures.last) front.wrote

pub returns-in-Err-answer_taken-clause-prompt : goal.returns-in-Err-answer_taken-clause-prompt
returns-in-Err-answer_taken-clause-prompt g c =
    promptly _ _ _ _ _ _ _ _ _ _ _ _ c.loop-answerer.invariant.going _ _ _ [] _
    (gave-part _ _ _ c.in-Ok.ensures.ok) (took-few _ _ _ c.in-Ok.ensures.bound c.size_to_lend-size.ensures.most)
    (unfailed _ _ c.in-Ok.ensures.last) (λ failed. refl) (wrote-none _)
