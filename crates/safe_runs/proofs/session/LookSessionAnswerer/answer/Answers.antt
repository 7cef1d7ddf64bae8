use Rattle.std.proofs.Common.{true, [], Some, Ok, refl, sym, ◌∙◌, ap}
use Rattle.std.proofs.lemmas.List.{append-nil}
use Rattle.std.proofs.lemmas.Result.{on_ok_weaker}
use Rattle.safe_runs.specs.declared.told.Told.{Told}
use Rattle.safe_runs.specs.Sessions.{told_in}
use Rattle.safe_runs.proofs.LookLines.{next-first, next-told, next-end, next-call}
use Rattle.safe_runs.proofs.session.LookSessionAnswerer.answer.Goals as goal

pub returns-in_default-clause-answered : goal.returns-in_default-clause-answered
returns-in_default-clause-answered c = λ run is. record {
  next = record run { log = Some c.in_ok-first_log.field-0 };
  answer = [];
  is =
      next-first c.args.self.now.tag run c.args.line.now c.in_ok-first_log.field-0 (sym is.log_is ∙ c.in_default.is)
      c.in_ok-first_log.ensures.begun;
  ran = record { log_is = refl; over_is = is.over_is; told_is = is.told_is };
  told = sym (append-nil c.args._text.now.items);
}

pub returns-then-self-clause-answered : goal.returns-then-self-clause-answered
returns-then-self-clause-answered c = λ run is.
    on_ok_weaker c.tell.result
    (λ told. record {
      next = record run { node = c.tell.new.self };
      answer = [];
      is =
          next-told c.args.self.now.tag run c.args.line.now c.in-Some.log (sym is.log_is ∙ c.in-Some.is)
          c.tell.new.self (sym is.over_is ∙ c.if-self.true)
          (ap (λ (before : Told). told_in before c.args.line.now) (sym is.told_is) ∙ told);
      ran = record { log_is = sym c.in-Some.is ∙ is.log_is; over_is = is.over_is; told_is = refl };
      told = sym (append-nil c.args._text.now.items);
    })
    c.tell.ensures.told

pub returns-then-is_end_of_log-clause-answered : goal.returns-then-is_end_of_log-clause-answered
returns-then-is_end_of_log-clause-answered c = λ run is. record {
  next = record run { is_over = true };
  answer = [];
  is =
      next-end c.args.self.now.tag run c.args.line.now c.in-Some.log (sym is.log_is ∙ c.in-Some.is)
      (sym is.over_is ∙ c.if-self.false) (sym c.is_end_of_log.ensures ∙ c.if-is_end_of_log.true);
  ran = record { log_is = sym c.in-Some.is ∙ is.log_is; over_is = refl; told_is = is.told_is };
  told = sym (append-nil c.args._text.now.items);
}

pub returns-clause-answered : goal.returns-clause-answered
returns-clause-answered c = λ run is.
    on_ok_weaker c.read_call.result
    (λ longer. record {
      next = record run { log = Some c.read_call.new.log };
      answer = [];
      is =
          next-call c.args.self.now.tag run c.args.line.now c.in-Some.log (sym is.log_is ∙ c.in-Some.is)
          c.read_call.new.log (sym is.over_is ∙ c.if-self.false)
          (sym c.is_end_of_log.ensures ∙ c.if-is_end_of_log.false) longer;
      ran = record { log_is = refl; over_is = is.over_is; told_is = is.told_is };
      told = sym (append-nil c.args._text.now.items);
    })
    c.read_call.ensures.longer
