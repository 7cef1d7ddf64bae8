use Rattle.std.proofs.Common.{true, [], Some, refl, sym, ◌∙◌, subst}
use Rattle.log_runs.specs.Kept.{AreAt}
use Rattle.std.proofs.lemmas.List.{append-nil}
use Rattle.log_runs.proofs.SessionLaws.{at-none, at-some, on-ok, next-first, next-end, next-call, next-command}
use Rattle.log_runs.proofs.log_session.LogSessionAnswerer.answer.Goals as goal

pub returns-in_default-clause-answered : goal.returns-in_default-clause-answered
returns-in_default-clause-answered g c = λ run is.
    let follower = c.args.self.now.follower in
    let following = g.F.Follower.following follower in
    let none =
    at-none (g.F.Follower.is_at follower) c.args.self.now.kept run.at c.in_default.is is.at_is in
    record {
      next = record run { at = Some (following.begin c.in_ok-log.log) };
      answer = [];
      is = next-first following run c.args.line.now none c.in_ok-log.log c.in_ok-log.ensures.found;
      ran = record { over_is = is.over_is; at_is = c.begin.ensures };
      told = sym (append-nil c.args.text.now.items);
    }

pub returns-then-self-clause-answered : goal.returns-then-self-clause-answered
returns-then-self-clause-answered g c = λ run is.
    let follower = c.args.self.now.follower in
    let at =
    at-some (g.F.Follower.is_at follower) c.args.self.now.kept c.in-Some.kept run.at c.in-Some.is is.at_is in
    on-ok c.command.result
    (λ done. record {
      next = record run { at = Some done.left };
      answer = done.answer;
      is =
          next-command (g.F.Follower.following follower) run c.args.line.now at.0 at.1 done.left done.answer
          (sym is.over_is ∙ c.if-self.true) done.is;
      ran = record { over_is = is.over_is; at_is = done.at };
      told = done.told;
    })
    (c.command.ensures.answered at.0 at.2)

pub returns-then-is_end_of_log-clause-answered : goal.returns-then-is_end_of_log-clause-answered
returns-then-is_end_of_log-clause-answered g c = λ run is.
    let follower = c.args.self.now.follower in
    let at =
    at-some (g.F.Follower.is_at follower) c.args.self.now.kept c.in-Some.kept run.at c.in-Some.is is.at_is in
    record {
      next = record run { is_over = true };
      answer = [];
      is =
          next-end (g.F.Follower.following follower) run c.args.line.now at.0 at.1 (sym is.over_is ∙ c.if-self.false)
          (sym c.is_end_of_log.ensures ∙ c.if-is_end_of_log.true);
      ran = record {
        over_is = refl;
        at_is = subst (λ known. AreAt (g.F.Follower.is_at follower) known run.at) c.in-Some.is is.at_is;
      };
      told = sym (append-nil c.args.text.now.items);
    }

pub returns-clause-answered : goal.returns-clause-answered
returns-clause-answered g c = λ run is.
    let follower = c.args.self.now.follower in
    let following = g.F.Follower.following follower in
    let at =
    at-some (g.F.Follower.is_at follower) c.args.self.now.kept c.in-Some.kept run.at c.in-Some.is is.at_is in
    record {
      next = record run { at = Some (following.follow c.in_ok-call.call at.0) };
      answer = [];
      is =
          next-call following run c.args.line.now at.0 at.1 c.in_ok-call.call (sym is.over_is ∙ c.if-self.false)
          (sym c.is_end_of_log.ensures ∙ c.if-is_end_of_log.false) c.in_ok-call.ensures.found;
      ran = record { over_is = is.over_is; at_is = c.in_ok-follow.ensures at.0 at.2 };
      told = sym (append-nil c.args.text.now.items);
    }
