-- A session's next line, by what is read in it.
use Rattle.std.proofs.Common.{◌≡◌, ℕ, Bool, true, false, if◌then◌else◌, List, [], Option, Some, None, Result, Ok, Err, refl, sym, ap, ◌∙◌}
use Rattle.std.specs.Prelude.{OnOk}
use Rattle.std.proofs.lemmas.List.{append-nil}
use Rattle.plasma_tx.specs.declared.call.RootCall.{RootCall}
use Rattle.plasma_tx.specs.Chain.{Chain}
use Rattle.root_log.specs.Grammar.{chain_in, appended}
use Rattle.root_log.specs.EndOfLog.{is_end_of_log}
use Rattle.node_journal.specs.declared.stop.Stop.{Stop}
use Rattle.streamed_lines.specs.Reading.{IsAnswered}
use Rattle.node_sessions.specs.Sessions.{SessionState, first_log, longer_log, joins, leaves, command_line, log_line, later_line, line_of, next_line, session_rules}
use Rattle.node_sessions.specs.Commands.{IsSession, IsDone}
use Rattle.node_sessions.specs.declared.said.Said.TheVariants.{Answered}

-- what holds of a success, in other words
pub on-ok : {T E : Type 0} (result : Result T E) {P Q : Type 0} → (P → Q) → OnOk result P → OnOk result Q
on-ok (Ok x) more is = more is
on-ok (Err e) more is = tt

-- over a node that is where its commands left it, or was stopped in one
module _ {N A L : Type 0} (IsAt : N → A → Type 0) (IsStopped : N → List RootCall → A → L → Stop → Type 0) (tag : List ℕ)
    (command_in : List ℕ → Option L) (does : List RootCall → A → L → Result (A × List ℕ) (List ℕ)) where
  -- a line behind the first one, by whether the log has ended
  either : (run : SessionState A) (line : List ℕ) (log : Chain) (over : Bool) → run.is_over ≡ over
      → later_line tag command_in does run log line
      ≡ (if over then leaves run (command_line does log.log run.node (command_in line)) else log_line run log line)
  either run line log over is =
      ap (λ known. if known then leaves run (command_line does log.log run.node (command_in line))
      else log_line run log line) is

  -- the first line
  pub begins : (session : SessionState N) (run : SessionState A) (line text : List ℕ) (log : Chain)
      → session.log ≡ None → first_log tag (chain_in line) ≡ Ok log → IsSession IsAt IsStopped session run
      → IsAnswered (session_rules tag command_in does) (IsSession IsAt IsStopped) run line text text
      (record session { log = Some log })
  unfolding next_line
  begins session run line text log none begun is = record {
    next = record run { log = Some log };
    answer = [];
    is =
        ap (λ known. line_of tag command_in does run known line) (sym is.log_is ∙ none)
        ∙ ap (joins run) begun;
    ran = record { log_is = refl; over_is = is.over_is; node_is = is.node_is };
    told = sym (append-nil text);
  }

  -- the line that ends the log
  pub ends : (session : SessionState N) (run : SessionState A) (line text : List ℕ) (log : Chain)
      → session.log ≡ Some log → session.is_over ≡ false → is_end_of_log line ≡ true
      → IsSession IsAt IsStopped session run
      → IsAnswered (session_rules tag command_in does) (IsSession IsAt IsStopped) run line text text
      (record session { log = Some log; is_over = true })
  unfolding next_line
  ends session run line text log some going end is = record {
    next = record run { is_over = true };
    answer = [];
    is =
        ap (λ known. line_of tag command_in does run known line) (sym is.log_is ∙ some)
        ∙ either run line log false (sym is.over_is ∙ going) ∙ rw end refl;
    ran = record { log_is = sym some ∙ is.log_is; over_is = refl; node_is = is.node_is };
    told = sym (append-nil text);
  }

  -- a call of the log
  pub reads : (session : SessionState N) (run : SessionState A) (line text : List ℕ) (log longer : Chain)
      → session.log ≡ Some log → session.is_over ≡ false → is_end_of_log line ≡ false
      → longer_log (appended log line) ≡ Ok longer → IsSession IsAt IsStopped session run
      → IsAnswered (session_rules tag command_in does) (IsSession IsAt IsStopped) run line text text
      (record session { log = Some longer })
  unfolding next_line
  reads session run line text log longer some going no_end call is = record {
    next = record run { log = Some longer };
    answer = [];
    is =
        ap (λ known. line_of tag command_in does run known line) (sym is.log_is ∙ some)
        ∙ either run line log false (sym is.over_is ∙ going) ∙ rw no_end (ap (joins run) call);
    ran = record { log_is = refl; over_is = is.over_is; node_is = is.node_is };
    told = sym (append-nil text);
  }

  -- a command
  pub commands : (session : SessionState N) (run : SessionState A) (line before after : List ℕ) (log : Chain) (new : N)
      (command : L) → session.log ≡ Some log → session.is_over ≡ true → command_in line ≡ Some command
      → IsSession IsAt IsStopped session run
      → IsDone IsAt (does log.log run.node command) run.node Answered before after new
      → IsAnswered (session_rules tag command_in does) (IsSession IsAt IsStopped) run line before after
      (record session { log = Some log; node = new })
  unfolding next_line
  commands session run line before after log new command some over spells is (left, answer, does_so, at, told) = record {
    next = record run { node = left };
    answer = answer;
    is =
        ap (λ known. line_of tag command_in does run known line) (sym is.log_is ∙ some)
        ∙ either run line log true (sym is.over_is ∙ over) ∙ rw (spells, does_so) refl;
    ran = record { log_is = sym some ∙ is.log_is; over_is = is.over_is; node_is = at };
    told = told;
  }
