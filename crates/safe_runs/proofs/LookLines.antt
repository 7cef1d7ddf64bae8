-- The next line of a look, by what is read in it.
use Rattle.std.proofs.Common.{◌≡◌, ℕ, Bool, true, false, if◌then◌else◌, List, [], Option, Some, None, Ok, refl, ap, ◌∙◌}
use Rattle.plasma_tx.specs.Chain.{Chain}
use Rattle.root_log.specs.Grammar.{chain_in, appended}
use Rattle.root_log.specs.EndOfLog.{is_end_of_log}
use Rattle.node_sessions.specs.Sessions.{first_log, longer_log, joins, log_line}
use Rattle.safe_runs.specs.declared.told.Told.{Told}
use Rattle.safe_runs.specs.Sessions.{LookState, told_in, tells, later_line, line_of, next_line}

module _ (tag : List ℕ) (run : LookState) (line : List ℕ) where
  pub next-first : (log : Chain) → run.log ≡ None → first_log tag (chain_in line) ≡ Ok log
      → next_line tag run line ≡ Ok (record run { log = Some log }, [])
  unfolding next_line
  next-first log none begun = ap (λ known. line_of tag run known line) none ∙ ap (joins run) begun

  -- of a log that has lines
  module _ (log : Chain) (some : run.log ≡ Some log) where
    by-log : next_line tag run line ≡ later_line tag run log line
    unfolding next_line
    by-log = ap (λ known. line_of tag run known line) some

    by-over : (over : Bool) → run.is_over ≡ over → next_line tag run line
        ≡ (if over then tells run (told_in run.node line) else log_line run log line)
    by-over over is =
        by-log ∙ ap (λ known. if known then tells run (told_in run.node line) else log_line run log line) is

    pub next-told : (told : Told) → run.is_over ≡ true → told_in run.node line ≡ Ok told
        → next_line tag run line ≡ Ok (record run { node = told }, [])
    next-told told over is = by-over true over ∙ ap (tells run) is

    pub next-end : run.is_over ≡ false → is_end_of_log line ≡ true
        → next_line tag run line ≡ Ok (record run { is_over = true }, [])
    next-end going end = by-over false going ∙ rw end refl

    pub next-call : (longer : Chain) → run.is_over ≡ false → is_end_of_log line ≡ false
        → longer_log (appended log line) ≡ Ok longer
        → next_line tag run line ≡ Ok (record run { log = Some longer }, [])
    next-call longer going no_end call = by-over false going ∙ rw no_end (ap (joins run) call)
