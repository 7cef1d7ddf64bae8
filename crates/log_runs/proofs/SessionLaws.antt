-- The next line of a run over a log, by what is read in it.
use Rattle.std.proofs.Common.{◌≡◌, ℕ, Bool, true, false, if◌then◌else◌, List, [], Option, Some, None, Result, Ok, Err, refl, ap, ◌∙◌, subst}
use Rattle.std.specs.Prelude.{OnOk}
use Rattle.plasma_tx.specs.declared.call.RootCall.{RootCall}
use Rattle.plasma_tx.specs.Chain.{Chain}
use Rattle.root_log.specs.Grammar.{chain_in, call_in}
use Rattle.root_log.specs.EndOfLog.{is_end_of_log}
use Rattle.log_runs.specs.Following.{Following, LogRun, first_line, call_line, leaves, log_line, later_line, line_at, next_line}
use Rattle.log_runs.specs.Kept.{AreAt}

-- ---- what is kept

module _ {K A : Type 0} (IsAt : K → A → Type 0) where
  pub at-none : (known : Option K) (at : Option A) → known ≡ None → AreAt IsAt known at → at ≡ None
  at-none known at none is = by at (subst (λ known. AreAt IsAt known at) none is)
    where
      by : (at : Option A) → AreAt IsAt None at → at ≡ None
      by None is = refl
      by (Some at) is = absurd is

  pub at-some : (known : Option K) (kept : K) (at : Option A) → known ≡ Some kept → AreAt IsAt known at
      → (there : A) × (at ≡ Some there) × IsAt kept there
  at-some known kept at some is = by at (subst (λ known. AreAt IsAt known at) some is)
    where
      by : (at : Option A) → AreAt IsAt (Some kept) at → (there : A) × (at ≡ Some there) × IsAt kept there
      by None is = absurd is
      by (Some at) is = (at, refl, is)

-- what holds of a success, in other words
pub on-ok : {T E : Type 0} (result : Result T E) {P Q : Type 0} → (P → Q) → OnOk result P → OnOk result Q
on-ok (Ok x) more is = more is
on-ok (Err e) more is = tt

-- ---- the next line

module _ {A : Type 0} (following : Following A) (run : LogRun A) (line : List ℕ) where
  -- of a run that has lines
  module _ (at : A) (some : run.at ≡ Some at) where
    by-kept : next_line following run line ≡ later_line following run at line
    unfolding next_line
    by-kept = ap (λ known. line_at following run known line) some

    by-over : (over : Bool) → run.is_over ≡ over → next_line following run line
        ≡ (if over then leaves run (following.command at line) else log_line following run at line)
    by-over over is =
        by-kept
        ∙ ap (λ known. if known then leaves run (following.command at line) else log_line following run at line) is

    by-call : run.is_over ≡ false → is_end_of_log line ≡ false
        → next_line following run line ≡ call_line following run at (call_in line)
    by-call going no_end = by-over false going ∙ rw no_end refl

    pub next-end : run.is_over ≡ false → is_end_of_log line ≡ true
        → next_line following run line ≡ Ok (record run { is_over = true }, [])
    next-end going end = by-over false going ∙ rw end refl

    pub next-call : (call : RootCall) → run.is_over ≡ false → is_end_of_log line ≡ false → call_in line ≡ Some call
        → next_line following run line ≡ Ok (record run { at = Some (following.follow call at) }, [])
    next-call call going no_end is = by-call going no_end ∙ ap (call_line following run at) is

    pub next-command : (left : A) (answer : List ℕ) → run.is_over ≡ true
        → following.command at line ≡ Ok (left, answer)
        → next_line following run line ≡ Ok (record run { at = Some left }, answer)
    next-command left answer over is = by-over true over ∙ ap (leaves run) is

  -- the first one
  module _ (none : run.at ≡ None) where
    by-none : next_line following run line ≡ first_line following run (chain_in line)
    unfolding next_line
    by-none = ap (λ known. line_at following run known line) none

    pub next-first : (chain : Chain) → chain_in line ≡ Some chain
        → next_line following run line ≡ Ok (record run { at = Some (following.begin chain) }, [])
    next-first chain is = by-none ∙ ap (first_line following run) is
