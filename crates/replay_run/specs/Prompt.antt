-- That a run answers the lines of its input before it reads more of them.
use Rattle.std.specs.Prelude.{ℕ, Bool, false, List, [], Option, Some}
use Rattle.crash_disk.specs.Disk.{History, FaultPlan}
use Rattle.run_words.specs.{declared.form.Form.{Form}, declared.form.Form.TheVariants.{Replay, Brief, Wallet, Operator, Watcher, Audit, Archive}}
use Rattle.node_runs.specs.{Sessions.{Outside}, Prompt.{RunsPromptly, WatcherPromptly, OperatorPromptly, WalletPromptly}}
use Rattle.log_runs.specs.{Following.{Following, log_rules, begun}, Auditing.{auditing}, Archiving.{archiving}}
use Rattle.streamed_lines.specs.Prompt.{answers_so_far}
use Rattle.replay_run.specs.{Replays.{replay_of}, Text.{answers_text}}

-- under a digest, a replay's answers to the whole lines of these bytes, which may go on
abbrev pub replay_answers : (List ℕ → List ℕ) → List ℕ → List ℕ
replay_answers dig bytes = answers_text (replay_of dig bytes false)

-- a brief's: none
abbrev pub no_answers : List ℕ → List ℕ
no_answers bytes = []

-- the answers to the whole lines of these bytes, which may go on, by what follows the log
abbrev pub followed_answers : {A : Type 0} → Following A → List ℕ → List ℕ
followed_answers following = answers_so_far (log_rules following) begun

-- Over disks that tell their history, foretell their faults and count them, and under a digest: a run that was handed
-- these disks of notes and of leaves, that did this outside, and whose last take failed or didn't. A replay, the
-- sessions of nodes, and an audit or an archive answer each line before they read more, and a brief answers none; behind
-- a put that failed none of these takes more. No other form reads.
abbrev pub AnswersByForm : {D : Type 0} → (D → Option History) → (D → Option FaultPlan) → (D → ℕ)
    → (List ℕ → List ℕ) → D → D → Outside → Bool → Option Form → Type 0
AnswersByForm told plan faults dig notes leaves outside failed_last (Some Replay) =
    RunsPromptly outside failed_last (replay_answers dig)
AnswersByForm told plan faults dig notes leaves outside failed_last (Some Brief) =
    RunsPromptly outside failed_last no_answers
AnswersByForm told plan faults dig notes leaves outside failed_last (Some Wallet) =
    WalletPromptly outside failed_last told plan faults dig notes leaves
AnswersByForm told plan faults dig notes leaves outside failed_last (Some Operator) =
    OperatorPromptly outside failed_last told plan faults dig notes leaves
AnswersByForm told plan faults dig notes leaves outside failed_last (Some Watcher) =
    WatcherPromptly outside failed_last told plan faults dig notes
AnswersByForm told plan faults dig notes leaves outside failed_last (Some (Audit key receipt)) =
    RunsPromptly outside failed_last (followed_answers (auditing dig key receipt))
AnswersByForm told plan faults dig notes leaves outside failed_last (Some Archive) =
    RunsPromptly outside failed_last (followed_answers (archiving dig))
AnswersByForm told plan faults dig notes leaves outside failed_last form = Unit {0}
