-- What the last text of a replay says of its last take; and a run whose words weren't read has nothing to answer.
use Rattle.std.proofs.Common.{◌≡◌, ℕ, inr, Bool, true, false, List, [], ◌++◌, Option, Some, None, Ok, refl, sym, ap, ◌∙◌, subst, arith}
use Rattle.std.proofs.lemmas.Bool.{false≢true}
use Rattle.std.proofs.lemmas.List.{append-nil}
use Rattle.crash_disk.specs.Disk.{History, FaultPlan}
use Rattle.world_rules.specs.Texts.{entries_text}
use Rattle.streamed_lines.specs.Streams.{stream_from, stream_of}
use Rattle.streamed_lines.specs.Lines.{lines_in}
use Rattle.streamed_lines.specs.declared.ending.Ending.{Ending}
use Rattle.streamed_lines.specs.declared.ending.Ending.TheVariants.{Complete, BadLine, ReadFault, TooLong, Ended}
use Rattle.streamed_lines.specs.Outside.{Wrote, WroteFront}
use Rattle.streamed_lines.specs.Prompt.{fault_line, AnswersPromptly}
use Rattle.streamed_lines.specs.Reading.{is_read_fault}
use Rattle.streamed_lines.proofs.OutsideLaws.{gave-none, wrote-none, wrote-more}
use Rattle.streamed_lines.proofs.PromptLaws.{fault-unended, gave-open, prompt-more}
use Rattle.world_core.specs.Worlds.{RunningState}
use Rattle.run_words.specs.declared.form.Form.{Form}
use Rattle.run_words.specs.declared.form.Form.TheVariants.{Replay, Brief, Wallet, Operator, Watcher, InitWallet, InitOperator, InitWatcher, Make, Verify, HssInit, HssSign, HssVerify, Audit, Archive}
use Rattle.node_runs.specs.Sessions.{Outside}
use Rattle.node_runs.specs.Prompt.{RunsPromptly, WatcherPromptly, OperatorPromptly, WalletPromptly}
use Rattle.replay_run.specs.declared.ending.NoCause.{NoCause}
use Rattle.replay_run.specs.Replays.{Replay as ReplayOf, replay_rules, begun, replay_of}
use Rattle.replay_run.specs.Text.{answers_text, last_text}
use Rattle.replay_run.specs.Reading.{Answers}
use Rattle.log_runs.specs.Following.{Following}
use Rattle.log_runs.specs.Auditing.{auditing}
use Rattle.log_runs.specs.Archiving.{archiving}
use Rattle.replay_run.specs.Prompt.{replay_answers, no_answers, followed_answers, AnswersByForm}

-- ---- the last text

-- a replay that met a read fault didn't read its input to the end
replay-unended : (dig : List ℕ → List ℕ) (bytes : List ℕ) (ended : Bool) → (replay_of dig bytes ended).ending ≡ ReadFault
    → ended ≡ false
unfolding replay_of
replay-unended dig bytes ended is = fault-unended replay_rules (begun dig) bytes ended is

module _ (left later : Option (List ℕ)) (dig : List ℕ → List ℕ) (failed : Bool) where
  -- of what is gathered with the last line of a replay a beginning was put
  module _ {H : Type 0} (taken after next : Option (List ℕ)) (digest_of : H → List ℕ → List ℕ)
      (world : RunningState H) (complete : List ℕ)
      (prompt : AnswersPromptly (replay_answers dig) left later failed taken after) where
    faulted : Answers left later taken after digest_of dig [] ReadFault world → WroteFront after next fault_line
        → AnswersPromptly (replay_answers dig) left later failed taken next
    faulted answers front = record {
      earlier = answers.bytes;
      last = [];
      gave = gave-open left later answers.bytes answers.ended answers.gave;
      few = omega arith;
      none = λ is. refl;
      more = front.front;
      wrote =
          subst (λ t. Wrote taken next (t ++ front.front)) put-is
          (wrote-more taken after next answers.put front.front answers.wrote front.wrote);
      fault = λ is. (front.back, front.whole);
    }
      where
        put-is : answers.put ≡ replay_answers dig answers.bytes
        put-is =
            let waits =
            replay-unended dig answers.bytes answers.ended (ap (λ (r : ReplayOf). r.ending) answers.replays) in
            sym (append-nil answers.put) ∙ answers.told
            ∙ ap (λ (r : ReplayOf). answers_text r) (sym answers.replays)
            ∙ ap (λ e. answers_text (replay_of dig answers.bytes e)) waits

    pub replay-last : (ending : Ending NoCause) (text : List ℕ) → failed ≡ is_read_fault (Ok ending)
        → (ending ≡ ReadFault → text ≡ []) → Answers left later taken after digest_of dig text ending world
        → WroteFront after next (text ++ last_text complete ending)
        → AnswersPromptly (replay_answers dig) left later failed taken next
    unfolding last_text
    replay-last Complete text last put answers front =
        prompt-more (replay_answers dig) left later failed taken after next front.front prompt front.wrote last
    replay-last (BadLine n) text last put answers front =
        prompt-more (replay_answers dig) left later failed taken after next front.front prompt front.wrote last
    replay-last (TooLong n) text last put answers front =
        prompt-more (replay_answers dig) left later failed taken after next front.front prompt front.wrote last
    replay-last (Ended n cause) text last put answers front = elim cause [ ]
    replay-last ReadFault text last put answers front =
        let none : text ≡ [] = put refl in
        faulted (subst (λ t. Answers left later taken after digest_of dig t ReadFault world) none answers)
        (subst (λ t. WroteFront after next (t ++ fault_line)) none front)

-- a brief puts nothing on the way
module _ (left later before there : Option (List ℕ)) (failed : Bool) (answers : List ℕ → List ℕ)
    (prompt : AnswersPromptly answers left later failed before there) (taken : Option (List ℕ)) where
  pub brief-unwritten : AnswersPromptly no_answers left later failed taken taken
  brief-unwritten = record {
    earlier = prompt.earlier;
    last = prompt.last;
    gave = prompt.gave;
    few = prompt.few;
    none = prompt.none;
    more = [];
    wrote = wrote-none taken;
    fault = λ is. (fault_line, refl);
  }

  -- and of its one text a beginning
  pub brief-last : (next : Option (List ℕ)) (complete : List ℕ) (ending : Ending NoCause)
      → failed ≡ is_read_fault (Ok ending) → WroteFront taken next (last_text complete ending)
      → AnswersPromptly no_answers left later failed taken next
  unfolding last_text
  brief-last next complete ending last front = record {
    earlier = prompt.earlier;
    last = prompt.last;
    gave = prompt.gave;
    few = prompt.few;
    none = prompt.none;
    more = front.front;
    wrote = front.wrote;
    fault = λ is. (front.back, front.whole ∙ line ending (sym last ∙ is));
  }
    where
      line : (ending : Ending NoCause) → is_read_fault (Ok ending) ≡ true → last_text complete ending ≡ fault_line
      line ReadFault is = refl
      line Complete wrong = absurd (false≢true wrong)
      line (BadLine n) wrong = absurd (false≢true wrong)
      line (TooLong n) wrong = absurd (false≢true wrong)
      line (Ended n cause) wrong = elim cause [ ]

-- ---- words that weren't read

-- nothing has no answers
no-answers : (dig : List ℕ → List ℕ) → replay_answers dig [] ≡ []
unfolding replay_of stream_of stream_from lines_in entries_text
no-answers dig = refl

no-followed-answers : {A : Type 0} (following : Following A) → followed_answers following [] ≡ []
unfolding stream_of stream_from lines_in
no-followed-answers following = refl

module _ {D : Type 0} (told : D → Option History) (plan : D → Option FaultPlan) (faults : D → ℕ)
    (dig : List ℕ → List ℕ) (notes leaves : D) (left taken : Option (List ℕ)) (failed_last : Bool) where
  abbrev outside : Outside
  outside = record { left = left; later = left; taken = taken; after = taken }

  replays-none : RunsPromptly outside failed_last (replay_answers dig)
  replays-none = record {
    earlier = [];
    last = [];
    gave = gave-none left;
    few = omega arith;
    none = λ _. refl;
    more = [];
    wrote = subst (λ t. Wrote taken taken (t ++ [])) (sym (no-answers dig)) (wrote-none taken);
    fault = λ is. (fault_line, refl);
  }

  briefs-none : RunsPromptly outside failed_last no_answers
  briefs-none = record {
    earlier = [];
    last = [];
    gave = gave-none left;
    few = omega arith;
    none = λ _. refl;
    more = [];
    wrote = wrote-none taken;
    fault = λ is. (fault_line, refl);
  }

  follows-none : {A : Type 0} (following : Following A)
      → RunsPromptly outside failed_last (followed_answers following)
  follows-none following = record {
    earlier = [];
    last = [];
    gave = gave-none left;
    few = omega arith;
    none = λ _. refl;
    more = [];
    wrote = subst (λ t. Wrote taken taken (t ++ [])) (sym (no-followed-answers following)) (wrote-none taken);
    fault = λ is. (fault_line, refl);
  }

  pub unread-prompt : (form : Option Form)
      → AnswersByForm told plan faults dig notes leaves outside failed_last form
  unfolding WatcherPromptly OperatorPromptly WalletPromptly
  unread-prompt (Some Replay) = replays-none
  unread-prompt (Some Wallet) = inr (gave-none left)
  unread-prompt (Some Operator) = inr (gave-none left)
  unread-prompt (Some Watcher) = inr (gave-none left)
  unread-prompt (Some Brief) = briefs-none
  unread-prompt None = tt
  unread-prompt (Some (InitWallet tag account seed types)) = tt
  unread-prompt (Some (InitOperator tag account key_seed)) = tt
  unread-prompt (Some (InitWatcher tag account)) = tt
  unread-prompt (Some (Make seed count)) = tt
  unread-prompt (Some (Verify key message signature)) = tt
  unread-prompt (Some (HssInit seed)) = tt
  unread-prompt (Some (HssSign message)) = tt
  unread-prompt (Some (HssVerify key message signature)) = tt
  unread-prompt (Some (Audit key receipt)) = follows-none (auditing dig key receipt)
  unread-prompt (Some Archive) = follows-none (archiving dig)
