-- Good inputs are answered to their end.
use Rattle.std.proofs.Common.{◌≡◌, ◌⊎◌, ℕ, zero, suc, ◌+◌, Bool, true, false, List, [], ◌∷◌, ◌++◌, length, Option, Some, None, inl, inr, refl, sym, ap, subst}
use Rattle.crash_disk.specs.Disk.{History, FaultPlan}
use Rattle.schedule_text.specs.declared.line.Line.{Line}
use Rattle.streamed_lines.specs.declared.ending.Ending.{Ending}
use Rattle.streamed_lines.specs.declared.ending.Ending.TheVariants.{Complete, ReadFault}
use Rattle.streamed_lines.specs.Lines.{lines_in}
use Rattle.streamed_lines.proofs.CompleteLaws.{reads-well}
use Rattle.streamed_lines.specs.Outside.{Gave}
use Rattle.streamed_lines.proofs.BeginningLaws.{beginnings_wait}
use Rattle.run_words.specs.declared.form.Form.{Form}
use Rattle.run_words.specs.declared.form.Form.TheVariants.{Replay, Brief, Wallet, Operator, Watcher, InitWallet, InitOperator, InitWatcher, Make, Verify, HssInit, HssSign, HssVerify, Audit, Archive}
use Rattle.run_endings.specs.declared.status.Status.{Status}
use Rattle.run_endings.specs.declared.status.Status.TheVariants.{NoMemory}
use Rattle.run_endings.specs.Statuses.{IsDoneUnlessFailed}
use Rattle.run_endings.proofs.EndingLaws.{ends-done}
use Rattle.node_runs.specs.Sessions.{Outside}
use Rattle.hss_runs.specs.Verdict.{is_hss_verified, verdict_output}
use Rattle.hss_runs.proofs.CompleteLaws.{signing-complete}
use Rattle.log_runs.specs.Auditing.{auditing}
use Rattle.log_runs.specs.Archiving.{archiving}
use Rattle.log_runs.proofs.CompleteLaws.{log-complete}
use Rattle.node_runs.proofs.CompleteLaws.{watcher-complete, operator-complete, wallet-complete, init-complete, init-both-complete}
use Rattle.replay_run.specs.declared.ending.NoCause.{NoCause}
use Rattle.replay_run.specs.Replays.{begun, replay_rules, replay_of}
use Rattle.replay_run.specs.Output.{status_of, replay_output, brief_output, make_output, verify_output}
use Rattle.replay_run.specs.Forms.{is_verified}
use Rattle.replay_run.specs.Endings.{EndsBy, KeepTheRules}
use Rattle.replay_run.specs.Does.{DoesForm}
use Rattle.replay_run.specs.Headline.{run_text, run_brief}
use Rattle.replay_run.specs.Complete.{GoodSchedulesAreAnswered, PartsOfGoodSchedulesWait, CompletesByForm}
use Rattle.replay_run.proofs.EndingLaws.{endings-have_causes}
use Rattle.replay_run.proofs.RuleLaws.{kept-are_answered}

-- a replay that is complete has an answer to each line
all-answered : (dig : List ℕ → List ℕ) (ended : Bool) (earlier : List Line) (n start : ℕ) (lines : List (List ℕ))
    (more : ℕ) → EndsBy dig ended earlier n start lines more Complete → more ≡ length lines
unfolding EndsBy
all-answered dig ended earlier n start [] zero ends = refl
all-answered dig ended earlier n start [] (suc more) never = absurd never
all-answered dig ended earlier n start (line ∷ lines) zero never = absurd never
all-answered dig ended earlier n start (line ∷ lines) (suc more) ends =
    ap suc (all-answered dig ended (ends.1.0 ∷ earlier) (n + 1) (start + length line) lines more ends.1.2)

-- ---- the text of a replay

pub good-are_answered : GoodSchedulesAreAnswered
good-are_answered dig bytes keep =
    let run = (replay_of dig bytes true).run in
    let is = kept-are_answered dig bytes keep in (
      all-answered dig true [] 1 0 (lines_in bytes) (length run.entries)
          (subst (EndsBy dig true [] 1 0 (lines_in bytes) (length run.entries)) is
          (endings-have_causes dig bytes true)),
      ap (run_text dig run) is,
      ap (run_brief dig run) is,
    )

-- what is read of a good schedule ends it so
read-well : (dig : List ℕ → List ℕ) (input : List ℕ) (left later : Option (List ℕ)) (bytes : List ℕ) (ended : Bool)
    → left ≡ Some input → KeepTheRules dig [] 1 0 (lines_in input)
    → Gave left later bytes ended
    → ((replay_of dig bytes ended).ending ≡ Complete) ⊎ ((replay_of dig bytes ended).ending ≡ ReadFault)
unfolding replay_of
read-well dig input left later bytes ended is keep gave =
    reads-well replay_rules (begun dig) input left later bytes ended is gave (kept-are_answered dig input keep)

part-ends : (dig : List ℕ → List ℕ) (front rest : List ℕ) → KeepTheRules dig [] 1 0 (lines_in (front ++ rest))
    → (replay_of dig front false).ending ≡ ReadFault
unfolding replay_of
part-ends dig front rest keep =
    beginnings_wait replay_rules (begun dig) front rest (kept-are_answered dig (front ++ rest) keep)

pub parts-wait : PartsOfGoodSchedulesWait
parts-wait dig front rest keep =
    let is = part-ends dig front rest keep in
    (ap (run_text dig (replay_of dig front false).run) is, ap (run_brief dig (replay_of dig front false).run) is)

-- ---- a run

replay-may : (ending : Ending NoCause) → (ending ≡ Complete) ⊎ (ending ≡ ReadFault)
    → IsDoneUnlessFailed (status_of ending)
replay-may ending (inl is) = subst (λ e. IsDoneUnlessFailed (status_of e)) (sym is) tt
replay-may ending (inr is) = subst (λ e. IsDoneUnlessFailed (status_of e)) (sym is) tt

module _ {D : Type 0} (told : D → Option History) (plan : D → Option FaultPlan) (faults : D → ℕ)
    (dig : List ℕ → List ℕ) (notes leaves new_notes new_leaves : D) (outside : Outside) (failed : Type 0)
    (status : Status) where
  pub does-complete : (form : Option Form)
      → DoesForm told plan faults dig notes leaves new_notes new_leaves outside failed status form
      → CompletesByForm told dig notes leaves outside.left status form
  does-complete (Some Replay) does =
      λ input is keep.
      ends-done (replay_output dig does.bytes does.ended) status _ _ _
      (replay-may _ (read-well dig input outside.left outside.later does.bytes does.ended is keep does.gave)) does.ends
  does-complete (Some Brief) does =
      λ input is keep.
      ends-done (brief_output dig does.bytes does.ended) status _ _ _
      (replay-may _ (read-well dig input outside.left outside.later does.bytes does.ended is keep does.gave)) does.ends
  does-complete (Some Wallet) does =
      wallet-complete told plan faults dig notes leaves new_notes new_leaves outside failed status does
  does-complete (Some Operator) does =
      operator-complete told plan faults dig notes leaves new_notes new_leaves outside failed status does
  does-complete (Some Watcher) does =
      watcher-complete told plan faults dig notes new_notes outside failed status does
  does-complete (Some (Make seed count)) does = ends-done (make_output seed count) status _ _ _ tt does
  does-complete (Some (Verify key message signature)) does =
      ends-done (verify_output (is_verified key message signature)) status _ _ _ tt does
  does-complete None does = tt
  does-complete (Some (InitWallet tag account seed types)) does =
      init-both-complete told plan faults dig outside.left outside.taken outside.after status _ notes leaves new_notes
      new_leaves does
  does-complete (Some (InitOperator tag account None)) does =
      init-complete told plan faults dig outside.left outside.taken outside.after status _ notes new_notes does
  does-complete (Some (InitOperator tag account (Some seed))) does =
      init-both-complete told plan faults dig outside.left outside.taken outside.after status _ notes leaves new_notes
      new_leaves does
  does-complete (Some (InitWatcher tag account)) does =
      init-complete told plan faults dig outside.left outside.taken outside.after status _ notes new_notes does
  does-complete (Some (HssInit seed)) does =
      init-both-complete told plan faults dig outside.left outside.taken outside.after status _ notes leaves new_notes
      new_leaves does
  does-complete (Some (HssSign message)) does =
      signing-complete told plan faults outside.taken outside.after status message notes leaves new_notes new_leaves
      does
  does-complete (Some (HssVerify key message signature)) does =
      ends-done (verdict_output (is_hss_verified key message signature)) status _ _ _ tt does
  does-complete (Some (Audit key receipt)) does =
      log-complete (auditing dig key receipt) outside.left outside.later outside.taken outside.after failed status does
  does-complete (Some Archive) does =
      log-complete (archiving dig) outside.left outside.later outside.taken outside.after failed status does

-- a run for whose words memory ran out
module _ {D : Type 0} (told : D → Option History) (dig : List ℕ → List ℕ) (notes leaves : D)
    (left : Option (List ℕ)) where
  pub no-words : (form : Option Form) → CompletesByForm told dig notes leaves left NoMemory form
  no-words (Some Replay) = λ input is keep. tt
  no-words (Some Brief) = λ input is keep. tt
  no-words (Some Wallet) =
      λ of_notes of_leaves wallet input notes_told leaves_told notes_are leaves_are bound is keep. tt
  no-words (Some Operator) = λ history records input is reads from keep. tt
  no-words (Some Watcher) = λ history records input is reads from keep. tt
  no-words (Some (Make seed count)) = tt
  no-words (Some (Verify key message signature)) = tt
  no-words None = tt
  no-words (Some (InitWallet tag account seed types)) =
      λ of_notes of_leaves notes_told leaves_told free bare. tt
  no-words (Some (InitOperator tag account None)) = λ history is free. tt
  no-words (Some (InitOperator tag account (Some seed))) = λ of_notes of_leaves notes_told leaves_told free bare. tt
  no-words (Some (InitWatcher tag account)) = λ history is free. tt
  no-words (Some (HssInit seed)) = λ of_notes of_leaves notes_told leaves_told free bare. tt
  no-words (Some (HssSign message)) =
      λ of_notes of_leaves records levels next notes_told leaves_told notes_are leaves_are signable is. tt
  no-words (Some (HssVerify key message signature)) = tt
  no-words (Some (Audit key receipt)) = λ input is keep. tt
  no-words (Some Archive) = λ input is keep. tt
