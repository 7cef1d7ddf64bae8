-- A run that reads a schedule answers by the rules, and keeps the promise.
use Rattle.std.proofs.Common.{◌≡◌, refl, sym, ap, subst, ◌∙◌, ℕ, inl, inr, Bool, false, List, [], ◌∷◌, ◌++◌, Option, Some, None, arith}
use Rattle.std.specs.Prelude.{◌≢◌, option_map, codes}
use Rattle.std.proofs.lemmas.List.{append-nil}
use Rattle.crash_disk.specs.Disk.{History, FaultPlan}
use Rattle.world_rules.specs.declared.verdict.Exhibit.{Exhibit}
use Rattle.world_rules.specs.declared.verdict.Exhibit.TheVariants.{Nothing, Collision, Forgery}
use Rattle.world_rules.specs.Steps.{Run}
use Rattle.world_rules.specs.Texts.{exhibit_text}
use Rattle.world_rules.specs.Laws.{IsDigest}
use Rattle.streamed_lines.specs.declared.ending.Ending.{Ending}
use Rattle.streamed_lines.specs.Outside.{Gave, WroteFront}
use Rattle.run_words.specs.declared.form.Form.{Form}
use Rattle.run_words.specs.declared.form.Form.TheVariants.{Replay, Brief, Wallet, Operator, Watcher, InitWallet, InitOperator, InitWatcher, Make, Verify, HssInit, HssSign, HssVerify, Audit, Archive}
use Rattle.run_endings.specs.declared.status.Status.{Status}
use Rattle.run_endings.specs.declared.status.Status.TheVariants.{NoMemory}
use Rattle.run_endings.specs.Outputs.{Output, EndsAs}
use Rattle.node_runs.specs.Sessions.{Outside}
use Rattle.replay_run.specs.declared.ending.NoCause.{NoCause}
use Rattle.replay_run.specs.Replays.{replay_of}
use Rattle.replay_run.specs.Does.{Does}
use Rattle.replay_run.specs.Headline.{run_text, run_brief, AnswersByTheRules, KeepsByForm}
use Rattle.replay_run.proofs.EndingLaws.{endings-have_causes, answered-are_a_run}
use Rattle.replay_run.proofs.Promises.{replay-keeps, offers-taken}

abbrev first_of : List ℕ → ℕ
first_of [] = 0
first_of (code ∷ text) = code

-- another exhibit than none has another text: its first letter is another
shown-text : (exhibit : Exhibit) → exhibit ≢ Nothing → exhibit_text exhibit ≢ codes "no exhibit" ++ 10 ∷ []
unfolding exhibit_text
shown-text Nothing isnt is = isnt refl
shown-text (Collision first second) isnt is =
    let letters : 99 ≡ 110 = ap first_of is in
    grind (arith, letters)
shown-text (Forgery line) isnt is =
    let letters : 102 ≡ 110 = ap first_of is in
    grind (arith, letters)

-- where nothing was read or written, nothing was given, and a beginning of each text was written
all-left : (left : Option (List ℕ)) → left ≡ option_map (λ l. [] ++ l) left
all-left None = refl
all-left (Some left) = refl

none-taken : (taken : Option (List ℕ)) → taken ≡ option_map (λ t. t ++ []) taken
none-taken None = refl
none-taken (Some taken) = ap Some (sym (append-nil taken))

module _ (dig : List ℕ → List ℕ) (is_digest : IsDigest dig) (outside : Outside) (failed : Type 0) where
  module _ (text : (List ℕ → List ℕ) → Run → Ending NoCause → Output) where
    by-the_rules : (status : Status) (bytes : List ℕ) (ended : Bool) → Gave outside.left outside.later bytes ended
        → EndsAs (text dig (replay_of dig bytes ended).run (replay_of dig bytes ended).ending) status outside.taken
        outside.after failed
        → AnswersByTheRules dig text outside failed status
    by-the_rules status bytes ended gave ends =
        let keeps = replay-keeps dig bytes ended is_digest in record {
          bytes = bytes;
          ended = ended;
          run = (replay_of dig bytes ended).run;
          ending = (replay_of dig bytes ended).ending;
          gave = gave;
          is_run = answered-are_a_run dig bytes ended;
          cause = endings-have_causes dig bytes ended;
          wrote = ends;
          keeps = keeps;
          lost_text = λ verdict has lost. shown-text _ (keeps.lost verdict has lost);
          at_end = offers-taken dig bytes ended is_digest;
        }

    nothing-written : outside.after ≡ outside.taken → (written : List ℕ)
        → WroteFront outside.taken outside.after written
    nothing-written unwritten written =
        record { front = []; back = written; whole = refl; wrote = unwritten ∙ none-taken outside.taken }

    without-words : outside.later ≡ outside.left → outside.after ≡ outside.taken
        → AnswersByTheRules dig text outside failed NoMemory
    without-words unread unwritten =
        by-the_rules NoMemory [] false
        (record {
          given = subst (λ later. outside.left ≡ option_map (λ l. [] ++ l) later) (sym unread) (all-left outside.left);
          end = λ is. cc (is);
        })
        (record {
          front = nothing-written unwritten _;
          fault = λ _. inr (nothing-written unwritten _);
        })

  module _ {D : Type 0} (told : D → Option History) (plan : D → Option FaultPlan) (faults : D → ℕ)
      (notes leaves new_notes new_leaves : D) (status : Status) where
    pub keeps-by_form : (form : Option Form)
        → Does told plan faults dig notes leaves new_notes new_leaves outside failed status form
        → KeepsByForm dig outside failed status form
    keeps-by_form (Some Replay) (inl does) = by-the_rules run_text status does.bytes does.ended does.gave does.ends
    keeps-by_form (Some Replay) (inr none) =
        subst (AnswersByTheRules dig run_text outside failed) (sym none.is)
        (without-words run_text none.unread none.unwritten)
    keeps-by_form (Some Brief) (inl does) = by-the_rules run_brief status does.bytes does.ended does.gave does.ends
    keeps-by_form (Some Brief) (inr none) =
        subst (AnswersByTheRules dig run_brief outside failed) (sym none.is)
        (without-words run_brief none.unread none.unwritten)
    keeps-by_form None does = tt
    keeps-by_form (Some Wallet) does = tt
    keeps-by_form (Some Operator) does = tt
    keeps-by_form (Some Watcher) does = tt
    keeps-by_form (Some (InitWallet tag account seed types)) does = tt
    keeps-by_form (Some (InitOperator tag account key_seed)) does = tt
    keeps-by_form (Some (InitWatcher tag account)) does = tt
    keeps-by_form (Some (Make seed count)) does = tt
    keeps-by_form (Some (Verify key message signature)) does = tt
    keeps-by_form (Some (HssInit seed)) does = tt
    keeps-by_form (Some (HssSign message)) does = tt
    keeps-by_form (Some (HssVerify key message signature)) does = tt
    keeps-by_form (Some (Audit key receipt)) does = tt
    keeps-by_form (Some Archive) does = tt
