-- What an issue, an order and a migration did, each as what a command did to an operator and its desk.
use Rattle.std.proofs.Common.{◌≡◌, ℕ, Bool, true, false, List, [], ◌∷◌, ◌++◌, codes, Option, Some, None, option_map, Result, Ok, Err, refl, sym, ◌∙◌, subst, inl, inr}
use Rattle.std.specs.Prelude.{IsErrAnd}
use Rattle.std.proofs.lemmas.Bool.{true≢false}
use Rattle.plasma_base.specs.HexText.{hex_text}
use Rattle.node_replies.specs.Causes.{phrase}
use Rattle.crash_disk.specs.Disk.{History, FaultPlan}
use Rattle.node_journal.specs.Notes.{NotesState, Did}
use Rattle.node_journal.specs.declared.stop.Stop.{Stop}
use Rattle.node_journal.specs.declared.stop.Stop.TheVariants.{Closed, NoMemory, DeviceFault}
use Rattle.receipt_audit.specs.declared.issuing.Receipt.{Receipt}
use Rattle.receipt_audit.specs.declared.refusal.IssueRefusal.{IssueRefusal}
use Rattle.receipt_audit.specs.Desk.{IssueEffect, IssueStop, AtOperator, AtDesk, DidIssue, issue_or, issue_effect}
use Rattle.lms_sign.specs.declared.secret.Secret.{Secret}
use Rattle.plasma_tx.specs.declared.call.RootCall.{RootCall}
use Rattle.node_sessions.specs.declared.said.Said.{Said}
use Rattle.node_answers.specs.Answers.{StopsIn, IsSaid}
use Rattle.node_answers.specs.Desks.{stop_at, issue_says}
use Rattle.node_answers.specs.Doing.{DidNotes, DidEach, DidDesk}

-- what isn't offered adds no note
abbrev pub IsQuiet : IssueEffect → Type 0
IsQuiet effect = effect.is_offered ≡ false → effect.note ≡ None

quiet-or : (cause : Option IssueRefusal) (effect : IssueEffect) → effect.is_offered ≡ true
    → IsQuiet (issue_or cause effect)
quiet-or None effect offered not = absurd (true≢false (sym offered ∙ not))
quiet-or (Some why) effect offered not = refl

pub quiet : (dig judge : List ℕ → List ℕ) (secret : Secret) (notes records : List (List ℕ)) (log : List RootCall)
    (bytes : List ℕ) (due : ℕ) → IsQuiet (issue_effect dig judge secret notes records log bytes due)
unfolding issue_effect
quiet dig judge secret notes records log bytes due = quiet-or _ _ refl

-- memory ran out behind a command that was done
pub ran-out : (result : Result Said Stop) → IsErrAnd result (λ stop. stop ≡ NoMemory) → StopsIn result None
ran-out (Ok said) never = absurd never
ran-out (Err NoMemory) is = inl refl
ran-out (Err Closed) is = cc
ran-out (Err DeviceFault) is = cc

pub ran-out-of : (result : Result Said Stop) (stop : Option Stop) → stop ≡ None
    → IsErrAnd result (λ stop. stop ≡ NoMemory) → StopsIn result stop
ran-out-of result stop none is = subst (λ stop. StopsIn result stop) (sym none) (ran-out result is)

-- a receipt was put as its text
pub promised : (issued count due : ℕ) (receipt : Receipt) (answer : Result Receipt IssueRefusal)
    (words before after : List ℕ) (said : Said) → issued ≡ count → Ok receipt ≡ answer
    → words ≡ (phrase (codes "promised") (issued ∷ due ∷ []) ++ 10 ∷ []) ++ hex_text receipt.bytes
    → IsSaid (Ok (words ++ 10 ∷ [])) said before after
    → IsSaid (issue_says count due answer) said before after
promised issued count due receipt answer words before after said same is spelled says =
    subst (λ answer. IsSaid (issue_says count due answer) said before after) is
    (subst (λ n. IsSaid (issue_says n due (Ok receipt)) said before after) same
    (subst (λ words. IsSaid (Ok (words ++ 10 ∷ [])) said before after) spelled says))

-- over disks that tell their history, foretell their faults and count them
module _ {D : Type 0} (told : D → Option History) (plan : D → Option FaultPlan) (faults : D → ℕ) where
  -- an issue that wasn't stopped
  unstopped : (answer : Result Receipt IssueRefusal) (offered : Bool) (note leaf : Option (List ℕ))
      (old desk new after : NotesState D) → (offered ≡ false → note ≡ None) → old.closed ≡ false
      → DidIssue told plan faults told plan faults
      (record { answer = answer; is_offered = offered; note = note; leaf = leaf }) old desk None new after
      → DidEach told plan faults note leaf old desk None new after
  unstopped answer true noted leaf old desk new after none is_open did = did
  unstopped answer false noted leaf old desk new after none is_open did =
      (subst (λ note. Did told plan faults note old None new) (sym (none refl)) (is_open, did.0), did.1)

  -- one that was stopped at the operator, and one at the desk
  at-operator : (why : Stop) (effect : IssueEffect) (old desk new after : NotesState D)
      → DidIssue told plan faults told plan faults effect old desk (Some (AtOperator why)) new after
      → DidEach told plan faults effect.note effect.leaf old desk (Some why) new after
  at-operator DeviceFault effect old desk new after did = inl (did.1, did.2.1)
  at-operator why effect old desk new after did = (did.1.1, did.2.1, inl did.1)

  at-desk : (why : Stop) (effect : IssueEffect) (old desk new after : NotesState D)
      → DidIssue told plan faults told plan faults effect old desk (Some (AtDesk why)) new after
      → DidEach told plan faults effect.note effect.leaf old desk (Some why) new after
  at-desk DeviceFault effect old desk new after did = inr (did.1, did.2)
  at-desk NoMemory effect old desk new after did = (did.1, did.2.1, inr did.2)
  at-desk Closed effect old desk new after did = (did.0, did.1.1, inr did.1)

  each : (stop : Option IssueStop) (effect : IssueEffect) (old desk new after : NotesState D) → IsQuiet effect
      → old.closed ≡ false → DidIssue told plan faults told plan faults effect old desk stop new after
      → DidEach told plan faults effect.note effect.leaf old desk (option_map stop_at stop) new after
  each None effect old desk new after none is_open did =
      unstopped effect.answer effect.is_offered effect.note effect.leaf old desk new after none is_open did
  each (Some (AtOperator why)) effect old desk new after none is_open did =
      at-operator why effect old desk new after did
  each (Some (AtDesk why)) effect old desk new after none is_open did = at-desk why effect old desk new after did

  -- an issue, of what stopped it and how it was answered
  pub issue-did : (stop : Option IssueStop) (effect : IssueEffect) (old desk new after : NotesState D)
      (result : Result Said Stop) → IsQuiet effect → old.closed ≡ false
      → DidIssue told plan faults told plan faults effect old desk stop new after
      → StopsIn result (option_map stop_at stop)
      → DidDesk told plan faults effect.note effect.leaf old desk result new after
  issue-did stop effect old desk new after result none is_open did known =
      (option_map stop_at stop, each stop effect old desk new after none is_open did, known)

  -- a command that the operator's notes alone are asked in, and one that is its desk's alone
  pub notes-did : (note leaf : Option (List ℕ)) (old desk new : NotesState D) (result : Result Said Stop)
      → leaf ≡ None → desk.closed ≡ false → DidNotes told plan faults note old result new
      → DidDesk told plan faults note leaf old desk result new desk
  notes-did note leaf old desk new result none is_open (stop, did, known) =
      subst (λ leaf. DidDesk told plan faults note leaf old desk result new desk) (sym none)
      (stop, by stop did, known)
    where
      by : (stop : Option Stop) → Did told plan faults note old stop new
          → DidEach told plan faults note None old desk stop new desk
      by None did = (did, (is_open, refl))
      by (Some DeviceFault) did = inl (did, refl)
      by (Some NoMemory) did = (did.1, refl, inl did)
      by (Some Closed) did = (did.1, refl, inl did)
