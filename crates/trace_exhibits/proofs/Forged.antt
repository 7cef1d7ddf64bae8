-- What is found of forgeries once more was taken.
use Rattle.std.proofs.Common.{◌≡◌, ℕ, Bool, true, List, ◌∷◌, Option, Some, None, sym, subst}
use Rattle.std.specs.Prelude.{MatchOption, is_some, Result, Ok, Err, OnOk}
use Rattle.world_rules.specs.Events.{Event}
use Rattle.world_rules.specs.Exhibits.{first_forgery}
use Rattle.trace_exhibits.proofs.Lined.{forgery-stays}
use Rattle.trace_exhibits.specs.Opened.{Opened}
use Rattle.trace_exhibits.specs.Met.{AreStill}
use Rattle.trace_exhibits.specs.Tested.{KeepsTested}
use Rattle.trace_exhibits.specs.Findings.{KeepsEvents, FindsForgery}
use Rattle.trace_exhibits.specs.declared.forgeries.Forgeries.{Forgeries}
use Rattle.trace_exhibits.specs.declared.tested.Tested.{Tested}

pub on-ok-weaker : {X E : Type 0} (result : Result X E) (P Q : Type 0) → (P → Q) → OnOk result P → OnOk result Q
on-ok-weaker (Ok x) P Q so is = so is
on-ok-weaker (Err why) P Q so is = tt

module _ (tag : List ℕ) where
  -- where none was found, what has to be known is kept
  pub open-events : (events : List Event) (met : List Opened) (kept : Forgeries) → kept.found ≡ None
      → FindsForgery tag events met kept → KeepsEvents tag events met kept
  open-events events met kept none finds =
      subst (λ (found : Option ℕ). MatchOption found (KeepsEvents tag events met kept)
      (λ line. first_forgery tag events ≡ Some line)) none finds

  pub open-finds : (events : List Event) (met : List Opened) (kept : Forgeries) → kept.found ≡ None
      → KeepsEvents tag events met kept → FindsForgery tag events met kept
  open-finds events met kept none keeps =
      subst (λ (found : Option ℕ). MatchOption found (KeepsEvents tag events met kept)
      (λ line. first_forgery tag events ≡ Some line)) (sym none) keeps

  by-forged : (found : Option ℕ) (events : List Event) (event : Event) (before met : List Opened) (kept : Forgeries)
      → is_some found ≡ true
      → MatchOption found (KeepsEvents tag events before kept) (λ line. first_forgery tag events ≡ Some line)
      → MatchOption found (KeepsEvents tag (event ∷ events) met kept)
      (λ line. first_forgery tag (event ∷ events) ≡ Some line)
  by-forged None events event before met kept is finds = absurd (cc is)
  by-forged (Some line) events event before met kept is finds = forgery-stays tag events event line finds

  -- a forgery that was found stays the first
  pub forged-stays : (events : List Event) (event : Event) (before met : List Opened) (kept : Forgeries)
      → is_some kept.found ≡ true → FindsForgery tag events before kept → FindsForgery tag (event ∷ events) met kept
  forged-stays events event before met kept is finds = by-forged kept.found events event before met kept is finds

  -- what was tested stays so where more was met
  pub tested-still : (events : List Event) (before met : List Opened) (tested : Tested) → AreStill before met
      → KeepsTested tag events before tested → KeepsTested tag events met tested
  tested-still events before met tested still keeps place count is =
      let was = keeps place count is in (was.0, still place was.0 was.1, was.2)
