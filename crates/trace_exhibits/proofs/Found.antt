-- What is found once more was taken.
use Rattle.std.proofs.Common.{◌≡◌, ℕ, Bool, true, false, List, [], ◌++◌, Option, Some, None, refl, sym, ap, ◌∙◌, subst}
use Rattle.std.specs.Prelude.{MatchOption, is_some}
use Rattle.std.specs.List.{slice_get}
use Rattle.std.proofs.lemmas.List.{append-nil}
use Rattle.world_rules.specs.Exhibits.{first_clash}
use Rattle.trace_exhibits.proofs.Added.{met-stays, met-known, clash-stays}
use Rattle.trace_exhibits.specs.Opened.{Opened}
use Rattle.trace_exhibits.specs.Ways.{pair_of, strings_in_shown}
use Rattle.trace_exhibits.specs.Met.{KeepsMet}
use Rattle.trace_exhibits.specs.Strings.{KeepsStrings, IsAdded}
use Rattle.trace_exhibits.specs.Findings.{KeepsAll, FindsClash}
use Rattle.trace_exhibits.specs.declared.collisions.Collisions.{Collisions}
use Rattle.trace_exhibits.specs.declared.shown.Clash.{Clash}

pub none-of : {X : Type 0} (found : Option X) → is_some found ≡ false → found ≡ None
none-of None is = refl
none-of (Some x) is = absurd (cc is)

module _ (dig : List ℕ → List ℕ) where
  -- the clash is the first of these strings, whatever follows
  abbrev IsFirst : List (List ℕ) → Clash → Type 0
  IsFirst strings clash = (rest : List (List ℕ)) → first_clash dig [] (strings ++ rest) ≡ Some (pair_of clash)

  -- where none was found, all is kept
  pub open-kept : (strings : List (List ℕ)) (kept : Collisions) → kept.found ≡ None → FindsClash dig strings kept
      → KeepsAll dig strings kept
  open-kept strings kept none finds =
      subst (λ (found : Option Clash). MatchOption found (KeepsAll dig strings kept) (IsFirst strings)) none finds

  by-added : (found : Option Clash) (strings : List (List ℕ)) (kept : Collisions)
      → IsAdded dig kept.met kept.strings strings found → KeepsMet dig kept.met strings
      → MatchOption found (KeepsAll dig strings kept) (IsFirst strings)
  by-added None strings kept added met = record { strings = added; met = met }
  by-added (Some clash) strings kept added met = added

  pub added-finds : (strings : List (List ℕ)) (kept : Collisions)
      → IsAdded dig kept.met kept.strings strings kept.found → KeepsMet dig kept.met strings
      → FindsClash dig strings kept
  added-finds strings kept added met = by-added kept.found strings kept added met

  by-closed : (found : Option Clash) (strings more : List (List ℕ)) (kept : Collisions) → is_some found ≡ true
      → MatchOption found (KeepsAll dig strings kept) (IsFirst strings)
      → MatchOption found (KeepsAll dig (strings ++ more) kept) (IsFirst (strings ++ more))
  by-closed None strings more kept is finds = absurd (cc is)
  by-closed (Some clash) strings more kept is finds = clash-stays dig strings more clash finds

  -- a clash that was found stays
  pub closed-finds : (strings more : List (List ℕ)) (kept : Collisions) → is_some kept.found ≡ true
      → FindsClash dig strings kept → FindsClash dig (strings ++ more) kept
  closed-finds strings more kept is finds = by-closed kept.found strings more kept is finds

  by-met : (found : Option Clash) (strings : List (List ℕ)) (kept : Collisions) (place : ℕ) (one : Opened)
      → slice_get kept.met place ≡ Some one → MatchOption found (KeepsAll dig strings kept) (IsFirst strings)
      → MatchOption found (KeepsAll dig (strings ++ strings_in_shown dig one) kept)
      (IsFirst (strings ++ strings_in_shown dig one))
  by-met None strings kept place one at finds = record {
    strings = met-known dig kept.met kept.strings strings place one at finds.met finds.strings;
    met = met-stays dig kept.met strings (strings_in_shown dig one) finds.met;
  }
  by-met (Some clash) strings kept place one at finds =
      clash-stays dig strings (strings_in_shown dig one) clash finds

  -- an opening that was met adds nothing
  pub met-finds : (strings : List (List ℕ)) (kept : Collisions) (place : ℕ) (one : Opened)
      → slice_get kept.met place ≡ Some one → FindsClash dig strings kept
      → FindsClash dig (strings ++ strings_in_shown dig one) kept
  met-finds strings kept place one at finds = by-met kept.found strings kept place one at finds

  -- no more strings
  pub same-finds : (strings : List (List ℕ)) (kept : Collisions) → FindsClash dig strings kept
      → FindsClash dig (strings ++ []) kept
  same-finds strings kept finds = subst (λ all. FindsClash dig all kept) (sym (append-nil strings)) finds

  by-first : (found : Option Clash) (strings : List (List ℕ)) (kept : Collisions)
      → MatchOption found (KeepsAll dig strings kept) (IsFirst strings)
      → MatchOption found (first_clash dig [] strings ≡ None)
      (λ clash. first_clash dig [] strings ≡ Some (pair_of clash))
  by-first None strings kept finds = finds.strings.none
  by-first (Some clash) strings kept finds = ap (first_clash dig []) (sym (append-nil strings)) ∙ finds []

  -- what was found is the first clash
  pub finds-first : (strings : List (List ℕ)) (kept : Collisions) → FindsClash dig strings kept
      → MatchOption kept.found (first_clash dig [] strings ≡ None)
      (λ clash. first_clash dig [] strings ≡ Some (pair_of clash))
  finds-first strings kept finds = by-first kept.found strings kept finds
