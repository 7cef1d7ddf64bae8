-- What is kept of the lines, while they come, to tell what they show that excuses a loss.
use Rattle.std.specs.Prelude.{◌≡◌, ℕ, ◌++◌, List, [], Some, None, MatchOption}
use Rattle.sparse_merkle.specs.TreeDigest.{AreDefaults}
use Rattle.world_rules.specs.Events.{Event}
use Rattle.world_rules.specs.Exhibits.{all_strings, first_clash, first_forgery}
use Rattle.trace_exhibits.specs.Opened.{Opened}
use Rattle.trace_exhibits.specs.Ways.{pair_of}
use Rattle.trace_exhibits.specs.Met.{KeepsMet}
use Rattle.trace_exhibits.specs.Strings.{KeepsStrings}
use Rattle.trace_exhibits.specs.Wallets.{KeepsWallets}
use Rattle.trace_exhibits.specs.Tested.{KeepsTested}
use Rattle.trace_exhibits.specs.declared.collisions.Collisions.{Collisions}
use Rattle.trace_exhibits.specs.declared.forgeries.Forgeries.{Forgeries}
use Rattle.trace_exhibits.specs.declared.findings.Findings.{Findings}

-- these strings are kept, and they are those of the openings that were met among others
pub record KeepsAll (dig : List ℕ → List ℕ) (all : List (List ℕ)) (kept : Collisions) : Type 0 where
  pub strings : KeepsStrings dig kept.met kept.strings all
  pub met : KeepsMet dig kept.met all

-- the clash that was found is the first of these strings, whatever follows them; or there is none, and all are kept
abbrev pub FindsClash : (List ℕ → List ℕ) → List (List ℕ) → Collisions → Type 0
FindsClash dig strings kept = MatchOption kept.found (KeepsAll dig strings kept)
    (λ clash. (rest : List (List ℕ)) → first_clash dig [] (strings ++ rest) ≡ Some (pair_of clash))

-- no event shows a forgery, and what has to be known of the events is kept
pub record KeepsEvents (tag : List ℕ) (events : List Event) (met : List Opened) (kept : Forgeries) : Type 0 where
  pub none : first_forgery tag events ≡ None
  pub wallets : KeepsWallets events kept.known
  pub tested : KeepsTested tag events met kept.tested

-- the line that was found is the first with a forgery; or there is none
abbrev pub FindsForgery : List ℕ → List Event → List Opened → Forgeries → Type 0
FindsForgery tag events met kept =
    MatchOption kept.found (KeepsEvents tag events met kept) (λ line. first_forgery tag events ≡ Some line)

-- what is found is found by the digest
abbrev pub HasDigest : (List ℕ → List ℕ) → Findings → Type 0
HasDigest dig findings = AreDefaults dig findings.collisions.defaults

-- what is found is what the events show, the newest first; behind a clash nothing more is looked for
pub record Finds (dig : List ℕ → List ℕ) (tag : List ℕ) (events : List Event) (findings : Findings) : Type 0 where
  pub clash : FindsClash dig (all_strings dig events) findings.collisions
  pub forgery : findings.collisions.found ≡ None
      → FindsForgery tag events findings.collisions.met findings.forgeries
