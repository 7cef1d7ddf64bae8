-- Who keeps a coin at its tip, and that nobody ever answers a challenge there.
use Rattle.std.specs.Prelude.{◌≡◌, ℕ, ◌&&◌, ◌||◌, not, Bool, true, false, List, ◌∷◌, ◌++◌, Option, Some, None}
use Rattle.std.specs.List.{Contains, list_any}
use Rattle.plasma_tx.specs.declared.owner.Owner.{Owner}
use Rattle.plasma_tx.specs.declared.body.Body.{Body}
use Rattle.plasma_tx.specs.declared.opening.RawOpening.{RawOpening}
use Rattle.plasma_tx.specs.declared.call.RootCall.{RootCall}
use Rattle.plasma_tx.specs.declared.call.RootCall.TheVariants.{Respond}
use Rattle.plasma_tx.specs.Views.{coin_at, Challenge, Exit, exits, is_withdrawn}
use Rattle.plasma_tx.specs.Shown.{Rules, tests_by}
use Rattle.coin_history.specs.declared.bundle.Bundle.{Bundle}
use Rattle.schedule_text.specs.declared.line.Line.{Line}
use Rattle.world_rules.specs.Laws.{IsDigest}
use Rattle.world_rules.specs.Events.{Event, Joins, log_of, wallet_owner, accepted, signed_away_by, is_sent_from, is_bundle}
use Rattle.world_rules.specs.World.{World}
use Rattle.world_rules.specs.Steps.{Run, events_of}
use Rattle.world_rules.specs.Exhibits.{collides, is_forged}
use Rattle.world_rules.specs.Safety.{was_deposited, holds}
use Rattle.world_laws.specs.Headline.{IsRun}
use Rattle.world_laws.specs.Legal.{IsLegal}

-- what keeping asks for, of a wallet that is declared
abbrev pub keeps_with : List RootCall → Option Owner → List Body → List Bundle → ℕ → ℕ → Bool
keeps_with log None bodies bundles c e = false
keeps_with log (Some me) bodies bundles c e =
    (was_deposited me e (coin_at log c) || list_any (is_bundle c e) bundles) && not (is_sent_from bodies c e)

-- The wallet keeps the coin at e: it came to have it there, and no leaf that wasn't taken back signs it away from
-- there. It holds the coin, or the coin is withdrawn.
unfoldable pub keeps : List Event → ℕ → ℕ → ℕ → Bool
keeps events w c e =
    keeps_with (log_of events) (wallet_owner events w) (signed_away_by events w) (accepted events w) c e

-- to hold a coin is to keep it while it isn't withdrawn
abbrev pub HoldersKeep : Type 0
HoldersKeep = (events : List Event) (w c e : ℕ)
    → holds events w c e ≡ (keeps events w c e && not (is_withdrawn (log_of events) c))

-- The wallet keeps the coin at e, and the events up to here show neither, at this coin, two byte strings with one
-- digest, nor a signature that is valid under the wallet's key and that the wallet never made.
pub record IsKeeper (dig : List ℕ → List ℕ) (tag : List ℕ) (event : Event) (events : List Event) (w c e : ℕ)
    : Type 0 where
  pub kept : keeps events w c e ≡ true
  pub whole : collides dig (event ∷ events) c ≡ false
  pub honest : is_forged tag (event ∷ events) w c ≡ false

-- Nobody answers a challenge at e of an exit of a coin that a wallet keeps at e.
abbrev pub LegalTipsAreNotAnswered : Type 0
LegalTipsAreNotAnswered = (dig : List ℕ → List ℕ) (rules : Rules) (events : List Event) (w c e account block : ℕ)
    (spend : RawOpening)
    → IsDigest dig → IsLegal (tests_by dig) rules (Joins (Respond account c block e spend) ∷ events)
    → IsKeeper dig rules.tag (Joins (Respond account c block e spend)) events w c e → ⊥

-- at each line of a run
abbrev pub TipsAreNotAnswered : Type 0
TipsAreNotAnswered = (dig : List ℕ → List ℕ) (lines : List Line) (run : Run) (world : World)
    (later events : List Event) (w c e account block : ℕ) (spend : RawOpening)
    → IsRun dig lines run world → events_of run.entries ≡ later ++ Joins (Respond account c block e spend) ∷ events
    → IsKeeper dig world.chain.tag (Joins (Respond account c block e spend)) events w c e → ⊥

-- each challenge at e of a standing exit of the coin is open
abbrev pub AreOpenAt : List RootCall → ℕ → ℕ → Type 0
AreOpenAt log c e = (exit : Exit) (challenge : Challenge) → Contains (exits log) exit → exit.coin ≡ c
    → Contains exit.challenges challenge → challenge.block ≡ e → challenge.answered ≡ false

-- So each challenge there is open as long as its exit stands.
abbrev pub LegalTipsStayOpen : Type 0
LegalTipsStayOpen = (dig : List ℕ → List ℕ) (rules : Rules) (events : List Event) (w c e : ℕ)
    → IsDigest dig → IsLegal (tests_by dig) rules events → keeps events w c e ≡ true
    → collides dig events c ≡ false → is_forged rules.tag events w c ≡ false → AreOpenAt (log_of events) c e

-- at each line of a run
abbrev pub TipsStayOpen : Type 0
TipsStayOpen = (dig : List ℕ → List ℕ) (lines : List Line) (run : Run) (world : World) (later events : List Event)
    (w c e : ℕ)
    → IsRun dig lines run world → events_of run.entries ≡ later ++ events → keeps events w c e ≡ true
    → collides dig events c ≡ false → is_forged world.chain.tag events w c ≡ false → AreOpenAt (log_of events) c e
