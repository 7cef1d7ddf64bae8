-- What a look says of the time until the next one, over every list of legal events; and, since a run's events are
-- legal, over every run.
use Rattle.std.specs.Prelude.{◌≡◌, ℕ, ◌≤◌, true, false, List, [], ◌∷◌, ◌++◌}
use Rattle.std.specs.List.{list_any}
use Rattle.plasma_tx.specs.Views.{now}
use Rattle.plasma_tx.specs.Shown.{Tests, Rules, tests_by, rules_of}
use Rattle.schedule_text.specs.declared.line.Line.{Line}
use Rattle.world_rules.specs.Laws.{IsDigest}
use Rattle.world_rules.specs.Events.{Event, log_of, wallet_owner}
use Rattle.world_rules.specs.World.{World}
use Rattle.world_rules.specs.Steps.{Run, events_of}
use Rattle.world_rules.specs.Exhibits.{collides, is_forged}
use Rattle.world_rules.specs.Safety.{holds, is_safe}
use Rattle.world_laws.specs.Headline.{IsRun}
use Rattle.world_laws.specs.Legal.{IsLegal}
use Rattle.money_laws.specs.MoneyLaws.{is_in_time}
use Rattle.coin_safety.specs.declared.kept.Kept.{Kept}
use Rattle.coin_safety.specs.declared.word.Word.TheVariants.{Safe, Act, Leaving, Late}
use Rattle.coin_safety.specs.Advice.{due}
use Rattle.coin_safety.specs.Words.{word_of}
use Rattle.safety_laws.specs.Look.{IsLook, begins_own, AreShort, IsActedOn, Covers}

-- ---- one look

-- Where the word is Safe until a time, no exit of the coin comes too late till then, if none did so far and the owner
-- starts none.
abbrev pub LegalSafeMeansSafe : Type 0
LegalSafeMeansSafe = (dig : List ℕ → List ℕ) (rules : Rules) (later events : List Event)
    (n w c e account clock until : ℕ) (kept : Kept)
    → IsDigest dig → IsLegal (tests_by dig) rules (later ++ events) → IsLook dig rules events n w c e kept
    → word_of (log_of events) account clock kept ≡ Safe until
    → list_any (begins_own (wallet_owner events w) c e) later ≡ false → now (log_of (later ++ events)) ≤ until
    → is_in_time events w c e ≡ true → is_in_time (later ++ events) w c e ≡ true

-- Where it is Leaving, none comes too late for less than the time in which a challenge may be answered; or in which an
-- exit may be challenged, once the owner's can't be any more.
abbrev pub LegalLeavingMeansSafe : Type 0
LegalLeavingMeansSafe = (dig : List ℕ → List ℕ) (rules : Rules) (later events : List Event)
    (n w c e account clock opens : ℕ) (kept : Kept)
    → IsDigest dig → IsLegal (tests_by dig) rules (later ++ events) → IsLook dig rules events n w c e kept
    → word_of (log_of events) account clock kept ≡ Leaving opens
    → AreShort (wallet_owner events w) c e later events
    → is_in_time events w c e ≡ true → is_in_time (later ++ events) w c e ≡ true

-- Where it is Act by a time, none comes too late till then, also before a call is entered.
abbrev pub LegalActLeavesTime : Type 0
LegalActLeavesTime = (dig : List ℕ → List ℕ) (rules : Rules) (later events : List Event)
    (n w c e account clock by money : ℕ) (kept : Kept)
    → IsDigest dig → IsLegal (tests_by dig) rules (later ++ events) → IsLook dig rules events n w c e kept
    → word_of (log_of events) account clock kept ≡ Act by money
    → now (log_of (later ++ events)) ≤ by → AreShort (wallet_owner events w) c e later events
    → is_in_time events w c e ≡ true → is_in_time (later ++ events) w c e ≡ true

-- And where what is due was entered till then, by whomever, none comes too late after that.
abbrev pub LegalActMeansAct : Type 0
LegalActMeansAct = (dig : List ℕ → List ℕ) (rules : Rules) (later events : List Event)
    (n w c e account clock : ℕ) (kept : Kept)
    → IsDigest dig → IsLegal (tests_by dig) rules (later ++ events) → IsLook dig rules events n w c e kept
    → IsActedOn (word_of (log_of events) account clock kept) (due (log_of events) account kept)
    (wallet_owner events w) c e later events
    → is_in_time events w c e ≡ true → is_in_time (later ++ events) w c e ≡ true

-- ---- one look after the other

-- The next look isn't too late: where it comes while the one before goes, no window ended unseen.
abbrev pub LegalNextLookIsInTime : Type 0
LegalNextLookIsInTime = (dig : List ℕ → List ℕ) (rules : Rules) (later events : List Event)
    (n w c e account clock : ℕ) (kept : Kept) (m other time since : ℕ) (again : Kept)
    → IsDigest dig → IsLegal (tests_by dig) rules (later ++ events) → IsLook dig rules events n w c e kept
    → Covers (word_of (log_of events) account clock kept) (due (log_of events) account kept)
    (wallet_owner events w) c e later events
    → IsLook dig rules (later ++ events) m w c e again
    → word_of (log_of (later ++ events)) other time again ≡ Late since → ⊥

-- A wallet comes to hold a coin in time, and for as long as after a look none comes too late. So the looks may begin
-- there.
abbrev pub LegalHoldersBeginInTime : Type 0
LegalHoldersBeginInTime = (tests : Tests) (rules : Rules) (later : List Event) (event : Event) (events : List Event)
    (w c e : ℕ)
    → IsLegal tests rules (later ++ event ∷ events) → holds events w c e ≡ false → holds (event ∷ events) w c e ≡ true
    → AreShort (wallet_owner (event ∷ events) w) c e later (event ∷ events)
    → is_in_time events w c e ≡ true → is_in_time (later ++ event ∷ events) w c e ≡ true

-- one look: by which node, by which account and clock, and what was kept of the coin; and the events after it
pub record Look : Type 0 where
  pub node : ℕ
  pub account : ℕ
  pub clock : ℕ
  pub kept : Kept
  pub later : List Event

-- the events up to the first of the looks, with those after each look, the newest look first
unfoldable pub events_after : List Look → List Event → List Event
events_after [] first = first
events_after (look ∷ looks) first = look.later ++ events_after looks first

-- what each look says goes on until the next
unfoldable pub AreLooks : (List ℕ → List ℕ) → Rules → ℕ → ℕ → ℕ → List Look → List Event → Type 0
AreLooks dig rules w c e [] first = Unit {0}
AreLooks dig rules w c e (look ∷ looks) first =
    IsLook dig rules (events_after looks first) look.node w c e look.kept
    × Covers (word_of (log_of (events_after looks first)) look.account look.clock look.kept)
    (due (log_of (events_after looks first)) look.account look.kept)
    (wallet_owner (events_after looks first) w) c e look.later (events_after looks first)
    × AreLooks dig rules w c e looks first

-- So no exit comes too late for who looks again while the last look goes.
abbrev pub LegalLooksAreEnough : Type 0
LegalLooksAreEnough = (dig : List ℕ → List ℕ) (rules : Rules) (looks : List Look) (first : List Event) (w c e : ℕ)
    → IsDigest dig → IsLegal (tests_by dig) rules (events_after looks first)
    → AreLooks dig rules w c e looks first → is_in_time first w c e ≡ true
    → is_in_time (events_after looks first) w c e ≡ true

-- And the coin is safe at the next event, unless the events up to it exhibit.
abbrev pub LegalLookedAtCoinsAreSafe : Type 0
LegalLookedAtCoinsAreSafe = (dig : List ℕ → List ℕ) (rules : Rules) (event : Event) (looks : List Look)
    (first : List Event) (w c e : ℕ)
    → IsDigest dig → IsLegal (tests_by dig) rules (event ∷ events_after looks first)
    → AreLooks dig rules w c e looks first → is_in_time first w c e ≡ true
    → collides dig (event ∷ events_after looks first) c ≡ false
    → is_forged rules.tag (event ∷ events_after looks first) w c ≡ false
    → is_safe (tests_by dig) rules (event ∷ events_after looks first) w c e ≡ true

-- at each line of a run
abbrev pub LookedAtCoinsAreSafe : Type 0
LookedAtCoinsAreSafe = (dig : List ℕ → List ℕ) (lines : List Line) (run : Run) (world : World)
    (rest : List Event) (event : Event) (looks : List Look) (first : List Event) (w c e : ℕ)
    → IsRun dig lines run world → events_of run.entries ≡ rest ++ event ∷ events_after looks first
    → AreLooks dig (rules_of world.chain) w c e looks first → is_in_time first w c e ≡ true
    → collides dig (event ∷ events_after looks first) c ≡ false
    → is_forged world.chain.tag (event ∷ events_after looks first) w c ≡ false
    → is_safe (tests_by dig) (rules_of world.chain) (event ∷ events_after looks first) w c e ≡ true
