-- What Paid and Gone say of legal events.
use Rattle.std.specs.Prelude.{◌≡◌, ◌≢◌, ℕ, true, false, List, ◌∷◌, ◌++◌, Some}
use Rattle.plasma_tx.specs.declared.owner.Owner.{Owner}
use Rattle.plasma_tx.specs.declared.call.RootCall.TheVariants.{Finish}
use Rattle.plasma_tx.specs.declared.answer.Answer.TheVariants.{Paid as IsPaid}
use Rattle.plasma_tx.specs.Views.{Exit, exit_at, is_withdrawn}
use Rattle.plasma_tx.specs.Shown.{Tests, Rules, tests_by, rules_of}
use Rattle.plasma_tx.specs.Table.{answer_to}
use Rattle.schedule_text.specs.declared.line.Line.{Line}
use Rattle.world_rules.specs.Events.{Event, Joins, log_of, wallet_owner}
use Rattle.world_rules.specs.World.{World}
use Rattle.world_rules.specs.Steps.{Run, events_of}
use Rattle.world_rules.specs.Safety.{holds, is_harmed}
use Rattle.world_laws.specs.Headline.{IsRun}
use Rattle.world_laws.specs.Legal.{IsLegal}
use Rattle.coin_safety.specs.declared.kept.Kept.{Kept}
use Rattle.coin_safety.specs.declared.word.Word.TheVariants.{Paid, Gone}
use Rattle.coin_safety.specs.Advice.{holder}
use Rattle.coin_safety.specs.Words.{next_line, word_of}

-- In that line of the log's file a Finish of coin c was answered Paid, of an exit that the account had started.
pub record WasPaidTo (tests : Tests) (rules : Rules) (events : List Event) (c account line : ℕ) : Type 0 where
  pub later : List Event
  pub earlier : List Event
  pub by : ℕ
  pub block : ℕ
  pub exit : Exit
  pub events_are : events ≡ later ++ Joins (Finish by c block) ∷ earlier
  pub line_is : line ≡ next_line (log_of earlier)
  pub stands : exit_at (log_of earlier) c block ≡ Some exit
  pub whose : exit.account ≡ account
  pub paid : answer_to tests rules (log_of earlier) (Finish by c block) ≡ IsPaid

-- the coin is withdrawn, and no wallet holds it at any block
pub record IsOut (events : List Event) (c : ℕ) : Type 0 where
  pub withdrawn : is_withdrawn (log_of events) c ≡ true
  pub unheld : (w e : ℕ) → holds events w c e ≡ false

-- Where the word is Gone, the coin is out: it was paid in that line, to that account, which isn't the holder's. It was
-- taken from the wallet that held it just before, unless that wallet has that account.
pub record WasTaken (tests : Tests) (rules : Rules) (events : List Event) (kept : Kept) (account line : ℕ)
    : Type 0 where
  pub paid : WasPaidTo tests rules events kept.links.coin account line
  pub out : IsOut events kept.links.coin
  pub another : account ≢ holder kept
  pub harm : (w e : ℕ) (me : Owner) → wallet_owner paid.earlier w ≡ Some me → me.account ≢ account
      → holds paid.earlier w kept.links.coin e ≡ true
      → is_harmed tests rules paid.earlier w kept.links.coin e (Joins (Finish paid.by kept.links.coin paid.block))
      ≡ true

abbrev pub LegalGoneMeansGone : Type 0
LegalGoneMeansGone = (tests : Tests) (rules : Rules) (events : List Event) (by clock account line : ℕ) (kept : Kept)
    → IsLegal tests rules events → word_of (log_of events) by clock kept ≡ Gone account line
    → WasTaken tests rules events kept account line

-- Where it is Paid, the coin is out, and it was paid to the holder.
abbrev pub LegalPaidMeansPaid : Type 0
LegalPaidMeansPaid = (tests : Tests) (rules : Rules) (events : List Event) (by clock : ℕ) (kept : Kept)
    → IsLegal tests rules events → word_of (log_of events) by clock kept ≡ Paid
    → ((line : ℕ) × WasPaidTo tests rules events kept.links.coin (holder kept) line)
    × IsOut events kept.links.coin

-- at each line of a run
abbrev pub GoneMeansGone : Type 0
GoneMeansGone = (dig : List ℕ → List ℕ) (lines : List Line) (run : Run) (world : World) (later events : List Event)
    (by clock account line : ℕ) (kept : Kept)
    → IsRun dig lines run world → events_of run.entries ≡ later ++ events
    → word_of (log_of events) by clock kept ≡ Gone account line
    → WasTaken (tests_by dig) (rules_of world.chain) events kept account line

abbrev pub PaidMeansPaid : Type 0
PaidMeansPaid = (dig : List ℕ → List ℕ) (lines : List Line) (run : Run) (world : World) (later events : List Event)
    (by clock : ℕ) (kept : Kept)
    → IsRun dig lines run world → events_of run.entries ≡ later ++ events
    → word_of (log_of events) by clock kept ≡ Paid
    → ((line : ℕ) × WasPaidTo (tests_by dig) (rules_of world.chain) events kept.links.coin (holder kept) line)
    × IsOut events kept.links.coin
