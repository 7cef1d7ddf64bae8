-- The promise, of the run that a replay answered, and of the bytes and the text of it.
use Rattle.std.specs.Prelude.{◌≡◌, ◌≢◌, ◌⊎◌, ℕ, Bool, true, List, [], ◌∷◌, ◌++◌, length, codes, Option, Some}
use Rattle.std.specs.Option.{ForSome}
use Rattle.std.specs.List.{Contains}
use Rattle.plasma_tx.specs.Shown.{tests_by, rules_of}
use Rattle.world_rules.specs.{declared.verdict.Verdict.{Verdict}, declared.verdict.VerdictKind.{VerdictKind}, declared.verdict.Exhibit.{Exhibit}, World.{World}, Events.{Event}, Steps.{Run, run_of, events_of}, Exhibits.{collides, is_forged}}
use Rattle.world_rules.specs.{Safety.{is_attended, is_safe}, Verdicts.{SignsOneMessage, verdicts_of, exhibit_of_run}, Texts.{entries_text, exhibit_text}, Laws.{IsDigest}}
use Rattle.streamed_lines.specs.{declared.ending.Ending.{Ending}, Lines.{lines_in}, Outside.{Gave}}
use Rattle.run_words.specs.{declared.form.Form.{Form}, declared.form.Form.TheVariants.{Replay, Brief}}
use Rattle.run_endings.specs.{declared.status.Status.{Status}, Outputs.{Output, EndsAs}}
use Rattle.node_runs.specs.Sessions.{Outside}
use Rattle.world_laws.specs.Looked.{is_looked_after}
use Rattle.replay_run.specs.{declared.ending.NoCause.{NoCause}, Text.{closing_text, brief_text, last_text}, Output.{status_of}, Laws.{lines_spelled}, Endings.{EndsBy}, Ends.{HoldsAtTheEnd}, Replays.{replay_of}}

-- Coins are kept at each line of these events, the newest first: where each tick before it that met a deadline of coin
-- c, while wallet w held it at e, was attended, the trace up to the line shows two byte strings with one digest at the
-- coin, or a signature that is valid under the wallet's key and that the wallet never made; or no exit of another
-- account was paid while the wallet held the coin at e, and its own exit at e wasn't cancelled or dropped, and paid
-- where it was finished at its end.
abbrev pub KeepsCoins : (List ℕ → List ℕ) → List Event → World → Type 0
KeepsCoins dig all world = (later events : List Event) (event : Event) (w c e : ℕ)
    → all ≡ later ++ event ∷ events → is_attended events w c e ≡ true
    → (collides dig (event ∷ events) c ≡ true)
    ⊎ (is_forged world.chain.tag (event ∷ events) w c ≡ true)
    ⊎ (is_safe (tests_by dig) (rules_of world.chain) (event ∷ events) w c e ≡ true)

-- The same where the coin was looked after: at no tick before the line that reached the end of the window of another
-- account's exit of it, or of an open challenge of the wallet's own exit, it went unseen. It was seen where a guardian
-- watched since that exit began, or that challenge was made, and what this watch offered for it was fulfilled since, by
-- whomever. Whatever is attended is looked after, by a law, so the sentence with attended coins follows from this one.
abbrev pub KeepsLookedAfter : (List ℕ → List ℕ) → List Event → World → Type 0
KeepsLookedAfter dig all world = (later events : List Event) (event : Event) (w c e : ℕ)
    → all ≡ later ++ event ∷ events → is_looked_after events w c e ≡ true
    → (collides dig (event ∷ events) c ≡ true)
    ⊎ (is_forged world.chain.tag (event ∷ events) w c ≡ true)
    ⊎ (is_safe (tests_by dig) (rules_of world.chain) (event ∷ events) w c e ≡ true)

-- No leaf of a wallet's key signs two messages; coins are kept that are attended, and those that are looked after; and
-- a verdict `lost` stands only above an exhibit.
pub record KeepsThePromise (dig : List ℕ → List ℕ) (run : Run) : Type 0 where
  pub one_message : SignsOneMessage run
  pub coins : ForSome run.world (KeepsCoins dig (events_of run.entries))
  pub looked_after : ForSome run.world (KeepsLookedAfter dig (events_of run.entries))
  pub lost : (verdict : Verdict) → Contains (verdicts_of dig run) verdict → verdict.kind ≡ VerdictKind.Lost
      → exhibit_of_run dig run ≢ Exhibit.Nothing

-- The run that a replay answers keeps the promise, whatever the input, under each digest of 32 bytes.
abbrev pub ReplaysKeepThePromise : Type 0
ReplaysKeepThePromise = (dig : List ℕ → List ℕ) (bytes : List ℕ) (ended : Bool)
    → IsDigest dig → KeepsThePromise dig (replay_of dig bytes ended).run

-- what a replay of a run writes that ended so: its answers, and behind them the verdicts and the exhibit, or why it
-- ended
abbrev pub run_text : (List ℕ → List ℕ) → Run → Ending NoCause → Output
run_text dig run ending = record {
  status = status_of ending;
  answers = entries_text run.entries;
  last = last_text (closing_text dig run) ending;
}

-- what a brief of it writes
abbrev pub run_brief : (List ℕ → List ℕ) → Run → Ending NoCause → Output
run_brief dig run ending =
    record { status = status_of ending; answers = []; last = last_text (brief_text dig run) ending }

-- A schedule was read, and its run keeps the promise. The source gave these bytes. The run is that of the schedule's
-- lines that the first lines of the bytes spell, by the rules of the world; the next line, or the end of the input,
-- says why it has no more. The sink took the text of that run, or with the statuses WriteFault and NoMemory a beginning
-- of it. No leaf of it signs two messages, and its coins are kept; where a verdict is `lost` its text doesn't say `no
-- exhibit`. Where source and sink tell, `gave` and `wrote` say what they did; over others a run is the same, since its
-- body can't see which they are. That a run keeps the promise, and what holds at its end, follows for each run by the
-- rules.
pub record AnswersByTheRules
    (dig : List ℕ → List ℕ)
    (text : (List ℕ → List ℕ) → Run → Ending NoCause → Output)
    (outside : Outside)
    (failed : Type 0)
    (status : Status)
    : Type 0 where
  pub bytes : List ℕ
  pub ended : Bool
  pub run : Run
  pub ending : Ending NoCause
  pub gave : Gave outside.left outside.later bytes ended
  pub is_run : run_of dig (lines_spelled bytes (length run.entries)) ≡ Some run
  pub cause : EndsBy dig ended [] 1 0 (lines_in bytes) (length run.entries) ending
  pub wrote : EndsAs (text dig run ending) status outside.taken outside.after failed
  pub keeps : KeepsThePromise dig run
  pub lost_text : (verdict : Verdict) → Contains (verdicts_of dig run) verdict → verdict.kind ≡ VerdictKind.Lost
      → exhibit_text (exhibit_of_run dig run) ≢ codes "no exhibit" ++ 10 ∷ []
  pub at_end : ForSome run.world (HoldsAtTheEnd dig (lines_spelled bytes (length run.entries)) run)

-- so it is of each form that reads a schedule
abbrev pub KeepsByForm : (List ℕ → List ℕ) → Outside → Type 0 → Status → Option Form → Type 0
KeepsByForm dig outside failed status (Some Replay) = AnswersByTheRules dig run_text outside failed status
KeepsByForm dig outside failed status (Some Brief) = AnswersByTheRules dig run_brief outside failed status
KeepsByForm dig outside failed status form = Unit {0}
