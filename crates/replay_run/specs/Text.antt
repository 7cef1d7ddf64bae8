-- The text of a replay.
use Rattle.std.specs.Prelude.{ℕ, List, [], ◌∷◌, ◌++◌, codes}
use Rattle.std.specs.List.{flat_map}
use Rattle.node_replies.specs.Causes.{phrase}
use Rattle.world_rules.specs.{Steps.{Run}, Verdicts.{verdicts_of, counts_of, exhibit_of_run}, Texts.{entries_text, verdict_text, exhibit_text, counts_text}}
use Rattle.streamed_lines.specs.{declared.ending.Ending.{Ending}, declared.ending.Ending.TheVariants.{Complete, BadLine, ReadFault, TooLong, Ended}}
use Rattle.replay_run.specs.{declared.ending.NoCause.{NoCause}, Replays.{Replay}}

-- the answers of the lines that were run
abbrev pub answers_text : Replay → List ℕ
answers_text replay = entries_text replay.run.entries

-- what stands behind the answers of a run that is complete: the verdicts, and the exhibit
abbrev pub closing_text : (List ℕ → List ℕ) → Run → List ℕ
closing_text dig run = flat_map verdict_text (verdicts_of dig run) ++ exhibit_text (exhibit_of_run dig run)

-- what is written of a run that is complete and isn't answered: the counts, and the exhibit
abbrev pub brief_text : (List ℕ → List ℕ) → Run → List ℕ
brief_text dig run = counts_text (counts_of dig run) ++ exhibit_text (exhibit_of_run dig run)

-- what stands behind the answers: this text, or what ended the run; 10 is the line feed
unfoldable pub last_text : List ℕ → Ending NoCause → List ℕ
last_text complete Complete = complete
last_text complete (BadLine n) = phrase (codes "bad line") (n ∷ []) ++ 10 ∷ []
last_text complete ReadFault = codes "read fault" ++ 10 ∷ []
last_text complete (TooLong n) = phrase (codes "too long") (n ∷ []) ++ 10 ∷ []
last_text complete (Ended n cause) = elim cause [ ]
