-- How much of a source is taken at most before a line that ends a replay is answered.
use Rattle.std.specs.Prelude.{ℕ, Bool, List}
use Rattle.streamed_lines.specs.{declared.ending.Ending.{Ending}, Bounds.{TakesFew}}
use Rattle.run_endings.specs.{declared.status.Status.{Status}, declared.status.Status.TheVariants.{BadLine, TooLong}}
use Rattle.replay_run.specs.{declared.ending.NoCause.{NoCause}, Replays.{replay_of}}

-- a replay that ended so was answered before more was taken
abbrev pub TakesFewBy : Status → List ℕ → Ending NoCause → Type 0
TakesFewBy BadLine bytes ending = TakesFew bytes ending
TakesFewBy TooLong bytes ending = TakesFew bytes ending
TakesFewBy status bytes ending = Unit {0}

abbrev pub FewBy : (List ℕ → List ℕ) → Status → List ℕ → Bool → Type 0
FewBy dig status bytes ended = TakesFewBy status bytes (replay_of dig bytes ended).ending
