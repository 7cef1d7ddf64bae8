-- What holds of the streams of inputs.
use Rattle.std.specs.Prelude.{◌≡◌, true, false, List, ◌++◌, ℕ}
use Rattle.streamed_lines.specs.declared.ending.Ending.TheVariants.{Complete, ReadFault}
use Rattle.streamed_lines.specs.Streams.{Rules, stream_of}

-- By these rules, the stream of a beginning of an input, which may go on, ends as a read fault where that of the whole
-- input is complete: none of its lines ends it.
abbrev pub BeginningsWait : {R C : Type 0} → Rules R C → Type 0
BeginningsWait {R} rules = (first : R) (front rest : List ℕ)
    → (stream_of rules first (front ++ rest) true).ending ≡ Complete
    → (stream_of rules first front false).ending ≡ ReadFault
