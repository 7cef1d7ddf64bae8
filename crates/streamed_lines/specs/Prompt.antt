-- That lines are answered before more of the input is read.
use Rattle.std.specs.Prelude.{◌≡◌, ◌≤◌, ℕ, Bool, true, false, List, [], ◌∷◌, ◌++◌, length, codes, Option}
use Rattle.streamed_lines.specs.Streams.{Rules, stream_of}
use Rattle.streamed_lines.specs.Bounds.{room}
use Rattle.streamed_lines.specs.Outside.{Gave, Wrote}

-- the answers to the whole lines of these bytes, which may go on
abbrev pub answers_so_far : {R C : Type 0} → Rules R C → R → List ℕ → List ℕ
answers_so_far rules first bytes = (stream_of rules first bytes false).stream.text

-- the line that says that the input wasn't read to its end
abbrev pub fault_line : List ℕ
fault_line = codes "read fault" ++ 10 ∷ []

-- a text is a beginning of another
abbrev pub Begins : List ℕ → List ℕ → Type 0
Begins front whole = (back : List ℕ) × (front ++ back ≡ whole)

-- Where these are told: what the sink has taken begins with the answers to the lines that were whole before the last
-- take. That take gave `last`: a room at most, and nothing where it failed; and where it failed, all that was put behind
-- these answers is the line that says so, or a beginning of it. A source may fail at any take, and nobody sees before
-- whether it will; so at each take, whatever it gives, the answers to all lines before it are written, and behind a put
-- that failed nothing is taken.
pub record AnswersPromptly (answers : List ℕ → List ℕ) (left later : Option (List ℕ)) (failed_last : Bool)
    (taken after : Option (List ℕ)) : Type 0 where
  pub earlier : List ℕ
  pub last : List ℕ
  pub gave : Gave left later (earlier ++ last) false
  pub few : length last ≤ room
  pub none : failed_last ≡ true → last ≡ []
  pub more : List ℕ
  pub wrote : Wrote taken after (answers earlier ++ more)
  pub fault : failed_last ≡ true → Begins more fault_line
