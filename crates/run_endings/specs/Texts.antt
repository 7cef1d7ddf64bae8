-- The last lines of runs.
use Rattle.std.specs.Prelude.{ℕ, List, [], ◌∷◌, ◌++◌, codes}
use Rattle.line_forms.specs.Tokens.{number_text}

-- words and a number after them, as a line; 32 is the blank, and 10 the line feed
abbrev pub numbered : List ℕ → ℕ → List ℕ
numbered words number = words ++ 32 ∷ (number_text number ++ 10 ∷ [])

-- line n may not stand there, or is missing; or it passes a limit
abbrev pub bad_line_text : ℕ → List ℕ
bad_line_text n = numbered (codes "bad line") n

abbrev pub too_long_text : ℕ → List ℕ
too_long_text n = numbered (codes "too long") n

-- a disk keeps no records of the role: the place of the first gate that is wrong
abbrev pub not_journal_text : ℕ → List ℕ
not_journal_text place = numbered (codes "not a journal") place

-- a disk that was to be begun has so many bytes
abbrev pub already_made_text : ℕ → List ℕ
already_made_text length = numbered (codes "already made") length

-- a refusal for this cause
abbrev pub refused_text : List ℕ → List ℕ
refused_text cause = codes "refused " ++ cause ++ 10 ∷ []

-- the source failed, or a disk
abbrev pub read_fault_text : List ℕ
read_fault_text = codes "read fault" ++ 10 ∷ []

abbrev pub device_fault_text : List ℕ
device_fault_text = codes "device fault" ++ 10 ∷ []
