-- The line that ends a log.
use Rattle.std.specs.Prelude.{Bool, List, ℕ, codes}
use Rattle.std.specs.Str.{bytes_eq}

-- whether a line ends a log; the lines behind it are none of it
abbrev pub is_end_of_log : List ℕ → Bool
is_end_of_log line = bytes_eq line (codes "--")
