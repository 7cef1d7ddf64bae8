-- The log that a text spells.
use Rattle.std.specs.Prelude.{ℕ, List, [], ◌∷◌, map, fold, Option, None, option_and_then}
use Rattle.std.specs.Borrow.{Bor}
use Rattle.std.specs.Str.Lines.{lines}
use Rattle.plasma_tx.specs.Chain.{Chain}
use Rattle.root_log.specs.Grammar.{appended, chain_in}

-- the bytes of texts
abbrev pub texts : List (Bor (List ℕ)) → List (List ℕ)
texts lent = map (λ (text : Bor (List ℕ)). text.now) lent

-- the chain with the call that a line spells as its newest, where there is a chain
abbrev pub and_call : Option Chain → List ℕ → Option Chain
and_call chain line = option_and_then (λ log. appended log line) chain

-- the chain with the calls that lines spell, one after another
abbrev pub and_calls : Option Chain → List (Bor (List ℕ)) → Option Chain
and_calls chain calls = fold (λ before (call : Bor (List ℕ)). and_call before call.now) chain calls

-- the log of lines: the first names the chain, and each further one is a call
abbrev pub log_of : List (List ℕ) → Option Chain
log_of [] = None
log_of (first ∷ calls) = fold and_call (chain_in first) calls

-- the log that a text spells
abbrev pub log_in : List ℕ → Option Chain
log_in text = log_of (lines text)
