use Rattle.std.proofs.Common.{◌≡◌, ◌∷◌, ◌++◌, take}
use Rattle.std.specs.List.{flat_map}
use Rattle.line_forms.specs.Tokens.{number_text}
use Rattle.safe_runs.proofs.saying.push_phrase.Given as goal

abbrev pub invariant-loop-number : goal.invariant-loop-number
invariant-loop-number l =
    l.out.items
    ≡ l.fn.out.items ++ (l.words ++ flat_map (λ n. 32 ∷ number_text n) (take l.number-index l.numbers))
