use Rattle.line_forms.proofs.Basics.{◌≡◌, ◌++◌, map, take, trailed, number_text}
use Rattle.line_forms.proofs.pieces.push_counts.Given as goal

-- the numbers so far stand at the end
abbrev pub invariant-loop-count : goal.invariant-loop-count
invariant-loop-count l = l.out.items ≡ l.fn.out.items ++ trailed (map number_text (take l.count-index l.counts))
