use Rattle.line_forms.proofs.Basics.{◌≡◌, ◌++◌, take, trailed, words_of_pieces}
use Rattle.line_forms.proofs.pieces.push_pieces.Given as goal

-- the words so far stand at the end
abbrev pub invariant-loop-piece : goal.invariant-loop-piece
invariant-loop-piece l = l.out.items ≡ l.fn.out.items ++ trailed (words_of_pieces (take l.piece-index l.pieces))
