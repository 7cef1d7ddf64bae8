use Rattle.std.proofs.Common.{◌≡◌, ◌++◌, take}
use Rattle.node_replies.specs.Causes.{numbers_text}
use Rattle.node_answers.proofs.said.push_phrase.Given as goal

abbrev pub invariant-loop-number : goal.invariant-loop-number
invariant-loop-number l = l.out.items ≡ l.fn.out.items ++ (l.words ++ numbers_text (take l.number-index l.numbers))
