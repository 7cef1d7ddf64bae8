use Rattle.operator_core.proofs.Words.{◌≡◌, ℕ, List, length, Entry, Follows, KeepsEnds}
use Rattle.operator_core.proofs.ends.extend.Given as goal

abbrev pub invariant-way : goal.invariant-way
invariant-way l = record {
  long : length l.ends.roots.items ≡ l.before;
  follows : Follows l.log.log l.ends.roots.items;
  keeps : (dig : List ℕ → List ℕ) (sealed : List (List Entry)) → KeepsEnds dig sealed l.fn.ends
      → KeepsEnds dig sealed l.ends;
}
