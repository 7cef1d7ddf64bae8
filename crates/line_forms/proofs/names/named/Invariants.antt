use Rattle.line_forms.proofs.Basics.{◌≡◌, None, take, lookup, bytes_eq, rows_of}
use Rattle.line_forms.proofs.names.named.Given as goal

-- no row so far has the name
abbrev pub invariant-loop-name : goal.invariant-loop-name
invariant-loop-name g l = lookup (bytes_eq l.word) (rows_of (take l.name-index l.table)) ≡ None
