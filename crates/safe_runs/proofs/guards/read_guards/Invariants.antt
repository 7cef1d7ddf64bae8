use Rattle.std.proofs.Common.{take, reverse}
use Rattle.std.specs.List.{filter_map}
use Rattle.node_rules.specs.Watcher.{note_in}
use Rattle.watcher_node.specs.Inside.{watched_in, AreKeyed}
use Rattle.safe_runs.proofs.guards.read_guards.Given as goal

abbrev pub invariant-loop-note : goal.invariant-loop-note
invariant-loop-note g l =
    AreKeyed l.all.entries
    (watched_in l.tag (reverse (filter_map (note_in (g.H.Hash32.digest_of l.h) l.tag) (take l.note-index l.notes))))
