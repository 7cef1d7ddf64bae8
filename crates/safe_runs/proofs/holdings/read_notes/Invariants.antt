use Rattle.std.proofs.Common.{◌≡◌, take}
use Rattle.std.specs.List.{filter_map}
use Rattle.node_rules.specs.WalletRecords.{note_in}
use Rattle.safe_runs.specs.Inside.{accepted_by}
use Rattle.safe_runs.proofs.holdings.read_notes.Given as goal

abbrev pub invariant-loop-note : goal.invariant-loop-note
invariant-loop-note g l =
    l.accepted.items
    ≡ filter_map (λ note. accepted_by l.tag (note_in (g.H.Hash32.digest_of l.h) l.tag note))
    (take l.note-index l.notes)
