use Rattle.std.proofs.Common.{◌≡◌, true, ◌++◌, length, take}
use Rattle.std.specs.Prelude.{reverse, IfSome}
use Rattle.std.specs.List.{filter_map, list_all}
use Rattle.gate_journal.specs.Image.{spelled}
use Rattle.node_rules.specs.WalletRecords.{note_in}
use Rattle.node_rules.specs.WalletOpening.{is_bound_record}
use Rattle.wallet_node.specs.Inside.{memory_of}
use Rattle.wallet_node.proofs.reading.read_memory.Given as goal

abbrev pub invariant-loop-note : goal.invariant-loop-note
invariant-loop-note g l =
    let dig = g.H.Hash32.digest_of l.h in
    record {
      memory : l.memory
          ≡ memory_of l.fn.me l.tag (reverse (filter_map (note_in dig l.tag) (take l.note-index l.notes)));
      bound : list_all (is_bound_record dig l.tag l.bodies) (take l.note-index l.notes) ≡ true;
      place : IfSome l.gate (λ place. place ≡ length (spelled (take 1 l.records ++ take l.note-index l.notes)));
    }
