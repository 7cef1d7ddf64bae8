use Rattle.node_journal.specs.Parts.{both}
use Rattle.node_runs.specs.Disks.{node_opened}
use Rattle.node_runs.proofs.operator.run_with_key.Given as goal

abbrev pub ghost-run_session : goal.ghost-run_session
ghost-run_session g a = record {
  kept = node_opened g.D.Disk.told g.D.Disk.faults (both a.node.keyed.node.notes a.node.keyed.desk.notes);
  dig = g.H.Hash32.digest_of a.node.keyed.node.hash;
}
