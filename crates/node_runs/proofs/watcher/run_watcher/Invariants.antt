use Rattle.node_journal.specs.Parts.{alone}
use Rattle.node_runs.specs.Disks.{node_opened}
use Rattle.node_runs.proofs.watcher.run_watcher.Given as goal

abbrev pub ghost-run_session : goal.ghost-run_session
ghost-run_session g a = record {
  kept = node_opened g.D.Disk.told g.D.Disk.faults (alone a.node.node.notes);
  dig = g.H.Hash32.digest_of a.node.node.hash;
}
