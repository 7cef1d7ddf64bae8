use Rattle.crash_disk.proofs.Words.{is_err, sym, ◌∙◌, writes}
use Rattle.crash_disk.proofs.Held.{are_after}
use Rattle.crash_disk.proofs.disk_over.DiskOverDisk.write_at.Goals as goal

pub invariant_of-self : goal.invariant_of-self
invariant_of-self g c =
    let disk = c.self.inside in
    record {
      made = are_after disk.past.history c.and-self-inside.result.history (writes c.args.place c.args.bytes.now) (is_err c.put.result)
          c.is_err-failed.result _ _ c.and-self-inside.ensures c.is_err-failed.ensures.value c.self.invariant.made c.put.ensures.made;
      named = c.self.invariant.named ∙ sym c.put.ensures.name;
    }
