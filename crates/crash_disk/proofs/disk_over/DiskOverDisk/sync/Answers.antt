use Rattle.crash_disk.proofs.Words.{Bool, ◌||◌, is_err, sym, ◌∙◌, ap, syncs}
use Rattle.crash_disk.proofs.Held.{are_after}
use Rattle.crash_disk.proofs.disk_over.DiskOverDisk.sync.Goals as goal

pub invariant_of-self : goal.invariant_of-self
invariant_of-self g c =
    let disk = c.self.inside in
    record {
      made = are_after disk.past.history c.and-self-inside.result.history syncs (is_err c.synced-synced.result)
          c.is_err-failed.result _ _ c.and-self-inside.ensures c.is_err-failed.ensures.value c.self.invariant.made c.synced-synced.ensures.made;
      named = ap (λ (b : Bool). b || disk.is_named) c.was_there.ensures ∙ sym c.synced-synced.ensures.name;
    }
