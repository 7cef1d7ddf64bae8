use Rattle.crash_disk.proofs.Words.{◌≡◌, ℕ, List, length, take, drop, is_err, sym, ◌∙◌, reads}
use Rattle.crash_disk.proofs.Held.{told_done, are_after}
use Rattle.crash_disk.proofs.disk_over.DiskOverDisk.read_at.Goals as goal

pub invariant_of-self : goal.invariant_of-self
invariant_of-self g c =
    let disk = c.self.inside in
    record {
      made = are_after disk.past.history c.and-self-inside.result.history (reads c.args.place (length c.args.room.now)) (is_err c.got.result)
          c.is_err-failed.result _ _ c.and-self-inside.ensures c.is_err-failed.ensures.value c.self.invariant.made c.got.ensures.made;
      named = c.self.invariant.named ∙ sym c.got.ensures.name;
    }

pub returns-clause-answer : goal.returns-clause-answer
returns-clause-answer g c =
    let disk = c.self.inside in
    rw (← c.self.view_is)
    (told_done (g.F.FileCalls.began disk.file) disk.past.history (g.F.FileCalls.done disk.file)
    (λ (bytes : List ℕ). c.got.new.room ≡ take (length c.args.room.now) (drop c.args.place bytes)) c.got.result
    c.answer.result (c.answer.ensures ∙ c.is_err-failed.ensures.value) c.self.invariant.made c.got.ensures.whole
    c.got.ensures.answer)
