use Rattle.crash_disk.proofs.Words.{◌≡◌, ℕ, List, length, is_err, sym, ◌∙◌, asks_length}
use Rattle.crash_disk.proofs.Held.{told_answer, are_after}
use Rattle.crash_disk.proofs.disk_over.DiskOverDisk.len.Goals as goal

pub invariant_of-self : goal.invariant_of-self
invariant_of-self g c =
    let disk = c.self.inside in
    record {
      made = are_after disk.past.history c.and-self-inside.result.history asks_length (is_err c.measured-answer.result)
          c.is_err.result _ _ c.and-self-inside.ensures c.is_err.ensures.value c.self.invariant.made c.measured-answer.ensures.made;
      named = c.self.invariant.named ∙ sym c.measured-answer.ensures.name;
    }

pub returns-clause-answer : goal.returns-clause-answer
returns-clause-answer g c =
    let disk = c.self.inside in
    rw (← c.self.view_is)
    (told_answer (g.F.FileCalls.began disk.file) disk.past.history (g.F.FileCalls.done disk.file)
    (λ (len : ℕ) (bytes : List ℕ). len ≡ length bytes) c.measured-answer.result c.answered.result
    c.answered.ensures.value c.self.invariant.made c.measured-answer.ensures.whole
    c.measured-answer.ensures.answer)
