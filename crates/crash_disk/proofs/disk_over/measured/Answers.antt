use Rattle.std.proofs.Common.{◌≡◌, ℕ, List, length}
use Rattle.crash_disk.proofs.Held.{held_before}
use Rattle.crash_disk.proofs.disk_over.measured.Goals as goal

pub returns-clause-answer : goal.returns-clause-answer
returns-clause-answer g c =
    held_before c.len.result (λ (len : ℕ) (bytes : List ℕ). len ≡ length bytes) _ _ _ _ _
    c.in_ok-find.ensures.stays c.in_ok-find.ensures.calls c.len.ensures.answer
