use Rattle.std.proofs.Common.{◌≡◌, ℕ, List, length, take, drop}
use Rattle.crash_disk.proofs.Held.{filled_before}
use Rattle.crash_disk.proofs.disk_over.got.Goals as goal

pub returns-clause-answer : goal.returns-clause-answer
returns-clause-answer g c =
    filled_before c.read_at.result
    (λ (bytes : List ℕ). c.read_at.new.room ≡ take (length c.args.room.now) (drop c.args.place bytes)) _ _ _ _ _
    c.in_ok-find.ensures.stays c.in_ok-find.ensures.calls c.read_at.ensures.answer
