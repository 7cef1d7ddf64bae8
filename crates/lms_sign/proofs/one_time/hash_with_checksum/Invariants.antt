use Rattle.std.proofs.Common.{◌≡◌}
use Rattle.lms_sign.specs.OneTime.{shortfall}
use Rattle.lms_sign.proofs.one_time.hash_with_checksum.Given as goal

abbrev pub invariant-loop-i : goal.invariant-loop-i
invariant-loop-i l = l.short ≡ shortfall l.hash l.w l.i
