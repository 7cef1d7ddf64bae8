use Rattle.std.proofs.Common.{◌≡◌, ◌+◌, ◌*◌, ◌++◌, take}
use Rattle.lms_sign.specs.OneTime.{concatenation, signed_string}
use Rattle.lms_sign.proofs.signing.put_chains.Given as goal

abbrev pub invariant-loop-i : goal.invariant-loop-i
invariant-loop-i l =
    take (40 + 32 * l.i) l.out ≡ take 40 l.initial.out ++ concatenation (signed_string l.key l.q l.hash) l.i
