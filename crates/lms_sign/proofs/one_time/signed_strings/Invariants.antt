use Rattle.std.proofs.Common.{◌≡◌, ℕ, ◌<◌, length}
use Rattle.lms_sign.specs.OneTime.{digit}
use Rattle.lms_sign.specs.Chains.{span_at}
use Rattle.lms_sign.proofs.one_time.signed_strings.Given as goal

abbrev pub invariant-digits : goal.invariant-digits
invariant-digits l = (length l.spans ≡ 67)
    × ((n : ℕ) → n < l.i → span_at l.spans n ≡ record { from = 0; to = digit l.types l.hash n })
