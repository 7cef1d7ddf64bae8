use Rattle.std.proofs.Common.{◌++◌, [], slice_index_or}
use Rattle.sha2.specs.Hashers.{Holds256}
use Rattle.lms_sign.specs.Types.{u16str, u32str}
use Rattle.lms_sign.specs.OneTime.{concatenation}
use Rattle.lms_sign.proofs.one_time.one_time_key.Given as goal

abbrev pub invariant-ends : goal.invariant-ends
invariant-ends l =
    Holds256 l.hasher (l.id ++ u32str l.q ++ u16str 0x8080 ++ concatenation (λ i. slice_index_or l.ends i []) l.i)
