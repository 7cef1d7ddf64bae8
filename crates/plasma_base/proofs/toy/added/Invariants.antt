use Rattle.std.proofs.Common.{◌≡◌, ◌+◌, ◌%◌, ◌<◌, length}
use Rattle.plasma_base.specs.declared.TheConstants.{TOY_MODULUS}
use Rattle.plasma_base.specs.Toy.{group_sum}
use Rattle.plasma_base.proofs.toy.added.Given as goal

abbrev pub invariant-bytes : goal.invariant-bytes
invariant-bytes l =
    ((l.sum + group_sum l.after l.rest) % TOY_MODULUS ≡ (l.fn.sum + group_sum l.after l.bytes) % TOY_MODULUS)
    × (l.sum < TOY_MODULUS)

abbrev pub decreases-bytes : goal.decreases-bytes
decreases-bytes l = length l.rest
