use Rattle.std.proofs.Common.{◌≡◌, ℕ, ◌+◌, ◌*◌, ◌<◌, [], length, slice_index_or}
use Rattle.lms_sign.specs.OneTime.{private_element}
use Rattle.lms_sign.proofs.one_time.private_elements.Given as goal

abbrev pub invariant-groups : goal.invariant-groups
invariant-groups l = (length l.strings ≡ 72)
    × ((n : ℕ) → n < 8 * l.group → slice_index_or l.strings n [] ≡ private_element l.secret l.q n)

abbrev pub invariant-lanes : goal.invariant-lanes
invariant-lanes l = (length l.strings ≡ 72)
    × ((n : ℕ) → n < 8 * l.group + l.k → slice_index_or l.strings n [] ≡ private_element l.secret l.q n)
