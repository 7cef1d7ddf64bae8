use Rattle.std.proofs.Common.{◌≡◌, ◌+◌, ◌-◌, ◌*◌, ◌^◌, ◌<◌, ◌≤◌, ◌++◌, take}
use Rattle.lms_sign.specs.Types.{height, leaf_count}
use Rattle.lms_sign.specs.Tree.{authentication_path}
use Rattle.lms_sign.proofs.signing.put_path.Given as goal

abbrev pub invariant-loop-level : goal.invariant-loop-level
invariant-loop-level l =
    let left = height l.key.types - l.level in
    (2 ^ left ≤ l.r) × (l.r < 2 * leaf_count l.key.types)
    × (take (l.place + 32 * l.level) l.out ++ authentication_path l.key left l.r ≡ take l.place l.initial.out ++
    authentication_path l.key (height l.key.types) l.initial.r)
