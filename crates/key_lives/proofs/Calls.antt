-- What stands on a pair of disks stands behind each later call, where each call keeps it and a crash does.
use Rattle.std.proofs.Common.{ℕ, List, [], ◌∷◌, ◌++◌, Option}
use Rattle.std.specs.List.{All, AllByRecursion}
use Rattle.std.proofs.lemmas.List.Elements.{All-from_recursion}
use Rattle.crash_disk.specs.Disk.{History, FaultPlan}
use Rattle.node_lives.specs.Disks.{Pair, BothLie, BothTell}
use Rattle.node_lives.specs.Calls.{Call}
use Rattle.node_lives.specs.Lives.{IsLife}
use Rattle.node_lives.proofs.Life.{newest, lie-behind}

module _ {D : Type 0} (told : D → Option History) (plan : D → Option FaultPlan) (faults : D → ℕ)
    (dig : List ℕ → List ℕ) where
  -- one more call, which is handed disks that tell, and that lie as the last one left them
  module _ (call start : Call told plan faults dig) (later earlier : List (Call told plan faults dig))
      (life : IsLife told plan faults dig ((call ∷ later) ++ start ∷ earlier)) where
    pub tells : BothTell told call.old
    unfolding IsLife
    tells = life.0

    pub lies : BothLie told (newest told plan faults dig later start).new call.old
    unfolding IsLife
    lies = lie-behind told plan faults dig later earlier start call.old life.1

    pub before : IsLife told plan faults dig (later ++ start ∷ earlier)
    unfolding IsLife
    before = life.2

  pub behind : (later calls : List (Call told plan faults dig)) → IsLife told plan faults dig (later ++ calls)
      → IsLife told plan faults dig calls
  unfolding IsLife
  behind [] calls life = life
  behind (call ∷ later) calls (tell, lie, life) = behind later calls life

  -- each call is one of these, on disks of which this stands
  module _ (Stands : Pair D → Type 0) (Is : Call told plan faults dig → Type 0)
      (lie : (left next : Pair D) → BothLie told left next → Stands left → Stands next)
      (each : (call : Call told plan faults dig) → BothTell told call.old → Stands call.old
      → Stands call.new × Is call) where
    all-stand : (later earlier : List (Call told plan faults dig)) (start : Call told plan faults dig)
        → IsLife told plan faults dig (later ++ start ∷ earlier) → Stands start.new
        → Stands (newest told plan faults dig later start).new × AllByRecursion Is later
    all-stand [] earlier start life stand = (stand, tt)
    all-stand (call ∷ later) earlier start life stand =
        let rest = all-stand later earlier start (before call start later earlier life) stand in
        let handed = lie (newest told plan faults dig later start).new call.old (lies call start later earlier life)
        rest.0 in
        let kept = each call (tells call start later earlier life) handed in
        (kept.0, (kept.1, rest.1))

    pub all-are : (later earlier : List (Call told plan faults dig)) (start : Call told plan faults dig)
        → IsLife told plan faults dig (later ++ start ∷ earlier) → Stands start.new → All Is later
    all-are later earlier start life stand =
        All-from_recursion Is later (all-stand later earlier start life stand).1
