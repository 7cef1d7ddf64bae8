use Rattle.std.proofs.Common.{◌≡◌, false, take}
use Rattle.std.specs.List.{list_any}
use Rattle.world_scene.specs.Seeking.{is_sought}
use Rattle.world_scene.proofs.seeking.is_there.Given as goal

abbrev pub invariant-loop-entry : goal.invariant-loop-entry
invariant-loop-entry g l = false ≡ list_any (is_sought l.sought) (take l.entry-index l.entries)
