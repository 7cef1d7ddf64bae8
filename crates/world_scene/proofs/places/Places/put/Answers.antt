use Rattle.std.proofs.Common.{Some, subst}
use Rattle.std.specs.Prelude.{Vec}
use Rattle.std.specs.Ordering.{nat_cmp}
use Rattle.std.specs.Cmp.Lexicographic.{slice_cmp}
use Rattle.std.specs.BTreeMap.{UpdatesBy}
use Rattle.world_scene.specs.Places.{key_cmp}
use Rattle.world_scene.proofs.Finding.{name_put}
use Rattle.world_scene.proofs.places.Places.put.Goals as goal

pub returns-clause-ok : goal.returns-clause-ok
returns-clause-ok c =
    name_put c.args.self.now.by_name c.insert.new.self c.args.name.now (Some c.args.place)
    (subst (λ name. UpdatesBy (λ (x y : Vec _ _). slice_cmp nat_cmp x.items y.items) (key_cmp name)
    c.args.self.now.by_name c.insert.new.self (Some c.args.place))
    c.in_ok-key.ensures.items c.in_ok-insert.ensures.updates)
