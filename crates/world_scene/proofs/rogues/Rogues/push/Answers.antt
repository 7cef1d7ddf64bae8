use Rattle.std.proofs.Common.{rules, ◌≡◌, sym, ap, subst, arith, find, length, [], ◌∷◌, ◌++◌, None}
use Rattle.world_scene.specs.Names.{is_named_rogue}
use Rattle.world_scene.specs.Places.{PutsPlace}
use Rattle.world_scene.proofs.Strangers.{FindsRogues, one_more}
use Rattle.world_scene.proofs.rogues.Rogues.push.Goals as goal

pub invariant_of-self-2 : goal.invariant_of-self-2
invariant_of-self-2 c =
    let inside = c.self.inside in
    let rogue = c.args.rogue in
    let pushed : c.push.new.self.items ≡ inside.rogues.items ++ rogue ∷ [] = search
    (rules, c.unwrap.ensures, c.push.ensures.items, c.reserve.ensures.items) in
    let counted : c.len.result ≡ length inside.rogues.items =
    omega (arith, c.len.ensures, c.reserve.new.self.ok.0, ap length c.reserve.ensures.items) in
    let puts : PutsPlace inside.places rogue.name (length inside.rogues.items) c.put.new.self =
    subst (λ name. PutsPlace inside.places name (length inside.rogues.items) c.put.new.self) c.name.ensures
    (subst (λ n. PutsPlace inside.places c.name.result.now n c.put.new.self) counted c.in_ok-put.ensures.ok) in
    subst (FindsRogues c.put.new.self) (sym pushed)
    (one_more inside.places c.put.new.self inside.rogues.items rogue c.self.invariant puts
    (subst (λ rogues. find (is_named_rogue rogue.name) rogues ≡ None) (sym c.self.view_is) c.requires))
