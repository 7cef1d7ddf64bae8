use Rattle.std.proofs.Common.{◌∙◌, ap, Some, subst}
use Rattle.plasma_tx.proofs.Names.{some_same}
use Rattle.world_scene.specs.Steps.{AllSpell}
use Rattle.world_core.specs.Worlds.{RunningState}
use Rattle.world_core.proofs.Takings.{takes_first}
use Rattle.world_core.proofs.running.RunningWorld.begin.Goals as goal

pub returns-clause-takes : goal.returns-clause-takes
returns-clause-takes g c =
    let old = c.args.self.now in
    let scene = c.in_ok-scene.scene in
    takes_first (g.H.Hash32.digest_of old.hash) old _ c.in-Chain.tag c.in-Chain.operator c.in-Chain.most scene
    c.args.line.now c.from_vec.result c.requires.none c.in-Chain.is c.in_ok-scene.ensures.world
    (c.in_ok-scene.ensures.hash ∙ ap (λ (s : RunningState _). s.hash) c.self.view_is)
    (c.from_vec.ensures ∙ c.new.ensures.items)
    (ap (λ (s : RunningState _). record s { scene = Some scene }) c.self.view_is)

pub returns-clause-nodes : goal.returns-clause-nodes
returns-clause-nodes g c scene same =
    subst AllSpell (some_same c.in_ok-scene.scene scene same) c.in_ok-scene.ensures.spells
