use Rattle.std.proofs.Common.{◌≡◌, sym, subst, ap, ◌∙◌, true, length}
use Rattle.std.proofs.lemmas.List.{length-map}
use Rattle.std.proofs.lemmas.Option.{same_Some}
use Rattle.world_trace.specs.declared.event.LineEvent.{LineEvent}
use Rattle.node_rules.specs.WalletRecords.{owner_of}
use Rattle.world_rules.specs.Declarations.{may_be_wallet, declared_wallet}
use Rattle.world_rules.specs.Steps.{effect_in}
use Rattle.world_scene.specs.Scenes.{world_of, node_in}
use Rattle.world_scene.specs.Events.{TellsEffect}
use Rattle.world_scene.proofs.scene.Scene.declare_wallet.Goals as goal

pub returns-clause-keeps : goal.returns-clause-keeps
returns-clause-keeps g c =
    subst (λ who. may_be_wallet (world_of c.args.self.now) c.args.name.now who ≡ true)
    c.identity_of-who.ensures.value c.in_ok-answer.ensures.keeps

pub returns-clause-tells : goal.returns-clause-tells
unfolding effect_in
returns-clause-tells g c effect is =
    let old = c.args.self.now in
    let me = owner_of (declared_wallet (world_of old) c.args.account c.args.seed c.args.types) in
    subst (TellsEffect (g.H.Hash32.digest_of old.hash) (world_of old) c.in_ok-answer.answer.event)
    (same_Some _ effect is)
    (c.in_ok-answer.ensures.event
    ∙ ap (λ who. LineEvent.Declares (length old.nodes) (owner_of who)) c.identity_of-who.ensures.value
    ∙ ap (λ n. LineEvent.Declares n me) (sym (length-map old.nodes node_in)))
