use Rattle.std.proofs.Common.{◌∙◌, sym, ap, subst, Some}
use Rattle.plasma_tx.proofs.Names.{some_same}
use Rattle.world_scene.specs.Steps.{AllSpell}
use Rattle.world_core.specs.Worlds.{RunningState}
use Rattle.world_core.specs.Taking.{Takes}
use Rattle.world_core.proofs.Takings.{takes_next, moves_hash}
use Rattle.world_core.proofs.running.RunningWorld.take_line.Goals as goal

pub take_line-requires-clause-spells : goal.take_line-requires-clause-spells
take_line-requires-clause-spells g c =
    c.requires.nodes c.in-Some.scene (ap (λ (s : RunningState _). s.scene) (sym c.self.view_is) ∙ c.in-Some.is)

pub returns-in_ok-answer-in-Some-clause-takes : goal.returns-in_ok-answer-in-Some-clause-takes
returns-in_ok-answer-in-Some-clause-takes g c has =
    let digest = g.H.Hash32.digest_of in
    let old = c.args.self.now in
    let before = c.in-Some.scene in
    let scene = c.take_line.new.self in
    let new : RunningState _ = record {
      hash = c.self.inside.hash;
      scene = Some scene;
      mail_size = c.self.inside.mail_size;
      trace = c.self.inside.trace;
      refused = c.self.inside.refused;
    } in
    let some = ap (λ (s : RunningState _). s.scene) (sym c.self.view_is) ∙ c.in-Some.is in
    let hash = has before some in
    let is = ap (λ (s : RunningState _). record s { scene = Some scene }) c.self.view_is in
    subst (λ h. Takes (digest h) old c.args.line.now c.in_ok-answer-in-Some.answer new) hash
    (takes_next (digest before.hash) old new before scene c.args.line.now c.in_ok-answer-in-Some.answer some
    c.in_ok-answer-in-Some.ensures.keeps c.in_ok-answer-in-Some.ensures.shows c.in_ok-answer-in-Some.ensures.tells
    (moves_hash digest before c.args.line.now scene c.in_ok-answer-in-Some.ensures.moves ∙ hash) is)

pub returns-in_ok-answer-in-Some-clause-nodes : goal.returns-in_ok-answer-in-Some-clause-nodes
returns-in_ok-answer-in-Some-clause-nodes g c other same =
    subst AllSpell (some_same c.take_line.new.self other same) c.in_ok-answer-in-Some.ensures.spells
