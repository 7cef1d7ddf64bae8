use Rattle.std.proofs.Common.{◌≡◌, true, IfOk, OnOk, Some, sym, ap, ◌∙◌, subst}
use Rattle.std.proofs.lemmas.Result.{IfOk-weaker, on_ok_weaker}
use Rattle.world_rules.specs.Declarations.{keeps_rules_in}
use Rattle.schedule_text.specs.declared.line.Line.{Line}
use Rattle.world_scene.specs.Scenes.{world_of, shows}
use Rattle.world_scene.specs.Steps.{answered}
use Rattle.world_scene.specs.Events.{Tells, TellsInRuns}
use Rattle.world_scene.specs.Moves.{Moves}
use Rattle.world_scene.proofs.scene.Scene.take_line.Goals as goal

pub returns-in-Rogue-clause-shows : goal.returns-in-Rogue-clause-shows
returns-in-Rogue-clause-shows g c =
    subst (λ line. IfOk c.declare_rogue.result (λ answer.
    shows (g.H.Hash32.digest_of c.args.self.now.hash) (world_of c.args.self.now) line
    ≡ Some (answered answer (world_of c.declare_rogue.new.self))))
    (sym c.in-Rogue.is) c.declare_rogue.ensures.shows

pub returns-in-Wallet-clause-keeps : goal.returns-in-Wallet-clause-keeps
returns-in-Wallet-clause-keeps g c =
    subst (λ line. OnOk c.declare_wallet.result (keeps_rules_in (world_of c.args.self.now) line ≡ true))
    (sym c.in-Wallet.is) c.declare_wallet.ensures.keeps

pub returns-in-Wallet-clause-tells : goal.returns-in-Wallet-clause-tells
returns-in-Wallet-clause-tells g c =
    IfOk-weaker c.declare_wallet.result _ _
    (λ answer told _. subst (λ line. Tells (g.H.Hash32.digest_of c.args.self.now.hash) (world_of c.args.self.now) line
    answer.event) (sym c.in-Wallet.is) told)
    c.declare_wallet.ensures.tells

pub returns-in-Rogue-clause-tells : goal.returns-in-Rogue-clause-tells
returns-in-Rogue-clause-tells g c =
    IfOk-weaker c.declare_rogue.result _ _
    (λ answer told _. subst (λ line. Tells (g.H.Hash32.digest_of c.args.self.now.hash) (world_of c.args.self.now) line
    answer.event) (sym c.in-Rogue.is) told)
    c.declare_rogue.ensures.tells

pub returns-in-Cut-clause-tells : goal.returns-in-Cut-clause-tells
returns-in-Cut-clause-tells g c =
    IfOk-weaker c.cut.result _ _
    (λ answer told. subst
    (λ line. TellsInRuns (g.H.Hash32.digest_of c.args.self.now.hash) (world_of c.args.self.now) line
    answer.event)
    (ap (λ node. Line.Cut node c.in-Cut.calls c.in-Cut.outcome c.in-Cut.command) c.as_slice-in-Cut.ensures
    ∙ sym c.in-Cut.is) told)
    c.cut.ensures.tells

pub returns-in-Crash-clause-moves : goal.returns-in-Crash-clause-moves
returns-in-Crash-clause-moves g c =
    on_ok_weaker c.crash.result
    (λ moves. subst (λ line. Moves g.H.Hash32.digest_of c.args.self.now line c.crash.new.self)
    (ap (λ node. Line.Crash node c.in-Crash.outcome) c.as_slice-in-Crash.ensures ∙ sym c.in-Crash.is) moves)
    c.crash.ensures.moves

pub returns-in-Cut-clause-moves : goal.returns-in-Cut-clause-moves
returns-in-Cut-clause-moves g c =
    on_ok_weaker c.cut.result
    (λ moves. subst (λ line. Moves g.H.Hash32.digest_of c.args.self.now line c.cut.new.self) (sym c.in-Cut.is) moves)
    c.cut.ensures.moves
