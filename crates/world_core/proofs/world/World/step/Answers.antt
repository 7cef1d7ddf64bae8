use Rattle.std.proofs.Common.{◌≡◌, ◌<◌, ◌^◌, ◌∷◌, ℕ, ◌∙◌, List, Err, length, refl, sym, ap, subst}
use Rattle.std.proofs.lemmas.Result.{err_from_is_err_and}
use Rattle.plasma_tx.specs.Spelling.{AreBytes}
use Rattle.schedule_text.specs.declared.line.Line.{Line}
use Rattle.world_rules.specs.Declarations.{keeps_rules}
use Rattle.world_rules.specs.Events.{log_of}
use Rattle.world_trace.specs.Events.{IsEvent}
use Rattle.world_trace.specs.Traces.{TraceState, Tells}
use Rattle.world_scene.specs.declared.refusal.StepRefusal.{StepRefusal}
use Rattle.world_core.specs.Worlds.{RunningState, WorldState, world_in, NodesSpell, IsAfter}
use Rattle.world_core.specs.Counting.{with_answer}
use Rattle.world_core.specs.Lines.{IsStep, WouldFill, MovesIn}
use Rattle.world_core.proofs.LongerRuns.{no_run, put_steps, put_fills, told_as}
use Rattle.world_core.proofs.Takings.{nodes_put, moves_put}
use Rattle.world_core.proofs.world.World.step.Goals as goal

pub take_line-requires-clause-nodes : goal.take_line-requires-clause-nodes
take_line-requires-clause-nodes g c = c.self.invariant c.if-self.false

pub returns-in-Err-BadLine-clause-bad : goal.returns-in-Err-BadLine-clause-bad
returns-in-Err-BadLine-clause-bad g c lines after is =
    no_run (g.H.Hash32.digest_of c.args.self.now.running.hash) lines after.run c.args.line.now after.ran
    (ap (λ w. keeps_rules w c.args.line.now) after.world
    ∙ ap (λ (s : WorldState _). keeps_rules (world_in s.running) c.args.line.now) (sym c.self.view_is)
    ∙ c.in-Err-BadLine.ensures.bad (ap Err c.in-Err-BadLine.field-0-is))

pub returns-in-Err-BadLine-clause-same : goal.returns-in-Err-BadLine-clause-same
returns-in-Err-BadLine-clause-same g c bad =
    let same = c.in-Err-BadLine.ensures.same (ap Err c.in-Err-BadLine.field-0-is) in
    (λ i. record { running = same i; ended = c.self.inside.has_ended }) ∙ c.self.view_is

pub invariant_of-self : goal.invariant_of-self
invariant_of-self g c on =
    subst (λ (s : RunningState _). NodesSpell s) (sym (c.in-Err-BadLine.ensures.same (ap Err c.in-Err-BadLine.field-0-is)))
    (c.self.invariant c.if-self.false)

pub returns-in_err-put_mail-clause-full : goal.returns-in_err-put_mail-clause-full
returns-in_err-put_mail-clause-full g c lines after is =
    let digest = g.H.Hash32.digest_of in
    let p = err_from_is_err_and c.from_residual-in_err-put_mail.result c.from_residual-in_err-put_mail.ensures.1 in
    let why : c.in_err-put_mail.field-0.0 ≡ StepRefusal.MailFull = cc (p.1, p.2, is) in
    subst (λ (s : RunningState _). IsAfter (digest s.hash) lines s → WouldFill (digest s.hash) lines c.args.line.now)
    (ap (λ (s : WorldState _). s.running) c.self.view_is)
    (λ here. put_fills (digest c.self.inside.running.hash) lines c.args.line.now c.self.inside.running here
    c.in-Ok.answer c.take_line.new.self (c.in-Ok.ensures.takes here.hash) c.in_ok-item.item c.in_ok-item.ensures
    (c.in_err-put_mail.ensures.full (ap Err why))) after

pub returns-clause-ok : goal.returns-clause-ok
returns-clause-ok g c =
    let digest = g.H.Hash32.digest_of in
    let line = c.args.line.now in
    let old = c.self.inside.running in
    let answer = c.in-Ok.answer in
    let put = c.put_mail.new.self in
    let new = c.keep.new.self in
    let hash = ap (λ (s : RunningState _). s.hash) c.in_ok-put_mail.ensures.put ∙ c.in-Ok.ensures.hash in
    let refused = with_answer put.refused answer.done answer.reply in
    let long = c.len-number.ensures ∙ ap (λ (t : TraceState). length t.facts) c.trace.ensures in
    subst (λ (s : RunningState _). (lines : List Line) → IsAfter (digest s.hash) lines s
    → IsStep (digest s.hash) lines line (told_as c.len-number.result answer) new)
    (ap (λ (s : WorldState _). s.running) c.self.view_is)
    (λ lines after. subst (IsStep (digest old.hash) lines line (told_as c.len-number.result answer))
    (sym c.in_ok-keep.ensures.rest)
    (subst (λ (n : ℕ). IsStep (digest old.hash) lines line (told_as n answer)
    (record put { trace = new.trace; refused = refused })) (sym long)
    (put_steps (digest old.hash) lines line old after answer c.take_line.new.self (c.in-Ok.ensures.takes after.hash)
    c.requires (subst AreBytes c.as_slice.ensures c.are_bytes.ensures) c.in_ok-item.item c.in_ok-item.ensures put
    c.in_ok-put_mail.ensures.put c.in_ok-put_mail.ensures.fits new.trace
    (λ scene some tests rules events event.
    subst (λ h. Tells (digest h) tests rules events put.trace
    → IsEvent tests rules (log_of events) event answer.event → scene.chain.log ≡ log_of (event ∷ events)
    → scene.chain.tag ≡ rules.tag → Tells (digest h) tests rules (event ∷ events) new.trace) hash
    (c.in_ok-keep.ensures.told scene some tests rules events event))
    c.in_ok-keep.ensures.named (subst (λ (n : ℕ). n < 2 ^ 64) long c.len-number.type_inv) refused refl)))

pub returns-clause-hash : goal.returns-clause-hash
returns-clause-hash g c =
    ap (λ (s : RunningState _). s.hash) c.in_ok-keep.ensures.rest
    ∙ ap (λ (s : RunningState _). s.hash) c.in_ok-put_mail.ensures.put ∙ c.in-Ok.ensures.hash
    ∙ ap (λ (s : WorldState _). s.running.hash) c.self.view_is

pub returns-clause-nodes : goal.returns-clause-nodes
returns-clause-nodes g c =
    subst (λ (s : RunningState _). NodesSpell s) (sym c.in_ok-keep.ensures.rest)
    (nodes_put c.take_line.new.self c.put_mail.new.self c.in_ok-item.item c.in_ok-put_mail.ensures.put
    c.in-Ok.ensures.nodes)

pub invariant_of-self-2 : goal.invariant_of-self-2
invariant_of-self-2 g c on =
    subst (λ (s : RunningState _). NodesSpell s) (sym c.in_ok-keep.ensures.rest)
    (nodes_put c.take_line.new.self c.put_mail.new.self c.in_ok-item.item c.in_ok-put_mail.ensures.put
    c.in-Ok.ensures.nodes)

pub returns-clause-moves : goal.returns-clause-moves
returns-clause-moves g c =
    let digest = g.H.Hash32.digest_of in
    subst (λ (s : WorldState _). MovesIn digest s.running.scene c.args.line.now c.keep.new.self.scene) c.self.view_is
    (subst (λ (s : RunningState _). MovesIn digest c.self.inside.running.scene c.args.line.now s.scene)
    (sym c.in_ok-keep.ensures.rest)
    (moves_put digest c.self.inside.running.scene c.args.line.now c.take_line.new.self c.put_mail.new.self
    c.in_ok-item.item c.in_ok-put_mail.ensures.put c.in-Ok.ensures.moves))
