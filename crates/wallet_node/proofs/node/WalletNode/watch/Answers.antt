use Rattle.std.proofs.Common.{List, ◌≡◌, ◌&&◌, ◌∙◌, ap}
use Rattle.std.specs.Prelude.{Result, Ok, Err, IfOk}
use Rattle.plasma_tx.specs.declared.call.RootCall.{RootCall}
use Rattle.plasma_tx.specs.Views.{is_exiting}
use Rattle.wallet_core.specs.declared.notes.Notes.{Notes}
use Rattle.wallet_core.specs.State.{may_have}
use Rattle.wallet_node.proofs.Watched.{watched-exiting, watched-own}
use Rattle.wallet_node.proofs.node.WalletNode.watch.Goals as goal

-- what is said of the calls is said of others that are the same
same-calls : {A E : Type 0} (items : A → List RootCall) (one other : List RootCall) (result : Result A E) → one ≡ other
    → IfOk result (λ calls. items calls ≡ one) → IfOk result (λ calls. items calls ≡ other)
same-calls items one other (Ok calls) same is = is ∙ same
same-calls items one other (Err e) same is = is

pub returns-then-saturating_add-len-clause-calls : goal.returns-then-saturating_add-len-clause-calls
returns-then-saturating_add-len-clause-calls g c =
    let dig = g.H.Hash32.digest_of c.args.self.now.hash in
    let log = c.args.log.now.log in
    same-calls (λ calls. calls.items) _ _ c.due_for.result
    (watched-own dig c.args.self.now.records log c.in_ok-own.own
    (λ n. c.in_ok-own.ensures.coins n
    ∙ ap (λ (notes : Notes). may_have notes log n && is_exiting log n) c.noted-noted.ensures)
    c.in_ok-own.ensures.rising)
    c.due_for.ensures.calls

pub returns-clause-calls : goal.returns-clause-calls
returns-clause-calls g c =
    same-calls (λ calls. calls.items) _ _ c.due_for-2.result
    (watched-exiting (g.H.Hash32.digest_of c.args.self.now.hash) c.args.self.now.records c.args.log.now.log
    c.exiting-exiting.result.now c.exiting-exiting.ensures.exactly c.exiting-exiting.ensures.rising)
    c.due_for-2.ensures.calls
