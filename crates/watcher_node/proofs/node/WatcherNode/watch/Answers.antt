use Rattle.std.proofs.Common.{[], Result, Ok, Err, ◌∙◌, ap, subst}
use Rattle.std.specs.Prelude.{◌≢◌, OnErr}
use Rattle.node_rules.specs.Watcher.{guards_in, watch_answer}
use Rattle.node_journal.specs.Notes.{NodeState}
use Rattle.watcher_node.proofs.Dues.{dues-answer, guards-some}
use Rattle.watcher_node.proofs.node.WatcherNode.watch.Goals as goal

-- what holds anyway holds of an error
on-error : {T E : Type 0} (result : Result T E) (P : Type 0) → P → OnErr result P
on-error (Ok x) P is = tt
on-error (Err why) P is = is

pub returns-clause-calls : goal.returns-clause-calls
returns-clause-calls g c =
    let inside = c.self.inside in
    let log = c.args.log.now.log in
    let kept = c.self.invariant.0 in
    c.in_ok-calls.ensures.calls
    ∙ dues-answer (g.H.Hash32.digest_of inside.hash) inside.notes.notes.records log inside.account
    inside.guards.entries kept.is_account kept.are_all
    ∙ ap (λ (s : NodeState _ _). watch_answer (g.H.Hash32.digest_of s.hash) s.notes.records log) c.self.view_is

pub returns-in_err-calls-clause-memory : goal.returns-in_err-calls-clause-memory
returns-in_err-calls-clause-memory g c =
    let inside = c.self.inside in
    on-error c.from_residual.result _
    (subst (λ (s : NodeState _ _). guards_in (g.H.Hash32.digest_of s.hash) s.notes.records ≢ []) c.self.view_is
    (guards-some (g.H.Hash32.digest_of inside.hash) inside.notes.notes.records inside.guards.entries
    c.self.invariant.0.are_all c.in_err-calls.ensures.memory))
