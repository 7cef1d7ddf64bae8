use Rattle.std.proofs.Common.{◌≡◌, true, List, ℕ, Err, inl, inr, sym, ap, subst}
use Rattle.std.specs.Prelude.{is_ok}
use Rattle.node_journal.specs.Notes.{NodeState}
use Rattle.node_rules.specs.Kept.{links_handed}
use Rattle.node_rules.specs.Watcher.{who_is}
use Rattle.watcher_node.proofs.node.WatcherNode.guard.Goals as goal

pub returns-in-Ok-clause-memory : goal.returns-in-Ok-clause-memory
returns-in-Ok-clause-memory g c = λ none.
    let inside = c.self.inside in
    let log = c.args.log.now.log in
    let bytes = c.args.bundle.now in
    inr
    (subst (λ (s : NodeState _ _). is_ok (links_handed (g.H.Hash32.digest_of s.hash) (who_is s.notes.records).tag log
    bytes) ≡ true) c.self.view_is
    (subst (λ (tag : List ℕ). is_ok (links_handed (g.H.Hash32.digest_of inside.hash) tag log bytes) ≡ true)
    c.self.invariant.0.is_tag (ap (λ r. is_ok r) (sym (c.in-Ok.ensures.value (λ wrong. cc wrong))))))

pub returns-in-Err-clause-memory : goal.returns-in-Err-clause-memory
returns-in-Err-clause-memory g c = λ none.
    inl (c.in-Err.ensures.memory (ap Err (c.history_refusal.ensures.memory (cc none))))
