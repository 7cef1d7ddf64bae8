use Rattle.watch_duty.proofs.Words.{◌≡◌, ℕ, ◌+◌, ◌<◌, List, [], ◌++◌, length, get_or, take, sym, ap, ◌∙◌, flat_map, Link, RootCall, Guard, guard_of, due_of, due_calls}
use Rattle.std.proofs.lemmas.List.{flat_map_more, take_more}
use Rattle.watch_duty.proofs.due.duty.Goals as goal

-- one more guard
more : (log : List RootCall) (account : ℕ) (guards : List Guard) (i : ℕ) (guard : Guard) → i < length guards
    → guard ≡ get_or guards i guard
    → due_calls log account (take i guards) ++ due_of log account guard ≡ due_calls log account (take (i + 1) guards)
unfolding due_calls
more log account guards i guard less is =
    ap (λ (g : Guard). flat_map (due_of log account) (take i guards) ++ due_of log account g) is
    ∙ flat_map_more (due_of log account) [] (take i guards) (get_or guards i guard)
    ∙ ap (flat_map (due_of log account)) (sym (take_more guards i guard less))

pub loop-guard-preserved : goal.loop-guard-preserved
loop-guard-preserved c =
    let guard : Guard = c.guard-item.result in
    c.in_ok-push_due.ensures.ok
    ∙ ap (λ (calls : List RootCall). calls
    ++ due_of c.args.log.now.log c.args.account (guard_of guard.links.coin guard.links.deposit
    c.as_slice-spends.result.now)) c.loop-guard.invariant
    ∙ ap (λ (spends : List Link). due_calls c.args.log.now.log c.args.account
    (take c.loop-guard.guard-index c.args.guards.now)
    ++ due_of c.args.log.now.log c.args.account (guard_of guard.links.coin guard.links.deposit spends))
    c.as_slice-spends.ensures
    ∙ more c.args.log.now.log c.args.account c.args.guards.now c.loop-guard.guard-index guard c.loop-guard-test.true
    c.guard-item.is
