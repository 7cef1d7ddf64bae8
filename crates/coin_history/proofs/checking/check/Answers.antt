use Rattle.coin_history.proofs.Words.{List, ℕ, ◌∙◌, ap, subst, tests_by, rules_of, tagged, history_of, LooksAtHistory}
use Rattle.coin_history.proofs.CheckFacts.{tagged-same, tagged-looks}
use Rattle.coin_history.proofs.checking.check.Goals as goal

pub returns-clause-value : goal.returns-clause-value
returns-clause-value g c given =
    let tests = tests_by (g.H.Hash32.digest_of c.args.h.now) in
    let log = c.args.log.now in
    c.check_tagged.ensures.value given
    ∙ ap (λ (tag : List ℕ). history_of tests (tagged tag) log.log c.args.bundle.now) c.tag.ensures
    ∙ tagged-same tests (rules_of log) log.log c.args.bundle.now

pub returns-clause-memory : goal.returns-clause-memory
returns-clause-memory g c given =
    let tests = tests_by (g.H.Hash32.digest_of c.args.h.now) in
    let log = c.args.log.now in
    tagged-looks tests (rules_of log) log.log c.args.bundle.now
    (subst (λ (tag : List ℕ). LooksAtHistory tests (tagged tag) log.log c.args.bundle.now) c.tag.ensures
    (c.check_tagged.ensures.memory given))
