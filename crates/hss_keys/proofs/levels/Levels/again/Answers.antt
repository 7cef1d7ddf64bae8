use Rattle.hss_keys.proofs.Words.{◌≡◌, Some, sym, subst, entries_of, message_at, LevelsState}
use Rattle.hss_keys.proofs.Bounds.{bound-kept}
use Rattle.hss_keys.proofs.levels.Levels.again.Goals as goal

pub returns-clause-kept : goal.returns-clause-kept
returns-clause-kept g c =
    let old = c.args.self.now in
    let message = c.in_ok-message.message in
    let value = subst (λ (s : LevelsState _). Some message ≡ message_at (entries_of s.notes.records) c.args.j c.args.q)
    c.self.view_is c.in_ok-message.ensures.value in
    bound-kept _ _ _ _ _ _ c.bound.ensures.value c.bound.ensures.key (sym value)
