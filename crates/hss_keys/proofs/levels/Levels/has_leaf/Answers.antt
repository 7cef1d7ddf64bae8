use Rattle.hss_keys.proofs.Words.{◌∙◌, ap, entries_of, LevelsState, has_leaf}
use Rattle.hss_keys.proofs.levels.Levels.has_leaf.Goals as goal

pub returns : goal.returns
returns g c = c.has_leaf.ensures ∙ ap (λ (s : LevelsState _). has_leaf s.seed (entries_of s.notes.records)) c.self.view_is
