use Rattle.hss_keys.proofs.Words.{◌≡◌, ◌<◌, ◌∙◌, ℕ, List, Some, ap, sym, subst, arith, drop, leaf_count, types_of, entries_of, key_at, opened_count, LevelsState}
use Rattle.hss_keys.proofs.Validity.{bottom-types, top-types}
use Rattle.hss_keys.proofs.Bounds.{bottom-kept}
use Rattle.hss_keys.proofs.Form.{are_counted}
use Rattle.hss_keys.proofs.levels.Levels.bound.Goals as goal

pub invariant_of-result : goal.invariant_of-result
invariant_of-result g c =
    let inside = c.self.inside in
    let seed = inside.records.seed in
    let whole = c.is_whole.ensures in
    let counted = are_counted seed inside.records.records whole.are in
    let top : leaf_count (types_of (drop 4 inside.key)) ≡ leaf_count seed.top =
    ap (λ (k : List ℕ). leaf_count (types_of (drop 4 k))) c.self.invariant.key_is
    ∙ ap leaf_count (top-types seed whole.top whole.id) in
    let bottom : leaf_count (types_of c.key.result) ≡ leaf_count seed.bottom =
    ap (λ (k : List ℕ). leaf_count (types_of k)) c.key.ensures
    ∙ ap leaf_count (bottom-types seed c.args.top_leaf whole.bottom) in
    let count = ap (λ (s : LevelsState _). leaf_count s.seed.bottom) c.self.view_is in
    let within = subst (λ (s : LevelsState _). c.args.top_leaf < opened_count (entries_of s.notes.records))
    (sym c.self.view_is) c.requires.top in
    record {
      top = omega (arith, top, within, counted.opened);
      below = omega (arith, bottom, c.requires.below, count);
    }

pub returns-clause-key : goal.returns-clause-key
returns-clause-key g c =
    let inside = c.self.inside in
    let within = subst (λ (s : LevelsState _). c.args.top_leaf < opened_count (entries_of s.notes.records))
    (sym c.self.view_is) c.requires.top in
    subst (λ (s : LevelsState _). key_at (entries_of s.notes.records) c.args.top_leaf ≡ Some c.key.result) c.self.view_is
    (bottom-kept _ _ _ _ c.is_whole.ensures.are within c.key.ensures)
