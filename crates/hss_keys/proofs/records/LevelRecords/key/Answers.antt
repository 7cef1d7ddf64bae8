use Rattle.hss_keys.proofs.Words.{◌<◌, ◌∙◌, ℕ, List, [], get_or, length, ap, sym, subst, arith, get_or_default, bottom_key, entries_of, opened_count, LevelRecordsState}
use Rattle.hss_keys.proofs.Form.{are_counted}
use Rattle.hss_keys.proofs.records.LevelRecords.key.Goals as goal

pub returns : goal.returns
returns c =
    let inside = c.self.inside in
    let entries = entries_of inside.records.items in
    let keys = inside.keys.items in
    let j = c.args.top_leaf in
    let within : j < opened_count entries =
    subst (λ (s : LevelRecordsState). j < opened_count (entries_of s.records)) (sym c.self.view_is) c.requires in
    let there : j < length keys = omega (arith, within, ap length c.self.invariant.keys_are) in
    let counted = are_counted inside.seed inside.records.items c.self.invariant.are in
    c.index.ensures ∙ get_or_default keys j c.index.result.now [] there
    ∙ ap (λ (l : List (List ℕ)). get_or l j []) c.self.invariant.keys_are ∙ counted.keys j within
    ∙ ap (λ (s : LevelRecordsState). bottom_key s.seed j) c.self.view_is
