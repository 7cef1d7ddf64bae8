use Rattle.hss_keys.proofs.Words.{◌≡◌, ◌∷◌, ◌++◌, [], Some, ◌∙◌, ap, arith, Entry, Binds, entries_of, leaves_left}
use Rattle.hss_keys.proofs.Counts.{entries-more, left-less, next_leaf}
use Rattle.hss_keys.proofs.reading.add.Goals as goal

pub returns-in-Binds-clause-room : goal.returns-in-Binds-clause-room
returns-in-Binds-clause-room c =
    let kept = c.args.kept.now in
    let new = c.push-in-Binds.new.self in
    let entries = entries_of kept.records in
    let j = c.in-Binds.top_leaf in
    let q = c.in-Binds.leaf in
    let message = c.in-Binds.message in
    let may = rw c.in-Binds.is at c.requires.follows in
    let more = entries-more _ _ _ (c.requires.reads ∙ ap (λ (e : Entry). Some e) c.in-Binds.is) in
    let less = left-less kept.seed entries j q message (next_leaf kept.seed entries j q message may) in
    let same : leaves_left new.seed (entries_of new.records)
    ≡ leaves_left kept.seed (entries ++ Binds j q message ∷ []) =
    (λ i. leaves_left (c.push-in-Binds.ensures.seed i) (entries_of (c.push-in-Binds.ensures.records i)))
    ∙ ap (leaves_left kept.seed) more in
    omega (arith, same, less, c.requires.room, c.push-in-Binds.ensures.room)
