use Rattle.std.proofs.Common.{List, ℕ, [], ◌∷◌, ◌++◌, take, Option, ◌∙◌, ap}
use Rattle.std.specs.List.{filter_map}
use Rattle.node_rules.specs.declared.kept_coin.KeptCoin.{KeptCoin}
use Rattle.node_rules.specs.WalletRecords.{note_in}
use Rattle.safe_runs.specs.Inside.{accepted_by}
use Rattle.safe_runs.proofs.Loops.{filter-more}
use Rattle.safe_runs.proofs.holdings.read_notes.Goals as goal

pub loop-note-preserved : goal.loop-note-preserved
loop-note-preserved g c =
    let dig = g.H.Hash32.digest_of c.args.h.now in
    let tag = c.args.tag.now in
    let read : List ℕ → Option KeptCoin = λ note. accepted_by tag (note_in dig tag note) in
    c.in_ok-push_note.ensures
    ∙ ap (λ (kept : List KeptCoin). kept ++ filter_map read (c.as_slice.result.now ∷ [])) c.loop-note.invariant
    ∙ ap (λ (note : List ℕ). filter_map read (take c.loop-note.note-index c.args.notes.now) ++ filter_map read (note ∷ [])) c.as_slice.ensures
    ∙ filter-more read c.args.notes.now c.loop-note.note-index c.note-item.result c.loop-note-test.true
    c.note-item.is
