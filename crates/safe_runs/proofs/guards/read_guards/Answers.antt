use Rattle.std.proofs.Common.{List, ℕ, take, map, reverse, Option, sym, ◌∙◌, ap}
use Rattle.std.specs.List.{filter_map}
use Rattle.std.specs.Option.{option_map}
use Rattle.node_rules.specs.Watcher.{note_in}
use Rattle.node_rules.specs.declared.kept_coin.KeptCoin.{KeptCoin}
use Rattle.safe_runs.specs.declared.guards.Change.{Change}
use Rattle.watcher_node.specs.Inside.{watched_in, keyed}
use Rattle.safe_runs.specs.Inside.{change_of, changed_by}
use Rattle.watcher_node.proofs.Steps.{watched-start}
use Rattle.safe_runs.proofs.GuardCases.{watched-take}
use Rattle.safe_runs.proofs.guards.read_guards.Goals as goal

pub loop-note-init : goal.loop-note-init
loop-note-init g c =
    c.new-all.ensures.empty ∙ ap (map keyed) (watched-start (g.H.Hash32.digest_of c.args.h.now) c.args.tag.now)

pub loop-note-preserved : goal.loop-note-preserved
loop-note-preserved g c =
    let dig = g.H.Hash32.digest_of c.args.h.now in
    let tag = c.args.tag.now in
    let before : List KeptCoin =
    watched_in tag (reverse (filter_map (note_in dig tag) (take c.loop-note.note-index c.args.notes.now))) in
    c.in_ok-take_over.ensures before c.loop-note.invariant
    ∙ ap (map keyed)
    (ap (λ (change : Option Change). changed_by change before)
    (c.in_ok-change.ensures ∙ ap (λ (b : List ℕ). option_map (change_of tag) (note_in dig tag b)) c.as_slice.ensures)
    ∙ sym (watched-take dig tag c.args.notes.now c.loop-note.note-index c.note-item.result c.loop-note-test.true
    c.note-item.is))
