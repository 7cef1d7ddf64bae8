use Rattle.std.proofs.Common.{◌≡◌, ◌+◌, ℕ, Bool, true, false, List, length, take, Ok, refl, sym, ◌∙◌, ap}
use Rattle.std.specs.Prelude.{reverse}
use Rattle.std.specs.List.{filter_map}
use Rattle.std.specs.Option.{option_map}
use Rattle.node_rules.specs.WalletRecords.{note_in}
use Rattle.node_rules.specs.WalletOpening.{is_bound_record}
use Rattle.wallet_node.specs.Inside.{MemoryState, change_of, changed_by, memory_of}
use Rattle.wallet_node.proofs.InMemory.{memory-none, memory-take}
use Rattle.wallet_node.proofs.Unbound.{told-at, told-as, bound-of, all-more, place_behind, gate-first, gate-more, unbound-at, bound-all, memory-all}
use Rattle.wallet_node.proofs.reading.read_memory.Goals as goal

pub loop-note-init : goal.loop-note-init
loop-note-init g c =
    let records = c.args.records.now in
    let identity = c.in-Some.identity.now in
    let notes = c.in-Some.notes.now in
    let are = c.in-Some.ensures.cases.0 in
    record {
      memory = c.new-memory.ensures ∙ sym (memory-none c.args.me c.args.tag.now);
      bound = refl {a = true};
      place = told-as c.gate_behind-gate.result (9 + length identity) (place_behind records notes 0)
          c.gate_behind-gate.ensures (gate-first records identity notes are);
    }

pub returns-then-not-branch-clause-refused : goal.returns-then-not-branch-clause-refused
returns-then-not-branch-clause-refused g c =
    let dig = g.H.Hash32.digest_of c.args.h.now in
    let records = c.args.records.now in
    let identity = c.in-Some.identity.now in
    let notes = c.in-Some.notes.now in
    let are = c.in-Some.ensures.cases.0 in
    let i = c.loop-note.note-index in
    let at = told-at c.loop-note.gate c.in-Some-gate.place (place_behind records notes i)
    c.in-Some-gate.is c.loop-note.invariant.place in
    let bad : is_bound_record dig c.args.tag.now c.args.bodies.now c.note-item.result ≡ false =
    bound-of dig c.args.tag.now c.args.bodies.now c.note-item.result c.as_slice.result.now c.in_ok-take_note.field-0
    false c.as_slice.ensures c.in_ok-take_note.ensures.bound c.if-not-branch.true in
    let unbound = unbound-at dig c.args.bodies.now records identity notes c.args.tag.now are c.requires.tag i
    c.note-item.result c.loop-note-test.true c.note-item.is c.loop-note.invariant.bound bad in
    (unbound.0, at ∙ unbound.1)

pub loop-note-preserved : goal.loop-note-preserved
loop-note-preserved g c =
    let dig = g.H.Hash32.digest_of c.args.h.now in
    let tag = c.args.tag.now in
    let records = c.args.records.now in
    let identity = c.in-Some.identity.now in
    let notes = c.in-Some.notes.now in
    let are = c.in-Some.ensures.cases.0 in
    let i = c.loop-note.note-index in
    let note = c.note-item.result in
    let before : MemoryState =
    memory_of c.args.me tag (reverse (filter_map (note_in dig tag) (take i notes))) in
    let good : is_bound_record dig tag c.args.bodies.now note ≡ true =
    bound-of dig tag c.args.bodies.now note c.as_slice.result.now c.in_ok-take_note.field-0 true c.as_slice.ensures
    c.in_ok-take_note.ensures.bound c.if-not-branch.false in
    let at = told-at c.loop-note.gate c.in-Some-gate.place (place_behind records notes i)
    c.in-Some-gate.is c.loop-note.invariant.place in
    record {
      memory =
          c.in_ok-take_note.ensures.taken (ap (λ (b : Bool). Ok b) c.if-not-branch.false)
          ∙ ap (changed_by (option_map (change_of tag) (note_in dig tag c.as_slice.result.now)))
          c.loop-note.invariant.memory
          ∙ ap (λ (b : List ℕ). changed_by (option_map (change_of tag) (note_in dig tag b)) before) c.as_slice.ensures
          ∙ sym (memory-take dig c.args.me tag notes i note c.loop-note-test.true c.note-item.is);
      bound = all-more (is_bound_record dig tag c.args.bodies.now) notes i note c.loop-note-test.true c.note-item.is
          c.loop-note.invariant.bound good;
      place = told-as c.gate_behind-gate-in-loop-note.result (c.in-Some-gate.place + 5 + length note)
          (place_behind records notes (i + 1)) c.gate_behind-gate-in-loop-note.ensures
          (gate-more records identity notes are i note c.in-Some-gate.place c.loop-note-test.true c.note-item.is at);
    }

pub returns-clause-memory : goal.returns-clause-memory
returns-clause-memory g c =
    let dig = g.H.Hash32.digest_of c.args.h.now in
    c.loop-note.invariant.memory
    ∙ memory-all dig c.args.bodies.now c.args.records.now c.in-Some.identity.now c.in-Some.notes.now c.args.tag.now
    c.in-Some.ensures.cases.0 c.requires.tag c.args.me c.requires.me c.loop-note.note-index c.loop-note-test.false

pub returns-clause-bound : goal.returns-clause-bound
returns-clause-bound g c =
    bound-all (g.H.Hash32.digest_of c.args.h.now) c.args.bodies.now c.args.records.now c.in-Some.identity.now
    c.in-Some.notes.now c.args.tag.now c.in-Some.ensures.cases.0 c.requires.tag c.loop-note.note-index
    c.loop-note-test.false c.loop-note.invariant.bound
