use Rattle.hss_keys.proofs.Words.{◌≡◌, ◌+◌, ◌-◌, ℕ, true, false, List, Option, Some, None, Result, Ok, refl, sym, ◌∙◌, ap, subst, arith, leaf_count-le, Effect, Did, Stop, StopFault, Entry, Binds, LevelRefusal, entries_of, entry_text, message_at, opened_count, used_in, IsEntry, bind_effect, bound_of, has_leaf, HssBoundState}
use Rattle.hss_keys.proofs.Bounds.{bound-kept, entries-bound, message-kept}
use Rattle.hss_keys.proofs.Counts.{next-has, opened-same}
use Rattle.hss_keys.proofs.Effects.{bind-goes, bind-spent}
use Rattle.hss_keys.proofs.levels.Levels.bind.Goals as goal

pub returns-then-not-has_leaf-clause-answer : goal.returns-then-not-has_leaf-clause-answer
returns-then-not-has_leaf-clause-answer g c =
    let old = c.args.self.now in
    let has : has_leaf old.seed (entries_of old.notes.records) ≡ false = sym c.has_leaf.ensures ∙ c.if-not-has_leaf.true in
    λ no_stop. rw (bind-spent old.seed old.notes.records c.args.message.now has, c.opened-levels.ensures.value) refl

pub returns-then-not-has_leaf-clause-did : goal.returns-then-not-has_leaf-clause-did
returns-then-not-has_leaf-clause-did g c =
    let old = c.args.self.now in
    let has : has_leaf old.seed (entries_of old.notes.records) ≡ false = sym c.has_leaf.ensures ∙ c.if-not-has_leaf.true in
    rw (bind-spent old.seed old.notes.records c.args.message.now has)
    (sym c.is_closed.ensures ∙ c.if-is_closed.false, refl)

pub bound-requires-clause-top : goal.bound-requires-clause-top
bound-requires-clause-top g c =
    let old = c.args.self.now in
    let new = c.bind_leaf.new.self in
    let j = c.opened-levels.result - 1 in
    let q = c.used-leaf.result in
    let message = c.args.message.now in
    let has : has_leaf old.seed (entries_of old.notes.records) ≡ true = sym c.has_leaf.ensures ∙ c.if-not-has_leaf.false in
    let is_entry : IsEntry (Binds j q message) = (
      omega (arith, c.opened-levels.ensures.within, leaf_count-le old.seed.top),
      omega (arith, c.used-leaf.ensures.within, leaf_count-le old.seed.bottom),
      c.requires.some,
      c.requires.most,
    ) in
    let more = entries-bound old.notes.records new.notes.records j q message is_entry c.in-Ok.ensures.did.records in
    omega (
      arith,
      c.opened-levels.ensures.value,
      (next-has old.seed (entries_of old.notes.records) has).0,
      ap (λ (l : List Entry). opened_count l) more,
      opened-same (entries_of old.notes.records) j q message,
    )

pub returns-in-Ok-clause-answer : goal.returns-in-Ok-clause-answer
returns-in-Ok-clause-answer g c =
    let old = c.args.self.now in
    let has : has_leaf old.seed (entries_of old.notes.records) ≡ true = sym c.has_leaf.ensures ∙ c.if-not-has_leaf.false in
    let is : c.bound.result ≡ bound_of old.seed (opened_count (entries_of old.notes.records) - 1)
    (used_in (entries_of old.notes.records)) c.args.message.now =
    c.bound.ensures.value ∙ (λ i. bound_of (c.bind_leaf.ensures.seed i) (c.opened-levels.ensures.value i - 1)
    (c.used-leaf.ensures.value i) (c.of.ensures i)) in
    let ok : HssBoundState → Result HssBoundState LevelRefusal = λ b. Ok b in
    λ no_stop. ap ok is ∙ sym (ap (λ (e : Effect (Result HssBoundState LevelRefusal)). e.answer)
    (bind-goes old.seed old.notes.records c.args.message.now has))

pub returns-in-Ok-clause-did : goal.returns-in-Ok-clause-did
returns-in-Ok-clause-did g c =
    let d = g.D.Disk in
    let old = c.args.self.now in
    let new = c.bind_leaf.new.self in
    let has : has_leaf old.seed (entries_of old.notes.records) ≡ true = sym c.has_leaf.ensures ∙ c.if-not-has_leaf.false in
    let note : (bind_effect old.seed old.notes.records c.args.message.now).note
    ≡ Some (entry_text (Binds (c.opened-levels.result - 1) c.used-leaf.result c.args.message.now)) =
    ap (λ (e : Effect (Result HssBoundState LevelRefusal)). e.note)
    (bind-goes old.seed old.notes.records c.args.message.now has)
    ∙ sym (λ i. Some (entry_text (Binds (c.opened-levels.ensures.value i - 1) (c.used-leaf.ensures.value i)
    c.args.message.now))) in
    subst (λ (n : Option (List ℕ)). Did d.told d.plan d.faults n old.notes None new.notes) (sym note)
    c.in-Ok.ensures.did

pub returns-in-Ok-clause-kept : goal.returns-in-Ok-clause-kept
returns-in-Ok-clause-kept g c =
    let old = c.args.self.now in
    let new = c.bind_leaf.new.self in
    let j = c.opened-levels.result - 1 in
    let q = c.used-leaf.result in
    let message = c.args.message.now in
    let entries = entries_of old.notes.records in
    let has : has_leaf old.seed entries ≡ true = sym c.has_leaf.ensures ∙ c.if-not-has_leaf.false in
    let is_entry : IsEntry (Binds j q message) = (
      omega (arith, c.opened-levels.ensures.within, leaf_count-le old.seed.top),
      omega (arith, c.used-leaf.ensures.within, leaf_count-le old.seed.bottom),
      c.requires.some,
      c.requires.most,
    ) in
    let more = entries-bound old.notes.records new.notes.records j q message is_entry c.in-Ok.ensures.did.records in
    let last : j + 1 ≡ opened_count entries = omega (
      arith,
      c.opened-levels.ensures.value,
      (next-has old.seed entries has).0,
    ) in
    let kept : message_at (entries_of new.notes.records) j q ≡ Some message =
    ap (λ (l : List Entry). message_at l j q) more ∙ message-kept entries j q message last c.used-leaf.ensures.value in
    let is : c.bound.result ≡ bound_of new.seed j q message =
    c.bound.ensures.value ∙ ap (bound_of new.seed j q) c.of.ensures in
    bound-kept new.seed new.notes.records j q message c.bound.result is c.bound.ensures.key kept

pub returns-in-Err-clause-did : goal.returns-in-Err-clause-did
returns-in-Err-clause-did g c =
    let d = g.D.Disk in
    let old = c.args.self.now in
    let new = c.bind_leaf.new.self in
    let has : has_leaf old.seed (entries_of old.notes.records) ≡ true = sym c.has_leaf.ensures ∙ c.if-not-has_leaf.false in
    let text = entry_text (Binds (c.opened-levels.result - 1) c.used-leaf.result c.args.message.now) in
    let note : (bind_effect old.seed old.notes.records c.args.message.now).note ≡ Some text =
    ap (λ (e : Effect (Result HssBoundState LevelRefusal)). e.note)
    (bind-goes old.seed old.notes.records c.args.message.now has)
    ∙ sym (λ i. Some (entry_text (Binds (c.opened-levels.ensures.value i - 1) (c.used-leaf.ensures.value i)
    c.args.message.now))) in
    let stopped = subst (λ (s : Stop). Did d.told d.plan d.faults (Some text) old.notes (Some s) new.notes)
    c.in-Err.ensures.fault c.in-Err.ensures.did in
    subst (λ (n : Option (List ℕ)). Did d.told d.plan d.faults n old.notes (Some StopFault)
    new.notes) (sym note) stopped
