use Rattle.hss_keys.proofs.Words.{◌≡◌, ◌<◌, ◌≤◌, true, false, ℕ, List, Option, None, Some, Result, Ok, Err, refl, sym, ◌∙◌, ap, subst, arith, leaf_count, public_key_of, Effect, Did, stopped_by, Stop, StopFault, HssSeed, Opens, LevelRefusal, bottom_key, entries_of, entry_text, opened_count, advance_effect, has_leaf}
use Rattle.hss_keys.proofs.Effects.{advance-goes, advance-open, advance-spent}
use Rattle.hss_keys.proofs.levels.Levels.advance.Goals as goal

pub returns-then-has_leaf-clause-answer : goal.returns-then-has_leaf-clause-answer
returns-then-has_leaf-clause-answer g c =
    let old = c.args.self.now in
    let has : has_leaf old.seed (entries_of old.notes.records) ≡ true = sym c.has_leaf.ensures ∙ c.if-has_leaf.true in
    λ no_stop. rw (advance-open old.seed old.notes.records has, c.used.ensures.value) refl

pub returns-then-has_leaf-clause-did : goal.returns-then-has_leaf-clause-did
returns-then-has_leaf-clause-did g c =
    let old = c.args.self.now in
    let has : has_leaf old.seed (entries_of old.notes.records) ≡ true = sym c.has_leaf.ensures ∙ c.if-has_leaf.true in
    rw (advance-open old.seed old.notes.records has) (sym c.is_closed.ensures ∙ c.if-is_closed.false, refl)

pub returns-then-top_leaf-top_leaves-clause-answer : goal.returns-then-top_leaf-top_leaves-clause-answer
returns-then-top_leaf-top_leaves-clause-answer g c =
    let old = c.args.self.now in
    let has : has_leaf old.seed (entries_of old.notes.records) ≡ false = sym c.has_leaf.ensures ∙ c.if-has_leaf.false in
    let leaves : c.top_leaves.result ≡ leaf_count old.seed.top =
    c.top_leaves.ensures ∙ ap (λ (s : HssSeed). leaf_count s.top) c.requires.secret in
    let most : leaf_count old.seed.top ≤ opened_count (entries_of old.notes.records) =
    omega (arith, leaves, c.if-top_leaf-top_leaves.true, c.opened-top_leaf.ensures.value) in
    λ no_stop. rw (advance-spent old.seed old.notes.records has most, c.opened-top_leaf.ensures.value) refl

pub returns-then-top_leaf-top_leaves-clause-did : goal.returns-then-top_leaf-top_leaves-clause-did
returns-then-top_leaf-top_leaves-clause-did g c =
    let old = c.args.self.now in
    let has : has_leaf old.seed (entries_of old.notes.records) ≡ false = sym c.has_leaf.ensures ∙ c.if-has_leaf.false in
    let leaves : c.top_leaves.result ≡ leaf_count old.seed.top =
    c.top_leaves.ensures ∙ ap (λ (s : HssSeed). leaf_count s.top) c.requires.secret in
    let most : leaf_count old.seed.top ≤ opened_count (entries_of old.notes.records) =
    omega (arith, leaves, c.if-top_leaf-top_leaves.true, c.opened-top_leaf.ensures.value) in
    rw (advance-spent old.seed old.notes.records has most) (sym c.is_closed.ensures ∙ c.if-is_closed.false, refl)

pub returns-in-Ok-clause-answer : goal.returns-in-Ok-clause-answer
returns-in-Ok-clause-answer g c =
    let old = c.args.self.now in
    let has : has_leaf old.seed (entries_of old.notes.records) ≡ false = sym c.has_leaf.ensures ∙ c.if-has_leaf.false in
    let leaves : c.top_leaves.result ≡ leaf_count old.seed.top =
    c.top_leaves.ensures ∙ ap (λ (s : HssSeed). leaf_count s.top) c.requires.secret in
    let less : opened_count (entries_of old.notes.records) < leaf_count old.seed.top = omega (
      arith,
      leaves,
      c.if-top_leaf-top_leaves.false,
      c.opened-top_leaf.ensures.value,
      c.opened-top_leaf.ensures.within,
    ) in
    let ok : ℕ → Result ℕ LevelRefusal = λ n. Ok n in
    λ no_stop. ap ok c.opened-top_leaf.ensures.value ∙ sym (ap (λ (e : Effect (Result ℕ LevelRefusal)). e.answer)
    (advance-goes old.seed old.notes.records has less))

pub returns-in-Ok-clause-did : goal.returns-in-Ok-clause-did
returns-in-Ok-clause-did g c =
    let d = g.D.Disk in
    let old = c.args.self.now in
    let has : has_leaf old.seed (entries_of old.notes.records) ≡ false = sym c.has_leaf.ensures ∙ c.if-has_leaf.false in
    let leaves : c.top_leaves.result ≡ leaf_count old.seed.top =
    c.top_leaves.ensures ∙ ap (λ (s : HssSeed). leaf_count s.top) c.requires.secret in
    let less : opened_count (entries_of old.notes.records) < leaf_count old.seed.top = omega (
      arith,
      leaves,
      c.if-top_leaf-top_leaves.false,
      c.opened-top_leaf.ensures.value,
      c.opened-top_leaf.ensures.within,
    ) in
    let key : c.public-key.result ≡ bottom_key old.seed (opened_count (entries_of old.notes.records)) =
    c.public-key.ensures.value ∙ ap public_key_of c.in_ok-bottom.ensures
    ∙ (λ i. bottom_key (c.requires.secret i) (c.opened-top_leaf.ensures.value i)) in
    let note : (advance_effect old.seed old.notes.records).note
    ≡ Some (entry_text (Opens c.opened-top_leaf.result c.public-key.result)) =
    ap (λ (e : Effect (Result ℕ LevelRefusal)). e.note) (advance-goes old.seed old.notes.records has less)
    ∙ sym (λ i. Some (entry_text (Opens (c.opened-top_leaf.ensures.value i) (key i)))) in
    subst (λ (n : Option (List ℕ)). Did d.told d.plan d.faults n old.notes None c.open_level.new.self.notes)
    (sym note) c.in-Ok.ensures.did

pub returns-in-Err-DeviceFault-clause-did : goal.returns-in-Err-DeviceFault-clause-did
returns-in-Err-DeviceFault-clause-did g c =
    let d = g.D.Disk in
    let old = c.args.self.now in
    let has : has_leaf old.seed (entries_of old.notes.records) ≡ false = sym c.has_leaf.ensures ∙ c.if-has_leaf.false in
    let leaves : c.top_leaves.result ≡ leaf_count old.seed.top =
    c.top_leaves.ensures ∙ ap (λ (s : HssSeed). leaf_count s.top) c.requires.secret in
    let less : opened_count (entries_of old.notes.records) < leaf_count old.seed.top = omega (
      arith,
      leaves,
      c.if-top_leaf-top_leaves.false,
      c.opened-top_leaf.ensures.value,
      c.opened-top_leaf.ensures.within,
    ) in
    let key : c.public-key.result ≡ bottom_key old.seed (opened_count (entries_of old.notes.records)) =
    c.public-key.ensures.value ∙ ap public_key_of c.in_ok-bottom.ensures
    ∙ (λ i. bottom_key (c.requires.secret i) (c.opened-top_leaf.ensures.value i)) in
    let note : (advance_effect old.seed old.notes.records).note
    ≡ Some (entry_text (Opens c.opened-top_leaf.result c.public-key.result)) =
    ap (λ (e : Effect (Result ℕ LevelRefusal)). e.note) (advance-goes old.seed old.notes.records has less)
    ∙ sym (λ i. Some (entry_text (Opens (c.opened-top_leaf.ensures.value i) (key i)))) in
    let new = c.open_level.new.self in
    let fault : Stop → Result Unit Stop = λ s. Err s in
    let stopped = subst (λ (r : Result Unit Stop). Did d.told d.plan d.faults
    (Some (entry_text (Opens c.opened-top_leaf.result c.public-key.result))) old.notes (stopped_by r)
    new.notes) (c.in-Err-DeviceFault.is ∙ ap fault c.in-Err-DeviceFault.field-0-is) c.open_level.ensures.did in
    subst (λ (n : Option (List ℕ)). Did d.told d.plan d.faults n old.notes (Some StopFault) new.notes)
    (sym note) stopped
