use Rattle.std.proofs.Common.{◌<◌, ℕ, List, [], inl, inr, arith, sym, ◌∙◌, subst}
use Rattle.std.proofs.lemmas.Bool.{false≢true}
use Rattle.lms_sign.specs.Types.{leaf_count}
use Rattle.run_endings.specs.declared.status.Status.TheVariants.{Done}
use Rattle.run_endings.specs.Outputs.{EndsAs}
use Rattle.hss_keys.specs.declared.seed.HssSeed.{HssSeed}
use Rattle.hss_keys.specs.Entries.{entries_of}
use Rattle.hss_keys.proofs.Form.{are_counted}
use Rattle.hss_runs.specs.Signing.{entries_added}
use Rattle.hss_runs.proofs.Adding.{adds-count, adds-settle, fails-leave}
use Rattle.hss_runs.proofs.Calls.{answer-is}
use Rattle.hss_runs.proofs.Leaves.{top-within}
use Rattle.hss_runs.proofs.run.sign_by.Goals as goal

pub prepare-requires : goal.prepare-requires
prepare-requires g c =
    let old = c.args.levels.now in
    let most = (are_counted old.seed old.notes.records c.is_whole.ensures.are).opened in
    subst (λ (s : HssSeed). c.args.next.top_leaf < leaf_count s.top) (sym c.requires.secret)
    (top-within old.seed (entries_of old.notes.records) c.args.next c.requires.next (omega (arith, most)))

pub returns-in-Ok-bind_next-clause-signs : goal.returns-in-Ok-bind_next-clause-signs
returns-in-Ok-bind_next-clause-signs g c =
    let d = g.D.Disk in
    let k = g.K.Sink in
    let old = c.args.levels.now in
    let new = c.bind_next.new.levels in
    let line = answer-is old.seed c.args.secret.now c.in-Ok-bind_next.bound c.args.next c.args.message.now
    c.sign.result.items c.deref.result.now c.requires.secret c.in-Ok-bind_next.ensures.bound c.sign.ensures
    c.deref.ensures.value in
    inl (record {
      adds = c.in-Ok-bind_next.ensures.did;
      settled = adds-settle d.told d.plan d.faults (entries_added old.seed c.args.next c.args.message.now)
          old.notes new.notes c.in-Ok-bind_next.ensures.did (c.is_whole.ensures.settled c.requires.open);
      ends = subst (λ (l : List ℕ). EndsAs (record { status = Done; answers = []; last = l }) c.put_line.result
          (k.taken c.args.sink.now) (k.taken c.put_line.new.sink) ⊥) line c.put_line.ensures.output;
    })

pub returns-in-Err-DeviceFault-clause-signs : goal.returns-in-Err-DeviceFault-clause-signs
returns-in-Err-DeviceFault-clause-signs g c =
    let d = g.D.Disk in
    let old = c.args.levels.now in
    let failed = rw c.in-Err-DeviceFault.field-0-is at c.in-Err-DeviceFault.ensures.did in
    inr (inl (record {
      fails = failed;
      left = fails-leave d.told d.plan d.faults (entries_added old.seed c.args.next c.args.message.now)
          old.notes c.bind_next.new.levels.notes failed;
      ends = c.put_line-in-Err-DeviceFault.ensures.output;
    }))

-- ---- want of memory, where the sink takes none, met no fault

pub returns-in-Ok-bind_next-clause-memory : goal.returns-in-Ok-bind_next-clause-memory
returns-in-Ok-bind_next-clause-memory g c = λ none is.
    let d = g.D.Disk in
    adds-count d.told d.plan d.faults (entries_added c.args.levels.now.seed c.args.next c.args.message.now)
    c.args.levels.now.notes c.bind_next.new.levels.notes c.in-Ok-bind_next.ensures.did

pub returns-in-Err-DeviceFault-clause-memory : goal.returns-in-Err-DeviceFault-clause-memory
returns-in-Err-DeviceFault-clause-memory g c = λ none is.
    elim (c.put_line-in-Err-DeviceFault.ensures.memory is) [
      | inl wrong ↦ absurd (cc wrong)
      | inr takes ↦ absurd (false≢true (sym none ∙ takes))
    ]

-- ---- want of memory, where the sink takes none, spent no leaf

pub returns-in-Ok-bind_next-clause-unspent : goal.returns-in-Ok-bind_next-clause-unspent
returns-in-Ok-bind_next-clause-unspent g c = λ none is.
    elim (c.put_line.ensures.memory is) [
      | inl wrong ↦ absurd (cc wrong)
      | inr takes ↦ absurd (false≢true (sym none ∙ takes))
    ]

pub returns-in-Err-DeviceFault-clause-unspent : goal.returns-in-Err-DeviceFault-clause-unspent
returns-in-Err-DeviceFault-clause-unspent g c = λ none is.
    elim (c.put_line-in-Err-DeviceFault.ensures.memory is) [
      | inl wrong ↦ absurd (cc wrong)
      | inr takes ↦ absurd (false≢true (sym none ∙ takes))
    ]
