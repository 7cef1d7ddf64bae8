use Rattle.leaf_journal.proofs.Words.{◌≡◌, true, false, ◌<◌, ◌+◌, ◌∙◌, ℕ, List, suc, [], ◌∷◌, ◌++◌, length, take, get_or, refl, sym, ap, arith, take_all, get_or_default, take-suc, spelled, may_follow_of, records_behind_of, LeafRecordsState}
use Rattle.leaf_journal.proofs.Form.{are_few, count_within, one_more, refused_at, spelled-count}
use Rattle.leaf_journal.proofs.reading.read_records.Goals as goal

pub loop-body-init : goal.loop-body-init
unfolding records_behind_of
loop-body-init g c = record {
  front = c.requires;
  are = c.is_whole.ensures.are;
  kind = rw c.requires refl;
  leaves = refl;
  few = c.is_whole.ensures.few;
  place = rw c.requires refl;
}

pub overflow_add-place : goal.overflow_add-place
overflow_add-place g c =
    let short = c.may_follow.ensures.short c.if-not-may_follow.false in
    omega (arith, c.len.ensures, ap length c.as_slice.ensures, short)

pub overflow_add-place-in-loop-body : goal.overflow_add-place-in-loop-body
overflow_add-place-in-loop-body g c =
    let kept = c.loop-body.kept in
    let short = c.may_follow.ensures.short c.if-not-may_follow.false in
    let few = are_few kept.leaves kept.records kept.records c.loop-body.invariant.are in
    let count = count_within kept.leaves kept.records c.loop-body.invariant.are in
    omega (
      arith,
      c.len.ensures,
      ap length c.as_slice.ensures,
      short,
      few.short,
      count,
      c.loop-body.invariant.place,
      c.loop-body.invariant.few,
    )

pub loop-body-preserved : goal.loop-body-preserved
loop-body-preserved g c =
    let kept = c.loop-body.kept in
    let index = c.loop-body.body-index in
    let records = c.args.records.now in
    let within : index < length records = c.loop-body-test.true in
    let is_body : c.of.result ≡ get_or records index [] =
    c.of.ensures ∙ c.as_slice-in-loop-body.ensures ∙ c.body-item.is
    ∙ get_or_default records index c.body-item.result [] within in
    let next : take (index + 1) records ≡ take index records ++ get_or records index [] ∷ [] =
    (let same : index + 1 ≡ suc index = omega arith in ap (λ (n : ℕ). take n records) same)
    ∙ take-suc records index [] within in
    let pushed : c.push.new.self.records ≡ kept.records ++ c.of.result ∷ [] = ap (λ (s : LeafRecordsState). s.records)
    c.push.ensures in
    let leaves : c.push.new.self.leaves ≡ kept.leaves = ap (λ (s : LeafRecordsState). s.leaves) c.push.ensures in
    let same : c.of.result ≡ c.as_slice.result.now = c.of.ensures ∙ c.as_slice-in-loop-body.ensures
    ∙ sym c.as_slice.ensures in
    let may : may_follow_of g.K.MessageKind.is_message kept.leaves kept.records c.of.result ≡ true =
    ap (may_follow_of g.K.MessageKind.is_message kept.leaves kept.records) same ∙ sym c.may_follow.ensures.value
    ∙ c.if-not-may_follow.false in
    let length_is : length c.of.result ≡ c.len.result = omega
    (arith, c.len.ensures, ap length c.of.ensures, ap length c.as_slice-in-loop-body.ensures) in
    record {
      front = pushed ∙ (λ i. c.loop-body.invariant.front i ++ is_body i ∷ []) ∙ sym next;
      are = c.is_whole-in-loop-body.ensures.are;
      kind = rw (pushed, leaves) (one_more g.K.MessageKind.is_message kept.leaves kept.records c.of.result
          c.loop-body.invariant.kind may);
      leaves = leaves ∙ c.loop-body.invariant.leaves;
      few = c.is_whole-in-loop-body.ensures.few;
      place = omega (
        arith,
        c.loop-body.invariant.place,
        ap (λ (l : List (List ℕ)). length (spelled l)) pushed,
        spelled-count kept.records c.of.result,
        length_is,
      );
    }

pub returns-clause-records : goal.returns-clause-records
returns-clause-records g c =
    let index = c.loop-body.body-index in
    let records = c.args.records.now in
    let all : c.loop-body.kept.records ≡ records = c.loop-body.invariant.front
    ∙ take_all index records (omega (arith, c.loop-body-test.false)) in
    rw (← c.loop-body.invariant.leaves, ← all) c.loop-body.invariant.kind

pub returns-then-not-may_follow-clause-refused : goal.returns-then-not-may_follow-clause-refused
returns-then-not-may_follow-clause-refused g c =
    let kept = c.loop-body.kept in
    let index = c.loop-body.body-index in
    let records = c.args.records.now in
    let within : index < length records = c.loop-body-test.true in
    let is_body : c.as_slice.result.now ≡ get_or records index [] = c.as_slice.ensures ∙ c.body-item.is
    ∙ get_or_default records index c.body-item.result [] within in
    let may : may_follow_of g.K.MessageKind.is_message kept.leaves kept.records (get_or records index []) ≡ false =
    rw (← is_body) (sym c.may_follow.ensures.value ∙ c.if-not-may_follow.true) in
    rw (← c.loop-body.invariant.leaves) (refused_at g.K.MessageKind.is_message kept.leaves records kept.records index
    c.loop-body.place c.loop-body.invariant.front c.loop-body.invariant.kind within may c.loop-body.invariant.place)
