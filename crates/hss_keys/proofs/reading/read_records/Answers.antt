use Rattle.hss_keys.proofs.Words.{◌≡◌, true, false, ◌<◌, ◌+◌, ◌∙◌, ℕ, List, suc, [], ◌∷◌, ◌++◌, length, take, get_or, refl, sym, ap, arith, take_all, get_or_default, take-suc, spelled, may_follow}
use Rattle.hss_keys.proofs.Form.{none_are, one_more, refused_at, spelled-count}
use Rattle.hss_keys.proofs.reading.read_records.Goals as goal

pub loop-body-init : goal.loop-body-init
loop-body-init c = record {
  front = c.in_ok-kept.ensures.records;
  are = rw c.in_ok-kept.ensures.records (none_are c.in_ok-kept.kept.seed);
  seed = c.in_ok-kept.ensures.seed;
  room = rw c.in_ok-kept.ensures.records (omega arith);
  place = rw c.in_ok-kept.ensures.records refl;
}

pub loop-body-preserved : goal.loop-body-preserved
loop-body-preserved c =
    let kept = c.loop-body.kept in
    let index = c.loop-body.body-index in
    let bodies = c.args.bodies.now in
    let body = c.as_slice.result.now in
    let before = c.loop-body.invariant in
    let within : index < length bodies = c.loop-body-test.true in
    let is_body : body ≡ get_or bodies index [] = c.as_slice.ensures ∙ c.body-item.is
    ∙ get_or_default bodies index c.body-item.result [] within in
    let next : take (index + 1) bodies ≡ take index bodies ++ get_or bodies index [] ∷ [] =
    (let same : index + 1 ≡ suc index = omega arith in ap (λ (n : ℕ). take n bodies) same)
    ∙ take-suc bodies index [] within in
    let more : c.take_in.new.kept.records ≡ kept.records ++ body ∷ [] =
    rw c.if-not-taken.false at c.in_ok-taken.ensures.records in
    let may : may_follow kept.seed kept.records body ≡ true =
    sym c.in_ok-taken.ensures.taken ∙ c.if-not-taken.false in
    record {
      front = more ∙ (λ i. before.front i ++ is_body i ∷ []) ∙ sym next;
      are = rw (more, c.take_in.ensures.seed) (one_more kept.seed kept.records body before.are may);
      seed = c.take_in.ensures.seed ∙ before.seed;
      room = c.in_ok-taken.ensures.room;
      place = omega (
        arith,
        before.place,
        ap (λ (l : List (List ℕ)). length (spelled l)) more,
        spelled-count kept.records body,
        c.len.ensures,
        ap length c.as_slice.ensures,
      );
    }

pub returns-clause-records : goal.returns-clause-records
returns-clause-records c =
    let index = c.loop-body.body-index in
    let bodies = c.args.bodies.now in
    let all : c.loop-body.kept.records ≡ bodies = c.loop-body.invariant.front
    ∙ take_all index bodies (omega (arith, c.loop-body-test.false)) in
    rw (← c.loop-body.invariant.seed, ← all) c.loop-body.invariant.are

pub returns-then-not-taken-clause-refused : goal.returns-then-not-taken-clause-refused
returns-then-not-taken-clause-refused c =
    let kept = c.loop-body.kept in
    let index = c.loop-body.body-index in
    let bodies = c.args.bodies.now in
    let body = c.as_slice.result.now in
    let within : index < length bodies = c.loop-body-test.true in
    let is_body : body ≡ get_or bodies index [] = c.as_slice.ensures ∙ c.body-item.is
    ∙ get_or_default bodies index c.body-item.result [] within in
    let may : may_follow kept.seed kept.records (get_or bodies index []) ≡ false =
    rw (← is_body) (sym c.in_ok-taken.ensures.taken ∙ c.if-not-taken.true) in
    rw (← c.loop-body.invariant.seed) (refused_at kept.seed bodies kept.records index c.loop-body.place
    c.loop-body.invariant.front c.loop-body.invariant.are within may c.loop-body.invariant.place)
