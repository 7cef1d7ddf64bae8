use Rattle.leaf_journal.proofs.Words.{◌≡◌, ◌∙◌, ◌<◌, ◌≤◌, ◌+◌, ◌-◌, ℕ, Some, None, List, suc, drop, take, min, length, ap, sym, subst, arith, inl, inr, Option, Bor, cases_lt, take_rest, drop_all, slice_get_within, OnSome, option_map, option_copied, slice_get, messages_of, LeafRecordsState, first_count}
use Rattle.leaf_journal.proofs.Messages.{get-before, get-behind}
use Rattle.leaf_journal.proofs.Form.{are_few}
use Rattle.leaf_journal.proofs.records.LeafRecords.message.Goals as goal

-- without the first four, of which there may be fewer
skip_four : (xs : List ℕ) (n : ℕ) → n ≡ min 4 (length xs) → drop n xs ≡ drop 4 xs
skip_four xs n is = elim (cases_lt (length xs) 4) [
  | inl less ↦ drop_all n xs (omega (arith, is)) ∙ sym (drop_all 4 xs (omega arith))
  | inr most ↦ (let four : n ≡ 4 = omega (arith, is) in ap (λ k. drop k xs) four)
]

pub returns-then-place-self-clause-value : goal.returns-then-place-self-clause-value
returns-then-place-self-clause-value c =
    let first = ap (λ (s : LeafRecordsState). first_count s.records) c.self.view_is in
    c.record_at.ensures.value ∙ sym (get-before c.args.self.now.records c.args.q
    (omega (arith, first, c.if-place-self.true, c.self.invariant.count)))

pub returns-in-Some-clause-value : goal.returns-in-Some-clause-value
returns-in-Some-clause-value c =
    let records = c.args.self.now.records in
    let record' = c.in-Some.record.now in
    let first = ap (λ (s : LeafRecordsState). first_count s.records) c.self.view_is in
    let behind = get-behind records c.args.q (omega (arith, first, c.if-place-self.false, c.self.invariant.count)) in
    let one : c.args.q + 1 ≡ suc c.args.q = omega arith in
    let read : Some record' ≡ slice_get records (suc c.args.q) = ap option_copied (sym c.in-Some.is)
    ∙ c.record_at-2.ensures.value ∙ ap (slice_get records) one in
    let rest : take (length record' - c.min.result) (drop c.min.result record') ≡ drop 4 record' = take_rest record'
    c.min.result ∙ skip_four record' c.min.result c.min.ensures in
    ap (λ (l : List ℕ). Some l) rest ∙ ap (option_map (drop 4)) read ∙ sym behind

pub returns-in-None-clause-value : goal.returns-in-None-clause-value
returns-in-None-clause-value c =
    let records = c.args.self.now.records in
    let first = ap (λ (s : LeafRecordsState). first_count s.records) c.self.view_is in
    let behind = get-behind records c.args.q (omega (arith, first, c.if-place-self.false, c.self.invariant.count)) in
    let one : c.args.q + 1 ≡ suc c.args.q = omega arith in
    let read : None ≡ slice_get records (suc c.args.q) = ap option_copied (sym c.in-None.is)
    ∙ c.record_at-2.ensures.value ∙ ap (slice_get records) one in
    ap (option_map (drop 4)) read ∙ sym behind

-- a leaf with a message is one of the key's
leaf_within : (o : Option (Bor (List ℕ))) (messages : List (List ℕ)) (leaves q : ℕ)
    → option_copied o ≡ slice_get messages q → length messages ≤ leaves → OnSome o (q < leaves)
leaf_within None messages leaves q is few = tt
leaf_within (Some x) messages leaves q is few = omega (arith, slice_get_within messages q x.now (sym is), few)

pub returns-then-place-self-clause-leaf : goal.returns-then-place-self-clause-leaf
returns-then-place-self-clause-leaf c =
    let records = c.self.inside.records.items in
    let few = are_few c.self.inside.leaves records records c.self.invariant.are in
    let within : length (messages_of c.args.self.now.records) ≤ c.args.self.now.leaves =
    subst (λ (s : LeafRecordsState). length (messages_of s.records) ≤ s.leaves) c.self.view_is few.within in
    leaf_within c.record_at.result (messages_of c.args.self.now.records) c.args.self.now.leaves c.args.q
    (returns-then-place-self-clause-value c) within

pub returns-in-Some-clause-leaf : goal.returns-in-Some-clause-leaf
returns-in-Some-clause-leaf c =
    let records = c.self.inside.records.items in
    let few = are_few c.self.inside.leaves records records c.self.invariant.are in
    let within : length (messages_of c.args.self.now.records) ≤ c.args.self.now.leaves =
    subst (λ (s : LeafRecordsState). length (messages_of s.records) ≤ s.leaves) c.self.view_is few.within in
    omega (
      arith,
      within,
      slice_get_within (messages_of c.args.self.now.records) c.args.q _
          (sym (returns-in-Some-clause-value c)),
    )
