use Rattle.leaf_journal.proofs.Words.{rules, ◌≡◌, true, ◌∙◌, ℕ, not, List, [], ◌∷◌, ◌++◌, Ok, ap, sym, subst, refl, arith, length-append, ◌||◌, every_message, is_marked, is_marker, leaf_records, may_follow, LeafRecordsState, first_count}
use Rattle.leaf_journal.proofs.Messages.{byte_le, byte-not, first-append, first_le}
use Rattle.leaf_journal.proofs.Form.{one_more, count_within}
use Rattle.leaf_journal.proofs.records.LeafRecords.push.Goals as goal

pub overflow_add-self : goal.overflow_add-self
overflow_add-self c =
    let records = c.self.inside.records.items in
    let within = count_within c.self.inside.leaves records c.self.invariant.are in
    omega (
      arith,
      within,
      first_le records,
      c.self.invariant.count,
      c.self.invariant.few,
      c.from.ensures,
      byte_le
          c.is_first-is_first.result,
    )

pub unwrap-requires : goal.unwrap-requires
unwrap-requires c =
    let leaves = c.self.inside.leaves in
    let records = c.self.inside.records.items in
    let same : records ≡ c.args.self.now.records = ap (λ (s : LeafRecordsState). s.records) c.self.view_is in
    let same_leaves : leaves ≡ c.args.self.now.leaves = ap (λ (s : LeafRecordsState). s.leaves) c.self.view_is in
    let may : may_follow leaves records c.args.body ≡ true = rw (same, same_leaves) c.requires in
    let more = count_within leaves (records ++ c.args.body ∷ [])
    (one_more every_message leaves records c.args.body c.self.invariant.are may) in
    c.push.ensures.succeeds (omega (
      arith,
      more,
      length-append records (c.args.body ∷ []),
      c.self.invariant.room,
      c.self.inside.records.ok,
    ))

pub invariant_of-self : goal.invariant_of-self
invariant_of-self c =
    let leaves = c.self.inside.leaves in
    let records = c.self.inside.records.items in
    let body = c.args.body in
    let same : records ≡ c.args.self.now.records = ap (λ (s : LeafRecordsState). s.records) c.self.view_is in
    let same_leaves : leaves ≡ c.args.self.now.leaves = ap (λ (s : LeafRecordsState). s.leaves) c.self.view_is in
    let may : may_follow leaves records body ≡ true = rw (same, same_leaves) c.requires in
    let pushed : c.push.new.self.items ≡ records ++ body ∷ [] = search
    (rules, c.unwrap.ensures, c.push.ensures.items) in
    let flag : c.is_first-is_first.result ≡ not (is_marked records || is_marker body) =
    c.is_first-is_first.ensures ∙ rw (c.as_slice.ensures.value, same) refl in
    record {
      are = subst (λ (l : List (List ℕ)). leaf_records leaves l ≡ Ok l) (sym pushed)
          (one_more every_message leaves records body c.self.invariant.are may);
      count = rw (pushed, first-append, c.from.ensures, flag, c.self.invariant.count)
          (byte-not (is_marked records || is_marker body) (first_count records));
      few = c.self.invariant.few;
      room = omega (arith, c.self.invariant.room, c.push.ensures.capacity);
    }
