use Rattle.node_journal.proofs.Words.{◌≡◌, ◌<◌, ◌+◌, ℕ, List, [], ◌∷◌, ◌++◌, length, take, get_or, sym, ◌∙◌, ap, arith, take_more, spelled}
use Rattle.node_journal.proofs.Spelling.{length-spelled-push}
use Rattle.node_journal.proofs.role.gate_behind.Goals as goal

-- the place behind one more record
one_more : (records : List (List ℕ)) (i place : ℕ) (body : List ℕ) → i < length records → body ≡ get_or records i body
    → place ≡ length (spelled (take i records)) → place + 5 + length body ≡ length (spelled (take (i + 1) records))
one_more records i place body lt is place_is =
    let more : take (i + 1) records ≡ take i records ++ body ∷ [] = take_more records i body lt
    ∙ ap (λ (b : List ℕ). take i records ++ b ∷ []) (sym is) in
    omega (
      arith,
      place_is,
      ap (λ (l : List (List ℕ)). length (spelled l)) more,
      length-spelled-push
          (take i records) body,
    )

pub records-preserved : goal.records-preserved
records-preserved c =
    let more = one_more c.args.records.now c.records.record-index c.records.place
    c.record-item.result c.records-test.true c.record-item.is c.records.invariant in
    omega (arith, more, c.len.ensures, c.in_ok-checked_add.ensures, c.in_ok-place.ensures)
