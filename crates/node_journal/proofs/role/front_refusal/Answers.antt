use Rattle.node_journal.proofs.Words.{◌≡◌, ◌<◌, true, length, Err, sym, ◌∙◌, ap, arith, nat_tests, spelled, are_of}
use Rattle.node_journal.proofs.Roles.{all_front, front_all, not_of}
use Rattle.node_journal.proofs.role.front_refusal.Goals.{else-not-is_empty-via-then-not-is_empty+else-front-records, else-not-is_empty-via-else-not-is_empty}
use Rattle.node_journal.proofs.role.front_refusal.Goals as goal

pub returns-then-front-records : goal.returns-then-front-records
returns-then-front-records g c =
    let records = c.args.records.now in
    let len : length c.args.front.now ≡ length records = c.if-front-records.true in
    let some : 0 < length c.args.front.now = grind
    (arith, nat_tests, c.is_empty.ensures, c.if-not-is_empty.true) in
    all_front (g.R.Role.kinds c.args.role.now) records (sym (ap length c.requires) ∙ len)
    (omega (arith, some, len))

pub returns-in-Some : goal.returns-in-Some
returns-in-Some g c =
    let records = c.args.records.now in
    let kinds = g.R.Role.kinds c.args.role.now in
    let not : are_of kinds records ≡ true → ⊥ = λ are.
    let all = front_all kinds records are in
    let len = ap length c.requires in
    elim c.else-not-is_empty.branch [
      | else-not-is_empty-via-then-not-is_empty+else-front-records w ↦ absurd
          (omega (arith, w.if-front-records.false, len, all.0))
      | else-not-is_empty-via-else-not-is_empty w ↦ absurd
          (grind (arith, nat_tests, c.is_empty.ensures, w.if-not-is_empty.false, len, all.0, all.1))
    ] in
    not_of kinds records not
    ∙ ap (λ (l : _). Err (length (spelled l))) (sym c.requires) ∙ ap Err (sym c.in-Some.ensures)
