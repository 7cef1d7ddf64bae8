use Rattle.gate_journal.proofs.Words.{rules, ◌≡◌, ◌<◌, ◌+◌, ◌^◌, ℕ, [], ◌∷◌, ◌++◌, length, drop, List, Some, None, sym, ◌∙◌, ap, subst, arith, length-append, length-drop, w32, to_be_bytes, All, result_ok, All-from_get_or, nat_tests, body_in, spelled, spelled_record, journal_in}
use Rattle.gate_journal.proofs.Read.{ReadsOn, on_record, on_nothing, on_empty, on_end}
use Rattle.gate_journal.proofs.Spelling.{spelled-push}
use Rattle.gate_journal.proofs.Front.{read_is_spelled}
use Rattle.gate_journal.proofs.image.read_records.Goals as goal

pub returns-in_default-body_in-clause-refused : goal.returns-in_default-body_in-clause-refused
returns-in_default-body_in-clause-refused c =
    let none : body_in (drop 1 c.records.rest.now) ≡ None =
    ap body_in (sym c.after.ensures) ∙ sym c.in_default-body_in.ensures.body in
    on_nothing (journal_in c.args.image.now) c.records.records.items c.records.place c.records.rest.now
    c.records.invariant.read (sym c.records-test.ensures) none

pub records-preserved : goal.records-preserved
records-preserved c =
    let body = c.in-Some-body_in.body.now in
    let rest = c.records.rest.now in
    let is : body_in (drop 1 rest) ≡ Some body =
    ap body_in (sym c.after.ensures) ∙ sym c.in-Some-body_in.ensures.body in
    let kept : c.from_vec.result ≡ body =
    c.from_vec.ensures ∙ c.in_ok-to_vec.ensures.items_if_clones_equal (λ x y e. e) in
    let items : c.push.new.self.items ≡ c.records.records.items ++ body ∷ [] =
    c.in_ok-push.ensures.items ∙ ap (λ (b : List ℕ). c.records.records.items ++ b ∷ []) kept in
    let read = on_record (journal_in c.args.image.now) c.records.records.items c.records.place
    (c.records.place + (5 + length body)) rest body c.after-rest.result.now c.records.invariant.read
    (sym c.records-test.ensures) is (omega arith) c.after-rest.ensures in
    record {
      all = omega (
        arith,
        c.records.invariant.all,
        ap length c.after-rest.ensures,
        length-drop (5 + length body) rest,
        c.in-Some-body_in.ensures.within,
        ap length c.after.ensures,
        length-drop 1 rest,
      );
      gate = omega (
        arith,
        c.records.invariant.gate,
        ap (λ (l : List (List ℕ)). length (spelled l)) items,
        ap length (spelled-push c.records.records.items body),
        length-append (spelled c.records.records.items) (spelled_record body),
        length-append (to_be_bytes w32 (length body)) body,
      );
      read = subst (λ (l : List (List ℕ)). ReadsOn (journal_in c.args.image.now) l
          (c.records.place + (5 + length body)) c.after-rest.result.now) (sym items) read;
    }

pub returns-then-is_empty-clause-refused : goal.returns-then-is_empty-clause-refused
returns-then-is_empty-clause-refused c =
    let empty : length c.records.rest.now ≡ 0 = grind (arith, nat_tests, c.if-is_empty.ensures) in
    on_empty (journal_in c.args.image.now) c.records.records.items c.records.place c.records.rest.now
    c.records.invariant.read empty

pub returns-clause-records : goal.returns-clause-records
returns-clause-records c =
    let some : 0 < length c.records.rest.now = grind (arith, nat_tests, c.if-is_empty.ensures) in
    on_end (journal_in c.args.image.now) c.records.records.items c.records.place c.records.rest.now
    c.records.invariant.read (sym c.records-test.ensures) some

pub returns-clause-kept : goal.returns-clause-kept
returns-clause-kept c =
    let read = returns-clause-records c in
    let all : All (λ byte. byte < 2 ^ 8) c.args.image.now =
    All-from_get_or (λ byte. byte < 2 ^ 8) c.args.image.now 0
    (λ i lt. let fits = c.type_inv.image i in search (rules, fits)) in
    read_is_spelled c.args.image.now c.records.records.items all (ap result_ok read)
