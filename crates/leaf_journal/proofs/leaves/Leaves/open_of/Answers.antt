use Rattle.leaf_journal.proofs.Words.{◌≡◌, ℕ, List, Ok, refl, sym, ◌∙◌, ap, subst, arith, WhereTold, content, Keeps, IsSettled, leaf_records, leaf_records_of, leaf_records_in_of, leaf_records_read_of, leaves_of, LeafRecordsState, none_made, journal_opened}
use Rattle.lms_sign.specs.Tree.{public_key_of}
use Rattle.lms_sign.proofs.Sizes.{leaf_count-le}
use Rattle.node_journal.proofs.Openings.{read_kept}
use Rattle.leaf_journal.proofs.Form.{all_same}
use Rattle.leaf_journal.proofs.Adding.{open_after, opened_sound}
use Rattle.leaf_journal.proofs.KindRecords.{form_of, messages_pass}
use Rattle.leaf_journal.proofs.leaves.Leaves.open_of.Goals as goal

pub new-requires : goal.new-requires
new-requires g c = omega (arith, c.leaves.ensures.value, leaf_count-le c.args.key.now.types)

pub returns-in_default-clause-refused : goal.returns-in_default-clause-refused
returns-in_default-clause-refused g c = record {
  refused = (0, (λ one. absurd (omega (arith, one))), none_made g.D.Disk.told g.D.Disk.plan c.args.disk);
  count = refl;
}

pub invariant_of-result : goal.invariant_of-result
invariant_of-result g c =
    let told = g.D.Disk.told in
    let leaves = c.in-Ok.none.leaves in
    let bodies = c.in-Ok-open.opened.1.items in
    let new = c.prepare.new.journal in
    let kept = c.in-Ok-prepare.records in
    let read : leaf_records leaves bodies ≡ Ok kept.records = ap (leaf_records leaves) (sym c.deref.ensures.value)
    ∙ form_of g.K.MessageKind.is_message leaves c.deref.result.now kept.records c.in-Ok-prepare.ensures.records in
    let settled : WhereTold (told new.disk) (λ now. IsSettled now bodies) =
    λ history some. c.in-Ok-open.ensures.settled history (sym c.prepare.ensures.still.same_calls ∙ some) in
    let of_key : leaves ≡ leaves_of c.public.result =
    ap (λ (s : LeafRecordsState). s.leaves) c.in-Ok.ensures ∙ c.leaves.ensures.of_public
    ∙ ap leaves_of (sym c.public.ensures.value) in
    let room = c.in-Ok-prepare.ensures.room in
    opened_sound told new kept leaves bodies read settled room.0 c.in-Ok-prepare.ensures.leaves of_key room.1 room.2
    c.in-Ok-open.ensures.journal

pub returns-in-Ok-prepare-clause-opened : goal.returns-in-Ok-prepare-clause-opened
returns-in-Ok-prepare-clause-opened g c =
    let told = g.D.Disk.told in
    let is_message = g.K.MessageKind.is_message in
    let leaves = c.in-Ok.none.leaves in
    let bodies = c.in-Ok-open.opened.1.items in
    let old = c.in-Ok-open.opened.0 in
    let new = c.prepare.new.journal in
    let kept = c.in-Ok-prepare.records in
    let form : leaf_records_of is_message leaves bodies ≡ Ok kept.records =
    ap (leaf_records_of is_message leaves) (sym c.deref.ensures.value) ∙ c.in-Ok-prepare.ensures.records in
    let same_records : bodies ≡ kept.records = all_same is_message leaves bodies kept.records form in
    let of_key : leaves ≡ leaves_of (public_key_of c.args.key.now) =
    ap (λ (s : LeafRecordsState). s.leaves) c.in-Ok.ensures ∙ c.leaves.ensures.of_public in
    let read : leaf_records_of is_message (leaves_of (public_key_of c.args.key.now)) kept.records ≡ Ok kept.records =
    (λ i. leaf_records_of is_message (sym of_key i) (sym same_records i)) ∙ form in
    journal_opened told g.D.Disk.plan g.D.Disk.faults
    (leaf_records_in_of is_message (leaves_of (public_key_of c.args.key.now))) c.args.disk old new kept.records
    (λ image keeps. ap (leaf_records_read_of is_message (leaves_of (public_key_of c.args.key.now)))
    (read_kept image kept.records keeps) ∙ read)
    (open_after bodies c.in-Ok-prepare.ensures.room.0 c.in-Ok-prepare.ensures.room.2 c.in-Ok-open.ensures.journal)
    c.in-Ok-open.ensures.made
    (subst (λ (l : List (List ℕ)). WhereTold (told c.args.disk) (λ before. Keeps l (content before))) same_records
    c.in-Ok-open.ensures.records)
    (subst (λ (l : List (List ℕ)). WhereTold (told old.disk) (λ now. IsSettled now l)) same_records
    c.in-Ok-open.ensures.settled)
    c.in-Ok-open.ensures.cause c.prepare.ensures.still

pub returns-in-Ok-prepare-clause-kind : goal.returns-in-Ok-prepare-clause-kind
returns-in-Ok-prepare-clause-kind g c = messages_pass g.K.MessageKind.is_message c.in-Ok.none.leaves
    c.deref.result.now c.in-Ok-prepare.records.records c.in-Ok-prepare.ensures.records
