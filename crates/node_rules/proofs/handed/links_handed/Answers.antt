use Rattle.node_rules.proofs.Words.{◌≡◌, ◌<◌, Ok, sym, ◌∙◌, ap, arith, All-from_get_or, bundle_in, checked_by}
use Rattle.coin_history.proofs.FirstItems.{has-first_item, looked-some}
use Rattle.node_rules.proofs.KeptTexts.{handed-back}
use Rattle.node_rules.proofs.handed.links_handed.Goals as goal

pub returns-in-Ok-check_tagged-clause-spelled : goal.returns-in-Ok-check_tagged-clause-spelled
returns-in-Ok-check_tagged-clause-spelled g c =
    let dig = g.H.Hash32.digest_of c.args.h.now in
    let small = All-from_get_or (λ byte. byte < 256) c.args.bytes.now 0 (λ i lt. omega (arith, c.type_inv.bytes i)) in
    let read : bundle_in c.args.bytes.now ≡ Ok c.in-Ok.bundle = sym (c.in-Ok.ensures.value (λ wrong. cc wrong)) in
    (handed-back dig c.args.tag.now c.args.log.now.log c.args.bytes.now c.in-Ok-check_tagged.links small
    (ap (checked_by dig c.args.tag.now c.args.log.now.log) read
    ∙ sym (c.in-Ok-check_tagged.ensures.value (λ wrong. cc wrong)))).is_kept.is_bundle

pub returns-in-Ok-check_tagged-clause-shown : goal.returns-in-Ok-check_tagged-clause-shown
returns-in-Ok-check_tagged-clause-shown g c =
    let dig = g.H.Hash32.digest_of c.args.h.now in
    let small = All-from_get_or (λ byte. byte < 256) c.args.bytes.now 0 (λ i lt. omega (arith, c.type_inv.bytes i)) in
    let read : bundle_in c.args.bytes.now ≡ Ok c.in-Ok.bundle = sym (c.in-Ok.ensures.value (λ wrong. cc wrong)) in
    let back = handed-back dig c.args.tag.now c.args.log.now.log c.args.bytes.now c.in-Ok-check_tagged.links small
    (ap (checked_by dig c.args.tag.now c.args.log.now.log) read
    ∙ sym (c.in-Ok-check_tagged.ensures.value (λ wrong. cc wrong))) in
    record { read = back.read; shown = back.shown }

pub returns-clause-memory : goal.returns-clause-memory
returns-clause-memory g c = λ none.
    has-first_item c.args.bytes.now c.in-Ok.bundle (sym (c.in-Ok.ensures.value (λ wrong. cc wrong)))
    (looked-some c.in-Ok.bundle.openings (c.in-Err-check_tagged.ensures.memory none).looks)
