use Rattle.node_rules.proofs.Words.{Option, Some, sym, ◌∙◌, ap, RawOpening, Link}
use Rattle.node_rules.proofs.ShownCoins.{linked, link-read}
use Rattle.node_rules.proofs.reading.shown_link.Goals as goal

pub returns-in-Some : goal.returns-in-Some
returns-in-Some g c =
    let raw = c.args.opening.now in
    let made : RawOpening → Option Link =
    λ o. Some (record { block = raw.block; tx = c.in-Some.tx; opening = o }) in
    ap made c.in_ok-copy-in-Some.ensures ∙ ap (linked raw) (sym c.in-Some.is)
    ∙ link-read (g.H.Hash32.digest_of c.args.h.now) c.args.tag.now c.args.coin raw c.in-Ok.read c.as_slice.result.now
    c.in_ok-tx.field-0 (sym (c.open_up_with_defaults.ensures.read (λ wrong. absurd (cc))) ∙ c.in-Ok.is) c.as_slice.ensures
    c.in_ok-tx.ensures

pub returns : goal.returns
returns g c =
    let raw = c.args.opening.now in
    ap (linked raw) (sym c.in-None.is)
    ∙ link-read (g.H.Hash32.digest_of c.args.h.now) c.args.tag.now c.args.coin raw c.in-Ok.read c.as_slice.result.now
    c.in_ok-tx.field-0 (sym (c.open_up_with_defaults.ensures.read (λ wrong. absurd (cc))) ∙ c.in-Ok.is) c.as_slice.ensures
    c.in_ok-tx.ensures
