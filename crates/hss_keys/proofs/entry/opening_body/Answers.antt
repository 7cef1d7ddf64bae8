use Rattle.hss_keys.proofs.Words.{◌≡◌, ◌∙◌, refl, arith, length, length-u32str, put_first, put_on, entry_text}
use Rattle.hss_keys.proofs.entry.opening_body.Goals as goal

pub returns : goal.returns
unfolding entry_text
returns c =
    let four : length c.u32str.result ≡ 4 = rw c.u32str.ensures (length-u32str c.args.top_leaf) in
    let first = put_first c.put.new.out _ 1 c.put.ensures refl in
    let second = put_on _ c.put-2.new.out _ _ 1 5 first c.put-2.ensures (omega (arith, four)) in
    let third = put_on _ c.put-3.new.out _ _ 5 61 second c.put-3.ensures (omega (arith, c.fits-key)) in
    third ∙ rw c.u32str.ensures refl
