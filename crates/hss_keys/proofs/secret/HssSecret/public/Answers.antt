use Rattle.hss_keys.proofs.Words.{◌≡◌, ◌∙◌, refl, arith, length, length-u32str, put_first, put_on, all_of_front, hss_key_of}
use Rattle.hss_keys.proofs.secret.HssSecret.public.Goals as goal

pub returns : goal.returns
unfolding hss_key_of
returns c =
    let four : length c.u32str.result ≡ 4 = rw c.u32str.ensures (length-u32str 2) in
    let first = put_first c.put.new.out _ 4 c.put.ensures four in
    let second = put_on _ c.put-2.new.out _ _ 4 60 first c.put-2.ensures (omega arith) in
    all_of_front c.put-2.new.out _ 60 (c.put-2.auto.out ∙ c.put.auto.out) second
    ∙ rw (c.u32str.ensures, c.public.ensures.value, c.self.invariant.key_is, ← c.self.view_is) refl
