use Rattle.hss_keys.proofs.Words.{◌≡◌, ◌+◌, ◌∙◌, ℕ, List, ◌++◌, length, take, drop, refl, sym, ap, arith, leaf_count, signature_length, public_key_of, signature_of, types_of, length-u32str, put_first, put_on, all_of_front, hss_signature_of, HssBoundState}
use Rattle.hss_keys.proofs.Validity.{top-part, valid-from}
use Rattle.hss_keys.proofs.bound.HssBound.sign.Goals as goal

pub put_signature-requires-clause-leaf : goal.put_signature-requires-clause-leaf
put_signature-requires-clause-leaf c =
    let key : drop 4 c.self.inside.key ≡ public_key_of c.top-top.result.now =
    ap (λ (s : HssBoundState). drop 4 s.key) c.self.view_is ∙ ap (drop 4) (sym c.requires.secret)
    ∙ top-part c.args.secret.now ∙ ap public_key_of (sym c.top-top.ensures) in
    let leaves : leaf_count (types_of (drop 4 c.self.inside.key))
    ≡ leaf_count (types_of (public_key_of c.top-top.result.now)) = ap (λ (k : List ℕ). leaf_count (types_of k)) key in
    omega (
      arith,
      c.self.invariant.top,
      leaves,
      c.leaves-top_leaves.ensures.value,
      c.leaves-top_leaves.ensures.of_public,
    )

pub put_signature-requires-2-clause-leaf : goal.put_signature-requires-2-clause-leaf
put_signature-requires-2-clause-leaf c =
    let key : c.self.inside.bottom ≡ public_key_of c.args.bottom.now =
    ap (λ (s : HssBoundState). s.bottom) c.self.view_is ∙ sym c.requires.bottom in
    let leaves : leaf_count (types_of c.self.inside.bottom) ≡ leaf_count (types_of (public_key_of c.args.bottom.now)) =
    ap (λ (k : List ℕ). leaf_count (types_of k)) key in
    omega (arith, c.self.invariant.below, leaves, c.leaves-leaves.ensures.value, c.leaves-leaves.ensures.of_public)

pub returns-clause-value : goal.returns-clause-value
unfolding hss_signature_of
returns-clause-value c =
    let four : length c.u32str.result ≡ 4 = rw c.u32str.ensures (length-u32str 1) in
    let place = 4 + c.signature_len-place.result in
    let first : take 4 c.put.new.out ≡ c.u32str.result = put_first c.put.new.out _ 4 c.put.ensures four in
    let second : take place c.put_signature.new.out ≡ c.u32str.result
    ++ signature_of c.top-top.result.now c.self.inside.top_leaf c.public-public.result =
    rw c.signature_len-place.ensures (c.put_signature.ensures.written
    ∙ ap (λ (l : List ℕ). l ++ signature_of c.top-top.result.now c.self.inside.top_leaf c.public-public.result)
    first) in
    let third = put_on _ c.put-2.new.out _ _ place (place + 56) second c.put-2.ensures (omega arith) in
    let fourth = c.put_signature-2.ensures.written
    ∙ ap (λ (l : List ℕ). l ++ signature_of c.args.bottom.now c.self.inside.leaf c.as_slice.result.now) third in
    let whole : length c.put_signature-2.new.out ≡ place + 56 + signature_length c.args.bottom.now.types =
    c.put_signature-2.auto.out ∙ c.put-2.auto.out ∙ c.put_signature.auto.out ∙ c.put.auto.out ∙ c.requires.room
    ∙ omega (arith, c.signature_len-place.ensures, ap (λ (s : _). signature_length s.types) c.top-top.ensures) in
    let top_leaf : c.self.inside.top_leaf ≡ c.args.self.top_leaf =
    ap (λ (s : HssBoundState). s.top_leaf) c.self.view_is in
    let leaf : c.self.inside.leaf ≡ c.args.self.leaf = ap (λ (s : HssBoundState). s.leaf) c.self.view_is in
    let message : c.as_slice.result.now ≡ c.args.self.message =
    c.as_slice.ensures.value ∙ ap (λ (s : HssBoundState). s.message) c.self.view_is in
    all_of_front c.put_signature-2.new.out _ (place + 56 + signature_length c.args.bottom.now.types) whole fourth
    ∙ rw (c.u32str.ensures, c.public-public.ensures.value, top_leaf, leaf, message, c.top-top.ensures) refl

pub returns-clause-valid : goal.returns-clause-valid
returns-clause-valid c =
    let whole : length (public_key_of c.args.bottom.now) ≡ 56 = rw (← c.public-public.ensures.value) (omega arith) in
    let top_leaf : c.self.inside.top_leaf ≡ c.args.self.top_leaf =
    ap (λ (s : HssBoundState). s.top_leaf) c.self.view_is in
    let leaf : c.self.inside.leaf ≡ c.args.self.leaf = ap (λ (s : HssBoundState). s.leaf) c.self.view_is in
    let message : c.as_slice.result.now ≡ c.args.self.message =
    c.as_slice.ensures.value ∙ ap (λ (s : HssBoundState). s.message) c.self.view_is in
    valid-from c.args.secret.now c.args.bottom.now c.args.self.key c.args.self.message c.put_signature-2.new.out
    c.args.self.top_leaf c.args.self.leaf c.requires.secret whole
    (rw (← c.top-top.ensures, ← top_leaf, ← c.public-public.ensures.value) c.put_signature.ensures.valid)
    (rw (← leaf, ← message) c.put_signature-2.ensures.valid)
    (returns-clause-value c)
