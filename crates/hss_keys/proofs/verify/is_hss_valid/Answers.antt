use Rattle.hss_keys.proofs.Words.{◌≡◌, ◌+◌, ◌-◌, ℕ, List, length, take, drop, refl, sym, ◌∙◌, ap, arith, length-drop, take_all, ◌&&◌, slice_range, signature_length, u32_at, is_valid, types_of}
use Rattle.lms_sign.specs.declared.types.LmsTypes.{LmsTypes}
use Rattle.hss_keys.proofs.Validity.{other_public, other_signature, short_signature, tested}
use Rattle.hss_keys.proofs.verify.is_hss_valid.Goals as goal

abbrev the-types : ℕ → ℕ → LmsTypes
the-types lms ots = record { lms = lms; ots = ots }

top-whole : (public : List ℕ) → length public ≡ 60 → take 56 (drop 4 public) ≡ drop 4 public
top-whole public is = take_all 56 (drop 4 public) (omega (arith, length-drop 4 public, is))

rest-whole : (signature : List ℕ) (n : ℕ) → take (length signature - n) (drop n signature) ≡ drop n signature
rest-whole signature n = take_all (length signature - n) (drop n signature) (omega (arith, length-drop n signature))

-- where the top signature ends
place-is : (public top : List ℕ) (lms ots count : ℕ) → top ≡ drop 4 public → lms ≡ u32_at top 0 → ots ≡ u32_at top 4
    → count ≡ signature_length (record { lms = lms; ots = ots })
    → 4 + count ≡ 4 + signature_length (types_of (drop 4 public))
place-is public top lms ots count top_is lms_is ots_is count_is =
    ap (λ n. 4 + n) (count_is ∙ (λ i. signature_length (the-types (lms_is i) (ots_is i)))
    ∙ ap (λ k. signature_length (types_of k)) top_is)

pub returns-then-not-begins_with : goal.returns-then-not-begins_with
returns-then-not-begins_with c = other_public _ _ _ (sym c.begins_with.ensures ∙ c.if-not-begins_with.true)

pub returns-then-not-begins_with-2 : goal.returns-then-not-begins_with-2
returns-then-not-begins_with-2 c = other_signature _ _ _ (sym c.begins_with-2.ensures ∙ c.if-not-begins_with-2.true)

pub returns-then-signature-place : goal.returns-then-signature-place
returns-then-signature-place c =
    let place = 4 + c.signature_len-place.result in
    let top = take 56 (drop 4 c.args.public.now) in
    let whole : top ≡ drop 4 c.args.public.now = top-whole c.args.public.now c.told-public in
    let is = place-is c.args.public.now _ _ _ _ whole c.u32_at.ensures c.u32_at-2.ensures
    c.signature_len-place.ensures.value in
    short_signature c.args.public.now c.args.message.now c.args.signature.now place is c.if-signature-place.true

pub returns-then-is_valid : goal.returns-then-is_valid
returns-then-is_valid c =
    let place = 4 + c.signature_len-place.result in
    let top = take 56 (drop 4 c.args.public.now) in
    let whole : top ≡ drop 4 c.args.public.now = top-whole c.args.public.now c.told-public in
    let public = c.args.public.now in
    let message = c.args.message.now in
    let signature = c.args.signature.now in
    let bottom = slice_range signature place (place + 56) in
    let rest = take (length signature - (place + 56)) (drop (place + 56) signature) in
    let rest_is : rest ≡ drop (place + 56) signature = rest-whole signature (place + 56) in
    let is = place-is public _ _ _ _ whole c.u32_at.ensures c.u32_at-2.ensures c.signature_len-place.ensures.value in
    let all = tested public message signature place top bottom (slice_range signature 4 place) rest
    c.is_valid.result is whole refl refl rest_is (sym c.begins_with.ensures ∙ c.if-not-begins_with.false)
    (sym c.begins_with-2.ensures ∙ c.if-not-begins_with-2.false) c.if-signature-place.false c.is_valid.ensures in
    c.is_valid-then-is_valid.ensures ∙ sym (all ∙ ap (λ b. b && is_valid bottom message rest) c.if-is_valid.true)

pub returns-else-is_valid : goal.returns-else-is_valid
returns-else-is_valid c =
    let place = 4 + c.signature_len-place.result in
    let top = take 56 (drop 4 c.args.public.now) in
    let whole : top ≡ drop 4 c.args.public.now = top-whole c.args.public.now c.told-public in
    let public = c.args.public.now in
    let message = c.args.message.now in
    let signature = c.args.signature.now in
    let bottom = slice_range signature place (place + 56) in
    let rest = drop (place + 56) signature in
    let is = place-is public _ _ _ _ whole c.u32_at.ensures c.u32_at-2.ensures c.signature_len-place.ensures.value in
    let all = tested public message signature place top bottom (slice_range signature 4 place) rest
    c.is_valid.result is whole refl refl refl (sym c.begins_with.ensures ∙ c.if-not-begins_with.false)
    (sym c.begins_with-2.ensures ∙ c.if-not-begins_with-2.false) c.if-signature-place.false c.is_valid.ensures in
    c.if-is_valid.false ∙ sym (all ∙ ap (λ b. b && is_valid bottom message rest) c.if-is_valid.false)
