-- What three words say of a signature to verify.
use Rattle.std.proofs.Common.{◌≡◌, ℕ, ◌≤◌, ◌<◌, List, [], ◌∷◌, length, get_or, Some, Bor, refl, arith}
use Rattle.run_words.proofs.Basics.{hex_in, Verify, HssVerify, texts, verify_form, hss_verify}

pub verify-of : (words : List (Bor (List ℕ))) (one two three : Bor (List ℕ)) (key message signature : List ℕ)
    → 3 ≤ length words → length words < 4 → hex_in (get_or words 0 one).now ≡ Some key
    → hex_in (get_or words 1 two).now ≡ Some message → hex_in (get_or words 2 three).now ≡ Some signature
    → verify_form (texts words) ≡ Some (Verify key message signature)
unfolding verify_form
verify-of [] one two three key message signature least below a b c = absurd (omega (arith, least))
verify-of (x ∷ []) one two three key message signature least below a b c = absurd (omega (arith, least))
verify-of (x ∷ y ∷ []) one two three key message signature least below a b c = absurd (omega (arith, least))
verify-of (x ∷ y ∷ z ∷ []) one two three key message signature least below a b c = rw (a, b, c) refl
verify-of (x ∷ y ∷ z ∷ w ∷ ws) one two three key message signature least below a b c =
    absurd (omega (arith, below))

pub hss_verify-of : (words : List (Bor (List ℕ))) (one two three : Bor (List ℕ)) (key message signature : List ℕ)
    → 3 ≤ length words → length words < 4 → hex_in (get_or words 0 one).now ≡ Some key
    → hex_in (get_or words 1 two).now ≡ Some message → hex_in (get_or words 2 three).now ≡ Some signature
    → hss_verify (texts words) ≡ Some (HssVerify key message signature)
unfolding hss_verify
hss_verify-of [] one two three key message signature least below a b c = absurd (omega (arith, least))
hss_verify-of (x ∷ []) one two three key message signature least below a b c = absurd (omega (arith, least))
hss_verify-of (x ∷ y ∷ []) one two three key message signature least below a b c = absurd (omega (arith, least))
hss_verify-of (x ∷ y ∷ z ∷ []) one two three key message signature least below a b c = rw (a, b, c) refl
hss_verify-of (x ∷ y ∷ z ∷ w ∷ ws) one two three key message signature least below a b c =
    absurd (omega (arith, below))
