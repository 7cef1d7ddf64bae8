-- Which texts are the digits of bytes, and how many digits bytes have.
use Rattle.run_words.proofs.Basics.{◌≡◌, ◌∙◌, ℕ, ◌*◌, ◌+◌, ◌%◌, ◌==◌, ◌&&◌, Bool, List, [], ◌∷◌, length, Option, Some, None, refl, sym, ap, arith, is_some, none-some, list_all, common_steps, ◌>>=◌, digits_in, hex_in, lower_digit_in, pair_in}

-- whether each is a digit
abbrev are_digits : List ℕ → Bool
are_digits digits = list_all (λ digit. is_some (lower_digit_in digit)) digits

-- two more digits leave the number even or odd
two_more : (even more : Bool) (high low : Option ℕ) (rest : Option (List ℕ)) → is_some rest ≡ (even && more)
    → is_some (((high >>= λ h. low >>= λ l. Some (h * 16 + l)) >>= λ byte. rest >>= λ bytes. Some (byte ∷ bytes)))
    ≡ (even && (is_some high && (is_some low && more)))
two_more even more high low rest is = grind arith

-- digits spell bytes exactly where their number is even and each is one
pub spelled : (digits : List ℕ)
    → is_some (digits_in digits) ≡ ((length digits % 2 == 0) && are_digits digits)
unfolding digits_in
spelled [] = refl
spelled (digit ∷ []) = refl
spelled (high ∷ low ∷ digits) =
    let same : length (high ∷ low ∷ digits) % 2 ≡ length digits % 2 = omega arith in
    two_more (length digits % 2 == 0) (are_digits digits) (lower_digit_in high) (lower_digit_in low) (digits_in digits)
    (spelled digits)
    ∙ ap (λ (n : ℕ). (n == 0) && are_digits (high ∷ low ∷ digits)) (sym same)

-- two digits are one byte more
two_sized : (high : Option ℕ) (rest : Option (List ℕ)) (count : ℕ) (bytes : List ℕ)
    → ((more : List ℕ) → rest ≡ Some more → count ≡ length more * 2)
    → (high >>= λ byte. rest >>= λ more. Some (byte ∷ more)) ≡ Some bytes → count + 2 ≡ length bytes * 2
two_sized None rest count bytes sized is = absurd (none-some bytes is)
two_sized (Some byte) None count bytes sized is = absurd (none-some bytes is)
two_sized (Some byte) (Some more) count bytes sized is = grind (arith, common_steps, sized) steps 20000

-- bytes have two digits each
digits_sized : (digits bytes : List ℕ) → digits_in digits ≡ Some bytes → length digits ≡ length bytes * 2
unfolding digits_in
digits_sized [] bytes is = grind (arith, common_steps) steps 20000
digits_sized (digit ∷ []) bytes is = absurd (none-some bytes is)
digits_sized (high ∷ low ∷ digits) bytes is =
    let two = two_sized (pair_in high low) (digits_in digits) (length digits) bytes (digits_sized digits) is in
    omega arith

-- the text of bytes has two characters more than two for each byte
pub sized : (text bytes : List ℕ) → hex_in text ≡ Some bytes → length text ≡ length bytes * 2 + 2
unfolding hex_in
sized text bytes is = grind (arith, common_steps, none-some, digits_sized) steps 20000
