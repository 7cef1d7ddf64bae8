-- Numbers and their words, both ways.
use Rattle.line_forms.proofs.Basics.{◌≡◌, ℕ, zero, suc, ◌+◌, ◌-◌, ◌*◌, ◌/◌, ◌%◌, ◌^◌, ◌<◌, ◌≤◌, Bool, true, false, ◌&&◌, ltb, List, ◌++◌, length, take, drop, set, get_or, Some, None, refl, sym, arith, rules, lit<, is_ascii_digit, decimal, list_all, digits_value, and_parts, ltb-true, lt-ltb, le-ltb, ne_eqb, eq-eqb, drop-set, length-drop, length-set, take_all, cond_some, common_steps, is_decimal, number_in, number_text}
use Rattle.std.specs.Int.{IsInRange}
use Rattle.std.proofs.lemmas.Fmt.{decimal_digit, decimal_step, decimal_nonempty, first_decimal, digits_decimal, digits_value-decimal, decimal-digits_value}
use Rattle.std.proofs.lemmas.Int.Digits.{digits_value_more}
use Rattle.std.proofs.lemmas.Str.{digit_value_digit}
use Rattle.std.proofs.lemmas.Str.Parse.{IsDigitsTest, IsNumeralModel, numerals_by_value, digit_at, digits_value-take-le}
use Rattle.std.proofs.Math.Nat.{pow-suc}

-- ---- reading

and_true : (b : Bool) → b ≡ true → (b && true) ≡ true
and_true b h = rw h refl

-- decimal words are digits
digits-decimal : (word : List ℕ) → is_decimal word ≡ true → list_all is_ascii_digit word ≡ true
digits-decimal word h = grind (arith, common_steps, and_true, and_parts) steps 20000

tells_digits : IsDigitsTest (λ word. list_all is_ascii_digit word ≡ true)
tells_digits = search rules

own : IsNumeralModel (λ word. list_all is_ascii_digit word ≡ true) (digits_value 10)
own = numerals_by_value _ tells_digits

pub digit-decimal : (word : List ℕ) (i : ℕ) → is_decimal word ≡ true → i < length word
    → IsInRange 48 57 (get_or word i 0)
digit-decimal word i h lt = digit_at word i (own.to word (digits-decimal word h)) lt

-- one digit more
pub value-more : (word : List ℕ) (i value next : ℕ) → is_decimal word ≡ true → i < length word
    → value ≡ digits_value 10 (take i word) → next ≡ value * 10 + (get_or word i 0 - 48)
    → next ≡ digits_value 10 (take (i + 1) word)
value-more word i value next h lt e n =
    grind (arith, common_steps, digit_value_digit, digit-decimal, digits_value_more) steps 20000

pub number_in-other : (word : List ℕ) → is_decimal word ≡ false → number_in word ≡ None
unfolding number_in
number_in-other word h = rw h refl

-- what is read so far is too much
pub number_in-large : (word : List ℕ) (i value next : ℕ) → is_decimal word ≡ true → i < length word
    → value ≡ digits_value 10 (take i word) → next ≡ value * 10 + (get_or word i 0 - 48) → 2 ^ 64 ≤ next
    → number_in word ≡ None
unfolding number_in
number_in-large word i value next h lt e n large =
    let all : 2 ^ 64 ≤ digits_value 10 word =
    omega (arith, digits_value-take-le 10 word (i + 1) (omega arith), value-more word i value next h lt e n) in
    rw (h, le-ltb (digits_value 10 word) (2 ^ 64) all) refl

pub number_in-found : (word : List ℕ) (i value : ℕ) → is_decimal word ≡ true → length word ≤ i
    → value ≡ digits_value 10 (take i word) → value < 2 ^ 64 → number_in word ≡ Some value
unfolding number_in
number_in-found word i value h end e small = grind (arith, common_steps, take_all, lt-ltb) steps 20000

-- ---- writing

-- a digit goes before those that are written
pub text-more : (value rest start next : ℕ) (digits : List ℕ) → 10 ≤ rest → rest < 2 ^ 64 → start < length digits
    → next + 1 ≡ start
    → decimal value ≡ decimal rest ++ drop (start + 1) digits
    → decimal value ≡ decimal (rest / 10) ++ drop (next + 1) (set digits start (48 + rest % 10))
text-more value rest start next digits big small lt e text =
    grind (arith, common_steps, drop-set, decimal_step) steps 20000

-- the first digit goes before the others, and the text is there
pub text-first : (value rest start room : ℕ) (digits : List ℕ) → rest < 10 → start < length digits
    → length digits ≡ room
    → decimal value ≡ decimal rest ++ drop (start + 1) digits
    → take (room - start) (drop start (set digits start (48 + rest))) ≡ number_text value
unfolding number_text
text-first value rest start room digits small lt len text =
    grind (arith, common_steps, take_all, length-drop, length-set, drop-set, decimal_digit) steps 20000

-- there is room for the digits of the rest
pub room-left : (rest start : ℕ) → 10 ≤ rest → rest < 10 ^ (start + 1) → 0 < start
room-left rest start big room = grind (arith, common_steps) steps 20000

pub room-more : (rest start next : ℕ) → next + 1 ≡ start → rest < 10 ^ (start + 1) → rest / 10 < 10 ^ (next + 1)
room-more rest start next e room = grind (arith, common_steps, pow-suc) steps 20000

-- ---- both ways

-- digits are decimal where no zero stands before others
is_decimal-digits : (word : List ℕ) → list_all is_ascii_digit word ≡ true → 0 < length word
    → (2 ≤ length word → 48 < get_or word 0 0)
    → is_decimal word ≡ true
is_decimal-digits word digits some first = grind (arith, common_steps, and_parts, ne_eqb) steps 20000

is_decimal-decimal : (n : ℕ) → n < 2 ^ 64 → is_decimal (decimal n) ≡ true
is_decimal-decimal zero lt = rw (decimal_digit 0 (lit< tt)) refl
is_decimal-decimal (suc n) lt =
    grind (arith, common_steps, is_decimal-digits, digits_decimal, own, decimal_nonempty, first_decimal) steps 20000

-- a printed number is read back
pub number_in-text : (n : ℕ) → n < 2 ^ 64 → number_in (number_text n) ≡ Some n
unfolding number_in number_text
number_in-text n lt =
    rw (is_decimal-decimal n lt, digits_value-decimal own n lt, lt-ltb n (2 ^ 64) lt) refl

some-decimal : (word : List ℕ) → is_decimal word ≡ true → 0 < length word
some-decimal word h = grind (arith, common_steps) steps 20000

-- a zero stands alone
zero-decimal : (word : List ℕ) → is_decimal word ≡ true → get_or word 0 0 ≡ 48 → length word ≡ 1
zero-decimal word h e = grind (arith, common_steps, and_parts, eq-eqb) steps 20000

-- a number has one word
pub number_text-in : (word : List ℕ) (n : ℕ) → number_in word ≡ Some n → (word ≡ number_text n) × (n < 2 ^ 64)
unfolding number_in number_text
number_text-in word n h =
    let p = cond_some (is_decimal word && ltb (digits_value 10 word) (2 ^ 64)) (digits_value 10 word) n h in
    let q = and_parts (is_decimal word) (ltb (digits_value 10 word) (2 ^ 64)) p.0 in
    let small : digits_value 10 word < 2 ^ 64 = ltb-true _ _ q.1 in
    let text = decimal-digits_value own word (digits-decimal word q.0) (some-decimal word q.0)
    (zero-decimal word q.0) small in
    rw (← p.1) (sym text, small)

-- a number's word are digits
pub digits-number_text : (n : ℕ) → n < 2 ^ 64 → list_all is_ascii_digit (number_text n) ≡ true
unfolding number_text
digits-number_text n lt = digits_decimal own n lt
