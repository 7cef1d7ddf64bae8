-- The kinds of token, both ways.
use Rattle.line_forms.proofs.Basics.{◌≡◌, ℕ, ◌^◌, ◌<◌, ◌≤◌, ◌==◌, Bool, true, false, not, ◌&&◌, ◌||◌, cond, nat_le, List, [], ◌∷◌, length, codes, Option, Some, None, option_map, refl, subst, arith, is_ascii_digit, list_all, option_or, bytes_eq, and_parts, eqb-true, leb-true, le-leb, ne_eqb, eq-eqb, cond_some, bytes_eq-Decides, common_steps, is_unbroken, IsKind, IsRow, IsMade, only_if, IsNumber, IsNumberWithin, IsName, IsDeclaredName, AreBytes, AreBytesOf, AreSomeBytes, IsHexOrName, IsHexOrItem, IsShown, number, number_within, name, hex, hex_of, some_bytes, hex_or_name, bytes, shown, outcome, outcomes, outcome_parts, optional_number, declared_name, declared_name_in, number_in, number_text, number_within_in, name_in, is_letter, hex_of_in, some_bytes_in, hex_or_name_in, hex_or_name_text, bytes_in, item_in, hex_or_item_text, shown_in, shown_text}
use Rattle.plasma_base.specs.HexText.{hex_text, hex_in, digits_in, pair_in, lower_digit_in}
use Rattle.plasma_base.proofs.HexLaws.{hex_in-hex_text, hex_text-hex_in}
use Rattle.line_forms.specs.declared.tokens.HexOrName.{HexOrName}
use Rattle.line_forms.specs.declared.tokens.HexOrItem.{HexOrItem}
use Rattle.line_forms.specs.declared.tokens.ShownToken.{ShownToken}
use Rattle.line_forms.specs.declared.tokens.OutcomeToken.{OutcomeToken}
use Rattle.line_forms.specs.declared.tokens.OutcomeName.{OutcomeName}
use Rattle.line_forms.proofs.NumberLaws.{number_in-text, number_text-in, digits-number_text}
use Rattle.line_forms.proofs.FormLaws.{IsToken, one_word-is, form_of-is, optional-is, and_then_some, option_map_some}

-- ---- words without a blank

digit-not_blank : (byte : ℕ) → is_ascii_digit byte ≡ true → not (byte == 32) ≡ true
digit-not_blank byte h = grind (arith, common_steps, and_parts, leb-true, ne_eqb) steps 20000

letter-not_blank : (byte : ℕ) → is_letter byte ≡ true → not (byte == 32) ≡ true
letter-not_blank byte h = grind (arith, common_steps, and_parts, leb-true, ne_eqb) steps 20000

unbroken-digits : (word : List ℕ) → list_all is_ascii_digit word ≡ true → is_unbroken word ≡ true
unbroken-digits [] h = refl
unbroken-digits (byte ∷ word) h =
    let p = and_parts (is_ascii_digit byte) (list_all is_ascii_digit word) h in
    rw (digit-not_blank byte p.0, unbroken-digits word p.1) refl

unbroken-number : (n : ℕ) → n < 2 ^ 64 → is_unbroken (number_text n) ≡ true
unbroken-number n lt = unbroken-digits (number_text n) (digits-number_text n lt)

letter_or_digit-not_blank : (byte : ℕ) → (is_letter byte || is_ascii_digit byte) ≡ true → not (byte == 32) ≡ true
letter_or_digit-not_blank byte h = grind (arith, common_steps, letter-not_blank, digit-not_blank) steps 20000

unbroken-rest : (word : List ℕ) → list_all (λ byte. is_letter byte || is_ascii_digit byte) word ≡ true
    → is_unbroken word ≡ true
unbroken-rest [] h = refl
unbroken-rest (byte ∷ word) h =
    let p = and_parts (is_letter byte || is_ascii_digit byte)
    (list_all (λ byte. is_letter byte || is_ascii_digit byte) word) h in
    rw (letter_or_digit-not_blank byte p.0, unbroken-rest word p.1) refl

unbroken-name : (name : List ℕ) → IsName name → is_unbroken name ≡ true
unbroken-name name h = grind (arith, common_steps, and_parts, letter-not_blank, unbroken-rest) steps 20000

-- a test that passed, and what follows it
test_some : {A : Type 0} (b : Bool) (o : Option A) (y : A) → cond b o None ≡ Some y → (b ≡ true) × (o ≡ Some y)
test_some b o y h = grind (arith, common_steps) steps 20000

hex_digit-not_blank : (byte value : ℕ) → lower_digit_in byte ≡ Some value → not (byte == 32) ≡ true
hex_digit-not_blank byte value h =
    rw (ne_eqb byte 32 (λ e. let no : None ≡ Some value = rw e at h in cc no)) refl

unbroken-hex_digits : (digits bytes : List ℕ) → digits_in digits ≡ Some bytes → is_unbroken digits ≡ true
unfolding digits_in
unbroken-hex_digits [] bytes h = refl
unbroken-hex_digits (digit ∷ []) bytes h = cc h
unbroken-hex_digits (high ∷ low ∷ rest) bytes h =
    let p = and_then_some _ (pair_in high low) bytes h in
    let q = and_then_some _ (digits_in rest) bytes p.2 in
    grind (arith, common_steps, unbroken-hex_digits rest q.0 q.1, and_then_some, hex_digit-not_blank) steps 20000

unbroken-hex_in : (text bytes : List ℕ) → hex_in text ≡ Some bytes → is_unbroken text ≡ true
unfolding hex_in
unbroken-hex_in text bytes h =
    grind (arith, common_steps, test_some, and_parts, eqb-true, unbroken-hex_digits) steps 20000

unbroken-hex : (bytes : List ℕ) → AreBytes bytes → is_unbroken (hex_text bytes) ≡ true
unbroken-hex bytes h = unbroken-hex_in (hex_text bytes) bytes (hex_in-hex_text bytes h)

-- ---- a token with a condition

not_true : (b : Bool) → not b ≡ true → b ≡ false
not_true b h = grind (arith, common_steps) steps 20000

-- a test tells whether a condition holds
abbrev IsTest : {A : Type 0} → (A → Bool) → (A → Type 0) → Type 0
IsTest {A} test Holds = (value : A) → (test value ≡ true → Holds value) × (Holds value → test value ≡ true)

-- what passes a test is a token still
only_if-token : {A : Type 0} (Is Holds : A → Type 0) (text : A → List ℕ) (value_in : List ℕ → Option A)
    (test : A → Bool)
    → IsTest test Holds → IsToken A Is text value_in
    → IsToken A (λ value. Is value × Holds value) text (λ word. only_if test (value_in word))
only_if-token Is Holds text value_in test tells token = record {
  read = λ value h. rw (token.read value h.0, (tells value).1 h.1) refl;
  one = λ word value h.
      let p = and_then_some _ (value_in word) value h in
      let q = cond_some (test p.0) p.0 value p.2 in
      let own = token.one word p.0 p.1 in
      rw (← q.1) (own.0, (own.1, (tells p.0).0 q.0));
  unbroken = λ value h. token.unbroken value h.0;
}

-- ---- numbers

number-token : IsToken ℕ IsNumber number_text number_in
number-token = record { read = number_in-text; one = number_text-in; unbroken = unbroken-number }

pub number-is : (closed : Bool) → IsKind ℕ number closed
number-is = one_word-is IsNumber number_text number_in number-token

within-test : (low high : ℕ) → IsTest (λ n. nat_le low n && nat_le n high) (λ n. (low ≤ n) × (n ≤ high))
within-test low high n = grind (arith, common_steps, and_parts, leb-true, le-leb) steps 20000

number_within-token : (low high : ℕ) → IsToken ℕ (IsNumberWithin low high) number_text (number_within_in low high)
unfolding number_within_in
number_within-token low high = only_if-token IsNumber _ number_text number_in _ (within-test low high) number-token

pub number_within-is : (low high : ℕ) (closed : Bool) → IsKind ℕ (number_within low high) closed
number_within-is low high = one_word-is _ number_text _ (number_within-token low high)

-- ---- names

name_in-text : (name : List ℕ) → IsName name → name_in name ≡ Some name
unfolding name_in
name_in-text name h = rw h refl

name_text-in : (word name : List ℕ) → name_in word ≡ Some name → (word ≡ name) × IsName name
unfolding name_in
name_text-in word name h = grind (arith, common_steps, cond_some) steps 20000

name-token : IsToken (List ℕ) IsName (λ word. word) name_in
name-token = record { read = name_in-text; one = name_text-in; unbroken = unbroken-name }

pub name-is : (closed : Bool) → IsKind (List ℕ) name closed
name-is = one_word-is IsName (λ word. word) name_in name-token

not-test : {A : Type 0} (test : A → Bool) → IsTest (λ value. not (test value)) (λ value. test value ≡ false)
not-test test value = (not_true (test value), λ h. rw h refl)

declared_name-token : IsToken (List ℕ) IsDeclaredName (λ word. word) declared_name_in
unfolding declared_name_in
declared_name-token =
    only_if-token IsName _ (λ word. word) name_in _ (not-test (λ word. bytes_eq word (codes "op"))) name-token

pub declared_name-is : (closed : Bool) → IsKind (List ℕ) declared_name closed
declared_name-is = one_word-is IsDeclaredName (λ word. word) declared_name_in declared_name-token

-- ---- byte strings

hex-token : IsToken (List ℕ) AreBytes hex_text hex_in
hex-token = record { read = hex_in-hex_text; one = hex_text-hex_in; unbroken = unbroken-hex }

pub hex-is : (closed : Bool) → IsKind (List ℕ) hex closed
hex-is = one_word-is AreBytes hex_text hex_in hex-token

hex_of-token : (count : ℕ) → IsToken (List ℕ) (AreBytesOf count) hex_text (hex_of_in count)
unfolding hex_of_in
hex_of-token count =
    only_if-token AreBytes _ hex_text hex_in _
    (λ bytes. (eqb-true (length bytes) count, eq-eqb (length bytes) count)) hex-token

pub hex_of-is : (count : ℕ) (closed : Bool) → IsKind (List ℕ) (hex_of count) closed
hex_of-is count = one_word-is _ hex_text _ (hex_of-token count)

some_bytes-token : IsToken (List ℕ) AreSomeBytes hex_text some_bytes_in
unfolding some_bytes_in
some_bytes-token =
    only_if-token AreBytes _ hex_text hex_in _ (λ bytes. (leb-true 1 (length bytes), le-leb 1 (length bytes))) hex-token

pub some_bytes-is : (closed : Bool) → IsKind (List ℕ) some_bytes closed
some_bytes-is = one_word-is _ hex_text _ some_bytes-token

-- ---- tokens of two spellings

either_some : {A : Type 0} (first second : Option A) (y : A) → option_or first second ≡ Some y → (P : Type 0)
    → (first ≡ Some y → P) → (second ≡ Some y → P) → P
either_some first second y h _ one two = grind (arith, common_steps) steps 20000

-- a hex is no name
name_in-hex : (content : List ℕ) → name_in (hex_text content) ≡ None
unfolding name_in hex_text
name_in-hex content = refl

hex_or_name_in-text : (count : ℕ) (value : HexOrName) → IsHexOrName count value
    → hex_or_name_in count (hex_or_name_text value) ≡ Some value
unfolding hex_or_name_in
hex_or_name_in-text count (HexOrName.Hex bytes) h = rw (name_in-hex bytes, (hex_of-token count).read bytes h) refl
hex_or_name_in-text count (HexOrName.Name word) h = rw (name_in-text word h) refl

hex_or_name_text-in : (count : ℕ) (word : List ℕ) (value : HexOrName) → hex_or_name_in count word ≡ Some value
    → (word ≡ hex_or_name_text value) × IsHexOrName count value
unfolding hex_or_name_in
hex_or_name_text-in count word value h =
    let Spells = λ (value : HexOrName). (word ≡ hex_or_name_text value) × IsHexOrName count value in
    either_some _ _ value h (Spells value)
    (λ e. let p = option_map_some HexOrName.Name (name_in word) value e in
    subst Spells p.2 (name_text-in word p.0 p.1))
    (λ e. let p = option_map_some HexOrName.Hex (hex_of_in count word) value e in
    subst Spells p.2 ((hex_of-token count).one word p.0 p.1))

unbroken-hex_or_name : (count : ℕ) (value : HexOrName) → IsHexOrName count value
    → is_unbroken (hex_or_name_text value) ≡ true
unbroken-hex_or_name count value h = grind (arith, common_steps, unbroken-hex, unbroken-name) steps 20000

pub hex_or_name-is : (count : ℕ) (closed : Bool) → IsKind HexOrName (hex_or_name count) closed
hex_or_name-is count =
    one_word-is _ hex_or_name_text _
    (record {
      read = hex_or_name_in-text count;
      one = hex_or_name_text-in count;
      unbroken = unbroken-hex_or_name count;
    })

-- a hex is no item
item_in-hex : (content : List ℕ) → item_in (hex_text content) ≡ None
unfolding hex_text
item_in-hex content = refl

bytes_in-text : (value : HexOrItem) → IsHexOrItem value → bytes_in (hex_or_item_text value) ≡ Some value
unfolding bytes_in
bytes_in-text value h = grind (arith, common_steps, item_in-hex, hex_in-hex_text, number_in-text) steps 20000

item_text-in : (word : List ℕ) (n : ℕ) → item_in word ≡ Some n → (word ≡ 35 ∷ number_text n) × IsNumber n
item_text-in [] n h = cc h
item_text-in (first ∷ word) n h =
    let p = test_some (first == 35) (number_in word) n h in
    let q = number_text-in word n p.1 in
    (rw (eqb-true first 35 p.0, q.0) refl, q.1)

bytes_text-in : (word : List ℕ) (value : HexOrItem) → bytes_in word ≡ Some value
    → (word ≡ hex_or_item_text value) × IsHexOrItem value
unfolding bytes_in
bytes_text-in word value h =
    let Spells = λ (value : HexOrItem). (word ≡ hex_or_item_text value) × IsHexOrItem value in
    either_some _ _ value h (Spells value)
    (λ e. let p = option_map_some HexOrItem.Item (item_in word) value e in
    subst Spells p.2 (item_text-in word p.0 p.1))
    (λ e. let p = option_map_some HexOrItem.Hex (hex_in word) value e in
    subst Spells p.2 (hex_text-hex_in word p.0 p.1))

unbroken-bytes : (value : HexOrItem) → IsHexOrItem value → is_unbroken (hex_or_item_text value) ≡ true
unbroken-bytes value h = grind (arith, common_steps, unbroken-hex, unbroken-number) steps 20000

pub bytes-is : (closed : Bool) → IsKind HexOrItem bytes closed
bytes-is =
    one_word-is _ hex_or_item_text bytes_in
    (record { read = bytes_in-text; one = bytes_text-in; unbroken = unbroken-bytes })

bytes-not_deposit : (value : HexOrItem) → bytes_eq (hex_or_item_text value) (codes "-") ≡ false
unfolding hex_text
bytes-not_deposit value = grind (arith, common_steps) steps 20000

shown_in-text : (value : ShownToken) → IsShown value → shown_in (shown_text value) ≡ Some value
unfolding shown_in
shown_in-text value h = grind (arith, common_steps, bytes-not_deposit, bytes_in-text) steps 20000

shown_text-in : (word : List ℕ) (value : ShownToken) → shown_in word ≡ Some value
    → (word ≡ shown_text value) × IsShown value
unfolding shown_in
shown_text-in word value h =
    let Spells = λ (value : ShownToken). (word ≡ shown_text value) × IsShown value in
    elim (bytes_eq word (codes "-")) as
    (λ t. bytes_eq word (codes "-") ≡ t
    → cond t (Some ShownToken.Deposit) (option_map ShownToken.Bytes (bytes_in word)) ≡ Some value → Spells value) [
      | true ↦ grind (arith, common_steps, bytes_eq-Decides) steps 20000
      | false ↦ λ e is.
          let p = option_map_some ShownToken.Bytes (bytes_in word) value is in
          subst Spells p.2 (bytes_text-in word p.0 p.1)
    ] refl h

unbroken-shown : (value : ShownToken) → IsShown value → is_unbroken (shown_text value) ≡ true
unbroken-shown value h = grind (arith, common_steps, unbroken-bytes) steps 20000

pub shown-is : (closed : Bool) → IsKind ShownToken shown closed
shown-is =
    one_word-is _ shown_text shown_in
    (record { read = shown_in-text; one = shown_text-in; unbroken = unbroken-shown })

-- ---- outcomes

ruleset outcome_kinds = (number-is, some_bytes-is)

outcome-row : (closed : Bool) (name : OutcomeName) → IsRow closed outcomes outcome_parts name
outcome-row closed OutcomeName.Old = search outcome_kinds
outcome-row closed _ = search outcome_kinds

outcome-made : (value : OutcomeToken) → IsMade outcomes outcome_parts value
outcome-made value = grind (arith, common_steps) steps 20000

pub outcome-is : (closed : Bool) → IsKind OutcomeToken outcome closed
outcome-is closed =
    form_of-is closed outcomes outcome_parts
    (record { names = (refl, (refl, (refl, tt))); rows = outcome-row closed; made_of = outcome-made })

-- ---- tokens that may be missing

pub optional_number-is : IsKind (Option ℕ) optional_number false
optional_number-is = optional-is number (number-is false) (λ n. refl)

-- the laws of the kinds that another grammar's rows are searched with
pub ruleset kinds = (
  number-is,
  number_within-is,
  name-is,
  declared_name-is,
  hex-is,
  hex_of-is,
  some_bytes-is,
  hex_or_name-is,
  bytes-is,
  shown-is,
  outcome-is,
  optional_number-is,
)
