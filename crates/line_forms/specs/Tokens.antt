-- The kinds of token: which values there are, the words of each, and the value that words spell.
use Rattle.std.specs.Prelude.{◌≡◌, ℕ, ◌^◌, ◌<◌, ◌≤◌, ◌==◌, ◌&&◌, ◌||◌, nat_le, nat_lt, not, Bool, false, List, [], ◌∷◌, length, map, codes, Option, Some, None, option_and_then, option_map, if◌then◌else◌, decimal, IsTrue}
use Rattle.std.specs.Char.{is_ascii_digit}
use Rattle.std.specs.List.{All, list_all}
use Rattle.std.specs.Option.{option_or}
use Rattle.std.specs.Str.{bytes_eq}
use Rattle.std.specs.Str.Parse.{digits_value}
use Rattle.plasma_base.specs.HexText.{hex_in, hex_text}
use Rattle.line_forms.specs.declared.tokens.TheConstants.{NAME_BYTES, KEY_BYTES, OWNER_BYTES, OUTCOME_NAMES}
use Rattle.line_forms.specs.declared.tokens.HexOrName.{HexOrName}
use Rattle.line_forms.specs.declared.tokens.HexOrItem.{HexOrItem}
use Rattle.line_forms.specs.declared.tokens.ShownToken.{ShownToken}
use Rattle.line_forms.specs.declared.tokens.OutcomeToken.{OutcomeToken}
use Rattle.line_forms.specs.declared.tokens.OutcomeToken.TheVariants.{Old, New, Mix}
use Rattle.line_forms.specs.declared.tokens.OutcomeName.{OutcomeName}
use Rattle.line_forms.specs.Forms.{Kind, one_word, ends, ◌▸◌, optional, Form, named, Table, Parts, of, form_of}

-- the value, if it passes the test
abbrev pub only_if : {A : Type 0} → (A → Bool) → Option A → Option A
only_if test spelled = option_and_then (λ value. if test value then Some value else None) spelled

-- ---- numbers

-- whether a word is decimal digits without a leading zero, or `0`; 48 is the digit 0
abbrev pub is_decimal : List ℕ → Bool
is_decimal [] = false
is_decimal (digit ∷ []) = is_ascii_digit digit
is_decimal (first ∷ second ∷ rest) = not (first == 48) && list_all is_ascii_digit (first ∷ second ∷ rest)

-- the number that a word spells: decimal, and at most 18446744073709551615
unfoldable pub number_in : List ℕ → Option ℕ
number_in word =
    if is_decimal word && nat_lt (digits_value 10 word) (2 ^ 64) then Some (digits_value 10 word) else None

-- the one spelling of a number
unfoldable pub number_text : ℕ → List ℕ
number_text n = decimal n

-- a number of 64 bits
abbrev pub IsNumber : ℕ → Type 0
IsNumber n = n < 2 ^ 64

-- `<number>`
abbrev pub number : Kind ℕ
number = one_word IsNumber number_text number_in

-- a number from low to high
abbrev pub IsNumberWithin : ℕ → ℕ → ℕ → Type 0
IsNumberWithin low high n = IsNumber n × ((low ≤ n) × (n ≤ high))

-- the number from low to high that a word spells
unfoldable pub number_within_in : ℕ → ℕ → List ℕ → Option ℕ
number_within_in low high word = only_if (λ n. nat_le low n && nat_le n high) (number_in word)

-- a number from low to high, as a token
abbrev pub number_within : ℕ → ℕ → Kind ℕ
number_within low high = one_word (IsNumberWithin low high) number_text (number_within_in low high)

-- ---- names

-- `a` to `z`
abbrev pub is_letter : ℕ → Bool
is_letter byte = nat_le 97 byte && nat_le byte 122

-- whether a word is a letter, and then letters or digits, of 16 bytes at most
abbrev pub is_name : List ℕ → Bool
is_name [] = false
is_name (first ∷ rest) =
    is_letter first
    && (list_all (λ byte. is_letter byte || is_ascii_digit byte) rest && nat_le (length (first ∷ rest)) NAME_BYTES)

-- a name
abbrev pub IsName : List ℕ → Type 0
IsName word = IsTrue (is_name word)

-- the name that a word is
unfoldable pub name_in : List ℕ → Option (List ℕ)
name_in word = if is_name word then Some word else None

-- `<name>`
abbrev pub name : Kind (List ℕ)
name = one_word IsName (λ word. word) name_in

-- a name that a line may declare: each but that of the operator
abbrev pub IsDeclaredName : List ℕ → Type 0
IsDeclaredName word = IsName word × (bytes_eq word (codes "op") ≡ false)

-- the name, other than the operator's, that a word is
unfoldable pub declared_name_in : List ℕ → Option (List ℕ)
declared_name_in word = only_if (λ word. not (bytes_eq word (codes "op"))) (name_in word)

-- `<name>` where a line declares it
abbrev pub declared_name : Kind (List ℕ)
declared_name = one_word IsDeclaredName (λ word. word) declared_name_in

-- ---- byte strings

-- numbers of eight bits
abbrev pub AreBytes : List ℕ → Type 0
AreBytes bytes = All (λ byte. byte < 256) bytes

-- `<hex>`: `0x` and two lower-case digits for each byte
abbrev pub hex : Kind (List ℕ)
hex = one_word AreBytes hex_text hex_in

-- so many bytes
abbrev pub AreBytesOf : ℕ → List ℕ → Type 0
AreBytesOf count bytes = AreBytes bytes × (length bytes ≡ count)

-- the bytes that a hex of so many spells
unfoldable pub hex_of_in : ℕ → List ℕ → Option (List ℕ)
hex_of_in count word = only_if (λ bytes. length bytes == count) (hex_in word)

-- a hex of so many bytes
abbrev pub hex_of : ℕ → Kind (List ℕ)
hex_of count = one_word (AreBytesOf count) hex_text (hex_of_in count)

-- one byte or more
abbrev pub AreSomeBytes : List ℕ → Type 0
AreSomeBytes bytes = AreBytes bytes × (1 ≤ length bytes)

-- the bytes that a hex of one or more spells
unfoldable pub some_bytes_in : List ℕ → Option (List ℕ)
some_bytes_in word = only_if (λ bytes. nat_le 1 (length bytes)) (hex_in word)

-- a hex of one byte or more
abbrev pub some_bytes : Kind (List ℕ)
some_bytes = one_word AreSomeBytes hex_text some_bytes_in

-- ---- a hex of so many bytes, or a name

-- so many bytes, or a name
abbrev pub IsHexOrName : ℕ → HexOrName → Type 0
IsHexOrName count (HexOrName.Hex bytes) = AreBytesOf count bytes
IsHexOrName count (HexOrName.Name word) = IsName word

-- the one spelling of bytes or of a name
abbrev pub hex_or_name_text : HexOrName → List ℕ
hex_or_name_text (HexOrName.Hex bytes) = hex_text bytes
hex_or_name_text (HexOrName.Name word) = word

-- what a word spells: a name, or else so many bytes
unfoldable pub hex_or_name_in : ℕ → List ℕ → Option HexOrName
hex_or_name_in count word =
    option_or (option_map HexOrName.Name (name_in word)) (option_map HexOrName.Hex (hex_of_in count word))

-- a hex of so many bytes, or a name
abbrev pub hex_or_name : ℕ → Kind HexOrName
hex_or_name count = one_word (IsHexOrName count) hex_or_name_text (hex_or_name_in count)

-- `<key>`: a hex of 56 bytes, or the name of who has the key
abbrev pub key : Kind HexOrName
key = hex_or_name KEY_BYTES

-- `<to>`: a hex of 64 bytes, or the name of the owner
abbrev pub to : Kind HexOrName
to = hex_or_name OWNER_BYTES

-- ---- bytes, and what is shown

-- bytes, or the number of a line
abbrev pub IsHexOrItem : HexOrItem → Type 0
IsHexOrItem (HexOrItem.Hex bytes) = AreBytes bytes
IsHexOrItem (HexOrItem.Item line) = IsNumber line

-- the one spelling of bytes or of the mail item of a line; 35 is `#`
abbrev pub hex_or_item_text : HexOrItem → List ℕ
hex_or_item_text (HexOrItem.Hex bytes) = hex_text bytes
hex_or_item_text (HexOrItem.Item line) = 35 ∷ number_text line

-- the number after a `#`
abbrev pub item_in : List ℕ → Option ℕ
item_in [] = None
item_in (first ∷ word) = if first == 35 then number_in word else None

-- what a word spells: the mail item of a line, or else bytes
unfoldable pub bytes_in : List ℕ → Option HexOrItem
bytes_in word = option_or (option_map HexOrItem.Item (item_in word)) (option_map HexOrItem.Hex (hex_in word))

-- `<bytes>`: a hex, or `#` and the number of the line whose mail item is meant
abbrev pub bytes : Kind HexOrItem
bytes = one_word IsHexOrItem hex_or_item_text bytes_in

-- the deposit, or bytes
abbrev pub IsShown : ShownToken → Type 0
IsShown ShownToken.Deposit = Unit {0}
IsShown (ShownToken.Bytes value) = IsHexOrItem value

-- the one spelling of what is shown
abbrev pub shown_text : ShownToken → List ℕ
shown_text ShownToken.Deposit = codes "-"
shown_text (ShownToken.Bytes value) = hex_or_item_text value

-- what a word shows
unfoldable pub shown_in : List ℕ → Option ShownToken
shown_in word =
    if bytes_eq word (codes "-") then Some ShownToken.Deposit else option_map ShownToken.Bytes (bytes_in word)

-- `<shown>`: `-` for the deposit, or bytes
abbrev pub shown : Kind ShownToken
shown = one_word IsShown shown_text shown_in

-- ---- kinds of several words

-- the forms of an outcome
abbrev pub outcome_form : OutcomeName → Form OutcomeToken
outcome_form OutcomeName.Old = named (codes "old") ends Old
outcome_form OutcomeName.New = named (codes "new") ends New
outcome_form OutcomeName.Mix = named (codes "mix") (number ▸ some_bytes ▸ ends) Mix

-- the table of outcomes
abbrev pub outcomes : Table OutcomeName OutcomeToken
outcomes = record { names = map (λ row. (row.0.now, row.1)) OUTCOME_NAMES; row = outcome_form }

-- an outcome as a row of the table, and its tokens
abbrev pub outcome_parts : OutcomeToken → Parts OutcomeName OutcomeToken outcomes
outcome_parts Old = of outcomes OutcomeName.Old
outcome_parts New = of outcomes OutcomeName.New
outcome_parts (Mix extra bytes) = of outcomes OutcomeName.Mix extra bytes

-- `<outcome>`: `old`, `new`, or `mix`, a number and a hex of one byte or more
abbrev pub outcome : Kind OutcomeToken
outcome = form_of outcomes outcome_parts

-- `[<number>]`: a number, which may be missing at the end of a line
abbrev pub optional_number : Kind (Option ℕ)
optional_number = optional number
