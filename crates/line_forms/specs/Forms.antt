-- Tables of forms: which words a form has, what they spell, and how a value is spelled.
use Rattle.std.specs.Prelude.{ℕ, Bool, false, List, [], ◌∷◌, ◌++◌, Option, Some, None, option_and_then, option_map, if◌then◌else◌}
use Rattle.std.specs.Map.{lookup}
use Rattle.std.specs.Option.{option_map_or}
use Rattle.std.specs.Str.{bytes_eq}
use Rattle.line_forms.specs.Words.{words_of, line_of_words, is_end}

-- how the values of one kind stand in a line: which values do, the words of a value, and the value that the first
-- words spell, with the words after them
pub record Kind (A : Type 0) : Type 1 where
  pub Is : A → Type 0
  pub words : A → List (List ℕ)
  pub take : List (List ℕ) → Option (A × List (List ℕ))

-- the value that the first word spells, and the words after it
abbrev pub take_word : {A : Type 0} → (List ℕ → Option A) → List (List ℕ) → Option (A × List (List ℕ))
take_word value_in [] = None
take_word value_in (word ∷ words) = option_map (λ value. (value, words)) (value_in word)

-- a kind of one word
abbrev pub one_word : {A : Type 0} → (A → Type 0) → (A → List ℕ) → (List ℕ → Option A) → Kind A
one_word Is text value_in = record { Is = Is; words = λ value. text value ∷ []; take = take_word value_in }

-- ---- forms

-- the kinds of a form's words, in order
infixr 20 ◌▸◌
pub data Shape : Type 1 where
  ends : Shape
  ◌▸◌ : {A : Type 0} → Kind A → Shape → Shape

-- a function of a shape's values, in order
abbrev pub Make : Shape → Type 0 → Type 0
Make ends B = B
Make (◌▸◌ {A} kind shape) B = A → Make shape B

-- the values of a shape, in order
abbrev pub Values : Shape → Type 0
Values ends = Unit {0}
Values (◌▸◌ {A} kind shape) = A × Values shape

-- whether each value is one of its kind
abbrev pub AreValues : (shape : Shape) → Values shape → Type 0
AreValues ends values = Unit {0}
AreValues (kind ▸ shape) values = kind.Is values.0 × AreValues shape values.1

-- the words of a shape's values
abbrev pub words_by : (shape : Shape) → Values shape → List (List ℕ)
words_by ends values = []
words_by (kind ▸ shape) values = kind.words values.0 ++ words_by shape values.1

-- what a shape's values make
abbrev pub made : (shape : Shape) → {B : Type 0} → Make shape B → Values shape → B
made ends make values = make
made (kind ▸ shape) make values = made shape (make values.0) values.1

-- what the first words spell by a shape, with the words after them
abbrev pub take_by : (shape : Shape) → {B : Type 0} → Make shape B → List (List ℕ) → Option (B × List (List ℕ))
take_by ends make words = Some (make, words)
take_by (kind ▸ shape) make words =
    option_and_then (λ taken. take_by shape (make taken.0) taken.1) (kind.take words)

-- a form: the name that begins it, the kinds of its words, and the value that they make
pub data Form (B : Type 0) : Type 1 where
  named : List ℕ → (shape : Shape) → Make shape B → Form B

-- the name that begins a form
abbrev pub name_of : {B : Type 0} → Form B → List ℕ
name_of (named name shape make) = name

-- the kinds of a form's words
abbrev pub shape_of : {B : Type 0} → Form B → Shape
shape_of (named name shape make) = shape

-- what values of a form make
abbrev pub makes : {B : Type 0} → (row : Form B) → Values (shape_of row) → B
makes (named name shape make) values = made shape make values

-- what the words after a form's name spell, with the words after them
abbrev pub takes : {B : Type 0} → Form B → List (List ℕ) → Option (B × List (List ℕ))
takes (named name shape make) words = take_by shape make words

-- ---- tables

-- a table: the names that it knows, and the form of each
pub record Table (N B : Type 0) : Type 1 where
  pub names : List (List ℕ × N)
  pub row : N → Form B

-- a value as the name of a form and the form's values
pub data Parts (N B : Type 0) (table : Table N B) : Type 0 where
  these : (name : N) → Values (shape_of (table.row name)) → Parts N B table

-- what is made of a shape's values, as a function of them in order
abbrev pub with_values : (shape : Shape) → {C : Type 0} → (Values shape → C) → Make shape C
with_values ends make = make tt
with_values (kind ▸ shape) make = λ value. with_values shape (λ values. make (value, values))

-- the form of this name, with these values
abbrev pub of : {N B : Type 0} → (table : Table N B) → (name : N) → Make (shape_of (table.row name)) (Parts N B table)
of table name = with_values (shape_of (table.row name)) (λ values. these name values)

-- the words of parts: the form's name, and those of its values
abbrev pub words_of_parts : {N B : Type 0} → (table : Table N B) → Parts N B table → List (List ℕ)
words_of_parts table (these name values) = name_of (table.row name) ∷ words_by (shape_of (table.row name)) values

-- whether each of the form's values is one of its kind
abbrev pub AreParts : {N B : Type 0} → (table : Table N B) → Parts N B table → Type 0
AreParts table (these name values) = AreValues (shape_of (table.row name)) values

-- what parts make
abbrev pub makes_parts : {N B : Type 0} → (table : Table N B) → Parts N B table → B
makes_parts table (these name values) = makes (table.row name) values

-- what the first words spell by a table, with the words after them
abbrev pub take_form : {N B : Type 0} → Table N B → List (List ℕ) → Option (B × List (List ℕ))
take_form table [] = None
take_form table (word ∷ words) =
    option_and_then (λ name. takes (table.row name) words) (lookup (bytes_eq word) table.names)

-- whether the first word is the name of a form of which this holds
abbrev pub begins_as : {N B : Type 0} → Table N B → (N → Bool) → List (List ℕ) → Bool
begins_as table holds [] = false
begins_as table holds (word ∷ words) = option_map_or holds (lookup (bytes_eq word) table.names) false

-- what was spelled, where no word is left
abbrev pub whole : {B : Type 0} → Option (B × List (List ℕ)) → Option B
whole taken = option_and_then (λ taken. if is_end taken.1 then Some taken.0 else None) taken

-- the value that a line spells by a table, if it spells one
unfoldable pub value_in : {N B : Type 0} → Table N B → List ℕ → Option B
value_in table line = whole (take_form table (words_of line))

-- the one spelling of a value: its words with one blank between each two
unfoldable pub text_of : {N B : Type 0} → (table : Table N B) → Parts N B table → List ℕ
text_of table parts = line_of_words (words_of_parts table parts)

-- ---- kinds of several words

-- the values that a table spells: a table inside another
abbrev pub form_of : {N B : Type 0} → (table : Table N B) → (B → Parts N B table) → Kind B
form_of table parts = record {
  Is = λ value. AreParts table (parts value);
  words = λ value. words_of_parts table (parts value);
  take = take_form table;
}

-- some kinds one after another, as one
abbrev pub run_of : {B : Type 0} → (shape : Shape) → Make shape B → (B → Values shape) → Kind B
run_of shape make values = record {
  Is = λ value. AreValues shape (values value);
  words = λ value. words_by shape (values value);
  take = take_by shape make;
}

-- whether a value that may be missing is one of its kind
abbrev pub IsOptional : {A : Type 0} → Kind A → Option A → Type 0
IsOptional kind (Some value) = kind.Is value
IsOptional kind None = Unit {0}

-- the words of a value that may be missing
abbrev pub optional_words : {A : Type 0} → Kind A → Option A → List (List ℕ)
optional_words kind (Some value) = kind.words value
optional_words kind None = []

-- the value that the first words spell, or none where no word is left
abbrev pub take_optional : {A : Type 0} → Kind A → List (List ℕ) → Option (Option A × List (List ℕ))
take_optional kind [] = Some (None, [])
take_optional kind (word ∷ words) = option_map (λ taken. (Some taken.0, taken.1)) (kind.take (word ∷ words))

-- a value that may be missing at the end of a line
abbrev pub optional : {A : Type 0} → Kind A → Kind (Option A)
optional kind = record { Is = IsOptional kind; words = optional_words kind; take = take_optional kind }

-- ---- a form of one table as a form of another

-- a function of a shape's values, and something made of what it gives
abbrev pub mapped_make : (shape : Shape) → {B C : Type 0} → (B → C) → Make shape B → Make shape C
mapped_make ends f make = f make
mapped_make (kind ▸ shape) f make = λ value. mapped_make shape f (make value)

-- the form with the same words, and something made of its value
abbrev pub mapped_form : {B C : Type 0} → (B → C) → Form B → Form C
mapped_form f (named name shape make) = named name shape (mapped_make shape f make)

-- its values, which are those of the form
abbrev pub mapped_values : {B C : Type 0} → (f : B → C) → (row : Form B) → Values (shape_of row)
    → Values (shape_of (mapped_form f row))
mapped_values f (named name shape make) values = values
