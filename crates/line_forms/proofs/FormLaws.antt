-- Tables of forms, both ways: what is spelled is taken, and what is taken is spelled so.
use Rattle.line_forms.proofs.Basics.{◌≡◌, ℕ, Bool, true, false, cond, List, [], ◌∷◌, ◌++◌, Option, Some, None, option_map, refl, sym, ap, ◌∙◌, subst, arith, AllByRecursion, lookup, option_and_then, bytes_eq, append-nil, bytes_eq-Decides, common_steps, words_of, line_of_words, is_end, Kind, take_word, one_word, Shape, ends, ◌▸◌, Make, Values, AreValues, words_by, made, take_by, Form, named, name_of, shape_of, makes, takes, Table, Parts, these, makes_parts, words_of_parts, AreParts, take_form, whole, form_of, run_of, optional, take_optional, IsOptional, optional_words, mapped_make, mapped_form, is_unbroken, AreUnbroken, MayFollow, IsKind, is_closed_before, IsLawful, IsRow, IsTable}
use Rattle.line_forms.proofs.WordLaws.{HasNoBlank-from_test, HasNoBlank, words_of-line, line-words_of}

pub unbroken-append : (first second : List (List ℕ)) → AreUnbroken first → AreUnbroken second
    → AreUnbroken (first ++ second)
unbroken-append [] second h k = k
unbroken-append (word ∷ first) second h k = (h.0, unbroken-append first second h.1 k)

-- what a `Some` after a first step shows
pub and_then_some : {A B : Type 0} (f : A → Option B) (o : Option A) (y : B) → option_and_then f o ≡ Some y
    → (x : A) × (o ≡ Some x) × (f x ≡ Some y)
and_then_some f o y h = grind (arith, common_steps) steps 20000

pub option_map_some : {A B : Type 0} (f : A → B) (o : Option A) (y : B) → option_map f o ≡ Some y
    → (x : A) × (o ≡ Some x) × (f x ≡ y)
option_map_some f o y h = grind (arith, common_steps) steps 20000

pub pair_same : {A B : Type 0} (p q : A × B) → p ≡ q → (p.0 ≡ q.0) × (p.1 ≡ q.1)
pair_same {A} {B} p q h = (ap (λ (p : A × B). p.0) h, ap (λ (p : A × B). p.1) h)

pub some_pair : {A B : Type 0} (p q : A × B) → Some p ≡ Some q → (p.0 ≡ q.0) × (p.1 ≡ q.1)
some_pair p q h = pair_same p q (cc h)

follow-values : (closed : Bool) (shape : Shape) (values : Values shape) (rest : List (List ℕ)) → MayFollow closed rest
    → MayFollow (is_closed_before closed shape) (words_by shape values ++ rest)
follow-values closed ends values rest h = h
follow-values closed (kind ▸ shape) values rest h = tt

follow-taken : (closed : Bool) (shape : Shape) {B : Type 0} (make : Make shape B) (words rest : List (List ℕ)) (b : B)
    → MayFollow closed rest
    → take_by shape make words ≡ Some (b, rest) → MayFollow (is_closed_before closed shape) words
follow-taken closed ends make words rest b h e =
    subst (MayFollow closed) (sym (some_pair (make, words) (b, rest) e).1) h
follow-taken closed (kind ▸ shape) make words rest b h e = tt

pub take_by-words : (closed : Bool) (shape : Shape) → IsLawful closed shape
    → {B : Type 0} (make : Make shape B) (values : Values shape) → AreValues shape values
    → (rest : List (List ℕ)) → MayFollow closed rest
    → take_by shape make (words_by shape values ++ rest) ≡ Some (made shape make values, rest)
take_by-words closed ends law make values h rest f = refl
take_by-words closed (kind ▸ shape) law make values h rest f =
    let first : kind.take ((kind.words values.0 ++ words_by shape values.1) ++ rest)
    ≡ Some (values.0, words_by shape values.1 ++ rest) = grind (arith, common_steps, follow-values) steps 20000 in
    grind (arith, common_steps, take_by-words closed shape law.1 (make values.0) values.1 h.1 rest f) steps 20000

-- the values that were taken
pub record Taken (closed : Bool) (shape : Shape) (B : Type 0) (make : Make shape B) (words rest : List (List ℕ))
    (b : B) : Type 0 where
  pub values : Values shape
  pub are : AreValues shape values
  pub spelled : words ≡ words_by shape values ++ rest
  pub make_it : made shape make values ≡ b

pub taken_by : (closed : Bool) (shape : Shape) → IsLawful closed shape
    → {B : Type 0} (make : Make shape B) (words rest : List (List ℕ)) (b : B) → MayFollow closed rest
    → take_by shape make words ≡ Some (b, rest) → Taken closed shape B make words rest b
taken_by closed ends law make words rest b f h = grind (arith, common_steps, some_pair) steps 20000
taken_by closed (kind ▸ shape) law make words rest b f h =
    let p = and_then_some (λ taken. take_by shape (make taken.0) taken.1) (kind.take words) (b, rest) h in
    let first = law.0.spelled words p.0.1 p.0.0 (follow-taken closed shape (make p.0.0) p.0.1 rest b f p.2) p.1 in
    let after = taken_by closed shape law.1 (make p.0.0) p.0.1 rest b f p.2 in
    record {
      values = (p.0.0, after.values);
      are = (first.1, after.are);
      spelled = grind (arith, common_steps) steps 20000;
      make_it = after.make_it;
    }

pub unbroken_by : (closed : Bool) (shape : Shape) → IsLawful closed shape → (values : Values shape)
    → AreValues shape values → AreUnbroken (words_by shape values)
unbroken_by closed ends law values h = tt
unbroken_by closed (kind ▸ shape) law values h =
    grind (arith, common_steps, unbroken_by closed shape law.1 values.1 h.1, unbroken-append) steps 20000

-- ---- tables

-- the words of a form's values are taken back
pub takes-words : (closed : Bool) {B : Type 0} (row : Form B) → IsLawful closed (shape_of row)
    → (values : Values (shape_of row)) → AreValues (shape_of row) values
    → (rest : List (List ℕ)) → MayFollow closed rest
    → takes row (words_by (shape_of row) values ++ rest) ≡ Some (makes row values, rest)
takes-words closed (named name shape make) law values h rest f = take_by-words closed shape law make values h rest f

-- the values of a form that were taken
pub record TakenBy (B : Type 0) (row : Form B) (words rest : List (List ℕ)) (b : B) : Type 0 where
  pub values : Values (shape_of row)
  pub are : AreValues (shape_of row) values
  pub spelled : words ≡ words_by (shape_of row) values ++ rest
  pub make_it : makes row values ≡ b

pub taken_from : (closed : Bool) {B : Type 0} (row : Form B) → IsLawful closed (shape_of row)
    → (words rest : List (List ℕ)) (b : B) → MayFollow closed rest
    → takes row words ≡ Some (b, rest) → TakenBy B row words rest b
taken_from closed (named name shape make) law words rest b f h =
    let p = taken_by closed shape law make words rest b f h in
    record { values = p.values; are = p.are; spelled = p.spelled; make_it = p.make_it }

name-found : {N B : Type 0} (row_of : N → Form B) (names : List (List ℕ × N))
    → AllByRecursion (λ row. row.0 ≡ name_of (row_of row.1)) names
    → (word : List ℕ) (name : N) → lookup (bytes_eq word) names ≡ Some name → word ≡ name_of (row_of name)
name-found row_of [] h word name is = cc is
name-found row_of (row ∷ names) h word name is =
    elim (bytes_eq word row.0) as (λ t. bytes_eq word row.0 ≡ t
    → cond t (Some row.1) (lookup (bytes_eq word) names) ≡ Some name → word ≡ name_of (row_of name)) [
      | true ↦ λ e here. (bytes_eq-Decides word row.0).0 e ∙ h.0 ∙ ap (λ name. name_of (row_of name)) (cc here)
      | false ↦ λ e after. name-found row_of names h.1 word name after
    ] refl is

table-spelled : (closed : Bool) {N B : Type 0} (table : Table N B) (parts : B → Parts N B table)
    → IsTable closed N B table parts
    → (words rest : List (List ℕ)) (b : B) → MayFollow closed rest → take_form table words ≡ Some (b, rest)
    → (words ≡ words_of_parts table (parts b) ++ rest) × AreParts table (parts b)
table-spelled closed table parts law [] rest b f h = cc h
table-spelled closed {N} {B} table parts law (word ∷ words) rest b f h =
    let p = and_then_some (λ name. takes (table.row name) words) (lookup (bytes_eq word) table.names) (b, rest) h in
    let row = law.rows p.0 in
    let q = taken_from closed (table.row p.0) row.0 words rest b f p.2 in
    let own : Parts N B table = these p.0 q.values in
    let same : own ≡ parts b = sym (row.3 q.values) ∙ ap parts q.make_it in
    let are : AreParts table own = q.are in
    let here : (word ∷ words) ≡ words_of_parts table own ++ rest =
    ap (λ (word : List ℕ). word ∷ words) (name-found table.row table.names law.names word p.0 p.1)
    ∙ ap (λ (words : List (List ℕ)). name_of (table.row p.0) ∷ words) q.spelled in
    (here ∙ ap (λ own. words_of_parts table own ++ rest) same, subst (AreParts table) same are)

-- the words of parts are taken back
parts-taken : (closed : Bool) {N B : Type 0} (table : Table N B) (parts : B → Parts N B table)
    → ((name : N) → IsRow closed table parts name)
    → (p : Parts N B table) → AreParts table p → (rest : List (List ℕ)) → MayFollow closed rest
    → take_form table (words_of_parts table p ++ rest) ≡ Some (makes_parts table p, rest)
parts-taken closed table parts rows (these name values) h rest f = grind (arith, common_steps, takes-words) steps 20000

parts-unbroken : (closed : Bool) {N B : Type 0} (table : Table N B) (parts : B → Parts N B table)
    → ((name : N) → IsRow closed table parts name)
    → (p : Parts N B table) → AreParts table p → AreUnbroken (words_of_parts table p)
parts-unbroken closed table parts rows (these name values) h =
    ((rows name).1, unbroken_by closed (shape_of (table.row name)) (rows name).0 values h)

-- a table is a kind
pub form_of-is : (closed : Bool) {N B : Type 0} (table : Table N B) (parts : B → Parts N B table)
    → IsTable closed N B table parts
    → IsKind B (form_of table parts) closed
form_of-is closed table parts law = record {
  taken = λ b h rest f. parts-taken closed table parts law.rows (parts b) h rest f
      ∙ ap (λ b. Some (b, rest)) (law.made_of b);
  spelled = λ words rest b f h. table-spelled closed table parts law words rest b f h;
  unbroken = λ b h. parts-unbroken closed table parts law.rows (parts b) h;
}

-- ---- kinds

word_spelled : {A : Type 0} (Is : A → Type 0) (text : A → List ℕ) (value_in : List ℕ → Option A)
    → ((word : List ℕ) (value : A) → value_in word ≡ Some value → (word ≡ text value) × Is value)
    → (words rest : List (List ℕ)) (value : A) → take_word value_in words ≡ Some (value, rest)
    → (words ≡ (text value ∷ []) ++ rest) × Is value
word_spelled Is text value_in one [] rest value h = cc h
word_spelled Is text value_in one (word ∷ words) rest value h =
    let p = option_map_some (λ value. (value, words)) (value_in word) (value, rest) h in
    let same = pair_same (p.0, words) (value, rest) p.2 in
    let q = one word value (p.1 ∙ ap Some same.0) in
    (rw (q.0, same.1) refl, q.1)

-- a word that is read back, is the one spelling of what it spells, and has no blank
pub record IsToken (A : Type 0) (Is : A → Type 0) (text : A → List ℕ) (value_in : List ℕ → Option A) : Type 0 where
  pub read : (value : A) → Is value → value_in (text value) ≡ Some value
  pub one : (word : List ℕ) (value : A) → value_in word ≡ Some value → (word ≡ text value) × Is value
  pub unbroken : (value : A) → Is value → is_unbroken (text value) ≡ true

-- a kind of one word
pub one_word-is : {A : Type 0} (Is : A → Type 0) (text : A → List ℕ) (value_in : List ℕ → Option A)
    → IsToken A Is text value_in → (closed : Bool) → IsKind A (one_word Is text value_in) closed
one_word-is {A} Is text value_in token closed = record {
  taken = λ value h rest f. ap (option_map (λ (value : A). (value, rest))) (token.read value h);
  spelled = λ words rest value f h. word_spelled Is text value_in token.one words rest value h;
  unbroken = λ value h. (token.unbroken value h, tt);
}

-- some kinds one after another
pub run_of-is : (closed : Bool) {B : Type 0} (shape : Shape) (make : Make shape B) (values : B → Values shape)
    → IsLawful closed shape
    → ((b : B) → made shape make (values b) ≡ b) → ((v : Values shape) → values (made shape make v) ≡ v)
    → IsKind B (run_of shape make values) closed
run_of-is closed {B} shape make values law back forth = record {
  taken = λ b h rest f. take_by-words closed shape law make (values b) h rest f ∙ ap (λ b. Some (b, rest)) (back b);
  spelled = λ words rest b f h.
      let p = taken_by closed shape law make words rest b f h in
      grind (arith, common_steps) steps 20000;
  unbroken = λ b h. unbroken_by closed shape law (values b) h;
}

-- ---- a value that may be missing

-- each value of a kind has a word
abbrev pub HasWord : {A : Type 0} → Kind A → Type 0
HasWord {A} kind = (value : A) → is_end (kind.words value) ≡ false

some_taken : {A : Type 0} (kind : Kind A) (words : List (List ℕ)) (value : A) → is_end words ≡ false
    → kind.take words ≡ Some (value, []) → take_optional kind words ≡ Some (Some value, [])
some_taken kind words value some h = grind (arith, common_steps) steps 20000

optional-taken : {A : Type 0} (kind : Kind A) → IsKind A kind false → HasWord kind
    → (value : Option A) → IsOptional kind value → take_optional kind (optional_words kind value) ≡ Some (value, [])
optional-taken kind law some None h = refl
optional-taken kind law some (Some value) h =
    some_taken kind (kind.words value) value (some value)
    (ap kind.take (sym (append-nil (kind.words value))) ∙ law.taken value h [] refl)

optional-spelled : {A : Type 0} (kind : Kind A) → IsKind A kind false
    → (words rest : List (List ℕ)) (value : Option A) → rest ≡ [] → take_optional kind words ≡ Some (value, rest)
    → (words ≡ optional_words kind value ++ rest) × IsOptional kind value
optional-spelled {A} kind law [] rest value f h = grind (arith, common_steps, some_pair) steps 20000
optional-spelled {A} kind law (word ∷ words) rest value f h =
    let p = option_map_some (λ taken. (Some taken.0, taken.1)) (kind.take (word ∷ words)) (value, rest) h in
    let same = pair_same (Some p.0.0, p.0.1) (value, rest) p.2 in
    let q = law.spelled (word ∷ words) p.0.1 p.0.0 (same.1 ∙ f) p.1 in
    grind (arith, common_steps) steps 20000

optional-unbroken : {A : Type 0} (kind : Kind A) → IsKind A kind false → (value : Option A) → IsOptional kind value
    → AreUnbroken (optional_words kind value)
optional-unbroken kind law value h = grind (arith, common_steps) steps 20000

pub optional-is : {A : Type 0} (kind : Kind A) → IsKind A kind false → HasWord kind
    → IsKind (Option A) (optional kind) false
optional-is kind law some = record {
  taken = grind (arith, common_steps, append-nil, optional-taken) steps 20000;
  spelled = optional-spelled kind law;
  unbroken = optional-unbroken kind law;
}

-- ---- bytes

no_blank : (words : List (List ℕ)) → AreUnbroken words → AllByRecursion HasNoBlank words
no_blank [] h = tt
no_blank (word ∷ words) h = (HasNoBlank-from_test word h.0, no_blank words h.1)

whole_some : {B : Type 0} (taken : Option (B × List (List ℕ))) (b : B) → whole taken ≡ Some b → taken ≡ Some (b, [])
whole_some taken b h = grind (arith, common_steps) steps 20000

words-back : {N B : Type 0} (table : Table N B) (p : Parts N B table) → AreUnbroken (words_of_parts table p)
    → words_of (line_of_words (words_of_parts table p)) ≡ words_of_parts table p
words-back table (these name values) h = grind (arith, common_steps, words_of-line, no_blank) steps 20000

-- what a table's words are read as
pub whole-words : {N B : Type 0} (table : Table N B) (parts : B → Parts N B table) → IsTable false N B table parts
    → (b : B) → AreParts table (parts b)
    → whole (take_form table (words_of (line_of_words (words_of_parts table (parts b))))) ≡ Some b
whole-words table parts is b h =
    let law = form_of-is false table parts is in
    ap (λ words. whole (take_form table words))
    (words-back table (parts b) (law.unbroken b h) ∙ sym (append-nil (words_of_parts table (parts b))))
    ∙ ap whole (law.taken b h [] refl)

-- what is read is a table's words
pub words-whole : {N B : Type 0} (table : Table N B) (parts : B → Parts N B table) → IsTable false N B table parts
    → (bytes : List ℕ) (b : B) → whole (take_form table (words_of bytes)) ≡ Some b
    → (bytes ≡ line_of_words (words_of_parts table (parts b))) × AreParts table (parts b)
words-whole table parts is bytes b h =
    let law = form_of-is false table parts is in
    let p = law.spelled (words_of bytes) [] b refl (whole_some (take_form table (words_of bytes)) b h) in
    (sym (line-words_of bytes) ∙ ap line_of_words (p.0 ∙ append-nil (words_of_parts table (parts b))), p.1)

-- ---- a form of one table as a form of another

mapped-taken_by : (shape : Shape) {B C : Type 0} (f : B → C) (make : Make shape B) (words rest : List (List ℕ)) (b : B)
    → take_by shape make words ≡ Some (b, rest) → take_by shape (mapped_make shape f make) words ≡ Some (f b, rest)
mapped-taken_by ends f make words rest b h = grind (arith, common_steps, some_pair) steps 20000
mapped-taken_by (kind ▸ shape) f make words rest b h =
    let p = and_then_some (λ taken. take_by shape (make taken.0) taken.1) (kind.take words) (b, rest) h in
    rw p.1 (mapped-taken_by shape f (make p.0.0) p.0.1 rest b p.2)

-- what a form takes, the mapped form takes with something made of it
pub mapped-taken : {B C : Type 0} (f : B → C) (row : Form B) (words rest : List (List ℕ)) (b : B)
    → takes row words ≡ Some (b, rest) → takes (mapped_form f row) words ≡ Some (f b, rest)
mapped-taken f (named name shape make) words rest b h = mapped-taken_by shape f make words rest b h
