-- What an image spells is read, and how the reader goes on.
use Rattle.gate_journal.proofs.Words.{◌≡◌, ◌<◌, ◌≤◌, ◌+◌, ℕ, zero, suc, true, false, leb, List, [], ◌∷◌, ◌++◌, length, take, drop, Some, None, Result, Ok, Err, refl, sym, ◌∙◌, ap, arith, append_assoc, length-append, length-drop, w32, to_be_bytes, from_be_bytes, All, le-leb, nat_tests, take_at, drop_at, append-nil, All-head, All-tail, common_steps, is_open, begins_open, most, mark, spelled_record, spelled_records, body_in, with_first, records_from, journal_in, SpelledIsRead}
use Rattle.std.proofs.lemmas.Nat.{from_be_bytes-to_be_bytes_4}
use Rattle.plasma_base.specs.Fields.{field_at}

abbrev pub Fits : List (List ℕ) → Type 0
Fits records = All (λ body. length body ≤ most) records

-- a body behind a field that holds its length is the body that is read
pub body_in-field : (field body rest : List ℕ) → length field ≡ 4 → from_be_bytes w32 field ≡ length body
    → length body ≤ most
    → body_in (field ++ body ++ rest) ≡ Some body
body_in-field field body rest four holds fits =
    let all = field ++ body ++ rest in
    let split : all ≡ field ++ (body ++ rest) = append_assoc field body rest in
    let len : length all ≡ 4 + length body + length rest =
    omega (arith, length-append (field ++ body) rest, length-append field body, four) in
    let begins : leb 4 (length all) ≡ true = le-leb _ _ (omega (arith, len)) in
    let small : leb (length body) most ≡ true = le-leb _ _ fits in
    let within : leb (4 + length body) (length all) ≡ true = le-leb _ _ (omega (arith, len)) in
    let front : take 4 all ≡ field =
    ap (λ (l : List ℕ). take 4 l) split ∙ take_at field (body ++ rest) 4 four in
    let back : drop 4 all ≡ body ++ rest =
    ap (λ (l : List ℕ). drop 4 l) split ∙ drop_at field (body ++ rest) 4 four in
    let count : field_at w32 all 0 ≡ Some (length body) =
    rw begins (ap (λ (l : List ℕ). Some (from_be_bytes w32 l)) front ∙ ap (λ (n : ℕ). Some n) holds) in
    rw count (grind (arith, common_steps, take_at) steps 20000)

-- the field that a length is spelled by holds it
pub holds-length : (body : List ℕ) → length body ≤ most
    → from_be_bytes w32 (to_be_bytes w32 (length body)) ≡ length body
holds-length body fits = from_be_bytes-to_be_bytes_4 (length body) (omega (arith, fits))

-- the body that was spelled is the body that is read
body_in-spelled : (body rest : List ℕ) → length body ≤ most
    → body_in (to_be_bytes w32 (length body) ++ body ++ rest) ≡ Some body
body_in-spelled body rest fits =
    body_in-field (to_be_bytes w32 (length body)) body rest refl (holds-length body fits) fits

-- the records that were read, with more behind
abbrev pub with_front : List (List ℕ) → Result (List (List ℕ)) ℕ → Result (List (List ℕ)) ℕ
with_front records (Ok more) = Ok (records ++ more)
with_front records (Err place) = Err place

-- one record more is read
pub records_from-record : (gates place : ℕ) (bytes body : List ℕ) → body_in bytes ≡ Some body
    → records_from (suc gates) place (165 ∷ bytes) ≡ with_first body
    (records_from gates (place + 5 + length body) (drop (4 + length body) bytes))
unfolding records_from
records_from-record gates place bytes body is = rw is refl

pub records_from-end : (gates place gate : ℕ) (bytes : List ℕ) → is_open gate ≡ false
    → records_from (suc gates) place (gate ∷ bytes) ≡ Ok []
unfolding records_from
records_from-end gates place gate bytes closed = rw closed refl

pub records_from-spelled : (gates place gate : ℕ) (records : List (List ℕ)) (rest : List ℕ) → is_open gate ≡ false
    → Fits records → length (spelled_records records ++ gate ∷ rest) ≤ gates
    → records_from gates place (spelled_records records ++ gate ∷ rest) ≡ Ok records
records_from-spelled zero place gate records rest closed fits le =
    absurd (omega (arith, le, length-append (spelled_records records) (gate ∷ rest)))
records_from-spelled (suc gates) place gate [] rest closed fits le = records_from-end gates place gate rest closed
records_from-spelled (suc gates) place gate (body ∷ records) rest closed fits le =
    let head = to_be_bytes w32 (length body) in
    let more = spelled_records records ++ gate ∷ rest in
    let bytes = head ++ body ++ more in
    let is : spelled_records (body ∷ records) ++ gate ∷ rest ≡ 165 ∷ bytes =
    append_assoc (spelled_record body) (spelled_records records) (gate ∷ rest) in
    let body_fits = All-head (λ b. length b ≤ most) body records fits in
    let after : drop (4 + length body) bytes ≡ more =
    drop_at (head ++ body) more (4 + length body) (length-append head body) in
    let len : length (spelled_records (body ∷ records) ++ gate ∷ rest) ≡ 5 + length body + length more =
    ap length is ∙ omega (arith, length-append (head ++ body) more, length-append head body) in
    let again = records_from-spelled gates (place + 5 + length body) gate records rest closed
    (All-tail (λ b. length b ≤ most) body records fits) (omega (arith, le, len)) in
    ap (λ (l : List ℕ). records_from (suc gates) place l) is
    ∙ records_from-record gates place bytes body (body_in-spelled body more body_fits)
    ∙ ap (λ (l : List ℕ). with_first body (records_from gates (place + 5 + length body) l)) after
    ∙ ap (with_first body) again

pub journal_in-mark : (bytes : List ℕ) → journal_in (mark ++ bytes) ≡ records_from (length bytes + 1) 4 bytes
journal_in-mark bytes = refl

pub spelled_is_read : SpelledIsRead
spelled_is_read image records kept = grind (arith, common_steps, journal_in-mark, records_from-spelled) steps 20000

pub is_165 : (gate : ℕ) → is_open gate ≡ true → gate ≡ 165
is_165 gate is = grind (arith, nat_tests)

pub records_from-none : (gates place : ℕ) (bytes : List ℕ) → body_in bytes ≡ None
    → records_from (suc gates) place (165 ∷ bytes) ≡ Err place
unfolding records_from
records_from-none gates place bytes is = rw is refl

pub records_from-empty : (gates place : ℕ) → records_from gates place [] ≡ Err place
unfolding records_from
records_from-empty zero place = refl
records_from-empty (suc gates) place = refl

pub records_from-zero : (place : ℕ) (bytes : List ℕ) → records_from zero place bytes ≡ Err place
unfolding records_from
records_from-zero place bytes = refl

pub with_front-push : (records : List (List ℕ)) (body : List ℕ) (r : Result (List (List ℕ)) ℕ)
    → with_front records (with_first body r) ≡ with_front (records ++ body ∷ []) r
with_front-push records body (Ok more) = ap (λ (l : List (List ℕ)). Ok l) (sym (append_assoc records (body ∷ []) more))
with_front-push records body (Err place) = refl

-- the three turns of the reader
pub read_record : (gates place : ℕ) (bytes body : List ℕ) → begins_open bytes ≡ true
    → body_in (drop 1 bytes) ≡ Some body
    → records_from (suc gates) place bytes ≡ with_first body
    (records_from gates (place + 5 + length body) (drop (5 + length body) bytes))
read_record gates place [] body open_gate is = absurd (cc (open_gate))
read_record gates place (gate ∷ bytes) body open_gate is =
    let at : gate ≡ 165 = is_165 gate open_gate in
    let step : suc (4 + length body) ≡ 5 + length body = omega arith in
    grind (arith, common_steps, records_from-record) steps 20000

pub read_nothing : (gates place : ℕ) (bytes : List ℕ) → begins_open bytes ≡ true → body_in (drop 1 bytes) ≡ None
    → records_from (suc gates) place bytes ≡ Err place
read_nothing gates place [] open_gate is = absurd (cc (open_gate))
read_nothing gates place (gate ∷ bytes) open_gate is =
    ap (λ (g : ℕ). records_from (suc gates) place (g ∷ bytes)) (is_165 gate open_gate)
    ∙ records_from-none gates place bytes is

pub read_end : (gates place : ℕ) (bytes : List ℕ) → begins_open bytes ≡ false → 0 < length bytes
    → records_from (suc gates) place bytes ≡ Ok []
read_end gates place [] closed some = absurd (omega (arith, some))
read_end gates place (gate ∷ bytes) closed some = records_from-end gates place gate bytes closed

-- what was read so far, and what is left to read
abbrev pub ReadsOn : Result (List (List ℕ)) ℕ → List (List ℕ) → ℕ → List ℕ → Type 0
ReadsOn all records place bytes =
    (gates : ℕ) × (length bytes < gates) × (all ≡ with_front records (records_from gates place bytes))

pub on_record : (all : Result (List (List ℕ)) ℕ) (records : List (List ℕ)) (place next : ℕ) (bytes body rest : List ℕ)
    → ReadsOn all records place bytes → begins_open bytes ≡ true → body_in (drop 1 bytes) ≡ Some body
    → next ≡ place + (5 + length body) → rest ≡ drop (5 + length body) bytes
    → ReadsOn all (records ++ body ∷ []) next rest
on_record all records place next bytes body rest (zero, lt, is) open_gate body_is next_is rest_is =
    absurd (omega (arith, lt))
on_record all records place next bytes body rest (suc gates, lt, is) open_gate body_is next_is rest_is =
    let there : next ≡ place + 5 + length body = omega (arith, next_is) in
    let some : 0 < length bytes = not_empty bytes open_gate in (
      gates,
      omega (arith, lt, some, ap length rest_is, length-drop (5 + length body) bytes),
      is ∙ ap (with_front records) (read_record gates place bytes body open_gate body_is)
          ∙ with_front-push records body _
          ∙ sym (λ i. with_front (records ++ body ∷ []) (records_from gates (there i) (rest_is i))),
    )
  where
    not_empty : (bytes : List ℕ) → begins_open bytes ≡ true → 0 < length bytes
    not_empty [] open_gate = absurd (cc (open_gate))
    not_empty (gate ∷ bytes) open_gate = omega arith

pub on_nothing : (all : Result (List (List ℕ)) ℕ) (records : List (List ℕ)) (place : ℕ) (bytes : List ℕ)
    → ReadsOn all records place bytes → begins_open bytes ≡ true → body_in (drop 1 bytes) ≡ None → all ≡ Err place
on_nothing all records place bytes (zero, lt, is) open_gate none = absurd (omega (arith, lt))
on_nothing all records place bytes (suc gates, lt, is) open_gate none =
    is ∙ ap (with_front records) (read_nothing gates place bytes open_gate none)

pub on_empty : (all : Result (List (List ℕ)) ℕ) (records : List (List ℕ)) (place : ℕ) (bytes : List ℕ)
    → ReadsOn all records place bytes → length bytes ≡ 0 → all ≡ Err place
on_empty all records place [] (gates, lt, is) none = is ∙ ap (with_front records) (records_from-empty gates place)
on_empty all records place (gate ∷ bytes) read none = absurd (omega (arith, none))

pub on_end : (all : Result (List (List ℕ)) ℕ) (records : List (List ℕ)) (place : ℕ) (bytes : List ℕ)
    → ReadsOn all records place bytes → begins_open bytes ≡ false → 0 < length bytes → all ≡ Ok records
on_end all records place bytes (zero, lt, is) closed some = absurd (omega (arith, lt))
on_end all records place bytes (suc gates, lt, is) closed some =
    grind (arith, common_steps, read_end, append-nil) steps 20000
