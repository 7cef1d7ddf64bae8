-- An image that was read, as the bytes that its records take, a closed gate and a rest.
use Rattle.gate_journal.proofs.Words.{◌≡◌, ◌⊎◌, ◌<◌, ◌≤◌, ◌+◌, ◌^◌, ℕ, zero, suc, Bool, true, false, leb, eqb, ◌&&◌, List, [], ◌∷◌, ◌++◌, length, take, drop, Option, Some, None, Result, Ok, Err, refl, sym, ◌∙◌, ap, subst, inl, inr, arith, append_assoc, length-append, length-take, length-drop, take-append-drop, w32, to_be_bytes, from_be_bytes, All, result_ok, leb-true, eqb-true, drop_at, append-nil, drop-drop, All-nil, All-push, All-head, All-tail, All-cons, common_steps, is_open, most, mark, spelled_record, spelled_records, spelled, body_in, with_first, records_from, journal_in, kept_records, ReadIsSpelled, Keeps}
use Rattle.gate_journal.proofs.Read.{Fits, body_in-field, holds-length, with_front, records_from-record, records_from-end, records_from-empty, records_from-zero, records_from-none, is_165, journal_in-mark, ReadsOn, on_record, on_end}
use Rattle.gate_journal.proofs.Spelling.{spelled-push, length-spelled-push}

either_way : (b : Bool) → (b ≡ true) ⊎ (b ≡ false)
either_way true = inl refl
either_way false = inr refl

or_none : {A : Type 0} (o : Option A) → (o ≡ None) ⊎ ((a : A) × (o ≡ Some a))
or_none None = inl refl
or_none (Some a) = inr (a, refl)

-- what is known of a body that was read
pub record IsBody (bytes body : List ℕ) : Type 0 where
  pub fits : length body ≤ most
  pub within : 4 + length body ≤ length bytes
  pub is : body ≡ take (length body) (drop 4 bytes)
  pub count : from_be_bytes w32 (take 4 bytes) ≡ length body

both : (a b : Bool) → (a && b) ≡ true → (a ≡ true) × (b ≡ true)
both true b is = (refl, is)
both false b is = absurd (cc (is))

pub body_in-parts : (bytes body : List ℕ) → body_in bytes ≡ Some body → IsBody bytes body
body_in-parts bytes body is = elim (either_way (leb 4 (length bytes))) [
  | inr short ↦
      grind (arith, common_steps) steps 20000
  | inl four ↦
      let count = from_be_bytes w32 (take 4 bytes) in
      elim (either_way (leb count most && leb (4 + count) (length bytes))) [
        | inr out ↦
            grind (arith, common_steps) steps 20000
        | inl in' ↦
            let some : body_in bytes ≡ Some (take count (drop 4 bytes)) = rw four (rw in' refl) in
            let tests = both _ _ in' in
            let same : take count (drop 4 bytes) ≡ body = cc (some, is) in
            let small = leb-true count most tests.0 in
            let within = leb-true (4 + count) (length bytes) tests.1 in
            let len : count ≡ length body =
            omega (arith, ap length same, length-take count (drop 4 bytes), length-drop 4 bytes, within) in
            grind (arith, common_steps) steps 20000
      ]
]

-- the four bytes of a number that they spell
four_bytes : (a b c d : ℕ) → a < 2 ^ 8 → b < 2 ^ 8 → c < 2 ^ 8 → d < 2 ^ 8
    → to_be_bytes w32 (from_be_bytes w32 (a ∷ b ∷ c ∷ d ∷ [])) ≡ a ∷ b ∷ c ∷ d ∷ []
four_bytes a b c d la lb lc ld = grind (arith, common_steps) steps 20000

-- a field of bytes is the spelling of the number that it holds
field_is : (field : List ℕ) → length field ≡ 4 → All (λ byte. byte < 2 ^ 8) field
    → to_be_bytes w32 (from_be_bytes w32 field) ≡ field
field_is (a ∷ b ∷ c ∷ d ∷ []) four all =
    let P : ℕ → Type 0 = λ byte. byte < 2 ^ 8 in
    let r1 = All-tail P a (b ∷ c ∷ d ∷ []) all in
    let r2 = All-tail P b (c ∷ d ∷ []) r1 in
    let r3 = All-tail P c (d ∷ []) r2 in
    four_bytes a b c d (All-head P a (b ∷ c ∷ d ∷ []) all) (All-head P b (c ∷ d ∷ []) r1) (All-head P c (d ∷ []) r2)
    (All-head P d [] r3)
field_is [] four all = absurd (omega (arith, four))
field_is (a ∷ []) four all = absurd (omega (arith, four))
field_is (a ∷ b ∷ []) four all = absurd (omega (arith, four))
field_is (a ∷ b ∷ c ∷ []) four all = absurd (omega (arith, four))
field_is (a ∷ b ∷ c ∷ d ∷ e ∷ more) four all = absurd (omega (arith, four))

with_first-ok : (body : List ℕ) (r : Result (List (List ℕ)) ℕ) (records : List (List ℕ))
    → with_first body r ≡ Ok records → (more : List (List ℕ)) × (r ≡ Ok more) × (records ≡ body ∷ more)
with_first-ok body (Ok more) records is = (more, refl, cc (is))
with_first-ok body (Err place) records is = absurd (cc (is))

ok_of : (r : Result (List (List ℕ)) ℕ) (records : List (List ℕ)) → result_ok r ≡ Some records → r ≡ Ok records
ok_of (Ok more) records is = ap (λ (l : List (List ℕ)). Ok l) (cc (is))
ok_of (Err place) records is = absurd (cc (is))

begins-with : (p g j one : ℕ) → (eqb p 80 && eqb g 71 && eqb j 74 && eqb one 49) ≡ true → p ∷ g ∷ j ∷ one ∷ [] ≡ mark
begins-with p g j one is = grind (arith, common_steps, both, eqb-true) steps 20000

-- the records are read of these bytes, whatever follows them
abbrev pub IsFront : List ℕ → List (List ℕ) → Type 0
IsFront front records = (bytes : List ℕ) → ReadsOn (journal_in (front ++ bytes)) records (length front) bytes

front-mark : IsFront mark []
front-mark bytes = grind (arith, common_steps, journal_in-mark, with_front) steps 20000

-- a record behind them is read too
pub front-record : (front : List ℕ) (records : List (List ℕ)) (field body : List ℕ) → IsFront front records
    → length field ≡ 4 → from_be_bytes w32 field ≡ length body → length body ≤ most
    → IsFront (front ++ 165 ∷ (field ++ body)) (records ++ body ∷ [])
front-record front records field body reads four holds fits bytes =
    let more = 165 ∷ (field ++ body ++ bytes) in
    let split : (front ++ 165 ∷ (field ++ body)) ++ bytes ≡ front ++ more =
    append_assoc front (165 ∷ (field ++ body)) bytes in
    let next : length (front ++ 165 ∷ (field ++ body)) ≡ length front + (5 + length body) =
    omega (arith, length-append front (165 ∷ (field ++ body)), length-append field body, four) in
    let step : suc (4 + length body) ≡ 5 + length body = omega arith in
    let rest : bytes ≡ drop (5 + length body) more = grind (arith, common_steps, drop_at) steps 20000 in
    let is = on_record (journal_in (front ++ more)) records (length front) _ more body bytes (reads more) refl
    (body_in-field field body bytes four holds fits) next rest in
    subst (λ (b : List ℕ). ReadsOn (journal_in b) (records ++ body ∷ [])
    (length (front ++ 165 ∷ (field ++ body))) bytes) (sym split) is

-- a closed gate behind them ends the records
pub front-keeps : (front : List ℕ) (records : List (List ℕ)) (gate : ℕ) (rest : List ℕ) → IsFront front records
    → is_open gate ≡ false → Keeps records (front ++ gate ∷ rest)
front-keeps front records gate rest reads closed =
    ap result_ok (on_end (journal_in (front ++ gate ∷ rest)) records (length front) (gate ∷ rest)
    (reads (gate ∷ rest)) closed (omega arith))

abbrev AreBytes : List ℕ → Type 0
AreBytes bytes = All (λ byte. byte < 2 ^ 8) bytes

module _ (P : ℕ → Type 0) where
  front_all : (front back : List ℕ) → All P (front ++ back) → All P front
  front_all [] back all = All-nil P
  front_all (b ∷ front) back all =
      All-cons P b front (All-head P b (front ++ back) all) (front_all front back (All-tail P b (front ++ back) all))

  back_all : (front back : List ℕ) → All P (front ++ back) → All P back
  back_all [] back all = all
  back_all (b ∷ front) back all = back_all front back (All-tail P b (front ++ back) all)

-- bytes that were read as these records
pub record IsRead (front : List ℕ) (records : List (List ℕ)) : Type 0 where
  pub fits : Fits records
  pub reads : IsFront front records
  pub place : length front ≡ length (spelled records)
  pub spells : AreBytes front → front ≡ spelled records

-- an image of which these records were read
pub record Fronts (image : List ℕ) (records : List (List ℕ)) : Type 0 where
  pub front : List ℕ
  pub gate : ℕ
  pub rest : List ℕ
  pub is : image ≡ front ++ gate ∷ rest
  pub closed : is_open gate ≡ false
  pub read : IsRead front records

-- one record more was read
pub read_more : (front : List ℕ) (records : List (List ℕ)) (field body : List ℕ) → IsRead front records
    → length field ≡ 4 → from_be_bytes w32 field ≡ length body → length body ≤ most
    → IsRead (front ++ 165 ∷ (field ++ body)) (records ++ body ∷ [])
read_more front records field body read four holds fits = record {
  fits = All-push (λ b. length b ≤ most) records body read.fits fits;
  reads = front-record front records field body read.reads four holds fits;
  place = grind (arith, common_steps, length-spelled-push) steps 20000;
  spells = λ all.
      let P : ℕ → Type 0 = λ byte. byte < 2 ^ 8 in
      let behind = All-tail P 165 (field ++ body) (back_all P front (165 ∷ (field ++ body)) all) in
      let spelling : field ≡ to_be_bytes w32 (length body) =
      sym (field_is field four (front_all P field body behind)) ∙ ap (λ (n : ℕ). to_be_bytes w32 n) holds in
      (λ i. read.spells (front_all P front (165 ∷ (field ++ body)) all) i ++ 165 ∷ (spelling i ++ body))
      ∙ sym (spelled-push records body);
}

-- the records that are read from a gate on, behind those that were read before it
fronts_from : (gates place : ℕ) (front : List ℕ) (records : List (List ℕ)) (bytes : List ℕ) (more : List (List ℕ))
    → IsRead front records → records_from gates place bytes ≡ Ok more → Fronts (front ++ bytes) (records ++ more)
fronts_from gates place front records [] more read is = absurd (cc (records_from-empty gates place, is))
fronts_from zero place front records (gate ∷ bytes) more read is =
    absurd (cc (records_from-zero place (gate ∷ bytes), is))
fronts_from (suc gates) place front records (gate ∷ bytes) more read is = elim (either_way (is_open gate)) [
  | inr closed ↦
      grind (arith, common_steps, records_from-end, append-nil) steps 20000
  | inl open_gate ↦
      let at : gate ≡ 165 = is_165 gate open_gate in
      let here : records_from (suc gates) place (165 ∷ bytes) ≡ Ok more =
      ap (λ (g : ℕ). records_from (suc gates) place (g ∷ bytes)) (sym at) ∙ is in
      elim (or_none (body_in bytes)) [
        | inl none ↦ absurd (cc (records_from-none gates place bytes none, here))
        | inr some ↦
            let body = some.0 in
            let part = body_in-parts bytes body some.1 in
            let field = take 4 bytes in
            let behind = drop (4 + length body) bytes in
            let j = with_first-ok body _ more (sym (records_from-record gates place bytes body some.1) ∙ here) in
            let next = read_more front records field body read
            (omega (arith, length-take 4 bytes, part.within)) part.count part.fits in
            let again = fronts_from gates (place + 5 + length body) (front ++ 165 ∷ (field ++ body))
            (records ++ body ∷ []) behind j.0 next j.1 in
            let tail : drop 4 bytes ≡ body ++ behind =
            sym (take-append-drop (length body) (drop 4 bytes))
            ∙ (let back = sym part.is in λ i. back i ++ drop-drop (length body) 4 bytes i) in
            let whole : (field ++ body) ++ behind ≡ bytes =
            append_assoc field body behind ∙ ap (λ (l : List ℕ). field ++ l) (sym tail) ∙ take-append-drop 4 bytes in
            let image : (front ++ 165 ∷ (field ++ body)) ++ behind ≡ front ++ gate ∷ bytes =
            append_assoc front (165 ∷ (field ++ body)) behind ∙ (λ i. front ++ sym at i ∷ whole i) in
            let all : (records ++ body ∷ []) ++ j.0 ≡ records ++ more =
            append_assoc records (body ∷ []) j.0 ∙ ap (λ (l : List (List ℕ)). records ++ l) (sym j.2) in
            grind (arith, common_steps) steps 20000
      ]
]

read_none : IsRead mark []
read_none = record { fits = All-nil (λ b. length b ≤ most); reads = front-mark; place = refl; spells = λ all. refl }

-- what was read of an image
pub fronts : (image : List ℕ) (records : List (List ℕ)) → Keeps records image → Fronts image records
fronts [] records is = absurd (cc (is))
fronts (p ∷ []) records is = absurd (cc (is))
fronts (p ∷ g ∷ []) records is = absurd (cc (is))
fronts (p ∷ g ∷ j ∷ []) records is = absurd (cc (is))
fronts (p ∷ g ∷ j ∷ one ∷ bytes) records is = elim (either_way (eqb p 80 && eqb g 71 && eqb j 74 && eqb one 49)) [
  | inr out ↦
      grind (arith, common_steps) steps 20000
  | inl begins ↦
      let some : kept_records (p ∷ g ∷ j ∷ one ∷ bytes) ≡ result_ok (records_from (length bytes + 1) 4 bytes) =
      rw begins refl in
      let here = fronts_from (length bytes + 1) 4 mark [] bytes records read_none (ok_of _ _ (sym some ∙ is)) in
      subst (λ (b : List ℕ). Fronts b records)
      (ap (λ (m : List ℕ). m ++ bytes) (sym (begins-with p g j one begins))) here
]

pub read_is_spelled : ReadIsSpelled
read_is_spelled image records all is =
    let f = fronts image records is in
    let same = f.read.spells (front_all (λ byte. byte < 2 ^ 8) f.front (f.gate ∷ f.rest) (subst AreBytes f.is all)) in
    record {
      gate = f.gate;
      rest = f.rest;
      is = f.is ∙ ap (λ (b : List ℕ). b ++ f.gate ∷ f.rest) same;
      closed = f.closed;
      fits = f.read.fits;
    }

-- the spelling of records is read as them
pub spelled_read : (records : List (List ℕ)) → Fits records → IsRead (spelled records) records
spelled_read records fits = from mark [] records read_none fits
  where
    from : (front : List ℕ) (done more : List (List ℕ)) → IsRead front done → Fits more
        → IsRead (front ++ spelled_records more) (done ++ more)
    from front done [] read fits = grind (arith, common_steps, append-nil) steps 20000
    from front done (body ∷ more) read fits =
        let body_fits = All-head (λ b. length b ≤ most) body more fits in
        let next = read_more front done (to_be_bytes w32 (length body)) body read refl
        (holds-length body body_fits) body_fits in
        let again = from (front ++ spelled_record body) (done ++ body ∷ []) more next
        (All-tail (λ b. length b ≤ most) body more fits) in
        grind (arith, common_steps) steps 20000
