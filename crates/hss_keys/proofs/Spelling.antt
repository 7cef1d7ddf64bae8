-- What records spell.
use Rattle.hss_keys.proofs.Words.{◌≡◌, ℕ, ◌+◌, ◌-◌, ◌^◌, ◌<◌, ◌≤◌, Bool, true, cond, List, [], ◌∷◌, ◌++◌, length, take, drop, get_or, Some, None, refl, sym, ◌∙◌, ap, inl, inr, arith, append_assoc, length-append, length-take, length-drop, ◌⊎◌, All, cases_lt, and_parts, eqb-true, le-leb, leb-true, get_or_past, take_at, drop_at, take-append-drop, drop-drop, All-drop, All-get_or, All-take, same_Some, common_steps, u32str, u32_at, length-u32str, Entry, Opens, Binds, entry_text, entry_in, is_opening, is_binding, EntriesAreReadBack, EntriesHaveOneSpelling, IsEntry}
use Rattle.std.specs.Int.{w32, from_be_bytes}
use Rattle.std.proofs.lemmas.Nat.{be_bytes_4, from_be_bytes-to_be_bytes_4}

-- the middle of three parts
part-of : (before part after : List ℕ) (place size : ℕ) → length before ≡ place → length part ≡ size
    → take size (drop place (before ++ (part ++ after))) ≡ part
part-of before part after place size at whole = ap (take size) (drop_at before (part ++ after) place at)
    ∙ take_at part after size whole

-- a number by its bytes' place
pub u32_at-part : (before after : List ℕ) (n place : ℕ) → n < 2 ^ 32 → length before ≡ place
    → u32_at (before ++ (u32str n ++ after)) place ≡ n
unfolding u32_at u32str
u32_at-part before after n place small at =
    grind (arith, common_steps, part-of, from_be_bytes-to_be_bytes_4) steps 20000

reads-opening : (body : List ℕ) → get_or body 0 0 ≡ 1 → length body ≡ 61
    → entry_in body ≡ Some (Opens (u32_at body 1) (drop 5 body))
unfolding entry_in
reads-opening body mark whole = rw (whole, mark) refl

reads-binding : (body : List ℕ) → get_or body 0 0 ≡ 2 → 10 ≤ length body → length body ≤ 137
    → entry_in body ≡ Some (Binds (u32_at body 1) (u32_at body 5) (drop 9 body))
unfolding entry_in
reads-binding body mark least most = grind (arith, common_steps, le-leb) steps 20000

opening-length : (j : ℕ) (key : List ℕ) → length (1 ∷ u32str j ++ key) ≡ 5 + length key
opening-length j key = omega (arith, length-append (1 ∷ u32str j) key, length-u32str j)

binding-front : (j q : ℕ) → length (2 ∷ u32str j ++ u32str q) ≡ 9
binding-front j q = omega (arith, length-append (2 ∷ u32str j) (u32str q), length-u32str j, length-u32str q)

binding-length : (j q : ℕ) (message : List ℕ)
    → length (2 ∷ u32str j ++ u32str q ++ message) ≡ 9 + length message
binding-length j q message = omega
    (arith, length-append (2 ∷ u32str j ++ u32str q) message, binding-front j q)

pub entries_are_read_back : EntriesAreReadBack
unfolding entry_text
entries_are_read_back (Opens j key) is =
    let body = 1 ∷ u32str j ++ key in
    let number : u32_at body 1 ≡ j = u32_at-part (1 ∷ []) key j 1 is.0 refl in
    let rest : drop 5 body ≡ key = drop_at (1 ∷ u32str j) key 5 (omega (arith, length-u32str j)) in
    grind (arith, common_steps, reads-opening, opening-length) steps 20000
entries_are_read_back (Binds j q message) is =
    let body = 2 ∷ u32str j ++ u32str q ++ message in
    let split : body ≡ (2 ∷ []) ++ (u32str j ++ (u32str q ++ message)) = simp append_assoc in
    let number : u32_at body 1 ≡ j = ap (λ b. u32_at b 1) split
    ∙ u32_at-part (2 ∷ []) (u32str q ++ message) j 1 is.0 refl in
    let leaf : u32_at body 5 ≡ q = ap (λ b. u32_at b 5) (append_assoc (2 ∷ u32str j) (u32str q) message)
    ∙ u32_at-part (2 ∷ u32str j) message q 5 is.1 (omega (arith, length-u32str j)) in
    let rest : drop 9 body ≡ message = drop_at (2 ∷ u32str j ++ u32str q) message 9 (binding-front j q) in
    grind (arith, common_steps, binding-length, reads-binding) steps 20000

-- what is read of a record, by its two tests
read-cases : (opening binding : Bool) (one other entry : Entry)
    → cond opening (Some one) (cond binding (Some other) None) ≡ Some entry
    → ((opening ≡ true) × (one ≡ entry)) ⊎ ((binding ≡ true) × (other ≡ entry))
read-cases opening binding one other entry is = grind (arith, common_steps, same_Some) steps 20000

-- the parts of both tests
opening-parts : (body : List ℕ) → is_opening body ≡ true → (length body ≡ 61) × (get_or body 0 0 ≡ 1)
opening-parts body is = grind (arith, common_steps, and_parts, eqb-true) steps 20000

binding-parts : (body : List ℕ) → is_binding body ≡ true
    → (10 ≤ length body) × (length body ≤ 137) × (get_or body 0 0 ≡ 2)
binding-parts body is = grind (arith, common_steps, and_parts, leb-true, eqb-true) steps 20000

-- a record of an entry is short
pub text-short : (entry : Entry) (body : List ℕ) → entry_in body ≡ Some entry → length body ≤ 137
unfolding entry_in
text-short entry body is = elim (read-cases (is_opening body) (is_binding body) (Opens (u32_at body 1) (drop 5 body))
    (Binds (u32_at body 1) (u32_at body 5) (drop 9 body)) entry is) [
      | inl opening ↦ (let parts = opening-parts body opening.0 in omega (arith, parts.0))
      | inr binding ↦ (let parts = binding-parts body binding.0 in parts.1)
    ]

-- the bytes of a part are below 256, also past its end
part-bytes : (body : List ℕ) (place : ℕ) → All (λ byte. byte < 256) body → (i : ℕ)
    → get_or (take 4 (drop place body)) i 0 < 256
part-bytes body place bytes i =
    let part = take 4 (drop place body) in
    elim (cases_lt i (length part)) [
      | inl below ↦ All-get_or (λ byte. byte < 256) part i 0 below
          (All-take (λ byte. byte < 256) 4 (drop place body) (All-drop (λ byte. byte < 256) place body bytes))
      | inr past ↦ (let none = get_or_past part i 0 past in omega (arith, none))
    ]

part-number : (part : List ℕ) → ((i : ℕ) → get_or part i 0 < 256) → from_be_bytes w32 part < 2 ^ 32
part-number part small = omega (arith, small 0, small 1, small 2, small 3)

u32_at-is : (body : List ℕ) (place : ℕ) → u32_at body place ≡ from_be_bytes w32 (take 4 (drop place body))
unfolding u32_at
u32_at-is body place =
    let four : place + 4 - place ≡ 4 = omega arith in
    ap (λ k. from_be_bytes w32 (take k (drop place body))) four

number-small : (body : List ℕ) (place : ℕ) → All (λ byte. byte < 256) body → u32_at body place < 2 ^ 32
number-small body place bytes =
    let small = part-number (take 4 (drop place body)) (part-bytes body place bytes) in
    rw (u32_at-is body place) small

-- four bytes of a record are those of the number there
number-text : (body : List ℕ) (place : ℕ) → All (λ byte. byte < 256) body → place + 4 ≤ length body
    → u32str (u32_at body place) ≡ take 4 (drop place body)
unfolding u32str
number-text body place bytes within =
    be_bytes_4 (take 4 (drop place body)) (u32_at body place)
    (omega (arith, length-take 4 (drop place body), length-drop place body))
    (part-bytes body place bytes) (u32_at-is body place)

-- the bytes from a place on are a number and the rest
number-and-rest : (body : List ℕ) (place next : ℕ) → All (λ byte. byte < 256) body → next ≤ length body
    → next ≡ place + 4 → drop place body ≡ u32str (u32_at body place) ++ drop next body
number-and-rest body place next bytes within is =
    sym (take-append-drop 4 (drop place body))
    ∙ (λ i. sym (number-text body place bytes (omega (arith, within, is))) i
    ++ (drop-drop 4 place body ∙ ap (λ n. drop n body) (sym is)) i)

first-and-rest : (body : List ℕ) (mark : ℕ) → get_or body 0 0 ≡ mark → 0 < length body → body ≡ mark ∷ drop 1 body
first-and-rest [] mark is within = absurd (omega (arith, within))
first-and-rest (x ∷ xs) mark is within = λ i. is i ∷ xs

opening-text : (body : List ℕ) → All (λ byte. byte < 256) body → get_or body 0 0 ≡ 1 → length body ≡ 61
    → body ≡ entry_text (Opens (u32_at body 1) (drop 5 body))
unfolding entry_text
opening-text body bytes mark whole =
    first-and-rest body 1 mark (omega (arith, whole))
    ∙ ap (λ (l : List ℕ). 1 ∷ l) (number-and-rest body 1 5 bytes (omega (arith, whole)) (omega arith))

binding-text : (body : List ℕ) → All (λ byte. byte < 256) body → get_or body 0 0 ≡ 2 → 10 ≤ length body
    → body ≡ entry_text (Binds (u32_at body 1) (u32_at body 5) (drop 9 body))
unfolding entry_text
binding-text body bytes mark least =
    let front = u32str (u32_at body 1) in
    first-and-rest body 2 mark (omega (arith, least))
    ∙ ap (λ (l : List ℕ). 2 ∷ l) (number-and-rest body 1 5 bytes (omega (arith, least)) (omega arith)
    ∙ ap (λ (l : List ℕ). front ++ l) (number-and-rest body 5 9 bytes (omega (arith, least)) (omega arith))
    ∙ sym (append_assoc front (u32str (u32_at body 5)) (drop 9 body)))

opening-spelling : (body : List ℕ) → All (λ byte. byte < 256) body → is_opening body ≡ true
    → (body ≡ entry_text (Opens (u32_at body 1) (drop 5 body))) × IsEntry (Opens (u32_at body 1) (drop 5 body))
opening-spelling body bytes is =
    let parts = opening-parts body is in grind (arith, common_steps, opening-text, number-small) steps 20000

binding-spelling : (body : List ℕ) → All (λ byte. byte < 256) body → is_binding body ≡ true
    → (body ≡ entry_text (Binds (u32_at body 1) (u32_at body 5) (drop 9 body)))
    × IsEntry (Binds (u32_at body 1) (u32_at body 5) (drop 9 body))
binding-spelling body bytes is =
    let parts = binding-parts body is in (
      binding-text body bytes parts.2 parts.0,
      (
        number-small body 1 bytes,
        number-small body 5 bytes,
        omega (arith, length-drop 9 body, parts.0),
        omega (arith, length-drop 9 body, parts.1),
      ),
    )

pub entries_have_one_spelling : EntriesHaveOneSpelling
unfolding entry_in
entries_have_one_spelling body entry bytes is =
    elim (read-cases (is_opening body) (is_binding body) (Opens (u32_at body 1) (drop 5 body))
    (Binds (u32_at body 1) (u32_at body 5) (drop 9 body)) entry is) [
      | inl opening ↦ grind (arith, common_steps, opening-spelling) steps 20000
      | inr binding ↦ grind (arith, common_steps, binding-spelling) steps 20000
    ]
