-- The messages of records.
use Rattle.leaf_journal.proofs.Words.{bool_byte, ◌≡◌, ◌≢◌, ◌<◌, ◌≤◌, ◌+◌, ℕ, zero, suc, Bool, true, false, not, cond, List, [], ◌∷◌, ◌++◌, length, map, drop, refl, ◌∙◌, ap, arith, ltb, cases_Bool, lt-ltb, le-ltb, map-append, length-map, slice_get-map, bytes_eq-Decides, option_map, slice_get, ◌||◌, common_steps, is_marked, is_marker, marker, messages_of, first_count}

-- the messages of more records behind some
pub messages-append : (xs ys : List (List ℕ)) → messages_of (xs ++ ys) ≡ messages_of xs ++ cond (is_marked xs)
    (map (drop 4) ys) (messages_of ys)
messages-append [] ys = refl
messages-append (x ∷ xs) ys = grind (arith, common_steps, messages-append xs ys, map-append) steps 20000

-- a marker is no message
pub messages-count : (xs : List (List ℕ)) → length (messages_of xs) + cond (is_marked xs) 1 0 ≡ length xs
messages-count [] = refl
messages-count (x ∷ xs) = grind (arith, common_steps, messages-count xs, length-map) steps 20000

-- how many records stand before the marker
pub first-marked : (xs : List (List ℕ)) → is_marked xs ≡ true → first_count xs < length xs
unfolding first_count
first-marked [] is = absurd (cc is)
first-marked (x ∷ xs) is' = (elim (is_marker x) as (λ b. (b || is_marked xs) ≡ true
    → cond b 0 (suc (first_count xs)) < length (x ∷ xs)) [
      | true ↦ λ is. omega arith
      | false ↦ λ is. omega (arith, first-marked xs is)
    ]) is'

pub first-unmarked : (xs : List (List ℕ)) → is_marked xs ≡ false → first_count xs ≡ length xs
unfolding first_count
first-unmarked [] is = refl
first-unmarked (x ∷ xs) is' = (elim (is_marker x) as (λ b. (b || is_marked xs) ≡ false
    → cond b 0 (suc (first_count xs)) ≡ length (x ∷ xs)) [
      | true ↦ λ is. absurd (cc is)
      | false ↦ λ is. omega (arith, first-unmarked xs is)
    ]) is'

pub first_le : (xs : List (List ℕ)) → first_count xs ≤ length xs
first_le xs = grind (arith, common_steps, cases_Bool, first-marked, first-unmarked) steps 20000

pub is_marked-count : (xs : List (List ℕ)) → is_marked xs ≡ ltb (first_count xs) (length xs)
is_marked-count xs = grind (arith, common_steps, cases_Bool, lt-ltb, first-marked, le-ltb, first-unmarked) steps 20000

-- one more record
pub first-append : (xs : List (List ℕ)) (body : List ℕ)
    → first_count (xs ++ body ∷ []) ≡ cond (is_marked xs || is_marker body) (first_count xs) (first_count xs + 1)
unfolding first_count
first-append [] body = elim (is_marker body) as (λ b. cond b 0 1 ≡ cond b 0 (0 + 1)) [ true ↦ refl | false ↦ refl ]
first-append (x ∷ xs) body = elim (is_marker x) as (λ b. cond b 0 (suc (first_count (xs ++ body ∷ [])))
    ≡ cond ((b || is_marked xs) || is_marker body) (cond b 0 (suc (first_count xs)))
    (cond b 0 (suc (first_count xs)) + 1)) [
      | true ↦ refl
      | false ↦ ap suc (first-append xs body) ∙ elim (is_marked xs || is_marker body)
          as (λ c. suc (cond c (first_count xs) (first_count xs + 1)) ≡ cond c (suc (first_count xs))
          (suc (first_count xs) + 1)) [ true ↦ refl | false ↦ omega arith ]
    ]

-- a test as a number
pub byte_of : (b : Bool) → bool_byte b ≡ cond b 1 0
byte_of true = refl
byte_of false = refl

pub byte_le : (b : Bool) → bool_byte b ≤ 1
byte_le true = omega arith
byte_le false = omega arith

pub byte-not : (b : Bool) (n : ℕ) → n + bool_byte (not b) ≡ cond b n (n + 1)
byte-not true n = omega arith
byte-not false n = refl

-- the message of a leaf, by its record: before the marker, and behind it
pub get-before : (xs : List (List ℕ)) (q : ℕ) → q < first_count xs → slice_get (messages_of xs) q ≡ slice_get xs q
unfolding first_count
get-before [] q l = refl
get-before (x ∷ xs) zero l' = grind (arith, common_steps) steps 20000
get-before (x ∷ xs) (suc q) l' = (elim (is_marker x)
    as (λ b. suc q < cond b 0 (suc (first_count xs))
    → slice_get (cond b (map (drop 4) xs) (x ∷ messages_of xs)) (suc q) ≡ slice_get (x ∷ xs) (suc q)) [
      | true ↦ λ l. absurd (omega arith)
      | false ↦ λ l. get-before xs q (omega arith)
    ]) l'

pub get-behind : (xs : List (List ℕ)) (q : ℕ) → first_count xs ≤ q
    → slice_get (messages_of xs) q ≡ option_map (drop 4) (slice_get xs (suc q))
unfolding first_count
get-behind [] q l = refl
get-behind (x ∷ xs) zero l' = grind (arith, common_steps, slice_get-map) steps 20000
get-behind (x ∷ xs) (suc q) l' = (elim (is_marker x)
    as (λ b. cond b 0 (suc (first_count xs)) ≤ suc q
    → slice_get (cond b (map (drop 4) xs) (x ∷ messages_of xs)) (suc q) ≡ option_map (drop 4) (slice_get xs (suc q))) [
      | true ↦ λ l. slice_get-map (drop 4) xs (suc q)
      | false ↦ λ l. get-behind xs q (omega arith)
    ]) l'

-- a record of another length is no marker, and the marker has four bytes
pub other_length : (body : List ℕ) → length body ≢ 4 → is_marker body ≡ false
other_length body other = grind (arith, common_steps, cases_Bool, bytes_eq-Decides) steps 20000

pub marker_length : (body : List ℕ) → is_marker body ≡ true → length body ≡ 4
marker_length body is = ap length ((bytes_eq-Decides body marker).0 is)
