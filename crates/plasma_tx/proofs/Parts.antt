-- Parts of byte strings, and the numbers that they spell.
use Rattle.plasma_tx.proofs.Words.{◌≡◌, ℕ, ◌+◌, ◌-◌, ◌^◌, ◌<◌, ◌≤◌, List, ◌++◌, length, get_or, take, drop, refl, sym, ap, ◌∙◌, arith, slice_range, w32, w64, to_be_bytes, from_be_bytes, cases_lt, drop_at, take_all, take-append-le, drop-append-le, length-take-le, length-drop, get_or_past, All-take, All-drop, be_bytes_4, be_bytes_8, from_be_bytes-to_be_bytes_8, common_steps, AreBytes, number_text, number_at}
use Rattle.std.proofs.Math.Seq.{take-add}

-- a range within the front of a list
pub range-front : (xs rest : List ℕ) (a b : ℕ) → a ≤ b → b ≤ length xs → slice_range (xs ++ rest) a b
    ≡ slice_range xs a b
range-front xs rest a b le fits = grind (arith, common_steps, drop-append-le, take-append-le, length-drop) steps 20000

-- a range that is the back of a list
pub range-back : (front part : List ℕ) (a b : ℕ) → length front ≡ a → a + length part ≡ b
    → slice_range (front ++ part) a b ≡ part
range-back front part a b is end =
    ap (λ l. take (b - a) l) (drop_at front part a is) ∙ take_all (b - a) part (omega arith)

-- a beginning and the range behind it
pub range-join : (xs : List ℕ) (a b : ℕ) → a ≤ b → take a xs ++ slice_range xs a b ≡ take b xs
range-join xs a b le = let e : a + (b - a) ≡ b = omega arith in sym (take-add a (b - a) xs) ∙ ap (λ n. take n xs) e

pub length-range : (xs : List ℕ) (a b : ℕ) → a ≤ b → b ≤ length xs → length (slice_range xs a b) ≡ b - a
length-range xs a b le fits = length-take-le (b - a) (drop a xs) (omega (arith, length-drop a xs))

pub bytes-range : (xs : List ℕ) (a b : ℕ) → AreBytes xs → AreBytes (slice_range xs a b)
bytes-range xs a b small = All-take (λ byte. byte < 256) (b - a) (drop a xs) (All-drop (λ byte. byte < 256) a xs small)

pub byte-at : (xs : List ℕ) → AreBytes xs → (i : ℕ) → get_or xs i 0 < 256
byte-at xs small i = grind (arith, common_steps, cases_lt, get_or_past) steps 20000

-- ---- numbers

pub number-below : (xs : List ℕ) → AreBytes xs → from_be_bytes w64 xs < 2 ^ 64
number-below xs small = below (byte-at xs small)
  where
    below : ((i : ℕ) → get_or xs i 0 < 256) → from_be_bytes w64 xs < 2 ^ 64
    below h = omega (arith, h 0, h 1, h 2, h 3, h 4, h 5, h 6, h 7)

pub short_number-below : (xs : List ℕ) → AreBytes xs → from_be_bytes w32 xs < 2 ^ 32
short_number-below xs small = grind (arith, common_steps, byte-at) steps 20000

-- eight bytes are those of the number that they spell
pub number-bytes : (xs : List ℕ) → AreBytes xs → length xs ≡ 8 → number_text (from_be_bytes w64 xs) ≡ xs
number-bytes xs small long = be_bytes_8 xs (from_be_bytes w64 xs) long (byte-at xs small) refl

pub short_number-bytes : (xs : List ℕ) (n : ℕ) → AreBytes xs → length xs ≡ 4 → n ≡ from_be_bytes w32 xs
    → to_be_bytes w32 n ≡ xs
short_number-bytes xs n small long is = be_bytes_4 xs n long (byte-at xs small) is

-- the number whose bytes a range is
pub number-in : (xs : List ℕ) (place n : ℕ) → n < 2 ^ 64 → slice_range xs place (place + 8) ≡ number_text n
    → number_at xs place ≡ n
number-in xs place n lt is = ap (from_be_bytes w64) is ∙ from_be_bytes-to_be_bytes_8 n lt
