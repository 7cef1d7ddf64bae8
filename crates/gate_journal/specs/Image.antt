-- A journal's image: `PGJ1`, then records, then a byte that is no open gate; what follows isn't looked at.
use Rattle.std.specs.Prelude.{◌≡◌, ◌<◌, ℕ, zero, suc, ◌+◌, ◌^◌, ◌≤◌, Bool, false, ◌==◌, ◌&&◌, nat_le, if◌then◌else◌, List, [], ◌∷◌, ◌++◌, length, take, drop, Option, Some, None, Result, Ok, Err}
use Rattle.std.specs.Option.{option_and_then, option_map, unwrap_or}
use Rattle.std.specs.Result.{result_ok}
use Rattle.std.specs.List.{All}
use Rattle.std.specs.Int.{w32, to_be_bytes}
use Rattle.plasma_base.specs.Fields.{field_at}

-- `PGJ1`
abbrev pub mark : List ℕ
mark = 80 ∷ 71 ∷ 74 ∷ 49 ∷ []

-- the byte of an open gate, a5
abbrev pub is_open : ℕ → Bool
is_open gate = gate == 165

-- the most bytes of a body
abbrev pub most : ℕ
most = 16777216

-- a record: an open gate, the body's length in four bytes, and the body
abbrev pub spelled_record : List ℕ → List ℕ
spelled_record body = 165 ∷ to_be_bytes w32 (length body) ++ body

abbrev pub spelled_records : List (List ℕ) → List ℕ
spelled_records [] = []
spelled_records (body ∷ bodies) = spelled_record body ++ spelled_records bodies

-- the mark and the records with these bodies
abbrev pub spelled : List (List ℕ) → List ℕ
spelled bodies = mark ++ spelled_records bodies

-- The image spells these records: it is their spelling and then a rest that isn't empty and doesn't begin with an open
-- gate.
pub record Spells (image : List ℕ) (records : List (List ℕ)) : Type 0 where
  pub gate : ℕ
  pub rest : List ℕ
  pub is : image ≡ spelled records ++ gate ∷ rest
  pub closed : is_open gate ≡ false
  pub fits : All (λ body. length body ≤ most) records

-- the body behind a gate; None where it runs past the end or is too long
abbrev pub body_in : List ℕ → Option (List ℕ)
body_in bytes =
    option_and_then
    (λ count. if nat_le count most && nat_le (4 + count) (length bytes) then Some (take count (drop 4 bytes)) else None)
    (field_at w32 bytes 0)

-- an open gate stands in front
abbrev pub begins_open : List ℕ → Bool
begins_open [] = false
begins_open (gate ∷ bytes) = is_open gate

-- the records with one more in front, where they were read
abbrev pub with_first : List ℕ → Result (List (List ℕ)) ℕ → Result (List (List ℕ)) ℕ
with_first body (Ok records) = Ok (body ∷ records)
with_first body (Err place) = Err place

-- the records from the gate at a place on, with which the bytes begin; or the place of the first gate that is missing,
-- or whose record runs past the end or is too long. There are at most so many gates.
unfoldable pub records_from : ℕ → ℕ → List ℕ → Result (List (List ℕ)) ℕ
records_from zero place bytes = Err place
records_from (suc gates) place [] = Err place
records_from (suc gates) place (gate ∷ bytes) =
    if is_open gate then unwrap_or (option_map (λ body. with_first body
    (records_from gates (place + 5 + length body) (drop (4 + length body) bytes))) (body_in bytes)) (Err place)
    else Ok []

-- what follows the mark; None where the image doesn't begin with it
abbrev pub after_mark : List ℕ → Option (List ℕ)
after_mark (p ∷ g ∷ j ∷ one ∷ bytes) = if p == 80 && g == 71 && j == 74 && one == 49 then Some bytes else None
after_mark image = None

-- the records of an image, or the place where it isn't a journal: 0 where it doesn't begin with the mark
abbrev pub journal_in : List ℕ → Result (List (List ℕ)) ℕ
journal_in image = unwrap_or (option_map (λ bytes. records_from (length bytes + 1) 4 bytes) (after_mark image)) (Err 0)

-- the records that an image spells; None where no list fits
abbrev pub kept_records : List ℕ → Option (List (List ℕ))
kept_records image = result_ok (journal_in image)

-- what an image spells is read, so it spells one list
abbrev pub SpelledIsRead : Type 0
SpelledIsRead = (image : List ℕ) (records : List (List ℕ)) → Spells image records → kept_records image ≡ Some records

-- what is read of bytes is what they spell
abbrev pub ReadIsSpelled : Type 0
ReadIsSpelled = (image : List ℕ) (records : List (List ℕ))
    → All (λ byte. byte < 2 ^ 8) image → kept_records image ≡ Some records → Spells image records
