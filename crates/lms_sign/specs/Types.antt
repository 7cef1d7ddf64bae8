-- The type numbers of RFC 8554 with their parameters, and numbers as byte strings.
use Rattle.std.specs.Prelude.{◌≡◌, true, ℕ, ◌+◌, ◌*◌, ◌-◌, ◌^◌, Bool, ◌&&◌, ◌||◌, ◌==◌, if◌then◌else◌, List, slice_range}
use Rattle.std.specs.Int.{w8, w16, w32, to_be_bytes, from_be_bytes}
use Rattle.lms_sign.specs.declared.types.LmsTypes.{LmsTypes}

-- h, the height of the tree: 10 for LMS_SHA256_M32_H10, which is 6, and 5 for LMS_SHA256_M32_H5, which is 5 (section
-- 5.1)
unfoldable pub height : LmsTypes → ℕ
height types = if types.lms == 6 then 10 else 5

-- w, the bits of a digit: 4 for LMOTS_SHA256_N32_W4, which is 3, and 8 for LMOTS_SHA256_N32_W8, which is 4 (section
-- 4.1)
unfoldable pub width : LmsTypes → ℕ
width types = if types.ots == 3 then 4 else 8

-- p, the number of chains (section 4.1)
unfoldable pub chains : LmsTypes → ℕ
chains types = if types.ots == 3 then 67 else 34

-- ls, by how many bits the checksum is shifted left (section 4.1)
unfoldable pub shift : LmsTypes → ℕ
shift types = if types.ots == 3 then 4 else 0

-- the four pairs of an LMS type and a one-time type that keys may have; the parameters of no other pair are used
abbrev pub is_supported : LmsTypes → Bool
is_supported types = ((types.lms == 5) || (types.lms == 6)) && ((types.ots == 3) || (types.ots == 4))

-- the number of leaves, which are numbered from 0
abbrev pub leaf_count : LmsTypes → ℕ
leaf_count types = 2 ^ height types

-- the number of steps from the start of a chain to its end
abbrev pub chain_length : LmsTypes → ℕ
chain_length types = 2 ^ width types - 1

-- the bytes of a signature: q, the one-time type, C, the chains, the LMS type and the path (section 5.4)
abbrev pub signature_length : LmsTypes → ℕ
signature_length types = 44 + 32 * chains types + 32 * height types

-- u32str(n), u16str(n) and u8str(n): the number's 4, 2 or 1 bytes, the high byte first (section 3.1)
unfoldable pub u32str : ℕ → List ℕ
u32str n = to_be_bytes w32 n

unfoldable pub u16str : ℕ → List ℕ
u16str n = to_be_bytes w16 n

unfoldable pub u8str : ℕ → List ℕ
u8str n = to_be_bytes w8 n

-- strTou32 of the 4 bytes at a place (section 3.1)
unfoldable pub u32_at : List ℕ → ℕ → ℕ
u32_at bytes place = from_be_bytes w32 (slice_range bytes place (place + 4))

-- the leaves of a key of this pair and the bytes of its signatures
abbrev pub HasSizes : ℕ → ℕ → ℕ → ℕ → Type 0
HasSizes lms ots leaves bytes =
    let types : LmsTypes = record { lms = lms; ots = ots } in
    (is_supported types ≡ true) × (leaf_count types ≡ leaves) × (signature_length types ≡ bytes)
