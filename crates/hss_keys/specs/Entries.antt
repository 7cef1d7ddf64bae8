-- The records of a two-level signer, and what they say of bottom keys and messages.
use Rattle.std.specs.Prelude.{◌≡◌, ℕ, ◌-◌, ◌^◌, ◌==◌, ◌&&◌, ◌<◌, ◌≤◌, Bool, nat_le, if◌then◌else◌, List, ◌∷◌, ◌++◌, length, drop, slice_index, Option, Some, None}
use Rattle.std.specs.List.{All, filter_map, slice_get}
use Rattle.lms_sign.specs.Types.{u32str, u32_at}
use Rattle.hss_keys.specs.{declared.entry.Entry.{Entry}, declared.entry.Entry.TheVariants.{Opens, Binds}}

-- the most bytes of a message
abbrev pub most_length : ℕ
most_length = 128

-- 01 || j u32 || key (56): top leaf j signs this bottom key. 02 || j u32 || q u32 || message: leaf q of the bottom key
-- of top leaf j is bound to this message.
unfoldable pub entry_text : Entry → List ℕ
entry_text (Opens j key) = 1 ∷ u32str j ++ key
entry_text (Binds j q message) = 2 ∷ u32str j ++ u32str q ++ message

-- a record that opens a key of 56 bytes
abbrev pub is_opening : List ℕ → Bool
is_opening body = (length body == 61) && (slice_index body 0 == 1)

-- a record that binds a message of 1 to 128 bytes
abbrev pub is_binding : List ℕ → Bool
is_binding body = nat_le 10 (length body) && nat_le (length body) 137 && (slice_index body 0 == 2)

-- the entry that a record spells
unfoldable pub entry_in : List ℕ → Option Entry
entry_in body =
    if is_opening body then Some (Opens (u32_at body 1) (drop 5 body))
    else if is_binding body then Some (Binds (u32_at body 1) (u32_at body 5) (drop 9 body))
    else None

-- the entries of records, in order: each bottom key with its top leaf, and each message with both of its leaves
abbrev pub entries_of : List (List ℕ) → List Entry
entries_of records = filter_map entry_in records

-- the bottom keys, by top leaf
abbrev pub key_in : Entry → Option (List ℕ)
key_in (Opens j key) = Some key
key_in (Binds j q message) = None

abbrev pub keys_of : List Entry → List (List ℕ)
keys_of entries = filter_map key_in entries

-- the messages of the bottom key of top leaf j, by leaf
abbrev pub message_under : ℕ → Entry → Option (List ℕ)
message_under j (Opens i key) = None
message_under j (Binds i q message) = if i == j then Some message else None

abbrev pub messages_under : ℕ → List Entry → List (List ℕ)
messages_under j entries = filter_map (message_under j) entries

-- the bottom key of a top leaf, and the message of a leaf of it
abbrev pub key_at : List Entry → ℕ → Option (List ℕ)
key_at entries j = slice_get (keys_of entries) j

abbrev pub message_at : List Entry → ℕ → ℕ → Option (List ℕ)
message_at entries j q = slice_get (messages_under j entries) q

-- how many bottom keys there are, the last of which is the one that binds; and how many of its leaves are bound
abbrev pub opened_count : List Entry → ℕ
opened_count entries = length (keys_of entries)

abbrev pub used_in : List Entry → ℕ
used_in entries = length (messages_under (opened_count entries - 1) entries)

-- a number of 32 bits and a key of 56 bytes, or two numbers and a message of 1 to 128 bytes
abbrev pub IsEntry : Entry → Type 0
IsEntry (Opens j key) = (j < 2 ^ 32) × (length key ≡ 56)
IsEntry (Binds j q message) = (j < 2 ^ 32) × (q < 2 ^ 32) × (1 ≤ length message) × (length message ≤ most_length)

-- an entry's record is read as that entry
abbrev pub EntriesAreReadBack : Type 0
EntriesAreReadBack = (entry : Entry) → IsEntry entry → entry_in (entry_text entry) ≡ Some entry

-- a record that is read as an entry is its own: each entry has one spelling
abbrev pub EntriesHaveOneSpelling : Type 0
EntriesHaveOneSpelling = (body : List ℕ) (entry : Entry) → All (λ byte. byte < 256) body
    → entry_in body ≡ Some entry → (body ≡ entry_text entry) × IsEntry entry
