-- The records of a journal of leaves, and the messages that they bind to the leaves by their numbers. Records have two
-- forms: those before the marker and those behind it.
use Rattle.std.specs.Prelude.{◌≡◌, ◌≤◌, ◌⊎◌, ℕ, Bool, true, ◌&&◌, ◌||◌, ◌==◌, nat_lt, nat_le, if◌then◌else◌, List, [], ◌∷◌, ◌++◌, length, map, take, drop, Result, Ok, Err}
use Rattle.std.specs.Result.{is_ok}
use Rattle.std.specs.List.{All, list_any}
use Rattle.std.specs.Str.{bytes_eq}
use Rattle.std.specs.Int.{w32, to_be_bytes}
use Rattle.gate_journal.specs.Image.{journal_in, spelled}

-- the bytes of a message before the marker, and the most bytes of one behind it
abbrev pub first_length : ℕ
first_length = 116

abbrev pub most_length : ℕ
most_length = 128

-- the marker record, `PGL2`
abbrev pub marker : List ℕ
marker = 80 ∷ 71 ∷ 76 ∷ 50 ∷ []

abbrev pub is_marker : List ℕ → Bool
is_marker body = bytes_eq body marker

-- the marker is among the records
abbrev pub is_marked : List (List ℕ) → Bool
is_marked records = list_any is_marker records

-- the messages by leaf: the records before the marker and, of each record behind it, what follows its number
abbrev pub messages_of : List (List ℕ) → List (List ℕ)
messages_of [] = []
messages_of (body ∷ records) = if is_marker body then map (drop 4) records else body ∷ messages_of records

-- q u32 || message
abbrev pub with_number : ℕ → List ℕ → List ℕ
with_number q message = to_be_bytes w32 q ++ message

-- a record of the second form, for leaf q: its number, and a message of 1 to 128 bytes
abbrev pub has_number : ℕ → List ℕ → Bool
has_number q body = bytes_eq (take 4 body) (to_be_bytes w32 q) && nat_le 5 (length body) && nat_le (length body) 132

-- over a test that each message has to pass
module _ (is_message : List ℕ → Bool) where
  -- Whether a record may stand behind these, for a key with so many leaves. Behind the marker it has the number of the
  -- next leaf, and before it it is a message or the marker. A message passes the test and has a leaf.
  abbrev pub may_follow_of : ℕ → List (List ℕ) → List ℕ → Bool
  may_follow_of leaves before body =
      let q = length (messages_of before) in
      if is_marked before then is_message (drop 4 body) && has_number q body && nat_lt q leaves
      else is_marker body || (is_message body && length body == first_length && nat_lt q leaves)

  -- all records, where each may follow those before it; else the place of the gate of the first that may not
  unfoldable pub records_behind_of : ℕ → List (List ℕ) → List (List ℕ) → Result (List (List ℕ)) ℕ
  records_behind_of leaves before [] = Ok before
  records_behind_of leaves before (body ∷ records) =
      if may_follow_of leaves before body then records_behind_of leaves (before ++ body ∷ []) records
      else Err (length (spelled before))

  abbrev pub leaf_records_of : ℕ → List (List ℕ) → Result (List (List ℕ)) ℕ
  leaf_records_of leaves records = records_behind_of leaves [] records

  -- those of what was read as a journal; the place where it is none stays
  abbrev pub leaf_records_read_of : ℕ → Result (List (List ℕ)) ℕ → Result (List (List ℕ)) ℕ
  leaf_records_read_of leaves (Ok records) = leaf_records_of leaves records
  leaf_records_read_of leaves (Err place) = Err place

  -- the records of an image, or the place where it is no journal of so many leaves
  abbrev pub leaf_records_in_of : ℕ → List ℕ → Result (List (List ℕ)) ℕ
  leaf_records_in_of leaves image = leaf_records_read_of leaves (journal_in image)

-- the test that every message passes
abbrev pub every_message : List ℕ → Bool
every_message message = true

-- the same for the form alone, which takes every message
abbrev pub may_follow : ℕ → List (List ℕ) → List ℕ → Bool
may_follow leaves before body = may_follow_of every_message leaves before body

abbrev pub records_behind : ℕ → List (List ℕ) → List (List ℕ) → Result (List (List ℕ)) ℕ
records_behind leaves before records = records_behind_of every_message leaves before records

abbrev pub leaf_records : ℕ → List (List ℕ) → Result (List (List ℕ)) ℕ
leaf_records leaves records = leaf_records_of every_message leaves records

abbrev pub leaf_records_read : ℕ → Result (List (List ℕ)) ℕ → Result (List (List ℕ)) ℕ
leaf_records_read leaves read = leaf_records_read_of every_message leaves read

abbrev pub leaf_records_in : ℕ → List ℕ → Result (List (List ℕ)) ℕ
leaf_records_in leaves image = leaf_records_in_of every_message leaves image

-- the records are those of so many leaves
abbrev pub are_leaf_records : ℕ → List (List ℕ) → Bool
are_leaf_records leaves records = is_ok (leaf_records leaves records)

-- each message of the records passes the test
abbrev pub MessagesPass : (List ℕ → Bool) → List (List ℕ) → Type 0
MessagesPass is_message records = All (λ message. is_message message ≡ true) (messages_of records)

-- a message that may be bound behind these records: one of 116 bytes or, where the marker is there, of 1 to 128
abbrev pub MayBind : List (List ℕ) → List ℕ → Type 0
MayBind records message =
    (length message ≡ first_length)
    ⊎ ((is_marked records ≡ true) × (1 ≤ length message) × (length message ≤ most_length))

-- the record that binds a message to the next leaf
abbrev pub binding_record : List (List ℕ) → List ℕ → List ℕ
binding_record records message =
    if is_marked records then with_number (length (messages_of records)) message else message
