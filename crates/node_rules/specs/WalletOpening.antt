-- Which records are a wallet's: those of its notes by themselves, those of its leaves by its key, and each note that
-- takes a leaf back by what that leaf binds.
use Rattle.std.specs.Prelude.{ℕ, ◌&&◌, Bool, true, List, [], ◌∷◌, length, Option}
use Rattle.std.specs.List.{take_while}
use Rattle.std.specs.Option.{option_map_or}
use Rattle.std.specs.Result.{is_ok}
use Rattle.gate_journal.specs.Image.{spelled}
use Rattle.node_journal.specs.Role.{are_of}
use Rattle.lms_sign.specs.Types.{leaf_count}
use Rattle.leaf_journal.specs.Records.{leaf_records_of}
use Rattle.wallet_core.specs.declared.notes.LeafRecord.{LeafRecord}
use Rattle.node_rules.specs.{WalletRecords.{note_in, who_is, notes_of, wallet_kinds, is_body, leaves_in, is_bound_note, are_bound_notes}, Wallet.{WalletRecords}}

-- the number of leaves of the wallet's key
abbrev pub leaves_of : List (List ℕ) → ℕ
leaves_of notes = leaf_count (who_is notes).types

-- the leaves are those of the wallet's key, and bind bodies
abbrev pub are_leaves : WalletRecords → Bool
are_leaves wallet = is_ok (leaf_records_of is_body (leaves_of wallet.notes) wallet.leaves)

-- each note that takes a leaf back is of a leaf that may be
abbrev pub are_bound : (List ℕ → List ℕ) → WalletRecords → Bool
are_bound dig wallet = are_bound_notes (leaves_in wallet.leaves) (notes_of dig wallet.notes)

-- the records are a wallet's
unfoldable pub is_wallet : (List ℕ → List ℕ) → WalletRecords → Bool
is_wallet dig wallet = are_of (wallet_kinds dig) wallet.notes && are_leaves wallet && are_bound dig wallet

-- a record takes back no leaf, or one that may be
abbrev pub is_bound_record : (List ℕ → List ℕ) → List ℕ → List LeafRecord → List ℕ → Bool
is_bound_record dig tag leaves body = option_map_or (is_bound_note leaves) (note_in dig tag body) true

-- the records of notes before the first, the oldest first, that takes back a leaf that may not be
abbrev pub bound_front : (List ℕ → List ℕ) → List LeafRecord → List (List ℕ) → List (List ℕ)
bound_front dig leaves [] = []
bound_front dig leaves (identity ∷ notes) =
    identity ∷ take_while (is_bound_record dig (who_is (identity ∷ notes)).tag leaves) notes

-- the place of that record's gate
abbrev pub unbound_place : (List ℕ → List ℕ) → List LeafRecord → List (List ℕ) → ℕ
unbound_place dig leaves notes = length (spelled (bound_front dig leaves notes))
