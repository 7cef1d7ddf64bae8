-- The strings that were met, by their digests.
use Rattle.std.specs.Prelude.{◌≡◌, ℕ, ◌<◌, ◌++◌, Bool, List, [], length, Option, Some, None, MatchOption}
use Rattle.std.specs.List.{Contains}
use Rattle.std.specs.HashMap.{HashMap, get}
use Rattle.std.specs.Str.{bytes_eq}
use Rattle.sparse_merkle.specs.TreeDigest.{leaf_string}
use Rattle.world_rules.specs.Exhibits.{first_clash}
use Rattle.trace_exhibits.specs.Opened.{Opened}
use Rattle.trace_exhibits.specs.Met.{leaf_at}
use Rattle.trace_exhibits.specs.Ways.{pair_of}
use Rattle.trace_exhibits.specs.declared.digest_key.DigestKey.{DigestKey}
use Rattle.trace_exhibits.specs.declared.hashed_string.HashedString.{HashedString}
use Rattle.trace_exhibits.specs.declared.shown.Clash.{Clash}

-- the bytes of a string, where these openings were met
abbrev pub bytes_of : List Opened → HashedString → List ℕ
bytes_of met (HashedString.Leaf place) = leaf_string (leaf_at met place)
bytes_of met (HashedString.Node bytes) = bytes

-- the opening that it is a leaf's of was met
abbrev pub IsWithin : List Opened → HashedString → Type 0
IsWithin met (HashedString.Leaf place) = place < length met
IsWithin met (HashedString.Node bytes) = Unit {0}

-- the digest as a key, and whether two keys are one
abbrev pub key_of : List ℕ → DigestKey
key_of digest = record { bytes = digest }

abbrev pub is_same_digest : DigestKey → DigestKey → Bool
is_same_digest one other = bytes_eq one.bytes other.bytes

-- the string that a map has for a digest
abbrev pub string_of : {S : Type 0} → HashMap DigestKey HashedString S → List ℕ → Option HashedString
string_of strings digest = get is_same_digest strings (key_of digest)

-- no two of these strings have one digest; the map gives each by its digest, and no other string
pub record KeepsStrings {S : Type 0} (dig : List ℕ → List ℕ) (met : List Opened)
    (strings : HashMap DigestKey HashedString S) (earlier : List (List ℕ)) : Type 0 where
  pub none : first_clash dig [] earlier ≡ None
  pub known : (string : List ℕ) → Contains earlier string
      → (kept : HashedString) × (string_of strings (dig string) ≡ Some kept) × (bytes_of met kept ≡ string)
  pub only : (digest : List ℕ) (kept : HashedString) → string_of strings digest ≡ Some kept
      → Contains earlier (bytes_of met kept) × (dig (bytes_of met kept) ≡ digest) × IsWithin met kept

-- a clash was found, which is the first of these strings whatever follows them, or the map keeps them
abbrev pub IsAdded : {S : Type 0} → (List ℕ → List ℕ) → List Opened → HashMap DigestKey HashedString S
    → List (List ℕ) → Option Clash → Type 0
IsAdded dig met strings after found = MatchOption found (KeepsStrings dig met strings after)
    (λ clash. (rest : List (List ℕ)) → first_clash dig [] (after ++ rest) ≡ Some (pair_of clash))
