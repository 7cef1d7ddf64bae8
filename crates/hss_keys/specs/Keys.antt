-- Two-level keys and signatures (RFC 8554, section 6): the leaves of a top key sign bottom keys, whose leaves sign
-- messages.
use Rattle.std.specs.Prelude.{◌≡◌, ◌↔◌, ◌<◌, ℕ, ◌+◌, ◌&&◌, nat_le, Bool, true, List, ◌++◌, length, take, drop, slice_range}
use Rattle.std.specs.Str.{bytes_eq}
use Rattle.sha2.specs.Sha256.{sha256}
use Rattle.lms_sign.specs.{declared.secret.Secret.{Secret}, Types.{is_supported, leaf_count, signature_length, u8str, u16str, u32str}, Tree.{public_key_of, signature_of}, Valid.{types_of, is_valid, IsValid}}
use Rattle.hss_keys.specs.declared.seed.HssSeed.{HssSeed}

-- what the top key is made from
abbrev pub top_secret : HssSeed → Secret
top_secret seed = record { types = seed.top; id = seed.id; seed = seed.seed }

-- A string of 32 bytes for bottom key j, which the standard leaves to the signer: this project derives it as an element
-- of top leaf j, with a number that no chain has.
unfoldable pub derived : HssSeed → ℕ → ℕ → List ℕ
derived seed j element = sha256 (seed.id ++ u32str j ++ u16str element ++ u8str 0xff ++ seed.seed)

-- what bottom key j is made from: its identifier is the first 16 bytes of one such string, and its seed is another
abbrev pub bottom_secret : HssSeed → ℕ → Secret
bottom_secret seed j =
    record { types = seed.bottom; id = take 16 (derived seed j 0xfffc); seed = derived seed j 0xfffb }

-- the public key of bottom key j
abbrev pub bottom_key : HssSeed → ℕ → List ℕ
bottom_key seed j = public_key_of (bottom_secret seed j)

-- the public key: the number of levels, and the top key (section 6.1)
unfoldable pub hss_key_of : HssSeed → List ℕ
hss_key_of seed = u32str 2 ++ public_key_of (top_secret seed)

-- the bytes of a signature: the number of levels below the top, two signatures, and a key between them (section 6.2)
abbrev pub hss_signature_length : HssSeed → ℕ
hss_signature_length seed = 60 + signature_length seed.top + signature_length seed.bottom

-- the signature of a message by leaf q of a bottom key, which leaf j of a top key signs (section 6.2)
unfoldable pub hss_signature_of : Secret → ℕ → Secret → ℕ → List ℕ → List ℕ
hss_signature_of top j bottom q message =
    u32str 1 ++ signature_of top j (public_key_of bottom) ++ public_key_of bottom ++ signature_of bottom q message

-- The signature of the message is valid under the public key of two levels (section 6.3): both have the forms above,
-- the top key signed the bottom key, and the bottom key signed the message.
pub record IsHssValid (public message signature : List ℕ) : Type 0 where
  pub top : List ℕ
  pub top_signature : List ℕ
  pub bottom : List ℕ
  pub bottom_signature : List ℕ
  pub is_public : public ≡ u32str 2 ++ top
  pub is_signature : signature ≡ u32str 1 ++ top_signature ++ bottom ++ bottom_signature
  pub key_length : length bottom ≡ 56
  pub signs_key : IsValid top bottom top_signature
  pub signs_message : IsValid bottom message bottom_signature

-- Whether it is. By its types the top key tells where its signature ends.
unfoldable pub is_hss_valid : List ℕ → List ℕ → List ℕ → Bool
is_hss_valid public message signature =
    let top = drop 4 public in
    let place = 4 + signature_length (types_of top) in
    let bottom = slice_range signature place (place + 56) in
    bytes_eq (take 4 public) (u32str 2) && bytes_eq (take 4 signature) (u32str 1)
    && nat_le (place + 56) (length signature)
    && is_valid top bottom (slice_range signature 4 place)
    && is_valid bottom message (drop (place + 56) signature)

-- the test finds exactly the valid ones
abbrev pub ValidHssSignaturesPass : Type 0
ValidHssSignaturesPass = (public message signature : List ℕ)
    → (is_hss_valid public message signature ≡ true) ↔ IsHssValid public message signature

-- what two keys sign so is valid under the top key
abbrev pub HssSignaturesAreValid : Type 0
HssSignaturesAreValid = (top bottom : Secret) (j q : ℕ) (message : List ℕ)
    → is_supported top.types ≡ true → length top.id ≡ 16 → j < leaf_count top.types
    → is_supported bottom.types ≡ true → length bottom.id ≡ 16 → q < leaf_count bottom.types
    → IsHssValid (u32str 2 ++ public_key_of top) message (hss_signature_of top j bottom q message)
