-- Signatures of two levels: their parts, the test, and that those that are made are valid.
use Rattle.hss_keys.proofs.Words.{◌≡◌, ◌≤◌, ◌<◌, ◌+◌, ◌-◌, ℕ, Bool, true, false, List, ◌++◌, length, take, drop, refl, sym, ◌∙◌, ap, arith, append_assoc, length-append, length-take, length-drop, ◌&&◌, nat_le, slice_range, bytes_eq, and_parts, eqb-true, le-leb, leb-true, lt-leb, take_at, drop_at, take-append-drop, drop-drop, bytes_eq-Decides, is_supported, signature_length, u32str, public_key_of, signature_of, types_of, is_valid, IsValid, length-u32str, HssSeed, top_secret, derived, bottom_secret, bottom_key, hss_key_of, hss_signature_of, is_hss_valid, IsHssValid, ValidHssSignaturesPass, HssSignaturesAreValid}
use Rattle.sha2.proofs.Facts256.{length-sha256}
use Rattle.lms_sign.specs.declared.secret.Secret.{Secret}
use Rattle.lms_sign.proofs.Laws.{key-types, signatures_are_valid}
use Rattle.lms_sign.proofs.Nodes.{length-tree_node}

-- ---- the types of keys

length-public_key : (secret : Secret) → length secret.id ≡ 16 → length (public_key_of secret) ≡ 56
unfolding public_key_of
length-public_key secret whole = simp length-append (omega (
  arith,
  length-u32str secret.types.lms,
  length-u32str secret.types.ots,
  length-tree_node secret 1,
))

pub top-part : (seed : HssSeed) → drop 4 (hss_key_of seed) ≡ public_key_of (top_secret seed)
unfolding hss_key_of
top-part seed = drop_at (u32str 2) (public_key_of (top_secret seed)) 4 (length-u32str 2)

pub top-types : (seed : HssSeed) → is_supported seed.top ≡ true → length seed.id ≡ 16
    → types_of (drop 4 (hss_key_of seed)) ≡ seed.top
top-types seed supported whole = ap types_of (top-part seed) ∙ key-types (top_secret seed) supported whole

bottom-id : (seed : HssSeed) (j : ℕ) → length (bottom_secret seed j).id ≡ 16
unfolding derived
bottom-id seed j = omega (arith, length-take 16 (derived seed j 0xfffc), derived-length)
  where
    derived-length : length (derived seed j 0xfffc) ≡ 32
    derived-length = length-sha256 _

pub bottom-types : (seed : HssSeed) (j : ℕ) → is_supported seed.bottom ≡ true
    → types_of (bottom_key seed j) ≡ seed.bottom
bottom-types seed j supported = key-types (bottom_secret seed j) supported (bottom-id seed j)

-- ---- valid signatures

-- a valid signature has the length of the key's types
valid-length : (key message signature : List ℕ) → IsValid key message signature
    → length signature ≡ signature_length (types_of key)
unfolding is_valid
valid-length key message signature valid =
    let formed = (and_parts _ _ valid).0 in
    let front = and_parts _ _ (and_parts _ _ (and_parts _ _ formed).0).0 in
    eqb-true _ _ (and_parts _ _ front.0).1

-- the parts of a signature, by their lengths
module _ (number top bottom below : List ℕ) (place : ℕ) (four : length number ≡ 4) (key : length bottom ≡ 56)
    (is : 4 + length top ≡ place) where
  abbrev whole : List ℕ
  whole = number ++ top ++ bottom ++ below

  split : whole ≡ number ++ (top ++ (bottom ++ below))
  split = simp append_assoc

  front-part : take 4 whole ≡ number
  front-part = ap (take 4) split ∙ take_at number (top ++ (bottom ++ below)) 4 four

  top-signature-part : slice_range whole 4 place ≡ top
  top-signature-part = ap (λ (l : List ℕ). take (place - 4) (drop 4 l)) split
      ∙ ap (take (place - 4)) (drop_at number (top ++ (bottom ++ below)) 4 four)
      ∙ take_at top (bottom ++ below) (place - 4) (omega (arith, is))

  at-place : drop place whole ≡ bottom ++ below
  at-place = ap (drop place) (append_assoc (number ++ top) bottom below)
      ∙ drop_at (number ++ top) (bottom ++ below) place (omega (arith, length-append number top, four, is))

  bottom-part : slice_range whole place (place + 56) ≡ bottom
  bottom-part =
      let size : place + 56 - place ≡ 56 = omega arith in
      ap (λ n. take n (drop place whole)) size ∙ ap (take 56) at-place ∙ take_at bottom below 56 key

  below-part : drop (place + 56) whole ≡ below
  below-part = sym (drop-drop 56 place whole) ∙ ap (drop 56) at-place ∙ drop_at bottom below 56 key

  long : place + 56 ≤ length whole
  long = omega (
    arith,
    length-append (number ++ top ++ bottom) below,
    length-append (number ++ top) bottom,
    length-append number top,
    four,
    key,
    is,
  )

-- what is tested of a signature
test-parts : (a b c d e : Bool) → (a && b && c && d && e) ≡ true
    → (a ≡ true) × (b ≡ true) × (c ≡ true) × (d ≡ true) × (e ≡ true)
test-parts true true true true true is = (refl, refl, refl, refl, refl)
test-parts false b c d e is = absurd (cc is)
test-parts true false c d e is = absurd (cc is)
test-parts true true false d e is = absurd (cc is)
test-parts true true true false e is = absurd (cc is)
test-parts true true true true false is = absurd (cc is)

test-joined : (a b c d e : Bool) → a ≡ true → b ≡ true → c ≡ true → d ≡ true → e ≡ true
    → (a && b && c && d && e) ≡ true
test-joined a b c d e p q r s t = rw (p, q, r, s, t) refl

passes : (public message signature : List ℕ) → IsHssValid public message signature
    → is_hss_valid public message signature ≡ true
unfolding is_hss_valid
passes public message signature valid =
    let top : drop 4 public ≡ valid.top = ap (drop 4) valid.is_public
    ∙ drop_at (u32str 2) valid.top 4 (length-u32str 2) in
    let place = 4 + signature_length (types_of (drop 4 public)) in
    let count : 4 + length valid.top_signature ≡ place =
    omega (
      arith,
      valid-length valid.top valid.bottom valid.top_signature valid.signs_key,
      ap (λ k. signature_length (types_of k)) top,
    ) in
    let parts : (f : List ℕ → List ℕ) → f signature ≡ f (u32str 1 ++ valid.top_signature ++ valid.bottom
    ++ valid.bottom_signature) = λ f. ap f valid.is_signature in
    let bottom : slice_range signature place (place + 56) ≡ valid.bottom =
    parts (λ l. slice_range l place (place + 56)) ∙ bottom-part (u32str 1) valid.top_signature valid.bottom
    valid.bottom_signature place (length-u32str 1) valid.key_length count in
    let first : slice_range signature 4 place ≡ valid.top_signature =
    parts (λ l. slice_range l 4 place) ∙ top-signature-part (u32str 1) valid.top_signature valid.bottom
    valid.bottom_signature place (length-u32str 1) valid.key_length count in
    let second : drop (place + 56) signature ≡ valid.bottom_signature =
    parts (drop (place + 56)) ∙ below-part (u32str 1) valid.top_signature valid.bottom
    valid.bottom_signature place (length-u32str 1) valid.key_length count in
    let front : take 4 signature ≡ u32str 1 = parts (take 4) ∙ front-part (u32str 1) valid.top_signature valid.bottom
    valid.bottom_signature place (length-u32str 1) valid.key_length count in
    let number : take 4 public ≡ u32str 2 = ap (take 4) valid.is_public
    ∙ take_at (u32str 2) valid.top 4 (length-u32str 2) in
    let enough : place + 56 ≤ length signature = omega (
      arith,
      ap length valid.is_signature,
      long (u32str 1)
          valid.top_signature valid.bottom valid.bottom_signature place (length-u32str 1) valid.key_length count,
    ) in
    test-joined _ _ _ _ _ ((bytes_eq-Decides _ _).1 number) ((bytes_eq-Decides _ _).1 front)
    (le-leb _ _ enough)
    ((λ i. is_valid (top i) (bottom i) (first i)) ∙ valid.signs_key)
    ((λ i. is_valid (bottom i) message (second i)) ∙ valid.signs_message)

found : (public message signature : List ℕ) → is_hss_valid public message signature ≡ true
    → IsHssValid public message signature
unfolding is_hss_valid
found public message signature is =
    let tests = test-parts _ _ _ _ _ is in
    let top = drop 4 public in
    let place = 4 + signature_length (types_of top) in
    let enough : place + 56 ≤ length signature = leb-true _ _ tests.2 in
    let size : place + 56 - place ≡ 56 = omega arith in
    let number : take 4 public ≡ u32str 2 = (bytes_eq-Decides _ _).0 tests.0 in
    let front : take 4 signature ≡ u32str 1 = (bytes_eq-Decides _ _).0 tests.1 in
    let first = slice_range signature 4 place in
    let bottom = slice_range signature place (place + 56) in
    let rest = drop (place + 56) signature in
    let from_place : drop place signature ≡ bottom ++ rest =
    sym (take-append-drop 56 (drop place signature))
    ∙ (λ i. take (sym size i) (drop place signature) ++ drop-drop 56 place signature i) in
    let to_place : 4 + (place - 4) ≡ place = omega arith in
    let from_four : drop 4 signature ≡ first ++ (bottom ++ rest) =
    sym (take-append-drop (place - 4) (drop 4 signature))
    ∙ ap (λ (l : List ℕ). first ++ l) (drop-drop (place - 4) 4 signature
    ∙ ap (λ n. drop n signature) to_place ∙ from_place) in
    record {
      top = top;
      top_signature = first;
      bottom = bottom;
      bottom_signature = rest;
      is_public = sym (take-append-drop 4 public) ∙ ap (λ (l : List ℕ). l ++ top) number;
      is_signature = sym (take-append-drop 4 signature) ∙ (λ i. front i ++ from_four i)
          ∙ simp append_assoc;
      key_length = omega (
        arith,
        length-take (place + 56 - place) (drop place signature),
        length-drop place signature,
        size,
        enough,
      );
      signs_key = tests.3;
      signs_message = tests.4;
    }

pub valid_hss_signatures_pass : ValidHssSignaturesPass
valid_hss_signatures_pass public message signature =
    (found public message signature, passes public message signature)

pub hss_signatures_are_valid : HssSignaturesAreValid
unfolding hss_signature_of
hss_signatures_are_valid top bottom j q message top_supported top_id top_leaf supported id leaf = record {
  top = public_key_of top;
  top_signature = signature_of top j (public_key_of bottom);
  bottom = public_key_of bottom;
  bottom_signature = signature_of bottom q message;
  is_public = refl;
  is_signature = refl;
  key_length = length-public_key bottom id;
  signs_key = signatures_are_valid top j (public_key_of bottom) top_supported top_id top_leaf;
  signs_message = signatures_are_valid bottom q message supported id leaf;
}

-- ---- the test as code has it

pub test-is : (public message signature : List ℕ) (place : ℕ) (bottom : List ℕ)
    → place ≡ 4 + signature_length (types_of (drop 4 public)) → bottom ≡ slice_range signature place (place + 56)
    → is_hss_valid public message signature
    ≡ (bytes_eq (take 4 public) (u32str 2) && bytes_eq (take 4 signature) (u32str 1)
    && nat_le (place + 56) (length signature)
    && is_valid (drop 4 public) bottom (slice_range signature 4 place)
    && is_valid bottom message (drop (place + 56) signature))
unfolding is_hss_valid
test-is public message signature place bottom is of_key = rw (of_key, is) refl

-- the signature that two keys make is valid
pub valid-from : (seed : HssSeed) (bottom : Secret) (key message out : List ℕ) (j q : ℕ) → hss_key_of seed ≡ key
    → length (public_key_of bottom) ≡ 56
    → IsValid (public_key_of (top_secret seed)) (public_key_of bottom)
    (signature_of (top_secret seed) j (public_key_of bottom))
    → IsValid (public_key_of bottom) message (signature_of bottom q message)
    → out ≡ hss_signature_of (top_secret seed) j bottom q message → IsHssValid key message out
unfolding hss_key_of hss_signature_of
valid-from seed bottom key message out j q is_key whole above below is = record {
  top = public_key_of (top_secret seed);
  top_signature = signature_of (top_secret seed) j (public_key_of bottom);
  bottom = public_key_of bottom;
  bottom_signature = signature_of bottom q message;
  is_public = sym is_key;
  is_signature = is;
  key_length = whole;
  signs_key = above;
  signs_message = below;
}

-- a test that fails, and one that comes to both signatures
and_no : (a b c d : Bool) → (a && false && b && c && d) ≡ false
and_no true b c d = refl
and_no false b c d = refl

and_short : (a b c d : Bool) → (a && b && false && c && d) ≡ false
and_short true true c d = refl
and_short true false c d = refl
and_short false b c d = refl

module _ (public message signature : List ℕ) where
  pub other_public : bytes_eq (take 4 public) (u32str 2) ≡ false → false ≡ is_hss_valid public message signature
  unfolding is_hss_valid
  other_public other = rw other refl

  pub other_signature : bytes_eq (take 4 signature) (u32str 1) ≡ false → false ≡ is_hss_valid public message signature
  other_signature other =
      let place = 4 + signature_length (types_of (drop 4 public)) in
      let bottom = slice_range signature place (place + 56) in
      sym (test-is public message signature place bottom refl refl ∙ rw other (and_no _ _ _ _))

  pub short_signature : (place : ℕ) → place ≡ 4 + signature_length (types_of (drop 4 public))
      → length signature < place + 56 → false ≡ is_hss_valid public message signature
  short_signature place is short =
      let bottom = slice_range signature place (place + 56) in
      sym (test-is public message signature place bottom is refl
      ∙ rw (lt-leb (place + 56) (length signature) short)
      (and_short (bytes_eq (take 4 public) (u32str 2)) (bytes_eq (take 4 signature) (u32str 1))
      (is_valid (drop 4 public) bottom (slice_range signature 4 place))
      (is_valid bottom message (drop (place + 56) signature))))

  pub tested : (place : ℕ) (top bottom first rest : List ℕ) (above : Bool)
      → place ≡ 4 + signature_length (types_of (drop 4 public))
      → top ≡ drop 4 public → bottom ≡ slice_range signature place (place + 56)
      → first ≡ slice_range signature 4 place → rest ≡ drop (place + 56) signature
      → bytes_eq (take 4 public) (u32str 2) ≡ true → bytes_eq (take 4 signature) (u32str 1) ≡ true
      → place + 56 ≤ length signature → above ≡ is_valid top bottom first
      → is_hss_valid public message signature ≡ (above && is_valid bottom message rest)
  tested place top bottom first rest above is top_is bottom_is first_is rest_is one two enough above_is =
      test-is public message signature place bottom is bottom_is
      ∙ rw (one, two, le-leb (place + 56) (length signature) enough, ← top_is, ← first_is, ← rest_is, ← above_is) refl
