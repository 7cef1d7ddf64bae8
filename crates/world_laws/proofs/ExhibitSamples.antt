-- Small lists of events on which what they exhibit is computed, under digests that two strings share and under one
-- that none do. A valid signature takes SHA-256, which isn't computed here: so no list here shows a forgery.
use Rattle.world_laws.proofs.Basics.{◌≡◌, ℕ, ◌+◌, ◌&&◌, ◌||◌, not, Bool, true, false, List, [], ◌∷◌, ◌++◌, refl, ap, ◌∙◌, slice_index_or, list_any, bytes_eq}
use Rattle.world_laws.proofs.CoinWords.{height, chains, u32_at, set_bits, siblings_in, proof_in, proof_path, lowest_default, hashed_string, hashed_strings, subtree_digest, RawOpening, AtDeposit, RootCall, StartSpend, owner_text, body_text, owner_in, body_in, signed_in, leaf_in, opening_in, transfer_in, is_signed_by}
use Rattle.world_laws.proofs.WorldWords.{Exhibit, Event, Joins, Bounces, Accepts, Guards, wallet_owner, wallets, bound_by, openings_of, coin_of, seen, strings_of, do_clash, has_clash, collides, all_strings, first_clash, is_forged, first_forgery, exhibit_of}
use Rattle.lms_sign.specs.Valid.{is_valid}
use Rattle.world_laws.proofs.Samples.{tag, opened, watched_loss, shown_loss}
use Rattle.world_laws.proofs.OwnExitSamples.{own_cancelled}

-- ---- digests and openings

-- the digest that reads a string's second byte alone, so that two leaves with one first byte share it
abbrev pub second_byte : List ℕ → List ℕ
second_byte string = (slice_index_or string 1 0 + 1) ∷ []

-- the digest that all strings share
abbrev pub shared : List ℕ → List ℕ
shared string = []

-- the digest that is the string itself, which no two share
abbrev pub itself : List ℕ → List ℕ
itself string = string

-- a wallet accepts these openings of coin 1, and a watcher takes them
abbrev pub accepts : List RawOpening → Event
accepts openings = Accepts 1 (record { coin = 1; tip = 3; openings = openings })

abbrev pub guards : List RawOpening → Event
guards openings = Guards 2 (record { coin = 1; tip = 3; openings = openings })

-- two openings whose leaves differ in the last byte alone
abbrev pub first : List RawOpening
first = opened 2 99 1 ∷ []

abbrev pub second : List RawOpening
second = opened 3 99 2 ∷ []

-- ---- collisions

-- one opening has no two strings with one digest
pub one-opening : collides second_byte (accepts first ∷ []) 1 ≡ false
unfolding collides has_clash strings_of seen openings_of opening_in leaf_in proof_in set_bits siblings_in
    lowest_default proof_path hashed_string hashed_strings subtree_digest
one-opening = refl

-- two whose leaves differ in the last byte alone have: at their coin, and at no other
pub two-openings : collides second_byte (accepts (first ++ second) ∷ []) 1 ≡ true
unfolding collides has_clash strings_of seen openings_of opening_in leaf_in proof_in set_bits siblings_in
    lowest_default proof_path hashed_string hashed_strings subtree_digest
two-openings = refl

pub two-openings-other-coin : collides second_byte (accepts (first ++ second) ∷ []) 2 ≡ false
unfolding collides has_clash strings_of seen openings_of opening_in leaf_in proof_in set_bits siblings_in
    lowest_default proof_path hashed_string hashed_strings subtree_digest
two-openings-other-coin = refl

-- the two came by two events: to a wallet and a watcher, or to a wallet and the contract
abbrev pub to_nodes : List Event
to_nodes = guards second ∷ accepts first ∷ []

pub two-nodes : collides second_byte to_nodes 1 ≡ true
unfolding collides has_clash strings_of seen openings_of opening_in leaf_in proof_in set_bits siblings_in
    lowest_default proof_path hashed_string hashed_strings subtree_digest
two-nodes = refl

-- a start that shows the second
abbrev pub shows_second : RootCall
shows_second = StartSpend 30 1 (AtDeposit 1) (opened 3 99 2)

pub node-and-contract : collides second_byte (Joins shows_second ∷ accepts first ∷ []) 1 ≡ true
unfolding collides has_clash strings_of seen openings_of opening_in leaf_in proof_in set_bits siblings_in
    lowest_default proof_path hashed_string hashed_strings subtree_digest
node-and-contract = refl

-- what the contract refused doesn't count
pub node-and-refused : collides second_byte (Bounces shows_second ∷ accepts first ∷ []) 1 ≡ false
unfolding collides has_clash strings_of seen openings_of opening_in leaf_in proof_in set_bits siblings_in
    lowest_default proof_path hashed_string hashed_strings subtree_digest
node-and-refused = refl

-- the exhibit is those two strings, in the order in which they came
pub two-nodes-exhibit : exhibit_of second_byte tag to_nodes
    ≡ Exhibit.Collision (1 ∷ 99 ∷ 1 ∷ []) (1 ∷ 99 ∷ 2 ∷ [])
unfolding exhibit_of first_clash all_strings coin_of first_forgery openings_of strings_of wallets wallet_owner
    bound_by owner_text body_text owner_in body_in signed_in transfer_in is_signed_by is_valid height chains u32_at
    opening_in leaf_in proof_in set_bits siblings_in lowest_default proof_path hashed_string hashed_strings
    subtree_digest
two-nodes-exhibit = refl

-- where all strings share a digest, a leaf's string and that of the node above it do
pub shared-one-opening : collides shared (accepts first ∷ []) 1 ≡ true
unfolding collides has_clash strings_of seen openings_of opening_in leaf_in proof_in set_bits siblings_in
    lowest_default proof_path hashed_string hashed_strings subtree_digest
shared-one-opening = refl

-- ---- what no two strings share

-- a value isn't both false and true
pub not-both : (b : Bool) → (not b && b) ≡ false
not-both true = refl
not-both false = refl

-- no string clashes with one of these
pub none-with : (string : List ℕ) (strings : List (List ℕ)) → list_any (do_clash itself string) strings ≡ false
none-with string [] = refl
none-with string (other ∷ strings) =
    ap (λ b. b || list_any (do_clash itself string) strings) (not-both (bytes_eq string other))
    ∙ none-with string strings

pub none-among : (strings : List (List ℕ)) → has_clash itself strings ≡ false
unfolding has_clash
none-among [] = refl
none-among (string ∷ strings) = ap (λ b. b || has_clash itself strings) (none-with string strings) ∙ none-among strings

-- under a digest that no two strings share no events show a collision
pub itself-never : (events : List Event) (c : ℕ) → collides itself events c ≡ false
unfolding collides
itself-never events c = none-among (strings_of itself c (seen events c))

-- ---- losses

-- the loss that the wallet watched: its start shows nothing, so nothing is exhibited, by whatever digest
pub watched-loss-collides : (dig : List ℕ → List ℕ) → collides dig watched_loss 1 ≡ false
unfolding collides has_clash strings_of seen openings_of opening_in leaf_in proof_in set_bits siblings_in
    lowest_default proof_path hashed_string hashed_strings subtree_digest
watched-loss-collides dig = refl

pub watched-loss-forged : is_forged tag watched_loss 1 1 ≡ false
unfolding is_forged openings_of wallet_owner bound_by owner_text body_text owner_in body_in signed_in leaf_in
    transfer_in is_signed_by is_valid height chains u32_at
watched-loss-forged = refl

pub watched-loss-exhibit : (dig : List ℕ → List ℕ) → exhibit_of dig tag watched_loss ≡ Exhibit.Nothing
unfolding exhibit_of first_clash all_strings coin_of first_forgery openings_of strings_of wallets wallet_owner
    bound_by owner_text body_text owner_in body_in signed_in transfer_in is_signed_by is_valid height chains u32_at
    opening_in leaf_in proof_in set_bits siblings_in lowest_default proof_path hashed_string hashed_strings
    subtree_digest
watched-loss-exhibit dig = refl

-- where its start shows an opening, and all strings share a digest, the loss exhibits
pub shown-loss-collides : collides shared shown_loss 1 ≡ true
unfolding collides has_clash strings_of seen openings_of opening_in leaf_in proof_in set_bits siblings_in
    lowest_default proof_path hashed_string hashed_strings subtree_digest
shown-loss-collides = refl

pub shown-loss-exhibit : exhibit_of shared tag shown_loss ≡ Exhibit.Collision (1 ∷ 99 ∷ 1 ∷ []) (2 ∷ [])
unfolding exhibit_of first_clash all_strings coin_of first_forgery openings_of strings_of wallets wallet_owner
    bound_by owner_text body_text owner_in body_in signed_in transfer_in is_signed_by is_valid height chains u32_at
    opening_in leaf_in proof_in set_bits siblings_in lowest_default proof_path hashed_string hashed_strings
    subtree_digest
shown-loss-exhibit = refl

-- the wallet's exit that a spend without a signature cancelled: `lax` passes it, and no contract does; so it is no
-- forgery, and nothing is exhibited
pub own-cancelled-forged : is_forged tag own_cancelled 1 1 ≡ false
unfolding is_forged openings_of wallet_owner bound_by owner_text body_text owner_in body_in signed_in leaf_in
    transfer_in is_signed_by is_valid height chains u32_at
own-cancelled-forged = refl

pub own-cancelled-exhibit : (dig : List ℕ → List ℕ) → exhibit_of dig tag own_cancelled ≡ Exhibit.Nothing
unfolding exhibit_of first_clash all_strings coin_of first_forgery openings_of strings_of wallets wallet_owner
    bound_by owner_text body_text owner_in body_in signed_in transfer_in is_signed_by is_valid height chains u32_at
    opening_in leaf_in proof_in set_bits siblings_in lowest_default proof_path hashed_string hashed_strings
    subtree_digest
own-cancelled-exhibit dig = refl
