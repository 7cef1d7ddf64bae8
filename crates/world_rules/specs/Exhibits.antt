-- What a trace shows that excuses a loss: two byte strings with one digest, or a valid signature that its honest key
-- never made.
use Rattle.std.specs.Prelude.{ℕ, ◌+◌, ◌==◌, ◌&&◌, ◌||◌, not, Bool, false, if◌then◌else◌, List, [], ◌∷◌, ◌++◌, length, find, nat_eq, Option, Some, None, option_map, Result, Ok, Err}
use Rattle.std.specs.List.{list_any, flat_map}
use Rattle.std.specs.Option.{option_eq, option_or}
use Rattle.std.specs.Str.{bytes_eq}
use Rattle.sparse_merkle.specs.{MaskedPath.{proof_path}, Opening.{hashed_strings}}
use Rattle.plasma_tx.specs.{declared.owner.Owner.{Owner}, declared.body.Body.{Body}, declared.signed_tx.SignedTx.{SignedTx}, declared.opening.RawOpening.{RawOpening}, declared.opening.Opening.{Opening}}
use Rattle.plasma_tx.specs.{declared.opening.OpeningRefusal.{OpeningRefusal}, Openings.{opening_in, leaf_in}, Transfer.{transfer_in, is_signed_by}}
use Rattle.coin_history.specs.declared.bundle.Bundle.{Bundle}
use Rattle.watch_duty.specs.Laws.{openings_of_call}
use Rattle.wallet_core.specs.State.{is_owner}
use Rattle.world_rules.specs.{declared.verdict.Exhibit.{Exhibit}, Events.{Event, Joins, Accepts, Guards, TakesBack, wallet_owner, wallets, bound_by, coin_of_call}}

-- ---- openings

-- the openings of a bundle, where it is of the coin
abbrev pub openings_of_bundle : ℕ → Bundle → List RawOpening
openings_of_bundle c bundle = if bundle.coin == c then bundle.openings else []

-- the openings of a coin that an event accepts: those of a call that joins the log, the parent's first, and of a
-- bundle that a node takes
unfoldable pub openings_of : ℕ → Event → List RawOpening
openings_of c (Joins call) = openings_of_call c call
openings_of c (Accepts w bundle) = openings_of_bundle c bundle
openings_of c (Guards g bundle) = openings_of_bundle c bundle
openings_of c (TakesBack w q bundle) = openings_of_bundle c bundle
openings_of c event = []

-- the coin whose openings an event accepts; 0, which is no coin, for one that accepts none
unfoldable pub coin_of : Event → ℕ
coin_of (Joins call) = coin_of_call call
coin_of (Accepts w bundle) = bundle.coin
coin_of (Guards g bundle) = bundle.coin
coin_of (TakesBack w q bundle) = bundle.coin
coin_of event = 0

-- the openings of a coin that were accepted, those of the newest event first
unfoldable pub seen : List Event → ℕ → List RawOpening
seen [] c = []
seen (event ∷ events) c = openings_of c event ++ seen events c

-- ---- collisions

-- the strings that are digested on the way up from an opening's leaf; none of one that isn't read
abbrev pub strings_up : (List ℕ → List ℕ) → ℕ → Result Opening OpeningRefusal → List (List ℕ)
strings_up dig c (Err why) = []
strings_up dig c (Ok opening) = hashed_strings dig c opening.leaf (proof_path dig opening.proof)

abbrev pub strings_in : (List ℕ → List ℕ) → ℕ → RawOpening → List (List ℕ)
strings_in dig c raw = strings_up dig c (opening_in dig raw)

-- the strings of openings of a coin
unfoldable pub strings_of : (List ℕ → List ℕ) → ℕ → List RawOpening → List (List ℕ)
strings_of dig c openings = flat_map (strings_in dig c) openings

-- the strings differ and have one digest
abbrev pub do_clash : (List ℕ → List ℕ) → List ℕ → List ℕ → Bool
do_clash dig one other = not (bytes_eq one other) && bytes_eq (dig one) (dig other)

-- two of the strings differ and have one digest
unfoldable pub has_clash : (List ℕ → List ℕ) → List (List ℕ) → Bool
has_clash dig [] = false
has_clash dig (string ∷ strings) = list_any (do_clash dig string) strings || has_clash dig strings

-- among the accepted openings of the coin are two strings with one digest
unfoldable pub collides : (List ℕ → List ℕ) → List Event → ℕ → Bool
collides dig events c = has_clash dig (strings_of dig c (seen events c))

-- the strings of all openings that an event accepts
abbrev pub strings_shown : (List ℕ → List ℕ) → Event → List (List ℕ)
strings_shown dig event = strings_of dig (coin_of event) (openings_of (coin_of event) event)

-- all strings, of whatever coin, in the order of the lines
unfoldable pub all_strings : (List ℕ → List ℕ) → List Event → List (List ℕ)
all_strings dig [] = []
all_strings dig (event ∷ events) = all_strings dig events ++ strings_shown dig event

-- two strings with one digest, in the order in which they came
pub record Pair : Type 0 where
  pub first : List ℕ
  pub second : List ℕ

-- the earliest of these strings that differs from this one and has its digest, before it
abbrev pub clash_with : (List ℕ → List ℕ) → List (List ℕ) → List ℕ → Option Pair
clash_with dig earlier string =
    option_map (λ first. record { first = first; second = string }) (find (λ other. do_clash dig other string) earlier)

-- The second is the first of the strings whose digest is that of an earlier, different one, and the first is the
-- earliest such. The strings before these are `earlier`.
unfoldable pub first_clash : (List ℕ → List ℕ) → List (List ℕ) → List (List ℕ) → Option Pair
first_clash dig earlier [] = None
first_clash dig earlier (string ∷ strings) =
    option_or (clash_with dig earlier string) (first_clash dig (earlier ++ string ∷ []) strings)

-- ---- forgeries

-- the bodies are one: they have the same fields
abbrev pub is_same_body : Body → Body → Bool
is_same_body one other =
    bytes_eq one.tag other.tag && (one.coin == other.coin) && (one.parent == other.parent)
    && is_owner one.to other.to && option_eq nat_eq one.last other.last

-- the owner signed the transfer, whose body isn't one of these
abbrev pub forges_transfer : Owner → List Body → Option SignedTx → Bool
forges_transfer me bodies None = false
forges_transfer me bodies (Some tx) = is_signed_by tx me && not (list_any (is_same_body tx.body) bodies)

-- the opening's leaf is a transfer of its block, with this tag and coin, that the owner signed, over another body
abbrev pub forges : List ℕ → ℕ → Owner → List Body → RawOpening → Bool
forges tag c me bodies opening =
    forges_transfer me bodies (transfer_in tag c opening.block (leaf_in opening.bytes))

-- openings of a coin show a forgery of the wallet's signature, where the wallet was declared before
abbrev pub forges_one : List ℕ → Option Owner → List Body → ℕ → List RawOpening → Bool
forges_one tag None bodies c openings = false
forges_one tag (Some me) bodies c openings = list_any (forges tag c me bodies) openings

-- An event behind others shows a signature that is valid under the wallet's key, over a body that no leaf of the
-- wallet had bound; the wallet was declared before.
abbrev pub shows_forgery : List ℕ → List Event → ℕ → ℕ → List RawOpening → Bool
shows_forgery tag events w c openings = forges_one tag (wallet_owner events w) (bound_by events w) c openings

-- an accepted opening of the coin shows such a signature
unfoldable pub is_forged : List ℕ → List Event → ℕ → ℕ → Bool
is_forged tag [] w c = false
is_forged tag (event ∷ events) w c =
    shows_forgery tag events w c (openings_of c event) || is_forged tag events w c

-- an event behind others shows a forgery of some wallet's signature, at any coin
abbrev pub forges_some : List ℕ → List Event → Event → Bool
forges_some tag events event =
    list_any (λ w. shows_forgery tag events w (coin_of event) (openings_of (coin_of event) event)) (wallets events)

-- the number of the first line that shows one
unfoldable pub first_forgery : List ℕ → List Event → Option ℕ
first_forgery tag [] = None
first_forgery tag (event ∷ events) =
    option_or (first_forgery tag events)
    (if forges_some tag events event then Some (length events + 1) else None)

-- ---- the exhibit

-- a forgery in this line, or nothing; a collision, or another exhibit
abbrev pub forgery_or : Option ℕ → Exhibit
forgery_or None = Exhibit.Nothing
forgery_or (Some line) = Exhibit.Forgery line

abbrev pub collision_or : Option Pair → Exhibit → Exhibit
collision_or None other = other
collision_or (Some pair) other = Exhibit.Collision pair.first pair.second

-- the first of these that the trace shows: a collision, a forgery, or neither
unfoldable pub exhibit_of : (List ℕ → List ℕ) → List ℕ → List Event → Exhibit
exhibit_of dig tag events =
    collision_or (first_clash dig [] (all_strings dig events)) (forgery_or (first_forgery tag events))
