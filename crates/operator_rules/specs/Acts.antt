-- An operator that keeps to the rules, what its bundles are then, and what its commands' records are.
use Rattle.std.specs.Prelude.{◌≡◌, ℕ, ◌+◌, ◌^◌, ◌<◌, true, List, [], ◌∷◌, ◌++◌, filter, length, Some, Ok}
use Rattle.std.specs.List.{Contains}
use Rattle.std.specs.Str.{bytes_eq}
use Rattle.node_journal.specs.Role.{are_of, may_follow}
use Rattle.sparse_merkle.specs.{declared.tree.Entry.{Entry}, TreeDigest.{leaf_of, root_of}}
use Rattle.plasma_tx.specs.{declared.owner.Owner.{Owner}, declared.signed_tx.SignedTx.{SignedTx}, declared.links.Links.{Links}, declared.call.RootCall.{RootCall}, declared.call.RootCall.TheVariants.{Commit}}
use Rattle.plasma_tx.specs.{declared.views.CoinView.{CoinView}, Links.{last_owner_of}, Spelling.{signed_in, AreBytes}, Transfer.{may_stand_in}, Views.{blocks, coin_at}, Shown.{Rules, tests_by}}
use Rattle.coin_history.specs.{declared.bundle.Bundle.{Bundle}, Bundles.{IsBundle}, Checking.{history_of}}
use Rattle.operator_rules.specs.{Records.{Note, Offered, Laid, Sealed, operator_kinds, who_is, notes_of}, Trees.{forest_of, tree_of, commits}, Walk.{place_at, present}, Commands.{offer_of, offer_effect, lay_effect, seal_effect, bundle_of}}

-- ---- what happens, the newest first

-- a call joined the log, or a command of the operator left a record
pub data Act : Type 0 where
  Called : RootCall → Act
  Kept : Note → Act

-- the log, and the operator's notes
unfoldable pub log_of : List Act → List RootCall
log_of [] = []
log_of (Called call ∷ acts) = call ∷ log_of acts
log_of (Kept note ∷ acts) = log_of acts

unfoldable pub kept_notes : List Act → List Note
kept_notes [] = []
kept_notes (Called call ∷ acts) = kept_notes acts
kept_notes (Kept note ∷ acts) = note ∷ kept_notes acts

-- the trees that were sealed
abbrev pub sealed_in : List Act → List (List Entry)
sealed_in acts = (forest_of (kept_notes acts)).sealed

-- ---- what is supposed

-- how often the log commits a root, and how many sealed trees have it
abbrev pub times_committed : List RootCall → List ℕ → ℕ
times_committed log root = length (filter (commits root) log)

abbrev pub times_sealed : (List ℕ → List ℕ) → List (List Entry) → List ℕ → ℕ
times_sealed dig sealed root = length (filter (λ tree. bytes_eq (root_of dig tree) root) sealed)

-- no transfer in the tree of the root is past its last block in block n
abbrev pub IsInTime : (List ℕ → List ℕ) → List ℕ → List (List Entry) → List ℕ → ℕ → Type 0
IsInTime dig tag sealed root n = (tree : List Entry) (coin : ℕ) (tx : SignedTx)
    → tree_of dig sealed root ≡ Some tree → signed_in tag (leaf_of tree coin) ≡ Ok tx
    → may_stand_in n tx.body.last ≡ true

-- An offered transfer is one that the offer took; nothing is laid.
abbrev pub IsHonestNote : (List ℕ → List ℕ) → List ℕ → List Act → Note → Type 0
IsHonestNote dig tag acts (Offered bytes) =
    AreBytes bytes
    × ((coin : ℕ)
    × ((offer_of dig tag (log_of acts) (forest_of (kept_notes acts)) bytes (signed_in tag bytes)).answer ≡ Ok coin))
IsHonestNote dig tag acts (Laid coin bytes) = ⊥
IsHonestNote dig tag acts Sealed = Unit {0}

-- A root is committed at most as often as a tree with it was sealed before, and in time. So it is where only seals'
-- commits are entered, each at most once.
abbrev pub IsHonestCall : (List ℕ → List ℕ) → List ℕ → List Act → RootCall → Type 0
IsHonestCall dig tag acts (Commit account root) =
    (times_committed (log_of acts) root < times_sealed dig (sealed_in acts) root)
    × IsInTime dig tag (sealed_in acts) root (blocks (log_of acts) + 1)
IsHonestCall dig tag acts call = Unit {0}

unfoldable pub IsHonest : (List ℕ → List ℕ) → List ℕ → List Act → Type 0
IsHonest dig tag [] = Unit {0}
IsHonest dig tag (Called call ∷ acts) = IsHonestCall dig tag acts call × IsHonest dig tag acts
IsHonest dig tag (Kept note ∷ acts) = IsHonestNote dig tag acts note × IsHonest dig tag acts

-- no two sealed trees with different leaves have one root
abbrev pub AreDistinct : (List ℕ → List ℕ) → List (List Entry) → Type 0
AreDistinct dig sealed = (one other : List Entry) (coin : ℕ) → Contains sealed one → Contains sealed other
    → root_of dig one ≡ root_of dig other → leaf_of one coin ≡ leaf_of other coin

-- ---- what follows

-- the bundle for a tip: it has bytes, and it is a history that ends with this owner
pub record IsGoodBundle (dig : List ℕ → List ℕ) (rules : Rules) (acts : List Act) (coin tip : ℕ) (owner : Owner)
    : Type 0 where
  pub bundle : Bundle
  pub links : Links
  pub made : bundle_of dig rules.tag (log_of acts) (sealed_in acts) coin tip (coin_at (log_of acts) coin) ≡ Ok bundle
  pub is_bundle : IsBundle bundle
  pub is_history : history_of (tests_by dig) rules (log_of acts) bundle ≡ Ok links
  pub ends_with : last_owner_of links ≡ owner

-- At a tip that the walk passed, or at the deposit, an honest operator's bundle is a history that ends with the walk's
-- owner there.
abbrev pub BundlesAreHistories : Type 0
BundlesAreHistories = (dig : List ℕ → List ℕ) (rules : Rules) (acts : List Act) (coin tip : ℕ) (made : CoinView)
    → ((bytes : List ℕ) → length (dig bytes) ≡ 32)
    → coin < 2 ^ 64 → blocks (log_of acts) < 2 ^ 32
    → IsHonest dig rules.tag acts → AreDistinct dig (sealed_in acts)
    → coin_at (log_of acts) coin ≡ Some made
    → (place_at dig rules.tag (log_of acts) (sealed_in acts) coin made tip).block ≡ tip
    → IsGoodBundle dig rules acts coin tip
    (place_at dig rules.tag (log_of acts) (sealed_in acts) coin made tip).owner

-- The tip 0 asks for the bundle of the present tip.
abbrev pub ZeroAsksForThePresentTip : Type 0
ZeroAsksForThePresentTip = (dig : List ℕ → List ℕ) (tag : List ℕ) (log : List RootCall) (sealed : List (List Entry))
    (coin : ℕ) (made : CoinView) → coin_at log coin ≡ Some made
    → bundle_of dig tag log sealed coin 0 (coin_at log coin)
    ≡ bundle_of dig tag log sealed coin (present dig tag log sealed coin made).block (coin_at log coin)

-- An honest operator's bundle for the tip 0 is a history up to the present tip, and ends with the owner there.
abbrev pub PresentBundlesAreHistories : Type 0
PresentBundlesAreHistories = (dig : List ℕ → List ℕ) (rules : Rules) (acts : List Act) (coin : ℕ) (made : CoinView)
    → ((bytes : List ℕ) → length (dig bytes) ≡ 32)
    → coin < 2 ^ 64 → blocks (log_of acts) < 2 ^ 32
    → IsHonest dig rules.tag acts → AreDistinct dig (sealed_in acts)
    → coin_at (log_of acts) coin ≡ Some made
    → IsGoodBundle dig rules acts coin 0 (present dig rules.tag (log_of acts) (sealed_in acts) coin made).owner

-- ---- the role

-- The record that a command adds to the operator's records is one of the operator's kinds.
abbrev pub CommandsKeepTheRole : Type 0
CommandsKeepTheRole = (dig : List ℕ → List ℕ) (records : List (List ℕ)) (log : List RootCall) (coin : ℕ)
    (bytes body : List ℕ) → are_of operator_kinds records ≡ true
    → ((offer_effect dig records log bytes).note ≡ Some body → may_follow operator_kinds records body ≡ true)
    × ((lay_effect coin bytes).note ≡ Some body → may_follow operator_kinds records body ≡ true)
    × ((seal_effect dig records).note ≡ Some body → may_follow operator_kinds records body ≡ true)

-- It is read as the command's note behind the notes that were there, and the identity stays.
abbrev pub CommandsAddTheirNotes : Type 0
CommandsAddTheirNotes = (dig : List ℕ → List ℕ) (records : List (List ℕ)) (log : List RootCall) (coin : ℕ)
    (bytes body : List ℕ) → are_of operator_kinds records ≡ true → coin < 2 ^ 64
    → (who_is (records ++ body ∷ []) ≡ who_is records)
    × ((offer_effect dig records log bytes).note ≡ Some body
    → notes_of (records ++ body ∷ []) ≡ Offered bytes ∷ notes_of records)
    × ((lay_effect coin bytes).note ≡ Some body
    → notes_of (records ++ body ∷ []) ≡ Laid coin bytes ∷ notes_of records)
    × ((seal_effect dig records).note ≡ Some body → notes_of (records ++ body ∷ []) ≡ Sealed ∷ notes_of records)
