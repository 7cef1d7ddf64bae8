-- The pool and the sealed trees as the operator keeps them.
use Rattle.std.specs.Prelude.{◌≡◌, ◌≤◌, ◌&&◌, not, ℕ, Bool, true, [], ◌∷◌, ◌++◌, if◌then◌else◌, List, length, map, reverse, Option, Some, None}
use Rattle.std.specs.HashMap.{HashMap, get}
use Rattle.std.specs.List.{All, AllByRecursion, filter_map, position_from}
use Rattle.std.specs.Str.{bytes_eq}
use Rattle.merkle_pages.specs.Nodes.{HashedMap}
use Rattle.sparse_merkle.specs.declared.tree.Entry.{Entry}
use Rattle.sparse_merkle.specs.TreeDigest.{leaf_of, root_of}
use Rattle.gate_journal.specs.Image.{most}
use Rattle.node_journal.specs.Role.{may_follow}
use Rattle.node_journal.specs.declared.stop.Stop.{Stop}
use Rattle.node_journal.specs.declared.stop.Stop.TheVariants.{Closed, NoMemory, DeviceFault}
use Rattle.operator_rules.specs.declared.refusal.OfferRefusal.{OfferRefusal}
use Rattle.operator_rules.specs.declared.refusal.OfferRefusal.TheVariants.{Closed as OfferClosed, NoMemory as OfferNoMemory, DeviceFault as OfferFault}
use Rattle.operator_rules.specs.declared.refusal.LayRefusal.{LayRefusal}
use Rattle.operator_rules.specs.declared.refusal.LayRefusal.TheVariants.{Closed as LayClosed, NoMemory as LayNoMemory, DeviceFault as LayFault}
use Rattle.operator_rules.specs.declared.refusal.SealRefusal.{SealRefusal}
use Rattle.operator_rules.specs.declared.refusal.SealRefusal.TheVariants.{Closed as SealClosed, NoMemory as SealNoMemory, DeviceFault as SealFault}
use Rattle.operator_rules.specs.Records.{Note, note_in, operator_kinds, who_is}
use Rattle.plasma_tx.specs.declared.call.RootCall.{RootCall}
use Rattle.operator_rules.specs.Trees.{Forest, has_leaf, is_root_committed}
use Rattle.operator_rules.specs.Commands.{forest_in}
use Rattle.operator_core.specs.declared.records.Who.{Who}
use Rattle.operator_core.specs.declared.ends.Ends.{Ends}
use Rattle.operator_core.specs.Texts.{identity_of_who, with_put}
use Rattle.operator_core.specs.Walked.{KeepsEnds}

-- what a pool is: the digest that it was made with, its leaves, and those that it will have once its last put is kept
pub record PoolState (H : Type 0) : Type 0 where
  pub hash : H
  pub entries : List Entry
  pub ahead : List Entry

-- what sealed trees are: the digest that each was made with, their leaves in the order of their seals, whether there is
-- room for one more, and the roots of the blocks over which walks ended
pub record TreesState (H : Type 0) : Type 0 where
  pub hash : H
  pub sealed : List (List Entry)
  pub has_room : Bool
  pub walked : List (Option (List ℕ))

-- the leaves of trees
abbrev pub entries_of : {H : Type 0} → List (HashedMap H) → List (List Entry)
entries_of trees = map (λ tree. tree.entries) trees

-- the place of the first tree with the root
abbrev pub place_of : (List ℕ → List ℕ) → List (List Entry) → List ℕ → Option ℕ
place_of dig sealed root = position_from (λ tree. bytes_eq (root_of dig tree) root) 0 sealed

-- what is found for another root, once a place was added for this one where there was none
abbrev pub with_place : List ℕ → ℕ → List ℕ → Option ℕ → Option ℕ
with_place root place other (Some found) = Some found
with_place root place other None = if bytes_eq root other then Some place else None

-- each tree was made with the digest, and the index gives for each root the place of the first tree with it
pub record KeepsTrees {H S : Type 0} (hash : H) (dig : List ℕ → List ℕ) (trees : List (HashedMap H))
    (index : HashMap (List ℕ) ℕ S) : Type 0 where
  pub hashes : All (λ tree. tree.hash ≡ hash) trees
  pub places : (root : List ℕ) → get bytes_eq index root ≡ place_of dig (entries_of trees) root

-- and each end that is kept is one by these trees
pub record KeepsWalks {H S : Type 0} (hash : H) (dig : List ℕ → List ℕ) (trees : List (HashedMap H))
    (index : HashMap (List ℕ) ℕ S) (ends : Ends) : Type 0 where
  pub kept : KeepsTrees hash dig trees index
  pub walks : KeepsEnds dig (entries_of trees) ends

-- the pool and the sealed trees, as the definitions have them
abbrev pub forest_now : {H : Type 0} → PoolState H → TreesState H → Forest
forest_now pool trees = record { pool = pool.entries; sealed = trees.sealed }

-- the notes that records spell for a chain with that tag, the newest first
abbrev pub notes_among : List ℕ → List (List ℕ) → List Note
notes_among tag records = reverse (filter_map (note_in tag) records)

-- each record fits a journal
abbrev pub FitJournal : List (List ℕ) → Type 0
FitJournal records = All (λ body. length body ≤ most) records

-- each leaf of a tree, and of each of these, fits a journal's record
abbrev pub HasShortLeaves : List Entry → Type 0
HasShortLeaves tree = (coin : ℕ) → length (leaf_of tree coin) ≤ most

abbrev pub AreShortTrees : List (List Entry) → Type 0
AreShortTrees sealed = AllByRecursion HasShortLeaves sealed

-- what an operator keeps beside its records is of them: the identity, the pool and the sealed trees; both were made
-- with its digest; and each record fits a journal
pub record IsRight {H : Type 0} (hash : H) (records : List (List ℕ)) (who : Who) (pool : PoolState H)
    (trees : TreesState H) : Type 0 where
  pub who_is : identity_of_who who ≡ who_is records
  pub pool_is : pool.entries ≡ (forest_in records).pool
  pub sealed_is : trees.sealed ≡ (forest_in records).sealed
  pub pool_hash : pool.hash ≡ hash
  pub trees_hash : trees.hash ≡ hash
  pub fits : FitJournal records

-- the record fits a journal, may be added to these, and does so much to what they leave
pub record AddsRecord (records : List (List ℕ)) (body : List ℕ) (put : Option (ℕ × List ℕ)) : Type 0 where
  pub fits : length body ≤ most
  pub kind : may_follow operator_kinds records body ≡ true
  pub who_stays : who_is (records ++ body ∷ []) ≡ who_is records
  pub forest : forest_in (records ++ body ∷ []) ≡ with_put put (forest_in records)

-- what a stop is for an offer, for a lay, and for a seal
abbrev pub offer_refusal : Stop → OfferRefusal
offer_refusal Closed = OfferClosed
offer_refusal NoMemory = OfferNoMemory
offer_refusal DeviceFault = OfferFault

abbrev pub lay_refusal : Stop → LayRefusal
lay_refusal Closed = LayClosed
lay_refusal NoMemory = LayNoMemory
lay_refusal DeviceFault = LayFault

abbrev pub seal_refusal : Stop → SealRefusal
seal_refusal Closed = SealClosed
seal_refusal NoMemory = SealNoMemory
seal_refusal DeviceFault = SealFault

-- the tree has a leaf of the coin, and a root that the log doesn't commit
abbrev pub is_outside : List RootCall → ℕ → (List ℕ → List ℕ) → List Entry → Bool
is_outside log coin dig tree = has_leaf tree coin && not (is_root_committed log (root_of dig tree))
