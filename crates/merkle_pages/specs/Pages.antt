-- Pages of 15 levels, five from the leaf up. A page is named by its number among the five and by the bits of the coins
-- above it. Its nodes are numbered as in a heap, in which 1 would be the node above the page.
use Rattle.std.specs.Prelude.{◌≡◌, ◌≢◌, ℕ, ◌+◌, ◌-◌, ◌*◌, ◌/◌, ◌%◌, ◌^◌, ◌<◌, ◌≤◌, List, [], length, slice_index_or, Option, Some, None, if◌then◌else◌}
use Rattle.std.specs.BTreeMap.{BTreeMap, get}
use Rattle.std.specs.Int.Bits.{bit_xor}
use Rattle.std.specs.Option.{option_and_then, unwrap_or}
use Rattle.std.specs.Ordering.{nat_cmp, ordering_then}
use Rattle.std.specs.Str.{bytes_eq}
use Rattle.std.specs.declared.cmp.Ordering.{Ordering}
use Rattle.merkle_pages.specs.declared.pages.PageName.{PageName}

-- the order of names
abbrev pub name_cmp : PageName → PageName → Ordering
name_cmp one other = ordering_then (nat_cmp one.number other.number) (nat_cmp one.bits other.bits)

-- the page of that number on the way up from a coin
abbrev pub name_in : ℕ → ℕ → PageName
name_in number coin = record { number = number; bits = coin / 2 ^ (15 * number + 15) }

-- the page of a level on the way up from a coin
abbrev pub name_at : ℕ → ℕ → PageName
name_at level coin = name_in (level / 15) coin

-- the place in its page of the node of a level on the way up from a coin
abbrev pub place_at : ℕ → ℕ → ℕ
place_at level coin = 2 ^ (15 - level % 15) + coin / 2 ^ level % 2 ^ (15 - level % 15)

-- what is kept of a digest: nothing where it is the default
abbrev pub kept_digest : List ℕ → List ℕ → Option (List ℕ)
kept_digest digest default = if bytes_eq digest default then None else Some digest

-- pages by their names, each with its nodes by their places
abbrev pub Paged : Type 0
Paged = BTreeMap PageName (BTreeMap ℕ (List ℕ))

-- the node that the pages keep under a name at a place
abbrev pub page_node : Paged → PageName → ℕ → Option (List ℕ)
page_node pages name place = option_and_then (λ page. get nat_cmp page place) (get name_cmp pages name)

-- the node that the pages keep at a level on the way up from a coin
abbrev pub node_at : ℕ → ℕ → Paged → Option (List ℕ)
node_at level coin pages = page_node pages (name_at level coin) (place_at level coin)

-- the node at a level on the way up from a coin, where these are the defaults
abbrev pub read_at : List (List ℕ) → ℕ → ℕ → Paged → List ℕ
read_at defaults level coin pages = unwrap_or (node_at level coin pages) (slice_index_or defaults level [])

-- the pages keep the same nodes
abbrev pub SameNodes : Paged → Paged → Type 0
SameNodes old new = (name : PageName) (place : ℕ) → page_node new name place ≡ page_node old name place

-- each node is the same, whether it is kept or the default of its level
abbrev pub ReadsSame : List (List ℕ) → Paged → Paged → Type 0
ReadsSame defaults old new = (level coin : ℕ) → level < 64
    → read_at defaults level coin new ≡ read_at defaults level coin old

-- this is kept under a name at a place, and elsewhere what was
pub record PutsNode (name : PageName) (place : ℕ) (kept : Option (List ℕ)) (old new : Paged) : Type 0 where
  pub here : page_node new name place ≡ kept
  pub elsewhere : (other : PageName) (spot : ℕ) → (other ≡ name → spot ≢ place)
      → page_node new other spot ≡ page_node old other spot

-- the same of the node at a level on the way up from a coin
abbrev pub PutsAt : ℕ → ℕ → Option (List ℕ) → Paged → Paged → Type 0
PutsAt level coin kept old new = PutsNode (name_at level coin) (place_at level coin) kept old new

-- the nodes on the way up from a coin below that level are these digests, and each other node is what it was
pub record SetsWay (coin level : ℕ) (digests defaults : List (List ℕ)) (old new : Paged) : Type 0 where
  pub here : (k other : ℕ) → k < level → k < 64 → other / 2 ^ k ≡ coin / 2 ^ k
      → read_at defaults k other new ≡ slice_index_or digests k []
  pub elsewhere : (k other : ℕ) → k < 64 → (k < level → other / 2 ^ k ≢ coin / 2 ^ k)
      → read_at defaults k other new ≡ read_at defaults k other old

-- the sibling at each of these levels on the way up from a coin is the node that the page of that number keeps, and
-- where it keeps none what stood there; at all other levels the same stands there
pub record TakesSiblings (pages : Paged) (number coin low high : ℕ) (old new : List (List ℕ)) : Type 0 where
  pub long : length new ≡ length old
  pub taken : (level : ℕ) → low ≤ level → level < high
      → slice_index_or new level [] ≡ unwrap_or (page_node pages (name_in number coin) (place_at level
      (bit_xor coin (2 ^ level)))) (slice_index_or old level [])
  pub stays : (level : ℕ) → (low ≤ level → level < high → ⊥)
      → slice_index_or new level [] ≡ slice_index_or old level []
