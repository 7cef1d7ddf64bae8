-- Inside: what an archive carries forward of a coin, so that it looks at no kept opening again.
use Rattle.std.specs.Prelude.{◌≡◌, ℕ, ◌+◌, ◌-◌, ◌<◌, ◌^◌, ◌&&◌, ◌||◌, true, if◌then◌else◌, List, [], ◌∷◌, ◌++◌, length, map, reverse, slice_get, Option, Some, None, is_some}
use Rattle.std.specs.List.{All}
use Rattle.std.specs.Option.{option_map_or, unwrap_or}
use Rattle.std.specs.Ordering.{nat_cmp}
use Rattle.std.specs.BTreeMap.{BTreeMap, get}
use Rattle.sparse_merkle.specs.TreeDigest.{AreDefaults}
use Rattle.plasma_tx.specs.{declared.owner.Owner.{Owner}, declared.opening.RawOpening.{RawOpening}, declared.signed_tx.SignedTx.{SignedTx}, declared.links.Link.{Link}, declared.links.Links.{Links}, declared.call.RootCall.{RootCall}}
use Rattle.plasma_tx.specs.{declared.views.CoinView.{CoinView}, Chain.{Chain}, Links.{tip_of, last_owner_of}, Views.{coin_at}, Shown.{Tests, Rules, tests_by, rules_of, spends, signs}}
use Rattle.coin_history.specs.{History.{blocks_of, committed_blocks, opens_block, is_absent, transfer_of}, Checking.{is_asked}, Inside.{links_with, NoneIsAsked}}
use Rattle.proof_archive.specs.{declared.coin.LinkEnd.{LinkEnd}, declared.coin.Move.{Move}, declared.coin.Move.TheVariants.{Stays, Links as MovesTo, Breaks}, Scan.{newest_block}}

-- ---- the links and the broken block, opening by opening

-- what is carried of a coin behind its kept openings: its links, and the block at which they broke, if they did
pub record Carried : Type 0 where
  pub spends : List Link
  pub broken : Option ℕ

-- the transfer, where it spends the last of these links and its owner signed it
abbrev pub next_tx : Tests → Links → Option SignedTx → Option SignedTx
next_tx tests links tx =
    if spends (tip_of links) tx && signs tests (Some (last_owner_of links)) tx then tx else None

-- what is carried after an opening whose leaf isn't empty, with its transfer where that is the next
abbrev pub moved : Carried → RawOpening → Option SignedTx → Carried
moved carried opening None = record carried { broken = Some opening.block }
moved carried opening (Some tx) =
    record carried { spends = carried.spends ++ record { block = opening.block; tx = tx; opening = opening } ∷ [] }

-- and after any opening
abbrev pub step : Tests → Rules → ℕ → CoinView → Carried → RawOpening → Carried
step tests rules coin made carried opening =
    if is_absent opening || is_some carried.broken then carried
    else moved carried opening
    (next_tx tests (links_with coin made carried.spends) (transfer_of rules coin opening))

-- after openings, the newest first
unfoldable pub carried_by : Tests → Rules → ℕ → CoinView → List RawOpening → Carried
carried_by tests rules coin made [] = record { spends = []; broken = None }
carried_by tests rules coin made (opening ∷ older) =
    step tests rules coin made (carried_by tests rules coin made older) opening

-- ---- what is kept of a coin

-- Openings, the newest first, are of the first committed blocks after the deposit, and each opens its root.
unfoldable pub AreKept : Tests → List RootCall → ℕ → CoinView → List RawOpening → Type 0
AreKept tests log coin made [] = Unit {0}
AreKept tests log coin made (opening ∷ older) =
    (newest_block made.deposit older < opening.block)
    × (blocks_of (reverse (opening ∷ older)) ≡ committed_blocks log made.deposit opening.block)
    × (opens_block tests log coin opening ≡ true) × AreKept tests log coin made older

-- block n is the next one to be kept behind the newest: a committed one after the deposit, within the limit of a log's
-- blocks, with none between
pub record IsNextPlace (log : List RootCall) (deposit newest n : ℕ) : Type 0 where
  pub asked : is_asked log deposit n n ≡ true
  pub narrow : n < 2 ^ 32
  pub past : newest < n
  pub none : NoneIsAsked (is_asked log newest n) 0 n

-- the openings of a coin, where its links lead, and its broken block
pub record CoinCell : Type 0 where
  pub openings : List RawOpening
  pub ends : List LinkEnd
  pub broken : Option ℕ

abbrev pub no_cell : CoinCell
no_cell = record { openings = []; ends = []; broken = None }

-- where a link leads
abbrev pub end_of : Link → LinkEnd
end_of link = record { block = link.block; owner = link.tx.body.to }

-- the tip and the last owner, by where the links lead
abbrev pub tip_in : ℕ → List LinkEnd → ℕ
tip_in deposit ends = option_map_or (λ end. end.block) (slice_get ends (length ends - 1)) deposit

abbrev pub owner_in : Owner → List LinkEnd → Owner
owner_in owner ends = option_map_or (λ end. end.owner) (slice_get ends (length ends - 1)) owner

-- how an opening that is no empty leaf moves a cell, with its transfer where that is the next
abbrev pub move_by : RawOpening → Option SignedTx → Move
move_by opening None = Breaks
move_by opening (Some tx) = MovesTo (record { block = opening.block; owner = tx.body.to })

-- the transfer, where it spends the block where the links lead and the owner there signed it
abbrev pub next_in : Tests → CoinView → CoinCell → Option SignedTx → Option SignedTx
next_in tests made cell tx =
    if spends (tip_in made.deposit cell.ends) tx && signs tests (Some (owner_in made.owner cell.ends)) tx then tx
    else None

-- how any opening moves it
abbrev pub move_of : Tests → Rules → ℕ → CoinView → CoinCell → RawOpening → Move
move_of tests rules coin made cell opening =
    if is_absent opening || is_some cell.broken then Stays
    else move_by opening (next_in tests made cell (transfer_of rules coin opening))

-- where the links lead after a move, and the broken block
abbrev pub ends_with : Move → List LinkEnd → List LinkEnd
ends_with Stays ends = ends
ends_with (MovesTo end) ends = ends ++ end ∷ []
ends_with Breaks ends = ends

abbrev pub broken_with : Move → ℕ → Option ℕ → Option ℕ
broken_with Stays block broken = broken
broken_with (MovesTo end) block broken = broken
broken_with Breaks block broken = Some block

-- the cell with one more opening, which moves it so
abbrev pub with_opening : CoinCell → RawOpening → Move → CoinCell
with_opening cell opening change = record {
  openings = cell.openings ++ opening ∷ [];
  ends = ends_with change cell.ends;
  broken = broken_with change opening.block cell.broken;
}

-- a bundle of the openings has bytes: their number and each one's length fit their fields
pub record AreSpellable (openings : List RawOpening) : Type 0 where
  pub count : length openings < 2 ^ 32
  pub lengths : All (λ opening. length opening.bytes < 2 ^ 32) openings

-- a bundle has bytes for one more opening
pub record HasRoom (cell : CoinCell) (opening : RawOpening) : Type 0 where
  pub count : length cell.openings + 1 < 2 ^ 32
  pub bytes : length opening.bytes < 2 ^ 32

-- the cell has what is carried of its openings
pub record IsCell (tests : Tests) (rules : Rules) (log : List RootCall) (coin : ℕ) (made : CoinView)
    (cell : CoinCell) : Type 0 where
  pub kept : AreKept tests log coin made (reverse cell.openings)
  pub ends : cell.ends ≡ map end_of (carried_by tests rules coin made (reverse cell.openings)).spends
  pub broken : cell.broken ≡ (carried_by tests rules coin made (reverse cell.openings)).broken

-- of a coin that the log doesn't have nothing is kept
abbrev pub IsCellOf : Tests → Rules → List RootCall → ℕ → CoinCell → Option CoinView → Type 0
IsCellOf tests rules log coin cell None = cell ≡ no_cell
IsCellOf tests rules log coin cell (Some made) = IsCell tests rules log coin made cell

-- what the cells have of a coin
abbrev pub cell_in : BTreeMap ℕ CoinCell → ℕ → CoinCell
cell_in cells coin = unwrap_or (get nat_cmp cells coin) no_cell

-- the openings of the cells, by coin
abbrev pub openings_of : ℕ × CoinCell → ℕ × List RawOpening
openings_of entry = (entry.0, entry.1.openings)

-- the cells have what is carried of each coin
abbrev pub AreCells : (List ℕ → List ℕ) → Chain → BTreeMap ℕ CoinCell → Type 0
AreCells dig chain cells = (coin : ℕ)
    → IsCellOf (tests_by dig) (rules_of chain) chain.log coin (cell_in cells coin) (coin_at chain.log coin)

-- what an archive keeps beside its log and digest: the digest's defaults, and the cells
pub record IsWhole (dig : List ℕ → List ℕ) (chain : Chain) (defaults : List (List ℕ)) (cells : BTreeMap ℕ CoinCell)
    : Type 0 where
  pub defaults_are : AreDefaults dig defaults
  pub cells_are : AreCells dig chain cells
