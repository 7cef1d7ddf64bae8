-- The history of a coin under a log: its links since the deposit, and its absences.
use Rattle.std.specs.Prelude.{◌≡◌, ℕ, ◌+◌, ◌-◌, ◌||◌, Bool, true, false, List, [], ◌∷◌, map, filter, Option, Some, is_some}
use Rattle.std.specs.List.{All, filter_map, range_with_len}
use Rattle.std.specs.Option.{option_map, option_map_or}
use Rattle.plasma_tx.specs.{declared.owner.Owner.{Owner}, declared.opening.RawOpening.{RawOpening}, declared.signed_tx.SignedTx.{SignedTx}, declared.links.Link.{Link}, declared.links.Links.{Links}, declared.call.RootCall.{RootCall}}
use Rattle.plasma_tx.specs.{declared.views.CoinView.{CoinView}, Links.{tip_of}, Openings.{leaf_in}, Transfer.{transfer_in}, Views.{coin_at}, Shown.{Tests, Rules, root_at}}
use Rattle.coin_history.specs.declared.bundle.Bundle.{Bundle}

-- ---- blocks and openings

-- block n is a committed one
abbrev pub is_committed : List RootCall → ℕ → Bool
is_committed log n = is_some (root_at log n)

-- the committed blocks after low and up to high, in rising order
unfoldable pub committed_blocks : List RootCall → ℕ → ℕ → List ℕ
committed_blocks log low high = filter (is_committed log) (range_with_len (low + 1) (high - low))

-- the blocks of openings
abbrev pub blocks_of : List RawOpening → List ℕ
blocks_of openings = map (λ opening. opening.block) openings

-- the opening opens the root of its block at the coin
abbrev pub opens_block : Tests → List RootCall → ℕ → RawOpening → Bool
opens_block tests log coin opening =
    option_map_or (λ root. tests.opens root coin opening) (root_at log opening.block) false

-- the leaf that an opening's bytes show; of one that opens its root it is empty where the block has nothing at the
-- coin
abbrev pub leaf_of_opening : RawOpening → List ℕ
leaf_of_opening opening = leaf_in opening.bytes

abbrev pub is_empty : List ℕ → Bool
is_empty [] = true
is_empty (byte ∷ bytes) = false

abbrev pub is_absent : RawOpening → Bool
is_absent opening = is_empty (leaf_of_opening opening)

-- ---- links

-- the rules of a chain with this tag; of histories the tag alone matters
abbrev pub tagged : List ℕ → Rules
tagged tag = record { tag = tag; operator = 0; most_blocks = 0 }

-- the transfer of its block, with this tag and coin, that an opening's leaf spells
abbrev pub transfer_of : Rules → ℕ → RawOpening → Option SignedTx
transfer_of rules coin opening = transfer_in rules.tag coin opening.block (leaf_of_opening opening)

-- the link that an opening's leaf would be, and those of openings in their order: each transfer of the coin, whether
-- it spends the one before or not, which is asked for apart
abbrev pub link_of : Rules → ℕ → RawOpening → Option Link
link_of rules coin opening =
    option_map (λ tx. record { block = opening.block; tx = tx; opening = opening }) (transfer_of rules coin opening)

unfoldable pub links_in : Rules → ℕ → List RawOpening → List Link
links_in rules coin openings = filter_map (link_of rules coin) openings

-- the links that a bundle of the coin shows
abbrev pub links_of : Rules → CoinView → Bundle → Links
links_of rules made bundle = record {
  coin = bundle.coin;
  deposit = made.deposit;
  owner = made.owner;
  spends = links_in rules bundle.coin bundle.openings;
}

-- each link spends the block of the one before, whose owner signed it; before the first is this block with this owner
unfoldable pub AreLinked : Tests → ℕ → Owner → List Link → Type 0
AreLinked tests block owner [] = Unit {0}
AreLinked tests block owner (link ∷ links) =
    (link.tx.body.parent ≡ block) × (tests.is_signed link.tx owner ≡ true)
    × AreLinked tests link.block link.tx.body.to links

-- ---- the history

-- The bundle is the history of its coin up to its tip, with these links. Each committed block after the deposit up to
-- the tip has one opening, which opens its root at the coin, and there are no other openings. A leaf is empty, or is
-- the next link: a transfer of its block, of this tag and coin, that spends the last link and that the last link's
-- owner signed. The last link is at the tip; without links the tip is the deposit, and then there are no openings.
pub record IsHistory (tests : Tests) (rules : Rules) (log : List RootCall) (bundle : Bundle) (links : Links)
    : Type 0 where
  pub made : CoinView
  pub coin : coin_at log bundle.coin ≡ Some made
  pub blocks : blocks_of bundle.openings ≡ committed_blocks log made.deposit bundle.tip
  pub opened : All (λ opening. opens_block tests log bundle.coin opening ≡ true) bundle.openings
  pub leaves : All (λ opening. (is_absent opening || is_some (transfer_of rules bundle.coin opening)) ≡ true)
      bundle.openings
  pub shown : links ≡ links_of rules made bundle
  pub linked : AreLinked tests links.deposit links.owner links.spends
  pub tip : tip_of links ≡ bundle.tip

-- Openings show that the coin is absent after a block and up to the last: each committed block between has one
-- opening, which opens its root at the coin with an empty leaf, and there are no other openings.
pub record IsAbsent (tests : Tests) (log : List RootCall) (coin after last : ℕ) (openings : List RawOpening)
    : Type 0 where
  pub blocks : blocks_of openings ≡ committed_blocks log after last
  pub opened : All (λ opening. opens_block tests log coin opening ≡ true) openings
  pub empty : All (λ opening. is_absent opening ≡ true) openings
