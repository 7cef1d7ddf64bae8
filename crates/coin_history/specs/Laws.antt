-- What holds of histories and absences.
use Rattle.std.specs.Prelude.{◌≡◌, ◌≢◌, ◌⊎◌, ℕ, ◌-◌, ◌<◌, ◌≤◌, ◌&&◌, ◌||◌, not, Bool, true, false, nat_lt, nat_le, List, [], ◌∷◌, map, filter, length, take, slice_get, Option, Some, None, is_some, Ok, Err}
use Rattle.std.specs.List.{All, AllPairs, Contains}
use Rattle.std.specs.Option.{option_map_or}
use Rattle.plasma_tx.specs.{declared.opening.RawOpening.{RawOpening}, declared.signed_tx.SignedTx.{SignedTx}, declared.links.Link.{Link}, declared.links.Links.{Links}, declared.call.RootCall.{RootCall}, declared.views.CoinView.{CoinView}}
use Rattle.plasma_tx.specs.{Links.{tip_of, last_owner_of}, Views.{blocks, coin_at, owner_of_opening}, Shown.{Tests, Rules, root_at}}
use Rattle.coin_history.specs.{declared.bundle.Bundle.{Bundle}, declared.refusal.HistoryRefusal.{HistoryRefusal}}
use Rattle.coin_history.specs.{declared.refusal.HistoryRefusal.TheVariants.{BadBundle, NoCoin, UnknownBlock, MissingBlock, BadOpening, NotLink, BadSignature, NotAbsent}, Bundles.{AreRising, bundle_in}}
use Rattle.coin_history.specs.History.{committed_blocks, blocks_of, opens_block, is_absent, leaf_of_opening, transfer_of, links_of, AreLinked, IsHistory, IsAbsent}
use Rattle.coin_history.specs.Checking.{opening_at, links_before, failure_in, may_be_tip, history_of, absence_of}

-- a bundle whose blocks rise is answered its links exactly where it is a history with these links
abbrev pub OnlyHistoriesPass : Type 0
OnlyHistoriesPass = (tests : Tests) (rules : Rules) (log : List RootCall) (bundle : Bundle) (links : Links)
    → AreRising bundle.openings → history_of tests rules log bundle ≡ Ok links → IsHistory tests rules log bundle links

abbrev pub HistoriesPass : Type 0
HistoriesPass = (tests : Tests) (rules : Rules) (log : List RootCall) (bundle : Bundle) (links : Links)
    → IsHistory tests rules log bundle links → history_of tests rules log bundle ≡ Ok links

-- the same for absences
abbrev pub OnlyAbsencesPass : Type 0
OnlyAbsencesPass = (tests : Tests) (log : List RootCall) (after last : ℕ) (bundle : Bundle) → AreRising bundle.openings
    → absence_of tests log after last bundle ≡ Ok tt
    → (bundle.tip ≡ last) × IsAbsent tests log bundle.coin after last bundle.openings

abbrev pub AbsencesPass : Type 0
AbsencesPass = (tests : Tests) (log : List RootCall) (after last : ℕ) (bundle : Bundle) → bundle.tip ≡ last
    → IsAbsent tests log bundle.coin after last bundle.openings → absence_of tests log after last bundle ≡ Ok tt

-- a history determines its links
abbrev pub HistoriesHaveOneMeaning : Type 0
HistoriesHaveOneMeaning = (tests : Tests) (rules : Rules) (log : List RootCall) (bundle : Bundle)
    (links others : Links)
    → IsHistory tests rules log bundle links → IsHistory tests rules log bundle others → links ≡ others

-- a history stays the same history, and absences stay, as the log grows
abbrev pub HistoriesStay : Type 0
HistoriesStay = (tests : Tests) (rules : Rules) (log : List RootCall) (call : RootCall) (bundle : Bundle)
    (links : Links)
    → IsHistory tests rules log bundle links → IsHistory tests rules (call ∷ log) bundle links

abbrev pub AbsencesStay : Type 0
AbsencesStay = (tests : Tests) (log : List RootCall) (call : RootCall) (coin after last : ℕ)
    (openings : List RawOpening)
    → last ≤ blocks log → IsAbsent tests log coin after last openings
    → IsAbsent tests (call ∷ log) coin after last openings

-- the first links, and what of a bundle is up to a block
abbrev pub first_links : ℕ → Links → Links
first_links count links = record links { spends = take count links.spends }

abbrev pub up_to : ℕ → Bundle → Bundle
up_to block bundle =
    record bundle { tip = block; openings = filter (λ opening. nat_le opening.block block) bundle.openings }

-- what a history has up to one of its links, or up to the deposit, is a history
abbrev pub HistoriesHaveBeginnings : Type 0
HistoriesHaveBeginnings = (tests : Tests) (rules : Rules) (log : List RootCall) (bundle : Bundle) (links : Links)
    (count : ℕ)
    → count ≤ length links.spends → IsHistory tests rules log bundle links
    → IsHistory tests rules log (up_to (tip_of (first_links count links)) bundle) (first_links count links)

-- two openings of one root at the coin to different leaves, one of each list
pub record ShowTwoLeaves (tests : Tests) (log : List RootCall) (coin : ℕ) (openings others : List RawOpening)
    : Type 0 where
  pub one : RawOpening
  pub other : RawOpening
  pub root : List ℕ
  pub is_one : Contains openings one
  pub is_other : Contains others other
  pub one_block : one.block ≡ other.block
  pub has_root : root_at log one.block ≡ Some root
  pub one_opens : tests.opens root coin one ≡ true
  pub other_opens : tests.opens root coin other ≡ true
  pub differ : leaf_of_opening one ≢ leaf_of_opening other

-- a link without the bytes that show it
abbrev pub block_and_tx : Link → ℕ × SignedTx
block_and_tx link = (link.block, link.tx)

-- Two histories of one coin, of which one may reach further, have the same leaves up to the nearer tip, and so the
-- same links and the same absences, or they show two openings of one root to different leaves.
abbrev pub HistoriesAgree : Type 0
HistoriesAgree = (tests : Tests) (rules : Rules) (log : List RootCall) (bundle other : Bundle) (links others : Links)
    → IsHistory tests rules log bundle links → IsHistory tests rules log other others
    → bundle.coin ≡ other.coin → bundle.tip ≤ other.tip
    → ((map leaf_of_opening bundle.openings ≡ map leaf_of_opening (up_to bundle.tip other).openings)
    × (map block_and_tx links.spends
    ≡ map block_and_tx (filter (λ link. nat_le link.block bundle.tip) others.spends)))
    ⊎ ShowTwoLeaves tests log bundle.coin bundle.openings other.openings

-- a history has no link in a block in which openings show the coin absent, or they show two leaves of one root
abbrev pub AbsencesExcludeLinks : Type 0
AbsencesExcludeLinks = (tests : Tests) (rules : Rules) (log : List RootCall) (bundle : Bundle) (links : Links)
    (after last : ℕ) (openings : List RawOpening)
    → IsHistory tests rules log bundle links → IsAbsent tests log bundle.coin after last openings
    → All (λ link. (nat_lt after link.block && nat_le link.block last) ≡ false) links.spends
    ⊎ ShowTwoLeaves tests log bundle.coin bundle.openings openings

-- the blocks of a history's links rise strictly from its deposit on
abbrev pub LinksRise : Type 0
LinksRise = (tests : Tests) (rules : Rules) (log : List RootCall) (bundle : Bundle) (links : Links)
    → IsHistory tests rules log bundle links
    → AllPairs (λ earlier later. earlier < later) (links.deposit ∷ map (λ link. link.block) links.spends)

-- with the deposit as tip there are neither openings nor links
abbrev pub DepositsAreBare : Type 0
DepositsAreBare = (tests : Tests) (rules : Rules) (log : List RootCall) (bundle : Bundle) (links : Links)
    → IsHistory tests rules log bundle links → bundle.tip ≡ links.deposit
    → (bundle.openings ≡ []) × (links.spends ≡ [])

-- the leaf of the tip isn't empty
abbrev pub TipsAreLinks : Type 0
TipsAreLinks = (tests : Tests) (rules : Rules) (log : List RootCall) (bundle : Bundle) (links : Links)
    → IsHistory tests rules log bundle links
    → All (λ opening. opening.block ≡ bundle.tip → is_absent opening ≡ false) bundle.openings

-- ---- the lowest failing block

-- the openings of the blocks before block n, and the last of them whose leaf isn't empty
abbrev pub openings_before : ℕ → List RawOpening → List RawOpening
openings_before n openings = filter (λ opening. nat_lt opening.block n) openings

abbrev pub last_shown : List RawOpening → Option RawOpening
last_shown openings =
    let shown = filter (λ opening. not (is_absent opening)) openings in slice_get shown (length shown - 1)

-- A bundle of a coin that was made fails at block n, and at none before. Before n it is as a history is: each committed
-- block after the deposit up to the tip has one opening, which opens its root at the coin, and there are no other
-- openings; a leaf is empty, or is the next link, which the owner before signed. So the last link before n, which the
-- opening at n is held against, is the transfer in the last leaf there that isn't empty; without one it is the deposit.
pub record FailsFirstAt (tests : Tests) (rules : Rules) (log : List RootCall) (bundle : Bundle) (made : CoinView)
    (n : ℕ) (why : HistoryRefusal) : Type 0 where
  pub fails : failure_in tests rules log bundle.tip (links_of rules made bundle) n (opening_at bundle.openings n)
      ≡ Some why
  pub lowest : (m : ℕ) → m < n
      → failure_in tests rules log bundle.tip (links_of rules made bundle) m (opening_at bundle.openings m) ≡ None
  pub blocks : blocks_of (openings_before n bundle.openings)
      ≡ filter (λ block. nat_lt block n) (committed_blocks log made.deposit bundle.tip)
  pub opened : All (λ opening. opens_block tests log bundle.coin opening ≡ true) (openings_before n bundle.openings)
  pub leaves : All (λ opening. (is_absent opening || is_some (transfer_of rules bundle.coin opening)) ≡ true)
      (openings_before n bundle.openings)
  pub shown : links_before n (links_of rules made bundle)
      ≡ links_of rules made (record bundle { openings = openings_before n bundle.openings })
  pub linked : AreLinked tests made.deposit made.owner (links_before n (links_of rules made bundle)).spends
  pub tip : tip_of (links_before n (links_of rules made bundle))
      ≡ option_map_or (λ opening. opening.block) (last_shown (openings_before n bundle.openings)) made.deposit
  pub owner : last_owner_of (links_before n (links_of rules made bundle))
      ≡ option_map_or owner_of_opening (last_shown (openings_before n bundle.openings)) made.owner

-- a bundle whose blocks rise, of a coin that was made and to a tip that may be one, is refused for its lowest failing
-- block
abbrev pub RefusalsComeBehindLinks : Type 0
RefusalsComeBehindLinks = (tests : Tests) (rules : Rules) (log : List RootCall) (bundle : Bundle) (made : CoinView)
    (why : HistoryRefusal)
    → AreRising bundle.openings → coin_at log bundle.coin ≡ Some made
    → may_be_tip log made.deposit bundle.tip ≡ true → history_of tests rules log bundle ≡ Err why
    → (n : ℕ) × FailsFirstAt tests rules log bundle made n why

-- ---- refusals

-- a refusal of a reader, of a history and of absences
abbrev pub is_of_reader : HistoryRefusal → Bool
is_of_reader (BadBundle place) = true
is_of_reader why = false

abbrev pub is_of_history : HistoryRefusal → Bool
is_of_history NoCoin = true
is_of_history (UnknownBlock n) = true
is_of_history (MissingBlock n) = true
is_of_history (BadOpening n) = true
is_of_history (NotLink n) = true
is_of_history (BadSignature n) = true
is_of_history why = false

abbrev pub is_of_absence : HistoryRefusal → Bool
is_of_absence (UnknownBlock n) = true
is_of_absence (MissingBlock n) = true
is_of_absence (BadOpening n) = true
is_of_absence (NotAbsent n) = true
is_of_absence why = false

-- each is refused by its own refusals alone
abbrev pub ReadersRefusals : Type 0
ReadersRefusals = (bytes : List ℕ) (why : HistoryRefusal) → bundle_in bytes ≡ Err why → is_of_reader why ≡ true

abbrev pub HistoriesRefusals : Type 0
HistoriesRefusals = (tests : Tests) (rules : Rules) (log : List RootCall) (bundle : Bundle) (why : HistoryRefusal)
    → history_of tests rules log bundle ≡ Err why → is_of_history why ≡ true

abbrev pub AbsencesRefusals : Type 0
AbsencesRefusals = (tests : Tests) (log : List RootCall) (after last : ℕ) (bundle : Bundle) (why : HistoryRefusal)
    → absence_of tests log after last bundle ≡ Err why → is_of_absence why ≡ true
