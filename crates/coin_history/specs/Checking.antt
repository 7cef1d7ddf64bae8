-- What a bundle is refused for: the coin and the tip come first; then, at the lowest block at which something is
-- wrong, the first cause that holds there.
use Rattle.std.specs.Prelude.{◌≡◌, ℕ, ◌<◌, zero, suc, ◌==◌, ◌&&◌, ◌||◌, not, Bool, true, if◌then◌else◌, nat_lt, nat_le, max, List, [], ◌∷◌, ◌++◌, filter, find, slice_get, Option, Some, None, Result, Ok, Err}
use Rattle.std.specs.Option.{option_or}
use Rattle.plasma_tx.specs.{declared.opening.RawOpening.{RawOpening}, declared.links.Links.{Links}, declared.call.RootCall.{RootCall}, declared.views.CoinView.{CoinView}, Links.{tip_of, last_owner_of}, Views.{coin_at}}
use Rattle.plasma_tx.specs.Shown.{Tests, Rules, spends, signs}
use Rattle.coin_history.specs.{declared.bundle.Bundle.{Bundle}, declared.refusal.HistoryRefusal.{HistoryRefusal}}
use Rattle.coin_history.specs.{declared.refusal.HistoryRefusal.TheVariants.{NoCoin, UnknownBlock, MissingBlock, BadOpening, NotLink, BadSignature, NotAbsent}, History.{is_committed, opens_block, is_absent, transfer_of, links_of}}

-- a cause: whether it holds, and the refusal that it gives
abbrev pub Cause : Type 0
Cause = Bool × HistoryRefusal

-- the first cause that holds
abbrev pub first_cause : List Cause → Option HistoryRefusal
first_cause [] = None
first_cause (cause ∷ causes) = if cause.0 then Some cause.1 else first_cause causes

-- the block has to be opened: it is a committed one after low and at most high
abbrev pub is_asked : List RootCall → ℕ → ℕ → ℕ → Bool
is_asked log low high n = is_committed log n && nat_lt low n && nat_le n high

-- the opening of block n
abbrev pub opening_at : List RawOpening → ℕ → Option RawOpening
opening_at openings n = find (λ opening. opening.block == n) openings

-- the block has to be opened, and isn't
abbrev pub missing : Bool → ℕ → Option HistoryRefusal
missing asked n = if asked then Some (MissingBlock n) else None

-- what every opening of block n is refused for
abbrev pub opening_causes : Tests → List RootCall → ℕ → Bool → RawOpening → List Cause
opening_causes tests log coin asked opening =
    (
    (not asked, UnknownBlock opening.block)
    ∷ (not (opens_block tests log coin opening), BadOpening opening.block)
    ∷ []
    )

-- An opening is looked at, the one at this place: its block has to be opened, and nothing is wrong at a block before.
pub record IsLookedAt (asks : ℕ → Bool) (failure : ℕ → Option HistoryRefusal) (openings : List RawOpening) : Type 0
  where
    pub place : ℕ
    pub opening : RawOpening
    pub is : slice_get openings place ≡ Some opening
    pub asked : asks opening.block ≡ true
    pub clear : (n : ℕ) → n < opening.block → failure n ≡ None

-- ---- histories

-- the links before block n
abbrev pub links_before : ℕ → Links → Links
links_before n links = record links { spends = filter (λ link. nat_lt link.block n) links.spends }

-- the leaf is empty, where the block isn't the tip, or is a transfer of its block and of the coin that spends the last
-- link
abbrev pub is_next : Rules → ℕ → Links → RawOpening → Bool
is_next rules tip before opening =
    if is_absent opening then not (opening.block == tip)
    else spends (tip_of before) (transfer_of rules before.coin opening)

-- the leaf is empty, or the owner after the last link signed its transfer
abbrev pub is_next_signed : Tests → Rules → Links → RawOpening → Bool
is_next_signed tests rules before opening =
    is_absent opening || signs tests (Some (last_owner_of before)) (transfer_of rules before.coin opening)

-- what the leaf of an opening is refused for, after the links before its block
abbrev pub link_causes : Tests → Rules → ℕ → Links → RawOpening → List Cause
link_causes tests rules tip before opening =
    (
    (not (is_next rules tip before opening), NotLink opening.block)
    ∷ (not (is_next_signed tests rules before opening), BadSignature opening.block)
    ∷ []
    )

-- what is wrong at block n of a history with these links up to the tip
abbrev pub failure_in : Tests → Rules → List RootCall → ℕ → Links → ℕ → Option RawOpening → Option HistoryRefusal
failure_in tests rules log tip links n None = missing (is_asked log links.deposit tip n) n
failure_in tests rules log tip links n (Some opening) =
    first_cause
    (opening_causes tests log links.coin (is_asked log links.deposit tip n) opening
    ++ link_causes tests rules tip (links_before n links) opening)

-- the lowest failure at a block below n
unfoldable pub lowest_failure : (ℕ → Option HistoryRefusal) → ℕ → Option HistoryRefusal
lowest_failure failure zero = None
lowest_failure failure (suc n) = option_or (lowest_failure failure n) (failure n)

-- a number above a block and those of openings
unfoldable pub above : ℕ → List RawOpening → ℕ
above block [] = suc block
above block (opening ∷ openings) = max (suc opening.block) (above block openings)

-- what is answered where nothing failed, else the failure
abbrev pub unless_failed : {A : Type 0} → Option HistoryRefusal → A → Result A HistoryRefusal
unless_failed None answer = Ok answer
unless_failed (Some why) answer = Err why

-- the tip is the deposit block, or a committed one after it
abbrev pub may_be_tip : List RootCall → ℕ → ℕ → Bool
may_be_tip log deposit tip = (tip == deposit) || is_committed log tip && nat_lt deposit tip

-- the links of a bundle under a log, where its tip may be one and no block fails
abbrev pub checked : Tests → Rules → List RootCall → Bundle → Links → Result Links HistoryRefusal
checked tests rules log bundle links =
    if may_be_tip log links.deposit bundle.tip
    then unless_failed
    (lowest_failure
    (λ n. failure_in tests rules log bundle.tip links n (opening_at bundle.openings n))
    (above bundle.tip bundle.openings))
    links
    else Err (UnknownBlock bundle.tip)

-- the answer for a coin, where the log has it
abbrev pub where_made : {A : Type 0} → Option CoinView → (CoinView → Result A HistoryRefusal) → Result A HistoryRefusal
where_made None answer = Err NoCoin
where_made (Some made) answer = answer made

-- the links of the history that a bundle is under a log
unfoldable pub history_of : Tests → Rules → List RootCall → Bundle → Result Links HistoryRefusal
history_of tests rules log bundle =
    where_made (coin_at log bundle.coin) (λ made. checked tests rules log bundle (links_of rules made bundle))

-- the log has the coin, the tip may be one, and an opening is looked at
pub record LooksAtHistory (tests : Tests) (rules : Rules) (log : List RootCall) (bundle : Bundle) : Type 0 where
  pub made : CoinView
  pub coin : coin_at log bundle.coin ≡ Some made
  pub tip : may_be_tip log made.deposit bundle.tip ≡ true
  pub looks : IsLookedAt (is_asked log made.deposit bundle.tip)
      (λ n. failure_in tests rules log bundle.tip (links_of rules made bundle) n (opening_at bundle.openings n))
      bundle.openings

-- ---- absences

-- what is wrong at block n where the coin has to be absent after a block and up to the last
abbrev pub failure_of_absence : Tests → List RootCall → ℕ → ℕ → ℕ → ℕ → Option RawOpening → Option HistoryRefusal
failure_of_absence tests log coin after last n None = missing (is_asked log after last n) n
failure_of_absence tests log coin after last n (Some opening) =
    first_cause
    (opening_causes tests log coin (is_asked log after last n) opening
    ++ (not (is_absent opening), NotAbsent opening.block) ∷ [])

-- that a bundle shows its coin absent after a block and up to the last, or what it is refused for
unfoldable pub absence_of : Tests → List RootCall → ℕ → ℕ → Bundle → Result Unit HistoryRefusal
absence_of tests log after last bundle =
    if bundle.tip == last
    then unless_failed
    (lowest_failure
    (λ n. failure_of_absence tests log bundle.coin after last n (opening_at bundle.openings n))
    (above last bundle.openings))
    tt
    else Err (UnknownBlock bundle.tip)

-- the tip is the last block, and an opening is looked at
pub record LooksAtAbsence (tests : Tests) (log : List RootCall) (after last : ℕ) (bundle : Bundle) : Type 0 where
  pub tip : bundle.tip ≡ last
  pub looks : IsLookedAt (is_asked log after last)
      (λ n. failure_of_absence tests log bundle.coin after last n (opening_at bundle.openings n)) bundle.openings
