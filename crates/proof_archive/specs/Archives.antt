-- An archive: a chain's log, and the openings that were kept of its coins. Each answer on a coin is a function of the
-- log and of the coin's openings alone.
use Rattle.std.specs.Prelude.{ℕ, ◌-◌, ◌^◌, ◌==◌, ◌&&◌, ◌||◌, not, Bool, nat_lt, nat_le, if◌then◌else◌, List, [], ◌∷◌, ◌++◌, length, filter, find, is_some, Option, Some, None, Result, Ok, Err}
use Rattle.std.specs.List.{list_any}
use Rattle.std.specs.Map.{lookup}
use Rattle.std.specs.Option.{option_and_then, option_map_or, unwrap_or}
use Rattle.std.specs.Ordering.{nat_cmp}
use Rattle.std.specs.BTreeMap.{is_at}
use Rattle.plasma_tx.specs.{declared.opening.RawOpening.{RawOpening}, declared.links.Links.{Links}, declared.call.RootCall.{RootCall}, declared.views.CoinView.{CoinView}, Chain.{Chain}, Links.{tip_of}, Views.{coin_at}}
use Rattle.plasma_tx.specs.Shown.{Tests, tests_by, rules_of}
use Rattle.coin_history.specs.{declared.bundle.Bundle.{Bundle}, History.{committed_blocks, is_committed, opens_block}, Checking.{opening_at}}
use Rattle.proof_archive.specs.{declared.refusal.ArchiveRefusal.{ArchiveRefusal}, declared.refusal.ArchiveRefusal.TheVariants.{NoCoin, UnknownBlock, HaveBlock, Gap, BadOpening, NotTip}, Scan.{Scan, scan_of}}

-- what callers see: the chain, the digest, and the openings that were kept of coins, in rising order of these
pub record ArchiveState (H : Type 0) : Type 0 where
  pub chain : Chain
  pub hash : H
  pub kept : List (ℕ × List RawOpening)

-- the openings that were kept of a coin, in the order in which they were put
abbrev pub kept_in : {H : Type 0} → ArchiveState H → ℕ → List RawOpening
kept_in state coin = unwrap_or (lookup (is_at (nat_cmp coin)) state.kept) []

-- ---- put

-- the limit of a log's blocks, and of the bytes that an opening has in a bundle: four bytes have the number
abbrev pub fits : ℕ → Bool
fits number = nat_lt number (2 ^ 32)

-- an opening of the block is among these
abbrev pub has_block : List RawOpening → ℕ → Bool
has_block kept n = is_some (opening_at kept n)

-- the lowest committed block after the deposit and before this one that isn't among these
abbrev pub first_gap : List RootCall → ℕ → List RawOpening → ℕ → Option ℕ
first_gap log deposit kept n = find (λ m. not (has_block kept m)) (committed_blocks log deposit (n - 1))

-- an opening of block n is placed, unless there is a gap before it
abbrev pub placed_behind : Option ℕ → ℕ → Result ℕ ArchiveRefusal
placed_behind None n = Ok n
placed_behind (Some gap) n = Err (Gap gap)

-- whether block n is the next one of a coin of which these are kept: a committed one after the deposit, within the
-- limit of a log's blocks, which isn't kept, without a gap before it
abbrev pub place_at : List RootCall → ℕ → List RawOpening → ℕ → Result ℕ ArchiveRefusal
place_at log deposit kept n =
    if not (is_committed log n && nat_lt deposit n && fits n) then Err (UnknownBlock n)
    else if has_block kept n then Err (HaveBlock n)
    else placed_behind (first_gap log deposit kept n) n

-- an opening that is placed has to open the root of its block
abbrev pub opened_at : Bool → Result ℕ ArchiveRefusal → Result ℕ ArchiveRefusal
opened_at opens (Err why) = Err why
opened_at opens (Ok n) = if opens then Ok n else Err (BadOpening n)

-- the answer to an opening of a coin of which these are kept; its bytes have to fit a bundle too
abbrev pub put_at : Tests → List RootCall → ℕ → List RawOpening → RawOpening → Option CoinView → Result ℕ ArchiveRefusal
put_at tests log coin kept opening None = Err NoCoin
put_at tests log coin kept opening (Some made) =
    opened_at (fits (length opening.bytes) && opens_block tests log coin opening)
    (place_at log made.deposit kept opening.block)

-- the answer to an opening that is put
unfoldable pub put_answer : (List ℕ → List ℕ) → Chain → List RawOpening → ℕ → RawOpening → Result ℕ ArchiveRefusal
put_answer dig chain kept coin opening =
    put_at (tests_by dig) chain.log coin kept opening (coin_at chain.log coin)

-- the answer to an opening of block n, before it is looked at
abbrev pub place_in : List RootCall → List RawOpening → ℕ → Option CoinView → Result ℕ ArchiveRefusal
place_in log kept n None = Err NoCoin
place_in log kept n (Some made) = place_at log made.deposit kept n

abbrev pub place_answer : Chain → List RawOpening → ℕ → ℕ → Result ℕ ArchiveRefusal
place_answer chain kept coin n = place_in chain.log kept n (coin_at chain.log coin)

-- what is kept of the coin after a put that was answered so: a refused one changes nothing
abbrev pub after_put : List RawOpening → RawOpening → Result ℕ ArchiveRefusal → List RawOpening
after_put kept opening (Ok n) = kept ++ opening ∷ []
after_put kept opening (Err why) = kept

-- ---- tip, broken and bundle, by a scan from scratch

-- what the kept openings of a coin show
abbrev pub scan_in : (List ℕ → List ℕ) → Chain → List RawOpening → ℕ → CoinView → Scan
scan_in dig chain kept coin made = scan_of (tests_by dig) (rules_of chain) chain.log coin made kept

-- the greatest tip of a coin
unfoldable pub tip_answer : (List ℕ → List ℕ) → Chain → List RawOpening → ℕ → Result ℕ ArchiveRefusal
tip_answer dig chain kept coin =
    option_map_or (λ made. Ok (tip_of (scan_in dig chain kept coin made).links)) (coin_at chain.log coin)
    (Err NoCoin)

-- its broken block
unfoldable pub broken_answer : (List ℕ → List ℕ) → Chain → List RawOpening → ℕ → Option ℕ
broken_answer dig chain kept coin =
    option_and_then (λ made. (scan_in dig chain kept coin made).broken) (coin_at chain.log coin)

-- the block is the deposit, or that of a link
abbrev pub is_tip : Links → ℕ → Bool
is_tip links tip = (links.deposit == tip) || list_any (λ link. link.block == tip) links.spends

-- the openings and the links up to a block
abbrev pub openings_up_to : ℕ → List RawOpening → List RawOpening
openings_up_to tip openings = filter (λ opening. nat_le opening.block tip) openings

abbrev pub links_up_to : ℕ → Links → Links
links_up_to tip links = record links { spends = filter (λ link. nat_le link.block tip) links.spends }

-- the bundle of the kept openings up to a tip, where it is one
abbrev pub bundle_to : Links → List RawOpening → ℕ → ℕ → Result Bundle ArchiveRefusal
bundle_to links kept coin tip =
    if is_tip links tip then Ok (record { coin = coin; tip = tip; openings = openings_up_to tip kept })
    else Err (NotTip tip)

unfoldable pub bundle_answer : (List ℕ → List ℕ) → Chain → List RawOpening → ℕ → ℕ → Result Bundle ArchiveRefusal
bundle_answer dig chain kept coin tip =
    option_map_or (λ made. bundle_to (scan_in dig chain kept coin made).links kept coin tip)
    (coin_at chain.log coin) (Err NoCoin)
