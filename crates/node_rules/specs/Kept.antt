-- Coins that a node keeps: of a history that was checked it keeps the openings of the links alone. The depositor and
-- the deposit block come from the log.
use Rattle.std.specs.Prelude.{ℕ, ◌-◌, ◌==◌, ◌&&◌, Bool, true, false, if◌then◌else◌, List, [], ◌∷◌, ◌++◌, length, map, Option, Some, None, is_some, slice_get, Result, Ok, Err}
use Rattle.std.specs.List.{list_all}
use Rattle.std.specs.Option.{option_map, option_map_or}
use Rattle.std.specs.Result.{is_ok}
use Rattle.gate_journal.specs.Image.{most}
use Rattle.plasma_tx.specs.{declared.opening.RawOpening.{RawOpening}, declared.links.Links.{Links}, declared.call.RootCall.{RootCall}, declared.views.ExitView.{ExitView}, Links.{tip_of}, Openings.{opening_in}, Views.{coin_at, exits_of}}
use Rattle.plasma_tx.specs.Shown.{Rules, tests_by}
use Rattle.coin_history.specs.{declared.bundle.Bundle.{Bundle}, declared.refusal.HistoryRefusal.{HistoryRefusal}, Bundles.{bundle_in}, History.{links_of, transfer_of}, Checking.{history_of}}

-- the rules of a chain with this tag; of histories the tag alone matters
abbrev pub chain_of : List ℕ → Rules
chain_of tag = record { tag = tag; operator = 0; most_blocks = 0 }

-- what is kept of links: the openings that show them
abbrev pub kept_of : Links → Bundle
kept_of links = record {
  coin = links.coin;
  tip = tip_of links;
  openings = map (λ link. link.opening) links.spends;
}

-- the opening reads, and its leaf is a transfer of its block, with this tag and coin
abbrev pub shows_link : (List ℕ → List ℕ) → List ℕ → ℕ → RawOpening → Bool
shows_link dig tag coin opening =
    is_ok (opening_in dig opening) && is_some (transfer_of (chain_of tag) coin opening)

-- the last opening, if there is one, is of the tip
abbrev pub ends_at : ℕ → List RawOpening → Bool
ends_at tip openings =
    option_map_or (λ opening. opening.block == tip) (slice_get openings (length openings - 1)) true

-- each opening shows a link of the coin, the last at the tip
abbrev pub is_kept : (List ℕ → List ℕ) → List ℕ → Bundle → Bool
is_kept dig tag bundle = list_all (shows_link dig tag bundle.coin) bundle.openings && ends_at bundle.tip
    bundle.openings

-- what is kept that bytes spell
abbrev pub only_kept : (List ℕ → List ℕ) → List ℕ → Result Bundle HistoryRefusal → Option Bundle
only_kept dig tag (Err why) = None
only_kept dig tag (Ok bundle) = if is_kept dig tag bundle then Some bundle else None

abbrev pub kept_in : (List ℕ → List ℕ) → List ℕ → List ℕ → Option Bundle
kept_in dig tag bytes = only_kept dig tag (bundle_in bytes)

-- the links of what is kept, with the depositor of the log; None where the log has no such coin
abbrev pub kept_links : List ℕ → List RootCall → Bundle → Option Links
kept_links tag log bundle = option_map (λ made. links_of (chain_of tag) made bundle) (coin_at log bundle.coin)

-- ---- a bundle that a node is handed

-- its links, where it is the history of its coin
abbrev pub checked_by : (List ℕ → List ℕ) → List ℕ → List RootCall → Result Bundle HistoryRefusal
    → Result Links HistoryRefusal
checked_by dig tag log (Err why) = Err why
checked_by dig tag log (Ok bundle) = history_of (tests_by dig) (chain_of tag) log bundle

abbrev pub links_handed : (List ℕ → List ℕ) → List ℕ → List RootCall → List ℕ → Result Links HistoryRefusal
links_handed dig tag log bytes = checked_by dig tag log (bundle_in bytes)

-- the block of the first standing exit of a coin
abbrev pub first_block : List ExitView → Option ℕ
first_block [] = None
first_block (exit ∷ exits) = Some exit.block

abbrev pub standing_block : List RootCall → ℕ → Option ℕ
standing_block log coin = first_block (exits_of log coin)

-- the most bytes of a record
abbrev pub most_note : ℕ
most_note = most
