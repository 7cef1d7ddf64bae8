-- What holds of an archive, after every list of calls that it follows and openings that it is given.
use Rattle.std.specs.Prelude.{◌≡◌, ℕ, ◌==◌, if◌then◌else◌, List, [], ◌∷◌, ◌++◌, Some, Ok}
use Rattle.plasma_tx.specs.{declared.opening.RawOpening.{RawOpening}, declared.call.RootCall.{RootCall}, declared.views.CoinView.{CoinView}, Chain.{Chain, with_log}, Views.{coin_at}, Shown.{tests_by, rules_of}}
use Rattle.coin_history.specs.{declared.bundle.Bundle.{Bundle}, Checking.{history_of}}
use Rattle.proof_archive.specs.Archives.{put_answer, after_put, scan_in, tip_answer, openings_up_to, links_up_to, bundle_answer}

-- A bundle of a coin up to a tip is a history by the chain's log and by each that extends it, with the links up to
-- there.
abbrev pub StaysAHistory : (List ℕ → List ℕ) → Chain → List RawOpening → ℕ → ℕ → Bundle → Type 0
StaysAHistory dig chain kept coin tip bundle = (more : List RootCall) (made : CoinView)
    → coin_at chain.log coin ≡ Some made
    → history_of (tests_by dig) (rules_of chain) (more ++ chain.log) bundle
    ≡ Ok (links_up_to tip (scan_in dig chain kept coin made).links)

-- ---- every list of calls and openings

-- what an archive is given: a call that joins its log, or an opening of a coin
pub data Given : Type 0 where
  Follow : RootCall → Given
  Put : ℕ → RawOpening → Given

-- a chain, and the openings that are kept of each coin
pub record Holding : Type 0 where
  pub chain : Chain
  pub kept : ℕ → List RawOpening

-- what is held after one more
abbrev pub held_with : (List ℕ → List ℕ) → Holding → Given → Holding
held_with dig held (Follow call) = record held { chain = with_log held.chain (call ∷ held.chain.log) }
held_with dig held (Put coin opening) = record held {
  kept = λ c. if c == coin then after_put (held.kept coin) opening
      (put_answer dig held.chain (held.kept coin) coin opening)
      else held.kept c;
}

-- what is held of a chain after all that was given, the newest first
unfoldable pub held_after : (List ℕ → List ℕ) → Chain → List Given → Holding
held_after dig chain [] = record { chain = with_log chain []; kept = λ coin. [] }
held_after dig chain (given ∷ older) = held_with dig (held_after dig chain older) given

-- Whatever was given, a bundle has exactly the kept openings up to its tip, and is a history by the log and by each
-- that extends it.
abbrev pub BundlesAreHistories : Type 0
BundlesAreHistories = (dig : List ℕ → List ℕ) (chain : Chain) (given : List Given) (coin tip : ℕ) (bundle : Bundle)
    → bundle_answer dig (held_after dig chain given).chain ((held_after dig chain given).kept coin) coin tip ≡ Ok bundle
    → (bundle ≡ record {
      coin = coin;
      tip = tip;
      openings = openings_up_to tip ((held_after dig chain given).kept coin);
    })
    × StaysAHistory dig (held_after dig chain given).chain ((held_after dig chain given).kept coin) coin tip bundle

-- and a coin's greatest tip has one
abbrev pub TipsHaveBundles : Type 0
TipsHaveBundles = (dig : List ℕ → List ℕ) (chain : Chain) (given : List Given) (coin tip : ℕ)
    → tip_answer dig (held_after dig chain given).chain ((held_after dig chain given).kept coin) coin ≡ Ok tip
    → (bundle : Bundle)
    × (bundle_answer dig (held_after dig chain given).chain ((held_after dig chain given).kept coin) coin tip
    ≡ Ok bundle)
