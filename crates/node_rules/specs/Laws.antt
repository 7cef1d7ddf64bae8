-- What holds of kept histories.
use Rattle.std.specs.Prelude.{◌≡◌, ℕ, true, List, ◌++◌, Some, Ok}
use Rattle.plasma_tx.specs.{declared.links.Links.{Links}, declared.call.RootCall.{RootCall}, Spelling.{AreBytes}}
use Rattle.coin_history.specs.{declared.bundle.Bundle.{Bundle}, Bundles.{bundle_text, IsBundle}, History.{links_in}}
use Rattle.node_rules.specs.Kept.{chain_of, kept_of, is_kept, kept_in, kept_links, links_handed}

-- a kept coin that has bytes: its openings show links of the coin, the last at the tip
pub record IsKeptCoin (dig : List ℕ → List ℕ) (tag : List ℕ) (kept : Bundle) : Type 0 where
  pub is_bundle : IsBundle kept
  pub shows : is_kept dig tag kept ≡ true

-- a kept coin's bytes are read as it, and the bytes that are read are its own
abbrev pub KeptCoinsAreReadBack : Type 0
KeptCoinsAreReadBack = (dig : List ℕ → List ℕ) (tag : List ℕ) (kept : Bundle) → IsKeptCoin dig tag kept
    → kept_in dig tag (bundle_text kept) ≡ Some kept

abbrev pub KeptCoinsHaveOneSpelling : Type 0
KeptCoinsHaveOneSpelling = (dig : List ℕ → List ℕ) (tag bytes : List ℕ) (kept : Bundle) → AreBytes bytes
    → kept_in dig tag bytes ≡ Some kept → (bytes ≡ bundle_text kept) × IsKeptCoin dig tag kept

-- What is kept of links has bytes, which are read as it. Its openings show the links again, and under the log the
-- whole of them.
pub record IsReadBack (dig : List ℕ → List ℕ) (tag : List ℕ) (log : List RootCall) (links : Links) : Type 0 where
  pub is_kept : IsKeptCoin dig tag (kept_of links)
  pub read : kept_in dig tag (bundle_text (kept_of links)) ≡ Some (kept_of links)
  pub shown : links_in (chain_of tag) links.coin (kept_of links).openings ≡ links.spends
  pub whole : kept_links tag log (kept_of links) ≡ Some links

-- so is what is kept of a bundle that a node is handed, where it is the history of its coin
abbrev pub KeptHistoriesAreReadBack : Type 0
KeptHistoriesAreReadBack = (dig : List ℕ → List ℕ) (tag : List ℕ) (log : List RootCall) (bytes : List ℕ)
    (links : Links) → AreBytes bytes → links_handed dig tag log bytes ≡ Ok links → IsReadBack dig tag log links

-- what is kept has the same links under each longer log
abbrev pub KeptLinksStay : Type 0
KeptLinksStay = (tag : List ℕ) (log more : List RootCall) (kept : Bundle) (links : Links)
    → kept_links tag log kept ≡ Some links → kept_links tag (more ++ log) kept ≡ Some links
