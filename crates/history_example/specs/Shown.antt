-- What bytes show of a coin under a log.
use Rattle.std.specs.Prelude.{◌≡◌, ℕ, List, Result, Ok, Err}
use Rattle.sha2.specs.Sha256.{sha256}
use Rattle.plasma_tx.specs.Chain.{Chain}
use Rattle.plasma_tx.specs.Shown.{tests_by, rules_of}
use Rattle.plasma_tx.specs.declared.links.Links.{Links}
use Rattle.coin_history.specs.declared.bundle.Bundle.{Bundle}
use Rattle.coin_history.specs.declared.refusal.HistoryRefusal.{HistoryRefusal}
use Rattle.coin_history.specs.Bundles.{bundle_in}
use Rattle.coin_history.specs.Checking.{history_of}
use Rattle.coin_history.specs.History.{IsHistory}

-- the bytes spell a bundle, and that is the whole history of its coin under the log, with these links
pub record IsShown (chain : Chain) (bytes : List ℕ) (links : Links) : Type 0 where
  pub bundle : Bundle
  pub spelled : bundle_in bytes ≡ Ok bundle
  pub history : IsHistory (tests_by sha256) (rules_of chain) chain.log bundle links

-- the answer to a bundle that was read, or wasn't
abbrev pub checked_under : Chain → Result Bundle HistoryRefusal → Result Links HistoryRefusal
checked_under chain (Err why) = Err why
checked_under chain (Ok bundle) = history_of (tests_by sha256) (rules_of chain) chain.log bundle

-- the answer to a bundle's bytes
abbrev pub answer_of : Chain → List ℕ → Result Links HistoryRefusal
answer_of chain bytes = checked_under chain (bundle_in bytes)
