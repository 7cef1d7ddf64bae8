use Rattle.std.proofs.Common.{◌≡◌, ◌≢◌, ℕ, List, Result, Ok, Err, IfOk, sym}
use Rattle.sha2.specs.Sha256.{sha256}
use Rattle.plasma_tx.specs.Chain.{Chain}
use Rattle.plasma_tx.specs.Shown.{tests_by, rules_of}
use Rattle.plasma_tx.specs.declared.links.Links.{Links}
use Rattle.coin_history.specs.declared.bundle.Bundle.{Bundle}
use Rattle.coin_history.specs.declared.refusal.HistoryRefusal.{HistoryRefusal}
use Rattle.coin_history.specs.declared.refusal.HistoryRefusal.TheVariants.{NoMemory}
use Rattle.coin_history.specs.Bundles.{AreRising, bundle_in}
use Rattle.coin_history.specs.Checking.{history_of}
use Rattle.coin_history.specs.Laws.{OnlyHistoriesPass}
use Rattle.history_example.specs.Shown.{IsShown}
use Rattle.history_example.proofs.links_of.Goals as goal

-- links that a bundle is answered are those of its history
shown : (chain : Chain) (bytes : List ℕ) (bundle : Bundle) (result : Result Links HistoryRefusal)
    → OnlyHistoriesPass → bundle_in bytes ≡ Ok bundle → AreRising bundle.openings
    → (result ≢ Err NoMemory → result ≡ history_of (tests_by sha256) (rules_of chain) chain.log bundle)
    → IfOk result (IsShown chain bytes)
shown chain bytes bundle (Err why) law spelled rising value = tt
shown chain bytes bundle (Ok links) law spelled rising value = record {
  bundle = bundle;
  spelled = spelled;
  history = law (tests_by sha256) (rules_of chain) chain.log bundle links rising (sym (value (λ wrong. cc wrong)));
}

pub returns-clause-history : goal.returns-clause-history
returns-clause-history c =
    shown c.args.log.now c.args.bytes.now c.in_ok-bundle.bundle c.check.result c.histories_are_checked.ensures.found
    (sym (c.in_ok-bundle.ensures.value (λ wrong. cc wrong))) c.in_ok-bundle.ensures.rising c.check.ensures.value
