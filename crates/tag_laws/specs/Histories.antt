-- What wallets accept and watchers guard is of the chain's tag, link by link; and so is all that they keep.
use Rattle.std.specs.Prelude.{◌≡◌, ◌⊎◌, ℕ, true, List, Ok}
use Rattle.std.specs.List.{All, Contains}
use Rattle.plasma_tx.specs.declared.links.Link.{Link}
use Rattle.plasma_tx.specs.declared.links.Links.{Links}
use Rattle.plasma_tx.specs.declared.call.RootCall.{RootCall}
use Rattle.plasma_tx.specs.Links.{tip_of}
use Rattle.plasma_tx.specs.Spelling.{AreBytes}
use Rattle.plasma_tx.specs.Shown.{Tests, Rules}
use Rattle.coin_history.specs.declared.bundle.Bundle.{Bundle}
use Rattle.coin_history.specs.Bundles.{AreRising, bundle_in}
use Rattle.coin_history.specs.History.{is_absent, leaf_of_opening}
use Rattle.coin_history.specs.Checking.{history_of}
use Rattle.node_rules.specs.declared.answers.Accepted.{Accepted}
use Rattle.node_rules.specs.WalletRecords.{accepted_of, notes_of as wallet_notes}
use Rattle.node_rules.specs.Wallet.{WalletRecords, who, accept_effect}
use Rattle.node_rules.specs.Watcher.{who_is as watcher_who, guards_in, guard_effect}
use Rattle.tag_laws.specs.Tags.{IsOfChain, ShowsOwn}

-- a link of a bundle: one of its openings, of the link's block, whose leaf is the link's transfer, of the chain
pub record IsLinkOf (tag : List ℕ) (bundle : Bundle) (link : Link) : Type 0 where
  pub shown : Contains bundle.openings link.opening
  pub block : link.opening.block ≡ link.block
  pub of_chain : IsOfChain tag bundle.coin (leaf_of_opening link.opening) link.tx

-- a bundle's openings show nothing else: a leaf is empty, or a transfer of the chain
abbrev pub ShowsOnlyOwn : List ℕ → Bundle → Type 0
ShowsOnlyOwn tag bundle =
    All (λ opening. (is_absent opening ≡ true) ⊎ ShowsOwn tag bundle.coin opening) bundle.openings

-- each link is one, and the openings show nothing else
pub record AreOfChain (tag : List ℕ) (bundle : Bundle) (links : Links) : Type 0 where
  pub coin : links.coin ≡ bundle.coin
  pub links_are : All (IsLinkOf tag bundle) links.spends
  pub openings_are : ShowsOnlyOwn tag bundle

-- so is a history
abbrev pub HistoriesAreOfTheChain : Type 0
HistoriesAreOfTheChain = (tests : Tests) (rules : Rules) (log : List RootCall) (bundle : Bundle) (links : Links)
    → AreRising bundle.openings → history_of tests rules log bundle ≡ Ok links → AreOfChain rules.tag bundle links

-- the bytes are a bundle of this coin and tip, and a history of the chain
pub record TakesOwn (tag bytes : List ℕ) (taken : Accepted) : Type 0 where
  pub bundle : Bundle
  pub links : Links
  pub read : bundle_in bytes ≡ Ok bundle
  pub of_chain : AreOfChain tag bundle links
  pub coin : taken.coin ≡ links.coin
  pub tip : taken.tip ≡ tip_of links

-- so are the bytes that a wallet accepts
abbrev pub AcceptedAreOfTheChain : Type 0
AcceptedAreOfTheChain = (dig : List ℕ → List ℕ) (wallet : WalletRecords) (log : List RootCall) (bytes : List ℕ)
    (taken : Accepted) → AreBytes bytes → (accept_effect dig wallet log bytes).answer ≡ Ok taken
    → TakesOwn (who wallet).tag bytes taken

-- and those that a watcher takes as a guard
abbrev pub GuardedAreOfTheChain : Type 0
GuardedAreOfTheChain = (dig : List ℕ → List ℕ) (records : List (List ℕ)) (log : List RootCall) (bytes : List ℕ)
    (taken : Accepted) → AreBytes bytes → (guard_effect dig records log bytes).answer ≡ Ok taken
    → TakesOwn (watcher_who records).tag bytes taken

-- each opening of a kept coin shows a transfer of the chain
abbrev pub KeepsOwn : List ℕ → Bundle → Type 0
KeepsOwn tag kept = All (ShowsOwn tag kept.coin) kept.openings

-- so it is of whatever records are read: a wallet's accepted coins, and a watcher's guards
abbrev pub KeptAreOfTheChain : Type 0
KeptAreOfTheChain = (dig : List ℕ → List ℕ) (wallet : WalletRecords) (records : List (List ℕ))
    → All (KeepsOwn (who wallet).tag) (accepted_of (wallet_notes dig wallet.notes))
    × All (KeepsOwn (watcher_who records).tag) (guards_in dig records)
