-- What an operator takes, walks by and promises is of its chain's tag; and what an audit counts is.
use Rattle.std.specs.Prelude.{◌≡◌, ◌≢◌, ◌⊎◌, ℕ, ◌^◌, ◌<◌, List, length, Some, Ok, Err}
use Rattle.std.specs.List.{Contains}
use Rattle.lms_sign.specs.declared.secret.Secret.{Secret}
use Rattle.leaf_journal.specs.Records.{is_marked, messages_of}
use Rattle.node_journal.specs.Effect.{only}
use Rattle.sparse_merkle.specs.declared.tree.Entry.{Entry}
use Rattle.sparse_merkle.specs.TreeDigest.{leaf_of}
use Rattle.plasma_tx.specs.declared.signed_tx.SignedTx.{SignedTx}
use Rattle.plasma_tx.specs.declared.call.RootCall.{RootCall}
use Rattle.plasma_tx.specs.declared.views.CoinView.{CoinView}
use Rattle.plasma_tx.specs.Chain.{Chain}
use Rattle.plasma_tx.specs.declared.links.Links.{Links}
use Rattle.plasma_tx.specs.Views.{blocks, coin_at}
use Rattle.plasma_tx.specs.Shown.{Rules}
use Rattle.coin_history.specs.declared.bundle.Bundle.{Bundle}
use Rattle.operator_rules.specs.declared.refusal.OfferRefusal.TheVariants.{NotTransfer}
use Rattle.operator_rules.specs.Records.{Offered, who_is, notes_of}
use Rattle.operator_rules.specs.Trees.{tree_at}
use Rattle.operator_rules.specs.Walk.{Place, start_of, place_at}
use Rattle.operator_rules.specs.Commands.{offer_effect, bundle_of}
use Rattle.operator_rules.specs.Acts.{Act, log_of, sealed_in, IsHonest, AreDistinct}
use Rattle.receipt_audit.specs.declared.promise.Promise.{Promise}
use Rattle.receipt_audit.specs.declared.issuing.Receipt.{Receipt}
use Rattle.receipt_audit.specs.declared.audit.Conviction.{Conviction}
use Rattle.receipt_audit.specs.declared.refusal.AuditRefusal.TheVariants.{BadReceipt}
use Rattle.receipt_audit.specs.Promises.{promise_at_start, promise_in}
use Rattle.receipt_audit.specs.Audit.{conviction_of, conviction_answer}
use Rattle.receipt_audit.specs.Desk.{promise_for, issue_effect}
use Rattle.receipt_audit.specs.Laws.{MayIssue}
use Rattle.tag_laws.specs.Tags.{tag_named, IsOfChain}
use Rattle.tag_laws.specs.Histories.{AreOfChain}

-- ---- the operator

-- an offer that is taken is of a transfer of the operator's chain
abbrev pub OffersAreOfTheChain : Type 0
OffersAreOfTheChain = (dig : List ℕ → List ℕ) (records : List (List ℕ)) (log : List RootCall) (bytes : List ℕ)
    (coin : ℕ) → (offer_effect dig records log bytes).answer ≡ Ok coin
    → (tx : SignedTx) × IsOfChain (who_is records).tag coin bytes tx

-- one of another tag is refused as no transfer, and adds no record
abbrev pub OthersAreNotOffered : Type 0
OthersAreNotOffered = (dig : List ℕ → List ℕ) (records : List (List ℕ)) (log : List RootCall) (bytes : List ℕ)
    → tag_named bytes ≢ (who_is records).tag → offer_effect dig records log bytes ≡ only (Err NotTransfer)

-- each transfer that its records say was offered is of the chain
abbrev pub OfferedAreOfTheChain : Type 0
OfferedAreOfTheChain = (records : List (List ℕ)) (bytes : List ℕ) → Contains (notes_of records) (Offered bytes)
    → (tx : SignedTx) × IsOfChain (who_is records).tag tx.body.coin bytes tx

-- the place is that of a transfer of the chain, in the tree of its block, which goes to the owner there
pub record IsMovedTo (dig : List ℕ → List ℕ) (tag : List ℕ) (log : List RootCall) (sealed : List (List Entry))
    (coin : ℕ) (place : Place) : Type 0 where
  pub tree : List Entry
  pub tree_is : tree_at dig log sealed place.block ≡ Some tree
  pub tx : SignedTx
  pub of_chain : IsOfChain tag coin (leaf_of tree coin) tx
  pub owner : tx.body.to ≡ place.owner

-- a walk's place is the deposit, or such a one, whatever the trees have
abbrev pub WalksAreOfTheChain : Type 0
WalksAreOfTheChain = (dig : List ℕ → List ℕ) (tag : List ℕ) (log : List RootCall) (sealed : List (List Entry))
    (coin : ℕ) (made : CoinView) (n : ℕ)
    → (place_at dig tag log sealed coin made n ≡ start_of made)
    ⊎ IsMovedTo dig tag log sealed coin (place_at dig tag log sealed coin made n)

-- the bundle that an honest operator makes for a tip that its walk passed: a history, all of the chain
pub record MakesOwn (dig : List ℕ → List ℕ) (rules : Rules) (acts : List Act) (coin tip : ℕ) : Type 0 where
  pub bundle : Bundle
  pub links : Links
  pub made : bundle_of dig rules.tag (log_of acts) (sealed_in acts) coin tip (coin_at (log_of acts) coin) ≡ Ok bundle
  pub of_chain : AreOfChain rules.tag bundle links

abbrev pub HonestBundlesAreOfTheChain : Type 0
HonestBundlesAreOfTheChain = (dig : List ℕ → List ℕ) (rules : Rules) (acts : List Act) (coin tip : ℕ)
    (made : CoinView) → ((bytes : List ℕ) → length (dig bytes) ≡ 32) → coin < 2 ^ 64
    → blocks (log_of acts) < 2 ^ 32 → IsHonest dig rules.tag acts → AreDistinct dig (sealed_in acts)
    → coin_at (log_of acts) coin ≡ Some made
    → (place_at dig rules.tag (log_of acts) (sealed_in acts) coin made tip).block ≡ tip
    → MakesOwn dig rules acts coin tip

-- ---- audits

-- a promise of another tag is no receipt to an audit, whatever key and bundle are shown with it
abbrev pub OthersAreNoReceipts : Type 0
OthersAreNoReceipts = (dig : List ℕ → List ℕ) (chain : Chain) (key receipt bundle : List ℕ)
    → (promise_at_start receipt).tag ≢ chain.tag → conviction_answer dig chain key receipt bundle ≡ Err BadReceipt

-- what convicts is a promise of the chain
abbrev pub ConvictionsAreOfTheChain : Type 0
ConvictionsAreOfTheChain = (dig : List ℕ → List ℕ) (chain : Chain) (key receipt bundle : List ℕ)
    (conviction : Conviction) → conviction_answer dig chain key receipt bundle ≡ Ok conviction
    → (promise : Promise) × (promise_in chain.tag receipt ≡ Some promise) × (promise.tag ≡ chain.tag)
    × (conviction_of promise ≡ conviction)

-- ---- the desk

-- A receipt that an issue gives is of a promise of the operator's chain, and for a transfer of it.
abbrev pub ReceiptsAreOfTheChain : Type 0
ReceiptsAreOfTheChain = (dig judge : List ℕ → List ℕ) (secret : Secret) (notes records : List (List ℕ))
    (log : List RootCall) (bytes : List ℕ) (due : ℕ) (receipt : Receipt) → MayIssue dig secret bytes due
    → (issue_effect dig judge secret notes records log bytes due).answer ≡ Ok receipt
    → (promise_in (who_is notes).tag receipt.bytes
    ≡ Some (promise_for dig (who_is notes).tag (blocks log) bytes due))
    × ((tx : SignedTx) × IsOfChain (who_is notes).tag (promise_for dig (who_is notes).tag (blocks log) bytes due).coin
    bytes tx)

-- A desk's records count by their number alone. With others in their place, of whatever tag, an issue does the same, if
-- as many leaves are bound and the marker is there or isn't: each record is one leaf that is spent.
abbrev pub DesksCountLeavesAlone : Type 0
DesksCountLeavesAlone = (dig judge : List ℕ → List ℕ) (secret : Secret) (notes records others : List (List ℕ))
    (log : List RootCall) (bytes : List ℕ) (due : ℕ) → is_marked records ≡ is_marked others
    → length (messages_of records) ≡ length (messages_of others)
    → issue_effect dig judge secret notes records log bytes due
    ≡ issue_effect dig judge secret notes others log bytes due
