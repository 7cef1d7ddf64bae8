-- What a wallet sends is of its chain's tag. What its leaves bind may be of another, and then counts as what they bind
-- of its own: it keeps the wallet from signing the coin away from there, and nothing more.
use Rattle.std.specs.Prelude.{◌≡◌, ◌≢◌, ℕ, ◌^◌, ◌<◌, ◌≤◌, ◌==◌, true, false, List, [], ◌++◌, map, slice_get, Option, Some, None, IfSome, Ok, Err}
use Rattle.std.specs.List.{All, list_any}
use Rattle.lms_sign.specs.Tree.{signature_of}
use Rattle.leaf_journal.specs.Records.{is_marked, messages_of}
use Rattle.plasma_tx.specs.declared.owner.Owner.{Owner}
use Rattle.plasma_tx.specs.declared.signed_tx.SignedTx.{SignedTx}
use Rattle.plasma_tx.specs.declared.signed_tx.TxRefusal.TheVariants.{BadTag}
use Rattle.plasma_tx.specs.declared.call.RootCall.{RootCall}
use Rattle.plasma_tx.specs.Spelling.{signed_in, IsOwner}
use Rattle.coin_history.specs.declared.bundle.Bundle.{Bundle}
use Rattle.coin_history.specs.Bundles.{bundle_in}
use Rattle.wallet_core.specs.declared.notes.LeafRecord.{LeafRecord}
use Rattle.wallet_core.specs.declared.notes.Notes.{Notes}
use Rattle.wallet_core.specs.declared.coin_state.CoinState.TheVariants.{Sending, Leaving, Held}
use Rattle.wallet_core.specs.State.{spends_tip, state_of, holds}
use Rattle.wallet_core.specs.Laws.{IsTip}
use Rattle.node_rules.specs.declared.answers.Sent.{Sent}
use Rattle.node_rules.specs.declared.refusal.WalletRefusal.TheVariants.{NotHeld, NoLast}
use Rattle.node_rules.specs.WalletRecords.{leaves_in, secret_of}
use Rattle.node_rules.specs.Wallet.{WalletRecords, answers, who, noted, coin_state, last_leaf, last_of, due_in, accept_effect, send_effect, again_answer, leave_effect, reclaim_effect, migrate_effect, watch_answer}
use Rattle.node_rules.specs.WalletOpening.{is_wallet}
use Rattle.node_rules.specs.WalletCommandLaws.{after, sent_body, FitWords}
use Rattle.tag_laws.specs.Tags.{tag_named, IsOfChain}

-- ---- what is sent

-- a coin that may be sent by its words: its number and the last block have 64 bits, and the owner is one
pub record MaySend (coin : ℕ) (to : Owner) (last : Option ℕ) : Type 0 where
  pub coin_fits : coin < 2 ^ 64
  pub owner : IsOwner to
  pub last_fits : IfSome last (λ n. n < 2 ^ 64)

-- the bytes that a send gives are a transfer of the wallet's chain, from the tip at which the wallet holds the coin
abbrev pub SentAreOfTheChain : Type 0
SentAreOfTheChain = (dig : List ℕ → List ℕ) (wallet : WalletRecords) (log : List RootCall) (coin : ℕ) (to : Owner)
    (last : Option ℕ) (sent : Sent) → is_wallet dig wallet ≡ true → FitWords wallet log → MaySend coin to last
    → (send_effect dig wallet log coin to last).answer ≡ Ok sent
    → (tip : ℕ) × (coin_state dig wallet log coin ≡ Held tip)
    × ((tx : SignedTx) × (tx.body ≡ sent_body wallet coin tip to last)
    × IsOfChain (who wallet).tag coin sent.bytes tx)

-- all that the wallet's leaves bind is of its chain
abbrev pub OwnLeaves : WalletRecords → Type 0
OwnLeaves wallet = All (λ leaf. leaf.body.tag ≡ (who wallet).tag) (leaves_in wallet.leaves)

-- so it is of a wallet that bound nothing, and stays so by whatever a wallet does
pub record StayOwn (dig : List ℕ → List ℕ) (wallet : WalletRecords) (log : List RootCall) (coin : ℕ) (to : Owner)
    (last : Option ℕ) (bytes : List ℕ) : Type 0 where
  pub accept : OwnLeaves (after (accept_effect dig wallet log bytes) wallet)
  pub send : OwnLeaves (after (send_effect dig wallet log coin to last) wallet)
  pub leave : OwnLeaves (after (leave_effect dig wallet log coin) wallet)
  pub reclaim : OwnLeaves (after (reclaim_effect dig wallet log bytes) wallet)
  pub migrate : OwnLeaves (after (migrate_effect wallet) wallet)

abbrev pub NewWalletsAreOwn : Type 0
NewWalletsAreOwn = (notes : List (List ℕ)) → OwnLeaves (record { notes = notes; leaves = [] })

abbrev pub WalletsStayOwn : Type 0
WalletsStayOwn = (dig : List ℕ → List ℕ) (wallet : WalletRecords) (log : List RootCall) (coin : ℕ) (to : Owner)
    (last : Option ℕ) (bytes : List ℕ) → is_wallet dig wallet ≡ true → FitWords wallet log → MaySend coin to last
    → OwnLeaves wallet → StayOwn dig wallet log coin to last bytes

-- ---- what is sent again

-- What again gives is what the leaf binds, signed by that leaf: a transfer of the coin, of whichever tag the bound
-- body has.
pub record GivesLeaf (wallet : WalletRecords) (coin : ℕ) (sent : Sent) : Type 0 where
  pub message : List ℕ
  pub bound : slice_get (messages_of wallet.leaves) sent.q ≡ Some message
  pub bytes_are : sent.bytes ≡ message ++ signature_of (secret_of (who wallet)) sent.q message
  pub tx : SignedTx
  pub of_leaf : IsOfChain (tag_named message) coin sent.bytes tx

abbrev pub AgainGivesItsLeaf : Type 0
AgainGivesItsLeaf = (dig : List ℕ → List ℕ) (wallet : WalletRecords) (coin : ℕ) (sent : Sent)
    → is_wallet dig wallet ≡ true → again_answer wallet coin ≡ Ok sent → GivesLeaf wallet coin sent

-- so it is of the wallet's chain where all leaves are
abbrev pub OwnAgainIsOfTheChain : Type 0
OwnAgainIsOfTheChain = (dig : List ℕ → List ℕ) (wallet : WalletRecords) (coin : ℕ) (sent : Sent)
    → is_wallet dig wallet ≡ true → OwnLeaves wallet → again_answer wallet coin ≡ Ok sent
    → (tx : SignedTx) × IsOfChain (who wallet).tag coin sent.bytes tx

-- and where it isn't of the wallet's chain, no reader of that chain takes it
abbrev pub OtherAgainIsRefused : Type 0
OtherAgainIsRefused = (dig : List ℕ → List ℕ) (wallet : WalletRecords) (coin : ℕ) (sent : Sent)
    → is_wallet dig wallet ≡ true → again_answer wallet coin ≡ Ok sent
    → tag_named sent.bytes ≢ (who wallet).tag → signed_in (who wallet).tag sent.bytes ≡ Err BadTag

-- ---- no tag is asked

-- what a wallet asks of a leaf: all that it binds but the tag
abbrev pub without_tag : LeafRecord → LeafRecord
without_tag leaf = record { body = record leaf.body { tag = [] } }

-- two wallets with the same notes, whose leaves bind the same but for tags; the marker is there in both or in neither
pub record AreAlike (one other : WalletRecords) : Type 0 where
  pub notes : one.notes ≡ other.notes
  pub marked : is_marked one.leaves ≡ is_marked other.leaves
  pub leaves : map without_tag (leaves_in one.leaves) ≡ map without_tag (leaves_in other.leaves)

-- they do the same by each command; again gives the same leaf of both, and of each what that binds
pub record DoAlike (dig : List ℕ → List ℕ) (one other : WalletRecords) (log : List RootCall) (coin : ℕ) (to : Owner)
    (last : Option ℕ) (bytes : List ℕ) : Type 0 where
  pub state : coin_state dig one log coin ≡ coin_state dig other log coin
  pub accept : accept_effect dig one log bytes ≡ accept_effect dig other log bytes
  pub send : send_effect dig one log coin to last ≡ send_effect dig other log coin to last
  pub again : last_leaf (leaves_in one.leaves) coin ≡ last_leaf (leaves_in other.leaves) coin
  pub leave : leave_effect dig one log coin ≡ leave_effect dig other log coin
  pub reclaim : reclaim_effect dig one log bytes ≡ reclaim_effect dig other log bytes
  pub migrate : migrate_effect one ≡ migrate_effect other
  pub watch : watch_answer dig one log ≡ watch_answer dig other log

abbrev pub TagsAreNotAsked : Type 0
TagsAreNotAsked = (dig : List ℕ → List ℕ) (one other : WalletRecords) (log : List RootCall) (coin : ℕ) (to : Owner)
    (last : Option ℕ) (bytes : List ℕ) → AreAlike one other → DoAlike dig one other log coin to last bytes

-- ---- records take away

-- a coin that is held, or left with, with more leaves, of whatever tags, is so without them
abbrev pub MoreLeavesTakeAway : Type 0
MoreLeavesTakeAway = (notes : Notes) (leaves more : List LeafRecord) (log : List RootCall) (coin tip : ℕ)
    → (state_of notes (leaves ++ more) log coin ≡ Held tip → state_of notes leaves log coin ≡ Held tip)
    × (state_of notes (leaves ++ more) log coin ≡ Leaving tip → state_of notes leaves log coin ≡ Leaving tip)
    × (holds notes (leaves ++ more) log coin tip ≡ true → holds notes leaves log coin tip ≡ true)

-- What a wallet does with a coin whose tip leaf q names: it is sending it by this leaf or an earlier one. So it doesn't
-- send it or leave with it, and offers nothing for it; and where that leaf has no last block it never takes it back.
pub record IsSpent (dig : List ℕ → List ℕ) (wallet : WalletRecords) (log : List RootCall) (coin tip q : ℕ) : Type 0
  where
    pub by : ℕ
    pub earlier : by ≤ q
    pub state : coin_state dig wallet log coin ≡ Sending tip by
    pub send : (to : Owner) (last : Option ℕ) → send_effect dig wallet log coin to last ≡ answers (Err NotHeld)
    pub leave : leave_effect dig wallet log coin ≡ answers (Err NotHeld)
    pub due : due_in dig wallet log coin (coin_state dig wallet log coin) ≡ []
    pub reclaim : (bytes : List ℕ) (bundle : Bundle) → bundle_in bytes ≡ Ok bundle → bundle.coin ≡ coin
        → last_of (leaves_in wallet.leaves) by ≡ None
        → reclaim_effect dig wallet log bytes ≡ answers (Err NoLast)

-- so it is by a leaf of whatever tag that isn't taken back
abbrev pub NamedTipsAreSpent : Type 0
NamedTipsAreSpent = (dig : List ℕ → List ℕ) (wallet : WalletRecords) (log : List RootCall) (coin tip q : ℕ)
    (leaf : LeafRecord) → IsTip (noted dig wallet) log coin tip → slice_get (leaves_in wallet.leaves) q ≡ Some leaf
    → spends_tip coin tip leaf ≡ true → list_any (λ other. other == q) (noted dig wallet).reclaimed ≡ false
    → IsSpent dig wallet log coin tip q
