-- What each command of the operator answers, and the record that it adds, by its records and the log.
use Rattle.std.specs.Prelude.{ℕ, ◌==◌, not, Bool, nat_lt, nat_le, if◌then◌else◌, List, [], ◌∷◌, ◌++◌, length, Option, Some, None, Result, Ok, Err}
use Rattle.node_journal.specs.Effect.{Effect, only, first_cause, unless}
use Rattle.sparse_merkle.specs.{declared.tree.Entry.{Entry}, TreeDigest.{root_of}}
use Rattle.plasma_tx.specs.{declared.opening.RawOpening.{RawOpening}, declared.signed_tx.SignedTx.{SignedTx}, declared.signed_tx.TxRefusal.{TxRefusal}, declared.call.RootCall.{RootCall}, declared.call.RootCall.TheVariants.{Commit}}
use Rattle.plasma_tx.specs.{declared.views.CoinView.{CoinView}, Spelling.{signed_in}, Transfer.{is_signed_by}, Views.{blocks, coin_at}}
use Rattle.coin_history.specs.{declared.bundle.Bundle.{Bundle}, History.{committed_blocks}, Checking.{may_be_tip}}
use Rattle.operator_rules.specs.{declared.TheConstants.{MOST_LAID}, declared.sealed.Sealed.{Sealed as SealedPool}, declared.refusal.OfferRefusal.{OfferRefusal}}
use Rattle.operator_rules.specs.{declared.refusal.OfferRefusal.TheVariants.{NotTransfer, NoCoin, WrongParent, BadSignature, TooLate, PoolHasCoin}, declared.refusal.LayRefusal.{LayRefusal}}
use Rattle.operator_rules.specs.{declared.refusal.LayRefusal.TheVariants.{LeafTooLong}, declared.refusal.SealRefusal.{SealRefusal}, declared.refusal.ProveRefusal.{ProveRefusal}}
use Rattle.operator_rules.specs.{declared.refusal.ProveRefusal.TheVariants.{NoCoin as NoSuchCoin, UnknownBlock}, Records.{Offered, Laid, Sealed, note_text, who_is, notes_of}, Trees.{Forest, forest_of, tree_at, opening_in_tree, is_waiting}}
use Rattle.operator_rules.specs.Walk.{Place, present}

-- what records leave
abbrev pub forest_in : List (List ℕ) → Forest
forest_in records = forest_of (notes_of records)

-- ---- offer

-- the transfer's last block is one of so many blocks
abbrev pub late_causes : ℕ → Option ℕ → List (Bool × OfferRefusal)
late_causes count None = []
late_causes count (Some last) = (nat_le last count, TooLate last) ∷ []

-- what an offered transfer is refused for, where the coin is at this place and maybe waiting
abbrev pub offer_causes : ℕ → SignedTx → Place → Bool → List (Bool × OfferRefusal)
offer_causes count tx tip waiting =
    (
    (not (tx.body.parent == tip.block), WrongParent tip.block)
    ∷ (not (is_signed_by tx tip.owner), BadSignature)
    ∷ late_causes count tx.body.last
    ++ (waiting, PoolHasCoin) ∷ []
    )

abbrev pub offer_at : (List ℕ → List ℕ) → List ℕ → List RootCall → Forest → List ℕ → SignedTx → Option CoinView
    → Effect (Result ℕ OfferRefusal)
offer_at dig tag log forest bytes tx None = only (Err NoCoin)
offer_at dig tag log forest bytes tx (Some made) =
    unless
    (first_cause
    (offer_causes (blocks log) tx (present dig tag log forest.sealed tx.body.coin made)
    (is_waiting dig log forest tx.body.coin)))
    (record { answer = Ok tx.body.coin; note = Some (note_text (Offered bytes)) })

abbrev pub offer_of : (List ℕ → List ℕ) → List ℕ → List RootCall → Forest → List ℕ → Result SignedTx TxRefusal
    → Effect (Result ℕ OfferRefusal)
offer_of dig tag log forest bytes (Err why) = only (Err NotTransfer)
offer_of dig tag log forest bytes (Ok tx) = offer_at dig tag log forest bytes tx (coin_at log tx.body.coin)

-- an offer of bytes
unfoldable pub offer_effect : (List ℕ → List ℕ) → List (List ℕ) → List RootCall → List ℕ
    → Effect (Result ℕ OfferRefusal)
offer_effect dig records log bytes =
    offer_of dig (who_is records).tag log (forest_in records) bytes (signed_in (who_is records).tag bytes)

-- ---- lay and seal

-- bytes are laid at a coin
unfoldable pub lay_effect : ℕ → List ℕ → Effect (Result Unit LayRefusal)
lay_effect coin bytes =
    if nat_lt MOST_LAID (length bytes) then only (Err (LeafTooLong (length bytes)))
    else record { answer = Ok tt; note = Some (note_text (Laid coin bytes)) }

-- the pool is sealed: the number of its leaves, and the commit of its root by the operator's account
unfoldable pub seal_effect : (List ℕ → List ℕ) → List (List ℕ) → Effect (Result SealedPool SealRefusal)
seal_effect dig records = record {
  answer = Ok (record {
    leaves = length (forest_in records).pool;
    call = Commit (who_is records).account (root_of dig (forest_in records).pool);
  });
  note = Some (note_text Sealed);
}

-- ---- openings

-- the opening of block n by its tree, if there is one
abbrev pub prove_by : (List ℕ → List ℕ) → ℕ → ℕ → Option (List Entry) → Result RawOpening ProveRefusal
prove_by dig coin n None = Err (UnknownBlock n)
prove_by dig coin n (Some tree) = Ok (opening_in_tree dig coin n tree)

-- what block n has at the coin
unfoldable pub prove_answer : (List ℕ → List ℕ) → List (List ℕ) → List RootCall → ℕ → ℕ
    → Result RawOpening ProveRefusal
prove_answer dig records log coin n = prove_by dig coin n (tree_at dig log (forest_in records).sealed n)

-- an opening before others
abbrev pub with_opening : Result RawOpening ProveRefusal → Result (List RawOpening) ProveRefusal
    → Result (List RawOpening) ProveRefusal
with_opening (Err why) others = Err why
with_opening (Ok opening) (Err why) = Err why
with_opening (Ok opening) (Ok openings) = Ok (opening ∷ openings)

-- the openings of these blocks, or the first that has no tree
unfoldable pub openings_of : (List ℕ → List ℕ) → List RootCall → List (List Entry) → ℕ → List ℕ
    → Result (List RawOpening) ProveRefusal
openings_of dig log sealed coin [] = Ok []
openings_of dig log sealed coin (n ∷ blocks) =
    with_opening (prove_by dig coin n (tree_at dig log sealed n)) (openings_of dig log sealed coin blocks)

-- the bundle of openings
abbrev pub as_bundle : ℕ → ℕ → Result (List RawOpening) ProveRefusal → Result Bundle ProveRefusal
as_bundle coin tip (Err why) = Err why
as_bundle coin tip (Ok openings) = Ok (record { coin = coin; tip = tip; openings = openings })

-- the bundle of the committed blocks after a block and up to the tip
abbrev pub bundle_between : (List ℕ → List ℕ) → List RootCall → List (List Entry) → ℕ → ℕ → ℕ
    → Result Bundle ProveRefusal
bundle_between dig log sealed coin after tip =
    as_bundle coin tip (openings_of dig log sealed coin (committed_blocks log after tip))

abbrev pub bundle_to : (List ℕ → List ℕ) → List RootCall → List (List Entry) → ℕ → CoinView → ℕ
    → Result Bundle ProveRefusal
bundle_to dig log sealed coin made tip =
    if may_be_tip log made.deposit tip then bundle_between dig log sealed coin made.deposit tip
    else Err (UnknownBlock tip)

-- the tip 0 stands for the present tip
abbrev pub tip_asked : ℕ → Place → ℕ
tip_asked tip place = if tip == 0 then place.block else tip

abbrev pub bundle_of : (List ℕ → List ℕ) → List ℕ → List RootCall → List (List Entry) → ℕ → ℕ → Option CoinView
    → Result Bundle ProveRefusal
bundle_of dig tag log sealed coin tip None = Err NoSuchCoin
bundle_of dig tag log sealed coin tip (Some made) =
    bundle_to dig log sealed coin made (tip_asked tip (present dig tag log sealed coin made))

-- the history of a coin up to a tip
unfoldable pub bundle_answer : (List ℕ → List ℕ) → List (List ℕ) → List RootCall → ℕ → ℕ → Result Bundle ProveRefusal
bundle_answer dig records log coin tip =
    bundle_of dig (who_is records).tag log (forest_in records).sealed coin tip (coin_at log coin)

-- what the committed blocks after a block and up to the last have at a coin
unfoldable pub absences_answer : (List ℕ → List ℕ) → List (List ℕ) → List RootCall → ℕ → ℕ → ℕ
    → Result Bundle ProveRefusal
absences_answer dig records log coin after last =
    if nat_lt (blocks log) last then Err (UnknownBlock last)
    else bundle_between dig log (forest_in records).sealed coin after last
