-- What an operator takes, walks by and promises is of its chain, and so is what convicts.
use Rattle.std.proofs.Common.{◌≡◌, ◌⊎◌, inl, inr, ℕ, zero, suc, ◌==◌, ◌&&◌, not, Bool, true, false, if◌then◌else◌, List, drop, Option, Some, None, Ok, Err, refl, ap, ◌∙◌, arith, rules}
use Rattle.std.specs.Prelude.{Result, nat_lt}
use Rattle.std.specs.List.{filter_map}
use Rattle.std.proofs.lemmas.Bool.{and_parts}
use Rattle.std.proofs.lemmas.List.Elements.{All-contains, All-from_recursion}
use Rattle.std.proofs.lemmas.Grind.{common_steps}
use Rattle.lms_sign.specs.declared.secret.Secret.{Secret}
use Rattle.lms_sign.specs.Types.{is_supported, leaf_count}
use Rattle.lms_sign.specs.Valid.{types_of, is_valid}
use Rattle.node_journal.specs.Effect.{first_cause}
use Rattle.sparse_merkle.specs.declared.tree.Entry.{Entry}
use Rattle.plasma_tx.specs.declared.signed_tx.SignedTx.{SignedTx}
use Rattle.plasma_tx.specs.declared.signed_tx.TxRefusal.{TxRefusal}
use Rattle.plasma_tx.specs.declared.call.RootCall.{RootCall}
use Rattle.plasma_tx.specs.declared.views.CoinView.{CoinView}
use Rattle.plasma_tx.specs.Spelling.{body_at_start, signed_in}
use Rattle.plasma_tx.specs.Transfer.{is_signed_by}
use Rattle.plasma_tx.specs.Views.{blocks}
use Rattle.plasma_tx.specs.Shown.{tests_by}
use Rattle.plasma_tx.proofs.Names.{some_same}
use Rattle.plasma_tx.proofs.Spellings.{signed_in-ok}
use Rattle.coin_history.specs.declared.bundle.Bundle.{Bundle}
use Rattle.coin_history.specs.declared.refusal.HistoryRefusal.{HistoryRefusal}
use Rattle.coin_history.specs.Bundles.{bundle_in}
use Rattle.operator_rules.specs.declared.refusal.OfferRefusal.{OfferRefusal}
use Rattle.operator_rules.specs.Records.{Note, Offered, Laid, Sealed, spells_transfer, note_in, who_is, notes_of}
use Rattle.operator_rules.specs.Trees.{Forest}
use Rattle.operator_rules.specs.Walk.{Place, start_of, moved_by, transfer_at, place_at}
use Rattle.operator_rules.specs.Commands.{forest_in, offer_at, offer_of, offer_effect}
use Rattle.operator_rules.specs.Acts.{log_of}
use Rattle.operator_rules.proofs.Made.{bundles_are_histories}
use Rattle.receipt_audit.specs.declared.promise.Promise.{Promise}
use Rattle.receipt_audit.specs.declared.issuing.Receipt.{Receipt}
use Rattle.receipt_audit.specs.declared.audit.Conviction.{Conviction}
use Rattle.receipt_audit.specs.declared.refusal.AuditRefusal.{AuditRefusal}
use Rattle.receipt_audit.specs.declared.refusal.AuditRefusal.TheVariants.{BadReceipt, BadKey, NotSigned, NotYet}
use Rattle.receipt_audit.specs.declared.refusal.IssueRefusal.{IssueRefusal}
use Rattle.receipt_audit.specs.Promises.{promise_in, promise_text, promised_part, signature_part}
use Rattle.receipt_audit.specs.Audit.{conviction_of, convicted, shown_by, audited, conviction_answer}
use Rattle.receipt_audit.specs.Desk.{IssueEffect, promise_for, issue_causes, receipt_or, issue_or, issue_effect}
use Rattle.receipt_audit.proofs.PromiseTexts.{promise-read}
use Rattle.receipt_audit.proofs.Given.{issues_give_receipts}
use Rattle.tag_laws.specs.Tags.{IsOfChain}
use Rattle.tag_laws.specs.Operators.{OffersAreOfTheChain, OthersAreNotOffered, OfferedAreOfTheChain, IsMovedTo, WalksAreOfTheChain, HonestBundlesAreOfTheChain, OthersAreNoReceipts, ConvictionsAreOfTheChain, ReceiptsAreOfTheChain, DesksCountLeavesAlone}
use Rattle.tag_laws.proofs.Tags.{read_transfers_have_the_tag, transfer-own}
use Rattle.tag_laws.proofs.Histories.{histories_are_of_the_chain, back-each, read-each}

-- ---- offers

coin-same : {E : Type 0} (one other : ℕ) (r : Result ℕ E) → r ≡ Ok one → r ≡ Ok other → one ≡ other
coin-same one other r is same = cc

module _ (dig : List ℕ → List ℕ) (tag : List ℕ) (log : List RootCall) (forest : Forest) (bytes : List ℕ) where
  -- the coin that an offer answers is the transfer's
  offered-at : (tx : SignedTx) (made : Option CoinView) (coin : ℕ)
      → (offer_at dig tag log forest bytes tx made).answer ≡ Ok coin → tx.body.coin ≡ coin
  offered-at tx made coin is = grind (arith, common_steps, coin-same)

  offered-by : (r : Result SignedTx TxRefusal) → signed_in tag bytes ≡ r → (coin : ℕ)
      → (offer_of dig tag log forest bytes r).answer ≡ Ok coin → (tx : SignedTx) × IsOfChain tag coin bytes tx
  offered-by r read coin is = grind (arith, common_steps, offered-at, read_transfers_have_the_tag)

pub offers_are_of_the_chain : OffersAreOfTheChain
unfolding offer_effect
offers_are_of_the_chain dig records log bytes coin is =
    let tag = (who_is records).tag in
    offered-by dig tag log (forest_in records) bytes (signed_in tag bytes) refl coin is

pub others_are_not_offered : OthersAreNotOffered
unfolding offer_effect
others_are_not_offered dig records log bytes other = grind (arith, common_steps, read_transfers_have_the_tag)

-- ---- offered transfers among records

abbrev NoteIsOwn : List ℕ → Note → Type 0
NoteIsOwn tag (Offered bytes) = (tx : SignedTx) × IsOfChain tag tx.body.coin bytes tx
NoteIsOwn tag (Laid coin bytes) = Unit {0}
NoteIsOwn tag Sealed = Unit {0}

spelled-own : (tag bytes : List ℕ) → spells_transfer tag bytes ≡ true → NoteIsOwn tag (Offered bytes)
spelled-own tag bytes is = grind (arith, common_steps, read_transfers_have_the_tag)

note-own : (tag : List ℕ) (body : List ℕ) (note : Note) → note_in tag body ≡ Some note → NoteIsOwn tag note
unfolding note_in
note-own tag body note is = grind (arith, common_steps, some_same, spelled-own, and_parts)

pub offered_are_of_the_chain : OfferedAreOfTheChain
unfolding notes_of
offered_are_of_the_chain records bytes has =
    let tag = (who_is records).tag in
    All-contains (NoteIsOwn tag) (notes_of records) (Offered bytes)
    (All-from_recursion (NoteIsOwn tag) (notes_of records)
    (back-each (NoteIsOwn tag) (filter_map (note_in tag) (drop 1 records))
    (read-each (note_in tag) (NoteIsOwn tag) (note-own tag) (drop 1 records)))) has

-- ---- the walk

module _ (dig : List ℕ → List ℕ) (tag : List ℕ) (log : List RootCall) (sealed : List (List Entry)) (coin : ℕ)
    (made : CoinView) where
  abbrev IsWalked : Place → Type 0
  IsWalked place = (place ≡ start_of made) ⊎ IsMovedTo dig tag log sealed coin place

  tree-own : (n : ℕ) (tx : SignedTx) → transfer_at dig tag log sealed coin n ≡ Some tx
      → IsMovedTo dig tag log sealed coin (record { block = n; owner = tx.body.to })
  tree-own n tx is = grind (arith, common_steps, transfer-own)

  moved-own : (n : ℕ) (last : Place) (t : Option SignedTx) → transfer_at dig tag log sealed coin n ≡ t
      → IsWalked last → IsWalked (moved_by n last t)
  moved-own n last None is walked = walked
  moved-own n last (Some tx) is walked =
      elim ((tx.body.parent == last.block) && is_signed_by tx last.owner) as (λ b.
      IsWalked (if b then record { block = n; owner = tx.body.to } else last)) [
        | true ↦ inr (tree-own n tx is)
        | false ↦ walked
      ]

  walked-own : (n : ℕ) → IsWalked (place_at dig tag log sealed coin made n)
  unfolding place_at
  walked-own zero = inl refl
  walked-own (suc n) =
      elim (nat_lt made.deposit (suc n)) as (λ b. IsWalked (if b
      then moved_by (suc n) (place_at dig tag log sealed coin made n) (transfer_at dig tag log sealed coin (suc n))
      else start_of made)) [
        | true ↦ moved-own (suc n) (place_at dig tag log sealed coin made n)
            (transfer_at dig tag log sealed coin (suc n)) refl (walked-own n)
        | false ↦ inl refl
      ]

pub walks_are_of_the_chain : WalksAreOfTheChain
walks_are_of_the_chain dig tag log sealed coin made n = walked-own dig tag log sealed coin made n

pub honest_bundles_are_of_the_chain : HonestBundlesAreOfTheChain
honest_bundles_are_of_the_chain dig rules acts coin tip made long fits few honest distinct there passed =
    let good = bundles_are_histories dig rules acts coin tip made long fits few honest distinct there passed in
    record {
      bundle = good.bundle;
      links = good.links;
      made = good.made;
      of_chain = histories_are_of_the_chain (tests_by dig) rules (log_of acts) good.bundle good.links
          good.is_bundle.rising good.is_history;
    }

-- ---- audits

pub others_are_no_receipts : OthersAreNoReceipts
unfolding conviction_answer
others_are_no_receipts dig chain key receipt bundle other =
    (elim (promise_in chain.tag receipt) as (λ o. promise_in chain.tag receipt ≡ o
    → audited dig chain.log key receipt bundle o ≡ Err BadReceipt) [
      | None ↦ λ is. refl
      | Some promise ↦ λ is. absurd (other (promise-read chain.tag receipt promise is).tagged)
    ]) refl

-- what a test didn't refuse
passes : (test : Bool) (why : AuditRefusal) (further : Result Conviction AuditRefusal) (conviction : Conviction)
    → (if test then Err why else further) ≡ Ok conviction → further ≡ Ok conviction
passes true why further conviction is = absurd (cc is)
passes false why further conviction is = is

convicts : (promise : Promise) (result : Result Unit HistoryRefusal) (conviction : Conviction)
    → convicted promise result ≡ Ok conviction → conviction_of promise ≡ conviction
convicts promise (Ok done) conviction is = cc is
convicts promise (Err why) conviction is = absurd (cc is)

shown-convicts : (dig : List ℕ → List ℕ) (log : List RootCall) (promise : Promise)
    (read : Result Bundle HistoryRefusal) (conviction : Conviction)
    → shown_by dig log promise read ≡ Ok conviction → conviction_of promise ≡ conviction
shown-convicts dig log promise read conviction is = grind (arith, common_steps, convicts)

pub convictions_are_of_the_chain : ConvictionsAreOfTheChain
unfolding conviction_answer
convictions_are_of_the_chain dig chain key receipt bundle conviction is =
    at (promise_in chain.tag receipt) refl is
  where
    at : (found : Option Promise) → promise_in chain.tag receipt ≡ found
        → audited dig chain.log key receipt bundle found ≡ Ok conviction
        → (promise : Promise) × (promise_in chain.tag receipt ≡ Some promise) × (promise.tag ≡ chain.tag)
        × (conviction_of promise ≡ conviction)
    at None found wrong = absurd (cc wrong)
    at (Some promise) found same =
        let known = promise-read chain.tag receipt promise found in
        let supported = passes (not (is_supported (types_of key))) BadKey _ conviction same in
        let signed = passes (not (is_valid key (promised_part receipt) (signature_part receipt))) NotSigned _ conviction
        supported in
        let due = passes (nat_lt (blocks chain.log) promise.due) (NotYet promise.due) _ conviction signed in (
          promise,
          found,
          ap (λ (p : Promise). p.tag) known.is ∙ known.tagged,
          shown-convicts dig chain.log promise (bundle_in bundle) conviction due,
        )

-- ---- the desk

pub receipts_are_of_the_chain : ReceiptsAreOfTheChain
unfolding issue_effect
receipts_are_of_the_chain dig judge secret notes records log bytes due receipt may is =
    let tag = (who_is notes).tag in
    let given = issues_give_receipts dig judge secret notes records log bytes due receipt may is in
    (given.2.promise, offered)
  where
    answered : (secret : Secret) (records : List (List ℕ)) (text : List ℕ) (r : Result ℕ OfferRefusal)
        → receipt_or secret records text r ≡ Ok receipt → (coin : ℕ) × (r ≡ Ok coin)
    answered key leaves text (Err why) wrong = absurd (cc wrong)
    answered key leaves text (Ok coin) same = (coin, refl)

    passed : (failed : Option IssueRefusal) (effect : IssueEffect) → (issue_or failed effect).answer ≡ Ok receipt
        → effect.answer ≡ Ok receipt
    passed None effect same = same
    passed (Some why) effect wrong = absurd (cc wrong)

    offered : (tx : SignedTx) × IsOfChain (who_is notes).tag (body_at_start bytes).coin bytes tx
    offered =
        let coin = answered secret records
        (promise_text (promise_for dig (who_is notes).tag (blocks log) bytes due))
        (offer_effect judge notes log bytes).answer
        (passed (first_cause (issue_causes (leaf_count secret.types) records (blocks log) due)) _ is) in
        let own = offers_are_of_the_chain judge notes log bytes coin.0 coin.1 in (
          own.0,
          record {
            read = own.1.read;
            tag_is = own.1.tag_is;
            coin_is = ap (λ (t : SignedTx). t.body.coin) (signed_in-ok (who_is notes).tag bytes own.0 own.1.read).1;
            named = own.1.named;
          },
        )

-- a receipt of these bytes
abbrev receipt_by : List ℕ → Result Receipt IssueRefusal
receipt_by text = Ok (record { bytes = text })

pub desks_count_leaves_alone : DesksCountLeavesAlone
unfolding issue_effect
desks_count_leaves_alone dig judge secret notes records others log bytes due marks counts = grind (arith, common_steps)
