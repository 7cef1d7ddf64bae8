-- The commands of a wallet keep its role, and their notes are bytes.
use Rattle.std.proofs.Common.{◌≡◌, ◌<◌, ◌⊎◌, ◌^◌, ℕ, true, List, Option, Some, None, refl, sym, ap, subst, lit<, arith}
use Rattle.std.specs.Prelude.{IfSome}
use Rattle.std.specs.List.{All}
use Rattle.std.proofs.lemmas.List.Elements.{All-push}
use Rattle.std.proofs.lemmas.Grind.{common_steps}
use Rattle.plasma_tx.specs.declared.call.RootCall.{RootCall}
use Rattle.plasma_tx.specs.Views.{blocks}
use Rattle.plasma_tx.specs.Spelling.{AreBytes}
use Rattle.node_rules.specs.Kept.{kept_of}
use Rattle.node_rules.specs.WalletRecords.{note_text}
use Rattle.node_rules.specs.Wallet.{WalletRecords, WalletEffect, who, coin_state, accept_effect, leave_from, leave_effect, reclaim_effect}
use Rattle.node_rules.specs.WalletOpening.{is_wallet}
use Rattle.node_rules.proofs.WalletAdded.{leave-note, migrate-note}
use Rattle.node_replies.specs.Orders.{with_record, wallet_does}
use Rattle.node_replies.proofs.ByteTexts.{small-cons, small-append, small-number, small-short}
use Rattle.node_replies.proofs.BundleTexts.{small-bundle, handed-small}
use Rattle.node_replies.proofs.WalletEnds.{AcceptEnds, ReclaimEnds, Refused, Known, New, Takes, accept_ends, reclaim_ends}
use Rattle.node_replies.specs.declared.order.WalletOrder.{WalletOrder}
use Rattle.node_deeds.specs.WalletLaws.{IsFitOrder}
use Rattle.node_deeds.proofs.WalletEffects.{send-note}
use Rattle.node_deeds.proofs.WalletOrderLaws.{orders_add_one_record, orders_keep_the_role}
use Rattle.node_lines.specs.declared.wallet_line.WalletLine.{WalletLine}
use Rattle.node_lines.specs.Grammar.{IsWalletLine, wallet_line_in}
use Rattle.node_lines.proofs.GrammarLaws.{wallet_line_text-in}
use Rattle.node_answers.specs.Answers.{Outcome, outcome_of, wallet_outcome}
use Rattle.node_lives.proofs.Own.{with_added, Grows}

-- ---- an order's note is bytes

if-none : (added : Option (List ℕ)) → added ≡ None → IfSome added AreBytes
if-none None is = tt
if-none (Some body) is = absurd (cc is)

if-some : (added : Option (List ℕ)) → ((body : List ℕ) → added ≡ Some body → AreBytes body) → IfSome added AreBytes
if-some None each = tt
if-some (Some body) each = each body refl

module _ (dig : List ℕ → List ℕ) (log : List RootCall) (wallet : WalletRecords) where
  accept-bytes : (bytes : List ℕ) → AreBytes bytes → IfSome (accept_effect dig wallet log bytes).note AreBytes
  unfolding note_text
  accept-bytes bytes are = by _ (accept_ends dig wallet log bytes)
    where
      by : (effect : WalletEffect _) → AcceptEnds dig wallet log bytes effect → IfSome effect.note AreBytes
      by effect (Refused why is) = if-none effect.note (ap (λ e. e.note) is)
      by effect (Known links handed mine known is) = if-none effect.note (ap (λ e. e.note) is)
      by effect (New links handed is) =
          subst (λ (o : Option (List ℕ)). IfSome o AreBytes) (sym (ap (λ e. e.note) is))
          (small-cons 2 (lit< tt)
          (small-bundle (kept_of links)
          (handed-small dig (who wallet).tag log bytes links (record { are = are }) handed))).are

  leave-bytes : (coin : ℕ) → IfSome (leave_effect dig wallet log coin).note AreBytes
  unfolding leave_effect note_text
  leave-bytes coin =
      if-some (leave_from dig wallet log coin (coin_state dig wallet log coin)).note (λ body added.
      let left = leave-note dig wallet log coin (coin_state dig wallet log coin) body added in
      subst AreBytes left.2
      (small-cons 3 (lit< tt) (small-append (small-number coin) (small-number left.0))).are)

  reclaim-bytes : (bytes : List ℕ) → IfSome (reclaim_effect dig wallet log bytes).note AreBytes
  unfolding note_text
  reclaim-bytes bytes = by _ (reclaim_ends dig wallet log bytes)
    where
      by : (effect : WalletEffect _) → ReclaimEnds effect → IfSome effect.note AreBytes
      by effect (Refused why is) = if-none effect.note (ap (λ e. e.note) is)
      by effect (Takes taken is) =
          subst (λ (o : Option (List ℕ)). IfSome o AreBytes) (sym (ap (λ e. e.note) is))
          (small-cons 5 (lit< tt)
          (small-append (small-append (small-number taken.coin) (small-number taken.tip)) (small-short taken.q))).are

  order-bytes : (order : WalletOrder) → IsFitOrder order → IfSome (wallet_does dig log wallet order).note AreBytes
  unfolding wallet_does
  order-bytes order fit =
      grind (arith, common_steps, accept-bytes, if-none, send-note, leave-bytes, reclaim-bytes, migrate-note)

-- ---- a line's order

-- an order that a line spells is fit
fit-order : (order : WalletOrder) → IsWalletLine (WalletLine.Order order) → IsFitOrder order
fit-order (WalletOrder.Accept bundle) is = is.0
fit-order (WalletOrder.Send coin to last) is = is.1.0.0.key
fit-order (WalletOrder.Reclaim bundle) is = is.0
fit-order _ is = tt

-- ---- what it leaves

-- a wallet's records, of which the notes are bytes
pub record IsGood (dig : List ℕ → List ℕ) (wallet : WalletRecords) : Type 0 where
  pub is : is_wallet dig wallet ≡ true
  pub bytes : All AreBytes wallet.notes

push-bytes : (records : List (List ℕ)) (added : Option (List ℕ)) → All AreBytes records → IfSome added AreBytes
    → All AreBytes (with_record records added)
push-bytes records None are one = are
push-bytes records (Some body) are one = All-push AreBytes records body are one

-- where one of the two alone is added
grows-by : (dig : List ℕ → List ℕ) (wallet : WalletRecords) (outcome : Outcome) → IsGood dig wallet
    → (outcome.note ≡ None) ⊎ (outcome.leaf ≡ None)
    → IsGood dig (with_added wallet outcome.note outcome.leaf) → Grows (IsGood dig) wallet outcome
grows-by dig wallet outcome good one both = grind (arith, common_steps, with_added) steps 20000

module _ (dig : List ℕ → List ℕ) (log : List RootCall) (wallet : WalletRecords) (good : IsGood dig wallet)
    (few : blocks log < 2 ^ 64) where
  order-grows : (order : WalletOrder) → IsFitOrder order
      → Grows (IsGood dig) wallet (outcome_of (wallet_does dig log wallet order))
  order-grows order fit =
      let kept = orders_keep_the_role dig log wallet order good.is fit
      (record { notes = good.bytes; blocks = few }) in
      grows-by dig wallet (outcome_of (wallet_does dig log wallet order)) good
      (orders_add_one_record dig log wallet order)
      (record {
        is = kept;
        bytes =
            push-bytes wallet.notes (wallet_does dig log wallet order).note good.bytes
            (order-bytes dig log wallet order fit);
      })

  line-grows : (line : WalletLine) → IsWalletLine line → Grows (IsGood dig) wallet (wallet_outcome dig log wallet line)
  unfolding wallet_outcome
  line-grows (WalletLine.Order order) is = order-grows order (fit-order order is)
  line-grows (WalletLine.State coin) is = record { noted = good; both = good }
  line-grows WalletLine.Who is = record { noted = good; both = good }

  -- the records with what a command adds that a line spells
  pub outcome-grows : (line : List ℕ) (command : WalletLine) → wallet_line_in line ≡ Some command
      → Grows (IsGood dig) wallet (wallet_outcome dig log wallet command)
  outcome-grows line command spells = line-grows command (wallet_line_text-in line command spells).1
