-- No command of a wallet asks for the tag of what its leaves bind.
use Rattle.std.proofs.Common.{◌≡◌, ℕ, ◌==◌, ◌&&◌, not, Bool, false, if◌then◌else◌, List, map, Option, Some, None, Ok, Err, refl, sym, ap, ◌∙◌, arith}
use Rattle.std.specs.Prelude.{Result, find, reverse, slice_get}
use Rattle.std.specs.List.{list_any, range_with_len}
use Rattle.std.specs.Option.{option_map, option_map_or}
use Rattle.std.proofs.lemmas.List.{length-map}
use Rattle.std.proofs.lemmas.Option.{slice_get-map}
use Rattle.std.proofs.lemmas.Grind.{common_steps}
use Rattle.leaf_journal.specs.Records.{marker, with_number}
use Rattle.plasma_tx.specs.declared.owner.Owner.{Owner}
use Rattle.plasma_tx.specs.declared.body.Body.{Body}
use Rattle.plasma_tx.specs.declared.call.RootCall.{RootCall}
use Rattle.plasma_tx.specs.Spelling.{body_text}
use Rattle.coin_history.specs.declared.bundle.Bundle.{Bundle}
use Rattle.coin_history.specs.declared.refusal.HistoryRefusal.{HistoryRefusal}
use Rattle.coin_history.specs.Bundles.{bundle_in}
use Rattle.wallet_core.specs.declared.notes.LeafRecord.{LeafRecord}
use Rattle.wallet_core.specs.declared.notes.Notes.{Notes}
use Rattle.wallet_core.specs.declared.coin_state.CoinState.{CoinState}
use Rattle.wallet_core.specs.declared.coin_state.CoinState.TheVariants.{Nothing, Sending, Leaving, Held}
use Rattle.wallet_core.specs.State.{spends_tip, sends_by, sending_leaf, state_of}
use Rattle.node_rules.specs.declared.answers.Sent.{Sent}
use Rattle.node_rules.specs.declared.identity.WalletIdentity.{WalletIdentity}
use Rattle.node_rules.specs.declared.refusal.WalletRefusal.{WalletRefusal}
use Rattle.node_rules.specs.declared.refusal.WalletRefusal.TheVariants.{AlreadyNew}
use Rattle.node_rules.specs.Kept.{links_handed}
use Rattle.node_rules.specs.WalletRecords.{owner_of, who_is, notes_of, state_notes, leaves_in}
use Rattle.node_rules.specs.Wallet.{WalletRecords, WalletEffect, answers, binds_it, noted, coin_state, used, sent_by, accept_by, accept_effect, send_from, send_effect, last_leaf, last_of, leave_from, leave_effect, due_in, watch_answer, reclaim_last, reclaim_from, reclaim_by, reclaim_effect, migrate_effect}
use Rattle.tag_laws.specs.Wallets.{without_tag, AreAlike, TagsAreNotAsked}

-- ---- leaves without their tags

-- what is asked of a leaf but its tag
asked-same : {X : Type 0} (ask : LeafRecord → X) (other : X) (found : Option LeafRecord)
    → ((leaf : LeafRecord) → ask (without_tag leaf) ≡ ask leaf)
    → option_map_or ask (option_map without_tag found) other ≡ option_map_or ask found other
asked-same ask other None same = refl
asked-same ask other (Some leaf) same = same leaf

asked-at : {X : Type 0} (ask : LeafRecord → X) (other : X) (leaves : List LeafRecord) (q : ℕ)
    → ((leaf : LeafRecord) → ask (without_tag leaf) ≡ ask leaf)
    → option_map_or ask (slice_get (map without_tag leaves) q) other ≡ option_map_or ask (slice_get leaves q) other
asked-at ask other leaves q same =
    ap (λ (o : Option LeafRecord). option_map_or ask o other) (slice_get-map without_tag leaves q)
    ∙ asked-same ask other (slice_get leaves q) same

sends-untagged : (reclaimed : List ℕ) (leaves : List LeafRecord) (coin tip q : ℕ)
    → sends_by reclaimed (map without_tag leaves) coin tip q ≡ sends_by reclaimed leaves coin tip q
sends-untagged reclaimed leaves coin tip q =
    ap (λ (b : Bool). b && not (list_any (λ other. other == q) reclaimed))
    (asked-at (spends_tip coin tip) false leaves q (λ leaf. refl))

sending-untagged : (reclaimed : List ℕ) (leaves : List LeafRecord) (coin tip : ℕ)
    → sending_leaf reclaimed (map without_tag leaves) coin tip ≡ sending_leaf reclaimed leaves coin tip
unfolding sending_leaf
sending-untagged reclaimed leaves coin tip =
    λ i. find (λ q. sends-untagged reclaimed leaves coin tip q i) (range_with_len 0 (length-map leaves without_tag i))

state-untagged : (notes : Notes) (leaves : List LeafRecord) (log : List RootCall) (coin : ℕ)
    → state_of notes (map without_tag leaves) log coin ≡ state_of notes leaves log coin
unfolding state_of
state-untagged notes leaves log coin = grind (arith, common_steps, sending-untagged)

last_leaf-untagged : (leaves : List LeafRecord) (coin : ℕ)
    → last_leaf (map without_tag leaves) coin ≡ last_leaf leaves coin
last_leaf-untagged leaves coin =
    λ i. find (λ q. asked-at (λ leaf. leaf.body.coin == coin) false leaves q (λ leaf. refl) i)
    (reverse (range_with_len 0 (length-map leaves without_tag i)))

last_of-untagged : (leaves : List LeafRecord) (q : ℕ) → last_of (map without_tag leaves) q ≡ last_of leaves q
last_of-untagged leaves q = asked-at (λ leaf. leaf.body.last) None leaves q (λ leaf. refl)

-- ---- two wallets that are alike

module _ (dig : List ℕ → List ℕ) (one other : WalletRecords) (alike : AreAlike one other) where
  -- what is the same of leaves without their tags
  same-of : {X : Type 0} (ask : List LeafRecord → X)
      → ((leaves : List LeafRecord) → ask (map without_tag leaves) ≡ ask leaves)
      → ask (leaves_in one.leaves) ≡ ask (leaves_in other.leaves)
  same-of ask same =
      sym (same (leaves_in one.leaves)) ∙ ap ask alike.leaves ∙ same (leaves_in other.leaves)

  count-same : used one ≡ used other
  count-same = grind (arith, common_steps, length-map, same-of)

  noted-same : noted dig one ≡ noted dig other
  noted-same = ap (λ (n : List (List ℕ)). state_notes (owner_of (who_is n)) (notes_of dig n)) alike.notes

  state-same : (log : List RootCall) (coin : ℕ) → coin_state dig one log coin ≡ coin_state dig other log coin
  unfolding coin_state
  state-same log coin =
      same-of (λ leaves. state_of (noted dig one) leaves log coin)
      (λ leaves. state-untagged (noted dig one) leaves log coin)
      ∙ ap (λ (n : Notes). state_of n (leaves_in other.leaves) log coin) noted-same

  -- ---- accept, send and leave

  accept-same : (log : List RootCall) (bytes : List ℕ)
      → accept_effect dig one log bytes ≡ accept_effect dig other log bytes
  unfolding accept_effect
  accept-same log bytes =
      λ i. accept_by log (noted-same i) (links_handed dig (who_is (alike.notes i)).tag log bytes)

  -- what is sent from a tip, where so many leaves are bound
  abbrev sends : Bool → ℕ → WalletIdentity → Body → WalletEffect (Result Sent WalletRefusal)
  sends marked count who body =
      binds_it (Ok (sent_by who count (body_text body)))
      (if marked then with_number count (body_text body) else body_text body)

  abbrev body_of : List ℕ → ℕ → ℕ → Owner → Option ℕ → Body
  body_of tag coin tip to last = record { tag = tag; coin = coin; parent = tip; to = to; last = last }

  send-by : (log : List RootCall) (coin : ℕ) (to : Owner) (last : Option ℕ) (state : CoinState)
      → send_from one log coin to last state ≡ send_from other log coin to last state
  send-by log coin to last state = grind (arith, common_steps, count-same)

  send-same : (log : List RootCall) (coin : ℕ) (to : Owner) (last : Option ℕ)
      → send_effect dig one log coin to last ≡ send_effect dig other log coin to last
  unfolding send_effect
  send-same log coin to last =
      ap (send_from one log coin to last) (state-same log coin)
      ∙ send-by log coin to last (coin_state dig other log coin)

  -- a wallet with the notes, and the other's leaves
  abbrev with_notes : List (List ℕ) → WalletRecords
  with_notes notes = record { notes = notes; leaves = other.leaves }

  leave-by : (log : List RootCall) (coin : ℕ) (state : CoinState)
      → leave_from dig one log coin state ≡ leave_from dig other log coin state
  leave-by log coin Nothing = refl
  leave-by log coin (Sending tip q) = refl
  leave-by log coin (Leaving tip) =
      ap (λ (n : List (List ℕ)). leave_from dig (with_notes n) log coin (Leaving tip)) alike.notes
  leave-by log coin (Held tip) =
      ap (λ (n : List (List ℕ)). leave_from dig (with_notes n) log coin (Held tip)) alike.notes

  leave-same : (log : List RootCall) (coin : ℕ) → leave_effect dig one log coin ≡ leave_effect dig other log coin
  unfolding leave_effect
  leave-same log coin =
      ap (leave_from dig one log coin) (state-same log coin) ∙ leave-by log coin (coin_state dig other log coin)

  -- ---- watch, reclaim and migrate

  due-by : (log : List RootCall) (coin : ℕ) (state : CoinState)
      → due_in dig one log coin state ≡ due_in dig other log coin state
  due-by log coin state = grind (arith, common_steps)

  watch-same : (log : List RootCall) → watch_answer dig one log ≡ watch_answer dig other log
  unfolding watch_answer
  watch-same log = grind (arith, common_steps, state-same, due-by)

  reclaim-by : (log : List RootCall) (bundle : Bundle) (state : CoinState)
      → reclaim_from dig one log bundle state ≡ reclaim_from dig other log bundle state
  reclaim-by log bundle Nothing = refl
  reclaim-by log bundle (Leaving tip) = refl
  reclaim-by log bundle (Held tip) = refl
  reclaim-by log bundle (Sending tip q) =
      ap (reclaim_last dig log bundle (record { coin = bundle.coin; tip = tip; q = q }))
      (same-of (λ leaves. last_of leaves q) (λ leaves. last_of-untagged leaves q))

  reclaim-read : (log : List RootCall) (read : Result Bundle HistoryRefusal)
      → reclaim_by dig one log read ≡ reclaim_by dig other log read
  reclaim-read log read = grind (arith, common_steps, state-same, reclaim-by)

  reclaim-same : (log : List RootCall) (bytes : List ℕ)
      → reclaim_effect dig one log bytes ≡ reclaim_effect dig other log bytes
  unfolding reclaim_effect
  reclaim-same log bytes = reclaim-read log (bundle_in bytes)

  migrate-same : migrate_effect one ≡ migrate_effect other
  unfolding migrate_effect
  migrate-same = λ i. if alike.marked i then answers (Err AlreadyNew) else binds_it (Ok tt) marker

pub tags_are_not_asked : TagsAreNotAsked
tags_are_not_asked dig one other log coin to last bytes alike = record {
  state = state-same dig one other alike log coin;
  accept = accept-same dig one other alike log bytes;
  send = send-same dig one other alike log coin to last;
  again = same-of dig one other alike (λ leaves. last_leaf leaves coin) (λ leaves. last_leaf-untagged leaves coin);
  leave = leave-same dig one other alike log coin;
  reclaim = reclaim-same dig one other alike log bytes;
  migrate = migrate-same dig one other alike;
  watch = watch-same dig one other alike log;
}
