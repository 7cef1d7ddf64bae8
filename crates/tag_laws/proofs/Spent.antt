-- Leaves of whatever tag only take away.
use Rattle.std.proofs.Common.{◌≡◌, inl, inr, ℕ, zero, suc, ◌+◌, ◌<◌, ◌≤◌, ◌==◌, not, Bool, true, false, if◌then◌else◌, List, [], ◌∷◌, ◌++◌, length, Option, Some, None, is_some, Ok, Err, refl, sym, ap, ◌∙◌, subst, arith}
use Rattle.std.specs.Prelude.{find, slice_get}
use Rattle.std.specs.List.{list_any, range_with_len}
use Rattle.std.specs.Option.{option_map_or}
use Rattle.std.proofs.lemmas.Bool.{and_parts, and_from, true≢false, cases_eq, cases_lt}
use Rattle.std.proofs.lemmas.List.{length-append}
use Rattle.std.proofs.lemmas.List.Elements.{All-contains}
use Rattle.std.proofs.lemmas.Grind.{common_steps}
use Rattle.plasma_tx.specs.declared.owner.Owner.{Owner}
use Rattle.plasma_tx.specs.declared.call.RootCall.{RootCall}
use Rattle.coin_history.specs.declared.bundle.Bundle.{Bundle}
use Rattle.coin_history.specs.Bundles.{bundle_in}
use Rattle.wallet_core.specs.declared.notes.LeafRecord.{LeafRecord}
use Rattle.wallet_core.specs.declared.notes.Notes.{Notes}
use Rattle.wallet_core.specs.declared.coin_state.CoinState.{CoinState}
use Rattle.wallet_core.specs.declared.coin_state.CoinState.TheVariants.{Nothing, Sending, Leaving, Held}
use Rattle.wallet_core.specs.State.{tips_of, spends_tip, sends_by, sending_leaf, is_signed_away, state_of, holds}
use Rattle.wallet_core.specs.Laws.{IsTip, NoLeaf}
use Rattle.wallet_core.proofs.StateLaws.{sending_is, leaving_is, held_is, nothing_is, sending_none}
use Rattle.node_rules.specs.declared.refusal.WalletRefusal.TheVariants.{NotHeld, NoLast}
use Rattle.node_rules.specs.Wallet.{WalletRecords, answers, noted, coin_state, last_of, send_from, send_effect, leave_from, leave_effect, due_in, reclaim_effect}
use Rattle.node_rules.specs.WalletRecords.{leaves_in}
use Rattle.tag_laws.specs.Wallets.{MoreLeavesTakeAway, NamedTipsAreSpent}

-- ---- more leaves

-- a leaf stays where it is
stays-at : (leaves more : List LeafRecord) (q : ℕ) (leaf : LeafRecord) → slice_get leaves q ≡ Some leaf
    → slice_get (leaves ++ more) q ≡ Some leaf
stays-at [] more q leaf is = absurd (cc is)
stays-at (l ∷ ls) more zero leaf is = is
stays-at (l ∷ ls) more (suc q) leaf is = stays-at ls more q leaf is

-- what signs a coin away does so with more leaves behind
sends-more : (reclaimed : List ℕ) (leaves more : List LeafRecord) (coin tip q : ℕ)
    → sends_by reclaimed (leaves ++ more) coin tip q ≡ false → sends_by reclaimed leaves coin tip q ≡ false
sends-more reclaimed leaves more coin tip q none = grind (arith, common_steps, stays-at)

none-more : (notes : Notes) (leaves more : List LeafRecord) (coin tip : ℕ) → NoLeaf notes (leaves ++ more) coin tip
    → NoLeaf notes leaves coin tip
none-more notes leaves more coin tip none q = sends-more notes.reclaimed leaves more coin tip q (none q)

-- a test that nothing in a range passes
none-in : (test : ℕ → Bool) (start count q : ℕ) → find test (range_with_len start count) ≡ None → start ≤ q
    → q < start + count → test q ≡ false
none-in test start zero q none low high = absurd (omega arith)
none-in test start (suc count) q none low high =
    at (test start) refl none (λ rest below within. none-in test (start + 1) count q rest below within)
  where
    at : (b : Bool) → test start ≡ b
        → (if b then Some start else find test (range_with_len (start + 1) count)) ≡ None
        → (find test (range_with_len (start + 1) count) ≡ None → start + 1 ≤ q → q < start + 1 + count
        → test q ≡ false) → test q ≡ false
    at true is wrong further = absurd (cc wrong)
    at false is rest further = grind (arith, common_steps, cases_eq)

away-none : (notes : Notes) (leaves : List LeafRecord) (coin tip : ℕ) → is_signed_away notes leaves coin tip ≡ false
    → (q : ℕ) → q < length leaves → sends_by notes.reclaimed leaves coin tip q ≡ false
unfolding sending_leaf
away-none notes leaves coin tip isnt q within =
    none-in (sends_by notes.reclaimed leaves coin tip) 0 (length leaves) q
    (absent (find (sends_by notes.reclaimed leaves coin tip) (range_with_len 0 (length leaves))) isnt) (omega arith)
    (omega arith)
  where
    absent : (o : Option ℕ) → is_some o ≡ false → o ≡ None
    absent None is = refl
    absent (Some x) is = absurd (cc is)

away-more : (notes : Notes) (leaves more : List LeafRecord) (coin tip : ℕ)
    → is_signed_away notes (leaves ++ more) coin tip ≡ false → is_signed_away notes leaves coin tip ≡ false
away-more notes leaves more coin tip isnt =
    ap (λ (o : Option ℕ). is_some o)
    (sending_none notes.reclaimed leaves coin tip
    (λ q within. sends-more notes.reclaimed leaves more coin tip q
    (away-none notes (leaves ++ more) coin tip isnt q (omega (arith, within, length-append leaves more)))))

holds-more : (notes : Notes) (leaves more : List LeafRecord) (log : List RootCall) (coin tip : ℕ)
    → holds notes (leaves ++ more) log coin tip ≡ true → holds notes leaves log coin tip ≡ true
unfolding holds
holds-more notes leaves more log coin tip held = grind (arith, common_steps, and_parts, and_from, away-more)

pub more_leaves_take_away : MoreLeavesTakeAway
more_leaves_take_away notes leaves more log coin tip = (
  λ held.
      let is = (held_is notes (leaves ++ more) log coin tip).0 held in
      (held_is notes leaves log coin tip).1 is.0 (none-more notes leaves more coin tip is.1) is.2,
  λ left.
      let is = (leaving_is notes (leaves ++ more) log coin tip).0 left in
      (leaving_is notes leaves log coin tip).1 is.0 (none-more notes leaves more coin tip is.1) is.2,
  holds-more notes leaves more log coin tip,
)

-- ---- a tip that a leaf names

-- two tips are one
one-tip : (notes : Notes) (log : List RootCall) (coin one other : ℕ) → IsTip notes log coin one
    → IsTip notes log coin other → one ≡ other
one-tip notes log coin one other is also =
    let low : one ≤ other = All-contains (λ t. t ≤ other) (tips_of notes log coin) one also.greatest is.is_one in
    let high : other ≤ one = All-contains (λ t. t ≤ one) (tips_of notes log coin) other is.greatest also.is_one in
    omega arith

-- a coin whose tip a leaf names is being sent, by this leaf or an earlier one
sending-by : (notes : Notes) (leaves : List LeafRecord) (log : List RootCall) (coin tip q : ℕ)
    → IsTip notes log coin tip → sends_by notes.reclaimed leaves coin tip q ≡ true
    → (by : ℕ) × (by ≤ q) × (state_of notes leaves log coin ≡ Sending tip by)
sending-by notes leaves log coin tip q is sends = at (state_of notes leaves log coin) refl
  where
    no-tips : IsTip notes log coin tip → tips_of notes log coin ≡ [] → ⊥
    no-tips tipped none = grind (arith, common_steps)

    at : (state : CoinState) → state_of notes leaves log coin ≡ state
        → (by : ℕ) × (by ≤ q) × (state_of notes leaves log coin ≡ Sending tip by)
    at Nothing found = grind (arith, common_steps, nothing_is, true≢false)
    at (Held other) found =
        let known = (held_is notes leaves log coin other).0 found in
        let same = one-tip notes log coin tip other is known.0 in
        absurd (true≢false (sym sends
        ∙ subst (λ (t : ℕ). sends_by notes.reclaimed leaves coin t q ≡ false) (sym same) (known.1 q)))
    at (Leaving other) found =
        let known = (leaving_is notes leaves log coin other).0 found in
        let same = one-tip notes log coin tip other is known.0 in
        absurd (true≢false (sym sends
        ∙ subst (λ (t : ℕ). sends_by notes.reclaimed leaves coin t q ≡ false) (sym same) (known.1 q)))
    at (Sending other by) found =
        let known = (sending_is notes leaves log coin other by).0 found in
        let same = one-tip notes log coin tip other is known.0 in (
          by,
          elim (cases_lt q by) [
            | inl before ↦ absurd (true≢false (sym sends
                ∙ subst (λ (t : ℕ). sends_by notes.reclaimed leaves coin t q ≡ false) (sym same)
                (known.1.lowest q before)))
            | inr up ↦ up
          ],
          found ∙ ap (λ (t : ℕ). Sending t by) (sym same),
        )

module _ (dig : List ℕ → List ℕ) (wallet : WalletRecords) (log : List RootCall) (coin tip by : ℕ)
    (state : coin_state dig wallet log coin ≡ Sending tip by) where
  spent-send : (to : Owner) (last : Option ℕ) → send_effect dig wallet log coin to last ≡ answers (Err NotHeld)
  unfolding send_effect
  spent-send to last = ap (send_from wallet log coin to last) state

  spent-leave : leave_effect dig wallet log coin ≡ answers (Err NotHeld)
  unfolding leave_effect
  spent-leave = ap (leave_from dig wallet log coin) state

  spent-due : due_in dig wallet log coin (coin_state dig wallet log coin) ≡ []
  spent-due = ap (due_in dig wallet log coin) state

  spent-reclaim : (bytes : List ℕ) (bundle : Bundle) → bundle_in bytes ≡ Ok bundle → bundle.coin ≡ coin
      → last_of (leaves_in wallet.leaves) by ≡ None → reclaim_effect dig wallet log bytes ≡ answers (Err NoLast)
  unfolding reclaim_effect
  spent-reclaim bytes bundle read coin_is none = grind (arith, common_steps)

pub named_tips_are_spent : NamedTipsAreSpent
unfolding coin_state
named_tips_are_spent dig wallet log coin tip q leaf is found names free =
    let reclaimed = (noted dig wallet).reclaimed in
    let sends : sends_by reclaimed (leaves_in wallet.leaves) coin tip q ≡ true =
    and_from (option_map_or (spends_tip coin tip) (slice_get (leaves_in wallet.leaves) q) false)
    (not (list_any (λ other. other == q) reclaimed))
    (ap (λ (o : Option LeafRecord). option_map_or (spends_tip coin tip) o false) found ∙ names) (ap not free) in
    let known = sending-by (noted dig wallet) (leaves_in wallet.leaves) log coin tip q is sends in
    record {
      by = known.0;
      earlier = known.1;
      state = known.2;
      send = spent-send dig wallet log coin tip known.0 known.2;
      leave = spent-leave dig wallet log coin tip known.0 known.2;
      due = spent-due dig wallet log coin tip known.0 known.2;
      reclaim = spent-reclaim dig wallet log coin tip known.0 known.2;
    }
