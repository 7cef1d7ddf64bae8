-- What a wallet's notes accept is shown by a bundle that events say it accepted: one of the same coin and tip, with the
-- same links. Each command keeps it so.
use Rattle.world_laws.proofs.Basics.{◌≡◌, ℕ, ◌^◌, ◌<◌, Bool, true, false, List, [], ◌∷◌, ◌++◌, Option, Some, None, Ok, inl, inr, refl, sym, subst, arith, ap, ◌∙◌, Result, IfSome, false≢true, true≢false, common_steps}
use Rattle.world_laws.proofs.CoinWords.{Links, RootCall, blocks, Bundle, has-cases}
use Rattle.world_laws.proofs.NodeWords.{Accepted, WalletRefusal, kept_of, links_handed, IsReadBack, AcceptsNote, note_text, notes_of, accepted_of, Note, WalletRecords, WalletEffect, who, accept_effect, send_effect, leave_effect, reclaim_effect, migrate_effect, coin_state, AddsNote, AddsAccepted, AddsLeaving, AddsReclaimed, accepted-accepts, accepted-leaves, accepted-reclaims, send-note, migrate-note, accepts_add_their_notes, leaves_add_their_notes, reclaims_add_their_notes, NodeOrder, WalletOrder, with_record, on_accepted, wallet_does, Small, AcceptEnds, Refused, Known, New, accept_ends}
use Rattle.world_laws.proofs.WorldWords.{Event, Accepts, Node, World, Wallet, wallet_of, is_wallet_role, Deed, as_deed, node_does, bundle_read, event_of, OrderEnds, Accepting, wallet_told, order-ends, Said, told, words, KeptWallet, Feeds, IsFitOrder, wallet-alone, has_order}
use Rattle.world_laws.proofs.GuardsShown.{AreShown, shown-more, handed-shown}

-- what a wallet's notes accept
abbrev pub accepted_in : (List ℕ → List ℕ) → List (List ℕ) → List Bundle
accepted_in dig notes = accepted_of (notes_of dig notes)

-- an order that accepts
abbrev is_accept : NodeOrder → Bool
is_accept (NodeOrder.Wallet (WalletOrder.Accept bytes)) = true
is_accept order = false

-- a node with a wallet's records
abbrev pub node_with : WalletRecords → Node
node_with wallet = record {
  name = [];
  account = 0;
  role = Wallet;
  is_up = true;
  notes = wallet.notes;
  leaves = wallet.leaves;
  offers = [];
}

-- ---- each order of a wallet

module _ (dig : List ℕ → List ℕ) (tag : List ℕ) (log : List RootCall) (few : blocks log < 2 ^ 64) (n : ℕ)
    (wallet : WalletRecords) (s : Said) (kept : KeptWallet dig s log wallet) (tag_is : (who wallet).tag ≡ tag)
    (shown : AreShown tag s.accepted (accepted_in dig wallet.notes)) where
  -- what is shown after an event with this note
  abbrev IsAfter : Event → Option (List ℕ) → Type 0
  IsAfter event note = AreShown tag (told event s).accepted (accepted_in dig (with_record wallet.notes note))

  -- ---- accept

  accept-new : (bytes body : List ℕ) (links : Links)
      → links_handed dig (who wallet).tag log bytes ≡ Ok links → IsReadBack dig (who wallet).tag log links
      → AddsNote dig wallet.notes (AcceptsNote (kept_of links)) body
      → IsAfter (Accepts n (bundle_read bytes)) (Some body)
  accept-new bytes body links handed back adds =
      subst (AreShown tag (bundle_read bytes ∷ s.accepted))
      (sym (ap (λ (notes : List Note). accepted_of notes) adds.1
      ∙ accepted-accepts (kept_of links) (notes_of dig wallet.notes))) each
    where
      each : AreShown tag (bundle_read bytes ∷ s.accepted) (accepted_in dig wallet.notes ++ kept_of links ∷ [])
      each other has = elim (has-cases (accepted_in dig wallet.notes) (kept_of links ∷ []) other has) [
        | inl old ↦ shown-more tag (bundle_read bytes) s.accepted (accepted_in dig wallet.notes) shown other old
        | inr new ↦ grind (arith, handed-shown)
      ]

  abbrev IsAccepted : List ℕ → WalletEffect (Result Accepted WalletRefusal) → Type 0
  IsAccepted bytes effect = IsAfter (wallet_told n (WalletOrder.Accept bytes) on_accepted effect.answer) effect.note

  accept-shown : (bytes : List ℕ) → Small bytes → IsAccepted bytes (accept_effect dig wallet log bytes)
  unfolding event_of
  accept-shown bytes small = by (accept_ends dig wallet log bytes)
    where
      by : AcceptEnds dig wallet log bytes (accept_effect dig wallet log bytes)
          → IsAccepted bytes (accept_effect dig wallet log bytes)
      by (Refused why is) = subst (IsAccepted bytes) (sym is) shown
      by (Known links handed mine known is) =
          subst (IsAccepted bytes) (sym is)
          (shown-more tag (bundle_read bytes) s.accepted (accepted_in dig wallet.notes) shown)
      by (New links handed is) =
          let text = note_text (AcceptsNote (kept_of links)) in
          let added : AddsAccepted dig wallet log bytes text =
          subst (λ e. IfSome e.note (AddsAccepted dig wallet log bytes)) is
          (accepts_add_their_notes dig wallet log bytes kept.is small.are) in
          let same : added.0 ≡ links = cc (added.1, handed) in
          let adds : AddsNote dig wallet.notes (AcceptsNote (kept_of links)) text =
          subst (λ (l : Links). AddsNote dig wallet.notes (AcceptsNote (kept_of l)) text) same added.4 in
          let back : IsReadBack dig (who wallet).tag log links =
          subst (IsReadBack dig (who wallet).tag log) same added.2 in
          subst (IsAccepted bytes) (sym is) (accept-new bytes text links handed back adds)

  -- ---- the other orders

  -- an event that accepts nothing, with a note that accepts nothing
  shown-same : (event : Event) (note : Option (List ℕ)) → (told event s).accepted ≡ s.accepted
      → IfSome note (λ body. accepted_in dig (wallet.notes ++ body ∷ []) ≡ accepted_in dig wallet.notes)
      → IsAfter event note
  shown-same event note silent same = grind (arith, common_steps, silent)

  -- only an accept is an event that accepts
  silent : (order : NodeOrder) (event : Event) (calls : List RootCall) → is_accept order ≡ false
      → OrderEnds dig log n (node_with wallet) order event calls → (told event s).accepted ≡ s.accepted
  silent order event calls other (Accepting bytes taken made) = absurd (true≢false other)
  silent order event calls other ends = refl

  -- what holds of a note, wherever there is one
  if-some : {P Q : List ℕ → Type 0} (note : Option (List ℕ)) → ((body : List ℕ) → P body → Q body) → IfSome note P
      → IfSome note Q
  if-some None more is = tt
  if-some (Some body) more is = more body is

  if-none : (P : List ℕ → Type 0) (note : Option (List ℕ)) → note ≡ None → IfSome note P
  if-none P note none = grind (arith, common_steps)

  other-shown : (order : WalletOrder) → is_accept (NodeOrder.Wallet order) ≡ false
      → IfSome (wallet_does dig log wallet order).note
      (λ body. accepted_in dig (wallet.notes ++ body ∷ []) ≡ accepted_in dig wallet.notes)
      → IsAfter (event_of n (NodeOrder.Wallet order) (wallet_does dig log wallet order).response)
      (wallet_does dig log wallet order).note
  other-shown order other same = grind (arith, common_steps, shown-same, silent, order-ends)

  pub wallet-shown : (order : WalletOrder) → IsFitOrder (NodeOrder.Wallet order)
      → IsAfter (event_of n (NodeOrder.Wallet order) (wallet_does dig log wallet order).response)
      (wallet_does dig log wallet order).note
  unfolding wallet_does send_effect
  wallet-shown (WalletOrder.Accept bytes) fit = accept-shown bytes fit
  wallet-shown (WalletOrder.Send coin to last) fit =
      other-shown (WalletOrder.Send coin to last) refl
      (if-none _ (send_effect dig wallet log coin to last).note
      (send-note wallet log coin to last (coin_state dig wallet log coin)))
  wallet-shown (WalletOrder.Leave coin) fit =
      other-shown (WalletOrder.Leave coin) refl
      (if-some {P = AddsLeaving dig wallet log coin} (leave_effect dig wallet log coin).note
      (grind (arith, common_steps, accepted-leaves))
      (leaves_add_their_notes dig wallet log coin kept.is (words dig s log wallet kept few) fit))
  wallet-shown (WalletOrder.Reclaim bytes) fit =
      other-shown (WalletOrder.Reclaim bytes) refl
      (if-some {P = AddsReclaimed dig wallet log bytes} (reclaim_effect dig wallet log bytes).note
      (grind (arith, common_steps, accepted-reclaims))
      (reclaims_add_their_notes dig wallet log bytes kept.is fit.are (words dig s log wallet kept few)))
  wallet-shown WalletOrder.Migrate fit =
      other-shown WalletOrder.Migrate refl (if-none _ (migrate_effect wallet).note (migrate-note wallet))
  wallet-shown order fit = other-shown order refl tt

-- ---- each command of a wallet

module _ (dig : List ℕ → List ℕ) (world : World) (n : ℕ) (node : Node) (s : Said) (feeds : Feeds world)
    (role : is_wallet_role node.role ≡ true) (kept : KeptWallet dig s world.chain.log (wallet_of node))
    (tag_is : (who (wallet_of node)).tag ≡ world.chain.tag)
    (shown : AreShown world.chain.tag s.accepted (accepted_in dig node.notes)) where
  abbrev ShownAfter : Deed → Type 0
  ShownAfter deed =
      AreShown world.chain.tag (told deed.gives.event s).accepted (accepted_in dig (with_record node.notes deed.note))

  pub accepts-shown : (order : NodeOrder) → has_order order node.role ≡ true → IsFitOrder order
      → ShownAfter (as_deed n order (node_does dig world.chain.log node order))
  unfolding event_of
  accepts-shown order h1 fit = grind (arith, common_steps, wallet-shown, false≢true, wallet-alone)
