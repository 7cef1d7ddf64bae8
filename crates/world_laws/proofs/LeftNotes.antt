-- In every run, a wallet's notes have each coin and block with which its leaves offered to leave; and each bundle that
-- they accept has openings.
use Rattle.world_laws.proofs.Basics.{◌≡◌, ◌≢◌, ◌⊎◌, ℕ, ◌^◌, ◌<◌, Bool, true, false, List, [], ◌∷◌, ◌++◌, Option, Some, None, Ok, Err, inl, inr, refl, sym, ap, ◌∙◌, subst, arith, Result, IfSome, option_map, All, AllByRecursion, eq-eqb, and_from, or_left, or_right, false≢true, true≢false, All-push, list_any-append, common_steps, some_same}
use Rattle.world_laws.proofs.CoinWords.{Links, Owner, RootCall, tip_of, blocks, coin_at, CoinView, Bundle, links_of, CoinTip, Notes, CoinState, Nothing, Sending, Leaving, Held, is_noted, leaving_is}
use Rattle.world_laws.proofs.NodeWords.{WalletRefusal, kept_of, chain_of, AddsNote, HaveOpenings, AddsAccepted, AddsLeaving, AddsReclaimed, Note, AcceptsNote, LeavesWith, Reclaims, note_text, accepted_of, state_notes, leaves_in, coin_tip, WalletRecords, who, noted, coin_state, kept_at, links_at, start_of, leave_from, accept_effect, send_effect, leave_effect, reclaim_effect, noted-grow, state-accepts, state-leaves, state-reclaims, accepted-accepts, accepted-leaves, accepted-reclaims, send-note, migrate-note, accepts_add_their_notes, leaves_add_their_notes, leaves_are_answered, reclaims_add_their_notes, exits_are_of_the_tip, NodeOrder, WalletOrder, with_record, exit_block, on_leaving, wallet_does, Small}
use Rattle.world_laws.proofs.WorldWords.{Event, Leaves, coin_of_call, Node, World, wallet_of, is_wallet_role, Deed, as_deed, node_does, event_of, OrderEnds, LeavingEnds, wallet_told, order-ends, Said, KeptWallet, with_note, Feeds, IsFitOrder, wallet-alone, has_order, words}
use Rattle.world_laws.proofs.HeldCoins.{links-at}
use Rattle.world_laws.proofs.Offers.{StartsAt, start-at}
use Rattle.world_laws.proofs.AcceptsShown.{node_with}

-- ---- one more note

-- a note of an accepted coin has openings
abbrev pub HasOpenings : Note → Type 0
HasOpenings (AcceptsNote kept) = kept.openings ≢ []
HasOpenings note = Unit {0}

-- what a command adds to the notes: nothing, or one note
pub data Noting (dig : List ℕ → List ℕ) (wallet : WalletRecords) (note : Option (List ℕ)) : Type 0 where
  NoNote : note ≡ None → Noting dig wallet note
  OneNote : (body : List ℕ) (added : Note) → note ≡ Some body → AddsNote dig wallet.notes added body
      → HasOpenings added → Noting dig wallet note

-- the notes have openings, and where they had that the wallet leaves with a coin they have it still
pub record StillNoted (dig : List ℕ → List ℕ) (wallet after : WalletRecords) : Type 0 where
  pub openings : HaveOpenings dig wallet → HaveOpenings dig after
  pub leaving : (c e : ℕ) → is_noted c e (noted dig wallet).leaving ≡ true
      → is_noted c e (noted dig after).leaving ≡ true

noted-before : (c e : ℕ) (notes more : List CoinTip) → is_noted c e notes ≡ true → is_noted c e (notes ++ more) ≡ true
noted-before c e notes more is = grind (arith, common_steps, list_any-append, or_left)

noted-new : (c e : ℕ) (notes : List CoinTip) → is_noted c e (notes ++ coin_tip c e ∷ []) ≡ true
noted-new c e notes = grind (arith, common_steps, list_any-append, or_right, or_left, and_from, eq-eqb)

module _ (dig : List ℕ → List ℕ) (wallet : WalletRecords) where
  abbrev Opened : Bundle → Type 0
  Opened kept = kept.openings ≢ []

  opened-more : (note : Note) → HasOpenings note → (notes : List Note) → All Opened (accepted_of notes)
      → All Opened (accepted_of (note ∷ notes))
  opened-more (AcceptsNote kept) has notes all =
      subst (All Opened) (sym (accepted-accepts kept notes)) (All-push Opened (accepted_of notes) kept all has)
  opened-more (LeavesWith coin tip) has notes all = subst (All Opened) (sym (accepted-leaves coin tip notes)) all
  opened-more (Reclaims coin tip q) has notes all = subst (All Opened) (sym (accepted-reclaims coin tip q notes)) all

  leaving-more : (note : Note) (me : Owner) (notes : List Note) (c e : ℕ)
      → is_noted c e (state_notes me notes).leaving ≡ true
      → is_noted c e (state_notes me (note ∷ notes)).leaving ≡ true
  leaving-more note me notes c e is =
      grind (arith, common_steps, state-accepts, state-leaves, noted-before, state-reclaims)

  -- one more note leaves what was noted
  one-more : (body : List ℕ) (added : Note) → AddsNote dig wallet.notes added body → HasOpenings added
      → StillNoted dig wallet (with_note wallet body)
  one-more body added adds has = grind (arith, common_steps, opened-more, noted-grow, leaving-more)

  -- and so does what a command adds
  still-noted : (note leaf : Option (List ℕ)) → Noting dig wallet note
      → StillNoted dig wallet
      (record { notes = with_record wallet.notes note; leaves = with_record wallet.leaves leaf })
  still-noted one leaf (NoNote none) = grind (arith, common_steps)
  still-noted one leaf (OneNote body added some adds has) =
      let more = one-more body added adds has in
      subst (λ (o : Option (List ℕ)). StillNoted dig wallet
      (record { notes = with_record wallet.notes o; leaves = with_record wallet.leaves leaf })) (sym some)
      (record { openings = more.openings; leaving = more.leaving })

-- ---- the start that a leave offers

-- the links of a coin at a tip are those of what is kept
start-there : (dig : List ℕ → List ℕ) (wallet : WalletRecords) (log : List RootCall) (coin tip : ℕ) (links : Links)
    → links_at dig wallet log coin tip ≡ Some links → (links.coin ≡ coin) × (tip_of links ≡ tip)
    → StartsAt (start_of (who wallet).account tip links) coin tip
start-there dig wallet log coin tip links shown ends =
    let start = start-at (who wallet).account tip links ends.1 (by (coin_at log kept.coin) shown) in
    record { coin_is = start.coin_is ∙ ends.0; block_is = start.block_is }
  where
    kept : Bundle
    kept = kept_at dig wallet coin tip

    by : (found : Option CoinView)
        → option_map (λ made. links_of (chain_of (who wallet).tag) made kept) found ≡ Some links
        → AllByRecursion (λ link. link.opening.block ≡ link.block) links.spends
    by None wrong = absurd (cc wrong)
    by (Some made) is = grind (arith, common_steps, some_same, kept, links-at)

-- ---- a wallet's commands

-- what a deed of a wallet leaves of its notes
pub record StillLeft (dig : List ℕ → List ℕ) (wallet after : WalletRecords) (event : Event) : Type 0 where
  pub still : StillNoted dig wallet after
  pub left : (m : ℕ) (call : RootCall) → event ≡ Leaves m call
      → is_noted (coin_of_call call) (exit_block call) (noted dig after).leaving ≡ true

module _ (dig : List ℕ → List ℕ) (wallet : WalletRecords) (log : List RootCall) (coin : ℕ) where
  leave-made : (state : CoinState) → coin_state dig wallet log coin ≡ state
      → leave_effect dig wallet log coin ≡ leave_from dig wallet log coin state
  unfolding leave_effect
  leave-made state is = ap (leave_from dig wallet log coin) is

  -- a wallet that leaves with a coin has noted it
  leaving-noted : (tip : ℕ) → coin_state dig wallet log coin ≡ Leaving tip
      → is_noted coin tip (noted dig wallet).leaving ≡ true
  unfolding coin_state
  leaving-noted tip is = ((leaving_is (noted dig wallet) (leaves_in wallet.leaves) log coin tip).0 is).2

module _ (dig : List ℕ → List ℕ) (s : Said) (log : List RootCall) (wallet : WalletRecords)
    (kept : KeptWallet dig s log wallet) (few : blocks log < 2 ^ 64) where
  abbrev notes : Notes
  notes = noted dig wallet

  accept-noting : (bytes : List ℕ) → Small bytes → Noting dig wallet (accept_effect dig wallet log bytes).note
  accept-noting bytes small =
      by (accept_effect dig wallet log bytes).note (accepts_add_their_notes dig wallet log bytes kept.is small.are)
    where
      by : (note : Option (List ℕ)) → IfSome note (AddsAccepted dig wallet log bytes) → Noting dig wallet note
      by None none = NoNote refl
      by (Some body) added = OneNote body (AcceptsNote (kept_of added.0)) refl added.4 added.3

  reclaim-noting : (bytes : List ℕ) → Small bytes → Noting dig wallet (reclaim_effect dig wallet log bytes).note
  reclaim-noting bytes small =
      by (reclaim_effect dig wallet log bytes).note
      (reclaims_add_their_notes dig wallet log bytes kept.is small.are (words dig s log wallet kept few))
    where
      by : (note : Option (List ℕ)) → IfSome note (AddsReclaimed dig wallet log bytes) → Noting dig wallet note
      by None none = NoNote refl
      by (Some body) added = OneNote body (Reclaims added.0.coin added.0.tip added.0.q) refl added.3 tt

  leave-noting : (coin : ℕ) → coin < 2 ^ 64 → Noting dig wallet (leave_effect dig wallet log coin).note
  leave-noting coin fits =
      by (leave_effect dig wallet log coin).note
      (leaves_add_their_notes dig wallet log coin kept.is (words dig s log wallet kept few) fits)
    where
      by : (note : Option (List ℕ)) → IfSome note (AddsLeaving dig wallet log coin) → Noting dig wallet note
      by None none = NoNote refl
      by (Some body) added = OneNote body (LeavesWith coin added.0) refl added.2 tt

  send-noting : (coin : ℕ) (to : Owner) (last : Option ℕ)
      → Noting dig wallet (send_effect dig wallet log coin to last).note
  unfolding send_effect
  send-noting coin to last = NoNote (send-note wallet log coin to last (coin_state dig wallet log coin))

  -- a leave that offers a start notes its coin and block, or had noted them
  leave-left : (coin : ℕ) → coin < 2 ^ 64 → HaveOpenings dig wallet → (call : RootCall)
      → (leave_effect dig wallet log coin).answer ≡ Ok call
      → is_noted (coin_of_call call) (exit_block call)
      (noted dig (record {
        notes = with_record wallet.notes (leave_effect dig wallet log coin).note;
        leaves = with_record wallet.leaves (leave_effect dig wallet log coin).leaf;
      })).leaving ≡ true
  leave-left coin fits have call gives = by (coin_state dig wallet log coin) refl
    where
      after : WalletRecords
      after = record {
        notes = with_record wallet.notes (leave_effect dig wallet log coin).note;
        leaves = with_record wallet.leaves (leave_effect dig wallet log coin).leaf;
      }

      -- the call is of the coin and the tip
      there : (tip : ℕ)
          → (coin_state dig wallet log coin ≡ Held tip) ⊎ (coin_state dig wallet log coin ≡ Leaving tip)
          → is_noted coin tip (noted dig after).leaving ≡ true
          → is_noted (coin_of_call call) (exit_block call) (noted dig after).leaving ≡ true
      there tip state is =
          let start = leaves_are_answered dig wallet log coin tip state in
          grind (arith, common_steps, start-there, exits_are_of_the_tip, after)

      refused : (state : CoinState) → coin_state dig wallet log coin ≡ state
          → (leave_from dig wallet log coin state).answer ≡ Err WalletRefusal.NotHeld
          → is_noted (coin_of_call call) (exit_block call) (noted dig after).leaving ≡ true
      refused state is wrong =
          absurd (cc (sym gives ∙ ap (λ e. e.answer) (leave-made dig wallet log coin state is) ∙ wrong))

      leaving : (tip : ℕ) → coin_state dig wallet log coin ≡ Leaving tip
          → is_noted coin tip (noted dig after).leaving ≡ true
      leaving tip is =
          (still-noted dig wallet (leave_effect dig wallet log coin).note (leave_effect dig wallet log coin).leaf
          (leave-noting coin fits)).leaving coin tip (leaving-noted dig wallet log coin tip is)

      held : (tip : ℕ) → coin_state dig wallet log coin ≡ Held tip
          → is_noted coin tip (noted dig after).leaving ≡ true
      held tip is =
          let text = note_text (LeavesWith coin tip) in
          let some : (leave_effect dig wallet log coin).note ≡ Some text =
          ap (λ e. e.note) (leave-made dig wallet log coin (Held tip) is) in
          let added : AddsLeaving dig wallet log coin text =
          subst (λ (o : Option (List ℕ)). IfSome o (AddsLeaving dig wallet log coin)) some
          (leaves_add_their_notes dig wallet log coin kept.is (words dig s log wallet kept few) fits) in
          grind (arith, common_steps, noted-grow, state-leaves, noted-new)

      by : (state : CoinState) → coin_state dig wallet log coin ≡ state
          → is_noted (coin_of_call call) (exit_block call) (noted dig after).leaving ≡ true
      by Nothing is = refused Nothing is refl
      by (Sending tip q) is = refused (Sending tip q) is refl
      by (Leaving tip) is = there tip (inr is) (leaving tip is)
      by (Held tip) is = there tip (inl is) (held tip is)

-- ---- deeds

-- what a deed leaves of a wallet's records
abbrev pub after_deed : WalletRecords → Deed → WalletRecords
after_deed wallet deed =
    record { notes = with_record wallet.notes deed.note; leaves = with_record wallet.leaves deed.leaf }

-- an order that leaves
abbrev is_leave : NodeOrder → Bool
is_leave (NodeOrder.Wallet (WalletOrder.Leave coin)) = true
is_leave order = false

module _ (dig : List ℕ → List ℕ) (s : Said) (log : List RootCall) (few : blocks log < 2 ^ 64) (n : ℕ)
    (wallet : WalletRecords) (kept : KeptWallet dig s log wallet) (have : HaveOpenings dig wallet) where
  abbrev deed_by : WalletOrder → Deed
  deed_by order = as_deed n (NodeOrder.Wallet order) (wallet_does dig log wallet order)

  abbrev IsStillLeft : Deed → Type 0
  IsStillLeft deed = StillLeft dig wallet (after_deed wallet deed) deed.gives.event

  -- only a leave is an event that leaves
  no-leave : (order : NodeOrder) (event : Event) (calls : List RootCall) → is_leave order ≡ false
      → OrderEnds dig log n (node_with wallet) order event calls → (m : ℕ) (call : RootCall) → event ≡ Leaves m call → ⊥
  no-leave order event calls other (LeavingEnds coin start made) m call is = true≢false other
  no-leave order event calls other ends m call is = cc is

  other-left : (order : WalletOrder) → is_leave (NodeOrder.Wallet order) ≡ false
      → Noting dig wallet (deed_by order).note → IsStillLeft (deed_by order)
  other-left order other noting = record {
    still = still-noted dig wallet (deed_by order).note (deed_by order).leaf noting;
    left = λ m call is.
        absurd (no-leave (NodeOrder.Wallet order) _ _ other
        (order-ends dig log n (node_with wallet) (NodeOrder.Wallet order)) m call is);
  }

  pub wallet-left : (order : WalletOrder) → IsFitOrder (NodeOrder.Wallet order) → IsStillLeft (deed_by order)
  unfolding wallet_does event_of
  wallet-left (WalletOrder.Accept bytes) fit =
      other-left (WalletOrder.Accept bytes) refl (accept-noting dig s log wallet kept few bytes fit)
  wallet-left (WalletOrder.Send coin to last) fit =
      other-left (WalletOrder.Send coin to last) refl (send-noting dig s log wallet kept few coin to last)
  wallet-left (WalletOrder.Leave coin) fit =
      let effect = leave_effect dig wallet log coin in
      record {
        still = still-noted dig wallet effect.note effect.leaf
            (leave-noting dig s log wallet kept few coin fit);
        left = by effect.answer refl;
      }
    where
      by : (result : Result RootCall WalletRefusal) → (leave_effect dig wallet log coin).answer ≡ result
          → (m : ℕ) (call : RootCall) → wallet_told n (WalletOrder.Leave coin) on_leaving result ≡ Leaves m call
          → is_noted (coin_of_call call) (exit_block call)
          (noted dig (after_deed wallet (deed_by (WalletOrder.Leave coin)))).leaving ≡ true
      by (Err why) answered m call is = absurd (cc is)
      by (Ok start) answered m call is = grind (arith, common_steps, leave-left)
  wallet-left (WalletOrder.Reclaim bytes) fit =
      other-left (WalletOrder.Reclaim bytes) refl (reclaim-noting dig s log wallet kept few bytes fit)
  wallet-left WalletOrder.Migrate fit = other-left WalletOrder.Migrate refl (NoNote (migrate-note wallet))
  wallet-left order fit = other-left order refl (NoNote refl)

-- ---- commands

module _ (dig : List ℕ → List ℕ) (s : Said) (world : World) (feeds : Feeds world) (n : ℕ) (node : Node)
    (role : is_wallet_role node.role ≡ true) (kept : KeptWallet dig s world.chain.log (wallet_of node))
    (have : HaveOpenings dig (wallet_of node)) where
  abbrev IsLeftStill : Deed → Type 0
  IsLeftStill deed = StillLeft dig (wallet_of node) (after_deed (wallet_of node) deed) deed.gives.event

  pub order-left : (order : NodeOrder) → has_order order node.role ≡ true → IsFitOrder order
      → IsLeftStill (as_deed n order (node_does dig world.chain.log node order))
  unfolding event_of
  order-left (NodeOrder.Wallet order) at fit =
      wallet-left dig s world.chain.log feeds.few n (wallet_of node) kept have order fit
  order-left (NodeOrder.Watcher order) at fit = absurd (false≢true (sym (wallet-alone node.role role).0 ∙ at))
  order-left (NodeOrder.Operator order) at fit = absurd (false≢true (sym (wallet-alone node.role role).1 ∙ at))
  order-left NodeOrder.Open at fit = grind (arith, common_steps, still-noted)
