-- A wallet's notes have each coin and block with which it offered to leave, and each bundle that they accept has
-- openings: what one more event and one more note leave of it.
use Rattle.world_laws.proofs.Basics.{◌≡◌, ℕ, ◌==◌, true, false, List, [], ◌∷◌, None, refl, arith, sym, Bool, if◌then◌else◌, ap, list_any, cases_eq, eqb-true, ne_eqb, and_parts, or_cases, or_parts, common_steps, none_some}
use Rattle.world_laws.proofs.CoinWords.{RootCall, CoinTip, is_noted}
use Rattle.world_laws.proofs.NodeWords.{HaveOpenings, notes_of, accepted_of, WalletRecords, noted, exit_block}
use Rattle.world_laws.proofs.WorldWords.{Event, Leaves, coin_of_call, node_in, is_command_of, Node, wallet_of, without_offers, left_by, is_left}
use Rattle.world_laws.proofs.LeftNotes.{StillLeft}

-- ---- what is left by one more event

pub left-plain : (event : Event) (events : List Event) (n : ℕ) → node_in event ≡ None
    → left_by (event ∷ events) n ≡ left_by events n
unfolding left_by
left-plain (Leaves v call) events n none = absurd (none_some v (sym none))
left-plain event events n none = refl

-- an event by which another node leaves, or none
pub left-other : (event : Event) (events : List Event) (n : ℕ) → ((call : RootCall) → event ≡ Leaves n call → ⊥)
    → left_by (event ∷ events) n ≡ left_by events n
unfolding left_by
left-other event events n other = grind (arith, common_steps, cases_eq, ne_eqb)

-- a command of another node, or none
pub left-apart : (event : Event) (events : List Event) (n : ℕ) → is_command_of n event ≡ false
    → left_by (event ∷ events) n ≡ left_by events n
unfolding left_by
left-apart (Leaves v call) events n other =
    ap (λ (b : Bool). if b then call ∷ left_by events n else left_by events n) other
left-apart event events n other = refl

-- what is among the starts is noted, where each start that there is and the one of the event are
module _ (notes : List CoinTip) (events : List Event) (n c e : ℕ)
    (before : is_left (left_by events n) c e ≡ true → is_noted c e notes ≡ true) where
  pub left-more : (event : Event)
      → ((m : ℕ) (call : RootCall) → event ≡ Leaves m call
      → is_noted (coin_of_call call) (exit_block call) notes ≡ true)
      → is_left (left_by (event ∷ events) n) c e ≡ true → is_noted c e notes ≡ true
  unfolding left_by
  left-more event new is = grind (arith, common_steps, and_parts, eqb-true, or_cases)

-- a node with no command left with nothing
pub unused-left : (events : List Event) (n : ℕ) → list_any (is_command_of n) events ≡ false → left_by events n ≡ []
unfolding left_by
unused-left [] n none = refl
unused-left (Leaves v call ∷ events) n none =
    let parts = or_parts (v == n) (list_any (is_command_of n) events) none in
    grind (arith, common_steps, unused-left events n parts.1)
unused-left (event ∷ events) n none =
    unused-left events n (or_parts (is_command_of n event) (list_any (is_command_of n) events) none).1

-- ---- nodes

-- a wallet's notes have what it left with, and the bundles that they accept have openings
pub record NodeLeft (dig : List ℕ → List ℕ) (events : List Event) (n : ℕ) (node : Node) : Type 0 where
  pub openings : HaveOpenings dig (wallet_of node)
  pub left : (c e : ℕ) → is_left (left_by events n) c e ≡ true
      → is_noted c e (noted dig (wallet_of node)).leaving ≡ true

-- a node with what a deed adds
pub node-more : (dig : List ℕ → List ℕ) (events : List Event) (event : Event) (n : ℕ) (node after : Node)
    → StillLeft dig (wallet_of node) (wallet_of after) event → NodeLeft dig events n node
    → NodeLeft dig (event ∷ events) n after
node-more dig events event n node after more left = grind (arith, common_steps, left-more)

-- a node that is declared has no notes but its identity
pub bare-openings : (dig : List ℕ → List ℕ) (wallet : WalletRecords) (identity : List ℕ) → wallet.notes ≡ identity ∷ []
    → HaveOpenings dig wallet
unfolding notes_of accepted_of
bare-openings dig wallet identity is = grind (arith, common_steps)

-- a cut's event is no leave
pub cut-other : (n : ℕ) (event : Event) (m : ℕ) (call : RootCall) → without_offers n event ≡ Leaves m call → ⊥
cut-other n event m call is = grind (arith, common_steps)
