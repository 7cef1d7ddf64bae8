-- What holds of a world besides its nodes behind every act, and what orders may take from such a world.
use Rattle.world_rules.proofs.Basics.{◌≡◌, ℕ, suc, ◌^◌, ◌<◌, ◌≤◌, Bool, true, false, if◌then◌else◌, List, [], ◌∷◌, ◌++◌, length, Option, Some, None, refl, sym, subst, arith, slice_get, find, option_map, AllByRecursion, option_or, bytes_eq, and_parts, common_steps}
use Rattle.world_rules.proofs.CoinWords.{Owner, RootCall, owner_in, blocks, tests_by, rules_of, answer_to, is_accepted, log_after, all-append, all-found, some_same, owner_in-is}
use Rattle.world_rules.proofs.NodeWords.{WalletIdentity, owner_of, who, Small, small-nil, small-take, small-drop}
use Rattle.world_rules.proofs.WorldWords.{HexOrName, OWNER_BYTES, IsHexOrName, Node, Rogue, World, wallet_of, owner_of_node, owner_of_rogue, is_named, is_wallet_role, rogue_named, owner_named, new_owner_of, Declares, IsOfChain, NewWallet, Act, done}
use Rattle.plasma_tx.specs.Chain.{Chain}
use Rattle.plasma_tx.specs.RuleLaws.{Shows}
use Rattle.plasma_tx.proofs.Accepted.{accepted_calls_show}
use Rattle.world_rules.proofs.OperatorItems.{AreSmallRecords}
use Rattle.world_rules.proofs.Said.{told, nothing_said}
use Rattle.world_rules.proofs.KeptWallet.{KeptWallet, records-push}
use Rattle.world_rules.proofs.KeptNode.{IsGoodOwner, Feeds}
use Rattle.world_rules.proofs.NewNodes.{good-owner, good-secret, small-padded, new_wallet, new-wallet-kept}
use Rattle.world_rules.proofs.Lives.{begun}
use Rattle.world_rules.proofs.Fitting.{IsFitNew, IsFitAct}

-- a rogue is an owner of the type, whose key is bytes
abbrev pub IsGoodRogue : Rogue → Type 0
IsGoodRogue rogue = IsGoodOwner (owner_of_rogue rogue)

-- the tag and the mail are bytes, the blocks of the log are few, and the rogues are owners of the type
pub record KeptFrame (chain : Chain) (items : List (List ℕ)) (strangers : List Rogue) : Type 0 where
  pub tag : Small chain.tag
  pub tag_long : length chain.tag ≡ 32
  pub few : blocks chain.log ≤ chain.most_blocks
  pub most : chain.most_blocks < 2 ^ 64
  pub mail : AreSmallRecords items
  pub rogues : AllByRecursion IsGoodRogue strangers

abbrev pub HasFrame : World → Type 0
HasFrame world = KeptFrame world.chain world.mail world.rogues

-- the first line begins it
pub first-frame : (tag operator most : ℕ) → most < 2 ^ 64 → HasFrame (begun tag operator most).world
unfolding blocks
first-frame tag operator most fits = record {
  tag = small-padded tag;
  tag_long = refl;
  few = omega arith;
  most = fits;
  mail = (small-nil, tt);
  rogues = tt;
}

-- one more mail item
pub frame-item : (world : World) (item : List ℕ) → HasFrame world → Small item
    → KeptFrame world.chain (world.mail ++ item ∷ []) world.rogues
frame-item world item frame small = grind (arith, common_steps, records-push)

module _ (dig : List ℕ → List ℕ) (world : World) (frame : HasFrame world) where
  -- there is room for a call that was accepted
  room : (call : RootCall)
      → is_accepted (answer_to (tests_by dig) (rules_of world.chain) world.chain.log call) ≡ true
      → blocks (call ∷ world.chain.log) ≤ world.chain.most_blocks
  unfolding blocks
  room call is = by call (accepted_calls_show (tests_by dig) (rules_of world.chain) world.chain.log call is)
    where
      by : (one : RootCall) → Shows (tests_by dig) (rules_of world.chain) world.chain.log one
          → blocks (one ∷ world.chain.log) ≤ world.chain.most_blocks
      by (RootCall.Deposit account amount key) shows = let one = shows.room in omega (arith, one)
      by (RootCall.Commit account root) shows = let one = shows.room in omega (arith, one)
      by one shows = frame.few

  -- an act that fits keeps it
  pub frame-kept : (act : Act) → IsFitAct act → HasFrame (done dig world act).world
  unfolding done log_after
  frame-kept act fit = grind (arith, common_steps, all-append, good-secret, room)

-- ---- what orders may take

-- what is found is in the list, and passes
find-in : {X : Type 0} (p : X → Bool) (xs : List X) (x : X) → find p xs ≡ Some x
    → (i : ℕ) × (slice_get xs i ≡ Some x) × (p x ≡ true)
find-in p [] x is = absurd (cc is)
find-in {X} p (y ∷ ys) x is = at (p y) refl is (find-in p ys x)
  where
    at : (b : Bool) → p y ≡ b → (if b then Some y else find p ys) ≡ Some x
        → (find p ys ≡ Some x → (i : ℕ) × (slice_get ys i ≡ Some x) × (p x ≡ true))
        → (i : ℕ) × (slice_get (y ∷ ys) i ≡ Some x) × (p x ≡ true)
    at true passes is rest = grind (arith, common_steps, some_same)
    at false passes is rest = let found = rest is in (suc found.0, found.1, found.2)

hex-owner : (bytes : List ℕ) → Small bytes → length bytes ≡ 64 → IsGoodOwner (owner_in bytes)
unfolding owner_in
hex-owner bytes small long = record {
  is = owner_in-is bytes small.are long;
  key = small-take 56 (small-drop 8 small);
}

module _ (world : World) (frame : HasFrame world) where
  pub few-in : blocks world.chain.log < 2 ^ 64
  few-in = omega (arith, frame.few, frame.most)

  -- where each wallet's account is of the type
  module _ (fit : (n : ℕ) (node : Node) → slice_get world.nodes n ≡ Some node → is_wallet_role node.role ≡ true
      → (who (wallet_of node)).account < 2 ^ 64) where
    wallet-owner : (name : List ℕ) (node : Node) → find (is_named is_wallet_role name) world.nodes ≡ Some node
        → IsGoodOwner (owner_of_node node)
    unfolding owner_of
    wallet-owner name node is =
        let found = find-in (is_named is_wallet_role name) world.nodes node is in
        grind (arith, common_steps, good-owner, and_parts)

    named-owner : (name : List ℕ) (owner : Owner) → owner_named world name ≡ Some owner → IsGoodOwner owner
    named-owner name owner is =
        at (find (is_named is_wallet_role name) world.nodes) (rogue_named world name) refl refl is
      where
        at : (node : Option Node) (rogue : Option Rogue)
            → find (is_named is_wallet_role name) world.nodes ≡ node → rogue_named world name ≡ rogue
            → option_or (option_map owner_of_node node) (option_map owner_of_rogue rogue) ≡ Some owner
            → IsGoodOwner owner
        at (Some node) rogue found other is =
            subst IsGoodOwner (some_same (owner_of_node node) owner is) (wallet-owner name node found)
        at None (Some rogue) none found is =
            subst IsGoodOwner (some_same (owner_of_rogue rogue) owner is)
            (all-found IsGoodRogue (λ r. bytes_eq r.name name) world.rogues rogue frame.rogues found).0
        at None None none other is = absurd (cc is)

    to-owner : (to : HexOrName) (owner : Owner) → IsHexOrName OWNER_BYTES to → new_owner_of world to ≡ Some owner
        → IsGoodOwner owner
    to-owner (HexOrName.Hex bytes) owner fits is =
        subst IsGoodOwner (some_same (owner_in bytes) owner is) (hex-owner bytes (record { are = fits.0 }) fits.1)
    to-owner (HexOrName.Name name) owner fits is = named-owner name owner is

    pub frame-feeds : Feeds world
    frame-feeds = record { mail = frame.mail; owners = to-owner; few = few-in }

-- ---- a new wallet

-- a wallet that may be declared has a wallet's records
pub joined-wallet : (dig : List ℕ → List ℕ) (world : World) → HasFrame world → (who : WalletIdentity)
    → IsOfChain world who → IsFitNew (NewWallet who) → (log : List RootCall) (n : ℕ)
    → KeptWallet dig (told (Declares n (owner_of who)) nothing_said) log (new_wallet who)
joined-wallet dig world frame who of fit log n =
    new-wallet-kept dig who (grind (arith, common_steps)) log n (subst Small (sym of.tag) frame.tag)
    (subst Small (sym of.is_seed) (small-padded of.seed))
