-- What stays of a wallet as lines follow: the number that its name has, who it is, and what its leaves bind; and that
-- no two wallets have one key.
use Rattle.world_laws.proofs.Basics.{◌≡◌, ◌⊎◌, ℕ, zero, suc, ◌+◌, ◌<◌, not, cond, Bool, true, false, List, [], ◌∷◌, ◌++◌, length, set, slice_get, Option, Some, None, inl, inr, refl, sym, ap, ◌∙◌, subst, arith, position, position_or_len, and_parts, or_parts, not-true, cases_eq, lt-ltb, true≢false, false≢true, length-set, length_push, bytes_eq-Decides, common_steps, some_same}
use Rattle.world_laws.proofs.CoinWords.{Body, RootCall}
use Rattle.world_laws.proofs.NodeWords.{are_of, WalletIdentity, wallet_kinds, identity_text, owner_of, who-same, wallet-parts, with_record}
use Rattle.world_laws.proofs.WorldWords.{Event, bound_by, leaf_at, Wallet, Node, World, is_named, is_wallet_role, owner_of_node, wallet_of, may_be_wallet, new_node, with_records, GrowsAtMost, KeptWorld, NodesGrow, set-same, set-other, push-other, position-parts, NewWallet, NewWatcher, NewRogue, Act, Adds, Orders, Crashes, End, Whole, Crashed, Kept, Lost, end_of, node_after, deed_at, done, IsOfChain, IsActIn, IsFitNew, IsFitAct, change_of, IsKeptOwn, each_node_keeps, IfThere, node-there}
use Rattle.world_laws.proofs.HeldCoins.{leaf_at-push}
use Rattle.node_rules.specs.WalletRecords.{who_is}
use Rattle.world_laws.proofs.Holders.{any-filter}
use Rattle.world_laws.proofs.Identities.{wallet-who, wallet-identity}
use Rattle.world_laws.proofs.SignedDeeds.{named-role}

-- ---- positions

module _ {X : Type 0} (p : X → Bool) where
  position-set : (xs : List X) (k : ℕ) (old new : X) → slice_get xs k ≡ Some old → p new ≡ p old
      → position_or_len p (set xs k new) ≡ position_or_len p xs
  position-set [] k old new is same = refl
  position-set (x ∷ xs) zero old new is same =
      ap (λ (b : Bool). cond (not b) (1 + position_or_len p xs) 0) (same ∙ ap p (sym (some_same x old is)))
  position-set (x ∷ xs) (suc k) old new is same =
      ap (λ (r : ℕ). cond (not (p x)) (1 + r) 0) (position-set xs k old new is same)

  position-push : (xs : List X) (new : X) → position_or_len p xs < length xs
      → position_or_len p (xs ++ new ∷ []) ≡ position_or_len p xs
  position-push [] new below = absurd (omega (arith, below))
  position-push (x ∷ xs) new below = grind (arith, common_steps, position-push xs new)

  position-from : (xs : List X) (n : ℕ) → position_or_len p xs ≡ n → n < length xs → position p xs ≡ Some n
  position-from xs n is below = grind (arith, common_steps, lt-ltb)

-- ---- who a wallet is

who-grown : (dig : List ℕ → List ℕ) (notes : List (List ℕ)) (more : List ℕ)
    → are_of (wallet_kinds dig) notes ≡ true → who_is (notes ++ more ∷ []) ≡ who_is notes
who-grown dig [] more role = absurd (false≢true role)
who-grown dig (identity ∷ notes) more role = who-same identity notes (more ∷ [])

module _ (dig : List ℕ → List ℕ) (events : List Event) (world : World) (kept : KeptWorld dig events world) where
  who-more : (n : ℕ) (node : Node) (more : List ℕ) → slice_get world.nodes n ≡ Some node
      → is_wallet_role node.role ≡ true → who_is (node.notes ++ more ∷ []) ≡ who_is node.notes
  who-more n node more node_is role =
      who-grown dig node.notes more
      (wallet-parts dig (wallet_of node) ((kept.nodes n node node_is).wallet role).is).role

  -- with what a deed adds
  who-recorded : (n : ℕ) (node : Node) (note : Option (List ℕ)) → slice_get world.nodes n ≡ Some node
      → is_wallet_role node.role ≡ true → who_is (with_record node.notes note) ≡ who_is node.notes
  who-recorded n node None node_is role = refl
  who-recorded n node (Some more) node_is role = who-more n node more node_is role

  who-changed : (n : ℕ) (node after : Node) → slice_get world.nodes n ≡ Some node → is_wallet_role node.role ≡ true
      → GrowsAtMost node after → who_is after.notes ≡ who_is node.notes
  who-changed n node after node_is role grows = grind (arith, common_steps, who-more, role)

  -- ---- a wallet by its name

  -- the name has the same number, and the node there is the same wallet
  pub record Stays (after : List Node) (name : List ℕ) (n : ℕ) (node : Node) : Type 0 where
    pub new : Node
    pub number : position (is_named is_wallet_role name) after ≡ Some n
    pub is_new : slice_get after n ≡ Some new
    pub who : who_is new.notes ≡ who_is node.notes

  module _ (name : List ℕ) (n : ℕ) (node : Node)
      (number : position (is_named is_wallet_role name) world.nodes ≡ Some n)
      (node_is : slice_get world.nodes n ≡ Some node) where
    abbrev passes : Node → Bool
    passes = is_named is_wallet_role name

    role : is_wallet_role node.role ≡ true
    role = named-role dig events world kept name n node number node_is

    stays-changed : (k : ℕ) (old new : Node) → slice_get world.nodes k ≡ Some old → GrowsAtMost old new
        → Stays (set world.nodes k new) name n node
    stays-changed k old new old_is grows = elim (cases_eq k n) [
      | inl same ↦
          let old_node : old ≡ node =
          some_same old node (sym old_is ∙ ap (slice_get world.nodes) same ∙ node_is) in
          record {
            new = new;
            number = placed;
            is_new = ap (slice_get (set world.nodes k new)) (sym same) ∙ set-same world.nodes k old new old_is;
            who = who-changed n node new node_is role (subst (λ (o : Node). GrowsAtMost o new) old_node grows);
          }
      | inr apart ↦ grind (arith, common_steps, placed, set-other)
    ]
      where
        placed : position passes (set world.nodes k new) ≡ Some n
        placed = grind (arith, common_steps, position-parts, length-set, position-from, position-set)

    stays-pushed : (new : Node) → Stays (world.nodes ++ new ∷ []) name n node
    stays-pushed new =
        grind (arith, common_steps, position-parts, length_push, position-from, position-push, push-other)

    pub stays : (after : List Node) → NodesGrow world after → Stays after name n node
    stays after (inl same) =
        subst (λ (l : List Node). Stays l name n node) (sym same)
        (record { new = node; number = number; is_new = node_is; who = refl })
    stays after (inr (inl changes)) =
        subst (λ (l : List Node). Stays l name n node) (sym changes.is_new)
        (stays-changed changes.number changes.old changes.new changes.is_old changes.grows)
    stays after (inr (inr declares)) =
        subst (λ (l : List Node). Stays l name n node) (sym declares.1) (stays-pushed declares.0)

-- what a leaf binds stays
pub leaf-stays : (event : Event) (events : List Event) (n q : ℕ) (body : Body)
    → leaf_at q (bound_by events n) ≡ Some body → leaf_at q (bound_by (event ∷ events) n) ≡ Some body
unfolding bound_by
leaf-stays event events n q body is = grind (arith, common_steps, leaf_at-push)

-- ---- keys

-- no two wallets have one key
abbrev pub KeysApart : List Node → Type 0
KeysApart nodes = (n m : ℕ) (one other : Node) → slice_get nodes n ≡ Some one → slice_get nodes m ≡ Some other
    → is_wallet_role one.role ≡ true → is_wallet_role other.role ≡ true
    → (owner_of_node one).key ≡ (owner_of_node other).key → n ≡ m

module _ (dig : List ℕ → List ℕ) (events : List Event) (world : World) (kept : KeptWorld dig events world)
    (apart : KeysApart world.nodes) where
  abbrev HasKey : List ℕ → ℕ → Node → Type 0
  HasKey key n node =
      (slice_get world.nodes n ≡ Some node) × (is_wallet_role node.role ≡ true) × (key ≡ (owner_of_node node).key)

  -- a wallet was there with its key, or is new with a key that no wallet had
  abbrev CameFrom : ℕ → Node → Type 0
  CameFrom n one = is_wallet_role one.role ≡ true
      → ((old : Node) × HasKey (owner_of_node one).key n old)
      ⊎ ((n ≡ length world.nodes)
      × ((m : ℕ) (node : Node) → HasKey (owner_of_node one).key m node → ⊥))

  keys-declared : (name : List ℕ) (who : WalletIdentity) → IsOfChain world who → may_be_wallet world name who ≡ true
      → IsFitNew (NewWallet who) → (n : ℕ) (node : Node)
      → HasKey (owner_of_node (new_node Wallet name who.account (identity_text who))).key n node → ⊥
  keys-declared name who of may fit n node has =
      grind (
        arith,
        true≢false,
        any-filter,
        bytes_eq-Decides,
        wallet-who,
        wallet-identity,
        and_parts,
        or_parts,
        not-true,
      )

  abbrev Old : ℕ → Option Node → Type 0
  Old n found = slice_get world.nodes n ≡ found

  own-came : (act : Act) → IsActIn world act → IsFitAct act
      → IsKeptOwn Old (IfThere CameFrom) world.nodes (change_of dig world act)
  own-came (Adds name (NewWallet who)) known fit = λ none role.
      inr (refl, keys-declared name who known.0 known.1 fit)
  own-came (Adds name (NewWatcher account)) known fit = λ none wrong. absurd (false≢true wrong)
  own-came (Adds name (NewRogue who)) known fit = tt
  own-came (Orders place order cut) known fit =
      λ old. by (end_of cut place.node order (deed_at dig world place order)) old
    where
      recorded : (up : Bool) (calls : List RootCall) → Old place.number (Some place.node)
          → CameFrom place.number (record (with_records place.node (deed_at dig world place order)) {
            is_up = up;
            offers = calls;
          })
      recorded up calls old role =
          inl (
            place.node,
            (
              old,
              role,
              ap (λ (w : WalletIdentity). (owner_of w).key)
                  (who-recorded dig events world kept place.number place.node (deed_at dig world place order).note old
                  role),
            ),
          )

      by : (end : End) → Old place.number (Some place.node)
          → CameFrom place.number (node_after place.node (deed_at dig world place order) end)
      by Whole = recorded true (deed_at dig world place order).gives.offers
      by Crashed = recorded false []
      by Kept = recorded false []
      by Lost = λ old role. inl (place.node, (old, role, refl))
  own-came (Crashes place) known fit = λ old role. inl (place.node, (old, role, refl))
  own-came act known fit = tt

  -- an act leaves the keys apart
  pub keys-act : (act : Act) → IsActIn world act → IsFitAct act → KeysApart (done dig world act).world.nodes
  keys-act act known fit n m one other one_is other_is one_role other_role key =
      by (came n one one_is one_role) (came m other other_is other_role)
    where
      came : (k : ℕ) (node : Node) → slice_get (done dig world act).world.nodes k ≡ Some node → CameFrom k node
      came =
          node-there CameFrom (done dig world act).world.nodes
          (each_node_keeps Old (IfThere CameFrom) dig world act known (λ k. refl) (record {
            others = λ k apart found. still k found;
            own = own-came act known fit;
          }))
        where
          still : (k : ℕ) (found : Option Node) → Old k found → IfThere CameFrom k found
          still k None old = tt
          still k (Some node) old = λ role. inl (node, (old, role, refl))

      by : ((old : Node) × HasKey (owner_of_node one).key n old)
          ⊎ ((n ≡ length world.nodes) × ((k : ℕ) (node : Node) → HasKey (owner_of_node one).key k node → ⊥))
          → ((old : Node) × HasKey (owner_of_node other).key m old)
          ⊎ ((m ≡ length world.nodes) × ((k : ℕ) (node : Node) → HasKey (owner_of_node other).key k node → ⊥))
          → n ≡ m
      by (inl a) (inl b) = apart n m a.0 b.0 a.1.0 b.1.0 a.1.1 b.1.1 (sym a.1.2 ∙ key ∙ b.1.2)
      by (inl a) (inr b) = absurd (b.1 n a.0 (a.1.0, a.1.1, sym key ∙ a.1.2))
      by (inr a) (inl b) = absurd (a.1 m b.0 (b.1.0, b.1.1, key ∙ b.1.2))
      by (inr a) (inr b) = a.0 ∙ sym b.0
