-- What the act of a line shows of the names, places and tokens in it.
use Rattle.world_rules.proofs.Basics.{◌≡◌, ℕ, ◌&&◌, Bool, true, List, Option, Some, None, is_some, inl, inr, sym, ap, ◌∙◌, arith, option_map, nat_lt, and_parts, find_at, common_steps}
use Rattle.world_rules.proofs.CoinWords.{leaf_count, Owner, some_same}
use Rattle.world_rules.proofs.NodeWords.{NodeOrder}
use Rattle.world_rules.proofs.WorldWords.{HexOrName, and_then_some, option_map_some, Line, Command, WalletCommand, node_of, Role, Rogue, World, is_named, is_wallet_role, number_of, rogue_named, owner_of_node, owner_named, new_owner_of, plays, is_declared, is_sendable, has_declared_names, wallet_order, order_of, cut, outcome_of, signed_body, IsCommandIn, Place, Cut, Act, Signs, only_where, place_named, order_act, command_act, act_of, IsThere}
use Rattle.world_rules.proofs.Existence.{position-is, position-parts}

-- ---- options

pub where-some : {A : Type 0} (b : Bool) (found : Option A) (x : A) → only_where b found ≡ Some x
    → (b ≡ true) × (found ≡ Some x)
where-some b found x is = grind (arith, common_steps, found)

-- what a rule of declarations lets through
pub ruled : (b : Bool) (one act : Act) → only_where b (Some one) ≡ Some act → (b ≡ true) × (one ≡ act)
ruled b one act is = let may = where-some b (Some one) act is in (may.0, some_same one act may.1)

pub is_some-where : {A : Type 0} (b : Bool) (found : Option A) → is_some (only_where b found) ≡ (b && is_some found)
is_some-where b found = grind (arith, common_steps, found)

pub is_some-rule : {A : Type 0} (b : Bool) (x : A) → is_some (only_where b (Some x)) ≡ b
is_some-rule b x = grind (arith, common_steps)

pub is_some-map : {A B : Type 0} (f : A → B) (o : Option A) → is_some (option_map f o) ≡ is_some o
is_some-map f o = grind (arith, common_steps)

module _ (world : World) where
  -- ---- names

  -- the node there has the name, and a role that passes
  pub record IsFound (may : Role → Bool) (name : List ℕ) (place : Place) : Type 0 where
    pub number : number_of may world name ≡ Some place.number
    pub there : IsThere world place
    pub role : may place.node.role ≡ true

  -- a number that is found is that of a place
  placed : (may : Role → Bool) (name : List ℕ) (n : ℕ) → number_of may world name ≡ Some n
      → (place : Place) × (place_named may world name ≡ Some place) × IsFound may name place
  placed may name n number =
      let at = position-is (is_named may name) world.nodes n number in
      let place : Place = record { number = n; node = at.0 } in (
        place,
        grind (arith, common_steps),
        record { number = number; there = at.1; role = (and_parts _ (may at.0.role) at.2).1 },
      )

  pub found : (may : Role → Bool) (name : List ℕ) (place : Place) → place_named may world name ≡ Some place
      → IsFound may name place
  found may name place is = grind (arith, common_steps, and_then_some, placed, some_same)

  -- a wallet's name stands for the owner there
  pub owner-is : (name : List ℕ) (place : Place) → IsFound is_wallet_role name place
      → owner_named world name ≡ Some (owner_of_node place.node)
  owner-is name place at = grind (arith, common_steps, find_at, position-parts)

  -- a name is declared where it has a place
  pub is_some-named : (may : Role → Bool) (name : List ℕ)
      → is_some (place_named may world name) ≡ is_declared may world name
  is_some-named may name = grind (arith, common_steps, placed)

  -- ---- orders

  is_some-wallet : (own : WalletCommand) → is_some (wallet_order world own) ≡ is_sendable world own
  is_some-wallet own = grind (arith, common_steps, is_some-map)

  -- a node with the role has an order exactly where what the command names is declared
  pub is_some-order : (role : Role) (command : Command) → plays command role ≡ true
      → is_some (order_of world role command) ≡ has_declared_names world command
  unfolding order_of
  is_some-order role command may = grind (arith, common_steps, is_some-map, is_some-wallet)

  -- what a command's act shows: its place, and its order there
  pub record IsUnderstood (cut : Option Cut) (command : Command) (act : Act) : Type 0 where
    pub place : Place
    pub at : IsFound (plays command) (node_of command) place
    pub order : NodeOrder
    pub order_is : order_of world place.node.role command ≡ Some order
    pub act_is : order_act cut place order ≡ act

  pub understood : (cut : Option Cut) (command : Command) (act : Act) → command_act world cut command ≡ Some act
      → IsUnderstood cut command act
  understood cut command act is =
      let place = and_then_some
      (λ (place : Place). option_map (order_act cut place) (order_of world place.node.role command))
      (place_named (plays command) world (node_of command)) act is in
      let order = option_map_some (order_act cut place.0) (order_of world place.0.node.role command) act place.2 in
      record {
        place = place.0;
        at = found (plays command) (node_of command) place.0 place.1;
        order = order.0;
        order_is = order.1;
        act_is = order.2;
      }

  -- so does that of a line with the command, cut or not
  pub understood-in : (line : Line) (command : Command) (act : Act) → act_of world line ≡ Some act
      → IsCommandIn line command → (cut : Option Cut) × IsUnderstood cut command act
  unfolding act_of
  understood-in line command act is (inl plain) =
      (None, understood None command act (ap (act_of world) (sym plain) ∙ is))
  understood-in line command act is (inr in_cut) =
      let cut : Cut = record { calls = in_cut.1; outcome = outcome_of in_cut.2 } in (
        Some cut,
        grind (arith, common_steps, understood, where-some),
      )

  -- what the act of a line that signs shows
  pub record IsSigned (rogue : List ℕ) (leaf coin parent : ℕ) (to : HexOrName) (last : Option ℕ) (act : Act)
      : Type 0 where
    pub signer : Rogue
    pub signer_is : rogue_named world rogue ≡ Some signer
    pub leaf_is : nat_lt leaf (leaf_count signer.secret.types) ≡ true
    pub owner : Owner
    pub owner_is : new_owner_of world to ≡ Some owner
    pub act_is : Signs leaf (signed_body world coin parent last owner) signer ≡ act

  pub signed : (rogue : List ℕ) (leaf coin parent : ℕ) (to : HexOrName) (last : Option ℕ) (act : Act)
      → act_of world (Line.Sign rogue leaf coin parent to last) ≡ Some act → IsSigned rogue leaf coin parent to last act
  unfolding act_of
  signed rogue leaf coin parent to last act is =
      grind (arith, common_steps, and_then_some, where-some, some_same, option_map_some)
