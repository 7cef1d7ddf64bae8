-- What is looked up among nodes with their disks, and among nodes alone.
use Rattle.world_scene.proofs.Words.{◌≡◌, refl, sym, ap, ◌∙◌, ℕ, ◌+◌, if◌then◌else◌, Bool, not, cond, ◌&&◌, ◌||◌, List, [], ◌∷◌, map, filter, length, reverse, find, ◌==◌, Option, Some, None, option_map, arith, IfSome, is_some, slice_get, list_any, count_by, position, prefix_len, length-map, list_any-append, bytes_eq, who_is, wallet_nodes, is_wallet_account, is_wallet_key, is_wallet_seed, is_declared_account, is_declared, owner_of_node, owner_of_rogue, owner_named, is_named, is_wallet_role, number_of, NodeView, Owner, and_parts, same_Some, position-is, Roles, SceneState, world_of, node_in, passes, is_named_view, is_named_rogue, owner_in_view, is_wallet_view, is_wallet_with, has_wallet_key, has_wallet_seed, is_view_with, is_rogue_with, is_same_account}
use Rattle.std.proofs.lemmas.List.Sums.{length-filter, sum_by-cons}
use Rattle.std.proofs.lemmas.Grind.{reverse_onto}
use Rattle.std.specs.Option.{option_or}
use Rattle.world_scene.proofs.Scans.{found_at_place, found_where_placed}

-- ---- among what a function gives of each

pub find_map : {X Y : Type 0} (p : Y → Bool) (h : X → Y) (xs : List X)
    → find p (map h xs) ≡ option_map h (find (λ x. p (h x)) xs)
find_map p h [] = refl
find_map p h (x ∷ xs) = grind (arith, find_map p h xs)

pub any_map : {X Y : Type 0} (p : Y → Bool) (h : X → Y) (xs : List X)
    → list_any p (map h xs) ≡ list_any (λ x. p (h x)) xs
any_map p h [] = refl
any_map p h (x ∷ xs) = grind (arith, any_map p h xs)

pub any_filter : {X Y : Type 0} (p q : Y → Bool) (h : X → Y) (xs : List X)
    → list_any p (filter q (map h xs)) ≡ list_any (λ x. q (h x) && p (h x)) xs
any_filter p q h [] = refl
any_filter p q h (x ∷ xs) = grind (arith, any_filter p q h xs)

count_map : {X Y : Type 0} (q : Y → Bool) (h : X → Y) (xs : List X)
    → count_by q (map h xs) ≡ count_by (λ x. q (h x)) xs
count_map q h [] = refl
count_map q h (x ∷ xs) =
    sum_by-cons (λ y. cond (q y) 1 0) (h x) (map h xs) ∙ ap (λ n. cond (q (h x)) 1 0 + n) (count_map q h xs)
    ∙ sym (sum_by-cons (λ y. cond (q (h y)) 1 0) x xs)

pub count_filter : {X Y : Type 0} (q : Y → Bool) (h : X → Y) (xs : List X)
    → length (filter q (map h xs)) ≡ count_by (λ x. q (h x)) xs
count_filter q h xs = length-filter q (map h xs) ∙ count_map q h xs

any_reverse : {X : Type 0} (p : X → Bool) (xs : List X) → list_any p (reverse xs) ≡ list_any p xs
any_reverse p [] = refl
any_reverse p (x ∷ xs) =
    grind (arith, reverse_onto xs x [], list_any-append p (reverse xs) (x ∷ []), any_reverse p xs)

prefix_map : {X Y : Type 0} (p : Y → Bool) (h : X → Y) (xs : List X)
    → prefix_len p (map h xs) ≡ prefix_len (λ x. p (h x)) xs
prefix_map p h [] = refl
prefix_map p h (x ∷ xs) = grind (arith, prefix_map p h xs)

pub position_map : {X Y : Type 0} (p : Y → Bool) (h : X → Y) (xs : List X)
    → position p (map h xs) ≡ position (λ x. p (h x)) xs
position_map p h xs = grind (arith, prefix_map (λ y. not (p y)) h xs, length-map xs h)

mapped_again : {X Y Z : Type 0} (f : Y → Z) (h : X → Y) (found : Option X)
    → option_map f (option_map h found) ≡ option_map (λ x. f (h x)) found
mapped_again f h None = refl
mapped_again f h (Some x) = refl

mapped_some : {X Y : Type 0} (f : X → Y) (found : Option X) → is_some (option_map f found) ≡ is_some found
mapped_some f None = refl
mapped_some f (Some x) = refl

pub mapped_found : {X Y Z : Type 0} (f : Y → Z) (p : Y → Bool) (h : X → Y) (xs : List X)
    → option_map f (find p (map h xs)) ≡ option_map (λ x. f (h x)) (find (λ x. p (h x)) xs)
mapped_found f p h xs = ap (option_map f) (find_map p h xs) ∙ mapped_again f h (find (λ x. p (h x)) xs)

-- ---- owners

-- who a name is, of nodes with their disks
pub owner_named_view : {H : Type 0} (scene : SceneState H) (name : List ℕ)
    → owner_named (world_of scene) name
    ≡ option_or (option_map owner_in_view (find (is_named_view Roles.Wallets name) scene.nodes))
    (option_map owner_of_rogue (find (is_named_rogue name) scene.rogues))
owner_named_view scene name =
    ap (λ found. option_or found (option_map owner_of_rogue (find (is_named_rogue name) scene.rogues)))
    (mapped_found owner_of_node (is_named is_wallet_role name) node_in scene.nodes)

-- who the wallet at a place is that the name has
pub wallet_at : {H : Type 0} (nodes : List (NodeView H)) (name : List ℕ) (n : ℕ) (view : NodeView H)
    (owner : Option Owner)
    → position (is_named_view Roles.Wallets name) nodes ≡ Some n → slice_get nodes n ≡ Some view
    → owner ≡ (if is_wallet_role view.node.role then Some (owner_of_node view.node) else None)
    → owner ≡ option_map owner_in_view (find (is_named_view Roles.Wallets name) nodes)
wallet_at nodes name n view owner place at owns =
    let there = position-is (is_named_view Roles.Wallets name) nodes n place in
    let same = same_Some _ _ (sym at ∙ there.1) in
    let passes' = ap (is_named_view Roles.Wallets name) same ∙ there.2 in
    let role = (and_parts (bytes_eq view.node.name name) (is_wallet_role view.node.role) passes').1 in
    owns ∙ ap (λ b. if b then Some (owner_of_node view.node) else None) role
    ∙ ap (option_map owner_in_view) (sym (found_at_place (is_named_view Roles.Wallets name) nodes n place ∙ at))

-- where a name is, of nodes with their disks
pub number_of_view : {H : Type 0} (scene : SceneState H) (may : Roles) (name : List ℕ)
    → number_of (passes may) (world_of scene) name ≡ position (is_named_view may name) scene.nodes
number_of_view scene may name = position_map (is_named (passes may) name) node_in scene.nodes

-- a wallet with the name is found where the name is declared as a wallet's
pub wallet_is_declared : {H : Type 0} (scene : SceneState H) (name : List ℕ)
    → is_some (option_map owner_in_view (find (is_named_view Roles.Wallets name) scene.nodes))
    ≡ is_declared is_wallet_role (world_of scene) name
wallet_is_declared scene name =
    mapped_some owner_in_view (find (is_named_view Roles.Wallets name) scene.nodes)
    ∙ found_where_placed (is_named_view Roles.Wallets name) scene.nodes
    ∙ ap is_some (sym (number_of_view scene Roles.Wallets name))

-- and it is the owner that the name stands for
pub owner_is_named : {H : Type 0} (scene : SceneState H) (name : List ℕ) (found : Option Owner)
    → found ≡ option_map owner_in_view (find (is_named_view Roles.Wallets name) scene.nodes)
    → IfSome found (λ owner. owner_named (world_of scene) name ≡ Some owner)
owner_is_named scene name None is = tt
owner_is_named scene name (Some owner) is =
    owner_named_view scene name
    ∙ ap (λ o. option_or o (option_map owner_of_rogue (find (is_named_rogue name) scene.rogues))) (sym is)

-- ---- rules of declarations

module _ {H : Type 0} (scene : SceneState H) where
  pub wallets_view : length (wallet_nodes (world_of scene)) ≡ count_by is_wallet_view scene.nodes
  wallets_view = count_filter (λ node. is_wallet_role node.role) node_in scene.nodes

  pub wallet_account_view : (account : ℕ)
      → is_wallet_account (world_of scene) account ≡ list_any (is_wallet_with account) scene.nodes
  wallet_account_view account =
      any_filter (λ node. node.account == account) (λ node. is_wallet_role node.role) node_in scene.nodes

  pub wallet_key_view : (key : List ℕ)
      → is_wallet_key (world_of scene) key ≡ list_any (has_wallet_key key) scene.nodes
  wallet_key_view key =
      any_filter (λ node. bytes_eq (owner_of_node node).key key) (λ node. is_wallet_role node.role) node_in scene.nodes

  pub wallet_seed_view : (seed : List ℕ)
      → is_wallet_seed (world_of scene) seed ≡ list_any (has_wallet_seed seed) scene.nodes
  wallet_seed_view seed =
      any_filter (λ node. bytes_eq (who_is node.notes).seed seed) (λ node. is_wallet_role node.role) node_in
      scene.nodes

  pub declared_account_view : (account : ℕ) → is_declared_account (world_of scene) account
      ≡ (list_any (is_view_with account) scene.nodes || list_any (is_rogue_with account) scene.rogues)
  declared_account_view account =
      ap (λ found. found || list_any (is_rogue_with account) scene.rogues)
      (any_map (λ node. node.account == account) node_in scene.nodes)

-- an account is among those of `call` lines, whichever way they are counted
pub callers_reversed : (account : ℕ) (callers : List ℕ)
    → list_any (is_same_account account) (reverse callers) ≡ list_any (is_same_account account) callers
callers_reversed account callers = any_reverse (is_same_account account) callers
