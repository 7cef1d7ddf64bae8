-- What is kept of nodes stays true of them.
use Rattle.world_scene.proofs.Words.{◌≡◌, refl, sym, ap, subst, ◌∙◌, ℕ, Bool, true, false, ◌&&◌, List, [], ◌∷◌, ◌++◌, map, filter, length, Some, None, option_map, slice_get, slice_set, slice_index_or, position, list_any, bytes_eq, map-set_same, and_parts, map-append, length-map, filter-append, none-some, slice_get-map, bytes_eq-Decides, is_wallet_account, wallet_nodes, Roles, Places, passes, is_named_view, is_same_account, place_in, PutsPlace, FindsEach, NodeView, Declared, declared_as, SceneState, world_of}
use Rattle.world_scene.specs.Indexed.{all_declared, is_wallet_there, wallet_accounts, IsIndexed}
use Rattle.world_scene.proofs.Finding.{none_passes, none_named, none_there, other_there, found_there, finds_more}
use Rattle.world_scene.proofs.Views.{position_map, any_map, any_filter, count_filter, wallets_view, wallet_account_view}

-- ---- looking up

-- a node with the name, and a role that passes, of what it was declared as
abbrev is_named_there : Roles → List ℕ → Declared → Bool
is_named_there may name declared = bytes_eq declared.name name && passes may declared.role

module _ {H : Type 0} (places : Places) (views : List (NodeView H))
    (finds : FindsEach places (λ declared. declared.name) (all_declared views)) (may : Roles) (name : List ℕ) where
  has_name : (declared : Declared) → is_named_there may name declared ≡ true → declared.name ≡ name
  has_name declared is =
      (bytes_eq-Decides declared.name name).0
      (and_parts (bytes_eq declared.name name) (passes may declared.role) is).0

  of_views : position (is_named_there may name) (all_declared views) ≡ position (is_named_view may name) views
  of_views = position_map (is_named_there may name) (λ (view : NodeView H). declared_as view.node) views

  of_view : (n : ℕ) → slice_get (all_declared views) n
      ≡ option_map (λ (view : NodeView H). declared_as view.node) (slice_get views n)
  of_view n = slice_get-map (λ (view : NodeView H). declared_as view.node) views n

  pub no_place : place_in places name ≡ None → position (is_named_view may name) views ≡ None
  no_place none =
      sym of_views
      ∙ none_named (place_in places) (λ declared. declared.name) (all_declared views) finds name
      (is_named_there may name) has_name none

  module _ (n : ℕ) (placed : place_in places name ≡ Some n) where
    pub no_node : slice_get views n ≡ None → position (is_named_view may name) views ≡ None
    no_node none =
        sym of_views
        ∙ none_there (place_in places) (λ declared. declared.name) (all_declared views) finds name
        (is_named_there may name) has_name n
        placed (of_view n ∙ ap (option_map (λ (view : NodeView H). declared_as view.node)) none)

    module _ (view : NodeView H) (at : slice_get views n ≡ Some view) where
      stands : slice_get (all_declared views) n ≡ Some (declared_as view.node)
      stands = of_view n ∙ ap (option_map (λ (view : NodeView H). declared_as view.node)) at

      pub other_node : is_named_view may name view ≡ false → position (is_named_view may name) views ≡ None
      other_node fails =
          sym of_views
          ∙ other_there (place_in places) (λ declared. declared.name) (all_declared views) finds name
          (is_named_there may name) has_name n
          placed (declared_as view.node) stands fails

      pub that_node : is_named_view may name view ≡ true → position (is_named_view may name) views ≡ Some n
      that_node passes' =
          sym of_views
          ∙ found_there (place_in places) (λ declared. declared.name) (all_declared views) finds name
          (is_named_there may name) has_name n
          placed (declared_as view.node) stands passes'

-- ---- one more node

with_true : (b : Bool) → b ≡ (b && true)
with_true true = refl
with_true false = refl

accounts_more : (all : List Declared) (declared : Declared)
    → wallet_accounts (all ++ declared ∷ []) ≡ wallet_accounts all ++ wallet_accounts (declared ∷ [])
accounts_more all declared =
    ap (map (λ (one : Declared). one.account)) (filter-append is_wallet_there all (declared ∷ []))
    ∙ map-append (λ (one : Declared). one.account) (filter is_wallet_there all) (filter is_wallet_there (declared ∷ []))

-- the places of names are others that say the same
pub places_same : (old new : Places) (accounts : List ℕ) (all : List Declared)
    → ((name : List ℕ) → place_in new name ≡ place_in old name) → IsIndexed old accounts all
    → IsIndexed new accounts all
places_same old new accounts all same it = record {
  names = λ n declared at. same declared.name ∙ it.names n declared at;
  wallets = it.wallets;
}

-- nothing is kept of no node
pub no_nodes : {H : Type 0} (places : Places) (accounts : List ℕ) (views : List (NodeView H)) → accounts ≡ []
    → views ≡ [] → IsIndexed places accounts (all_declared views)
no_nodes places accounts views no_accounts none =
    subst (λ all. IsIndexed places accounts (all_declared all)) (sym none) (record {
      names = λ n declared at. absurd (none-some declared at);
      wallets = no_accounts;
    })

pub one_more : {H : Type 0} (old new : Places) (accounts more : List ℕ) (views : List (NodeView H)) (view : NodeView H)
    → PutsPlace old view.node.name (length views) new
    → position (is_named_view Roles.Any view.node.name) views ≡ None
    → more ≡ accounts ++ wallet_accounts (declared_as view.node ∷ [])
    → IsIndexed old accounts (all_declared views)
    → IsIndexed new more (all_declared (views ++ view ∷ []))
one_more {H} old new accounts more views view puts fresh accounts_are it =
    let declare = λ (one : NodeView H). declared_as one.node in
    subst (IsIndexed new more) (sym (map-append declare views (view ∷ []))) (record {
      names = finds_more old new (λ declared. declared.name) (all_declared views) (declared_as view.node) it.names
          (subst (λ n. PutsPlace old view.node.name n new) (sym (length-map views declare)) puts)
          (λ n found at. with_true (bytes_eq found.name view.node.name)
          ∙ none_passes (is_named_there Roles.Any view.node.name) (all_declared views)
          (position_map (is_named_there Roles.Any view.node.name) declare views ∙ fresh) n found at);
      wallets = accounts_are
          ∙ ap (λ before. before ++ wallet_accounts (declared_as view.node ∷ [])) it.wallets
          ∙ sym (accounts_more (all_declared views) (declared_as view.node));
    })

-- ---- what is done with a node

-- a node that was declared as the one whose place it takes
pub put_index : {H : Type 0} (places : Places) (accounts : List ℕ) (views : List (NodeView H)) (n : ℕ)
    (before after : NodeView H) → before ≡ slice_index_or views n before
    → declared_as after.node ≡ declared_as before.node
    → IsIndexed places accounts (all_declared views) → IsIndexed places accounts (all_declared (slice_set views n after))
put_index places accounts views n before after is same it =
    let declare = λ (view : NodeView _). declared_as view.node in
    subst (IsIndexed places accounts) (sym (map-set_same declare views n after before (same ∙ ap declare is))) it

-- ---- wallets

module _ {H : Type 0} (scene : SceneState H) where
  -- as many accounts as wallets
  pub wallets_counted : length (wallet_accounts (all_declared scene.nodes)) ≡ length (wallet_nodes (world_of scene))
  wallets_counted =
      length-map (filter is_wallet_there (all_declared scene.nodes)) (λ (declared : Declared). declared.account)
      ∙ count_filter is_wallet_there (λ (view : NodeView H). declared_as view.node) scene.nodes
      ∙ sym (wallets_view scene)

  -- an account is among them where it is a wallet's
  pub account_listed : (account : ℕ) → list_any (is_same_account account) (wallet_accounts (all_declared scene.nodes))
      ≡ is_wallet_account (world_of scene) account
  account_listed account =
      any_map (is_same_account account) (λ (declared : Declared). declared.account)
      (filter is_wallet_there (all_declared scene.nodes))
      ∙ any_filter (λ (declared : Declared). is_same_account account declared.account) is_wallet_there
      (λ (view : NodeView H). declared_as view.node) scene.nodes
      ∙ sym (wallet_account_view scene account)
