-- What is kept of nodes so that they needn't be gone through: where each is by its name, and the wallets' accounts.
use Rattle.std.specs.Prelude.{◌≡◌, ℕ, Bool, List, map, filter}
use Rattle.world_rules.specs.World.{is_wallet_role}
use Rattle.world_nodes.specs.Nodes.{NodeView, Declared, declared_as}
use Rattle.world_scene.specs.{declared.places.Places.{Places}, Places.{FindsEach}}

-- what nodes were declared as
abbrev pub all_declared : {H : Type 0} → List (NodeView H) → List Declared
all_declared views = map (λ view. declared_as view.node) views

abbrev pub is_wallet_there : Declared → Bool
is_wallet_there declared = is_wallet_role declared.role

-- the accounts of the wallets, in their order
abbrev pub wallet_accounts : List Declared → List ℕ
wallet_accounts all = map (λ declared. declared.account) (filter is_wallet_there all)

-- each is found by its name, and these are the wallets' accounts
pub record IsIndexed (places : Places) (accounts : List ℕ) (all : List Declared) : Type 0 where
  pub names : FindsEach places (λ declared. declared.name) all
  pub wallets : accounts ≡ wallet_accounts all
