-- What is known of the act of a line, in the world that it is done in.
use Rattle.std.specs.Prelude.{◌≡◌, ◌<◌, ℕ, Bool, true, false, List, slice_get, Some}
use Rattle.lms_sign.specs.Types.{leaf_count}
use Rattle.plasma_tx.specs.declared.call.RootCall.{RootCall}
use Rattle.schedule_text.specs.declared.call_form.CallForm.{CallForm}
use Rattle.node_rules.specs.declared.identity.WalletIdentity.{WalletIdentity}
use Rattle.node_replies.specs.declared.order.NodeOrder.{NodeOrder}
use Rattle.world_rules.specs.{World.{Role, World, is_wallet_role, is_watcher_role, is_operator_role, any_role, padded, owner_of_node, call_of}, Declarations.{may_be_wallet, may_be_other, is_wallet_account}}
use Rattle.world_rules.specs.{Steps.{deposit_by, offer_numbered}, Acts.{Place, Newcomer, NewWallet, NewWatcher, NewRogue, Origin, Plain, Deposits, Raw, Offered, Act, Rests, Signs, Adds, Enters, Orders, Crashes, is_down_for}}

-- the world has the node, under the number
abbrev pub IsThere : World → Place → Type 0
IsThere world place = slice_get world.nodes place.number ≡ Some place.node

-- the identity is one of the world's chain, with a seed that a number stands for
pub record IsOfChain (world : World) (who : WalletIdentity) : Type 0 where
  pub tag : who.tag ≡ world.chain.tag
  pub seed : ℕ
  pub is_seed : who.seed ≡ padded seed

-- who is declared may be
abbrev pub MayJoin : World → List ℕ → Newcomer → Type 0
MayJoin world name (NewWallet who) = IsOfChain world who × (may_be_wallet world name who ≡ true)
MayJoin world name (NewWatcher account) = may_be_other world name account ≡ true
MayJoin world name (NewRogue who) = IsOfChain world who × (may_be_other world name who.account ≡ true)

-- money comes in, or time goes on
abbrev pub is_plain : RootCall → Bool
is_plain (RootCall.Fund account amount) = true
is_plain (RootCall.Tick time) = true
is_plain call = false

-- the call comes from there
abbrev pub IsFrom : World → RootCall → Origin → Type 0
IsFrom world call Plain = is_plain call ≡ true
IsFrom world call (Deposits place) =
    IsThere world place × (is_wallet_role place.node.role ≡ true)
    × ((amount : ℕ) × (call ≡ deposit_by amount (owner_of_node place.node)))
IsFrom world call (Raw account) =
    (is_wallet_account world account ≡ false) × ((form : CallForm) × (call_of world account form ≡ Some call))
IsFrom world call (Offered place) =
    IsThere world place × ((number : ℕ) × (offer_numbered number place.node ≡ Some call))

-- which nodes have the order
abbrev pub has_order : NodeOrder → Role → Bool
has_order (NodeOrder.Wallet order) = is_wallet_role
has_order (NodeOrder.Watcher order) = is_watcher_role
has_order (NodeOrder.Operator order) = is_operator_role
has_order NodeOrder.Open = any_role

-- the node there has the order, and isn't down for it
pub record MayOrder (world : World) (place : Place) (order : NodeOrder) : Type 0 where
  pub there : IsThere world place
  pub role : has_order order place.node.role ≡ true
  pub is_up : is_down_for order place.node ≡ false

-- the act may be one of the world
abbrev pub IsActIn : World → Act → Type 0
IsActIn world (Rests reply) = Unit {0}
IsActIn world (Signs leaf body rogue) =
    (leaf < leaf_count rogue.secret.types) × (body.tag ≡ world.chain.tag)
IsActIn world (Adds name newcomer) = MayJoin world name newcomer
IsActIn world (Enters origin call) = IsFrom world call origin
IsActIn world (Orders place order cut) = MayOrder world place order
IsActIn world (Crashes place) = IsThere world place
