-- The wallets that were declared and the bodies that their leaves bound.
use Rattle.std.specs.Prelude.{◌≡◌, ℕ, ◌-◌, ◌==◌, ◌&&◌, not, Bool, false, List, [], ◌∷◌, length, take, find, nat_eq, Option, option_map, Vec}
use Rattle.std.specs.List.{list_any}
use Rattle.std.specs.HashMap.{HashMap, get}
use Rattle.std.specs.Option.{option_map_or}
use Rattle.plasma_tx.specs.declared.owner.Owner.{Owner}
use Rattle.plasma_tx.specs.declared.body.Body.{Body}
use Rattle.plasma_tx.specs.declared.signed_tx.SignedTx.{SignedTx}
use Rattle.plasma_tx.specs.Transfer.{is_signed_by}
use Rattle.world_rules.specs.Events.{Event, Declares, wallet_owner, wallets, bound_by}
use Rattle.world_rules.specs.Exhibits.{is_same_body, forges_one}
use Rattle.trace_exhibits.specs.Opened.{Opened}
use Rattle.trace_exhibits.specs.declared.wallets.Declared.{Declared}
use Rattle.trace_exhibits.specs.declared.wallets.Bound.{Bound}
use Rattle.trace_exhibits.specs.declared.wallets.Known.{Known}

-- the wallets that events declared, the newest first
unfoldable pub declared_in : List Event → List Declared
declared_in [] = []
declared_in (Declares w me ∷ events) = record { wallet = w; owner = me } ∷ declared_in events
declared_in (event ∷ events) = declared_in events

-- who a wallet is, by its newest declaration
abbrev pub owner_in : List Declared → ℕ → Option Owner
owner_in declared w = option_map (λ one. one.owner) (find (λ one. one.wallet == w) declared)

-- the bodies of a coin that were bound
abbrev pub bodies_of : {A S : Type 0} → HashMap ℕ (Vec Bound A) S → ℕ → List Bound
bodies_of bodies coin = option_map_or (λ these. these.items) (get nat_eq bodies coin) []

-- a leaf of the wallet bound the body, which is one of these
abbrev pub is_bound_in : List Bound → ℕ → Body → Bool
is_bound_in bodies w body = list_any (λ one. (one.wallet == w) && is_same_body body one.body) bodies

-- the wallet signed the transfer, whose body no leaf of it bound
abbrev pub signs_unbound : List Declared → List Bound → SignedTx → ℕ → Bool
signs_unbound declared bodies tx w =
    option_map_or (λ me. is_signed_by tx me && not (is_bound_in bodies w tx.body)) (owner_in declared w) false

-- what is kept is what the events declared and bound
pub record KeepsWallets (events : List Event) (known : Known) : Type 0 where
  pub declared : known.declared.items ≡ declared_in events
  pub bound : (w : ℕ) (body : Body)
      → is_bound_in (bodies_of known.bodies body.coin) w body ≡ list_any (is_same_body body) (bound_by events w)

-- the wallet is one of these
abbrev pub is_wallet_in : List ℕ → ℕ → Bool
is_wallet_in wallets w = list_any (λ v. v == w) wallets

-- the wallets that events declared since there were so many, the newest first
abbrev pub wallets_since : ℕ → List Event → List ℕ
wallets_since count events = take (length (wallets events) - count) (wallets events)

-- behind events the opening shows a forgery of the wallet's signature
abbrev pub forges_by : List ℕ → List Event → Opened → ℕ → Bool
forges_by tag events one w = forges_one tag (wallet_owner events w) (bound_by events w) one.coin (one.opening ∷ [])

-- the same of some wallet, and of some that was declared since there were so many
abbrev pub is_forged_in : List ℕ → List Event → Opened → Bool
is_forged_in tag events one = list_any (forges_by tag events one) (wallets events)

abbrev pub is_forged_since : List ℕ → ℕ → List Event → Opened → Bool
is_forged_since tag count events one = list_any (forges_by tag events one) (wallets_since count events)
