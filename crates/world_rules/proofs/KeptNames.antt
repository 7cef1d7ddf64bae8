-- What each line of a run keeps: nodes have names of their own, declared wallets stay with their owners, and accepted
-- bundles are of coins that the log has.
use Rattle.world_rules.proofs.Basics.{◌≡◌, ℕ, ◌==◌, Bool, true, false, if◌then◌else◌, List, [], ◌∷◌, ◌++◌, length, slice_get, Some, refl, ap, subst, arith, list_any, eqb-true, or_cases, and_parts, false≢true, common_steps}
use Rattle.world_rules.proofs.CoinWords.{Owner, RootCall, Bundle}
use Rattle.world_rules.proofs.WorldWords.{Event, Declares, Joins, Accepts, log_of, wallet_owner, accepted, is_bundle, Wallet}
use Rattle.world_rules.proofs.HeldTips.{OwnersStay, IsCoin, coin-stays}
use Rattle.world_rules.proofs.Named.{Card, IsOther, AreDistinct, distinct-push, stays-at, last-at, none-past}

-- ---- events that declare nothing, join nothing and accept nothing

abbrev pub is_plain : Event → Bool
is_plain (Declares w me) = false
is_plain (Joins call) = false
is_plain (Accepts w bundle) = false
is_plain event = true

plain-log : (event : Event) (events : List Event) → is_plain event ≡ true → log_of (event ∷ events) ≡ log_of events
unfolding log_of
plain-log event events plain = grind (arith, common_steps, false≢true)

plain-owner : (event : Event) (events : List Event) (w : ℕ) → is_plain event ≡ true
    → wallet_owner (event ∷ events) w ≡ wallet_owner events w
unfolding wallet_owner
plain-owner event events w plain = grind (arith, common_steps, false≢true)

plain-accepted : (event : Event) (events : List Event) (w : ℕ) → is_plain event ≡ true
    → accepted (event ∷ events) w ≡ accepted events w
unfolding accepted
plain-accepted event events w plain = grind (arith, common_steps, false≢true)

-- ---- what is kept

-- the node is a wallet
pub record IsWallet (nodes : List Card) (w : ℕ) : Type 0 where
  pub name : List ℕ
  pub is : slice_get nodes w ≡ Some (record { name = name; role = Wallet })

pub record Kept (nodes : List Card) (log : List RootCall) (events : List Event) : Type 0 where
  pub log_is : log ≡ log_of events
  pub distinct : AreDistinct nodes
  pub wallets : (w : ℕ) (me : Owner) → wallet_owner events w ≡ Some me → IsWallet nodes w
  pub stay : OwnersStay events
  pub known : (w c e : ℕ) → list_any (is_bundle c e) (accepted events w) ≡ true → IsCoin (log_of events) c

coin-kept : (event : Event) (events : List Event) (c : ℕ) → IsCoin (log_of events) c
    → IsCoin (log_of (event ∷ events)) c
coin-kept event events c coin = record { made = coin.made; is = coin-stays event events c coin.made coin.is }

module _ (nodes : List Card) (log : List RootCall) (events : List Event) (kept : Kept nodes log events) where
  kept-plain : (event : Event) → is_plain event ≡ true → Kept nodes log (event ∷ events)
  kept-plain event plain = grind (arith, common_steps, plain-log, plain-owner, coin-kept, plain-accepted)

  kept-joins : (call : RootCall) → Kept nodes (call ∷ log) (Joins call ∷ events)
  unfolding log_of wallet_owner accepted
  kept-joins call = record {
    log_is = ap (λ (calls : List RootCall). call ∷ calls) kept.log_is;
    distinct = kept.distinct;
    wallets = kept.wallets;
    stay = (λ w me is. is, kept.stay);
    known = λ w c e is. coin-kept (Joins call) events c (kept.known w c e is);
  }

  kept-accepts : (n : ℕ) (bundle : Bundle) → IsCoin log bundle.coin → Kept nodes log (Accepts n bundle ∷ events)
  unfolding log_of wallet_owner accepted
  kept-accepts n bundle coin = grind (arith, common_steps, or_cases, eqb-true, and_parts)

  -- a node is declared
  grown : (new : Card) (w : ℕ) → IsWallet nodes w → IsWallet (nodes ++ new ∷ []) w
  grown new w wallet = grind (arith, common_steps, stays-at)

  kept-node : (new : Card) → IsOther new.name nodes → Kept (nodes ++ new ∷ []) log events
  kept-node new other = grind (arith, common_steps, distinct-push, grown)

  -- a wallet is declared
  kept-declares : (name : List ℕ) (me : Owner) → IsOther name nodes
      → Kept (nodes ++ record { name = name; role = Wallet } ∷ []) log (Declares (length nodes) me ∷ events)
  unfolding log_of wallet_owner accepted
  kept-declares name me other = grind (arith, common_steps, distinct-push, at, old)
    where
      at : (w : ℕ) (who : Owner) (b : Bool) → (length nodes == w) ≡ b
          → (if b then Some me else wallet_owner events w) ≡ Some who
          → IsWallet (nodes ++ record { name = name; role = Wallet } ∷ []) w
      at w who true here is =
          subst (IsWallet (nodes ++ record { name = name; role = Wallet } ∷ [])) (eqb-true (length nodes) w here)
          (record { name = name; is = last-at nodes (record { name = name; role = Wallet }) })
      at w who false apart is = grown (record { name = name; role = Wallet }) w (kept.wallets w who is)

      old : (w : ℕ) (who : Owner) → wallet_owner events w ≡ Some who → (b : Bool) → (length nodes == w) ≡ b
          → (if b then Some me else wallet_owner events w) ≡ Some who
      old w who is true here = grind (arith, common_steps, none-past, eqb-true)
      old w who is false apart = is

-- ---- moves

-- what a line does to the nodes' names and roles and to the log, with its event
pub data Move (nodes after : List Card) (log longer : List RootCall) (event : Event) : Type 0 where
  Rests : after ≡ nodes → longer ≡ log → is_plain event ≡ true → Move nodes after log longer event
  Enters : (call : RootCall) → after ≡ nodes → longer ≡ call ∷ log → event ≡ Joins call
      → Move nodes after log longer event
  Takes : (n : ℕ) (bundle : Bundle) → after ≡ nodes → longer ≡ log → event ≡ Accepts n bundle
      → IsCoin log bundle.coin → Move nodes after log longer event
  Adds : (new : Card) → after ≡ nodes ++ new ∷ [] → longer ≡ log → is_plain event ≡ true → IsOther new.name nodes
      → Move nodes after log longer event
  AddsWallet : (name : List ℕ) (me : Owner) → after ≡ nodes ++ record { name = name; role = Wallet } ∷ []
      → longer ≡ log → event ≡ Declares (length nodes) me → IsOther name nodes → Move nodes after log longer event

moved : {after : List Card} {longer : List RootCall} {event : Event} {events : List Event} (nodes : List Card)
    (log : List RootCall) (other : Event) → after ≡ nodes → longer ≡ log → event ≡ other
    → Kept nodes log (other ∷ events) → Kept after longer (event ∷ events)
moved {after} {longer} {event} {events} nodes log other nodes_are log_is event_is kept = grind (arith, common_steps)

pub kept-move : (nodes after : List Card) (log longer : List RootCall) (event : Event) (events : List Event)
    → Move nodes after log longer event → Kept nodes log events → Kept after longer (event ∷ events)
kept-move nodes after log longer event events (Rests nodes_are log_is plain) kept =
    moved nodes log event nodes_are log_is refl (kept-plain nodes log events kept event plain)
kept-move nodes after log longer event events (Enters call nodes_are log_is event_is) kept =
    moved nodes (call ∷ log) (Joins call) nodes_are log_is event_is (kept-joins nodes log events kept call)
kept-move nodes after log longer event events (Takes n bundle nodes_are log_is event_is coin) kept =
    moved nodes log (Accepts n bundle) nodes_are log_is event_is (kept-accepts nodes log events kept n bundle coin)
kept-move nodes after log longer event events (Adds new nodes_are log_is plain other) kept =
    moved (nodes ++ new ∷ []) log event nodes_are log_is refl
    (kept-plain (nodes ++ new ∷ []) log events (kept-node nodes log events kept new other) event plain)
kept-move nodes after log longer event events (AddsWallet name me nodes_are log_is event_is other) kept =
    moved (nodes ++ record { name = name; role = Wallet } ∷ []) log (Declares (length nodes) me) nodes_are log_is
    event_is (kept-declares nodes log events kept name me other)
