-- What holds in the world of every run behind its events: who the nodes are, what they offer, and whose accounts the
-- log's calls move.
use Rattle.world_laws.proofs.Basics.{◌≡◌, ℕ, ◌==◌, true, false, if◌then◌else◌, List, [], ◌∷◌, ◌++◌, length, Option, Some, None, inl, inr, refl, sym, ap, ◌∙◌, subst, set, slice_get, le_refl, arith, rules, list_any, and_parts, or_parts, or_left, or_right, not-true, eqb-true, false≢true, slice_get_past, common_steps, some_same, none_some, got-has}
use Rattle.world_laws.proofs.CoinWords.{RootCall, Rules, tests_by, rules_of, answer_to, is_accepted, log_after, Has}
use Rattle.world_laws.proofs.NodeWords.{WalletIdentity, wallet_text, who, who_is, WatcherIdentity, watcher_text, NodeOrder}
use Rattle.world_laws.proofs.WorldWords.{option_map_some, Line, CallForm, Event, Idle, wallet_owner, node_in, is_command_of, Wallet, Node, World, is_wallet_role, is_watcher_role, owner_of_node, wallet_of, call_of, Watcher, is_declared_account, is_caller, may_be_wallet, Deed, new_node, offer_numbered, Run, events_of, begun, Place, NewWallet, NewWatcher, NewRogue, Origin, Plain, Deposits, Raw, Offered, Act, Adds, Enters, Orders, Crashes, callers_after, End, Whole, Crashed, Kept, Lost, node_after, event_after, deed_at, done, IsThere, is_plain, IsFrom, MayOrder, IsActIn, IsFitAct, line_effect, begun, change_of, EachNode, IsOther, IsKeptOwn, each_node_keeps, OperatorIsFirst, by-end, commands-others, said-others, rules-stay, IsRun}
use Rattle.world_rules.proofs.Same.{IsSame, same-after}
use Rattle.world_laws.proofs.Acts.{over_events}
use Rattle.world_laws.proofs.Holders.{holder, holders, IsHeld, holder-wallet, holder-at, holders-set, holders-push, held-declared, Moves, IsKnown, KeepAccounts, accounts-push, accounts-callers, accounts-call}
use Rattle.world_laws.proofs.Identities.{IsOfRole, IsWallet, IsWatcher, IsNode, IsNodeAt, IsOffer, wallet-node, watcher-who, owner-same, owner-own, owner-new, role-stays, node-same, first-recorded, wallet-identity}
use Rattle.world_laws.proofs.DeedOffers.{order-offers}

pub record Keeps (events : List Event) (world : World) : Type 0 where
  pub nodes : EachNode (IsNodeAt events world.chain.tag) world.nodes
  pub accounts : KeepAccounts (holders world.nodes) world.raw_callers world.chain.log

pub holder-is : (nodes : List Node) (n : ℕ) (node : Node) (account : ℕ) → slice_get nodes n ≡ Some node
    → is_wallet_role node.role ≡ true → node.account ≡ account → slice_get (holders nodes) n ≡ Some (Some account)
holder-is nodes n node account is role same =
    holder-at nodes n node is ∙ ap Some (holder-wallet node role ∙ ap Some same)

pub held-by : (nodes : List Node) (n : ℕ) (node : Node) (account : ℕ) → slice_get nodes n ≡ Some node
    → is_wallet_role node.role ≡ true → node.account ≡ account → IsHeld (holders nodes) account
held-by nodes n node account is role same = (n, holder-is nodes n node account is role same)

-- money that comes in and the time move no account
pub plain-moves : (call : RootCall) (account : ℕ) → is_plain call ≡ true → Moves account call → ⊥
plain-moves call account plain moves = grind (arith, common_steps, false≢true)

pub offered-has : (number : ℕ) (node : Node) (call : RootCall) → offer_numbered number node ≡ Some call
    → Has node.offers call
offered-has number node call is = grind (arith, common_steps, got-has)

-- a stranger's call moves its own account
pub raw-moves : (world : World) (account : ℕ) (form : CallForm) (call : RootCall) (by : ℕ)
    → call_of world account form ≡ Some call → Moves by call → (account == by) ≡ true
raw-moves world account form call by is moves = grind (arith, common_steps, option_map_some, false≢true, some_same)

module _ (events : List Event) (world : World) (keeps : Keeps events world) where
  -- the node that is there
  pub node-at : (n : ℕ) (node : Node) → slice_get world.nodes n ≡ Some node → IsNode events world.chain.tag n node
  node-at n node is = subst (IsNodeAt events world.chain.tag n) is (keeps.nodes n)

  -- of what isn't there nothing is said, so of the next node
  pub not-there : (n : ℕ) → slice_get world.nodes n ≡ None
      → (wallet_owner events n ≡ None) × (list_any (is_command_of n) events ≡ false)
  not-there n none = subst (IsNodeAt events world.chain.tag n) none (keeps.nodes n)

  pub next-unknown : (wallet_owner events (length world.nodes) ≡ None)
      × (list_any (is_command_of (length world.nodes)) events ≡ false)
  next-unknown =
      not-there (length world.nodes) (slice_get_past world.nodes (length world.nodes) (le_refl (length world.nodes)))

  -- who a wallet's node is
  pub is-wallet : (n : ℕ) (node : Node) → slice_get world.nodes n ≡ Some node → is_wallet_role node.role ≡ true
      → IsWallet events world.chain.tag n node
  is-wallet n node is role = grind (arith, common_steps, node-at, false≢true)

  -- and a watcher's, and its tag
  pub is-watcher : (n : ℕ) (node : Node) → slice_get world.nodes n ≡ Some node → is_watcher_role node.role ≡ true
      → IsWatcher events world.chain.tag n node
  is-watcher n node is role = grind (arith, common_steps, node-at, false≢true)

  pub watcher-tag : (n : ℕ) (node : Node) → slice_get world.nodes n ≡ Some node → is_watcher_role node.role ≡ true
      → (who_is node.notes).tag ≡ world.chain.tag
  watcher-tag n node is role =
      let own = is-watcher n node is role in
      ap (λ (w : WatcherIdentity). w.tag) (watcher-who node.notes own.who own.identity own.first) ∙ own.tag_is

  -- the account of a wallet's owner is its node's
  pub own-account : (n : ℕ) (node : Node) → slice_get world.nodes n ≡ Some node → is_wallet_role node.role ≡ true
      → (owner_of_node node).account ≡ node.account
  own-account n node is role = (wallet-node events world.chain.tag n node (is-wallet n node is role)).1

  -- the tag of a wallet's node is the chain's
  pub own-tag : (n : ℕ) (node : Node) → slice_get world.nodes n ≡ Some node → is_wallet_role node.role ≡ true
      → (who (wallet_of node)).tag ≡ world.chain.tag
  own-tag n node is role = (wallet-node events world.chain.tag n node (is-wallet n node is role)).2

  -- what a node there offers
  pub is-offer : (place : Place) (call : RootCall) → IsThere world place
      → (number : ℕ) × (offer_numbered number place.node ≡ Some call) → IsOffer place.node call
  is-offer place call there offered =
      (node-at place.number place.node there).offers call (offered-has offered.0 place.node call offered.1)

  -- what is entered moves a known account
  from-known : (call : RootCall) (origin : Origin) → IsFrom world call origin → (account : ℕ) → Moves account call
      → IsKnown (holders world.nodes) (callers_after world.raw_callers origin) account
  from-known call Plain plain account moves = absurd (plain-moves call account plain moves)
  from-known call (Deposits place) from account moves =
      elim (subst (Moves account) from.2.1 moves) [
        | inl own ↦
            let node : Node = place.node in
            inl (held-by world.nodes place.number node account from.0 from.1
            (sym (own-account place.number node from.0 from.1)
            ∙ eqb-true (owner_of_node node).account account own))
        | inr wrong ↦ absurd (false≢true wrong)
      ]
  from-known call (Raw by) from account moves =
      inr (or_left (by == account) (list_any (λ caller. caller == account) world.raw_callers)
      (raw-moves world by from.1.0 call account from.1.1 moves))
  from-known call (Offered place) from account (inl moves) =
      absurd (false≢true (sym ((is-offer place call from.0 from.1).deposits account) ∙ moves))
  from-known call (Offered place) from account (inr moves) =
      let start = (is-offer place call from.0 from.1).starts account moves in
      inl (held-by world.nodes place.number place.node account from.0 start.0 start.1)

  -- and the callers that there were stay
  from-callers : (origin : Origin) (account : ℕ) → list_any (λ caller. caller == account) world.raw_callers ≡ true
      → list_any (λ caller. caller == account) (callers_after world.raw_callers origin) ≡ true
  from-callers (Raw by) account is =
      or_right (by == account) (list_any (λ caller. caller == account) world.raw_callers) is
  from-callers origin account is = is

  -- the account that a wallet is declared with is new
  pub account-new : (name : List ℕ) (who : WalletIdentity) → may_be_wallet world name who ≡ true
      → (is_declared_account world who.account ≡ false) × (is_caller world who.account ≡ false)
  account-new name who may = grind (arith, common_steps, and_parts, or_parts, not-true)

  -- so no wallet has it
  pub not-held : (account : ℕ) → is_declared_account world account ≡ false → IsHeld (holders world.nodes) account → ⊥
  not-held account new held =
      false≢true (sym (or_parts (list_any (λ (node : Node). node.account == account) world.nodes) _ new).0
      ∙ held-declared world.nodes account held)

-- ---- each act

module _ (dig : List ℕ → List ℕ) (events : List Event) (world : World) (keeps : Keeps events world)
    (first : OperatorIsFirst world) (long : length world.chain.tag ≡ 32) where
  abbrev At : ℕ → Option Node → Type 0
  At = IsNodeAt events world.chain.tag

  -- of another node, or of none
  others-keep : (act : Act) → IsActIn world act → (m : ℕ) → IsOther world.nodes (change_of dig world act) m
      → (found : Option Node) → At m found → IsNodeAt ((done dig world act).event ∷ events) world.chain.tag m found
  others-keep act known m other found = grind (arith, common_steps, node-same, owner-same, said-others, commands-others)

  -- the node of an order, however it ends, and of a crash
  own-keeps : (place : Place) (event : Event) (after : Node) → node_in event ≡ Some place.number
      → IsSame place.node after
      → ((body : List ℕ) → slice_get place.node.notes 0 ≡ Some body → slice_get after.notes 0 ≡ Some body)
      → ((call : RootCall) → Has after.offers call → IsOffer place.node call)
      → At place.number (Some place.node) → IsNodeAt (event ∷ events) world.chain.tag place.number (Some after)
  own-keeps place event after by same body offers is = record {
    is = subst (IsOfRole (event ∷ events) world.chain.tag place.number after) (sym same.role)
        (role-stays events (event ∷ events) world.chain.tag place.number place.node after place.node.role
        (owner-own event events place.number place.number by) same.account body is.is);
    offers = grind (arith);
  }

  module _ (place : Place) (order : NodeOrder) (may : MayOrder world place order) where
    abbrev deed : Deed
    deed = deed_at dig world place order

    abbrev Ended : End → Type 0
    Ended end = At place.number (Some place.node)
        → IsNodeAt (event_after place.number deed end ∷ events) world.chain.tag place.number
        (Some (node_after place.node deed end))

    ended : (end : End) → Ended end
    ended end =
        own-keeps place (event_after place.number deed end) (node_after place.node deed end)
        (by-end dig world first place order may end).node (same-after place.node deed end) (body end) (offers end)
      where
        body : (end : End) (first : List ℕ) → slice_get place.node.notes 0 ≡ Some first
            → slice_get (node_after place.node deed end).notes 0 ≡ Some first
        body Lost first is = is
        body Whole first is = first-recorded place.node.notes deed.note first is
        body Crashed first is = first-recorded place.node.notes deed.note first is
        body Kept first is = first-recorded place.node.notes deed.note first is

        offers : (end : End) (call : RootCall) → Has (node_after place.node deed end).offers call
            → IsOffer place.node call
        offers Whole call has =
            order-offers dig world place order may call has
            (own-account events world keeps place.number place.node may.there)
        offers Crashed call none = absurd none
        offers Kept call none = absurd none
        offers Lost call none = absurd none

  own-kept : (act : Act) → IsActIn world act → IsFitAct act
      → IsKeptOwn At (IsNodeAt ((done dig world act).event ∷ events) world.chain.tag) world.nodes
      (change_of dig world act)
  unfolding done
  own-kept act known fit = grind (arith, common_steps, wallet-identity, owner-new, owner-same, ended, own-keeps)

  -- the accounts of a node that changes, but for its role and account
  same-accounts : (place : Place) (after : Node) → IsThere world place → IsSame place.node after
      → KeepAccounts (holders (set world.nodes place.number after)) world.raw_callers world.chain.log
  same-accounts place after there same =
      subst (λ (held : List (Option ℕ)). KeepAccounts held world.raw_callers world.chain.log)
      (sym (holders-set world.nodes place.number place.node after there
      (λ i. holder (record after { role = same.role i; account = same.account i })))) keeps.accounts

  new-accounts : (node : Node)
      → ((account : ℕ) → holder node ≡ Some account → IsHeld (holders world.nodes) account → ⊥)
      → KeepAccounts (holders (world.nodes ++ node ∷ [])) world.raw_callers world.chain.log
  new-accounts node other =
      subst (λ (held : List (Option ℕ)). KeepAccounts held world.raw_callers world.chain.log)
      (sym (holders-push world.nodes node))
      (accounts-push (holders world.nodes) (holder node) world.raw_callers world.chain.log other keeps.accounts)

  abbrev AccountsAfter : World → Type 0
  AccountsAfter after = KeepAccounts (holders after.nodes) after.raw_callers after.chain.log

  entered-accounts : (call : RootCall) (origin : Origin) → IsFrom world call origin
      → KeepAccounts (holders world.nodes) (callers_after world.raw_callers origin)
      (log_after (tests_by dig) (rules_of world.chain) world.chain.log call)
  unfolding log_after
  entered-accounts call origin from =
      (elim (is_accepted (answer_to (tests_by dig) (rules_of world.chain) world.chain.log call)) as (λ b.
      KeepAccounts (holders world.nodes) (callers_after world.raw_callers origin)
      (if b then call ∷ world.chain.log else world.chain.log)) [
        | true ↦
            accounts-call (holders world.nodes) (callers_after world.raw_callers origin) world.chain.log call
            (from-known events world keeps call origin from) longer
        | false ↦ longer
      ])
    where
      longer : KeepAccounts (holders world.nodes) (callers_after world.raw_callers origin) world.chain.log
      longer =
          accounts-callers (holders world.nodes) world.raw_callers (callers_after world.raw_callers origin)
          world.chain.log (from-callers events world keeps origin) keeps.accounts

  accounts-kept : (act : Act) → IsActIn world act → AccountsAfter (done dig world act).world
  unfolding done
  accounts-kept (Adds name (NewWallet who)) known =
      new-accounts (new_node Wallet name who.account (wallet_text who))
      (λ by is held. not-held events world keeps who.account (account-new events world keeps name who known.1).0
      (subst (IsHeld (holders world.nodes)) (sym (some_same who.account by is)) held))
  accounts-kept (Adds name (NewWatcher account)) known =
      new-accounts
      (new_node Watcher name account (watcher_text (record { tag = world.chain.tag; account = account })))
      (λ by is held. absurd (none_some by is))
  accounts-kept (Adds name (NewRogue who)) known = keeps.accounts
  accounts-kept (Enters origin call) known = entered-accounts call origin known
  accounts-kept (Orders place order cut) known = grind (arith, common_steps, same-accounts, same-after)
  accounts-kept (Crashes place) known =
      same-accounts place _ known (record { name = refl; account = refl; role = refl })
  accounts-kept act known = keeps.accounts

  pub act-keeps : (act : Act) → IsActIn world act → IsFitAct act
      → Keeps ((done dig world act).event ∷ events) (line_effect dig world act).world
  act-keeps act known fit = record {
    nodes = subst (λ (rules : Rules). EachNode (IsNodeAt ((done dig world act).event ∷ events) rules.tag)
        (done dig world act).world.nodes) (sym (rules-stay dig world act))
        (each_node_keeps At (IsNodeAt ((done dig world act).event ∷ events) world.chain.tag) dig world act known
        keeps.nodes (record { others = others-keep act known; own = own-kept act known fit }));
    accounts = accounts-kept act known;
  }

-- ---- every run

first-keeps : (tag operator most : ℕ) → Keeps (Idle ∷ []) (begun tag operator most).world
unfolding wallet_owner
first-keeps tag operator most = grind (arith, common_steps, begun)

-- what is kept in the world of every run
pub runs-keep : (dig : List ℕ → List ℕ) (lines : List Line) (run : Run) (world : World)
    → IsRun dig lines run world → Keeps (events_of run.entries) world
runs-keep dig =
    over_events dig Keeps (λ tag operator most fits. first-keeps tag operator most)
    (λ lines run world line act next keeps.
    act-keeps dig (events_of run.entries) world keeps next.first next.kept.frame.tag_long act next.known next.fit)
