-- Who the nodes are, what they offer, and that all of it stays: the first of a node's notes is its identity, whose
-- tag is the chain's and whose account is the node's; events say who the wallets are, and of no other node.
use Rattle.world_laws.proofs.Basics.{◌≡◌, ℕ, ◌<◌, ◌^◌, Bool, true, false, if◌then◌else◌, List, [], ◌∷◌, length, Option, Some, None, ap, slice_get, arith, refl, list_any, eq-eqb, common_steps, some_same, none_some}
use Rattle.world_laws.proofs.CoinWords.{is_supported, Owner, RootCall, Has}
use Rattle.world_laws.proofs.NodeWords.{WalletIdentity, wallet_text, owner_of, who_is_wallet, IsWalletIdentity, WatcherIdentity, watcher_text, who_is_watcher, IsWatcherIdentity, with_record}
use Rattle.world_laws.proofs.WorldWords.{Event, Declares, wallet_owner, node_in, is_command_of, Role, Wallet, Watcher, Operator, Node, World, is_wallet_role, owner_of_node, Said, said, is_said_of, said-other, IsOfChain, starts_by, deposits_by}
use Rattle.node_rules.proofs.WalletTexts.{identity_in-text as wallet-read}
use Rattle.node_rules.proofs.WatcherTexts.{identity_in-text as watcher-read}

-- ---- who a node is

pub record IsWallet (events : List Event) (tag : List ℕ) (n : ℕ) (node : Node) : Type 0 where
  pub who : WalletIdentity
  pub identity : IsWalletIdentity who
  pub first : slice_get node.notes 0 ≡ Some (wallet_text who)
  pub tag_is : who.tag ≡ tag
  pub account_is : who.account ≡ node.account
  pub owner : wallet_owner events n ≡ Some (owner_of who)

pub record IsWatcher (events : List Event) (tag : List ℕ) (n : ℕ) (node : Node) : Type 0 where
  pub who : WatcherIdentity
  pub identity : IsWatcherIdentity who
  pub first : slice_get node.notes 0 ≡ Some (watcher_text who)
  pub tag_is : who.tag ≡ tag
  pub account_is : who.account ≡ node.account
  pub owner : wallet_owner events n ≡ None

abbrev pub IsOfRole : List Event → List ℕ → ℕ → Node → Role → Type 0
IsOfRole events tag n node Wallet = IsWallet events tag n node
IsOfRole events tag n node Watcher = IsWatcher events tag n node
IsOfRole events tag n node Operator = wallet_owner events n ≡ None

-- a wallet's notes say who it is, and so do a watcher's
pub wallet-who : (notes : List (List ℕ)) (who : WalletIdentity) → IsWalletIdentity who
    → slice_get notes 0 ≡ Some (wallet_text who) → who_is_wallet notes ≡ who
unfolding who_is_wallet
wallet-who notes who identity first = grind (arith, common_steps, none_some, some_same, wallet-read)

pub watcher-who : (notes : List (List ℕ)) (who : WatcherIdentity) → IsWatcherIdentity who
    → slice_get notes 0 ≡ Some (watcher_text who) → who_is_watcher notes ≡ who
unfolding who_is_watcher
watcher-who notes who identity first = grind (arith, common_steps, none_some, some_same, watcher-read)

-- who the wallet is that a node is
pub wallet-node : (events : List Event) (tag : List ℕ) (n : ℕ) (node : Node) → IsWallet events tag n node
    → (wallet_owner events n ≡ Some (owner_of_node node)) × ((owner_of_node node).account ≡ node.account)
    × ((who_is_wallet node.notes).tag ≡ tag)
unfolding owner_of
wallet-node events tag n node is = grind (arith, common_steps, wallet-who)

-- ---- what a node offers

-- no deposit, and no start of an exit but by a wallet's own account
pub record IsOffer (node : Node) (call : RootCall) : Type 0 where
  pub deposits : (account : ℕ) → deposits_by account call ≡ false
  pub starts : (account : ℕ) → starts_by account call ≡ true
      → (is_wallet_role node.role ≡ true) × (node.account ≡ account)

pub record IsNode (events : List Event) (tag : List ℕ) (n : ℕ) (node : Node) : Type 0 where
  pub is : IsOfRole events tag n node node.role
  pub offers : (call : RootCall) → Has node.offers call → IsOffer node call

-- each node is so, and of what isn't there nothing is said
abbrev pub IsNodeAt : List Event → List ℕ → ℕ → Option Node → Type 0
IsNodeAt events tag n None = (wallet_owner events n ≡ None) × (list_any (is_command_of n) events ≡ false)
IsNodeAt events tag n (Some node) = IsNode events tag n node

-- ---- one more event

pub owner-new : (w n : ℕ) (me : Owner) (events : List Event) → w ≡ n
    → wallet_owner (Declares w me ∷ events) n ≡ Some me
unfolding wallet_owner
owner-new w n me events same = ap (λ (b : Bool). if b then Some me else wallet_owner events n) (eq-eqb w n same)

-- who owns what isn't said by what says nothing of it
pub owner-same : (event : Event) (events : List Event) (n : ℕ) → is_said_of n event ≡ false
    → wallet_owner (event ∷ events) n ≡ wallet_owner events n
unfolding said
owner-same event events n silent = ap (λ (s : Said). s.owner) (said-other event events n silent)

-- nor by a node's own event
pub owner-own : (event : Event) (events : List Event) (m n : ℕ) → node_in event ≡ Some m
    → wallet_owner (event ∷ events) n ≡ wallet_owner events n
unfolding wallet_owner
owner-own (Declares w me) events m n is = absurd (none_some m is)
owner-own event events m n is = refl

-- a node stays what it is where events say the same of it, and where its records grow
pub role-stays : (events more : List Event) (tag : List ℕ) (n : ℕ) (node after : Node) (role : Role)
    → wallet_owner more n ≡ wallet_owner events n → after.account ≡ node.account
    → ((body : List ℕ) → slice_get node.notes 0 ≡ Some body → slice_get after.notes 0 ≡ Some body)
    → IsOfRole events tag n node role → IsOfRole more tag n after role
role-stays events more tag n node after role same account first is = grind (arith, common_steps)

-- so does what isn't there
pub node-same : (events more : List Event) (tag : List ℕ) (n : ℕ) (found : Option Node)
    → wallet_owner more n ≡ wallet_owner events n
    → (list_any (is_command_of n) events ≡ false → list_any (is_command_of n) more ≡ false)
    → IsNodeAt events tag n found → IsNodeAt more tag n found
node-same events more tag n found same unused is = grind (arith, common_steps, role-stays)

pub first-recorded : (notes : List (List ℕ)) (note : Option (List ℕ)) (body : List ℕ) → slice_get notes 0 ≡ Some body
    → slice_get (with_record notes note) 0 ≡ Some body
first-recorded notes None body is = is
first-recorded [] (Some more) body is = absurd (none_some body is)
first-recorded (first ∷ rest) (Some more) body is = is

-- ---- identities of the lines

pub wallet-identity : (world : World) (who : WalletIdentity) → length world.chain.tag ≡ 32 → IsOfChain world who
    → (who.account < 2 ^ 64) × (is_supported who.types ≡ true) → IsWalletIdentity who
wallet-identity world who long of fit = grind (arith, common_steps)
