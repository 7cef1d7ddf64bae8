-- What the world's step guarantees of each event, by the events before it: all that the promises stand on. Each run's
-- events are legal; the promises are proved over legal events.
use Rattle.std.specs.Prelude.{◌≡◌, ◌≢◌, ℕ, ◌≤◌, ◌==◌, ◌&&◌, ◌||◌, Bool, true, false, if◌then◌else◌, List, [], ◌∷◌, Option, Some, None}
use Rattle.std.specs.List.{Contains, list_any}
use Rattle.plasma_tx.specs.{declared.owner.Owner.{Owner}, declared.body.Body.{Body}, declared.links.Links.{Links}, declared.call.RootCall.{RootCall}, Links.{last_owner_of}, Views.{blocks, coin_at, exits_of, is_withdrawn}}
use Rattle.plasma_tx.specs.{Shown.{Tests, Rules}, Table.{answer_to, is_accepted}}
use Rattle.coin_history.specs.{declared.bundle.Bundle.{Bundle}, History.{IsHistory, IsAbsent}}
use Rattle.node_rules.specs.{Kept.{kept_links}, Wallet.{start_of}, Watcher.{due_for_kept}}
use Rattle.world_rules.specs.Events.{Event, Declares, Joins, Bounces, Accepts, Guards, Binds, TakesBack, Watches, Leaves, Seals, log_of, coin_of_call, wallet_owner, accepted, bound_by, leaf_at, signed_away_by, is_sent_from, is_bundle, guarded_by, is_command_of}
use Rattle.node_replies.specs.Orders.{exit_block}
use Rattle.world_rules.specs.Safety.{was_deposited, holds}
use Rattle.world_laws.specs.Headline.{is_start}

-- ---- wallets, and the starts of exits

-- the call starts an exit by this account
abbrev pub starts_by : ℕ → RootCall → Bool
starts_by by (RootCall.StartDeposit account coin block) = account == by
starts_by by (RootCall.StartSpend account coin parent exit) = account == by
starts_by by call = false

-- the call deposits a coin by this account
abbrev pub deposits_by : ℕ → RootCall → Bool
deposits_by by (RootCall.Deposit account amount key) = account == by
deposits_by by call = false

-- the starts that a wallet's leaves offered; a leave in a cut, whose node is down afterwards, offers none
unfoldable pub left_by : List Event → ℕ → List RootCall
left_by [] w = []
left_by (Leaves v call ∷ events) w = if v == w then call ∷ left_by events w else left_by events w
left_by (event ∷ events) w = left_by events w

-- one of the starts is of the coin's exit at e
abbrev pub is_left : List RootCall → ℕ → ℕ → Bool
is_left starts c e = list_any (λ call. (coin_of_call call == c) && (exit_block call == e)) starts

-- the wallet with this owner came to have the coin at e: it was deposited there to it, or accepted with that tip
abbrev pub is_tip : List Event → ℕ → Owner → ℕ → ℕ → Bool
is_tip events w me c e =
    was_deposited me e (coin_at (log_of events) c) || list_any (is_bundle c e) (accepted events w)

-- the wallet holds the coin at e, and came to have it at no later block
pub record IsAtTop (events : List Event) (w : ℕ) (me : Owner) (c e : ℕ) : Type 0 where
  pub held : holds events w c e ≡ true
  pub top : (n : ℕ) → is_tip events w me c n ≡ true → n ≤ e

-- what shows a wallet's coin up to a tip: a bundle that it accepted, or nothing at its own deposit
pub data ShowsTip (events : List Event) (w : ℕ) (me : Owner) (bundle : Bundle) : Type 0 where
  Taken : Contains (accepted events w) bundle → ShowsTip events w me bundle
  Bare : was_deposited me bundle.tip (coin_at (log_of events) bundle.coin) ≡ true → bundle.openings ≡ []
      → ShowsTip events w me bundle

-- ---- each kind of event

-- The node is new: it did nothing so far. By the wallet's account nobody deposited a coin or started an exit, and no
-- other wallet has it.
pub record LegalDeclaration (events : List Event) (w : ℕ) (me : Owner) : Type 0 where
  pub new : wallet_owner events w ≡ None
  pub unused : list_any (is_command_of w) events ≡ false
  pub no_deposit : list_any (deposits_by me.account) (log_of events) ≡ false
  pub no_start : list_any (starts_by me.account) (log_of events) ≡ false
  pub own_account : (v : ℕ) (other : Owner) → wallet_owner events v ≡ Some other → other.account ≢ me.account

-- the contract accepts the call, and where it starts an exit by a wallet's account, that wallet's node offered it once
pub record LegalCall (tests : Tests) (rules : Rules) (events : List Event) (call : RootCall) : Type 0 where
  pub accepted : is_accepted (answer_to tests rules (log_of events) call) ≡ true
  pub offered : (w : ℕ) (me : Owner) → wallet_owner events w ≡ Some me → starts_by me.account call ≡ true
      → Contains (left_by events w) call

-- the bundle is the history of a coin that now is the wallet's; it isn't withdrawn, and no exit of it stands
pub record LegalAccept (tests : Tests) (rules : Rules) (events : List Event) (w : ℕ) (bundle : Bundle) : Type 0 where
  pub me : Owner
  pub me_is : wallet_owner events w ≡ Some me
  pub links : Links
  pub history : IsHistory tests rules (log_of events) bundle links
  pub mine : last_owner_of links ≡ me
  pub not_withdrawn : is_withdrawn (log_of events) bundle.coin ≡ false
  pub none_stands : exits_of (log_of events) bundle.coin ≡ []

-- the bundle is the history of a coin, and the node is no wallet
pub record LegalGuard (tests : Tests) (rules : Rules) (events : List Event) (g : ℕ) (bundle : Bundle) : Type 0 where
  pub no_wallet : wallet_owner events g ≡ None
  pub links : Links
  pub history : IsHistory tests rules (log_of events) bundle links

-- no leaf that stands sends the coin from there, and the wallet doesn't leave with it from there
pub record LegalBinding (events : List Event) (w : ℕ) (body : Body) : Type 0 where
  pub not_sent : is_sent_from (signed_away_by events w) body.coin body.parent ≡ false
  pub not_left : is_left (left_by events w) body.coin body.parent ≡ false

-- The leaf binds a transfer of the bundle's coin with a last block that has passed; the bundle shows the coin absent
-- from the transfer's parent up to that block, and no exit of it stands.
pub record LegalReclaim (tests : Tests) (events : List Event) (w q : ℕ) (bundle : Bundle) : Type 0 where
  pub me : Owner
  pub me_is : wallet_owner events w ≡ Some me
  pub body : Body
  pub leaf_is : leaf_at q (bound_by events w) ≡ Some body
  pub coin_is : body.coin ≡ bundle.coin
  pub last : ℕ
  pub last_is : body.last ≡ Some last
  pub reached : last ≤ blocks (log_of events)
  pub absent : IsAbsent tests (log_of events) bundle.coin body.parent last bundle.openings
  pub none_stands : exits_of (log_of events) bundle.coin ≡ []

-- what the node guards: a wallet the coins that it holds at their tips, a watcher those whose guards it keeps
abbrev pub IsGuarding : List Event → ℕ → Option Owner → ℕ → ℕ → Type 0
IsGuarding events n None c e = list_any (is_bundle c e) (guarded_by events n) ≡ true
IsGuarding events n (Some me) c e = IsAtTop events n me c e

-- what shows it
abbrev pub ShowsGuard : List Event → ℕ → Option Owner → Bundle → Type 0
ShowsGuard events n None bundle = Contains (guarded_by events n) bundle
ShowsGuard events n (Some me) bundle = ShowsTip events n me bundle

-- the calls have all that is due for the coin at that tip, by a bundle that shows it
pub record HasDue (rules : Rules) (events : List Event) (n account : ℕ) (calls : List RootCall) (c e : ℕ)
    : Type 0 where
  pub bundle : Bundle
  pub coin_is : bundle.coin ≡ c
  pub tip_is : bundle.tip ≡ e
  pub shows : ShowsGuard events n (wallet_owner events n) bundle
  pub due : (call : RootCall) → Contains (due_for_kept rules.tag (log_of events) account bundle) call
      → Contains calls call

-- the call is due for a coin that the node guards
pub record IsDue (rules : Rules) (events : List Event) (n account : ℕ) (call : RootCall) : Type 0 where
  pub bundle : Bundle
  pub shows : ShowsGuard events n (wallet_owner events n) bundle
  pub due : Contains (due_for_kept rules.tag (log_of events) account bundle) call

-- the calls are those that are due for what the node guards
pub record LegalWatch (rules : Rules) (events : List Event) (n : ℕ) (calls : List RootCall) : Type 0 where
  pub account : ℕ
  pub all : (c e : ℕ) → IsGuarding events n (wallet_owner events n) c e → HasDue rules events n account calls c e
  pub only : (call : RootCall) → Contains calls call → IsDue rules events n account call

-- the call starts the exit of a coin at the tip at which the wallet holds it, as its links show
pub record LegalLeave (rules : Rules) (events : List Event) (w : ℕ) (call : RootCall) : Type 0 where
  pub me : Owner
  pub me_is : wallet_owner events w ≡ Some me
  pub bundle : Bundle
  pub shows : ShowsTip events w me bundle
  pub at_top : IsAtTop events w me bundle.coin bundle.tip
  pub links : Links
  pub links_are : kept_links rules.tag (log_of events) bundle ≡ Some links
  pub call_is : call ≡ start_of me.account bundle.tip links

-- ---- all events

-- the event is legal after those before it
abbrev pub IsLegalEvent : Tests → Rules → List Event → Event → Type 0
IsLegalEvent tests rules events (Declares w me) = LegalDeclaration events w me
IsLegalEvent tests rules events (Joins call) = LegalCall tests rules events call
IsLegalEvent tests rules events (Bounces call) = is_accepted (answer_to tests rules (log_of events) call) ≡ false
IsLegalEvent tests rules events (Accepts w bundle) = LegalAccept tests rules events w bundle
IsLegalEvent tests rules events (Guards g bundle) = LegalGuard tests rules events g bundle
IsLegalEvent tests rules events (Binds w body) = LegalBinding events w body
IsLegalEvent tests rules events (TakesBack w q bundle) = LegalReclaim tests events w q bundle
IsLegalEvent tests rules events (Watches n calls) = LegalWatch rules events n calls
IsLegalEvent tests rules events (Leaves w call) = LegalLeave rules events w call
IsLegalEvent tests rules events (Seals call) = is_start call ≡ false
IsLegalEvent tests rules events event = Unit {0}

-- each event is legal after those before it
unfoldable pub IsLegal : Tests → Rules → List Event → Type 0
IsLegal tests rules [] = Unit {0}
IsLegal tests rules (event ∷ events) = IsLegalEvent tests rules events event × IsLegal tests rules events
