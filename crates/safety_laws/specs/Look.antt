-- A look at a coin, and for how long what it says goes.
use Rattle.std.specs.Prelude.{◌≡◌, ◌⊎◌, ℕ, ◌+◌, ◌<◌, ◌≤◌, ◌==◌, ◌&&◌, Bool, true, false, List, ◌++◌, Option, Some}
use Rattle.std.specs.List.{list_any}
use Rattle.std.specs.Option.{option_map_or}
use Rattle.plasma_tx.specs.declared.rules.TheConstants.{CHALLENGE_WINDOW, RESPONSE_WINDOW}
use Rattle.plasma_tx.specs.declared.owner.Owner.{Owner}
use Rattle.plasma_tx.specs.declared.call.RootCall.{RootCall}
use Rattle.plasma_tx.specs.Views.{now, exit_at}
use Rattle.plasma_tx.specs.Shown.{Rules}
use Rattle.plasma_tx.specs.Table.{is_over}
use Rattle.coin_history.specs.declared.bundle.Bundle.{Bundle}
use Rattle.node_rules.specs.Kept.{kept_links}
use Rattle.node_replies.specs.Orders.{exit_block}
use Rattle.world_rules.specs.Events.{Event, Joins, log_of, coin_of_call, wallet_owner}
use Rattle.world_rules.specs.Exhibits.{collides, is_forged}
use Rattle.world_rules.specs.Safety.{holds}
use Rattle.world_laws.specs.Legal.{starts_by, ShowsGuard}
use Rattle.world_laws.specs.Looked.{are_fulfilled}
use Rattle.coin_safety.specs.declared.kept.Kept.{Kept}
use Rattle.coin_safety.specs.declared.word.Word.{Word}
use Rattle.coin_safety.specs.declared.word.Word.TheVariants.{Safe, Act, Leaving}
use Rattle.coin_safety.specs.Advice.{tip}

-- What node n keeps of a coin: the links of what shows it, a bundle that a wallet accepted or a watcher guards, or of
-- a wallet's own deposit.
pub record IsKeptBy (rules : Rules) (events : List Event) (n : ℕ) (kept : Kept) : Type 0 where
  pub bundle : Bundle
  pub shows : ShowsGuard events n (wallet_owner events n) bundle
  pub links_are : kept_links rules.tag (log_of events) bundle ≡ Some kept.links

-- A look at the coin that wallet w holds at e, by a node that keeps it there: that wallet, or another. The events up to
-- it show neither, at this coin, two byte strings with one digest, nor a signature that is valid under the wallet's
-- key and that the wallet never made.
pub record IsLook (dig : List ℕ → List ℕ) (rules : Rules) (events : List Event) (n w c e : ℕ) (kept : Kept)
    : Type 0 where
  pub keeps : IsKeptBy rules events n kept
  pub coin_is : kept.links.coin ≡ c
  pub tip_is : tip kept ≡ e
  pub held : holds events w c e ≡ true
  pub whole : collides dig events c ≡ false
  pub honest : is_forged rules.tag events w c ≡ false

-- the event starts the exit of coin c at e by the owner's account
abbrev pub begins_own : Option Owner → ℕ → ℕ → Event → Bool
begins_own (Some me) c e (Joins call) =
    starts_by me.account call && (coin_of_call call == c) && (exit_block call == e)
begins_own me c e event = false

-- nothing is due
abbrev pub is_calm : Word → Bool
is_calm (Safe until) = true
is_calm (Leaving opens) = true
is_calm word = false

-- Each of these calls was met by one that joined the log since: it ends the same exit, or challenges it at the same
-- block, or answers the same challenge; whoever makes it.
abbrev pub are_met : List RootCall → List RootCall → Bool
are_met since calls = are_fulfilled (λ call. true) since calls

-- nobody can challenge the coin's exit at e any more: it doesn't stand, or its window is over
abbrev pub is_shut : List RootCall → ℕ → ℕ → Bool
is_shut log c e = option_map_or (λ exit. is_over log exit.start CHALLENGE_WINDOW) (exit_at log c e) true

-- The later events take less than the time in which a challenge may be answered; or less than that in which an exit may
-- be challenged, where the owner's exit can't be any more, and he starts none.
abbrev pub AreShort : Option Owner → ℕ → ℕ → List Event → List Event → Type 0
AreShort me c e later events =
    (now (log_of (later ++ events)) < now (log_of events) + RESPONSE_WINDOW)
    ⊎ ((is_shut (log_of events) c e ≡ true) × (list_any (begins_own me c e) later ≡ false)
    × (now (log_of (later ++ events)) < now (log_of events) + CHALLENGE_WINDOW))

-- the word is Act, and what was due was entered till that time, among the first of the later events
pub record IsActedOn (word : Word) (calls : List RootCall) (me : Option Owner) (c e : ℕ) (later events : List Event)
    : Type 0 where
  pub by : ℕ
  pub money : ℕ
  pub after : List Event
  pub within : List Event
  pub word_is : word ≡ Act by money
  pub later_is : later ≡ after ++ within
  pub early : now (log_of (within ++ events)) ≤ by
  pub met : are_met (log_of within) calls ≡ true
  pub short : AreShort me c e later events

-- What a look says goes on over the later events, where these calls were due at it. Safe until a time goes till then,
-- if the owner starts no exit of the coin. Where nothing is due it goes while the events are short; where calls are
-- due, while they may be entered, and on, where they were.
abbrev pub Covers : Word → List RootCall → Option Owner → ℕ → ℕ → List Event → List Event → Type 0
Covers word calls me c e later events =
    ((until : ℕ) × (word ≡ Safe until) × (list_any (begins_own me c e) later ≡ false)
    × (now (log_of (later ++ events)) ≤ until))
    ⊎ ((is_calm word ≡ true) × AreShort me c e later events)
    ⊎ ((by : ℕ) × (money : ℕ) × (word ≡ Act by money) × (now (log_of (later ++ events)) ≤ by)
    × AreShort me c e later events)
    ⊎ IsActedOn word calls me c e later events
