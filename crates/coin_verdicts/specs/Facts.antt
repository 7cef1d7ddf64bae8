-- What a fact says of an event, and when facts are those of the events of a run.
use Rattle.std.specs.Prelude.{◌≡◌, ℕ, ◌+◌, ◌==◌, Bool, false, List, [], ◌∷◌, Option, Some, None}
use Rattle.std.specs.List.{list_any}
use Rattle.plasma_tx.specs.{declared.owner.Owner.{Owner}, declared.call.RootCall.{RootCall}, Views.{blocks, coins, Exit, exit_at}, Shown.{Tests, Rules}}
use Rattle.world_rules.specs.{Events.{Event, Declares, Joins, Bounces, Accepts, Guards, Releases, Binds, TakesBack, Watches, Leaves, Seals, Other, Idle, log_of, coin_of_call, wallet_owner}, Safety.{meets_deadline}}
use Rattle.world_rules.specs.Verdicts.{is_finish_paid}
use Rattle.coin_verdicts.specs.declared.fact.Fact.{Fact}

-- the number is among these
abbrev pub has : List ℕ → ℕ → Bool
has numbers n = list_any (λ number. number == n) numbers

-- the numbers are those that pass the test, in any order and each at least once
abbrev pub AreThose : (ℕ → Bool) → List ℕ → Type 0
AreThose is_asked numbers = (n : ℕ) → has numbers n ≡ is_asked n

-- the fact of a call that ends the exit of a coin at a block: another call, where no such exit stands
abbrev pub ended : Option Exit → ℕ → ℕ → Bool → Fact
ended None coin block paid = Fact.Joins
ended (Some exit) coin block paid = Fact.Ends coin block exit.account paid

-- the fact has the coins with a deadline that the tick meets
abbrev pub IsTick : List RootCall → ℕ → Fact → Type 0
IsTick log time (Fact.Ticks met) = AreThose (λ c. meets_deadline log c (Joins (RootCall.Tick time))) met
IsTick log time fact = ⊥

-- the fact is that of a call that was accepted behind these
abbrev pub IsFactOfCall : Tests → Rules → List RootCall → RootCall → Fact → Type 0
IsFactOfCall tests rules log (RootCall.Deposit account amount key) fact =
    fact ≡ Fact.Deposits (coins log + 1) (blocks log + 1) (record { account = account; key = key })
IsFactOfCall tests rules log (RootCall.Tick time) fact = IsTick log time fact
IsFactOfCall tests rules log (RootCall.After account coin block spend) fact =
    fact ≡ ended (exit_at log coin block) coin block false
IsFactOfCall tests rules log (RootCall.Between account coin block spend) fact =
    fact ≡ ended (exit_at log coin block) coin block false
IsFactOfCall tests rules log (RootCall.Finish account coin block) fact =
    fact ≡ ended (exit_at log coin block) coin block (is_finish_paid tests rules log account coin block)
IsFactOfCall tests rules log call fact = fact ≡ Fact.Joins

-- the fact has the coins of the calls that a node offers
abbrev pub IsWatch : ℕ → List RootCall → Fact → Type 0
IsWatch n calls (Fact.Watches node coins) =
    (node ≡ n) × AreThose (λ c. list_any (λ call. coin_of_call call == c) calls) coins
IsWatch n calls fact = ⊥

-- the fact is that of an event behind these
abbrev pub IsFact : Tests → Rules → List Event → Event → Fact → Type 0
IsFact tests rules events (Declares w me) fact = fact ≡ Fact.Declares w me
IsFact tests rules events (Joins call) fact = IsFactOfCall tests rules (log_of events) call fact
IsFact tests rules events (Bounces call) fact = fact ≡ Fact.Idle
IsFact tests rules events (Accepts w bundle) fact = fact ≡ Fact.Accepts w bundle.coin bundle.tip
IsFact tests rules events (Guards g bundle) fact = fact ≡ Fact.Guards g bundle.coin bundle.tip
IsFact tests rules events (Releases g c e) fact = fact ≡ Fact.Releases g c e
IsFact tests rules events (Binds w body) fact = fact ≡ Fact.Binds w body.coin body.parent
IsFact tests rules events (TakesBack w q bundle) fact = fact ≡ Fact.TakesBack w q
IsFact tests rules events (Watches n calls) fact = IsWatch n calls fact
IsFact tests rules events (Leaves n call) fact = fact ≡ Fact.Other n
IsFact tests rules events (Seals call) fact = fact ≡ Fact.Other 0
IsFact tests rules events (Other n) fact = fact ≡ Fact.Other n
IsFact tests rules events Idle fact = fact ≡ Fact.Idle

-- the facts are those of the events, one for each, the newest first
abbrev pub AreFacts : Tests → Rules → List Event → List Fact → Type 0
AreFacts tests rules [] [] = Unit {0}
AreFacts tests rules [] (fact ∷ facts) = ⊥
AreFacts tests rules (event ∷ events) [] = ⊥
AreFacts tests rules (event ∷ events) (fact ∷ facts) =
    IsFact tests rules events event fact × AreFacts tests rules events facts

-- a wallet that was declared keeps its owner, after each event
abbrev pub OwnersStay : List Event → Type 0
OwnersStay [] = Unit {0}
OwnersStay (event ∷ events) =
    ((w : ℕ) (me : Owner) → wallet_owner events w ≡ Some me → wallet_owner (event ∷ events) w ≡ Some me)
    × OwnersStay events
