-- What an exhibit reads of a line is what it reads of its event; and the wallet that a line declares is its event's.
use Rattle.std.proofs.Common.{◌≡◌, ℕ, ◌-◌, suc, zero, List, [], ◌∷◌, ◌++◌, length, map, reverse, Option, Some, None, refl, sym, ap, ◌∙◌, arith}
use Rattle.std.specs.List.{slice_get}
use Rattle.std.proofs.lemmas.List.{append-nil, length-append, reverse-append}
use Rattle.plasma_tx.specs.declared.call.RootCall.{RootCall}
use Rattle.plasma_tx.specs.Shown.{Tests, Rules}
use Rattle.coin_verdicts.specs.declared.wallet.NamedWallet.{NamedWallet}
use Rattle.world_rules.specs.Events.{Event, Declares, Joins, Bounces, Accepts, Guards, Releases, Binds, TakesBack, Watches, Leaves, Seals, Other, Idle, log_of, wallets}
use Rattle.trace_exhibits.specs.Lines.{joins, read_of}
use Rattle.world_trace.specs.declared.event.LineEvent.{LineEvent}
use Rattle.world_trace.specs.Events.{IsEvent, IsJoin, IsWatch}
use Rattle.world_trace.specs.Read.{joined_in, read_in, declared_by}
use Rattle.world_trace.specs.Traces.{number_of}

-- ---- the newest call

get-last : {X : Type 0} (xs : List X) (y : X) → slice_get (xs ++ y ∷ []) (length xs) ≡ Some y
get-last [] y = refl
get-last (x ∷ xs) y = get-last xs y

abbrev joined : Option RootCall → Event
joined None = Idle
joined (Some call) = joins call

pub newest_joined : (log : List RootCall) (found : Option RootCall)
    → found ≡ slice_get (reverse log) (length (reverse log) - 1) → joined found ≡ joined_in log
newest_joined [] found is = ap joined is
newest_joined (call ∷ log) found is =
    let calls = reverse log in
    let count : length (calls ++ call ∷ []) - 1 ≡ length calls = omega (arith, length-append calls (call ∷ [])) in
    ap joined (is ∙ ap (λ (all : List RootCall). slice_get all (length all - 1)) (reverse-append (call ∷ []) log)
    ∙ ap (slice_get (calls ++ call ∷ [])) count ∙ get-last calls call)

-- ---- by what was told

module _ (tests : Tests) (rules : Rules) where
  module _ (log : List RootCall) where
    reads-join : (call : RootCall) (event : LineEvent) → IsJoin tests rules log call event
        → read_in (call ∷ log) event ≡ joins call
    reads-join call (LineEvent.Joins fact) is = refl
    reads-join call event is = absurd is

  reads-watch : (log : List RootCall) (n : ℕ) (calls : List RootCall) (event : LineEvent) → IsWatch n calls event
      → read_in log event ≡ Idle
  reads-watch log n calls (LineEvent.Watches node coins) is = refl
  reads-watch log n calls event is = absurd is

  -- a line reads as its event, behind these
  pub read_as : (events : List Event) (told : Event) (event : LineEvent)
      → IsEvent tests rules (log_of events) told event → read_in (log_of (told ∷ events)) event ≡ read_of told
  unfolding log_of
  read_as events (Declares w me) event is = ap (read_in (log_of events)) is
  read_as events (Joins call) event is = reads-join (log_of events) call event is
  read_as events (Bounces call) event is = ap (read_in (log_of events)) is
  read_as events (Accepts w bundle) event is = ap (read_in (log_of events)) is
  read_as events (Guards g bundle) event is = ap (read_in (log_of events)) is
  read_as events (Releases g c e) event is = ap (read_in (log_of events)) is
  read_as events (Binds w body) event is = ap (read_in (log_of events)) is
  read_as events (TakesBack w q bundle) event is = ap (read_in (log_of events)) is
  read_as events (Watches n calls) event is = reads-watch (log_of events) n calls event is
  read_as events (Leaves n call) event is = ap (read_in (log_of events)) is
  read_as events (Seals call) event is = ap (read_in (log_of events)) is
  read_as events (Other n) event is = ap (read_in (log_of events)) is
  read_as events Idle event is = ap (read_in (log_of events)) is

  -- ---- the wallets

  abbrev numbers : List ℕ → LineEvent → List ℕ
  numbers name event = map number_of (declared_by name event)

  module _ (log : List RootCall) (name : List ℕ) where
    joins-none : (call : RootCall) (event : LineEvent) → IsJoin tests rules log call event → numbers name event ≡ []
    joins-none call (LineEvent.Joins fact) is = refl
    joins-none call event is = absurd is

    watch-none : (n : ℕ) (calls : List RootCall) (event : LineEvent) → IsWatch n calls event
        → numbers name event ≡ []
    watch-none n calls (LineEvent.Watches node coins) is = refl
    watch-none n calls event is = absurd is

  none-more : (ws : List ℕ) (name : List ℕ) (event : LineEvent) → numbers name event ≡ []
      → reverse ws ++ numbers name event ≡ reverse ws
  none-more ws name event none = ap (λ more. reverse ws ++ more) none ∙ append-nil (reverse ws)

  -- the numbers with that of the wallet that a line declares
  pub wallets_as : (events : List Event) (told : Event) (event : LineEvent) (name : List ℕ)
      → IsEvent tests rules (log_of events) told event
      → reverse (wallets events) ++ map number_of (declared_by name event) ≡ reverse (wallets (told ∷ events))
  unfolding wallets
  wallets_as events (Declares w me) event name is =
      ap (λ (e : LineEvent). reverse (wallets events) ++ numbers name e) is
      ∙ sym (reverse-append (w ∷ []) (wallets events))
  wallets_as events (Joins call) event name is =
      none-more (wallets events) name event (joins-none (log_of events) name call event is)
  wallets_as events (Bounces call) event name is = none-more (wallets events) name event (ap (numbers name) is)
  wallets_as events (Accepts w bundle) event name is = none-more (wallets events) name event (ap (numbers name) is)
  wallets_as events (Guards g bundle) event name is = none-more (wallets events) name event (ap (numbers name) is)
  wallets_as events (Releases g c e) event name is = none-more (wallets events) name event (ap (numbers name) is)
  wallets_as events (Binds w body) event name is = none-more (wallets events) name event (ap (numbers name) is)
  wallets_as events (TakesBack w q bundle) event name is =
      none-more (wallets events) name event (ap (numbers name) is)
  wallets_as events (Watches n calls) event name is =
      none-more (wallets events) name event (watch-none (log_of events) name n calls event is)
  wallets_as events (Leaves n call) event name is = none-more (wallets events) name event (ap (numbers name) is)
  wallets_as events (Seals call) event name is = none-more (wallets events) name event (ap (numbers name) is)
  wallets_as events (Other n) event name is = none-more (wallets events) name event (ap (numbers name) is)
  wallets_as events Idle event name is = none-more (wallets events) name event (ap (numbers name) is)
