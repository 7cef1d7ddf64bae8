-- An exhibit depends on what it reads of events alone.
use Rattle.std.proofs.Common.{◌≡◌, ℕ, ◌+◌, ◌==◌, Bool, true, if◌then◌else◌, List, [], ◌∷◌, ◌++◌, length, map, Option, Some, None, refl, ap, ◌∙◌}
use Rattle.std.specs.List.{list_any}
use Rattle.std.specs.Option.{option_or}
use Rattle.std.proofs.lemmas.Bool.{eq-eqb}
use Rattle.std.proofs.lemmas.List.{length-map}
use Rattle.plasma_tx.specs.declared.owner.Owner.{Owner}
use Rattle.plasma_tx.specs.declared.body.Body.{Body}
use Rattle.plasma_tx.specs.declared.opening.RawOpening.{RawOpening}
use Rattle.watch_duty.specs.Laws.{openings_of_call}
use Rattle.world_rules.specs.Events.{Event, Declares, Joins, Bounces, Accepts, Guards, Releases, Binds, TakesBack, Watches, Leaves, Seals, Other, Idle, wallet_owner, wallets, bound_by, coin_of_call}
use Rattle.world_rules.specs.Exhibits.{openings_of, coin_of, strings_of, strings_shown, all_strings, forges_one, shows_forgery, forges_some, first_forgery}
use Rattle.trace_exhibits.proofs.KeptWallets.{any-same}
use Rattle.trace_exhibits.specs.Lines.{accepts, read_of}

same-number : (n : ℕ) → (n == n) ≡ true
same-number n = eq-eqb n n refl

if-same : (c : ℕ) (openings : List RawOpening) → (if c == c then openings else []) ≡ openings
if-same c openings = ap (λ (b : Bool). if b then openings else []) (same-number c)

pub coin-read : (event : Event) → coin_of (read_of event) ≡ coin_of event
unfolding coin_of
coin-read (Declares w me) = refl
coin-read (Joins call) = refl
coin-read (Bounces call) = refl
coin-read (Accepts w bundle) = refl
coin-read (Guards w bundle) = refl
coin-read (Releases w c e) = refl
coin-read (Binds w body) = refl
coin-read (TakesBack w q bundle) = refl
coin-read (Watches w calls) = refl
coin-read (Leaves w call) = refl
coin-read (Seals call) = refl
coin-read (Other w) = refl
coin-read Idle = refl

pub openings-accepted : (coin : ℕ) (openings : List RawOpening) → openings_of coin (accepts coin openings) ≡ openings
unfolding openings_of
openings-accepted coin openings = if-same coin openings

pub openings-read : (event : Event) → openings_of (coin_of event) (read_of event) ≡ openings_of (coin_of event) event
unfolding coin_of openings_of
openings-read (Declares w me) = refl
openings-read (Joins call) = if-same (coin_of_call call) (openings_of_call (coin_of_call call) call)
openings-read (Bounces call) = refl
openings-read (Accepts w bundle) = refl
openings-read (Guards w bundle) = refl
openings-read (Releases w c e) = refl
openings-read (Binds w body) = refl
openings-read (TakesBack w q bundle) = refl
openings-read (Watches w calls) = refl
openings-read (Leaves w call) = refl
openings-read (Seals call) = refl
openings-read (Other w) = refl
openings-read Idle = refl

-- the openings that are read of an event, at the coin that is read
openings-same : (event : Event)
    → openings_of (coin_of (read_of event)) (read_of event) ≡ openings_of (coin_of event) event
openings-same event = ap (λ c. openings_of c (read_of event)) (coin-read event) ∙ openings-read event

pub strings-read : (dig : List ℕ → List ℕ) (events : List Event)
    → all_strings dig (map read_of events) ≡ all_strings dig events
unfolding all_strings
strings-read dig [] = refl
strings-read dig (event ∷ events) =
    ap (λ before. before ++ strings_shown dig (read_of event)) (strings-read dig events)
    ∙ ap (λ these. all_strings dig events ++ these) (
    ap (λ c. strings_of dig c (openings_of (coin_of (read_of event)) (read_of event))) (coin-read event)
    ∙ ap (strings_of dig (coin_of event)) (openings-same event))

wallets-read : (events : List Event) → wallets (map read_of events) ≡ wallets events
unfolding wallets
wallets-read [] = refl
wallets-read (Declares w me ∷ events) = ap (λ all. w ∷ all) (wallets-read events)
wallets-read (Joins call ∷ events) = wallets-read events
wallets-read (Bounces call ∷ events) = wallets-read events
wallets-read (Accepts w bundle ∷ events) = wallets-read events
wallets-read (Guards w bundle ∷ events) = wallets-read events
wallets-read (Releases w c e ∷ events) = wallets-read events
wallets-read (Binds w body ∷ events) = wallets-read events
wallets-read (TakesBack w q bundle ∷ events) = wallets-read events
wallets-read (Watches w calls ∷ events) = wallets-read events
wallets-read (Leaves w call ∷ events) = wallets-read events
wallets-read (Seals call ∷ events) = wallets-read events
wallets-read (Other w ∷ events) = wallets-read events
wallets-read (Idle ∷ events) = wallets-read events

owner-read : (events : List Event) (v : ℕ) → wallet_owner (map read_of events) v ≡ wallet_owner events v
unfolding wallet_owner
owner-read [] v = refl
owner-read (Declares w me ∷ events) v = ap (λ (o : Option Owner). if w == v then Some me else o) (owner-read events v)
owner-read (Joins call ∷ events) v = owner-read events v
owner-read (Bounces call ∷ events) v = owner-read events v
owner-read (Accepts w bundle ∷ events) v = owner-read events v
owner-read (Guards w bundle ∷ events) v = owner-read events v
owner-read (Releases w c e ∷ events) v = owner-read events v
owner-read (Binds w body ∷ events) v = owner-read events v
owner-read (TakesBack w q bundle ∷ events) v = owner-read events v
owner-read (Watches w calls ∷ events) v = owner-read events v
owner-read (Leaves w call ∷ events) v = owner-read events v
owner-read (Seals call ∷ events) v = owner-read events v
owner-read (Other w ∷ events) v = owner-read events v
owner-read (Idle ∷ events) v = owner-read events v

bound-read : (events : List Event) (v : ℕ) → bound_by (map read_of events) v ≡ bound_by events v
unfolding bound_by
bound-read [] v = refl
bound-read (Binds w body ∷ events) v =
    ap (λ (all : List Body). if w == v then body ∷ all else all) (bound-read events v)
bound-read (Declares w me ∷ events) v = bound-read events v
bound-read (Joins call ∷ events) v = bound-read events v
bound-read (Bounces call ∷ events) v = bound-read events v
bound-read (Accepts w bundle ∷ events) v = bound-read events v
bound-read (Guards w bundle ∷ events) v = bound-read events v
bound-read (Releases w c e ∷ events) v = bound-read events v
bound-read (TakesBack w q bundle ∷ events) v = bound-read events v
bound-read (Watches w calls ∷ events) v = bound-read events v
bound-read (Leaves w call ∷ events) v = bound-read events v
bound-read (Seals call ∷ events) v = bound-read events v
bound-read (Other w ∷ events) v = bound-read events v
bound-read (Idle ∷ events) v = bound-read events v

module _ (tag : List ℕ) where
  shows-read : (events : List Event) (event : Event) (w : ℕ)
      → shows_forgery tag (map read_of events) w (coin_of (read_of event))
      (openings_of (coin_of (read_of event)) (read_of event))
      ≡ shows_forgery tag events w (coin_of event) (openings_of (coin_of event) event)
  shows-read events event w =
      ap (λ c. shows_forgery tag (map read_of events) w c (openings_of (coin_of (read_of event)) (read_of event)))
      (coin-read event)
      ∙ ap (shows_forgery tag (map read_of events) w (coin_of event)) (openings-same event)
      ∙ ap (λ owner. forges_one tag owner (bound_by (map read_of events) w) (coin_of event)
      (openings_of (coin_of event) event)) (owner-read events w)
      ∙ ap (λ bodies. forges_one tag (wallet_owner events w) bodies (coin_of event)
      (openings_of (coin_of event) event)) (bound-read events w)

  forges-read : (events : List Event) (event : Event)
      → forges_some tag (map read_of events) (read_of event) ≡ forges_some tag events event
  forges-read events event =
      ap (list_any (λ w. shows_forgery tag (map read_of events) w (coin_of (read_of event))
      (openings_of (coin_of (read_of event)) (read_of event)))) (wallets-read events)
      ∙ any-same (λ w. shows_forgery tag (map read_of events) w (coin_of (read_of event))
      (openings_of (coin_of (read_of event)) (read_of event)))
      (λ w. shows_forgery tag events w (coin_of event) (openings_of (coin_of event) event)) (wallets events)
      (shows-read events event)

  pub forgery-read : (events : List Event) → first_forgery tag (map read_of events) ≡ first_forgery tag events
  unfolding first_forgery
  forgery-read [] = refl
  forgery-read (event ∷ events) =
      ap (λ found. option_or found (if forges_some tag (map read_of events) (read_of event)
      then Some (length (map read_of events) + 1) else None)) (forgery-read events)
      ∙ ap (λ (b : Bool). option_or (first_forgery tag events)
      (if b then Some (length (map read_of events) + 1) else None)) (forges-read events event)
      ∙ ap (λ n. option_or (first_forgery tag events)
      (if forges_some tag events event then Some (n + 1) else None)) (length-map events read_of)
