-- What one more line shows.
use Rattle.std.proofs.Common.{◌≡◌, ℕ, ◌+◌, ◌||◌, Bool, true, false, if◌then◌else◌, List, [], ◌∷◌, ◌++◌, length, map, Option, Some, None, refl, sym, ap, ◌∙◌}
use Rattle.std.specs.List.{list_any}
use Rattle.std.specs.Option.{option_or}
use Rattle.std.proofs.lemmas.List.Folds.{flat_map-map}
use Rattle.plasma_tx.specs.declared.opening.RawOpening.{RawOpening}
use Rattle.plasma_tx.specs.declared.owner.Owner.{Owner}
use Rattle.plasma_tx.specs.declared.body.Body.{Body}
use Rattle.world_rules.specs.Events.{Event, wallet_owner, wallets, bound_by}
use Rattle.world_rules.specs.Exhibits.{openings_of, coin_of, strings_of, strings_shown, all_strings, forges, forges_one, shows_forgery, forges_some, first_forgery, first_clash, Pair, collision_or, forgery_or, exhibit_of}
use Rattle.trace_exhibits.proofs.KeptWallets.{any-same, any-false, or-false}
use Rattle.trace_exhibits.proofs.Reading.{strings-read, forgery-read}
use Rattle.trace_exhibits.specs.Lines.{read_of}
use Rattle.trace_exhibits.specs.Ways.{strings_in_shown, strings_in_all}
use Rattle.trace_exhibits.specs.Told.{opened, shown_of}
use Rattle.trace_exhibits.specs.Wallets.{is_forged_in}

-- ---- strings

module _ (dig : List ℕ → List ℕ) where
  event-strings : (event : Event) → strings_shown dig event ≡ strings_in_all dig (shown_of event)
  unfolding strings_of
  event-strings event =
      sym (flat_map-map (strings_in_shown dig) (opened (coin_of event)) (openings_of (coin_of event) event))

  pub no-strings : all_strings dig [] ≡ []
  unfolding all_strings
  no-strings = refl

  pub more-strings : (events : List Event) (event : Event)
      → all_strings dig events ++ strings_in_all dig (shown_of event) ≡ all_strings dig (event ∷ events)
  unfolding all_strings
  more-strings events event = ap (λ these. all_strings dig events ++ these) (sym (event-strings event))

-- ---- forgeries

or-parts : (a b c d : Bool) → ((a || b) || (c || d)) ≡ ((a || c) || (b || d))
or-parts true b c d = refl
or-parts false true true d = refl
or-parts false true false d = refl
or-parts false false c d = refl

any-or : {X : Type 0} (p q : X → Bool) (xs : List X)
    → list_any (λ x. p x || q x) xs ≡ (list_any p xs || list_any q xs)
any-or p q [] = refl
any-or p q (x ∷ xs) =
    ap (λ b. (p x || q x) || b) (any-or p q xs) ∙ or-parts (p x) (q x) (list_any p xs) (list_any q xs)

module _ (tag : List ℕ) (events : List Event) where
  one-none : (owner : Option Owner) (bodies : List Body) (coin : ℕ) → forges_one tag owner bodies coin [] ≡ false
  one-none None bodies coin = refl
  one-none (Some me) bodies coin = refl

  one-more : (owner : Option Owner) (bodies : List Body) (coin : ℕ) (opening : RawOpening) (openings : List RawOpening)
      → forges_one tag owner bodies coin (opening ∷ openings)
      ≡ (forges_one tag owner bodies coin (opening ∷ []) || forges_one tag owner bodies coin openings)
  one-more None bodies coin opening openings = refl
  one-more (Some me) bodies coin opening openings =
      ap (λ b. b || list_any (forges tag coin me bodies) openings) (sym (or-false (forges tag coin me bodies opening)))

  some-opening : (coin : ℕ) (openings : List RawOpening)
      → list_any (λ w. shows_forgery tag events w coin openings) (wallets events)
      ≡ list_any (is_forged_in tag events) (map (opened coin) openings)
  some-opening coin [] =
      any-false (λ w. shows_forgery tag events w coin []) (wallets events)
      (λ w. one-none (wallet_owner events w) (bound_by events w) coin)
  some-opening coin (opening ∷ openings) =
      any-same (λ w. shows_forgery tag events w coin (opening ∷ openings))
      (λ w. shows_forgery tag events w coin (opening ∷ []) || shows_forgery tag events w coin openings)
      (wallets events) (λ w. one-more (wallet_owner events w) (bound_by events w) coin opening openings)
      ∙ any-or (λ w. shows_forgery tag events w coin (opening ∷ []))
      (λ w. shows_forgery tag events w coin openings) (wallets events)
      ∙ ap (λ b. is_forged_in tag events (opened coin opening) || b) (some-opening coin openings)

  -- an event shows a forgery where one of its openings does
  pub event-forges : (event : Event)
      → forges_some tag events event ≡ list_any (is_forged_in tag events) (shown_of event)
  event-forges event = some-opening (coin_of event) (openings_of (coin_of event) event)

module _ (tag : List ℕ) where
  -- a forgery that was found stays the first
  pub forgery-stays : (events : List Event) (event : Event) (line : ℕ) → first_forgery tag events ≡ Some line
      → first_forgery tag (event ∷ events) ≡ Some line
  unfolding first_forgery
  forgery-stays events event line is =
      ap (λ found. option_or found (if forges_some tag events event then Some (length events + 1) else None)) is

  pub no-forgery : first_forgery tag [] ≡ None
  unfolding first_forgery
  no-forgery = refl

  next-forgery : (events : List Event) (event : Event) (b : Bool) → first_forgery tag events ≡ None
      → b ≡ forges_some tag events event
      → first_forgery tag (event ∷ events) ≡ (if b then Some (length events + 1) else None)
  unfolding first_forgery
  next-forgery events event b none is =
      ap (λ found. option_or found (if forges_some tag events event then Some (length events + 1) else None)) none
      ∙ ap (λ (t : Bool). if t then Some (length events + 1) else None) (sym is)

  -- one more line shows none, or is the first that does
  pub forgery-passed : (events : List Event) (event : Event) → first_forgery tag events ≡ None
      → false ≡ forges_some tag events event → first_forgery tag (event ∷ events) ≡ None
  forgery-passed events event none is = next-forgery events event false none is

  pub forgery-here : (events : List Event) (event : Event) (number : ℕ) → number ≡ length events + 1
      → first_forgery tag events ≡ None → true ≡ forges_some tag events event
      → first_forgery tag (event ∷ events) ≡ Some number
  forgery-here events event number is_number none is = next-forgery events event true none is ∙ ap Some (sym is_number)

-- ---- the exhibit

-- by what is read of the events
pub exhibit-read : (dig : List ℕ → List ℕ) (tag : List ℕ) (events : List Event) (clash : Option Pair)
    (forgery : Option ℕ) → first_clash dig [] (all_strings dig (map read_of events)) ≡ clash
    → first_forgery tag (map read_of events) ≡ forgery
    → collision_or clash (forgery_or forgery) ≡ exhibit_of dig tag events
unfolding exhibit_of
exhibit-read dig tag events clash forgery clashes forges =
    ap (λ found. collision_or found (forgery_or forgery))
    (sym clashes ∙ ap (first_clash dig []) (strings-read dig events))
    ∙ ap (λ found. collision_or (first_clash dig [] (all_strings dig events)) (forgery_or found))
    (sym forges ∙ forgery-read tag events)

-- a clash is the exhibit, whatever forgery there is
pub exhibit-clash : (dig : List ℕ → List ℕ) (tag : List ℕ) (events : List Event) (pair : Pair)
    → first_clash dig [] (all_strings dig (map read_of events)) ≡ Some pair
    → collision_or (Some pair) (forgery_or None) ≡ exhibit_of dig tag events
exhibit-clash dig tag events pair clashes =
    exhibit-read dig tag events (Some pair) (first_forgery tag (map read_of events)) clashes refl
