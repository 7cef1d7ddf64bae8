-- What the events of a run say of one node, and what one more event adds to it.
use Rattle.world_rules.proofs.Basics.{◌≡◌, ℕ, ◌==◌, not, Bool, true, false, if◌then◌else◌, List, [], ◌∷◌, filter, Option, Some, None, refl, ap, ◌∙◌, arith, common_steps}
use Rattle.world_rules.proofs.CoinWords.{Owner, Body, Bundle}
use Rattle.world_rules.proofs.WorldWords.{Event, Declares, Accepts, Guards, Releases, Binds, TakesBack, wallet_owner, accepted, bound_by, taken_back, guarded_by, is_bundle, without_offers}

-- what is said of a node: its owner, what its leaves bind and which it took back, and the bundles that it accepted or
-- guards
pub record Said : Type 0 where
  pub owner : Option Owner
  pub bound : List Body
  pub taken : List ℕ
  pub accepted : List Bundle
  pub guarded : List Bundle

unfoldable pub said : List Event → ℕ → Said
said events n = record {
  owner = wallet_owner events n;
  bound = bound_by events n;
  taken = taken_back events n;
  accepted = accepted events n;
  guarded = guarded_by events n;
}

-- nothing is said
abbrev pub nothing_said : Said
nothing_said = record { owner = None; bound = []; taken = []; accepted = []; guarded = [] }

-- one more event, of this node
abbrev pub told : Event → Said → Said
told (Declares v me) s = record s { owner = Some me }
told (Accepts v bundle) s = record s { accepted = bundle ∷ s.accepted }
told (Guards v bundle) s = record s { guarded = bundle ∷ s.guarded }
told (Releases v c e) s = record s { guarded = filter (λ bundle. not (is_bundle c e bundle)) s.guarded }
told (Binds v body) s = record s { bound = body ∷ s.bound }
told (TakesBack v q bundle) s = record s { taken = q ∷ s.taken }
told event s = s

-- the node that an event says something of
abbrev pub is_said_of : ℕ → Event → Bool
is_said_of n (Declares v me) = v == n
is_said_of n (Accepts v bundle) = v == n
is_said_of n (Guards v bundle) = v == n
is_said_of n (Releases v c e) = v == n
is_said_of n (Binds v body) = v == n
is_said_of n (TakesBack v q bundle) = v == n
is_said_of n event = false

pub said-none : (n : ℕ) → said [] n ≡ nothing_said
unfolding said wallet_owner accepted bound_by taken_back guarded_by
said-none n = refl

-- what is said with one more event
pub said-more : (event : Event) (events : List Event) (n : ℕ)
    → said (event ∷ events) n ≡ (if is_said_of n event then told event (said events n) else said events n)
unfolding said wallet_owner accepted bound_by taken_back guarded_by
said-more event events n = grind (arith, common_steps)

-- of this node
pub said-own : (event : Event) (events : List Event) (n : ℕ) → is_said_of n event ≡ true
    → said (event ∷ events) n ≡ told event (said events n)
said-own event events n own =
    said-more event events n ∙ ap (λ b. if b then told event (said events n) else said events n) own

-- of another, or of none
pub said-other : (event : Event) (events : List Event) (n : ℕ) → is_said_of n event ≡ false
    → said (event ∷ events) n ≡ said events n
said-other event events n other =
    said-more event events n ∙ ap (λ b. if b then told event (said events n) else said events n) other

-- a cut's event says the same
pub cut-told : (n : ℕ) (event : Event) (s : Said) → told (without_offers n event) s ≡ told event s
cut-told n event s = grind (arith, common_steps)
