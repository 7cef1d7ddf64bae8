-- When a wallet is declared, by facts, is what events say, where owners stay.
use Rattle.std.proofs.Common.{◌≡◌, ℕ, ◌+◌, ◌<◌, ◌≤◌, ◌==◌, Bool, true, false, if◌then◌else◌, List, [], ◌∷◌, length, Option, Some, None, refl, ap, sym, ◌∙◌, arith}
use Rattle.std.specs.Prelude.{nat_lt}
use Rattle.std.proofs.lemmas.Bool.{false≢true, lt-ltb, le-ltb}
use Rattle.std.proofs.lemmas.Grind.{common_steps}
use Rattle.plasma_tx.specs.declared.owner.Owner.{Owner}
use Rattle.plasma_tx.specs.Shown.{Tests, Rules}
use Rattle.world_rules.specs.Events.{Event, Declares, Joins, Watches, log_of, wallet_owner}
use Rattle.coin_verdicts.specs.declared.fact.Fact.{Fact}
use Rattle.coin_verdicts.specs.declared.note.Holder.{Holder}
use Rattle.coin_verdicts.specs.Facts.{IsFact, AreFacts, OwnersStay}
use Rattle.coin_verdicts.specs.Notes.{declared, earlier, holder_in}
use Rattle.coin_verdicts.proofs.Forms.{is_of_call, call-form, watch-form, as-many}

-- the owner behind a line of a wallet that was declared so
abbrev pub owner_by : Holder → ℕ → Option Owner
owner_by holder line = if nat_lt holder.since line then Some holder.owner else None

-- the events, from each of them on, say that of the wallet
abbrev pub IsDeclaredSo : Holder → List Event → Type 0
IsDeclaredSo holder [] = wallet_owner [] holder.wallet ≡ owner_by holder 1
IsDeclaredSo holder (event ∷ events) =
    (wallet_owner (event ∷ events) holder.wallet ≡ owner_by holder (length events + 2)) × IsDeclaredSo holder events

-- the events behind a wallet's declaration don't know it
before-declared : (holder : Holder) (events : List Event) → length events < holder.since → OwnersStay events
    → wallet_owner events holder.wallet ≡ None → IsDeclaredSo holder events
before-declared holder [] early stay none = none ∙ sym (rw (le-ltb holder.since 1 (omega arith)) refl)
before-declared holder (event ∷ events) early stay none = (
  none ∙ sym (rw (le-ltb holder.since (length events + 2) (omega arith)) refl),
  before-declared holder events (omega arith) stay.1 (at (wallet_owner events holder.wallet) refl),
)
  where
    at : (o : Option Owner) → wallet_owner events holder.wallet ≡ o → wallet_owner events holder.wallet ≡ None
    at None is = is
    at (Some me) is = absurd (cc (stay.0 holder.wallet me is, none))

-- what the facts' holder says of the events
pub data Declared (events : List Event) (w : ℕ) (found : Option Holder) : Type 0 where
  Nobody : found ≡ None → wallet_owner events w ≡ None → Declared events w found
  Somebody : (holder : Holder) → found ≡ Some holder → holder.wallet ≡ w
      → wallet_owner events w ≡ Some holder.owner → holder.since ≤ length events → IsDeclaredSo holder events
      → Declared events w found

call-declares : (fact : Fact) (w line : ℕ) → is_of_call fact ≡ true → declared w line fact ≡ None
call-declares fact w line h = grind (arith, common_steps, false≢true) steps 20000

module _ (tests : Tests) (rules : Rules) where
  first-step : (event : Event) (events : List Event) (fact : Fact) (w line : ℕ) → line ≡ length events + 1
      → IsFact tests rules events event fact → OwnersStay events → wallet_owner events w ≡ None
      → Declared (event ∷ events) w (declared w line fact)
  unfolding wallet_owner
  first-step (Declares v me) events fact w line is h stay none = rw h (at (v == w) refl)
    where
      holder : Holder
      holder = record { wallet = w; since = line; owner = me }

      at : (b : Bool) → (v == w) ≡ b → Declared (Declares v me ∷ events) w (if b then Some holder else None)
      at true own =
          let owner : wallet_owner (Declares v me ∷ events) w ≡ Some me = rw own refl in
          Somebody holder refl refl owner (omega arith) (
            owner ∙ sym (rw (lt-ltb line (length events + 2) (omega arith)) refl),
            before-declared holder events (omega arith) stay none,
          )
      at false apart = Nobody refl (rw apart none)
  first-step (Joins call) events fact w line is h stay none =
      Nobody (call-declares fact w line (call-form tests rules (log_of events) call fact h)) none
  first-step (Watches n calls) events fact w line is h stay none = rw (watch-form n calls fact h).is (Nobody refl none)
  first-step event events fact w line is h stay none = rw h (Nobody refl none)

  pub holder-is : (events : List Event) (facts : List Fact) (w : ℕ) → AreFacts tests rules events facts
      → OwnersStay events → Declared events w (holder_in facts w)
  unfolding holder_in wallet_owner
  holder-is [] [] w h stay = Nobody refl refl
  holder-is [] (fact ∷ facts) w h stay = elim h [ ]
  holder-is (event ∷ events) [] w h stay = elim h [ ]
  holder-is (event ∷ events) (fact ∷ facts) w h stay =
      elim (holder-is events facts w h.1 stay.1) [
        | Nobody found none ↦
            rw found (first-step event events fact w (length facts + 1)
            (ap (λ n. n + 1) (as-many tests rules events facts h.1)) h.0 stay.1 none)
        | Somebody holder found own is early so ↦
            Somebody holder (ap (λ o. earlier o (declared w (length facts + 1) fact)) found) own
            (stay.0 w holder.owner is) (omega arith) (
              grind (arith, common_steps, lt-ltb) steps 20000,
              so,
            )
      ]
