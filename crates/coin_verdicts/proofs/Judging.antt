-- What one line does to what a standing says of payments, of taking and of ticks that nobody attended.
use Rattle.std.proofs.Common.{◌≡◌, ◌⊎◌, ℕ, ◌==◌, ◌&&◌, ◌||◌, not, Bool, true, false, if◌then◌else◌, List, None, refl, arith}
use Rattle.std.proofs.lemmas.Bool.{false≢true}
use Rattle.std.proofs.lemmas.Grind.{common_steps}
use Rattle.plasma_tx.specs.declared.owner.Owner.{Owner}
use Rattle.world_rules.specs.Safety.{is_own}
use Rattle.world_rules.specs.Verdicts.{is_others}
use Rattle.coin_verdicts.specs.declared.note.Change.{Change}
use Rattle.coin_verdicts.specs.declared.note.Holder.{Holder}
use Rattle.coin_verdicts.specs.declared.note.Standing.{Standing}
use Rattle.coin_verdicts.specs.Facts.{has}
use Rattle.coin_verdicts.specs.Standings.{has_coin, is_held_at, takes, missed, with_note}
use Rattle.coin_verdicts.proofs.Lists.{or-false}
use Rattle.coin_verdicts.proofs.OneLine.{in_line}

-- the standing before and after a line that pays the wallet's exit or not, takes the coin or not, and is a tick that
-- nobody attended or not
pub record Judges (holder : Holder) (line : ℕ) (pays taking unattended : Bool) (s after : Standing) : Type 0 where
  pub paid_is : after.paid ≡ (s.paid || pays)
  pub taken_is : after.taken ≡ (s.taken || taking)
  pub unattended_is : after.unattended ≡ missed line s unattended
  pub ever_is : ((after.ever_held ≡ s.ever_held) × (has_coin after ≡ has_coin s))
      ⊎ (after.ever_held ≡ (s.ever_held || is_held_at holder line s))
  pub apart : taking ≡ true → unattended ≡ false

missed-none : (line : ℕ) (s : Standing) → s.unattended ≡ missed line s false
missed-none line s = grind (arith, common_steps) steps 20000

-- nothing befalls the coin
pub judges-plain : (holder : Holder) (line : ℕ) (s : Standing) → Judges holder line false false false s s
judges-plain holder line s = grind (arith, common_steps, or-false, missed-none) steps 20000

-- a change that says nothing of exits and ticks
abbrev pub is_simple : Change → Bool
is_simple (Change.Deposits block owner) = true
is_simple (Change.Accepts wallet tip) = true
is_simple (Change.Sends wallet parent) = true
is_simple (Change.Returns wallet parent) = true
is_simple change = false

module _ (holder : Holder) (e line : ℕ) (s : Standing) where
  -- the standing after one more change
  abbrev next : Change → Standing
  next change = with_note holder e s (in_line line change)

  simply : (change : Change) → (next change).paid ≡ s.paid → (next change).taken ≡ s.taken
      → (next change).unattended ≡ s.unattended
      → (next change).ever_held ≡ (s.ever_held || is_held_at holder line s)
      → Judges holder line false false false s (next change)
  simply change paid taken unattended ever = grind (arith, common_steps, or-false, missed-none) steps 20000

  simple-at : (change : Change) → is_simple change ≡ true → Judges holder line false false false s (next change)
  simple-at change is = grind (arith, common_steps, simply, false≢true) steps 20000

  pub judges-simple : (b : Bool) (change : Change) → is_simple change ≡ true
      → Judges holder line false false false s (if b then next change else s)
  judges-simple true change is = simple-at change is
  judges-simple false change is = judges-plain holder line s

  pub judges-ends : (b : Bool) (block account : ℕ) (paid pays taking : Bool)
      → pays ≡ (b && ((block == e) && (account == holder.owner.account) && paid))
      → taking ≡ (b && takes holder e (is_held_at holder line s) block account paid)
      → Judges holder line pays taking false s (if b then next (Change.Ends block account paid) else s)
  judges-ends true block account paid pays taking pays_is taking_is =
      grind (arith, common_steps, missed-none) steps 20000
  judges-ends false block account paid pays taking pays_is taking_is =
      rw (pays_is, taking_is) (judges-plain holder line s)

  pub judges-meets : (b : Bool) (nodes tips : List ℕ) (unattended : Bool)
      → unattended ≡ (b && (is_held_at holder line s && not (has nodes holder.wallet || has tips e)))
      → Judges holder line false false unattended s (if b then next (Change.Meets nodes tips) else s)
  judges-meets b nodes tips unattended is = grind (arith, common_steps, or-false, false≢true, judges-plain) steps 20000

-- ---- tests of exits that end

pub pays-none : (b at paid : Bool) (me : Owner) → (b && at && is_own me None && paid) ≡ false
pays-none b at paid me = grind (arith, common_steps) steps 20000

pub takes-none : (b at paid held : Bool) (me : Owner)
    → (((b && is_others me None && paid) && held) || (b && at && is_own me None && not paid)) ≡ false
takes-none b at paid held me = grind (arith, common_steps) steps 20000

pub ends-none : (b at : Bool) (me : Owner) → (b && at && is_own me None) ≡ false
ends-none b at me = grind (arith, common_steps) steps 20000

-- by whether the exit is at the block, and is the wallet's
abbrev takes_by : Bool → Bool → Bool → Bool → Bool
takes_by held at own paid = if paid then not own && held else at && own

pub takes-some : (b at own paid held : Bool)
    → (((b && not own && paid) && held) || (b && at && own && not paid)) ≡ (b && takes_by held at own paid)
takes-some b at own paid held = grind (arith, common_steps) steps 20000

pub unattended-same : (b held guarded : Bool) → ((b && held) && not guarded) ≡ (b && (held && not guarded))
unattended-same true held guarded = refl
unattended-same false held guarded = refl
