-- Of the quiet nodes a note names those that are wallets: it says as much of a wallet that holds the coin.
use Rattle.std.proofs.Common.{◌≡◌, ℕ, ◌==◌, ◌&&◌, ◌||◌, not, Bool, true, false, List, [], ◌∷◌, ◌++◌, Some, None, refl, sym, arith}
use Rattle.std.proofs.lemmas.Bool.{false≢true, eqb-true, or_left, or_right}
use Rattle.std.proofs.lemmas.List.Folds.{list_any-append}
use Rattle.std.proofs.lemmas.Grind.{common_steps}
use Rattle.plasma_tx.specs.declared.owner.Owner.{Owner}
use Rattle.plasma_tx.specs.Shown.{Tests, Rules}
use Rattle.world_rules.specs.Events.{Event, Declares, wallet_owner}
use Rattle.world_rules.specs.Safety.{holds}
use Rattle.coin_verdicts.specs.declared.fact.Fact.{Fact}
use Rattle.coin_verdicts.specs.Facts.{has, IsFact, AreFacts}
use Rattle.coin_verdicts.specs.Notes.{wallets_after, wallets_in, wallets_at}

-- ---- declared wallets

declared-last : (wallets : List ℕ) (wallet w : ℕ) → (wallet == w) ≡ true → has (wallets ++ wallet ∷ []) w ≡ true
declared-last wallets wallet w own = grind (arith, common_steps, list_any-append, or_right, or_left) steps 20000

-- a wallet stays declared
declared-still : (fact : Fact) (wallets : List ℕ) (w : ℕ) → has wallets w ≡ true
    → has (wallets_after wallets fact) w ≡ true
declared-still fact wallets w is = grind (arith, common_steps, list_any-append, or_left) steps 20000

module _ (tests : Tests) (rules : Rules) where
  declared-step : (event : Event) (events : List Event) (fact : Fact) (wallets : List ℕ) (w : ℕ) (me : Owner)
      → IsFact tests rules events event fact → (wallet_owner events w ≡ Some me → has wallets w ≡ true)
      → wallet_owner (event ∷ events) w ≡ Some me → has (wallets_after wallets fact) w ≡ true
  unfolding wallet_owner
  declared-step (Declares v one) events fact wallets w me h was is =
      grind (arith, common_steps, declared-last, declared-still) steps 20000
  declared-step event events fact wallets w me h was is = declared-still fact wallets w (was is)

  owner-declared : (events : List Event) (facts : List Fact) (w : ℕ) (me : Owner) → AreFacts tests rules events facts
      → wallet_owner events w ≡ Some me → has (wallets_in facts) w ≡ true
  unfolding wallets_in wallet_owner
  owner-declared [] [] w me h is = absurd (let wrong : None ≡ Some me = is in cc wrong)
  owner-declared [] (fact ∷ facts) w me h is = elim h [ ]
  owner-declared (event ∷ events) [] w me h is = elim h [ ]
  owner-declared (event ∷ events) (fact ∷ facts) w me h is =
      declared-step event events fact (wallets_in facts) w me h.0 (owner-declared events facts w me h.1) is

  -- a wallet that holds a coin is declared
  pub holder-declared : (events : List Event) (facts : List Fact) (w c e : ℕ) → AreFacts tests rules events facts
      → holds events w c e ≡ true → has (wallets_in facts) w ≡ true
  unfolding holds
  holder-declared events facts w c e h is = grind (arith, common_steps, false≢true, owner-declared) steps 20000

-- ---- quiet wallets

and-false : (b : Bool) → (b && false) ≡ false
and-false true = refl
and-false false = refl

and-true : (b : Bool) → (b && true) ≡ b
and-true true = refl
and-true false = refl

has-wallets_at : (is_quiet : ℕ → Bool) (wallets : List ℕ) (w : ℕ)
    → has (wallets_at is_quiet wallets) w ≡ (is_quiet w && has wallets w)
has-wallets_at is_quiet [] w = sym (and-false (is_quiet w))
has-wallets_at is_quiet (x ∷ xs) w = grind (arith, common_steps, has-wallets_at is_quiet xs w, eqb-true) steps 20000

-- whether a wallet that holds a coin is quiet or its tip is guarded, by the wallets alone
pub quiet-among : (held : Bool) (is_quiet : ℕ → Bool) (wallets : List ℕ) (w : ℕ) (guarded : Bool)
    → (held ≡ true → has wallets w ≡ true)
    → (held && not (is_quiet w || guarded)) ≡ (held && not (has (wallets_at is_quiet wallets) w || guarded))
quiet-among held is_quiet wallets w guarded so = grind (arith, common_steps, has-wallets_at, and-true) steps 20000
