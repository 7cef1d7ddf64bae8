-- The blocks at which a wallet may have held a coin, by its notes, are those that events say.
use Rattle.std.proofs.Common.{◌≡◌, ℕ, ◌+◌, ◌==◌, ◌&&◌, not, Bool, true, false, if◌then◌else◌, List, [], ◌∷◌, ◌++◌, length, map, filter, Option, Some, None, refl, arith}
use Rattle.std.proofs.lemmas.Bool.{false≢true}
use Rattle.std.proofs.lemmas.Grind.{common_steps}
use Rattle.plasma_tx.specs.declared.owner.Owner.{Owner}
use Rattle.plasma_tx.specs.declared.call.RootCall.{RootCall}
use Rattle.plasma_tx.specs.declared.views.CoinView.{CoinView}
use Rattle.plasma_tx.specs.Views.{blocks, coins, coin_at, Exit, exit_at}
use Rattle.plasma_tx.specs.Shown.{Tests, Rules}
use Rattle.coin_history.specs.declared.bundle.Bundle.{Bundle}
use Rattle.wallet_core.specs.State.{own_deposit}
use Rattle.world_rules.specs.Events.{Event, Joins, Accepts, Binds, TakesBack, Watches, log_of, wallet_owner, accepted}
use Rattle.world_rules.specs.Verdicts.{ever_held, held_tip, is_finish_paid}
use Rattle.coin_verdicts.specs.declared.fact.Fact.{Fact}
use Rattle.coin_verdicts.specs.declared.note.Note.{Note}
use Rattle.coin_verdicts.specs.declared.note.Change.{Change}
use Rattle.coin_verdicts.specs.declared.note.Holder.{Holder}
use Rattle.coin_verdicts.specs.declared.note.Leaf.{Leaf}
use Rattle.coin_verdicts.specs.Facts.{has, ended, IsFact, AreFacts}
use Rattle.coin_verdicts.specs.Notes.{wallets_in, bound_in, taken_in, quiet_in, guards_in, meets, leaf_in, where_so, each_time, returned, changes_in, noted, notes_in}
use Rattle.coin_verdicts.specs.Standings.{deposited_in, tips_in, was_held, tip_in}
use Rattle.coin_verdicts.proofs.Forms.{tick-form, watch-form}
use Rattle.coin_verdicts.proofs.Lists.{eqb-comm}

-- a change that says no tip, and no deposit
abbrev is_tipless : Change → Bool
is_tipless (Change.Deposits block owner) = false
is_tipless (Change.Accepts wallet tip) = false
is_tipless change = true

-- the tips and the deposit that these notes say, of a wallet and an owner
pub record SaysTips (w : ℕ) (me : Owner) (tips deposit : List ℕ) (notes : List Note) : Type 0 where
  pub tips_are : tips_in w notes ≡ tips
  pub deposit_is : deposited_in me notes ≡ deposit

module _ (w : ℕ) (me : Owner) (line : ℕ) (notes : List Note) (tips deposit : List ℕ)
    (same : SaysTips w me tips deposit notes) where
  one-more : (change : Change) → is_tipless change ≡ true
      → SaysTips w me tips deposit (record { line = line; change = change } ∷ notes)
  unfolding tips_in deposited_in
  one-more change is = grind (arith, common_steps, false≢true) steps 20000

  where-more : (b : Bool) (change : Change) → is_tipless change ≡ true
      → SaysTips w me tips deposit (noted line (where_so b change) ++ notes)
  where-more true change is = one-more change is
  where-more false change is = same

  returned-more : (c v : ℕ) (b : Bool) (found : Option Leaf)
      → SaysTips w me tips deposit (noted line (if b then [] else returned c v found) ++ notes)
  returned-more c v true found = same
  returned-more c v false None = same
  returned-more c v false (Some leaf) = where-more (leaf.coin == c) (Change.Returns v leaf.parent) refl

  ended-more : (facts : List Fact) (c : ℕ) (found : Option Exit) (coin block : ℕ) (paid : Bool)
      → SaysTips w me tips deposit (noted line (changes_in facts c (ended found coin block paid)) ++ notes)
  ended-more facts c None coin block paid = same
  ended-more facts c (Some exit) coin block paid = where-more (coin == c) (Change.Ends block exit.account paid) refl

  accepts-more : (b : Bool) (v : ℕ) (bundle : Bundle) (c : ℕ) (bundles : List Bundle) → (bundle.coin == c) ≡ b
      → map (λ one. one.tip) (filter (λ one. one.coin == c) bundles) ≡ tips
      → SaysTips w me
      (map (λ one. one.tip) (filter (λ one. one.coin == c) (if v == w then bundle ∷ bundles else bundles))) deposit
      (noted line (where_so b (Change.Accepts v bundle.tip)) ++ notes)
  unfolding tips_in deposited_in
  accepts-more b v bundle c bundles coin was = grind (arith, common_steps) steps 20000

  deposits-more : (b : Bool) (block amount : ℕ) (owner : Owner) (made : Option CoinView) → own_deposit me made ≡ deposit
      → SaysTips w me tips
      (own_deposit me (if b then Some (record { deposit = block; amount = amount; owner = owner }) else made))
      (noted line (where_so b (Change.Deposits block owner)) ++ notes)
  unfolding tips_in deposited_in
  deposits-more b block amount owner made was = grind (arith, common_steps) steps 20000

each-more : (w : ℕ) (me : Owner) (line : ℕ) (notes : List Note) (tips deposit : List ℕ)
    → SaysTips w me tips deposit notes → (c : ℕ) (change : Change) (met : List ℕ) → is_tipless change ≡ true
    → SaysTips w me tips deposit (noted line (each_time c change met) ++ notes)
each-more w me line notes tips deposit same c change [] is = same
each-more w me line notes tips deposit same c change (m ∷ met) is =
    at (m == c) (each-more w me line notes tips deposit same c change met is)
  where
    at : (b : Bool) → SaysTips w me tips deposit (noted line (each_time c change met) ++ notes)
        → SaysTips w me tips deposit
        (noted line (if b then change ∷ each_time c change met else each_time c change met) ++ notes)
    at true rest =
        one-more w me line (noted line (each_time c change met) ++ notes) tips deposit rest change is
    at false rest = rest

module _ (tests : Tests) (rules : Rules) (w : ℕ) (me : Owner) (c : ℕ) where
  abbrev SaysTipsOf : List Event → List Fact → Type 0
  SaysTipsOf events facts =
      SaysTips w me (map (λ bundle. bundle.tip) (filter (λ bundle. bundle.coin == c) (accepted events w)))
      (own_deposit me (coin_at (log_of events) c)) (notes_in facts c)

  module _ (events : List Event) (facts : List Fact) (same : SaysTipsOf events facts) where
    abbrev tips : List ℕ
    tips = map (λ bundle. bundle.tip) (filter (λ bundle. bundle.coin == c) (accepted events w))

    abbrev deposit : List ℕ
    deposit = own_deposit me (coin_at (log_of events) c)

    call-tips : (call : RootCall) (fact : Fact) → IsFact tests rules events (Joins call) fact
        → SaysTipsOf (Joins call ∷ events) (fact ∷ facts)
    unfolding log_of accepted coin_at notes_in
    call-tips (RootCall.Deposit account amount key) fact h =
        rw (h, eqb-comm c (coins (log_of events) + 1))
        (deposits-more w me (length facts + 1) (notes_in facts c) tips deposit same (coins (log_of events) + 1 == c)
        (blocks (log_of events) + 1) amount (record { account = account; key = key }) (coin_at (log_of events) c) refl)
    call-tips (RootCall.Tick time) fact h =
        let form = tick-form (log_of events) time fact h in
        rw form.is (each-more w me (length facts + 1) (notes_in facts c) tips deposit same c
        (meets c (wallets_in facts) (quiet_in facts) (guards_in facts c)) form.met refl)
    call-tips (RootCall.After account coin block spend) fact h =
        rw h (ended-more w me (length facts + 1) (notes_in facts c) tips deposit same facts c
        (exit_at (log_of events) coin block) coin block false)
    call-tips (RootCall.Between account coin block spend) fact h =
        rw h (ended-more w me (length facts + 1) (notes_in facts c) tips deposit same facts c
        (exit_at (log_of events) coin block) coin block false)
    call-tips (RootCall.Finish account coin block) fact h =
        rw h (ended-more w me (length facts + 1) (notes_in facts c) tips deposit same facts c
        (exit_at (log_of events) coin block) coin block
        (is_finish_paid tests rules (log_of events) account coin block))
    call-tips call fact h = rw h same

    event-tips : (event : Event) (fact : Fact) → IsFact tests rules events event fact
        → SaysTipsOf (event ∷ events) (fact ∷ facts)
    unfolding log_of accepted coin_at notes_in
    event-tips (Joins call) fact h = call-tips call fact h
    event-tips (Accepts v bundle) fact h =
        rw h (accepts-more w me (length facts + 1) (notes_in facts c) tips deposit same (bundle.coin == c) v bundle c
        (accepted events w) refl refl)
    event-tips (Binds v body) fact h =
        rw h (where-more w me (length facts + 1) (notes_in facts c) tips deposit same
        ((body.coin == c) && not (has (taken_in facts v) (length (bound_in facts v)))) (Change.Sends v body.parent)
        refl)
    event-tips (TakesBack v q bundle) fact h =
        rw h (returned-more w me (length facts + 1) (notes_in facts c) tips deposit same c v
        (has (taken_in facts v) q) (leaf_in q (bound_in facts v)))
    event-tips (Watches n calls) fact h = rw (watch-form n calls fact h).is same
    event-tips event fact h = rw h same

  pub says-tips : (events : List Event) (facts : List Fact) → AreFacts tests rules events facts
      → SaysTipsOf events facts
  unfolding log_of accepted coin_at notes_in tips_in deposited_in
  says-tips [] [] h = record { tips_are = refl; deposit_is = refl }
  says-tips [] (fact ∷ facts) h = elim h [ ]
  says-tips (event ∷ events) [] h = elim h [ ]
  says-tips (event ∷ events) (fact ∷ facts) h = event-tips events facts (says-tips events facts h.1) event fact h.0

filter-ext : {X : Type 0} (p q : X → Bool) (xs : List X) → ((x : X) → p x ≡ q x) → filter p xs ≡ filter q xs
filter-ext p q [] same = refl
filter-ext p q (x ∷ xs) same = rw (same x, filter-ext p q xs same) refl

-- the greatest block at which a wallet ever held a coin is the one that its notes say
pub tip-same : (tests : Tests) (rules : Rules) (holder : Holder) (c : ℕ) (events : List Event) (facts : List Fact)
    → AreFacts tests rules events facts → wallet_owner events holder.wallet ≡ Some holder.owner
    → ((e : ℕ) → ever_held events holder.wallet c e ≡ was_held holder (notes_in facts c) e)
    → held_tip events holder.wallet c ≡ tip_in holder (notes_in facts c)
unfolding held_tip tip_in
tip-same tests rules holder c events facts are owner ever =
    grind (arith, common_steps, says-tips, filter-ext) steps 20000
