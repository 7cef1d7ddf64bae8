-- The verdicts by facts are those of the events.
use Rattle.std.proofs.Common.{◌≡◌, ℕ, ◌+◌, Bool, List, [], ◌∷◌, ◌++◌, Option, Some, None, refl, ap, sym, ◌∙◌, arith}
use Rattle.std.specs.Prelude.{option_map}
use Rattle.std.specs.List.{filter_map, flat_map}
use Rattle.std.proofs.lemmas.Grind.{common_steps}
use Rattle.plasma_tx.specs.declared.call.RootCall.{RootCall}
use Rattle.plasma_tx.specs.Views.{coins, Exit}
use Rattle.plasma_tx.specs.Shown.{Tests, Rules}
use Rattle.plasma_tx.specs.Table.{IsLegal}
use Rattle.world_rules.specs.Events.{Event, Joins, Watches, log_of, wallet_owner}
use Rattle.world_rules.specs.Verdicts.{held_tip, verdict_at, Named, verdict_of, verdicts_on}
use Rattle.coin_verdicts.specs.declared.fact.Fact.{Fact}
use Rattle.coin_verdicts.specs.declared.note.Holder.{Holder}
use Rattle.coin_verdicts.specs.Facts.{ended, IsFact, AreFacts, OwnersStay}
use Rattle.coin_verdicts.specs.Notes.{notes_in}
use Rattle.coin_verdicts.specs.Standings.{standing_in, tip_in, kind_of}
use Rattle.coin_verdicts.specs.Wallets.{made_by, coins_in, verdict_in, verdicts_by, verdicts_where, verdicts_for}
use Rattle.coin_verdicts.proofs.Forms.{tick-form, watch-form}
use Rattle.coin_verdicts.proofs.Holders.{Nobody, Somebody, holder-is}
use Rattle.coin_verdicts.proofs.Ending.{ever-same, kind-same}
use Rattle.coin_verdicts.proofs.Tips.{tip-same}

-- ---- lists

filter_map-ext : {X Y : Type 0} (f g : X → Option Y) (xs : List X) → ((x : X) → f x ≡ g x)
    → filter_map f xs ≡ filter_map g xs
filter_map-ext f g [] same = refl
filter_map-ext f g (x ∷ xs) same = rw (same x, filter_map-ext f g xs same) refl

filter_map-nothing : {X Y : Type 0} (f : X → Option Y) (xs : List X) → ((x : X) → f x ≡ None) → filter_map f xs ≡ []
filter_map-nothing f [] none = refl
filter_map-nothing f (x ∷ xs) none = rw (none x) (filter_map-nothing f xs none)

flat_map-ext : {X Y : Type 0} (f g : X → List Y) (xs : List X) → ((x : X) → f x ≡ g x)
    → flat_map f xs ≡ flat_map g xs
flat_map-ext f g [] same = refl
flat_map-ext f g (x ∷ xs) same =
    ap (λ ys. ys ++ flat_map f xs) (same x) ∙ ap (λ ys. g x ++ ys) (flat_map-ext f g xs same)

map-twice : {X Y Z : Type 0} (f : X → Z) (g : Y → Z) (h : X → Y) (o : Option X) → ((x : X) → f x ≡ g (h x))
    → option_map f o ≡ option_map g (option_map h o)
map-twice f g h None same = refl
map-twice f g h (Some x) same = ap Some (same x)

-- ---- coins

ended-makes : (found : Option Exit) (coin block : ℕ) (paid : Bool) → made_by (ended found coin block paid) ≡ 0
ended-makes None coin block paid = refl
ended-makes (Some exit) coin block paid = refl

module _ (tests : Tests) (rules : Rules) where
  none-made : (made : ℕ) (count was : ℕ) → made ≡ 0 → count ≡ was → count + made ≡ was
  none-made made count was none same = omega arith

  coins-step : (event : Event) (events : List Event) (fact : Fact) (facts : List Fact)
      → IsFact tests rules events event fact → coins_in facts ≡ coins (log_of events)
      → coins_in facts + made_by fact ≡ coins (log_of (event ∷ events))
  unfolding log_of coins
  coins-step (Joins (RootCall.Deposit account amount key)) events fact facts h same =
      ap (λ k. coins_in facts + made_by k) h ∙ ap (λ n. n + 1) same
  coins-step (Joins (RootCall.Tick time)) events fact facts h same =
      grind (arith, common_steps, none-made, tick-form) steps 20000
  coins-step (Joins (RootCall.After account coin block spend)) events fact facts h same =
      grind (arith, common_steps, none-made, ended-makes) steps 20000
  coins-step (Joins (RootCall.Between account coin block spend)) events fact facts h same =
      grind (arith, common_steps, none-made, ended-makes) steps 20000
  coins-step (Joins (RootCall.Finish account coin block)) events fact facts h same =
      grind (arith, common_steps, none-made, ended-makes) steps 20000
  coins-step (Joins call) events fact facts h same =
      none-made (made_by fact) (coins_in facts) (coins (log_of events)) (ap made_by h) same
  coins-step (Watches n calls) events fact facts h same =
      none-made (made_by fact) (coins_in facts) (coins (log_of events)) (ap made_by (watch-form n calls fact h).is) same
  coins-step event events fact facts h same =
      none-made (made_by fact) (coins_in facts) (coins (log_of events)) (ap made_by h) same

  coins-same : (events : List Event) (facts : List Fact) → AreFacts tests rules events facts
      → coins_in facts ≡ coins (log_of events)
  unfolding coins_in log_of coins
  coins-same [] [] are = refl
  coins-same [] (fact ∷ facts) are = elim are [ ]
  coins-same (event ∷ events) [] are = elim are [ ]
  coins-same (event ∷ events) (fact ∷ facts) are =
      coins-step event events fact facts are.0 (coins-same events facts are.1)

  module _ (events : List Event) (facts : List Fact) (are : AreFacts tests rules events facts)
      (legal : IsLegal rules (log_of events)) (stay : OwnersStay events) where
    -- ---- one wallet

    undeclared : (wallet : Named) → wallet_owner events wallet.number ≡ None
        → verdicts_on tests rules events wallet ≡ []
    undeclared wallet none = grind (arith, common_steps, filter_map-nothing) steps 20000

    -- the verdict on one coin
    coin-same : (wallet : Named) (holder : Holder) (c : ℕ) → holder.wallet ≡ wallet.number
        → wallet_owner events wallet.number ≡ Some holder.owner
        → ((e : ℕ) → verdict_at tests rules events holder.owner holder.wallet c e
        ≡ kind_of (standing_in holder e (notes_in facts c)))
        → held_tip events holder.wallet c ≡ tip_in holder (notes_in facts c)
        → verdict_of tests rules events wallet c ≡ verdict_in facts holder wallet.name c
    coin-same wallet holder c own is kinds tips = grind (arith, common_steps, map-twice) steps 20000

    pub wallet-same : (wallet : Named) → verdicts_for facts wallet ≡ verdicts_on tests rules events wallet
    wallet-same wallet =
        elim (holder-is tests rules events facts wallet.number are stay) [
          | Nobody found none ↦ ap (verdicts_where facts wallet.name) found ∙ sym (undeclared wallet none)
          | Somebody holder found own is early so ↦
              ap (verdicts_where facts wallet.name) found
              ∙ ap (λ n. verdicts_by facts holder wallet.name n) (coins-same events facts are)
              ∙ sym (grind (arith, common_steps, filter_map-ext, coin-same, kind-same, tip-same, ever-same) steps 20000)
        ]

    pub all-same : (wallets : List Named)
        → flat_map (verdicts_for facts) wallets ≡ flat_map (verdicts_on tests rules events) wallets
    all-same wallets =
        flat_map-ext (verdicts_for facts) (verdicts_on tests rules events) wallets wallet-same
