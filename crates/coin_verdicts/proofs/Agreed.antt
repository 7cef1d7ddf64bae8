-- The standing that a coin's notes come to agrees with the events, at each of them.
use Rattle.std.proofs.Common.{◌≡◌, ℕ, ◌+◌, ◌==◌, ◌&&◌, ◌||◌, Bool, true, false, List, [], ◌∷◌, ◌++◌, length, Option, Some, None, refl, ap, sym, ◌∙◌, arith}
use Rattle.std.specs.List.{list_any}
use Rattle.std.proofs.lemmas.Bool.{eqb-true}
use Rattle.std.proofs.lemmas.List.{length-map}
use Rattle.std.proofs.lemmas.Grind.{common_steps}
use Rattle.plasma_tx.specs.declared.call.RootCall.{RootCall}
use Rattle.plasma_tx.specs.Views.{blocks, coins, coin_at, Exit, exit_at}
use Rattle.plasma_tx.specs.Shown.{Tests, Rules}
use Rattle.plasma_tx.specs.Table.{answer_to}
use Rattle.plasma_tx.specs.RuleLaws.{pays_coin, was_paid}
use Rattle.world_rules.specs.Events.{Event, Joins, Accepts, Binds, TakesBack, Watches, log_of, accepted, bound_by, taken_back, leaf_at, not_taken, signed_away_by, is_bundle}
use Rattle.world_rules.specs.Safety.{was_deposited}
use Rattle.world_rules.specs.Verdicts.{is_finish_paid}
use Rattle.coin_verdicts.specs.declared.fact.Fact.{Fact}
use Rattle.coin_verdicts.specs.declared.note.Holder.{Holder}
use Rattle.coin_verdicts.specs.declared.note.Standing.{Standing}
use Rattle.coin_verdicts.specs.Facts.{has, ended, IsFact, AreFacts}
use Rattle.coin_verdicts.specs.Notes.{bound_in, taken_in, wallets_in, quiet_in, guards_in, wallets_at, tips_at, leaf_in, changes_in, noted, notes_in}
use Rattle.coin_verdicts.specs.Standings.{standing_in}
use Rattle.coin_verdicts.proofs.Forms.{tick-form, watch-form}
use Rattle.coin_verdicts.proofs.Lists.{eqb-comm}
use Rattle.coin_verdicts.proofs.Views.{leaf_of, bound-same, taken-same}
use Rattle.coin_verdicts.proofs.SentLeaves.{is_body, count_of, leaf-same}
use Rattle.coin_verdicts.proofs.OneLine.{after-each}
use Rattle.coin_verdicts.proofs.Agreeing.{Agrees, after-deposits, after-accepts, after-binds, after-returns, after-ends, meets-at}

-- the standing says of a coin at a block what the events say
abbrev pub AgreesAt : Rules → List Event → Holder → ℕ → ℕ → Standing → Type 0
AgreesAt rules events holder c e s =
    Agrees (was_deposited holder.owner e (coin_at (log_of events) c))
    (list_any (is_bundle c e) (accepted events holder.wallet))
    (count_of (is_body c e) (signed_away_by events holder.wallet)) (was_paid rules (log_of events) c) s

-- a finish of no exit isn't paid
pub none-paid : (tests : Tests) (rules : Rules) (log : List RootCall) (account coin block : ℕ)
    → exit_at log coin block ≡ None → is_finish_paid tests rules log account coin block ≡ false
unfolding answer_to
none-paid tests rules log account coin block none = rw none refl

-- no test has a say in whether a finish pays
pays-same : (tests : Tests) (rules : Rules) (log : List RootCall) (account c coin block : ℕ)
    → pays_coin rules log c (RootCall.Finish account coin block)
    ≡ ((coin == c) && is_finish_paid tests rules log account coin block)
unfolding answer_to
pays-same tests rules log account c coin block = refl

and-false : (a : Bool) → (a && false) ≡ false
and-false true = refl
and-false false = refl

module _ (tests : Tests) (rules : Rules) (holder : Holder) (c e : ℕ) where
  abbrev standing : List Fact → Standing
  standing facts = standing_in holder e (notes_in facts c)

  module _ (events : List Event) (facts : List Fact) (are : AreFacts tests rules events facts)
      (same : AgreesAt rules events holder c e (standing facts)) where
    abbrev dep : Bool
    dep = was_deposited holder.owner e (coin_at (log_of events) c)

    abbrev acc : Bool
    acc = list_any (is_bundle c e) (accepted events holder.wallet)

    abbrev sent : ℕ
    sent = count_of (is_body c e) (signed_away_by events holder.wallet)

    abbrev out : Bool
    out = was_paid rules (log_of events) c

    -- an exit that stands ends, or none does
    ended-step : (found : Option Exit) (coin block : ℕ) (paid : Bool) → (found ≡ None → paid ≡ false)
        → Agrees dep acc sent (((coin == c) && paid) || out)
        (standing_in holder e (noted (length facts + 1) (changes_in facts c (ended found coin block paid))
        ++ notes_in facts c))
    ended-step None coin block paid none =
        rw (none refl, and-false (coin == c)) same
    ended-step (Some exit) coin block paid none =
        after-ends holder e (length facts + 1) (notes_in facts c) dep acc sent out same (coin == c) block exit.account
        paid

    ended-unpaid : (found : Option Exit) (coin block : ℕ)
        → Agrees dep acc sent out
        (standing_in holder e (noted (length facts + 1) (changes_in facts c (ended found coin block false))
        ++ notes_in facts c))
    ended-unpaid found coin block = grind (arith, common_steps, ended-step, and-false) steps 20000

    call-step : (call : RootCall) (fact : Fact) → IsFact tests rules events (Joins call) fact
        → AgreesAt rules (Joins call ∷ events) holder c e (standing (fact ∷ facts))
    unfolding log_of accepted bound_by taken_back coin_at was_paid notes_in
    call-step (RootCall.Deposit account amount key) fact h =
        rw (h, eqb-comm c (coins (log_of events) + 1))
        (after-deposits holder e (length facts + 1) (notes_in facts c) dep acc sent out same
        (coins (log_of events) + 1 == c) (blocks (log_of events) + 1) amount (record { account = account; key = key })
        (coin_at (log_of events) c) refl)
    call-step (RootCall.Tick time) fact h =
        let form = tick-form (log_of events) time fact h in
        rw (
          form.is,
          after-each holder e (length facts + 1) c (wallets_at (quiet_in facts c) (wallets_in facts))
              (tips_at (quiet_in facts c) (guards_in facts c)) form.met (notes_in facts c),
        )
        (meets-at holder e (length facts + 1) (notes_in facts c) dep acc sent out same (has form.met c)
        (wallets_at (quiet_in facts c) (wallets_in facts))
        (tips_at (quiet_in facts c) (guards_in facts c)))
    call-step (RootCall.After account coin block spend) fact h =
        rw h (ended-unpaid (exit_at (log_of events) coin block) coin block)
    call-step (RootCall.Between account coin block spend) fact h =
        rw h (ended-unpaid (exit_at (log_of events) coin block) coin block)
    call-step (RootCall.Finish account coin block) fact h =
        rw (h, pays-same tests rules (log_of events) account c coin block)
        (ended-step (exit_at (log_of events) coin block) coin block
        (is_finish_paid tests rules (log_of events) account coin block)
        (none-paid tests rules (log_of events) account coin block))
    call-step call fact h = rw h same

    bound-length : (w : ℕ) → length (bound_in facts w) ≡ length (bound_by events w)
    bound-length w = ap length (bound-same tests rules events facts w are) ∙ length-map (bound_by events w) leaf_of

    event-step : (event : Event) (fact : Fact) → IsFact tests rules events event fact
        → AgreesAt rules (event ∷ events) holder c e (standing (fact ∷ facts))
    unfolding log_of accepted bound_by taken_back coin_at was_paid notes_in
    event-step (Joins call) fact h = call-step call fact h
    event-step (Accepts v bundle) fact h =
        rw h (after-accepts holder e (length facts + 1) (notes_in facts c) dep acc sent out same v c bundle
        (accepted events holder.wallet) refl)
    event-step (Binds v body) fact h =
        rw h (after-binds holder e (length facts + 1) (notes_in facts c) dep acc sent out same v c
        (has (taken_in facts v) (length (bound_in facts v))) (taken_back events holder.wallet) body
        (bound_by events holder.wallet)
        (grind (arith, common_steps, eqb-true, bound-length, taken-same) steps 20000)
        refl)
    event-step (TakesBack v q bundle) fact h =
        rw (
          h,
          ap (λ leaves. leaf_in q leaves) (bound-same tests rules events facts v are),
          leaf-same q (bound_by events v),
        )
        (after-returns holder e (length facts + 1) (notes_in facts c) dep acc sent out same v c q
        (has (taken_in facts v) q) (taken_back events holder.wallet) (bound_by events holder.wallet)
        (leaf_at q (bound_by events v))
        (grind (arith, common_steps, eqb-true, taken-same) steps 20000)
        (λ own. ap (λ w. leaf_at q (bound_by events w)) (sym (eqb-true v holder.wallet own)))
        refl)
    event-step (Watches n calls) fact h = rw (watch-form n calls fact h).is same
    event-step event fact h = rw h same

  pub agreed : (events : List Event) (facts : List Fact) → AreFacts tests rules events facts
      → AgreesAt rules events holder c e (standing facts)
  unfolding log_of accepted bound_by taken_back coin_at was_paid notes_in standing_in not_taken
  agreed [] [] h = record { deposited_is = refl; accepted_is = refl; sent_is = refl; withdrawn_is = refl }
  agreed [] (fact ∷ facts) h = elim h [ ]
  agreed (event ∷ events) [] h = elim h [ ]
  agreed (event ∷ events) (fact ∷ facts) h = event-step events facts h.1 (agreed events facts h.1) event fact h.0
