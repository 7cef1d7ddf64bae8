-- What a standing says of payments, of taking and of ticks that nobody attended is what the events say.
use Rattle.std.proofs.Common.{◌≡◌, ℕ, ◌+◌, ◌==◌, ◌&&◌, ◌||◌, not, Bool, true, false, if◌then◌else◌, List, [], ◌∷◌, ◌++◌, length, Option, Some, None, refl, ap, sym, ◌∙◌, arith}
use Rattle.std.specs.Option.{option_or}
use Rattle.std.proofs.lemmas.Grind.{common_steps}
use Rattle.plasma_tx.specs.declared.call.RootCall.{RootCall}
use Rattle.plasma_tx.specs.Views.{Exit, exit_at}
use Rattle.plasma_tx.specs.Shown.{Tests, Rules}
use Rattle.plasma_tx.specs.Table.{IsLegal}
use Rattle.plasma_tx.proofs.Ends.{withdrawn_is_paid}
use Rattle.world_rules.specs.Events.{Event, Joins, Accepts, Binds, TakesBack, Watches, log_of, wallet_owner, accepted, signed_away_by}
use Rattle.world_rules.specs.Safety.{holds_with, holds, meets_deadline, goes_unattended, is_guarded, is_own}
use Rattle.world_rules.specs.Verdicts.{is_others, pays_own, takes_from}
use Rattle.coin_verdicts.specs.declared.fact.Fact.{Fact}
use Rattle.coin_verdicts.specs.declared.note.Change.{Change}
use Rattle.coin_verdicts.specs.declared.note.Holder.{Holder}
use Rattle.coin_verdicts.specs.declared.note.Leaf.{Leaf}
use Rattle.coin_verdicts.specs.declared.note.Standing.{Standing}
use Rattle.coin_verdicts.specs.Facts.{has, ended, IsFact, AreFacts}
use Rattle.coin_verdicts.specs.Notes.{wallets_in, bound_in, taken_in, quiet_in, guards_in, wallets_at, tips_at, leaf_in, where_so, returned, changes_in, noted, notes_in}
use Rattle.coin_verdicts.specs.Standings.{has_coin, is_held_at, standing_in}
use Rattle.coin_verdicts.proofs.Forms.{tick-form, watch-form, as-many}
use Rattle.coin_verdicts.proofs.GuardedTips.{guarded-same}
use Rattle.coin_verdicts.proofs.QuietWallets.{holder-declared, quiet-among}
use Rattle.coin_verdicts.proofs.SentLeaves.{is_body, count_of, sent-counted}
use Rattle.coin_verdicts.proofs.OneLine.{after-where, after-each}
use Rattle.coin_verdicts.proofs.Agreed.{AgreesAt, agreed}
use Rattle.coin_verdicts.proofs.Holders.{owner_by, IsDeclaredSo}
use Rattle.coin_verdicts.proofs.Judging.{Judges, is_simple, judges-plain, judges-simple, judges-ends, judges-meets, pays-none, takes-none, ends-none, takes-some, unattended-same}

unpaid : (b at own : Bool) → false ≡ (b && (at && own && false))
unpaid b at own = grind (arith, common_steps) steps 20000

pays-some : (b at own paid : Bool) → (b && at && own && paid) ≡ (b && (at && own && paid))
pays-some true at own paid = refl
pays-some false at own paid = refl

ends-some : (b at own : Bool) → (b && at && own) ≡ (b && (at && own))
ends-some true at own = refl
ends-some false at own = refl

or-none : (o : Option ℕ) → option_or o None ≡ o
or-none None = refl
or-none (Some n) = refl

not-not : (b : Bool) → not (not b) ≡ b
not-not true = refl
not-not false = refl

pub owner-here : (holder : Holder) (events : List Event) → IsDeclaredSo holder events
    → wallet_owner events holder.wallet ≡ owner_by holder (length events + 1)
owner-here holder [] so = so
owner-here holder (event ∷ events) so = grind (arith, common_steps, owner_by) steps 20000

module _ (tests : Tests) (rules : Rules) (holder : Holder) (c e : ℕ) where
  abbrev standing : List Fact → Standing
  standing facts = standing_in holder e (notes_in facts c)

  -- the wallet holds the coin behind the events exactly where the standing says so
  pub holds-same : (events : List Event) (facts : List Fact) → AreFacts tests rules events facts
      → IsLegal rules (log_of events) → IsDeclaredSo holder events
      → holds events holder.wallet c e ≡ is_held_at holder (length facts + 1) (standing facts)
  unfolding holds
  holds-same events facts are legal so =
      grind (arith, common_steps, owner-here, owner_by, as-many, at, agreed) steps 20000
    where
      at : (b : Bool) → AgreesAt rules events holder c e (standing facts)
          → holds_with (log_of events) (if b then Some holder.owner else None) (signed_away_by events holder.wallet)
          (accepted events holder.wallet) c e
          ≡ (b && has_coin (standing facts))
      at false same = refl
      at true same =
          grind (arith, common_steps, sent-counted, withdrawn_is_paid, not-not, count_of, is_body) steps 20000

  module _ (events : List Event) (facts : List Fact) (are : AreFacts tests rules events facts)
      (held_is : holds events holder.wallet c e ≡ is_held_at holder (length facts + 1) (standing facts)) where
    -- the line does to the standing what it does to the verdict
    abbrev JudgedBy : Event → Fact → Type 0
    JudgedBy event fact =
        Judges holder (length facts + 1) (pays_own tests rules (log_of events) holder.owner c e event)
        (takes_from tests rules events holder.owner holder.wallet c e event)
        (goes_unattended events holder.wallet c e event) (standing facts) (standing (fact ∷ facts))

    simple : (b : Bool) (change : Change) → is_simple change ≡ true
        → Judges holder (length facts + 1) false false false (standing facts)
        (standing_in holder e (noted (length facts + 1) (where_so b change) ++ notes_in facts c))
    simple b change is = grind (arith, common_steps, after-where, judges-simple) steps 20000

    plain : Judges holder (length facts + 1) false false false (standing facts) (standing facts)
    plain = judges-plain holder (length facts + 1) (standing facts)

    finish-step : (found : Option Exit) (coin block : ℕ) (paid : Bool)
        → Judges holder (length facts + 1)
        ((coin == c) && (block == e) && is_own holder.owner found && paid)
        ((((coin == c) && is_others holder.owner found && paid) && holds events holder.wallet c e)
        || ((coin == c) && (block == e) && is_own holder.owner found && not paid))
        false (standing facts)
        (standing_in holder e (noted (length facts + 1) (changes_in facts c (ended found coin block paid))
        ++ notes_in facts c))
    finish-step None coin block paid = grind (arith, common_steps, pays-none, takes-none, plain) steps 20000
    finish-step (Some exit) coin block paid =
        grind (arith, common_steps, after-where, judges-ends, pays-some, takes-some) steps 20000

    cancel-step : (found : Option Exit) (coin block : ℕ)
        → Judges holder (length facts + 1) false
        ((coin == c) && (block == e) && is_own holder.owner found)
        false (standing facts)
        (standing_in holder e (noted (length facts + 1) (changes_in facts c (ended found coin block false))
        ++ notes_in facts c))
    cancel-step None coin block = rw (ends-none (coin == c) (block == e) holder.owner) plain
    cancel-step (Some exit) coin block =
        rw (after-where holder e (length facts + 1) (coin == c) (Change.Ends block exit.account false)
        (notes_in facts c))
        (judges-ends holder e (length facts + 1) (standing facts) (coin == c) block exit.account false _ _
        (unpaid (coin == c) (block == e) (exit.account == holder.owner.account))
        (ends-some (coin == c) (block == e) (exit.account == holder.owner.account)))

    returned-step : (v : ℕ) (found : Option Leaf)
        → Judges holder (length facts + 1) false false false (standing facts)
        (standing_in holder e (noted (length facts + 1) (returned c v found) ++ notes_in facts c))
    returned-step v None = plain
    returned-step v (Some leaf) = simple (leaf.coin == c) (Change.Returns v leaf.parent) refl

    taken-step : (v : ℕ) (b : Bool) (found : Option Leaf)
        → Judges holder (length facts + 1) false false false (standing facts)
        (standing_in holder e (noted (length facts + 1) (if b then [] else returned c v found) ++ notes_in facts c))
    taken-step v true found = plain
    taken-step v false found = returned-step v found

    call-judged : (call : RootCall) (fact : Fact) → IsFact tests rules events (Joins call) fact
        → JudgedBy (Joins call) fact
    unfolding notes_in
    call-judged (RootCall.Deposit account amount key) fact h = grind (arith, common_steps, simple) steps 20000
    call-judged (RootCall.Tick time) fact h =
        let form = tick-form (log_of events) time fact h in
        rw (
          form.is,
          after-each holder e (length facts + 1) c (wallets_at (quiet_in facts c) (wallets_in facts))
              (tips_at (quiet_in facts c) (guards_in facts c)) form.met (notes_in facts c),
        )
        (judges-meets holder e (length facts + 1) (standing facts) (has form.met c)
        (wallets_at (quiet_in facts c) (wallets_in facts))
        (tips_at (quiet_in facts c) (guards_in facts c))
        (goes_unattended events holder.wallet c e (Joins (RootCall.Tick time)))
        (unattended-same (meets_deadline (log_of events) c (Joins (RootCall.Tick time)))
        (holds events holder.wallet c e) (is_guarded events holder.wallet c e)
        ∙ ap (λ b. b && (holds events holder.wallet c e && not (is_guarded events holder.wallet c e)))
        (sym (form.those c))
        ∙ ap (λ b. has form.met c && (b && not (is_guarded events holder.wallet c e))) held_is
        ∙ ap (λ b. has form.met c && (is_held_at holder (length facts + 1) (standing facts) && not b))
        (sym (guarded-same tests rules events facts holder.wallet c e are))
        ∙ ap (λ b. has form.met c && b)
        (grind (arith, common_steps, quiet-among, holder-declared) steps 20000)))
    call-judged (RootCall.After account coin block spend) fact h =
        rw h (cancel-step (exit_at (log_of events) coin block) coin block)
    call-judged (RootCall.Between account coin block spend) fact h =
        rw h (cancel-step (exit_at (log_of events) coin block) coin block)
    call-judged (RootCall.Finish account coin block) fact h = grind (arith, common_steps, finish-step) steps 20000
    call-judged call fact h = rw h plain

    pub event-judged : (event : Event) (fact : Fact) → IsFact tests rules events event fact → JudgedBy event fact
    unfolding notes_in
    event-judged (Joins call) fact h = call-judged call fact h
    event-judged (Accepts v bundle) fact h = rw h (simple (bundle.coin == c) (Change.Accepts v bundle.tip) refl)
    event-judged (Binds v body) fact h = grind (arith, common_steps, simple) steps 20000
    event-judged (TakesBack v q bundle) fact h =
        rw h (taken-step v (has (taken_in facts v) q) (leaf_in q (bound_in facts v)))
    event-judged (Watches n calls) fact h = rw (watch-form n calls fact h).is plain
    event-judged event fact h = rw h plain
