-- What a standing says at the end is the verdict.
use Rattle.std.proofs.Common.{◌≡◌, ◌⊎◌, inl, inr, ℕ, ◌+◌, ◌<◌, ◌≤◌, ◌&&◌, ◌||◌, Bool, true, false, if◌then◌else◌, List, [], ◌∷◌, length, Option, Some, None, refl, ap, ◌∙◌, arith}
use Rattle.std.specs.Prelude.{nat_lt}
use Rattle.std.specs.Option.{option_or}
use Rattle.std.proofs.lemmas.Bool.{false≢true, ltb-true, lt-ltb}
use Rattle.std.proofs.lemmas.Grind.{common_steps}
use Rattle.plasma_tx.specs.Shown.{Tests, Rules}
use Rattle.plasma_tx.specs.Table.{IsLegal}
use Rattle.world_rules.specs.declared.verdict.VerdictKind.{VerdictKind}
use Rattle.world_rules.specs.Events.{Event, Joins, log_of}
use Rattle.world_rules.specs.Safety.{goes_unattended}
use Rattle.world_rules.specs.Verdicts.{ever_held, takes_from, before_taking, first_unattended, exit_was_paid, lost_or, taken_or, verdict_at}
use Rattle.coin_verdicts.specs.declared.fact.Fact.{Fact}
use Rattle.coin_verdicts.specs.declared.note.Holder.{Holder}
use Rattle.coin_verdicts.specs.declared.note.Standing.{Standing}
use Rattle.coin_verdicts.specs.Facts.{AreFacts}
use Rattle.coin_verdicts.specs.Notes.{notes_in}
use Rattle.coin_verdicts.specs.Standings.{has_coin, is_held_at, missed, standing_in, was_held, kind_of}
use Rattle.coin_verdicts.proofs.Forms.{as-many}
use Rattle.coin_verdicts.proofs.Lists.{or-comm}
use Rattle.coin_verdicts.proofs.SentLeaves.{sent-counted}
use Rattle.coin_verdicts.proofs.Agreed.{agreed}
use Rattle.coin_verdicts.proofs.Holders.{IsDeclaredSo}
use Rattle.coin_verdicts.proofs.Judged.{holds-same, event-judged}

or-none : (o : Option ℕ) → option_or o None ≡ o
or-none None = refl
or-none (Some n) = refl

-- what is legal after a call was legal before it
pub legal-before : (rules : Rules) (event : Event) (events : List Event) → IsLegal rules (log_of (event ∷ events))
    → IsLegal rules (log_of events)
unfolding IsLegal log_of
legal-before rules (Joins call) events legal = legal.1
legal-before rules event events legal = legal

pub declared-before : (holder : Holder) (event : Event) (events : List Event) → IsDeclaredSo holder (event ∷ events)
    → IsDeclaredSo holder events
declared-before holder event events so = so.1

module _ (tests : Tests) (rules : Rules) (holder : Holder) (c e : ℕ) where
  -- the events before the first that takes the coin, and the first line that nobody attended before it
  abbrev TakenAs : Option (List Event) → List Event → Standing → Type 0
  TakenAs None events s = (s.taken ≡ false) × (first_unattended events holder.wallet c e ≡ s.unattended)
  TakenAs (Some before) events s = (s.taken ≡ true) × (first_unattended before holder.wallet c e ≡ s.unattended)

  -- the standing says of the events what verdicts ask for
  pub record JudgedAt (events : List Event) (line : ℕ) (s : Standing) : Type 0 where
    pub paid_is : exit_was_paid tests rules events holder.owner c e ≡ s.paid
    pub ever_is : ever_held events holder.wallet c e ≡ (s.ever_held || is_held_at holder line s)
    pub taken_is : TakenAs (before_taking tests rules events holder.owner holder.wallet c e) events s

  -- the line that is missed, by whether the coin was taken before
  abbrev missed_by : Option ℕ → ℕ → Bool → Bool → Option ℕ
  missed_by was line unattended taken =
      if taken then was else option_or was (if unattended then Some line else None)

  taking-step : (before : Option (List Event)) (events : List Event) (event : Event) (line : ℕ)
      (taking unattended : Bool) (s after : Standing) → line ≡ length events + 1
      → after.taken ≡ (s.taken || taking) → after.unattended ≡ missed line s unattended
      → (taking ≡ true → unattended ≡ false) → goes_unattended events holder.wallet c e event ≡ unattended
      → TakenAs before events s
      → TakenAs (option_or before (if taking then Some events else None)) (event ∷ events) after
  unfolding first_unattended
  taking-step before events event line taking unattended s after is taken at apart goes was =
      grind (arith, common_steps, or-none) steps 20000

  -- where no note came, time alone may have made the wallet a holder
  ever-kept : (was now has ever : Bool) → (was ≡ true → now ≡ true)
      → ((now && has) || (ever || (was && has))) ≡ (ever || (now && has))
  ever-kept was now has ever later = grind (arith, common_steps, false≢true) steps 20000

  later-line : (line : ℕ) → nat_lt holder.since line ≡ true → nat_lt holder.since (line + 1) ≡ true
  later-line line is =
      let before : holder.since < line = ltb-true holder.since line is in lt-ltb holder.since (line + 1) (omega arith)

  ever-step : (now was : Bool) (line : ℕ) (s after : Standing)
      → ((after.ever_held ≡ s.ever_held) × (has_coin after ≡ has_coin s))
      ⊎ (after.ever_held ≡ (s.ever_held || is_held_at holder line s))
      → now ≡ is_held_at holder (line + 1) after → was ≡ (s.ever_held || is_held_at holder line s)
      → (now || was) ≡ (after.ever_held || is_held_at holder (line + 1) after)
  ever-step now was line s after (inl same) now_is was_is =
      grind (arith, common_steps, ever-kept, later-line) steps 20000
  ever-step now was line s after (inr noted) now_is was_is = grind (arith, common_steps, or-comm) steps 20000

  abbrev standing : List Fact → Standing
  standing facts = standing_in holder e (notes_in facts c)

  pub judged : (events : List Event) (facts : List Fact) → AreFacts tests rules events facts
      → IsLegal rules (log_of events) → IsDeclaredSo holder events
      → JudgedAt events (length facts + 1) (standing facts)
  unfolding exit_was_paid ever_held before_taking first_unattended notes_in standing_in
  judged [] [] are legal so = record {
    paid_is = refl;
    ever_is = holds-same tests rules holder c e [] [] are legal so;
    taken_is = (refl, refl);
  }
  judged [] (fact ∷ facts) are legal so = elim are [ ]
  judged (event ∷ events) [] are legal so = elim are [ ]
  judged (event ∷ events) (fact ∷ facts) are legal so =
      let before = legal-before rules event events legal in
      let was = judged events facts are.1 before so.1 in
      let held_is = holds-same tests rules holder c e events facts are.1 before so.1 in
      let now = holds-same tests rules holder c e (event ∷ events) (fact ∷ facts) are legal so in
      let does = event-judged tests rules holder c e events facts are.1 held_is event fact are.0 in
      let after = standing (fact ∷ facts) in
      let more : length (fact ∷ facts) + 1 ≡ (length facts + 1) + 1 = omega arith in
      record {
        paid_is = grind (arith, common_steps, or-comm) steps 20000;
        ever_is = grind (arith, common_steps, ever-step) steps 20000;
        taken_is = taking-step (before_taking tests rules events holder.owner holder.wallet c e) events event
            (length facts + 1) (takes_from tests rules events holder.owner holder.wallet c e event)
            (goes_unattended events holder.wallet c e event) (standing facts) (standing (fact ∷ facts))
            (ap (λ n. n + 1) (as-many tests rules events facts are.1)) does.taken_is does.unattended_is does.apart refl
            was.taken_is;
      }

  -- a standing at the end, of a wallet that is declared
  module _ (events : List Event) (facts : List Fact) (are : AreFacts tests rules events facts)
      (legal : IsLegal rules (log_of events)) (so : IsDeclaredSo holder events)
      (since : holder.since ≤ length events) where
    pub ever-same : ever_held events holder.wallet c e ≡ was_held holder (notes_in facts c) e
    ever-same =
        let many = as-many tests rules events facts are in
        let at_end : nat_lt holder.since (length facts + 1) ≡ true =
        lt-ltb holder.since (length facts + 1) (omega arith) in
        (judged events facts are legal so).ever_is
        ∙ ap (λ b. (standing facts).ever_held || (b && has_coin (standing facts))) at_end

    taken-kind : (before : Option (List Event)) → TakenAs before events (standing facts)
        → taken_or before holder.wallet c e
        ≡ (if (standing facts).taken then lost_or (standing facts).unattended else VerdictKind.Held)
    taken-kind before was = grind (arith, common_steps) steps 20000

    pub kind-same : verdict_at tests rules events holder.owner holder.wallet c e ≡ kind_of (standing facts)
    unfolding verdict_at
    kind-same =
        let was = judged events facts are legal so in
        let same = agreed tests rules holder c e events facts are in
        grind (arith, common_steps, sent-counted, taken-kind) steps 20000
