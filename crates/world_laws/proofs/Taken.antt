-- A coin that was taken went unseen before at some tick, unless the events exhibit.
use Rattle.world_laws.proofs.Basics.{◌≡◌, ℕ, true, false, if◌then◌else◌, List, [], ◌∷◌, ◌++◌, Option, Some, None, inl, inr, refl, ap, ◌∙◌, arith, rules, sym, is_none, option_or, cases_Bool, and_from, not_from_false, false≢true, common_steps, some_same, none_some, append-assoc}
use Rattle.world_laws.proofs.CoinWords.{Owner, Rules, tests_by}
use Rattle.world_laws.proofs.WorldWords.{VerdictKind, Exhibit, IsDigest, Event, wallet_owner, exhibit_of, takes_from, before_taking, first_unattended, exit_was_paid, lost_or, verdict_at, IsLegal, LegalLostIsExhibited, goes_unseen, is_looked_after, is_taken_kind}
use Rattle.world_laws.proofs.Attended.{attended_are_looked_after}
use Rattle.world_laws.proofs.Exhibited.{no-clash, no-forgery, nothing-exhibited}
use Rattle.world_laws.proofs.Words.{attended_is_none_unattended}
use Rattle.world_laws.proofs.Lost.{never-lost}

-- ---- the first taking

-- the verdict by the events before the first taking of a coin whose own exit wasn't paid
pub record IsTakenAt (dig : List ℕ → List ℕ) (rules : Rules) (events : List Event) (me : Owner) (w c e : ℕ)
    (kind : VerdictKind) : Type 0 where
  pub unpaid : exit_was_paid (tests_by dig) rules events me c e ≡ false
  pub before : List Event
  pub taken : before_taking (tests_by dig) rules events me w c e ≡ Some before
  pub kind_is : kind ≡ lost_or (first_unattended before w c e)

module _ (dig : List ℕ → List ℕ) (rules : Rules) (me : Owner) (w c e : ℕ) where
  taken-at : (events : List Event) → is_taken_kind (verdict_at (tests_by dig) rules events me w c e) ≡ true
      → IsTakenAt dig rules events me w c e (verdict_at (tests_by dig) rules events me w c e)
  unfolding verdict_at
  taken-at events is = grind (arith, common_steps, false≢true)

  -- the events before the first taking are the earlier ones
  taking-suffix : (events before : List Event) → before_taking (tests_by dig) rules events me w c e ≡ Some before
      → (later : List Event) × (events ≡ later ++ before)
  unfolding before_taking
  taking-suffix [] before taken = absurd (none_some before taken)
  taking-suffix (event ∷ events) before taken =
      (elim (before_taking (tests_by dig) rules events me w c e) as (λ o.
      before_taking (tests_by dig) rules events me w c e ≡ o
      → option_or o (if takes_from (tests_by dig) rules events me w c e event then Some events else None)
      ≡ Some before → (later : List Event) × (event ∷ events ≡ later ++ before)) [
        | Some b ↦ λ some same.
            let r = taking-suffix events before (some ∙ same) in (event ∷ r.0, ap (λ l. event ∷ l) r.1)
        | None ↦ λ first here. (elim (takes_from (tests_by dig) rules events me w c e event) as (λ t.
            (if t then Some events else None) ≡ Some before
            → (later : List Event) × (event ∷ events ≡ later ++ before)) [
              | true ↦ λ same. (event ∷ [], ap (λ l. event ∷ l) (some_same events before same))
              | false ↦ λ wrong. absurd (none_some before wrong)
            ]) here
      ]) refl taken

-- ---- an unseen tick

-- a tick among the events went unseen
pub record HasUnseen (events : List Event) (w c e : ℕ) : Type 0 where
  pub later : List Event
  pub event : Event
  pub earlier : List Event
  pub events_are : events ≡ later ++ event ∷ earlier
  pub unseen : goes_unseen earlier w c e event ≡ true

some-unseen : (events : List Event) (w c e : ℕ) → (is_looked_after events w c e ≡ true → ⊥) → HasUnseen events w c e
unfolding is_looked_after
some-unseen [] w c e not_looked = absurd (not_looked refl)
some-unseen (event ∷ events) w c e not_looked =
    elim (cases_Bool (goes_unseen events w c e event)) [
      | inl is ↦ record { later = []; event = event; earlier = events; events_are = refl; unseen = is }
      | inr isnt ↦
          let r = some-unseen events w c e (λ looked. not_looked (and_from _ _ (not_from_false _ isnt) looked)) in
          record {
            later = event ∷ r.later;
            event = r.event;
            earlier = r.earlier;
            events_are = ap (λ l. event ∷ l) r.events_are;
            unseen = r.unseen;
          }
    ]

module _ (dig : List ℕ → List ℕ) (rules : Rules) (events : List Event) (w c e : ℕ) (me : Owner)
    (digest : IsDigest dig) (legal : IsLegal (tests_by dig) rules events) (me_is : wallet_owner events w ≡ Some me)
    (nothing : exhibit_of dig rules.tag events ≡ Exhibit.Nothing) where
  -- a coin that was looked after wasn't taken
  looked-untaken : (kind : VerdictKind) → (t : IsTakenAt dig rules events me w c e kind)
      → is_looked_after t.before w c e ≡ true → ⊥
  looked-untaken kind t looked =
      let shown = nothing-exhibited dig rules.tag events nothing in
      never-lost dig digest rules me w c e events legal (no-clash dig events c shown.0)
      (no-forgery rules.tag events w c shown.1)
      (grind (arith, common_steps, some_same, none_some)) t.unpaid t.before t.taken looked

  pub taken_unseen : is_taken_kind (verdict_at (tests_by dig) rules events me w c e) ≡ true → HasUnseen events w c e
  taken_unseen is =
      let t = taken-at dig rules me w c e events is in
      let kind : VerdictKind = verdict_at (tests_by dig) rules events me w c e in
      let s = taking-suffix dig rules me w c e events t.before t.taken in
      let u = some-unseen t.before w c e (looked-untaken kind t) in
      grind (arith, common_steps, append-assoc)

pub lost_is_exhibited : LegalLostIsExhibited
lost_is_exhibited dig rules events w c e me digest legal me_is lost nothing =
    let t = taken-at dig rules me w c e events (ap is_taken_kind lost) in
    looked-untaken dig rules events w c e me digest legal me_is nothing
    (verdict_at (tests_by dig) rules events me w c e) t
    (attended_are_looked_after t.before w c e
    (attended_is_none_unattended t.before w c e
    ∙ none-first (first_unattended t.before w c e) (sym t.kind_is ∙ lost)))
  where
    none-first : (first : Option ℕ) → lost_or first ≡ VerdictKind.Lost → is_none first ≡ true
    none-first None is = refl
    none-first (Some line) wrong = absurd (cc wrong)
