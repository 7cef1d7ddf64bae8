-- What the words Safe, Leaving and Act say of the time until the next look.
use Rattle.safety_laws.proofs.Basics.{◌≡◌, ℕ, ◌≤◌, ◌==◌, Bool, true, false, List, [], ◌∷◌, ◌++◌, map, Some, inl, inr, refl, sym, ap, ◌∙◌, subst, arith, rules, list_any, Contains, le_refl, leb-true, or_parts, or_from, false≢true, common_steps}
use Rattle.safety_laws.proofs.CoinWords.{Owner, RootCall, now, exit_view, Rules, tests_by, has-contains, contains-has, has-left, Kept, Word, Safe, Act, Leaving, standing, due, shown_again, timed, end_of_call, word_of, AreAhead, IsFirst, NothingIsDue, Tells, words_tell}
use Rattle.safety_laws.proofs.WorldWords.{IsDigest, Event, log_of, wallet_owner, IsLegal, append-assoc, has-mapped, is_in_time, IsLook, begins_own, is_calm, is_shut, AreShort, IsActedOn, Covers, LegalSafeMeansSafe, LegalLeavingMeansSafe, LegalActLeavesTime, LegalActMeansAct, events_after, AreLooks, LegalLooksAreEnough, suffix-legal}
use Rattle.safety_laws.proofs.AtLook.{at, standing-has, StandsTill, calm-stands}
use Rattle.safety_laws.proofs.ActLook.{stands-there, act-stands}
use Rattle.safety_laws.proofs.MetCalls.{met-stands}
use Rattle.safety_laws.proofs.Since.{IsShut, clock-since, owner-since, own-since}
use Rattle.safety_laws.proofs.Timely.{GoesTill, stays-in-time}

-- where nothing is due, nothing is, and no window ended
calm-told : (log : List RootCall) (account clock : ℕ) (kept : Kept) (word : Word) → is_calm word ≡ true
    → Tells log account clock kept word → NothingIsDue log account kept × AreAhead log (now log) kept
calm-told log account clock kept (Safe until) calm t = (t.1, t.0.in_time)
calm-told log account clock kept (Leaving opens) calm t = (t.1, t.0.in_time)
calm-told log account clock kept word calm t = absurd (false≢true calm)

-- What a look says up to now: by what stood at an event since, and goes on after it. It is the look itself, or the last
-- event by which what was due was met.
pub record Goes (later events : List Event) (w c e : ℕ) : Type 0 where
  pub after : List Event
  pub base : List Event
  pub all_is : later ++ events ≡ after ++ base
  pub me : Owner
  pub me_is : wallet_owner base w ≡ Some me
  pub stands : StandsTill base c e me (now (log_of (later ++ events)))
  pub goes : GoesTill after base me c e (now (log_of (later ++ events)))
  pub in_time : is_in_time events w c e ≡ true → is_in_time base w c e ≡ true

any-append : {A : Type 0} (p : A → Bool) (xs ys : List A) → list_any p (xs ++ ys) ≡ false
    → (list_any p xs ≡ false) × (list_any p ys ≡ false)
any-append p [] ys none = (refl, none)
any-append p (x ∷ xs) ys none = grind (arith, common_steps, or_parts, or_from)

-- each call that is due may be entered at least till the first end
act-calls : (log : List RootCall) (account : ℕ) (kept : Kept) (first : ℕ)
    → IsFirst (map (end_of_call (standing log kept)) (timed log account kept)) first → (call : RootCall)
    → Contains (due log account kept) call → first ≤ end_of_call (standing log kept) call
act-calls log account kept first is call among =
    is.no_less (end_of_call (standing log kept) call)
    (has-contains (map (end_of_call (standing log kept)) (timed log account kept))
    (end_of_call (standing log kept) call)
    (has-mapped (end_of_call (standing log kept)) (timed log account kept) call
    (has-left (due log account kept) (shown_again log account kept) call
    (contains-has (due log account kept) call among))))

told : (log : List RootCall) (account clock : ℕ) (kept : Kept) (word : Word)
    → word_of log account clock kept ≡ word → Tells log account clock kept word
told log account clock kept word is = subst (Tells log account clock kept) is (words_tell log account clock kept)

module _ (dig : List ℕ → List ℕ) (digest : IsDigest dig) (rules : Rules) (later events : List Event)
    (n w c e account clock : ℕ) (kept : Kept) (legal : IsLegal (tests_by dig) rules (later ++ events))
    (look : IsLook dig rules events n w c e kept) where
  before : IsLegal (tests_by dig) rules events
  before = suffix-legal (tests_by dig) rules later events legal

  abbrev Me : Owner
  Me = (at dig digest rules events n w c e account kept before look).hold.me

  me_is : wallet_owner events w ≡ Some Me
  me_is = (at dig digest rules events n w c e account kept before look).hold.me_is

  safe-shut : (until : ℕ) → Tells (log_of events) account clock kept (Safe until) → IsShut events Me c e
  safe-shut until t y there own =
      absurd (t.2 (exit_view y) (has-contains (standing (log_of events) kept) (exit_view y)
      (standing-has (log_of events) kept y there (own.0 ∙ sym look.coin_is))) (own.2 ∙ sym look.tip_is))

  own-closed : is_shut (log_of events) c e ≡ true → IsShut events Me c e
  own-closed shut y there own = grind (arith, common_steps, leb-true, stands-there)

  short-goes : AreShort (wallet_owner events w) c e later events
      → GoesTill later events Me c e (now (log_of (later ++ events)))
  short-goes h0 = grind (arith, common_steps, own-closed, me_is)

  -- till the time of Act nothing goes wrong
  act-till : (by money : ℕ) → Tells (log_of events) account clock kept (Act by money) → (end : ℕ) → end ≤ by
      → StandsTill events c e Me end
  act-till by money t end early =
      elim t.1 [
        | inl due ↦ act-stands dig digest rules events n w c e account kept before look t.0.here.0 t.0.in_time due.0
            by due.2 (act-calls (log_of events) account kept due.0 due.1) end early
        | inr leave ↦ calm-stands dig digest rules events n w c e account kept before look leave.none t.0.in_time end
      ]

  -- what was due was met
  module _ (r : IsActedOn (word_of (log_of events) account clock kept) (due (log_of events) account kept)
      (wallet_owner events w) c e later events) where
    split : later ++ events ≡ r.after ++ (r.within ++ events)
    split = ap (λ l. l ++ events) r.later_is ∙ sym (append-assoc r.after r.within events)

    whole : IsLegal (tests_by dig) rules (r.after ++ (r.within ++ events))
    whole = subst (IsLegal (tests_by dig) rules) split legal

    mid : IsLegal (tests_by dig) rules (r.within ++ events)
    mid = suffix-legal (tests_by dig) rules r.after (r.within ++ events) whole

    acted : Tells (log_of events) account clock kept (Act r.by r.money)
    acted = told (log_of events) account clock kept (Act r.by r.money) r.word_is

    clock-mid : now (log_of (r.within ++ events)) ≤ now (log_of (later ++ events))
    clock-mid =
        let e = ap (λ l. now (log_of l)) split in
        omega (arith, clock-since (tests_by dig) rules (r.within ++ events) r.after whole, e)

    apart : list_any (begins_own (wallet_owner events w) c e) later ≡ false
        → (list_any (begins_own (Some Me) c e) r.after ≡ false)
        × (list_any (begins_own (Some Me) c e) r.within ≡ false)
    apart none = grind (arith, common_steps, any-append, me_is)

    acted-goes : AreShort (wallet_owner events w) c e later events → Goes later events w c e
    acted-goes (inl less) = record {
      after = r.after;
      base = r.within ++ events;
      all_is = split;
      me = Me;
      me_is = owner-since (tests_by dig) rules events r.within w Me mid me_is;
      stands = met-stands dig digest rules r.within events n w c e account kept before mid look acted.0.here.0
          acted.0.in_time r.met (now (log_of (later ++ events))) (inl less);
      goes = inl (omega (arith, less, clock-since (tests_by dig) rules events r.within mid));
      in_time = stays-in-time (tests_by dig) rules events w c e Me me_is (now (log_of (r.within ++ events)))
          (act-till r.by r.money acted (now (log_of (r.within ++ events))) r.early) r.within mid
          (inl (omega (arith, less, clock-mid)))
          (le_refl (now (log_of (r.within ++ events))));
    }
    acted-goes (inr g) =
        let parts = apart g.1 in
        record {
          after = r.after;
          base = r.within ++ events;
          all_is = split;
          me = Me;
          me_is = owner-since (tests_by dig) rules events r.within w Me mid me_is;
          stands = met-stands dig digest rules r.within events n w c e account kept before mid look acted.0.here.0
              acted.0.in_time r.met (now (log_of (later ++ events))) (inr (g.2, own-closed g.0, parts.1));
          goes = inr (
            omega (arith, g.2, clock-since (tests_by dig) rules events r.within mid),
            (λ y there own.
                let o = own-since (tests_by dig) rules events r.within Me c e mid parts.1 y there own in
                let over = own-closed g.0 o.y o.there
                (o.coin ∙ own.0, (λ i. (o.account i) == Me.account) ∙ own.1, o.block ∙ own.2) in
                omega (arith, over, o.start, clock-since (tests_by dig) rules events r.within mid)),
            parts.0,
          );
          in_time = stays-in-time (tests_by dig) rules events w c e Me me_is (now (log_of (r.within ++ events)))
              (act-till r.by r.money acted (now (log_of (r.within ++ events))) r.early) r.within mid
              (inr (omega (arith, g.2, clock-mid), own-closed g.0, parts.1))
              (le_refl (now (log_of (r.within ++ events))));
        }

  from-look-itself : StandsTill events c e Me (now (log_of (later ++ events)))
      → GoesTill later events Me c e (now (log_of (later ++ events))) → Goes later events w c e
  from-look-itself stands goes = grind (arith, common_steps, me_is)

  -- while what it says goes
  pub look-goes : Covers (word_of (log_of events) account clock kept) (due (log_of events) account kept)
      (wallet_owner events w) c e later events → Goes later events w c e
  look-goes (inl r) =
      let t = told (log_of events) account clock kept (Safe r.0) r.1 in
      from-look-itself
      (calm-stands dig digest rules events n w c e account kept before look t.1 t.0.in_time
      (now (log_of (later ++ events))))
      (inr (
        omega (arith, r.3, t.3),
        safe-shut r.0 t,
        ap (λ o. list_any (begins_own o c e) later) (sym me_is) ∙ r.2,
      ))
  look-goes (inr (inl r)) =
      let t = calm-told (log_of events) account clock kept (word_of (log_of events) account clock kept) r.0
      (words_tell (log_of events) account clock kept) in
      from-look-itself
      (calm-stands dig digest rules events n w c e account kept before look t.0 t.1
      (now (log_of (later ++ events))))
      (short-goes r.1)
  look-goes (inr (inr (inl r))) =
      let t = told (log_of events) account clock kept (Act r.0 r.1) r.2 in
      from-look-itself
      (act-till r.0 r.1 t (now (log_of (later ++ events))) r.3) (short-goes r.4)
  look-goes (inr (inr (inr r))) = acted-goes r r.short

  pub look-keeps : Covers (word_of (log_of events) account clock kept) (due (log_of events) account kept)
      (wallet_owner events w) c e later events
      → is_in_time events w c e ≡ true → is_in_time (later ++ events) w c e ≡ true
  look-keeps covers so_far =
      let g = look-goes covers in
      let early : now (log_of (g.after ++ g.base)) ≤ now (log_of (later ++ events)) =
      subst (λ l. now (log_of l) ≤ now (log_of (later ++ events))) g.all_is
      (le_refl (now (log_of (later ++ events)))) in
      subst (λ l. is_in_time l w c e ≡ true) (sym g.all_is)
      (stays-in-time (tests_by dig) rules g.base w c e g.me g.me_is (now (log_of (later ++ events))) g.stands g.after
      (subst (IsLegal (tests_by dig) rules) g.all_is legal) g.goes early (g.in_time so_far))

pub safe_means_safe : LegalSafeMeansSafe
safe_means_safe dig rules later events n w c e account clock until kept digest legal look word none early so_far =
    look-keeps dig digest rules later events n w c e account clock kept legal look
    (inl (until, word, none, early)) so_far

pub leaving_means_safe : LegalLeavingMeansSafe
leaving_means_safe dig rules later events n w c e account clock opens kept digest legal look word short so_far =
    look-keeps dig digest rules later events n w c e account clock kept legal look
    (inr (inl (ap is_calm word, short))) so_far

pub act_leaves_time : LegalActLeavesTime
act_leaves_time dig rules later events n w c e account clock by money kept digest legal look word early short so_far =
    look-keeps dig digest rules later events n w c e account clock kept legal look
    (inr (inr (inl (by, money, word, early, short)))) so_far

pub act_means_act : LegalActMeansAct
act_means_act dig rules later events n w c e account clock kept digest legal look acted so_far =
    look-keeps dig digest rules later events n w c e account clock kept legal look (inr (inr (inr acted))) so_far

-- look after look
pub looks_are_enough : LegalLooksAreEnough
unfolding events_after AreLooks
looks_are_enough dig rules [] first w c e digest legal are so_far = so_far
looks_are_enough dig rules (look ∷ looks) first w c e digest legal are so_far =
    let events : List Event = events_after looks first in
    look-keeps dig digest rules look.later events look.node w c e look.account look.clock look.kept legal are.0 are.1
    (looks_are_enough dig rules looks first w c e digest
    (suffix-legal (tests_by dig) rules look.later events legal) are.2 so_far)
