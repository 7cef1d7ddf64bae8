-- No event harms a held coin.
use Rattle.world_laws.proofs.Basics.{◌≡◌, ℕ, ◌+◌, ◌==◌, ◌&&◌, not, Bool, true, false, List, [], ◌∷◌, Option, Some, None, inl, refl, ◌∙◌, subst, arith, rules, is_none, nat_lt, nat_le, AllByRecursion, list_all, cases_Bool, eqb-true, le-ltb, ltb-false, leb-true, and_parts, and_from, not-true, not_from_false, true≢false, false_from_ne_true, common_steps, all-from, found-has, challenge-has, all_answered-from, passes-has}
use Rattle.world_laws.proofs.CoinWords.{RawOpening, RootCall, After, Between, Finish, Answer, now, Challenge, Exit, exits, exit_at, challenge_at, EXIT_PERIOD, Tests, Rules, decided, finish_causes, finish_effect, is_payable, where_exit, answer_to, is_accepted, CancelsAfter, CancelsBetween, is_paid, accepted_calls_show, openings_of_call, Has, all-has, Owner}
use Rattle.world_laws.proofs.WorldWords.{Event, log_of, wallet_owner, bound_by, seen, forges_one, is_mine, is_own, finish_harms, call_harms, IsLegal, IsWatched, AllWatched, IfOf}
use Rattle.world_laws.proofs.HeldCoins.{Spent, walk-order, place_of, Deposited, Transferred, IsBegun, OfDeposit, OfSpend, SignsBy, Known, shown-ge, link_in}
use Rattle.world_laws.proofs.Watched.{IsSpend, is_spend, AtEvent, tip_unspent}
use Rattle.world_laws.proofs.Steps.{OfHeld, of_held, owner-before, own-openings}

-- the answer to a Finish of what was found
abbrev pub finish_answer : List RootCall → ℕ → Option Exit → Answer
finish_answer log c found = where_exit found (λ exit. decided (finish_causes log exit) (finish_effect log c exit))

-- it is Paid where the exit's period is over and the exit payable
pub finish-paid : (log : List RootCall) (c : ℕ) (x : Exit)
    → is_paid (finish_answer log c (Some x)) ≡ (not (nat_lt (now log) (x.start + EXIT_PERIOD)) && is_payable log c x)
finish-paid log c x = grind (arith, common_steps)

four-false : (a b d g : Bool) → (a ≡ true → b ≡ true → g ≡ true → ⊥) → (a && b && d && g) ≡ false
four-false a b d g never = grind (arith, common_steps, false_from_ne_true, and_parts)

and-off : (x z : Bool) → (x ≡ true → z ≡ false) → (x && z) ≡ false
and-off x z h = grind (arith, common_steps)

-- no Finish of the coin harms the holder
abbrev pub FinishesHarmNothing : List Event → ℕ → ℕ → Owner → Type 0
FinishesHarmNothing events c e me = (k f : ℕ) → k ≡ c → (o : Option Exit) → exit_at (log_of events) k f ≡ o
    → finish_harms me e (now (log_of events)) (finish_answer (log_of events) k o) o ≡ false

-- challenges aren't all answered where one at the tip stands and those there are open
pub not-settled : (e : ℕ) (chs : List Challenge) → AllByRecursion (λ ch. ch.block ≡ e → ch.answered ≡ false) chs
    → is_none (challenge_at e chs) ≡ false → list_all (λ ch. ch.answered) chs ≡ true → ⊥
not-settled e chs open_tip there answered =
    (elim (challenge_at e chs) as (λ o. challenge_at e chs ≡ o → is_none o ≡ false → ⊥) [
      | None ↦ λ is no. true≢false no
      | Some ch ↦ λ is no.
          let h = challenge-has e chs ch is in grind (arith, common_steps, true≢false, passes-has, all-has)
    ]) refl there

module _ (tests : Tests) (rules : Rules) (signs : SignsBy tests) (events : List Event) (w c e : ℕ)
    (legal : IsLegal tests rules events) (more : List RawOpening) (at : AtEvent tests rules events w c e more) where
  owner-of : (x : Exit) → OfHeld tests rules events c at.held.made x → x.block ≡ e → x.owner ≡ at.hold.me
  owner-of x of at_tip = by_begun of.begun
    where
      by_begun : IsBegun tests rules (log_of events) (seen events c) c at.held.made x.block x.parent x.owner
          x.parent_owner → x.owner ≡ at.hold.me
      by_begun (OfDeposit block parent owner) =
          owner-before tests rules signs events w c e legal more at x.owner x.block (Deposited block owner) at_tip
      by_begun (OfSpend s opened low parent shown below) =
          owner-before tests rules signs events w c e legal more at x.owner x.block (Transferred s opened low) at_tip

  -- nobody cancels the exit at the tip by a later spend
  after-harmless : (account k f : ℕ) (spend : RawOpening)
      → ((o : RawOpening) → Has (openings_of_call c (After account k f spend)) o → Has more o)
      → forges_one rules.tag (wallet_owner events w) (bound_by events w) c
      (openings_of_call c (After account k f spend)) ≡ false → k ≡ c → f ≡ e
      → CancelsAfter tests rules (log_of events) k f spend → ⊥
  after-harmless account k f spend has none c_is f_is is =
      let log : List RootCall = log_of events in
      let place = found-has log k f is.exit is.stands in
      let of = of_held tests rules events w c e at.hold.me legal at.held is.exit place.0 (place.1 ∙ c_is) in
      let at_tip : is.exit.block ≡ e = place.2 ∙ f_is in
      let spent = is_spend tests rules log k spend is.tx is.exit.block is.exit.owner is.shown is.child is.later
      is.signed in
      let here = own-openings k c (spend ∷ []) spend c_is (inl refl) in
      tip_unspent tests rules signs events w c e more at (openings_of_call c (After account k f spend)) none spend here
      (has spend here) is.exit.block is.exit.owner
      (subst (λ z. IsSpend tests rules log z spend is.exit.block is.exit.owner) c_is spent) at_tip
      (owner-of is.exit of at_tip)

  -- nor by one between its parent and it
  between-harmless : (account k f : ℕ) (spend : RawOpening)
      → ((o : RawOpening) → Has (openings_of_call c (Between account k f spend)) o → Has more o) → k ≡ c → f ≡ e
      → CancelsBetween tests rules (log_of events) k f spend → ⊥
  between-harmless account k f spend has c_is f_is is =
      let place = found-has (log_of events) k f is.exit is.stands in
      let of = of_held tests rules events w c e at.hold.me legal at.held is.exit place.0 (place.1 ∙ c_is) in
      by_begun of.begun
    where
      known_more : Known tests rules (log_of events) more c at.held.made e at.hold.me at.held.openings
      known_more = record { walk = at.held.known.walk; has = λ o h. at.has o (at.held.known.has o h) }

      by_begun : IsBegun tests rules (log_of events) (seen events c) c at.held.made is.exit.block is.exit.parent
          is.exit.owner is.exit.parent_owner → ⊥
      by_begun (OfDeposit block parent owner) = absurd (omega (arith, is.parent, parent))
      by_begun (OfSpend s opened above parent shown below) =
          let log : List RootCall = log_of events in
          let place = found-has log k f is.exit is.stands in
          let at_tip : is.exit.block ≡ e = place.2 ∙ f_is in
          let d = shown-ge tests rules log (seen events c) c at.held.made at.one_before is.exit.parent
          is.exit.parent_owner shown in
          let spent : IsSpend tests rules log c spend is.exit.parent is.exit.parent_owner =
          grind (arith, common_steps, is_spend) in
          let here = own-openings k c (spend ∷ []) spend c_is (inl refl) in
          let mid : Spent rules c more spend.block spent.tx.body.to = grind (arith) in
          let top : Spent rules c more is.exit.block is.exit.owner = grind (arith) in
          let p = link_in tests rules log more c at.held.made at.one e at.hold.me at.held.openings known_more
          spend.block
          spent.tx.body.to mid spent.opened (omega (arith, d, is.later)) (omega (arith, is.earlier, at_tip)) in
          let q = link_in tests rules log more c at.held.made at.one e at.hold.me at.held.openings known_more
          is.exit.block is.exit.owner top opened above (omega (arith, at_tip)) in
          let order = walk-order tests rules log c at.held.made.deposit (place_of at.held.made) at.held.openings
          (record { block = e; owner = at.hold.me }) at.held.known.walk (omega arith) p.0 q.0 spent.tx s.tx p.1 q.1 p.2
          q.2 (omega (arith, p.3, q.3, is.earlier)) in
          absurd (omega (arith, order, p.3, parent, is.later))

  -- an accepted call
  pub call-harmless : FinishesHarmNothing events c e at.hold.me → (call : RootCall)
      → ((o : RawOpening) → Has (openings_of_call c call) o → Has more o)
      → forges_one rules.tag (wallet_owner events w) (bound_by events w) c (openings_of_call c call) ≡ false
      → call_harms tests rules (log_of events) at.hold.me c e call ≡ false
  unfolding call_harms answer_to
  call-harmless finish (After account k f spend) has none =
      four-false (k == c) (f == e) (is_own at.hold.me (exit_at (log_of events) k f))
      (is_accepted (answer_to tests rules (log_of events) (After account k f spend)))
      (λ same tip is. after-harmless account k f spend has none (eqb-true k c same) (eqb-true f e tip)
      (accepted_calls_show tests rules (log_of events) (After account k f spend) is))
  call-harmless finish (Between account k f spend) has none =
      four-false (k == c) (f == e) (is_own at.hold.me (exit_at (log_of events) k f))
      (is_accepted (answer_to tests rules (log_of events) (Between account k f spend)))
      (λ same tip is. between-harmless account k f spend has (eqb-true k c same) (eqb-true f e tip)
      (accepted_calls_show tests rules (log_of events) (Between account k f spend) is))
  call-harmless finish (Finish account k f) has none =
      and-off (k == c) _ (λ same. finish k f (eqb-true k c same) (exit_at (log_of events) k f) refl)
  call-harmless finish call has none = refl

  -- a refused call
  pub refused-harmless : FinishesHarmNothing events c e at.hold.me → (call : RootCall)
      → is_accepted (answer_to tests rules (log_of events) call) ≡ false
      → call_harms tests rules (log_of events) at.hold.me c e call ≡ false
  unfolding call_harms answer_to
  refused-harmless finish call off = grind (arith, common_steps, four-false, true≢false, and-off, finish, eqb-true)

module _ (tests : Tests) (rules : Rules) (signs : SignsBy tests) (events : List Event) (w c e : ℕ)
    (legal : IsLegal tests rules events) (more : List RawOpening) (at : AtEvent tests rules events w c e more)
    (all : AllWatched c at.hold.me e (now (log_of events)) (exits (log_of events))) where
  -- what is known of an exit of the coin that a Finish names
  record IsFinished (k : ℕ) (x : Exit) : Type 0 where
    watched : IsWatched at.hold.me e (now (log_of events)) x
    of : OfHeld tests rules events c at.held.made x
    paid : is_paid (finish_answer (log_of events) k (Some x))
        ≡ (not (nat_lt (now (log_of events)) (x.start + EXIT_PERIOD)) && is_payable (log_of events) k x)

  finished : (k f : ℕ) (x : Exit) → k ≡ c → exit_at (log_of events) k f ≡ Some x → IsFinished k x
  finished k f x c_is found =
      let place = found-has (log_of events) k f x found in
      record {
        watched = all-has (IfOf c at.hold.me e (now (log_of events))) (exits (log_of events)) x all place.0
            (place.1 ∙ c_is);
        of = of_held tests rules events w c e at.hold.me legal at.held x place.0 (place.1 ∙ c_is);
        paid = finish-paid (log_of events) k x;
      }

  -- the own exit is paid at its end
  own-paid : (k : ℕ) (x : Exit) → k ≡ c → IsFinished k x → is_mine at.hold.me x ≡ true
      → ((x.block == e) && nat_le (x.start + EXIT_PERIOD) (now (log_of events))
      && not (is_paid (finish_answer (log_of events) k (Some x)))) ≡ true → ⊥
  own-paid k x c_is i own harms =
      grind (
        arith,
        and_parts,
        eqb-true,
        leb-true,
        all_answered-from,
        all-from,
        all-has,
        true≢false,
        and_from,
        not_from_false,
        le-ltb,
        not-true,
      )

  -- and another account's never is
  others-unpaid : (k : ℕ) (x : Exit) → IsFinished k x → is_mine at.hold.me x ≡ false
      → is_paid (finish_answer (log_of events) k (Some x)) ≡ true → ⊥
  others-unpaid k x i other pays = grind (arith, common_steps, and_parts, ltb-false, not-true, not-settled)

  -- so a finish harms nothing
  pub finish-harmless : FinishesHarmNothing events c e at.hold.me
  finish-harmless k f c_is None found = refl
  finish-harmless k f c_is (Some x) found =
      grind (arith, common_steps, finished, cases_Bool, false_from_ne_true, own-paid, others-unpaid)
