-- Befores on offer are accepted one after the other, where the account has the reserve.
use Rattle.money_laws.proofs.Basics.{◌≡◌, ℕ, ◌+◌, ◌<◌, ◌≤◌, ◌==◌, ◌&&◌, not, Bool, true, false, if◌then◌else◌, List, [], ◌∷◌, map, Option, Some, sym, ap, ◌∙◌, inl, inr, subst, filter, Contains, arith, is_none, nat_lt, option_map_or, list_any, eqb-true, eq-eqb, lt-ltb, le-ltb, leb-true, and_parts, and_from, not_from_false, false≢true, false_from_ne_true, common_steps}
use Rattle.money_laws.proofs.CoinWords.{CHALLENGE_BOND, CHALLENGE_WINDOW, Links, Shown, RootCall, Before, tip_of, now, Challenge, Exit, exits, exits_of, exit_view, challenge_view, challenge_at, block_of, Rules, tests_by, rules_of, is_over, balance_of, accepted_calls_show, links_of, tip_shown, due_for, due_of, Has, has-map, has-filter, has-flat_map, any-map, none-found, contains-has}
use Rattle.money_laws.proofs.WorldWords.{IsDigest, Event, log_of, collides, IsLegal, fresh_offers, fresh, due_calls_are_taken, needs_before, asks, Tip, reserve_of, is_at_tip, is_before_at, IsOnOffer, AreOnOffer, LegalReserveSuffices, ReserveSuffices, legal-to}
use Rattle.plasma_tx.specs.declared.views.ChallengeView.{ChallengeView}
use Rattle.plasma_tx.specs.declared.views.ExitView.{ExitView}
use Rattle.plasma_tx.specs.ChallengeLists.{is_challenged}
use Rattle.watch_duty.proofs.Dues.{IsDue as IsDueFor, due_for-due}
use Rattle.node_rules.specs.Kept.{kept_links}
use Rattle.world_laws.proofs.Histories.{links-at, shown-tip}
use Rattle.world_laws.proofs.Guards.{kept-some}
use Rattle.money_laws.proofs.Reserves.{over-one, tip-one, Could}
use Rattle.money_laws.proofs.InOrder.{CouldBe, IsReady, AreReady, in-order}

-- a Before that is due is of an exit that asks for it
record IsAsked (log : List RootCall) (c : ℕ) (shown : Shown) : Type 0 where
  exit : Exit
  there : Has (exits log) exit
  asked : asks log c (block_of shown) exit ≡ CHALLENGE_BOND

asked-by : (log : List RootCall) (c e : ℕ) (x : Exit) → x.coin ≡ c → e < x.parent
    → is_challenged e (map challenge_view x.challenges) ≡ false → now log < x.start + CHALLENGE_WINDOW
    → asks log c e x ≡ CHALLENGE_BOND
asked-by log c e x c_is above none early =
    let free : is_none (challenge_at e x.challenges) ≡ true =
    ap is_none (none-found (λ (ch : Challenge). ch.block == e) x.challenges
    (sym (any-map challenge_view (λ (view : ChallengeView). view.block == e) x.challenges) ∙ none)) in
    let inside : is_over log x.start CHALLENGE_WINDOW ≡ false =
    false_from_ne_true (is_over log x.start CHALLENGE_WINDOW) (λ over.
    let late = leb-true (x.start + CHALLENGE_WINDOW) (now log) over in absurd (omega (arith, late, early))) in
    ap (λ (b : Bool). if b then CHALLENGE_BOND else 0)
    (and_from (x.coin == c) (needs_before log e x) (eq-eqb x.coin c c_is)
    (and_from (nat_lt e x.parent && is_none (challenge_at e x.challenges))
    (not (is_over log x.start CHALLENGE_WINDOW))
    (and_from (nat_lt e x.parent) (is_none (challenge_at e x.challenges)) (lt-ltb e x.parent above) free)
    (not_from_false (is_over log x.start CHALLENGE_WINDOW) inside)))

-- the parts of a Before
same-coin : (by k f : ℕ) (one : Shown) (to c g : ℕ) (other : Shown) → Before by k f one ≡ Before to c g other → k ≡ c
same-coin by k f one to c g other is = cc

same-shown : (by k f : ℕ) (one : Shown) (to c g : ℕ) (other : Shown) → Before by k f one ≡ Before to c g other
    → one ≡ other
same-shown by k f one to c g other is = cc

due-asked : (log : List RootCall) (account : ℕ) (links : Links) (x : Exit) (by c f : ℕ) (shown : Shown)
    → block_of (tip_shown links) ≡ tip_of links → Has (exits log) x → x.coin ≡ links.coin
    → IsDueFor log account links (exit_view x) (Before by c f shown) → IsAsked log c shown
due-asked log account links x by c f shown tip there mine h11 =
    grind (arith, common_steps, same-coin, same-shown, asked-by)

module _ (dig : List ℕ → List ℕ) (digest : IsDigest dig) (rules : Rules) (events : List Event)
    (legal : IsLegal (tests_by dig) rules events) where
  offer-asked : (n by c f : ℕ) (shown : Shown) → Contains (fresh_offers events n) (Before by c f shown)
      → IsAsked (log_of events) c shown
  unfolding exits_of
  offer-asked n by c f shown offered =
      let log : List RootCall = log_of events in
      let call : RootCall = Before by c f shown in
      let o = fresh (tests_by dig) rules events n call legal (contains-has (fresh_offers events n) call offered) in
      let h = o.kept.history in
      let kept : kept_links rules.tag log o.bundle ≡ Some o.kept.links =
      kept-some rules log o.bundle h.made h.coin ∙ ap (λ (l : Links). Some l) (sym h.shown) in
      let due : Has (due_of log o.account (record { links = o.kept.links })) call =
      subst (λ (k : Option Links). Has (option_map_or
      (λ (links : Links). due_of log o.account (record { links = links })) k []) call) kept o.due in
      let r = has-flat_map (due_for log o.account o.kept.links) (exits_of log o.kept.links.coin) call due in
      found o.account o.kept.links r.0 by c f shown
      (subst (λ (l : Links). block_of (tip_shown l) ≡ tip_of l) (sym h.shown)
      (shown-tip (links_of rules h.made o.bundle) (links-at rules o.bundle.coin o.bundle.openings))) r.1
      (due_for-due log o.account o.kept.links r.0 call r.2)
    where
      found : (account : ℕ) (links : Links) (view : ExitView) (by c f : ℕ) (shown : Shown)
          → block_of (tip_shown links) ≡ tip_of links → Has (exits_of (log_of events) links.coin) view
          → IsDueFor (log_of events) account links view (Before by c f shown) → IsAsked (log_of events) c shown
      found account links view by c f shown tip there due =
          let m = has-map exit_view (filter (λ (exit : Exit). exit.coin == links.coin) (exits (log_of events))) view
          there in
          let k = has-filter (λ (exit : Exit). exit.coin == links.coin) (exits (log_of events)) m.0 m.1 in
          due-asked (log_of events) account links m.0 by c f shown tip k.0 (eqb-true m.0.coin links.coin k.1)
          (subst (λ (v : ExitView). IsDueFor (log_of events) account links v (Before by c f shown)) (sym m.2) due)

  -- a Before on offer is accepted, but for the money
  offer-could : (n account : ℕ) (tips : List Tip) (by c f : ℕ) (shown : Shown)
      → is_before_at account tips (Before by c f shown) ≡ true
      → Contains (fresh_offers events n) (Before by c f shown) → collides dig events c ≡ false
      → reserve_of (log_of events) tips ≤ balance_of (log_of events) account
      → Could (tests_by dig) rules (log_of events) c f shown
  offer-could n account tips by c f shown mine offered whole enough =
      let log : List RootCall = log_of events in
      let parts = and_parts (by == account) (list_any (is_at_tip c (block_of shown)) tips) mine in
      let is = eqb-true by account parts.0 in
      let a = offer-asked n by c f shown offered in
      let one = over-one (asks log c (block_of shown)) (exits log) a.exit a.there in
      let among = tip-one log c (block_of shown) tips parts.1 in
      let covered : CHALLENGE_BOND ≤ balance_of log by =
      subst (λ m. CHALLENGE_BOND ≤ balance_of log m) (sym is) (omega (arith, a.asked, one, among, enough)) in
      let s = accepted_calls_show (tests_by dig) rules log (Before by c f shown)
      (due_calls_are_taken dig rules events n (Before by c f shown) digest legal offered whole
      (le-ltb (balance_of log by) CHALLENGE_BOND covered)) in
      record {
        exit = s.exit;
        stands = s.stands;
        in_time = s.in_time;
        before = s.before;
        owner = s.owner;
        owner_shown = s.owner_shown;
        none_there = s.none_there;
      }

  -- each call on offer is ready
  one-ready : (account : ℕ) (tips : List Tip) (call : RootCall) (calls : List RootCall)
      → IsOnOffer dig events account tips call calls
      → reserve_of (log_of events) tips ≤ balance_of (log_of events) account
      → IsReady (tests_by dig) rules (log_of events) account tips call calls
  unfolding CouldBe
  one-ready account tips (Before by c f shown) calls o enough = record {
    at_tip = o.at_tip;
    could = offer-could o.node account tips by c f shown o.at_tip o.offered o.whole enough;
    once = o.once;
  }
  one-ready account tips call calls o enough = absurd (false≢true o.at_tip)

  all-ready : (account : ℕ) (tips : List Tip) (calls : List RootCall) → AreOnOffer dig events account tips calls
      → reserve_of (log_of events) tips ≤ balance_of (log_of events) account
      → AreReady (tests_by dig) rules (log_of events) account tips calls
  unfolding AreOnOffer AreReady
  all-ready account tips [] offers enough = tt
  all-ready account tips (call ∷ calls) offers enough = (
    elim offers.0 [
      | inl o ↦ inl (one-ready account tips call calls o enough)
      | inr free ↦ inr free
    ],
    all-ready account tips calls offers.1 enough,
  )

pub reserve_suffices : LegalReserveSuffices
reserve_suffices dig rules events account tips calls digest legal offers enough =
    in-order (tests_by dig) rules account tips calls (log_of events)
    (all-ready dig digest rules events legal account tips calls offers enough) enough

pub run_reserve_suffices : ReserveSuffices
run_reserve_suffices dig lines run world later events account tips calls is split =
    reserve_suffices dig (rules_of world.chain) events account tips calls is.digest
    (legal-to dig lines run world later events is split)
