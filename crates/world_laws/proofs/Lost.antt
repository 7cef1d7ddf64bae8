-- A coin that was looked after isn't taken.
use Rattle.world_laws.proofs.Basics.{◌≡◌, ◌⊎◌, ℕ, ◌==◌, ◌&&◌, not, true, false, if◌then◌else◌, List, [], ◌∷◌, Option, Some, None, inl, inr, refl, sym, ap, ◌∙◌, subst, arith, rules, option_or, list_any, cases_Bool, eq-eqb, eqb-true, le-leb, and_parts, and_from, or_parts, or_cases, or_from, not-true, not_from_false, true≢false, false≢true, false_from_ne_true, common_steps, some_same, none_some, found-has}
use Rattle.world_laws.proofs.CoinWords.{Owner, RootCall, After, Between, Finish, Answer, now, coin_at, Exit, exits, exit_at, is_withdrawn, has_no_open_challenge, Tests, Rules, tests_by, is_accepted, answer_to, is_paid, accepted_calls_show, Has, all-has, contains-has}
use Rattle.world_laws.proofs.WorldWords.{IsDigest, Event, Declares, Joins, log_of, wallet_owner, accepted, bound_by, taken_back, signed_away_by, is_sent_from, is_bundle, seen, strings_of, has_clash, is_forged, was_deposited, holds, is_mine, is_own, call_harms, harms, is_finish_paid, pays_own, pays_other, ends_own, takes_from, before_taking, exit_was_paid, starts_by, left_by, LegalCall, IsLegal, is_looked_after, AllWatched, accepted-stay, deposited-stays}
use Rattle.world_laws.proofs.HeldCoins.{owner-stays, holding}
use Rattle.plasma_tx.proofs.Ends.{paid_exactly}
use Rattle.world_laws.proofs.Guards.{holds-from}
use Rattle.world_laws.proofs.Offers.{left_start}
use Rattle.world_laws.proofs.Before.{none-before, forged-parts, legal-before}
use Rattle.world_laws.proofs.Safe.{looked-parts, watched, safe-event}
use Rattle.world_laws.proofs.OwnExits.{IsOwnAt, IfOwn, IsStartedBy, came-from, undeclared-none, own_kept}
use Rattle.world_laws.proofs.Exhibited.{or-none}

-- ---- holding goes on

holds-on : (tests : Tests) (rules : Rules) (event : Event) (events : List Event) (w c e : ℕ)
    → IsLegal tests rules (event ∷ events) → holds events w c e ≡ true
    → is_sent_from (signed_away_by (event ∷ events) w) c e ≡ false
    → is_withdrawn (log_of (event ∷ events)) c ≡ false → holds (event ∷ events) w c e ≡ true
holds-on tests rules event events w c e legal is not_away stays =
    grind (arith, common_steps, holding, holds-from, owner-stays, deposited-stays, accepted-stay)

-- ---- what one call does

module _ (tests : Tests) (rules : Rules) (me : Owner) (c e : ℕ) (log : List RootCall) where
  own-there : (k f : ℕ) (x : Exit) → exit_at log k f ≡ Some x → k ≡ c → f ≡ e → is_mine me x ≡ true
      → Has (exits log) x × IsOwnAt me c e x
  own-there k f x found k_is f_is mine =
      let place = found-has log k f x found in (place.0, (place.1 ∙ k_is, mine, place.2 ∙ f_is))

  -- an own exit of that name is there
  own-found : (k f : ℕ) → (k == c) ≡ true → (f == e) ≡ true → is_own me (exit_at log k f) ≡ true
      → (x : Exit) × Has (exits log) x × IsOwnAt me c e x
  own-found k f k_is f_is own = by_exit (exit_at log k f) refl own
    where
      by_exit : (o : Option Exit) → exit_at log k f ≡ o → is_own me o ≡ true
          → (x : Exit) × Has (exits log) x × IsOwnAt me c e x
      by_exit None none wrong = absurd (false≢true wrong)
      by_exit (Some x) found mine =
          let r = own-there k f x found (eqb-true k c k_is) (eqb-true f e f_is) mine in (x, r.0, r.1)

  -- a Finish that is accepted withdraws the coin only where it pays another's exit or the own one
  stays-in : (time : ℕ) (call : RootCall) → is_accepted (answer_to tests rules log call) ≡ true
      → is_withdrawn log c ≡ false → AllWatched c me e time (exits log)
      → pays_other tests rules log me c (Joins call) ≡ false → pays_own tests rules log me c e (Joins call) ≡ false
      → is_withdrawn (call ∷ log) c ≡ false
  unfolding is_withdrawn
  stays-in time (Finish account k f) is stays all no_other no_own =
      grind (arith, common_steps, or_from, false_from_ne_true, withdraws)
    where
      withdraws : ((k == c) && has_no_open_challenge (exit_at log k f)) ≡ true → ⊥
      withdraws on =
          let s = accepted_calls_show tests rules log (Finish account k f) is in
          let parts = and_parts (k == c) (has_no_open_challenge (exit_at log k f)) on in
          let k_is : k ≡ c = eqb-true k c parts.0 in
          let unopposed : has_no_open_challenge (Some s.exit) ≡ true =
          ap has_no_open_challenge (sym s.stands) ∙ parts.1 in
          let paid : is_finish_paid tests rules log account k f ≡ true = ap is_paid
          ((paid_exactly tests rules log account k f).1 (
            s,
            grind (arith, common_steps, and_from, not_from_false),
          )) in
          let place = found-has log k f s.exit s.stands in
          grind (arith, common_steps, all-has, cases_Bool, true≢false, and_from, eq-eqb, not_from_false)
  stays-in time call is stays all no_other no_own = stays

  -- what ends the own exit names it, and harms if the coin is held
  ends-harms : (call : RootCall) → is_accepted (answer_to tests rules log call) ≡ true
      → ends_own tests rules log me c e (Joins call) ≡ true
      → ((x : Exit) × Has (exits log) x × IsOwnAt me c e x) × (call_harms tests rules log me c e call ≡ true)
  unfolding call_harms
  ends-harms (After account k f spend) is ends = grind (arith, common_steps, and_parts, own-found, and_from)
  ends-harms (Between account k f spend) is ends = grind (arith, common_steps, and_parts, own-found, and_from)
  ends-harms (Finish account k f) is ends =
      let answer : Answer = answer_to tests rules log (Finish account k f) in
      let s = accepted_calls_show tests rules log (Finish account k f) is in
      let whole = and_parts ((k == c) && (f == e) && is_own me (exit_at log k f)) (not (is_paid answer)) ends in
      let parts = and_parts ((k == c) && (f == e)) (is_own me (exit_at log k f)) whole.0 in
      let names = and_parts (k == c) (f == e) parts.0 in
      let mine : is_mine me s.exit ≡ true = ap (is_own me) (sym s.stands) ∙ parts.1 in
      let place = found-has log k f s.exit s.stands in
      grind (arith, common_steps, eqb-true, and_from, eq-eqb, le-leb, own-found)
  ends-harms call is ends = absurd (false≢true ends)

  -- another's exit that is paid harms
  pays-harms : (call : RootCall) → pays_other tests rules log me c (Joins call) ≡ true
      → call_harms tests rules log me c e call ≡ true
  unfolding call_harms
  pays-harms call pays = grind (arith, common_steps, and_parts, and_from, false≢true, not-true)

-- ---- all events

module _ (dig : List ℕ → List ℕ) (digest : IsDigest dig) (rules : Rules) (me : Owner) (w c e : ℕ) where
  taking-parts : (event : Event) (events : List Event)
      → before_taking (tests_by dig) rules (event ∷ events) me w c e ≡ None
      → (before_taking (tests_by dig) rules events me w c e ≡ None)
      × (takes_from (tests_by dig) rules events me w c e event ≡ false)
  unfolding before_taking
  taking-parts event events none = grind (arith, common_steps, or-none, none_some)

  unpaid-parts : (event : Event) (events : List Event)
      → exit_was_paid (tests_by dig) rules (event ∷ events) me c e ≡ false
      → (pays_own (tests_by dig) rules (log_of events) me c e event ≡ false)
      × (exit_was_paid (tests_by dig) rules events me c e ≡ false)
  unfolding exit_was_paid
  unpaid-parts event events none = or_parts _ _ none

  -- the tip of a start by the wallet is one that it has
  start-source : (events : List Event) (call : RootCall) → IsLegal (tests_by dig) rules events
      → wallet_owner events w ≡ Some me → LegalCall (tests_by dig) rules events call
      → IsStartedBy (log_of events) me c e call
      → (was_deposited me e (coin_at (log_of events) c) ≡ true)
      ⊎ (list_any (is_bundle c e) (accepted events w) ≡ true)
  start-source events call legal me_is allowed s =
      let k = left_start (tests_by dig) rules events w call legal
      (contains-has (left_by events w) call (allowed.offered w me me_is s.start)) in
      grind (arith, common_steps, some_same, or_cases)

  -- after an accepted call that pays neither another's exit nor the own one
  held-call : (call : RootCall) (events : List Event) → IsLegal (tests_by dig) rules (Joins call ∷ events)
      → has_clash dig (strings_of dig c (seen events c)) ≡ false → is_forged rules.tag events w c ≡ false
      → is_looked_after events w c e ≡ true → wallet_owner events w ≡ Some me
      → takes_from (tests_by dig) rules events me w c e (Joins call) ≡ false
      → pays_own (tests_by dig) rules (log_of events) me c e (Joins call) ≡ false
      → is_sent_from (signed_away_by (Joins call ∷ events) w) c e ≡ false → holds events w c e ≡ true
      → holds (Joins call ∷ events) w c e ≡ true
  unfolding IsLegal log_of
  held-call call events legal none unforged looked me_is untaken unpaid not_away is =
      let h = holding events w c e is in
      let mine : h.me ≡ me = some_same h.me me (sym h.me_is ∙ me_is) in
      let all = watched dig digest rules w c e events legal.1 none unforged looked h in
      let no_other : pays_other (tests_by dig) rules (log_of events) me c (Joins call) ≡ false =
      false_from_ne_true _ (λ pays. true≢false (sym (and_from _ _ pays is) ∙ (or_parts _ _ untaken).0)) in
      holds-on (tests_by dig) rules (Joins call) events w c e legal is not_away
      (stays-in (tests_by dig) rules me c e (log_of events) (now (log_of events)) call legal.0.accepted h.not_withdrawn
      (subst (λ m. AllWatched c m e (now (log_of events)) (exits (log_of events))) mine all) no_other unpaid)

  -- while an own exit stands, the coin is held
  own_held : (events : List Event) → IsLegal (tests_by dig) rules events
      → has_clash dig (strings_of dig c (seen events c)) ≡ false → is_forged rules.tag events w c ≡ false
      → is_looked_after events w c e ≡ true → before_taking (tests_by dig) rules events me w c e ≡ None
      → exit_was_paid (tests_by dig) rules events me c e ≡ false → wallet_owner events w ≡ Some me → (x : Exit)
      → Has (exits (log_of events)) x → IsOwnAt me c e x → holds events w c e ≡ true
  unfolding IsLegal log_of exits wallet_owner taken_back bound_by
  own_held [] legal none unforged looked untaken unpaid me_is x there own = absurd there
  own_held (Declares v other ∷ events) legal none unforged looked untaken unpaid me_is x there own =
      let taken = taking-parts (Declares v other) events untaken in
      let paid = unpaid-parts (Declares v other) events unpaid in
      (elim (v == w) as (λ b. (v == w) ≡ b → (if b then Some other else wallet_owner events w) ≡ Some me
      → holds (Declares v other ∷ events) w c e ≡ true) [
        | true ↦ grind (arith, some_same, undeclared-none)
        | false ↦ λ apart mine.
            let is = own_held events legal.1 (none-before dig (Declares v other) events c none)
            (forged-parts rules.tag (Declares v other) events w c unforged).1
            (looked-parts (Declares v other) events w c e looked).1 taken.0 paid.1 mine x there own in
            holds-on (tests_by dig) rules (Declares v other) events w c e legal is
            (own_kept (tests_by dig) rules w c e (Declares v other ∷ events) legal me me_is x there own)
            (holding events w c e is).not_withdrawn
      ]) refl me_is
  own_held (Joins call ∷ events) legal none unforged looked untaken unpaid me_is x there own =
      let taken = taking-parts (Joins call) events untaken in
      let paid = unpaid-parts (Joins call) events unpaid in
      let before = none-before dig (Joins call) events c none in
      let honest = (forged-parts rules.tag (Joins call) events w c unforged).1 in
      let watches = (looked-parts (Joins call) events w c e looked).1 in
      let kept = own_kept (tests_by dig) rules w c e (Joins call ∷ events) legal me me_is x there own in
      held-call call events legal before honest watches me_is taken.1 paid.0 kept
      (elim (all-has (IfOwn (log_of events) me c e call) (exits (call ∷ log_of events)) x
      (came-from (tests_by dig) rules (log_of events) me c e call legal.0.accepted) there own) [
        | inl r ↦ own_held events legal.1 before honest watches taken.0 paid.1 me_is r.0 r.1 r.2
        | inr s ↦ grind (arith, holds-from, start-source)
      ])
  own_held (event ∷ events) legal none unforged looked untaken unpaid me_is x there own =
      let is = own_held events legal.1 (none-before dig event events c none)
      (forged-parts rules.tag event events w c unforged).1 (looked-parts event events w c e looked).1
      (taking-parts event events untaken).0 (unpaid-parts event events unpaid).1 me_is x there own in
      holds-on (tests_by dig) rules event events w c e legal is
      (own_kept (tests_by dig) rules w c e (event ∷ events) legal me me_is x there own)
      (holding events w c e is).not_withdrawn

  -- ---- nothing takes the coin

  -- who the wallet is, if it is declared; before that nobody starts an exit by its account
  pub record Knows (events : List Event) : Type 0 where
    pub same : (other : Owner) → wallet_owner events w ≡ Some other → other ≡ me
    pub none : wallet_owner events w ≡ None → list_any (starts_by me.account) (log_of events) ≡ false

  knows-none : (event : Event) (events : List Event) → IsLegal (tests_by dig) rules (event ∷ events)
      → Knows (event ∷ events) → wallet_owner events w ≡ None
      → list_any (starts_by me.account) (log_of events) ≡ false
  unfolding IsLegal wallet_owner log_of
  knows-none (Declares v other) events legal k undeclared =
      (elim (v == w) as (λ b. (v == w) ≡ b
      → ((o : Owner) → (if b then Some other else wallet_owner events w) ≡ Some o → o ≡ me)
      → ((if b then Some other else wallet_owner events w) ≡ None
      → list_any (starts_by me.account) (log_of events) ≡ false)
      → list_any (starts_by me.account) (log_of events) ≡ false) [
        | true ↦ λ on same none.
            let owner = same other refl in
            ap (λ (o : Owner). list_any (starts_by o.account) (log_of events)) (sym owner) ∙ legal.0.no_start
        | false ↦ λ off same none. none undeclared
      ]) refl k.same k.none
  knows-none (Joins call) events legal k undeclared = (or_parts _ _ (k.none undeclared)).1
  knows-none event events legal k undeclared = k.none undeclared

  knows-before : (event : Event) (events : List Event) → IsLegal (tests_by dig) rules (event ∷ events)
      → Knows (event ∷ events) → Knows events
  knows-before event events legal k = record {
    same = λ other is. k.same other (owner-stays (tests_by dig) rules event events w other legal is);
    none = knows-none event events legal k;
  }

  -- where the coin is held, an event that harms can't be
  harm-none : (event : Event) (events : List Event) → IsLegal (tests_by dig) rules (event ∷ events)
      → has_clash dig (strings_of dig c (seen (event ∷ events) c)) ≡ false
      → is_forged rules.tag (event ∷ events) w c ≡ false → is_looked_after events w c e ≡ true → Knows events
      → holds events w c e ≡ true → harms (tests_by dig) rules (log_of events) (Some me) c e event ≡ true → ⊥
  harm-none event events legal none unforged looked k held harm =
      let h = holding events w c e held in
      let owner : wallet_owner events w ≡ Some me = h.me_is ∙ ap (λ (o : Owner). Some o) (k.same h.me h.me_is) in
      true≢false (sym (grind (arith, common_steps, and_from))
      ∙ safe-event dig digest rules w c e event events legal looked none unforged)

  pays-harm : (event : Event) (events : List Event)
      → pays_other (tests_by dig) rules (log_of events) me c event ≡ true
      → harms (tests_by dig) rules (log_of events) (Some me) c e event ≡ true
  pays-harm (Joins call) events pays = pays-harms (tests_by dig) rules me c e (log_of events) call pays
  pays-harm event events pays = absurd (false≢true pays)

  ends-harm : (event : Event) (events : List Event) → IsLegal (tests_by dig) rules (event ∷ events)
      → ends_own (tests_by dig) rules (log_of events) me c e event ≡ true
      → ((x : Exit) × Has (exits (log_of events)) x × IsOwnAt me c e x)
      × (harms (tests_by dig) rules (log_of events) (Some me) c e event ≡ true)
  unfolding IsLegal
  ends-harm (Joins call) events legal ends =
      ends-harms (tests_by dig) rules me c e (log_of events) call legal.0.accepted ends
  ends-harm event events legal ends = absurd (false≢true ends)

  untaken : (event : Event) (events : List Event) → IsLegal (tests_by dig) rules (event ∷ events)
      → has_clash dig (strings_of dig c (seen (event ∷ events) c)) ≡ false
      → is_forged rules.tag (event ∷ events) w c ≡ false → is_looked_after events w c e ≡ true → Knows events
      → before_taking (tests_by dig) rules events me w c e ≡ None
      → exit_was_paid (tests_by dig) rules events me c e ≡ false
      → takes_from (tests_by dig) rules events me w c e event ≡ true → ⊥
  untaken event events legal none unforged looked k before unpaid takes =
      grind (arith, common_steps, or_cases, and_parts, harm-none, pays-harm, ends-harm, by_owner)
    where
      by_owner : (o : Option Owner) → wallet_owner events w ≡ o → (x : Exit) → Has (exits (log_of events)) x
          → IsOwnAt me c e x → harms (tests_by dig) rules (log_of events) (Some me) c e event ≡ true → ⊥
      by_owner None o_is x there own harm =
          undeclared-none (tests_by dig) rules w c e events me x (k.none o_is) there own.1
      by_owner (Some other) o_is x there own harm =
          let owner : wallet_owner events w ≡ Some me = o_is ∙ ap (λ (o : Owner). Some o) (k.same other o_is) in
          harm-none event events legal none unforged looked k
          (own_held events (legal-before (tests_by dig) rules event events legal) (none-before dig event events c none)
          (forged-parts rules.tag event events w c unforged).1 looked before unpaid owner x there own) harm

  pub never-lost : (events : List Event) → IsLegal (tests_by dig) rules events
      → has_clash dig (strings_of dig c (seen events c)) ≡ false → is_forged rules.tag events w c ≡ false
      → Knows events → exit_was_paid (tests_by dig) rules events me c e ≡ false → (before : List Event)
      → before_taking (tests_by dig) rules events me w c e ≡ Some before → is_looked_after before w c e ≡ true → ⊥
  unfolding before_taking
  never-lost [] legal none unforged k unpaid before taken watches = none_some before taken
  never-lost (event ∷ events) legal none unforged k unpaid before taken watches =
      let earlier = legal-before (tests_by dig) rules event events legal in
      let paid = (unpaid-parts event events unpaid).1 in
      let known = knows-before event events legal k in
      (elim (before_taking (tests_by dig) rules events me w c e) as (λ o.
      before_taking (tests_by dig) rules events me w c e ≡ o
      → option_or o (if takes_from (tests_by dig) rules events me w c e event then Some events else None)
      ≡ Some before → ⊥) [
        | Some b ↦ λ some same. never-lost events earlier (none-before dig event events c none)
            (forged-parts rules.tag event events w c unforged).1 known paid before
            (some ∙ same) watches
        | None ↦ grind (arith, some_same, untaken, none_some)
      ]) refl taken
