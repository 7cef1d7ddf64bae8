-- The worked list in which the wallet leaves first.
use Rattle.money_laws.proofs.Basics.{◌≡◌, ℕ, ◌==◌, ◌≤◌, ◌||◌, Bool, true, false, if◌then◌else◌, List, [], ◌∷◌, Some, None, inl, inr, refl, sym, ap, subst, arith, Contains, eqb-true, and_parts, or_cases, false≢true}
use Rattle.money_laws.proofs.CoinWords.{Owner, Links, RootCall, Tick, Finish, Paid, now, blocks, coins, block_at, coin_at, responses, exits, exit_at, is_withdrawn, answer_to, is_accepted, pays, takes, share_of, balance_of, links_in, is_owner, has-contains}
use Rattle.money_laws.proofs.WorldWords.{Event, Joins, Leaves, log_of, wallet_owner, accepted, bound_by, taken_back, not_taken, guarded_by, openings_of, seen, is_forged, was_deposited, holds, call_harms, is_safe, Bare, is_tip, left_by, LegalLeave, LegalCall, IsLegal, has_look, is_looked_after, none_some, has_led, ends_first, is_in_time, me, tag, rules, transfer, stranger, signed, unsigned, shows, planted, taken, began, exit_one, own_exit, tests, finish, raced, ShowsNothing, LeavingFirstIsTight}
use Rattle.money_laws.proofs.Shows.{signs_not, unsigned_not}
use Rattle.money_laws.proofs.Began.{IsMine, began-mine, began-100, began-legal, legal-call, exit-taken, planted-worked, taken-worked, forges-not, clear-one, whole-by}
use Rattle.money_laws.proofs.WorkedGuard.{one, bare}

-- ---- the wallet leaves

abbrev links : Links
links = record { coin = 1; deposit = 1; owner = me; spends = [] }

-- its only tip of coin 1 is block 1
top : (n : ℕ) → is_tip (began 100) 1 me 1 n ≡ true → n ≤ 1
unfolding log_of accepted coins coin_at blocks
top n is = elim (or_cases (was_deposited me n (Some one)) false is) [
  | inl made ↦ let same = eqb-true 1 n (and_parts (1 == n) (is_owner me me) made).0 in omega (arith, same)
  | inr none ↦ absurd (false≢true none)
]

leaves : LegalLeave rules (began 100) 1 own_exit
unfolding log_of wallet_owner accepted bound_by taken_back not_taken holds links_in now blocks coins coin_at responses
    exits exit_at is_withdrawn
leaves = record {
  me = me;
  me_is = refl;
  bundle = bare 1;
  shows = Bare refl refl;
  at_top = record { held = refl; top = top };
  links = links;
  links_are = refl;
  call_is = refl;
}

abbrev leaving : List Event
leaving = Leaves 1 own_exit ∷ began 100

own-by : (b : Bool) (owner : Owner) → (if b then Some me else None) ≡ Some owner
    → (if b then own_exit ∷ [] else []) ≡ own_exit ∷ []
own-by true owner is = refl
own-by false owner is = absurd (none_some owner is)

own-call : LegalCall tests rules leaving own_exit
unfolding log_of wallet_owner left_by answer_to balance_of pays takes share_of now blocks coins block_at coin_at
    responses exits exit_at is_withdrawn
own-call = record {
  accepted = refl;
  offered = λ w owner is starts.
      subst (λ (calls : List RootCall). Contains calls own_exit) (sym (own-by (1 == w) owner is))
      (has-contains (own_exit ∷ []) own_exit (inl refl));
}

-- ---- the stranger's exit begins a second later

abbrev left : List Event
left = Joins (Tick 1) ∷ Joins own_exit ∷ leaving

left-mine : IsMine left
unfolding wallet_owner
left-mine w owner is = began-mine 100 w owner is

left-legal : IsLegal tests rules left
unfolding IsLegal log_of wallet_owner answer_to now
left-legal = (
  legal-call (Joins own_exit ∷ leaving) (Tick 1) (λ w owner is. began-mine 100 w owner is) refl refl,
  (own-call, (leaves, began-legal 100 began-100)),
)

start-accepted : is_accepted (answer_to tests rules (log_of left) exit_one) ≡ true
unfolding log_of shows now blocks coins block_at coin_at responses exits exit_at is_withdrawn balance_of pays takes
    share_of
start-accepted = exit-taken (log_of left) 1 4 5 one (omega arith) (omega arith) refl refl refl refl refl refl refl

start-legal : IsLegal tests rules (Joins exit_one ∷ left)
unfolding IsLegal
start-legal = (legal-call left exit_one left-mine start-accepted refl, left-legal)

raced-mine : (time : ℕ) → IsMine (raced time)
unfolding wallet_owner
raced-mine time w owner is = began-mine 100 w owner is

raced-legal : (time : ℕ) → is_accepted (answer_to tests rules (log_of (Joins exit_one ∷ left)) (Tick time)) ≡ true
    → IsLegal tests rules (raced time)
unfolding IsLegal log_of wallet_owner
raced-legal time is = (
  legal-call (Joins exit_one ∷ left) (Tick time) (λ w owner of. began-mine 100 w owner of) is refl,
  start-legal,
)

own-paid : answer_to tests rules (log_of (raced 907200)) (Finish 50 1 1) ≡ Paid
unfolding log_of shows answer_to now blocks coins block_at coin_at responses exits exit_at is_withdrawn
own-paid = refl

paid-legal : IsLegal tests rules (Joins (Finish 50 1 1) ∷ raced 907200)
unfolding IsLegal log_of answer_to now
paid-legal = (
  legal-call (raced 907200) (Finish 50 1 1) (raced-mine 907200) (ap is_accepted own-paid) refl,
  raced-legal 907200 refl,
)

late-paid : answer_to tests rules (log_of (raced 907201)) finish ≡ Paid
unfolding log_of shows answer_to now blocks coins block_at coin_at responses exits exit_at is_withdrawn
late-paid = refl

late-legal : IsLegal tests rules (Joins finish ∷ raced 907201)
unfolding IsLegal log_of answer_to now
late-legal = (
  legal-call (raced 907201) finish (raced-mine 907201) (ap is_accepted late-paid) refl,
  raced-legal 907201 refl,
)

-- ---- nothing is shown

raced-honest : (time : ℕ) → is_forged tag (raced time) 1 1 ≡ false
unfolding is_forged openings_of wallet_owner bound_by unsigned signed
raced-honest time =
    λ i. (forges-not [] 4 (planted 1) (planted-worked 1 (omega arith)) (unsigned_not (transfer 1 200 stranger)) i
    || (forges-not [] 5 (taken 1 4) (taken-worked 1 4 (omega arith) (omega arith)) (signs_not (transfer 1 4 stranger))
    i || false)) || false

raced-nothing : (time block : ℕ) → ShowsNothing (Joins (Finish 50 1 block) ∷ raced time) 1
unfolding seen openings_of is_forged wallet_owner bound_by
raced-nothing time block = record {
  whole = whole-by (Joins (Finish 50 1 block) ∷ raced time) 1 (shows 4 (planted 1) ∷ shows 5 (taken 1 4) ∷ []) refl
      clear-one;
  honest = raced-honest time;
}

-- ---- in time, and late

unseen : is_looked_after (raced 907200) 1 1 1 ≡ false
unfolding log_of shows is_looked_after has_look holds wallet_owner accepted bound_by taken_back not_taken guarded_by
    now blocks coins coin_at responses exits exit_at is_withdrawn
unseen = refl

in-time : is_in_time (raced 907200) 1 1 1 ≡ true
unfolding log_of shows is_in_time holds wallet_owner accepted bound_by taken_back not_taken now blocks coins coin_at
    responses exits exit_at is_withdrawn
in-time = refl

late : is_in_time (raced 907201) 1 1 1 ≡ false
unfolding log_of shows is_in_time holds wallet_owner accepted bound_by taken_back not_taken now blocks coins coin_at
    responses exits exit_at is_withdrawn
late = refl

lost : is_safe tests rules (Joins finish ∷ raced 907201) 1 1 1 ≡ false
unfolding log_of shows is_safe call_harms answer_to holds wallet_owner accepted bound_by taken_back not_taken now blocks
    coins coin_at responses exits exit_at is_withdrawn
lost = refl

pub leaving_first_is_tight : LeavingFirstIsTight
unfolding log_of shows has_led ends_first now blocks coins block_at coin_at responses exits exit_at is_withdrawn
leaving_first_is_tight = record {
  legal = paid-legal;
  looked = unseen;
  in_time = in-time;
  nothing = raced-nothing 907200 1;
  led = refl;
  first = refl;
  paid = own-paid;
  late_legal = late-legal;
  late_nothing = raced-nothing 907201 5;
  late = late;
  late_led = refl;
  late_first = refl;
  lost = lost;
}
