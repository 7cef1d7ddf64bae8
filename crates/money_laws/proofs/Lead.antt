-- An exit that has led since it began is paid.
use Rattle.money_laws.proofs.Basics.{◌≡◌, ℕ, ◌+◌, ◌<◌, ◌≤◌, ◌==◌, ◌&&◌, ◌||◌, not, Bool, true, false, if◌then◌else◌, List, [], ◌∷◌, ◌++◌, Option, Some, None, option_map, inl, inr, refl, sym, ap, ◌∙◌, subst, arith, is_some, nat_le, AllByRecursion, list_any, list_all, cases_Bool, eqb-true, eq-eqb, leb-true, leb-false, le-leb, and_parts, and_from, not-true, not_from_false, true≢false, false≢true, false_from_ne_true, common_steps}
use Rattle.money_laws.proofs.CoinWords.{CHALLENGE_WINDOW, RESPONSE_WINDOW, EXIT_PERIOD, RootCall, Tick, StartDeposit, StartSpend, Before, Respond, Finish, Paid, is_start, is_end, start_by, last_start, without_challenges, now, Challenge, Exit, is_exit, exits, exit_at, challenge_at, with_challenge, with_answer, new_challenge, has_no_open_challenge, is_withdrawn, Tests, Rules, answer_to, is_accepted, IsLegal, accepted_calls_show, all-append, each-exit, paid_exactly, exits-distinct, exits_stand, Has, all-has, only-found, tests_by, rules_of}
use Rattle.money_laws.proofs.WorldWords.{some_same, none_some, any-none, and-off, all-from, all-changed, all-answered, found-has, all_answered-from, log_of, legal-log, legal-table, LeadersOfRunsArePaid, FirstsOfRunsArePaid, legal-to, is_ripe, is_missed, ends_lead, leads, has_led, ends_first, LeadersArePaid, FirstsLead, FirstsArePaid}

-- ---- challenges are made in their window

abbrev InWindow : Exit → Type 0
InWindow x = AllByRecursion (λ ch. ch.at < x.start + CHALLENGE_WINDOW) x.challenges

pushed-in : (x : Exit) (new : Challenge) → new.at < x.start + CHALLENGE_WINDOW → InWindow x
    → InWindow (with_challenge new x)
pushed-in x new inside was =
    elim (is_some (challenge_at new.block x.challenges)) as (λ b.
    InWindow (if b then x else record x { challenges = x.challenges ++ new ∷ [] })) [
      | true ↦ was
      | false ↦ all-append (λ (ch : Challenge). ch.at < x.start + CHALLENGE_WINDOW) x.challenges new was inside
    ]

pub windows : (rules : Rules) (log : List RootCall) → IsLegal rules log → AllByRecursion InWindow (exits log)
unfolding exits IsLegal
windows rules [] legal = tt
windows rules (Before account k f shown ∷ log) legal =
    let s = accepted_calls_show legal.0.0 rules log (Before account k f shown) legal.0.1 in
    all-changed InWindow log k f (with_challenge (new_challenge log account k f shown))
    (λ x found was.
    let same : s.exit ≡ x = some_same s.exit x (sym s.stands ∙ found) in
    pushed-in x (new_challenge log account k f shown)
    (subst (λ (y : Exit). now log < y.start + CHALLENGE_WINDOW) same s.in_time) was)
    (windows rules log legal.1)
windows rules (Respond account k f challenged spend ∷ log) legal =
    all-changed InWindow log k f (with_answer challenged)
    (λ x found was. all-answered (λ ch. ch.at < x.start + CHALLENGE_WINDOW) challenged x.challenges
    (λ ch names inside. inside) was)
    (windows rules log legal.1)
windows rules (call ∷ log) legal = each-exit InWindow log call tt tt (windows rules log legal.1)

-- ---- what leading says

led-leads : (log : List RootCall) (c e : ℕ) → has_led log c e ≡ true → leads log c e ≡ true
unfolding has_led
led-leads [] c e is = absurd (false≢true is)
led-leads (call ∷ log) c e is = (and_parts (leads (call ∷ log) c e) (is_start c e call || has_led log c e) is).0

lead-kept : (log : List RootCall) (c e : ℕ) → leads log c e ≡ true → (x : Exit) → Has (exits log) x → x.coin ≡ c
    → ends_lead (now log) e x ≡ false
lead-kept log c e is x there c_is = grind (arith, common_steps, and-off, any-none, not-true, eq-eqb)

-- no other standing exit is ripe
not-ripe : (log : List RootCall) (c e : ℕ) → leads log c e ≡ true → (x : Exit) → Has (exits log) x → x.coin ≡ c
    → (x.block == e) ≡ false → is_ripe (now log) x ≡ false
not-ripe log c e is x there c_is apart =
    sym (ap (λ b. if b then list_any (is_missed (now log)) x.challenges else is_ripe (now log) x) apart)
    ∙ lead-kept log c e is x there c_is

-- and no challenge of the own one was missed
none-missed : (log : List RootCall) (c e : ℕ) → leads log c e ≡ true → (x : Exit) → Has (exits log) x → x.coin ≡ c
    → x.block ≡ e → list_any (is_missed (now log)) x.challenges ≡ false
none-missed log c e is x there c_is at =
    sym (ap (λ b. if b then list_any (is_missed (now log)) x.challenges else is_ripe (now log) x)
    (eq-eqb x.block e at))
    ∙ lead-kept log c e is x there c_is

-- ---- the exit before a call

-- an exit that stands after a call that doesn't start it stood before, and the call doesn't end it
record Stood (call : RootCall) (log : List RootCall) (c e : ℕ) : Type 0 where
  exit : Exit
  stands : exit_at log c e ≡ Some exit
  not_ended : is_end c e call ≡ false

stood : (call : RootCall) (log : List RootCall) (c e : ℕ) (own : Exit) → exit_at (call ∷ log) c e ≡ Some own
    → is_start c e call ≡ false → Stood call log c e
unfolding last_start
stood call log c e own found other =
    by_end (is_end c e call) refl
    (sym (ap (λ b. if b then start_by log c e call else if is_end c e call then None else last_start log c e) other)
    ∙ sym (exits_stand (call ∷ log) c e) ∙ ap (option_map without_challenges) found)
  where
    by_exit : (o : Option Exit) → exit_at log c e ≡ o → is_end c e call ≡ false
        → option_map without_challenges o ≡ Some (without_challenges own) → Stood call log c e
    by_exit None is goes_on same = absurd (none_some (without_challenges own) same)
    by_exit (Some exit) is goes_on same = record { exit = exit; stands = is; not_ended = goes_on }

    by_end : (b : Bool) → is_end c e call ≡ b
        → (if b then None else last_start log c e) ≡ Some (without_challenges own) → Stood call log c e
    by_end true is same = absurd (none_some (without_challenges own) same)
    by_end false is same = by_exit (exit_at log c e) refl is (exits_stand log c e ∙ same)

-- ---- the coin isn't withdrawn

-- by the start
start-unwithdrawn : (tests : Tests) (rules : Rules) (log : List RootCall) (call : RootCall) (c e : ℕ)
    → is_start c e call ≡ true → is_accepted (answer_to tests rules log call) ≡ true
    → is_withdrawn (call ∷ log) c ≡ false
unfolding is_withdrawn
start-unwithdrawn tests rules log (StartDeposit account k block) c e start is =
    subst (λ n. is_withdrawn log n ≡ false) (eqb-true k c (and_parts (k == c) (block == e) start).0)
    (accepted_calls_show tests rules log (StartDeposit account k block) is).not_withdrawn
start-unwithdrawn tests rules log (StartSpend account k parent exit) c e start is =
    subst (λ n. is_withdrawn log n ≡ false) (eqb-true k c (and_parts (k == c) (exit.block == e) start).0)
    (accepted_calls_show tests rules log (StartSpend account k parent exit) is).not_withdrawn
start-unwithdrawn tests rules log call c e start is = absurd (false≢true start)

-- no other standing exit is ripe
abbrev NoOtherRipe : List RootCall → ℕ → ℕ → Type 0
NoOtherRipe log c e = (x : Exit) → Has (exits log) x → x.coin ≡ c → (x.block == e) ≡ false
    → is_ripe (now log) x ≡ false

-- by a later call, where before it no other standing exit is ripe
later-unwithdrawn : (tests : Tests) (rules : Rules) (log : List RootCall) (call : RootCall) (c e : ℕ)
    → is_end c e call ≡ false → NoOtherRipe log c e → is_accepted (answer_to tests rules log call) ≡ true
    → is_withdrawn log c ≡ false → is_withdrawn (call ∷ log) c ≡ false
unfolding is_withdrawn
later-unwithdrawn tests rules log (Finish account k f) c e goes_on none is before =
    ap (λ b. b || is_withdrawn log c)
    (false_from_ne_true ((k == c) && has_no_open_challenge (exit_at log k f)) (λ yes.
    let k_is = eqb-true k c (and_parts (k == c) (has_no_open_challenge (exit_at log k f)) yes).0 in
    let s = accepted_calls_show tests rules log (Finish account k f) is in
    let place = found-has log k f s.exit s.stands in
    let apart = false_from_ne_true (s.exit.block == e) (λ at. true≢false
    (sym (and_from (k == c) (f == e) (eq-eqb k c k_is)
    (eq-eqb f e (sym place.2 ∙ eqb-true s.exit.block e at))) ∙ goes_on)) in
    true≢false (sym (le-leb (s.exit.start + EXIT_PERIOD) (now log) s.in_time)
    ∙ none s.exit place.0 (place.1 ∙ k_is) apart)))
    ∙ before
later-unwithdrawn tests rules log call c e goes_on none is before = before

unwithdrawn : (rules : Rules) (log : List RootCall) (c e : ℕ) (own : Exit) → IsLegal rules log
    → exit_at log c e ≡ Some own → has_led log c e ≡ true → is_withdrawn log c ≡ false
unfolding IsLegal has_led is_withdrawn
unwithdrawn rules [] c e own legal found led = refl
unwithdrawn rules (call ∷ log) c e own legal found led =
    elim (cases_Bool (is_start c e call)) [
      | inl start ↦ start-unwithdrawn legal.0.0 rules log call c e start legal.0.1
      | inr other ↦
          let before : has_led log c e ≡ true = sym (ap (λ b. b || has_led log c e) other)
          ∙ (and_parts (leads (call ∷ log) c e) (is_start c e call || has_led log c e) led).1 in
          let s = stood call log c e own found other in
          later-unwithdrawn legal.0.0 rules log call c e s.not_ended (not-ripe log c e (led-leads log c e before))
          legal.0.1 (unwithdrawn rules log c e s.exit legal.1 s.stands before)
    ]

-- ---- it is paid

settled : (b : Bool) → (b ≡ false → b ≡ true) → b ≡ true
settled true f = refl
settled false f = f refl

-- an exit at its end, whose challenges were answered in time, of a coin that isn't withdrawn
ended-paid : (tests : Tests) (rules : Rules) (log : List RootCall) (account c e : ℕ) (own : Exit)
    → IsLegal rules log → exit_at log c e ≡ Some own → own.start + EXIT_PERIOD ≤ now log
    → list_any (is_missed (now log)) own.challenges ≡ false → is_withdrawn log c ≡ false
    → answer_to tests rules log (Finish account c e) ≡ Paid
ended-paid tests rules log account c e own legal found over none free =
    let place = found-has log c e own found in
    let inside = all-has InWindow (exits log) own (windows rules log legal) place.0 in
    let answered : list_all (λ (ch : Challenge). ch.answered) own.challenges ≡ true =
    all_answered-from own.challenges (all-from (λ (ch : Challenge). ch.answered ≡ true) own.challenges
    (λ ch there. settled ch.answered (λ no.
    let early = all-has (λ (x : Challenge). x.at < own.start + CHALLENGE_WINDOW) own.challenges ch inside there in
    absurd (true≢false (sym (and_from (not ch.answered) (nat_le (ch.at + RESPONSE_WINDOW) (now log))
    (not_from_false ch.answered no) (le-leb (ch.at + RESPONSE_WINDOW) (now log) (omega (arith, early, over))))
    ∙ any-none (is_missed (now log)) own.challenges ch none there))))) in
    (paid_exactly tests rules log account c e).1 (
      record { exit = own; stands = found; in_time = over },
      and_from (has_no_open_challenge (Some own)) (not (is_withdrawn log c)) answered
          (not_from_false (is_withdrawn log c) free),
    )

pub leaders_are_paid : LeadersArePaid
leaders_are_paid tests rules log account c e own legal found led over =
    let place = found-has log c e own found in
    ended-paid tests rules log account c e own legal found over
    (none-missed log c e (led-leads log c e led) own place.0 place.1 place.2)
    (unwithdrawn rules log c e own legal found led)

pub run_leaders_are_paid : LeadersOfRunsArePaid
run_leaders_are_paid dig lines run world later events account c e own is split =
    leaders_are_paid (tests_by dig) (rules_of world.chain) (log_of events) account c e own
    (legal-table (tests_by dig) (rules_of world.chain) (log_of events)
    (legal-log (tests_by dig) (rules_of world.chain) events (legal-to dig lines run world later events is split)))

-- ---- who began first leads

any-off : (p : Exit → Bool) (xs : List Exit) → ((x : Exit) → Has xs x → p x ≡ false) → list_any p xs ≡ false
any-off p [] off = refl
any-off p (x ∷ xs) off = ap (λ b. b || list_any p xs) (off x (inl refl)) ∙ any-off p xs (λ y there. off y (inr there))

the-one : (log : List RootCall) (c e : ℕ) (own x : Exit) → exit_at log c e ≡ Some own → Has (exits log) x
    → x.coin ≡ c → x.block ≡ e → x ≡ own
unfolding exit_at
the-one log c e own x found there c_is at =
    some_same x own (sym (only-found (is_exit c e) (exits log) x (exits-distinct log c e) there
    (and_from (x.coin == c) (x.block == e) (eq-eqb x.coin c c_is) (eq-eqb x.block e at))) ∙ found)

pub firsts_lead : FirstsLead
firsts_lead log c e own found first none early =
    not_from_false (list_any (λ exit. (exit.coin == c) && ends_lead (now log) e exit) (exits log))
    (any-off (λ exit. (exit.coin == c) && ends_lead (now log) e exit) (exits log)
    (λ x there. false_from_ne_true ((x.coin == c) && ends_lead (now log) e x) (λ yes.
    let parts = and_parts (x.coin == c) (ends_lead (now log) e x) yes in
    let c_is = eqb-true x.coin c parts.0 in
    elim (cases_Bool (x.block == e)) [
      | inl at ↦ grind (arith, common_steps, the-one, eqb-true, true≢false)
      | inr apart ↦ grind (arith, common_steps, leb-true, leb-false, and-off, any-none)
    ])))

-- ---- who ends first is paid

-- the clock only rises
risen : (rules : Rules) (call : RootCall) (log : List RootCall) → IsLegal rules (call ∷ log)
    → now log ≤ now (call ∷ log)
unfolding IsLegal now
risen rules (Tick time) log legal = (accepted_calls_show legal.0.0 rules log (Tick time) legal.0.1).0
risen rules call log legal = omega arith

-- what is ripe by then
ahead-kept : (time : ℕ) (log : List RootCall) (c e : ℕ) → ends_first time log c e ≡ true → now log ≤ time
    → NoOtherRipe log c e
unfolding ends_first
ahead-kept time [] c e is by x there c_is apart = absurd (false≢true is)
ahead-kept time (call ∷ log) c e is by x there c_is apart =
    let now_is : ℕ = now (call ∷ log) in
    let never = not-true (list_any (λ (exit : Exit). (exit.coin == c) && not (exit.block == e) && is_ripe time exit)
    (exits (call ∷ log)))
    (and_parts (not (list_any (λ (exit : Exit). (exit.coin == c) && not (exit.block == e) && is_ripe time exit)
    (exits (call ∷ log)))) (is_start c e call || ends_first time log c e) is).0 in
    let off = any-none (λ (exit : Exit). (exit.coin == c) && not (exit.block == e) && is_ripe time exit)
    (exits (call ∷ log)) x never there in
    false_from_ne_true (is_ripe now_is x) (λ ripe.
    let over = leb-true (x.start + EXIT_PERIOD) now_is ripe in
    true≢false (sym (and_from ((x.coin == c) && not (x.block == e)) (is_ripe time x)
    (and_from (x.coin == c) (not (x.block == e)) (eq-eqb x.coin c c_is) (not_from_false (x.block == e) apart))
    (le-leb (x.start + EXIT_PERIOD) time (omega (arith, over, by))))
    ∙ off))

unpaid-ahead : (rules : Rules) (time : ℕ) (log : List RootCall) (c e : ℕ) (own : Exit) → IsLegal rules log
    → now log ≤ time → exit_at log c e ≡ Some own → ends_first time log c e ≡ true → is_withdrawn log c ≡ false
unfolding IsLegal ends_first is_withdrawn
unpaid-ahead rules time [] c e own legal by found first = refl
unpaid-ahead rules time (call ∷ log) c e own legal by found first =
    elim (cases_Bool (is_start c e call)) [
      | inl start ↦ start-unwithdrawn legal.0.0 rules log call c e start legal.0.1
      | inr other ↦
          let before : ends_first time log c e ≡ true = sym (ap (λ b. b || ends_first time log c e) other)
          ∙ (and_parts
          (not (list_any (λ (exit : Exit). (exit.coin == c) && not (exit.block == e) && is_ripe time exit)
          (exits (call ∷ log))))
          (is_start c e call || ends_first time log c e) first).1 in
          let s = stood call log c e own found other in
          let earlier : now log ≤ time = omega (arith, risen rules call log legal, by) in
          later-unwithdrawn legal.0.0 rules log call c e s.not_ended (ahead-kept time log c e before earlier)
          legal.0.1 (unpaid-ahead rules time log c e s.exit legal.1 earlier s.stands before)
    ]

pub firsts_are_paid : FirstsArePaid
firsts_are_paid tests rules log account c e own legal found over first none =
    ended-paid tests rules log account c e own legal found over none
    (unpaid-ahead rules (now log) log c e own legal (omega arith) found first)

pub run_firsts_are_paid : FirstsOfRunsArePaid
run_firsts_are_paid dig lines run world later events account c e own is split =
    firsts_are_paid (tests_by dig) (rules_of world.chain) (log_of events) account c e own
    (legal-table (tests_by dig) (rules_of world.chain) (log_of events)
    (legal-log (tests_by dig) (rules_of world.chain) events (legal-to dig lines run world later events is split)))
