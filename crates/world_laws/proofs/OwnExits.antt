-- Where a wallet's own exit comes from: a start that the wallet's leave offered. From then on no leaf sends the coin
-- from there.
use Rattle.world_laws.proofs.Basics.{◌≡◌, ◌⊎◌, ℕ, ◌==◌, ◌&&◌, ◌||◌, Bool, true, false, if◌then◌else◌, List, [], ◌∷◌, length, Some, inl, inr, refl, sym, ap, ◌∙◌, subst, arith, rules, AllByRecursion, list_any, eqb-true, eq-eqb, and_parts, and_from, or_cases, or_left, or_right, or_parts, true≢false, false≢true, false_from_ne_true, common_steps, some_same, all-from}
use Rattle.world_laws.proofs.CoinWords.{Owner, Body, RootCall, StartDeposit, StartSpend, Before, Respond, Exit, exits, is_withdrawn, Tests, Rules, is_accepted, answer_to, accepted_calls_show, all-weaker, each-exit, Has, all-has, contains-has, has-contains}
use Rattle.world_laws.proofs.NodeWords.{due_for_kept, exit_block}
use Rattle.world_laws.proofs.WorldWords.{Event, Declares, Joins, Binds, TakesBack, Watches, Leaves, Seals, log_of, coin_of_call, wallet_owner, bound_by, taken_back, is_taken, not_taken, signed_away_by, is_sent_from, is_command_of, offered, offers_of, is_mine, is_start, starts_by, left_by, is_left, LegalLeave, IsLegal}
use Rattle.world_laws.proofs.HeldCoins.{names, any-rest, any-without, any-top, holding}
use Rattle.world_laws.proofs.Offers.{kept-no_start, left-names}

-- ---- the account of each standing exit started one

abbrev pub HasStarter : List RootCall → Exit → Type 0
HasStarter log x = list_any (starts_by x.account) log ≡ true

starter-push : (call : RootCall) (log : List RootCall) → AllByRecursion (HasStarter log) (exits log)
    → AllByRecursion (HasStarter (call ∷ log)) (exits log)
starter-push call log all =
    all-weaker (HasStarter log) (HasStarter (call ∷ log))
    (λ x h. or_right (starts_by x.account call) (list_any (starts_by x.account) log) h) (exits log) all

pub starters : (log : List RootCall) → AllByRecursion (HasStarter log) (exits log)
unfolding exits
starters [] = tt
starters (StartDeposit account c block ∷ log) =
    each-exit (HasStarter (StartDeposit account c block ∷ log)) log (StartDeposit account c block)
    (or_left (account == account) (list_any (starts_by account) log) (eq-eqb account account refl)) tt
    (starter-push (StartDeposit account c block) log (starters log))
starters (StartSpend account c parent exit ∷ log) =
    each-exit (HasStarter (StartSpend account c parent exit ∷ log)) log (StartSpend account c parent exit)
    (or_left (account == account) (list_any (starts_by account) log) (eq-eqb account account refl)) tt
    (starter-push (StartSpend account c parent exit) log (starters log))
starters (Before account c e shown ∷ log) =
    each-exit (HasStarter (Before account c e shown ∷ log)) log (Before account c e shown) tt (λ x none was. was)
    (starter-push (Before account c e shown) log (starters log))
starters (Respond account c e challenged spend ∷ log) =
    each-exit (HasStarter (Respond account c e challenged spend ∷ log)) log (Respond account c e challenged spend) tt
    (λ x was. was) (starter-push (Respond account c e challenged spend) log (starters log))
starters (call ∷ log) = each-exit (HasStarter (call ∷ log)) log call tt tt (starter-push call log (starters log))

-- ---- where an own exit at e comes from

abbrev pub IsOwnAt : Owner → ℕ → ℕ → Exit → Type 0
IsOwnAt me c e x = (x.coin ≡ c) × (is_mine me x ≡ true) × (x.block ≡ e)

-- the call starts it
pub record IsStartedBy (log : List RootCall) (me : Owner) (c e : ℕ) (call : RootCall) : Type 0 where
  pub start : starts_by me.account call ≡ true
  pub coin_is : coin_of_call call ≡ c
  pub block_is : exit_block call ≡ e
  pub not_withdrawn : is_withdrawn log c ≡ false

-- it stood before, or the call starts it
abbrev pub CameFrom : List RootCall → Owner → ℕ → ℕ → RootCall → Type 0
CameFrom log me c e call = ((y : Exit) × Has (exits log) y × IsOwnAt me c e y) ⊎ IsStartedBy log me c e call

abbrev pub IfOwn : List RootCall → Owner → ℕ → ℕ → RootCall → Exit → Type 0
IfOwn log me c e call x = IsOwnAt me c e x → CameFrom log me c e call

module _ (tests : Tests) (rules : Rules) (log : List RootCall) (me : Owner) (c e : ℕ) where
  stood : (call : RootCall) → AllByRecursion (IfOwn log me c e call) (exits log)
  stood call = all-from (IfOwn log me c e call) (exits log) (λ x there own. inl (x, there, own))

  pub came-from : (call : RootCall) → is_accepted (answer_to tests rules log call) ≡ true
      → AllByRecursion (IfOwn log me c e call) (exits (call ∷ log))
  came-from (StartDeposit account k block) is =
      let s = accepted_calls_show tests rules log (StartDeposit account k block) is in
      each-exit (IfOwn log me c e (StartDeposit account k block)) log (StartDeposit account k block)
      (grind (arith, common_steps)) tt (stood (StartDeposit account k block))
  came-from (StartSpend account k parent exit) is =
      let s = accepted_calls_show tests rules log (StartSpend account k parent exit) is in
      each-exit (IfOwn log me c e (StartSpend account k parent exit)) log (StartSpend account k parent exit)
      (grind (arith, common_steps)) tt (stood (StartSpend account k parent exit))
  came-from (Before account k f shown) is =
      each-exit (IfOwn log me c e (Before account k f shown)) log (Before account k f shown) tt (λ x none was. was)
      (stood (Before account k f shown))
  came-from (Respond account k f challenged spend) is =
      each-exit (IfOwn log me c e (Respond account k f challenged spend)) log (Respond account k f challenged spend) tt
      (λ x was. was) (stood (Respond account k f challenged spend))
  came-from call is = each-exit (IfOwn log me c e call) log call tt tt (stood call)

-- ---- a start on offer was left

left-grow : (event : Event) (events : List Event) (w c e : ℕ) → is_left (left_by events w) c e ≡ true
    → is_left (left_by (event ∷ events) w) c e ≡ true
unfolding left_by
left-grow event events w c e is = grind (arith, common_steps, or_right)

pub left-has : (event : Event) (events : List Event) (w : ℕ) (call : RootCall) → Has (left_by events w) call
    → Has (left_by (event ∷ events) w) call
unfolding left_by
left-has event events w call h = grind (arith, common_steps)

-- one of the starts is of its coin and block
pub left-is : (starts : List RootCall) (call : RootCall) → Has starts call
    → is_left starts (coin_of_call call) (exit_block call) ≡ true
left-is [] call h = absurd h
left-is (made ∷ starts) call (inl same) = grind (arith, common_steps, or_left, and_from, eq-eqb)
left-is (made ∷ starts) call (inr there) =
    or_right ((coin_of_call made == coin_of_call call) && (exit_block made == exit_block call))
    (is_left starts (coin_of_call call) (exit_block call)) (left-is starts call there)

module _ (tests : Tests) (rules : Rules) where
  command-left : (event : Event) (events : List Event) (w : ℕ) (call : RootCall)
      → IsLegal tests rules (event ∷ events) → is_command_of w event ≡ true → Has (offered event) call
      → is_start call ≡ true → Has (left_by (event ∷ events) w) call
  unfolding IsLegal left_by
  command-left (Watches m calls) events w call legal own h start =
      let due = legal.0.only call (has-contains calls call h) in
      absurd (true≢false (sym start ∙ kept-no_start rules.tag (log_of events) legal.0.account due.bundle call
      (contains-has (due_for_kept rules.tag (log_of events) legal.0.account due.bundle) call due.due)))
  command-left (Leaves m made) events w call legal own (inl same) start =
      subst (λ (b : Bool). Has (if b then made ∷ left_by events w else left_by events w) call) (sym own) (inl same)
  command-left (Leaves m made) events w call legal own (inr none) start = absurd none
  command-left (Seals made) events w call legal own (inl same) start =
      absurd (true≢false (sym start ∙ ap is_start (sym same) ∙ legal.0))
  command-left (Seals made) events w call legal own (inr none) start = absurd none
  command-left event events w call legal own h start = absurd h

  pub offered_left : (events : List Event) (w : ℕ) (call : RootCall) → IsLegal tests rules events
      → Has (offers_of events w) call → is_start call ≡ true → Has (left_by events w) call
  unfolding IsLegal offers_of
  offered_left [] w call legal h start = absurd h
  offered_left (event ∷ events) w call legal h start =
      (elim (is_command_of w event) as (λ b. is_command_of w event ≡ b
      → Has (if b then offered event else offers_of events w) call → Has (left_by (event ∷ events) w) call) [
        | true ↦ λ own there. command-left event events w call legal own there start
        | false ↦ λ other there. left-has event events w call (offered_left events w call legal.1 there start)
      ]) refl h

-- ---- from the leaving on, no leaf signs the coin away from there

-- taking back a leaf signs nothing away
away-take : (q c e : ℕ) (taken : List ℕ) (bodies : List Body) → is_sent_from (not_taken taken bodies) c e ≡ false
    → is_sent_from (not_taken (q ∷ taken) bodies) c e ≡ false
unfolding not_taken
away-take q c e taken [] off = refl
away-take q c e taken (x ∷ xs) off =
    let n : ℕ = length xs in
    any-without (names c e) ((q == n) || is_taken taken n) x (not_taken (q ∷ taken) xs)
    (λ neither. any-top (names c e) (is_taken taken n) x (not_taken taken xs) (or_parts _ _ neither).1 off)
    (away-take q c e taken xs (any-rest (names c e) (is_taken taken n) x (not_taken taken xs) off))

-- and a new leaf takes nothing away, where it names another tip
away-bind : (c e : ℕ) (taken : List ℕ) (new : Body) (bodies : List Body) → names c e new ≡ false
    → is_sent_from (not_taken taken bodies) c e ≡ false → is_sent_from (not_taken taken (new ∷ bodies)) c e ≡ false
unfolding not_taken
away-bind c e taken new bodies other off =
    any-without (names c e) (is_taken taken (length bodies)) new (not_taken taken bodies) (λ _. other) off

names-not : (c e : ℕ) (body : Body) (starts : List RootCall) → is_left starts c e ≡ true
    → is_left starts body.coin body.parent ≡ false → names c e body ≡ false
names-not c e body starts on off = grind (arith, common_steps, false_from_ne_true, and_parts, true≢false, eqb-true)

pub left-stands : (tests : Tests) (rules : Rules) (events : List Event) (w c e : ℕ) → IsLegal tests rules events
    → is_left (left_by events w) c e ≡ true → is_sent_from (signed_away_by events w) c e ≡ false
unfolding left_by taken_back bound_by IsLegal
left-stands tests rules [] w c e legal is = absurd (false≢true is)
left-stands tests rules (Binds v body ∷ events) w c e legal is =
    grind (arith, common_steps, left-stands tests rules events w c e legal.1 is, away-bind, names-not, eqb-true)
left-stands tests rules (TakesBack v q bundle ∷ events) w c e legal is =
    grind (arith, common_steps, left-stands tests rules events w c e legal.1 is, away-take)
left-stands tests rules (Leaves v call ∷ events) w c e legal is =
    (elim (v == w) as (λ b. (v == w) ≡ b
    → is_left (if b then call ∷ left_by events w else left_by events w) c e ≡ true
    → is_sent_from (signed_away_by events w) c e ≡ false) [
      | true ↦ λ same on.
          elim (or_cases ((coin_of_call call == c) && (exit_block call == e)) (is_left (left_by events w) c e) on) [
            | inl here ↦
                let parts = and_parts (coin_of_call call == c) (exit_block call == e) here in
                let l : LegalLeave rules events v call = legal.0 in
                let at = left-names tests rules events v call legal.1 l in
                let kept = (holding events v l.bundle.coin l.bundle.tip l.at_top.held).not_away in
                let c_is = sym at.coin_is ∙ eqb-true (coin_of_call call) c parts.0 in
                let e_is = sym at.block_is ∙ eqb-true (exit_block call) e parts.1 in
                (λ i. is_sent_from (signed_away_by events (sym (eqb-true v w same) i)) (sym c_is i) (sym e_is i)) ∙ kept
            | inr earlier ↦ left-stands tests rules events w c e legal.1 earlier
          ]
      | false ↦ λ apart on. left-stands tests rules events w c e legal.1 on
    ]) refl is
left-stands tests rules (event ∷ events) w c e legal is = left-stands tests rules events w c e legal.1 is

-- ---- an own exit was left

module _ (tests : Tests) (rules : Rules) (w c e : ℕ) where
  -- nobody but the wallet started an exit by its account
  pub undeclared-none : (events : List Event) (me : Owner) (x : Exit)
      → list_any (starts_by me.account) (log_of events) ≡ false → Has (exits (log_of events)) x
      → is_mine me x ≡ true → ⊥
  undeclared-none events me x none there mine =
      let started = all-has (HasStarter (log_of events)) (exits (log_of events)) x (starters (log_of events)) there in
      true≢false (sym started
      ∙ ap (λ a. list_any (starts_by a) (log_of events)) (eqb-true x.account me.account mine) ∙ none)

  own_left : (events : List Event) → IsLegal tests rules events → (me : Owner) → wallet_owner events w ≡ Some me
      → (x : Exit) → Has (exits (log_of events)) x → IsOwnAt me c e x → is_left (left_by events w) c e ≡ true
  unfolding IsLegal log_of exits wallet_owner
  own_left [] legal me me_is x there own = absurd there
  own_left (Declares v other ∷ events) legal me me_is x there own =
      (elim (v == w) as (λ b. (v == w) ≡ b → (if b then Some other else wallet_owner events w) ≡ Some me
      → is_left (left_by (Declares v other ∷ events) w) c e ≡ true) [
        | true ↦ grind (arith, some_same, undeclared-none)
        | false ↦ λ apart mine. left-grow (Declares v other) events w c e (own_left events legal.1 me mine x there own)
      ]) refl me_is
  own_left (Joins call ∷ events) legal me me_is x there own =
      left-grow (Joins call) events w c e
      (elim (all-has (IfOwn (log_of events) me c e call) (exits (call ∷ log_of events)) x
      (came-from tests rules (log_of events) me c e call legal.0.accepted) there own) [
        | inl r ↦ own_left events legal.1 me me_is r.0 r.1 r.2
        | inr s ↦ (λ i. is_left (left_by events w) (sym s.coin_is i) (sym s.block_is i))
            ∙ left-is (left_by events w) call
            (contains-has (left_by events w) call (legal.0.offered w me me_is s.start))
      ])
  own_left (event ∷ events) legal me me_is x there own =
      left-grow event events w c e (own_left events legal.1 me me_is x there own)

  pub own_kept : (events : List Event) → IsLegal tests rules events → (me : Owner)
      → wallet_owner events w ≡ Some me → (x : Exit) → Has (exits (log_of events)) x → IsOwnAt me c e x
      → is_sent_from (signed_away_by events w) c e ≡ false
  own_kept events legal me me_is x there own =
      left-stands tests rules events w c e legal (own_left events legal me me_is x there own)
