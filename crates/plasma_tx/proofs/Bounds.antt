-- What a log of accepted calls keeps, beside money: times, owners, and that coins, exits and challenges are there.
use Rattle.plasma_tx.proofs.Words.{◌≡◌, ℕ, ◌+◌, ◌≤◌, ◌==◌, ◌&&◌, true, List, [], ◌∷◌, Option, Some, inl, inr, sym, ap, ◌∙◌, arith, is_some, AllByRecursion, cases_eq, eqb-true, ne_eqb, and_parts, or_cases, common_steps, LAST_TIME, MOST_MONEY, Owner, RootCall, Fund, Tick, Deposit, StartDeposit, StartSpend, Before, Respond, Finish, CoinView, leaf_in, now, coins, coin_at, Challenge, Exit, is_exit, exits, exit_at, with_answer_at, owner_of_coin, has_no_open_challenge, is_withdrawn, is_challenged_at, RespondsAnswer, Rules, IsLegal, funded, IsDatedBy, TimesAreBounded, ExitsAreTheirOwners}
use Rattle.plasma_tx.proofs.Leaves.{recipient-named}
use Rattle.plasma_tx.proofs.Accepted.{accepted_calls_show}
use Rattle.plasma_tx.proofs.Each.{all-append, all-map, all-weaker, all-found, each-exit}

-- ---- coins, exits and challenges are there

pub coin_at-le : (log : List RootCall) (c : ℕ) (coin : CoinView) → coin_at log c ≡ Some coin → c ≤ coins log
unfolding coin_at coins
coin_at-le [] c coin is = absurd (cc)
coin_at-le (Deposit account amount key ∷ log) c coin is =
    elim (cases_eq c (coins log + 1)) [
      | inl last ↦ omega arith
      | inr other ↦ omega (arith, coin_at-le log c coin (simp (ne_eqb c (coins log + 1) other) at is))
    ]
coin_at-le (call ∷ log) c coin is = coin_at-le log c coin is

-- a standing exit is of a coin that was deposited
abbrev IsOfCoin : ℕ → Exit → Type 0
IsOfCoin count x = x.coin ≤ count

pub exits_of_coins : (rules : Rules) (log : List RootCall) → IsLegal rules log
    → AllByRecursion (IsOfCoin (coins log)) (exits log)
unfolding IsLegal coins exits
exits_of_coins rules [] legal = tt
exits_of_coins rules (StartDeposit account c block ∷ log) legal =
    let shown = accepted_calls_show legal.0.0 rules log (StartDeposit account c block) legal.0.1 in
    each-exit (IsOfCoin (coins log)) log (StartDeposit account c block) (coin_at-le log c shown.coin shown.there) tt
    (exits_of_coins rules log legal.1)
exits_of_coins rules (StartSpend account c parent exit ∷ log) legal =
    let shown = accepted_calls_show legal.0.0 rules log (StartSpend account c parent exit) legal.0.1 in
    each-exit (IsOfCoin (coins log)) log (StartSpend account c parent exit) (coin_at-le log c shown.coin shown.there) tt
    (exits_of_coins rules log legal.1)
exits_of_coins rules (Before account c e shown ∷ log) legal =
    each-exit (IsOfCoin (coins log)) log (Before account c e shown) tt (λ x none old. old)
    (exits_of_coins rules log legal.1)
exits_of_coins rules (Respond account c e challenged spend ∷ log) legal =
    each-exit (IsOfCoin (coins log)) log (Respond account c e challenged spend) tt (λ x old. old)
    (exits_of_coins rules log legal.1)
exits_of_coins rules (Deposit account amount key ∷ log) legal =
    grind (arith, common_steps, exits_of_coins rules log legal.1, all-weaker) steps 20000
exits_of_coins rules (call ∷ log) legal =
    each-exit (IsOfCoin (coins log)) log call tt tt (exits_of_coins rules log legal.1)

-- a standing exit that is found is of the coin, and the coin is there
pub found-coin : (rules : Rules) (log : List RootCall) (c e : ℕ) (exit : Exit) → IsLegal rules log
    → exit_at log c e ≡ Some exit → c ≤ coins log
unfolding exit_at
found-coin rules log c e exit legal stands =
    grind (arith, common_steps, all-found, exits_of_coins, eqb-true, and_parts) steps 20000

-- a withdrawn coin is there
pub withdrawn-le : (rules : Rules) (log : List RootCall) (c : ℕ) → IsLegal rules log → is_withdrawn log c ≡ true
    → c ≤ coins log
unfolding IsLegal coins is_withdrawn
withdrawn-le rules [] c legal is = absurd (cc)
withdrawn-le rules (Finish account k m ∷ log) c legal is =
    let shown = accepted_calls_show legal.0.0 rules log (Finish account k m) legal.0.1 in
    elim (or_cases ((k == c) && has_no_open_challenge (exit_at log k m)) (is_withdrawn log c) is) [
      | inl now ↦ grind (arith, common_steps, eqb-true, and_parts, found-coin) steps 20000
      | inr before ↦ withdrawn-le rules log c legal.1 before
    ]
withdrawn-le rules (Deposit account amount key ∷ log) c legal is = omega (arith, withdrawn-le rules log c legal.1 is)
withdrawn-le rules (call ∷ log) c legal is = withdrawn-le rules log c legal.1 is

-- each Respond named a challenge of a standing exit
pub responds_answer : (rules : Rules) (log : List RootCall) → IsLegal rules log → RespondsAnswer log
unfolding IsLegal RespondsAnswer
responds_answer rules [] legal = tt
responds_answer rules (Respond account c e challenged spend ∷ log) legal =
    let shown = accepted_calls_show legal.0.0 rules log (Respond account c e challenged spend) legal.0.1 in (
      ap (is_challenged_at challenged) shown.stands ∙ ap is_some shown.there,
      responds_answer rules log legal.1,
    )
responds_answer rules (call ∷ log) legal = responds_answer rules log legal.1

-- ---- times

clock : (rules : Rules) (log : List RootCall) → IsLegal rules log → now log ≤ LAST_TIME
unfolding IsLegal now
clock rules [] legal = omega arith
clock rules (Tick time ∷ log) legal = (accepted_calls_show legal.0.0 rules log (Tick time) legal.0.1).1
clock rules (call ∷ log) legal = clock rules log legal.1

-- the challenge is from this time or before
abbrev IsMadeBy : ℕ → Challenge → Type 0
IsMadeBy time challenge = challenge.at ≤ time

answered-by : (time block : ℕ) (challenge : Challenge) → IsMadeBy time challenge
    → IsMadeBy time (with_answer_at block challenge)
answered-by time block challenge h = grind (arith, common_steps) steps 20000

later-by : (time more : ℕ) → time ≤ more → (x : Exit) → IsDatedBy time x → IsDatedBy more x
later-by time more le x old = grind (arith, common_steps, all-weaker) steps 20000

dated : (rules : Rules) (log : List RootCall) → IsLegal rules log → AllByRecursion (IsDatedBy (now log)) (exits log)
unfolding IsLegal now exits
dated rules [] legal = tt
dated rules (Tick time ∷ log) legal =
    all-weaker (IsDatedBy (now log)) (IsDatedBy time)
    (later-by (now log) time (accepted_calls_show legal.0.0 rules log (Tick time) legal.0.1).0) (exits log)
    (dated rules log legal.1)
dated rules (StartDeposit account c block ∷ log) legal =
    each-exit (IsDatedBy (now log)) log (StartDeposit account c block) (omega arith, tt) tt (dated rules log legal.1)
dated rules (StartSpend account c parent exit ∷ log) legal =
    each-exit (IsDatedBy (now log)) log (StartSpend account c parent exit) (omega arith, tt) tt
    (dated rules log legal.1)
dated rules (Before account c e shown ∷ log) legal =
    each-exit (IsDatedBy (now log)) log (Before account c e shown) tt
    (grind (arith, common_steps, all-append) steps 20000) (dated rules log legal.1)
dated rules (Respond account c e challenged spend ∷ log) legal =
    each-exit (IsDatedBy (now log)) log (Respond account c e challenged spend) tt
    (grind (arith, common_steps, all-map, answered-by) steps 20000) (dated rules log legal.1)
dated rules (call ∷ log) legal = each-exit (IsDatedBy (now log)) log call tt tt (dated rules log legal.1)

pub times_are_bounded : TimesAreBounded
times_are_bounded rules log legal = (clock rules log legal, dated rules log legal)

-- ---- owners

-- the account that started the exit is its owner's
abbrev IsOwn : Exit → Type 0
IsOwn x = x.account ≡ x.owner.account

own : (rules : Rules) (log : List RootCall) → IsLegal rules log → AllByRecursion IsOwn (exits log)
unfolding IsLegal exits
own rules [] legal = tt
own rules (StartDeposit account c block ∷ log) legal =
    let shown = accepted_calls_show legal.0.0 rules log (StartDeposit account c block) legal.0.1 in
    each-exit IsOwn log (StartDeposit account c block)
    (shown.owner ∙ sym (ap (λ (found : Option CoinView). (owner_of_coin found).account) shown.there)) tt
    (own rules log legal.1)
own rules (StartSpend account c parent exit ∷ log) legal =
    let shown = accepted_calls_show legal.0.0 rules log (StartSpend account c parent exit) legal.0.1 in
    let named = recipient-named rules.tag (leaf_in exit.bytes) c exit.block shown.tx shown.shown.spelled in
    each-exit IsOwn log (StartSpend account c parent exit)
    (sym shown.owner ∙ sym (ap (λ (owner : Owner). owner.account) named)) tt (own rules log legal.1)
own rules (Before account c e shown ∷ log) legal =
    each-exit IsOwn log (Before account c e shown) tt (λ x none old. old) (own rules log legal.1)
own rules (Respond account c e challenged spend ∷ log) legal =
    each-exit IsOwn log (Respond account c e challenged spend) tt (λ x old. old) (own rules log legal.1)
own rules (call ∷ log) legal = each-exit IsOwn log call tt tt (own rules log legal.1)

pub exits_are_their_owners : ExitsAreTheirOwners
unfolding exit_at
exits_are_their_owners rules log c e exit legal stands =
    (all-found IsOwn (is_exit c e) (exits log) exit (own rules log legal) stands).0

-- ---- all that was funded

pub funded-le : (rules : Rules) (log : List RootCall) → IsLegal rules log → funded log ≤ MOST_MONEY
unfolding IsLegal funded
funded-le rules [] legal = omega arith
funded-le rules (Fund account amount ∷ log) legal =
    accepted_calls_show legal.0.0 rules log (Fund account amount) legal.0.1
funded-le rules (call ∷ log) legal = funded-le rules log legal.1
