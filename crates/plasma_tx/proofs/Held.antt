-- What each accepted call does to what is held, by any weight of movements.
use Rattle.plasma_tx.proofs.Words.{◌≡◌, ℕ, ◌+◌, ◌<◌, ◌≤◌, ◌==◌, ◌&&◌, ◌||◌, Bool, true, false, if◌then◌else◌, List, [], ◌∷◌, Option, Some, None, ◌⊎◌, refl, sym, ap, ◌∙◌, subst, find, arith, is_some, eq-eqb, ne_eqb, false_from_ne_true, common_steps, CHALLENGE_BOND, Movement, RawOpening, Shown, RootCall, Fund, Tick, Deposit, Commit, StartDeposit, StartSpend, After, Between, Before, Respond, Finish, CoinView, coins, coin_at, Challenge, Exit, is_exit, without_exit, challenge_at, block_of, deposit_exit, spend_exit, with_challenge, with_answer, new_challenge, exits, exit_at, has_no_open_challenge, is_withdrawn, is_challenged_at, RespondsAnswer, Tests, Rules, answer_to, is_accepted, IsLegal, moved, exit_bonds, answered_bond, challenge_of, finish_releases, takes, releases, sum_below, held}
use Rattle.plasma_tx.proofs.Answered.{new_challenges_are_open}
use Rattle.plasma_tx.proofs.Accepted.{accepted_calls_show}
use Rattle.plasma_tx.proofs.Bounds.{found-coin, withdrawn-le, responds_answer}
use Rattle.plasma_tx.proofs.RuleNames.{exits-distinct, challenged-once}
use Rattle.plasma_tx.proofs.Weights.{weight_of, weight_of-append, by_amount, exit_weight, exit_weight-is, exit_weight-challenged, exit_weight-answered, exits_weight, exits_weight-started, exits_weight-without, exits_weight-changed, coin_weight, amount_released-is, exits_weight-amounts, coin_weight-amount}
use Rattle.plasma_tx.proofs.Sums.{sum_below-same, sum_below-next, sum_below-at}

-- the exit that is found in the list
exit_at-is : (log : List RootCall) (c e : ℕ) (o : Option Exit) → exit_at log c e ≡ o
    → find (is_exit c e) (exits log) ≡ o
unfolding exit_at
exit_at-is log c e o is = is

-- one coin is withdrawn, where there is no open challenge
unpaid-after : (before : ℕ → Bool) (amount : ℕ → ℕ) (c n : ℕ) (free : Bool) → c < n
    → sum_below (λ k. if ((c == k) && free) || before k then 0 else amount k) n
    + (if free then (if before c then 0 else amount c) else 0)
    ≡ sum_below (λ k. if before k then 0 else amount k) n
unpaid-after before amount c n true below =
    let f : ℕ → ℕ = λ k. if ((c == k) && true) || before k then 0 else amount k in
    let g : ℕ → ℕ = λ k. if before k then 0 else amount k in
    let none : f c ≡ 0 = simp (eq-eqb c c refl) in
    omega (arith, none, sum_below-at f g n c below (λ k apart. simp (ne_eqb c k (λ same. apart (sym same)))))
unpaid-after before amount c n false below = grind (arith, common_steps, sum_below-same) steps 20000

module _ (w : Movement → ℕ) where
  -- the weight of a coin's amount, where the coin isn't withdrawn
  abbrev pub unpaid_weight : List RootCall → ℕ → ℕ
  unpaid_weight log c = if is_withdrawn log c then 0 else coin_weight w (coin_at log c)

  -- the weight of all that is held
  abbrev pub held_weight : List RootCall → ℕ
  held_weight log = sum_below (unpaid_weight log) (coins log + 1) + exits_weight w (exits log)

  -- the call moves the weight by what it takes and what it lets go
  abbrev pub HeldMoves : List RootCall → RootCall → Type 0
  HeldMoves log call =
      held_weight (call ∷ log) + weight_of w (releases log call) ≡ held_weight log + weight_of w (takes call)

  -- a new coin is unpaid, and the others stay
  unpaid-more : (log : List RootCall) (account amount : ℕ) (key : List ℕ)
      → ((c : ℕ) → is_withdrawn log c ≡ true → c ≤ coins log)
      → sum_below (unpaid_weight (Deposit account amount key ∷ log)) (coins log + 1 + 1)
      ≡ sum_below (unpaid_weight log) (coins log + 1) + w (moved account amount)
  unfolding is_withdrawn coin_at
  unpaid-more log account amount key there =
      grind (arith, common_steps, false_from_ne_true, eq-eqb, sum_below-same, ne_eqb, sum_below-next) steps 20000

  held-Deposit : (log : List RootCall) (account amount : ℕ) (key : List ℕ)
      → ((c : ℕ) → is_withdrawn log c ≡ true → c ≤ coins log) → HeldMoves log (Deposit account amount key)
  unfolding coins exits takes releases
  held-Deposit log account amount key there = omega (arith, unpaid-more log account amount key there)

  held-StartDeposit : (log : List RootCall) (account c block : ℕ) → find (is_exit c block) (exits log) ≡ None
      → HeldMoves log (StartDeposit account c block)
  unfolding coins exits is_withdrawn coin_at takes releases
  held-StartDeposit log account c block none =
      omega (arith, exits_weight-started w (deposit_exit log account c block) (exits log) none refl)

  -- every call that ends an exit
  exit-gone : (log : List RootCall) (c e : ℕ) (exit : Exit) → exit_at log c e ≡ Some exit
      → exits_weight w (without_exit c e (exits log)) + exit_weight w exit ≡ exits_weight w (exits log)
  exit-gone log c e exit stands =
      exits_weight-without w c e (exits log) exit (exits-distinct log c e) (exit_at-is log c e (Some exit) stands)

  bonds-released : (log : List RootCall) (c e : ℕ) (exit : Exit) → exit_at log c e ≡ Some exit
      → weight_of w (exit_bonds (exit_at log c e)) ≡ exit_weight w exit
  bonds-released log c e exit stands = ap (λ o. weight_of w (exit_bonds o)) stands ∙ exit_weight-is w exit

  held-After : (log : List RootCall) (account c e : ℕ) (spend : RawOpening) (exit : Exit)
      → exit_at log c e ≡ Some exit → HeldMoves log (After account c e spend)
  unfolding coins exits is_withdrawn coin_at takes releases
  held-After log account c e spend exit stands =
      omega (arith, exit-gone log c e exit stands, bonds-released log c e exit stands)

  held-Between : (log : List RootCall) (account c e : ℕ) (spend : RawOpening) (exit : Exit)
      → exit_at log c e ≡ Some exit → HeldMoves log (Between account c e spend)
  unfolding coins exits is_withdrawn coin_at takes releases
  held-Between log account c e spend exit stands =
      omega (arith, exit-gone log c e exit stands, bonds-released log c e exit stands)

  held-Before : (log : List RootCall) (account c e : ℕ) (shown : Shown) (exit : Exit)
      → exit_at log c e ≡ Some exit → challenge_at (block_of shown) exit.challenges ≡ None → RespondsAnswer log
      → HeldMoves log (Before account c e shown)
  unfolding coins exits is_withdrawn coin_at takes releases
  held-Before log account c e shown exit stands none answer =
      let new : Challenge = new_challenge log account c e shown in
      let unnamed : is_challenged_at (block_of shown) (exit_at log c e) ≡ false =
      ap (is_challenged_at (block_of shown)) stands ∙ ap is_some none in
      let fresh : new.answered ≡ false =
      new_challenges_are_open log c e (block_of shown) answer (ap is_some stands) unnamed in
      omega (
        arith,
        exits_weight-changed w c e (with_challenge new) (exits log) exit (exits-distinct log c e)
            (exit_at-is log c e (Some exit) stands),
        exit_weight-challenged w exit new (ap is_some none) fresh,
      )

  held-Respond : (log : List RootCall) (account c e challenged : ℕ) (spend : RawOpening) (exit : Exit) (one : Challenge)
      → exit_at log c e ≡ Some exit → challenge_at challenged exit.challenges ≡ Some one → one.answered ≡ false
      → HeldMoves log (Respond account c e challenged spend)
  unfolding coins exits is_withdrawn coin_at takes releases
  held-Respond log account c e challenged spend exit one stands there is =
      let freed : weight_of w (answered_bond (challenge_of (exit_at log c e) challenged))
      ≡ w (moved one.by CHALLENGE_BOND) + 0 = grind (arith, common_steps, weight_of) steps 20000 in
      omega (
        arith,
        freed,
        exits_weight-changed w c e (with_answer challenged) (exits log) exit (exits-distinct log c e)
            (exit_at-is log c e (Some exit) stands),
        exit_weight-answered w exit challenged one (challenged-once log c e exit stands challenged) there is,
      )

  finish-released : (withdrawn : Bool) (coin : Option CoinView) (exit : Exit)
      → weight_of w (finish_releases withdrawn coin (Some exit))
      ≡ exit_weight w exit
      + (if has_no_open_challenge (Some exit) then (if withdrawn then 0 else coin_weight w coin) else 0)
  finish-released withdrawn coin exit =
      grind (arith, common_steps, weight_of-append, exit_weight-is, amount_released-is) steps 20000

  held-Finish : (log : List RootCall) (account c e : ℕ) (exit : Exit) → exit_at log c e ≡ Some exit → c ≤ coins log
      → HeldMoves log (Finish account c e)
  unfolding coins exits is_withdrawn coin_at takes releases
  held-Finish log account c e exit stands there =
      subst (λ o. sum_below (λ k. if ((c == k) && has_no_open_challenge o) || is_withdrawn log k then 0 else
      coin_weight w (coin_at log k)) (coins log + 1) + exits_weight w (without_exit c e (exits log)) + weight_of w
      (finish_releases (is_withdrawn log c) (coin_at log c) o) ≡ held_weight log + 0) (sym stands)
      (omega (
        arith,
        exit-gone log c e exit stands,
        finish-released (is_withdrawn log c) (coin_at log c) exit,
        unpaid-after (is_withdrawn log) (λ k. coin_weight w (coin_at log k)) c (coins log + 1)
            (has_no_open_challenge (Some exit)) (omega arith),
      ))

  held-Fund : (log : List RootCall) (account amount : ℕ) → HeldMoves log (Fund account amount)
  unfolding coins exits is_withdrawn coin_at takes releases
  held-Fund log account amount = refl

  held-Tick : (log : List RootCall) (time : ℕ) → HeldMoves log (Tick time)
  unfolding coins exits is_withdrawn coin_at takes releases
  held-Tick log time = refl

  held-Commit : (log : List RootCall) (account : ℕ) (root : List ℕ) → HeldMoves log (Commit account root)
  unfolding coins exits is_withdrawn coin_at takes releases
  held-Commit log account root = refl

  held-StartSpend : (log : List RootCall) (account c : ℕ) (parent : Shown) (exit : RawOpening)
      → find (is_exit c exit.block) (exits log) ≡ None → HeldMoves log (StartSpend account c parent exit)
  unfolding coins exits is_withdrawn coin_at takes releases
  held-StartSpend log account c parent exit none =
      omega (arith, exits_weight-started w (spend_exit log account c parent exit) (exits log) none refl)

  -- each accepted call
  pub held_moves : (tests : Tests) (rules : Rules) (log : List RootCall) (call : RootCall) → IsLegal rules log
      → is_accepted (answer_to tests rules log call) ≡ true → HeldMoves log call
  held_moves tests rules log (Fund account amount) legal is = held-Fund log account amount
  held_moves tests rules log (Tick time) legal is = held-Tick log time
  held_moves tests rules log (Commit account root) legal is = held-Commit log account root
  held_moves tests rules log (Deposit account amount key) legal is =
      held-Deposit log account amount key (λ c gone. withdrawn-le rules log c legal gone)
  held_moves tests rules log (StartDeposit account c block) legal is =
      let shown = accepted_calls_show tests rules log (StartDeposit account c block) is in
      held-StartDeposit log account c block (exit_at-is log c block None shown.none_stands)
  held_moves tests rules log (StartSpend account c parent exit) legal is =
      let shown = accepted_calls_show tests rules log (StartSpend account c parent exit) is in
      held-StartSpend log account c parent exit (exit_at-is log c exit.block None shown.none_stands)
  held_moves tests rules log (After account c e spend) legal is =
      let shown = accepted_calls_show tests rules log (After account c e spend) is in
      held-After log account c e spend shown.exit shown.stands
  held_moves tests rules log (Between account c e spend) legal is =
      let shown = accepted_calls_show tests rules log (Between account c e spend) is in
      held-Between log account c e spend shown.exit shown.stands
  held_moves tests rules log (Before account c e challenged) legal is =
      let shown = accepted_calls_show tests rules log (Before account c e challenged) is in
      held-Before log account c e challenged shown.exit shown.stands shown.none_there (responds_answer rules log legal)
  held_moves tests rules log (Respond account c e challenged spend) legal is =
      let shown = accepted_calls_show tests rules log (Respond account c e challenged spend) is in
      held-Respond log account c e challenged spend shown.exit shown.challenge shown.stands shown.there shown.open_still
  held_moves tests rules log (Finish account c e) legal is =
      let shown = accepted_calls_show tests rules log (Finish account c e) is in
      grind (arith, common_steps, held-Finish, found-coin) steps 20000

  pub held_weight-none : held_weight [] ≡ 0
  unfolding coins exits is_withdrawn coin_at sum_below exits_weight
  held_weight-none = refl

-- by amounts it is what is held
pub held-is : (log : List RootCall) → held_weight by_amount log ≡ held log
held-is log =
    grind (arith, common_steps, sum_below-same, by_amount, coin_weight-amount, exits_weight-amounts) steps 20000

-- a call takes nothing, or lets nothing go
pub one_way : (log : List RootCall) (call : RootCall) → (takes call ≡ []) ⊎ (releases log call ≡ [])
unfolding takes releases
one_way log call = grind (arith, common_steps) steps 20000
