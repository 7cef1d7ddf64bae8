-- No call that is due is left out, and who has what calls take together has what each takes.
use Rattle.coin_safety.proofs.Words.{◌≡◌, ℕ, ◌+◌, ◌≤◌, ◌==◌, true, false, if◌then◌else◌, List, [], ◌∷◌, ◌++◌, map, Option, Some, None, inl, inr, refl, sym, ap, subst, arith, is_some, sum_by, fold, option_and_then, option_map_or, eq-eqb, and_from, le-ltb, RawOpening, Shown, RootCall, Fund, Tick, Deposit, Commit, StartDeposit, StartSpend, After, Between, Before, Respond, Finish, CHALLENGE_BOND, EXIT_BOND, balance_of, share_of, taken, exits_of, due_of, Has, has-contains, contains-has, has-left, Kept, Sent, exit_in, earlier_spend, instead, finishes, due, shown_again, timed, own_start, calls_of, takes, IsMet, NothingDueIsLeftOut, with_calls, EnoughIsEnough, NoneIsPoor}

-- ---- what is due

has-mapped : {X Y : Type 0} (f : X → Y) (xs : List X) (x : X) → Has xs x → Has (map f xs) (f x)
has-mapped f [] x h = absurd h
has-mapped f (y ∷ ys) x (inl is) = inl (ap f is)
has-mapped f (y ∷ ys) x (inr h) = inr (has-mapped f ys x h)

-- a Before, or the Between that is entered in its place
before-met : (calls : List RootCall) (account coin m : ℕ) (shown : Shown) (spend : Option RawOpening)
    → Has calls (option_map_or (λ it. Between account coin m it) spend (Before account coin m shown))
    → IsMet calls (Before account coin m shown)
before-met calls account coin m shown None h = inl (has-contains calls (Before account coin m shown) h)
before-met calls account coin m shown (Some spend) h =
    inr (
      Between account coin m spend,
      has-contains calls (Between account coin m spend) h,
      and_from (coin == coin) (m == m) (eq-eqb coin coin refl) (eq-eqb m m refl),
    )

met : (log : List RootCall) (c : ℕ) (calls : List RootCall) (call : RootCall) → Has calls (instead log c call)
    → IsMet calls call
met log c calls (Before account coin m shown) h =
    before-met calls account coin m shown (option_and_then (earlier_spend log c) (exit_in (exits_of log c) m)) h
met log c calls (Fund account amount) h = has-contains calls (Fund account amount) h
met log c calls (Tick time) h = has-contains calls (Tick time) h
met log c calls (Deposit account amount key) h = has-contains calls (Deposit account amount key) h
met log c calls (Commit account root) h = has-contains calls (Commit account root) h
met log c calls (StartDeposit account coin block) h = has-contains calls (StartDeposit account coin block) h
met log c calls (StartSpend account coin parent exit) h = has-contains calls (StartSpend account coin parent exit) h
met log c calls (After account coin exit spend) h = has-contains calls (After account coin exit spend) h
met log c calls (Between account coin exit spend) h = has-contains calls (Between account coin exit spend) h
met log c calls (Respond account coin exit challenged spend) h =
    has-contains calls (Respond account coin exit challenged spend) h
met log c calls (Finish account coin exit) h = has-contains calls (Finish account coin exit) h

-- what is due where the coin wasn't signed away
pub due-unsent : (log : List RootCall) (account : ℕ) (kept : Kept) → kept.sent ≡ None
    → due log account kept ≡ due_of log account (record { links = kept.links })
due-unsent log account kept unsent =
    ap (λ (o : Option Sent). if is_some o then [] else due_of log account (record { links = kept.links })) unsent

pub nothing_due_is_left_out : NothingDueIsLeftOut
nothing_due_is_left_out log account kept call unsent is =
    let here : Has (due log account kept) call =
    subst (λ l. Has l call) (sym (due-unsent log account kept unsent))
    (contains-has (due_of log account (record { links = kept.links })) call is) in
    met log kept.links.coin (calls_of log account kept) call
    (has-left (map (instead log kept.links.coin) (timed log account kept) ++ own_start log account kept)
    (finishes log account kept) (instead log kept.links.coin call)
    (has-left (map (instead log kept.links.coin) (timed log account kept)) (own_start log account kept)
    (instead log kept.links.coin call)
    (has-mapped (instead log kept.links.coin) (timed log account kept) call
    (has-left (due log account kept) (shown_again log account kept) call here))))

-- ---- money

sum-from : (calls : List RootCall) (n : ℕ) → fold (λ a call. a + takes call) n calls ≡ n + sum_by takes calls
sum-from [] n = omega arith
sum-from (call ∷ calls) n =
    omega (arith, sum-from calls (n + takes call), sum-from calls (0 + takes call))

sum-cons : (call : RootCall) (calls : List RootCall) → sum_by takes (call ∷ calls) ≡ takes call + sum_by takes calls
sum-cons call calls = omega (arith, sum-from calls (0 + takes call))

share-le : (account whose amount : ℕ) → (if whose == account then amount else 0) + 0 ≤ amount
share-le account whose amount =
    elim (whose == account) as (λ b. (if b then amount else 0) + 0 ≤ amount) [
      | true ↦ omega arith
      | false ↦ omega arith
    ]

-- a call takes of an account at most what it takes
taken-le : (account : ℕ) (call : RootCall) → share_of account (taken call) ≤ takes call
unfolding share_of taken
taken-le account (Deposit by amount key) = share-le account by amount
taken-le account (StartDeposit by c block) = share-le account by EXIT_BOND
taken-le account (StartSpend by c parent exit) = share-le account by EXIT_BOND
taken-le account (Before by c m shown) = share-le account by CHALLENGE_BOND
taken-le account (Fund by amount) = omega arith
taken-le account (Tick time) = omega arith
taken-le account (Commit by root) = omega arith
taken-le account (After by c m spend) = omega arith
taken-le account (Between by c m spend) = omega arith
taken-le account (Respond by c m challenged spend) = omega arith
taken-le account (Finish by c m) = omega arith

-- what is left for the others
left : (log : List RootCall) (account : ℕ) (call : RootCall) (n : ℕ) → takes call + n ≤ balance_of log account
    → n ≤ balance_of (call ∷ log) account
unfolding balance_of
left log account call n enough = omega (arith, taken-le account call)

pub enough_is_enough : EnoughIsEnough
unfolding with_calls
enough_is_enough log account [] call after enough = omega (arith, sum-cons call after)
enough_is_enough log account (first ∷ earlier) call after enough =
    enough_is_enough (first ∷ log) account earlier call after
    (left log account first (sum_by takes (earlier ++ call ∷ after))
    (omega (arith, sum-cons first (earlier ++ call ∷ after))))

pub none_is_poor : NoneIsPoor
none_is_poor log account calls earlier call after none is =
    le-ltb (balance_of (with_calls log earlier) account) (takes call)
    (enough_is_enough log account earlier call after
    (omega (arith, ap (sum_by takes) is, none)))
