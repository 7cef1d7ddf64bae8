-- What a call does, by the views of the exits that stand.
use Rattle.coin_safety.proofs.Words.{◌≡◌, ℕ, ◌+◌, ◌-◌, ◌==◌, ◌&&◌, ◌||◌, cond, ◌<◌, ◌++◌, take, get_or, not, Bool, true, false, if◌then◌else◌, List, [], ◌∷◌, length, map, filter, find, Option, Some, None, refl, sym, ap, ◌∙◌, arith, is_some, list_all, option_map, option_map_or, option_or, eqb-true, true≢false, RootCall, Fund, Tick, Deposit, Commit, StartDeposit, StartSpend, After, Between, Before, Respond, Finish, CHALLENGE_BOND, EXIT_BOND, ChallengeView, CoinView, ExitView, Standing, has_no_open_view, map-append, filter_more, views, option_or-none, Payment, exit_in, Follows, FollowsAll, payment_by, share, own_bonds, cancel_share, payout_share, finish_share, paid_to, taken_of, next_line, starter, paid_by, payment}
use Rattle.plasma_tx.specs.declared.movement.Movement.{Movement}
use Rattle.plasma_tx.specs.Money.{moved, amount_of, open_challenges, challenge_bonds, cancel_pays, payout, finish_pays, pays, takes, share_of, balance_of}
use Rattle.plasma_tx.specs.Views.{coin_at, Challenge, Exit, is_exit, exits, exit_at, exits_of, exit_view, challenge_view, has_no_open_challenge, is_withdrawn}

-- ---- the exit at a block

found-views : (c m : ℕ) (all : List Exit) → option_map exit_view (find (is_exit c m) all)
    ≡ find (λ view. view.block == m) (views c all)
found-views c m [] = refl
found-views c m (x ∷ xs) =
    elim (x.coin == c) as (λ b. option_map exit_view
    (if b && (x.block == m) then Some x else find (is_exit c m) xs) ≡ find (λ view. view.block == m)
    (map exit_view (cond b (x ∷ filter (λ y. y.coin == c) xs) (filter (λ y. y.coin == c) xs)))) [
      | true ↦ elim (x.block == m) as (λ b. option_map exit_view (if b then Some x else find (is_exit c m) xs)
          ≡ (if b then Some (exit_view x) else find (λ view. view.block == m)
          (views c xs))) [ true ↦ refl | false ↦ found-views c m xs ]
      | false ↦ found-views c m xs
    ]

pub viewed : (log : List RootCall) (c m : ℕ) → option_map exit_view (exit_at log c m) ≡ exit_in (exits_of log c) m
unfolding exit_at exits_of
viewed log c m = found-views c m (exits log)

all-answered : (challenges : List Challenge) → list_all (λ challenge. challenge.answered) challenges
    ≡ list_all (λ challenge. challenge.answered) (map challenge_view challenges)
all-answered [] = refl
all-answered (x ∷ xs) = ap (λ (r : Bool). x.answered && r) (all-answered xs)

open-views : (o : Option Exit) → has_no_open_challenge o ≡ has_no_open_view (option_map exit_view o)
open-views None = refl
open-views (Some x) = all-answered x.challenges

starter-view : (o : Option Exit) → starter o ≡ option_map_or (λ exit. exit.account) (option_map exit_view o) 0
starter-view None = refl
starter-view (Some x) = refl

-- ---- payments

-- the payment where an exit has such views
abbrev paid_view : ℕ → Option ExitView → Option Payment
paid_view line exit =
    if has_no_open_view exit
    then Some (record { account = option_map_or (λ it. it.account) exit 0; line = line })
    else None

paid-view : (log : List RootCall) (c m : ℕ) → paid_by log (exit_at log c m)
    ≡ paid_view (next_line log) (exit_in (exits_of log c) m)
paid-view log c m =
    (λ i. if open-views (exit_at log c m) i
    then Some (record { account = starter-view (exit_at log c m) i; line = next_line log }) else None)
    ∙ ap (paid_view (next_line log)) (viewed log c m)

pub next-payment : (log : List RootCall) (c : ℕ) (call : RootCall) → payment (call ∷ log) c
    ≡ option_or (payment log c) (payment_by c (next_line log) (exits_of log c) call)
unfolding payment
next-payment log c (Finish account coin m) =
    ap (option_or (payment log c))
    ((elim (coin == c) as (λ b. (coin == c) ≡ b → (if b then paid_by log (exit_at log coin m) else None)
    ≡ (if b && has_no_open_view (exit_in (exits_of log c) m)
    then Some (record {
      account = option_map_or (λ it. it.account) (exit_in (exits_of log c) m) 0;
      line = next_line log;
    }) else None)) [
      | true ↦ λ own. ap (λ k. paid_by log (exit_at log k m)) (eqb-true coin c own) ∙ paid-view log c m
      | false ↦ λ other. refl
    ]) refl)
next-payment log c (Fund account amount) = sym (option_or-none (payment log c))
next-payment log c (Tick time) = sym (option_or-none (payment log c))
next-payment log c (Deposit account amount key) = sym (option_or-none (payment log c))
next-payment log c (Commit account root) = sym (option_or-none (payment log c))
next-payment log c (StartDeposit account coin block) = sym (option_or-none (payment log c))
next-payment log c (StartSpend account coin parent exit) = sym (option_or-none (payment log c))
next-payment log c (After account coin exit spend) = sym (option_or-none (payment log c))
next-payment log c (Between account coin exit spend) = sym (option_or-none (payment log c))
next-payment log c (Before account coin exit shown) = sym (option_or-none (payment log c))
next-payment log c (Respond account coin exit challenged spend) = sym (option_or-none (payment log c))

-- by the views of a log that follows
pub payment-more : (log other : List RootCall) (c line : ℕ) (call : RootCall) (found next : Option Payment)
    → Follows log other c → line ≡ next_line log → found ≡ payment log c
    → next ≡ option_or found (payment_by c line (exits_of other c) call) → next ≡ payment (call ∷ log) c
payment-more log other c line call found next same at was is =
    is
    ∙ ap (λ (o : Option Payment). option_or o (payment_by c line (exits_of other c) call)) was
    ∙ ap (λ n. option_or (payment log c) (payment_by c n (exits_of other c) call)) at
    ∙ ap (λ (s : Standing). option_or (payment log c) (payment_by c (next_line log) s.exits call)) same.standing
    ∙ sym (next-payment log c call)

some-or : (a b : Option Payment) → is_some (option_or a b) ≡ (is_some b || is_some a)
some-or None b = sym (or_false (is_some b))
  where
    or_false : (t : Bool) → (t || false) ≡ t
    or_false true = refl
    or_false false = refl
some-or (Some x) b = sym (or_true (is_some b))
  where
    or_true : (t : Bool) → (t || true) ≡ true
    or_true true = refl
    or_true false = refl

some-paid : (log : List RootCall) (exit : Option Exit) → is_some (paid_by log exit) ≡ has_no_open_challenge exit
some-paid log exit =
    let paid : Payment = record { account = starter exit; line = next_line log } in
    elim (has_no_open_challenge exit) as (λ b. is_some (if b then Some paid else None) ≡ b) [
      | true ↦ refl
      | false ↦ refl
    ]

pub paid-withdrawn : (log : List RootCall) (c : ℕ) → is_some (payment log c) ≡ is_withdrawn log c
unfolding payment is_withdrawn
paid-withdrawn [] c = refl
paid-withdrawn (Finish account coin m ∷ log) c =
    some-or (payment log c) (if coin == c then paid_by log (exit_at log coin m) else None)
    ∙ ap (λ b. is_some (if coin == c then paid_by log (exit_at log coin m) else None) || b) (paid-withdrawn log c)
    ∙ ap (λ b. b || is_withdrawn log c)
    (elim (coin == c) as (λ b. is_some (if b then paid_by log (exit_at log coin m) else None)
    ≡ (b && has_no_open_challenge (exit_at log coin m))) [
      | true ↦ some-paid log (exit_at log coin m)
      | false ↦ refl
    ])
paid-withdrawn (Fund account amount ∷ log) c = paid-withdrawn log c
paid-withdrawn (Tick time ∷ log) c = paid-withdrawn log c
paid-withdrawn (Deposit account amount key ∷ log) c = paid-withdrawn log c
paid-withdrawn (Commit account root ∷ log) c = paid-withdrawn log c
paid-withdrawn (StartDeposit account coin block ∷ log) c = paid-withdrawn log c
paid-withdrawn (StartSpend account coin parent exit ∷ log) c = paid-withdrawn log c
paid-withdrawn (After account coin exit spend ∷ log) c = paid-withdrawn log c
paid-withdrawn (Between account coin exit spend ∷ log) c = paid-withdrawn log c
paid-withdrawn (Before account coin exit shown ∷ log) c = paid-withdrawn log c
paid-withdrawn (Respond account coin exit challenged spend ∷ log) c = paid-withdrawn log c

none-some : (o : Option Payment) → is_some o ≡ false → o ≡ None
none-some None is = refl
none-some (Some x) is = absurd (true≢false is)

pub unpaid : (log : List RootCall) (c : ℕ) → is_withdrawn log c ≡ false → payment log c ≡ None
unpaid log c is = none-some (payment log c) (paid-withdrawn log c ∙ is)

-- ---- money

plus_none : (n : ℕ) → n + 0 ≡ n
plus_none n = omega arith

module _ (account : ℕ) where
  -- the first of the challenges
  abbrev head : List Challenge → Option Challenge
  head [] = None
  head (x ∷ xs) = Some x

  bonds-view : (all : List Challenge) → challenge_bonds (filter (λ it. not it.answered) all)
      ≡ map (λ it. moved it.by CHALLENGE_BOND) (filter (λ it. not it.answered) (map challenge_view all))
  bonds-view [] = refl
  bonds-view (x ∷ xs) =
      elim x.answered as (λ b. challenge_bonds
      (cond (not b) (x ∷ filter (λ it. not it.answered) xs) (filter (λ it. not it.answered) xs))
      ≡ map (λ it. moved it.by CHALLENGE_BOND)
      (cond (not b) (challenge_view x ∷ filter (λ it. not it.answered) (map challenge_view xs))
      (filter (λ it. not it.answered) (map challenge_view xs)))) [
        | true ↦ bonds-view xs
        | false ↦ ap (λ l. moved x.by CHALLENGE_BOND ∷ l) (bonds-view xs)
      ]

  head-view : (all : List Challenge) → option_map challenge_view (head (filter (λ it. not it.answered) all))
      ≡ find (λ it. not it.answered) (map challenge_view all)
  head-view [] = refl
  head-view (x ∷ xs) =
      elim x.answered as (λ b. option_map challenge_view
      (head (cond (not b) (x ∷ filter (λ it. not it.answered) xs) (filter (λ it. not it.answered) xs)))
      ≡ (if not b then Some (challenge_view x) else find (λ it. not it.answered) (map challenge_view xs))) [
        | true ↦ head-view xs
        | false ↦ refl
      ]

  share-append : (one other : List Movement) → share_of account (one ++ other)
      ≡ share_of account one + share_of account other
  unfolding share_of
  share-append [] other = sym (zero_plus (share_of account other))
    where
      zero_plus : (n : ℕ) → 0 + n ≡ n
      zero_plus n = omega arith
  share-append (m ∷ ms) other = omega (arith, share-append ms other)

  pub own-none : 0 ≡ own_bonds account []
  unfolding share_of
  own-none = refl

  pub own-more : (all : List ChallengeView) (i : ℕ) (d : ChallengeView) → i < length all
      → own_bonds account (take (i + 1) all) ≡ own_bonds account (take i all)
      + (if (get_or all i d).answered then 0 else share account (get_or all i d).by CHALLENGE_BOND)
  unfolding share_of
  own-more all i d within =
      let x : ChallengeView = get_or all i d in
      let bond : ChallengeView → Movement = λ it. moved it.by CHALLENGE_BOND in
      let before : List ChallengeView = filter (λ it. not it.answered) (take i all) in
      ap (λ l. share_of account (map bond l)) (filter_more (λ (it : ChallengeView). not it.answered) all i d within)
      ∙ ap (share_of account) (map-append bond before (cond (not x.answered) (x ∷ []) []))
      ∙ share-append (map bond before) (map bond (cond (not x.answered) (x ∷ []) []))
      ∙ ap (λ n. share_of account (map bond before) + n)
      (elim x.answered as (λ b. share_of account (map bond (cond (not b) (x ∷ []) []))
      ≡ (if b then 0 else share account x.by CHALLENGE_BOND)) [
        | true ↦ refl
        | false ↦ plus_none (share account x.by CHALLENGE_BOND)
      ])

  -- where the next is open, and where it is answered
  pub own-open : (all : List ChallengeView) (i : ℕ) (d : ChallengeView) (money part next : ℕ) → i < length all
      → (get_or all i d).answered ≡ false → money ≡ own_bonds account (take i all)
      → part ≡ share account (get_or all i d).by CHALLENGE_BOND → next ≡ money + part
      → next ≡ own_bonds account (take (i + 1) all)
  own-open all i d money part next within unanswered was part_is is =
      is ∙ ap (λ n. n + part) was ∙ ap (λ n. own_bonds account (take i all) + n) part_is
      ∙ ap (λ b. own_bonds account (take i all)
      + (if b then 0 else share account (get_or all i d).by CHALLENGE_BOND)) (sym unanswered)
      ∙ sym (own-more all i d within)

  pub own-answered : (all : List ChallengeView) (i : ℕ) (d : ChallengeView) (money : ℕ) → i < length all
      → (get_or all i d).answered ≡ true → money ≡ own_bonds account (take i all)
      → money ≡ own_bonds account (take (i + 1) all)
  own-answered all i d money within answered was =
      was ∙ sym (plus_none (own_bonds account (take i all)))
      ∙ ap (λ b. own_bonds account (take i all)
      + (if b then 0 else share account (get_or all i d).by CHALLENGE_BOND)) (sym answered)
      ∙ sym (own-more all i d within)

  bonds-of : (x : Exit) → share_of account (challenge_bonds (open_challenges x))
      ≡ own_bonds account (map challenge_view x.challenges)
  bonds-of x = ap (share_of account) (bonds-view x.challenges)

  cancelled : (by : ℕ) (o : Option Exit) → share_of account (cancel_pays by o)
      ≡ cancel_share account by (option_map exit_view o)
  unfolding share_of
  cancelled by None = refl
  cancelled by (Some x) = ap (λ n. share account by EXIT_BOND + n) (bonds-of x)

  paid-out : (x : Exit) (withdrawn : Bool) (amount : ℕ) (open_ones : List Challenge)
      → open_challenges x ≡ open_ones
      → share_of account (payout x withdrawn amount open_ones)
      ≡ payout_share account withdrawn amount (exit_view x) (option_map challenge_view (head open_ones))
  unfolding share_of
  paid-out x withdrawn amount (d ∷ ds) is =
      ap (λ l. share account d.by EXIT_BOND + share_of account (challenge_bonds l)) (sym is)
      ∙ ap (λ n. share account d.by EXIT_BOND + n) (bonds-of x)
  paid-out x true amount [] is = plus_none (share account x.account EXIT_BOND)
  paid-out x false amount [] is = plus_none (share account x.account (amount + EXIT_BOND))

  finished : (withdrawn : Bool) (amount : ℕ) (o : Option Exit) → share_of account (finish_pays withdrawn amount o)
      ≡ finish_share account withdrawn amount (option_map exit_view o)
  unfolding share_of
  finished withdrawn amount None = refl
  finished withdrawn amount (Some x) =
      paid-out x withdrawn amount (open_challenges x) refl
      ∙ ap (payout_share account withdrawn amount (exit_view x)) (head-view x.challenges)

  pays-view : (log : List RootCall) (call : RootCall) → share_of account (pays log call) ≡ paid_to account log call
  unfolding share_of pays
  pays-view log (Fund whose amount) = plus_none (share account whose amount)
  pays-view log (After by c m spend) =
      cancelled by (exit_at log c m) ∙ ap (cancel_share account by) (viewed log c m)
  pays-view log (Between by c m spend) =
      cancelled by (exit_at log c m) ∙ ap (cancel_share account by) (viewed log c m)
  pays-view log (Respond by c m challenged spend) = plus_none (share account by CHALLENGE_BOND)
  pays-view log (Finish by c m) =
      finished (is_withdrawn log c) (amount_of (coin_at log c)) (exit_at log c m)
      ∙ ap (finish_share account (is_withdrawn log c) (amount_of (coin_at log c))) (viewed log c m)
  pays-view log (Tick time) = refl
  pays-view log (Deposit by amount key) = refl
  pays-view log (Commit by root) = refl
  pays-view log (StartDeposit by c block) = refl
  pays-view log (StartSpend by c parent exit) = refl
  pays-view log (Before by c m shown) = refl

  takes-view : (call : RootCall) → share_of account (takes call) ≡ taken_of account call
  unfolding share_of takes
  takes-view (Deposit by amount key) = plus_none (share account by amount)
  takes-view (StartDeposit by c block) = plus_none (share account by EXIT_BOND)
  takes-view (StartSpend by c parent exit) = plus_none (share account by EXIT_BOND)
  takes-view (Before by c m shown) = plus_none (share account by CHALLENGE_BOND)
  takes-view (Fund by amount) = refl
  takes-view (Tick time) = refl
  takes-view (Commit by root) = refl
  takes-view (After by c m spend) = refl
  takes-view (Between by c m spend) = refl
  takes-view (Respond by c m challenged spend) = refl
  takes-view (Finish by c m) = refl

  -- by a log that follows
  followed : (log other : List RootCall) (call : RootCall) → FollowsAll log other
      → paid_to account other call ≡ paid_to account log call
  followed log other (After by c m spend) f =
      ap (λ (s : Standing). cancel_share account by (exit_in s.exits m)) (f.each c).standing
  followed log other (Between by c m spend) f =
      ap (λ (s : Standing). cancel_share account by (exit_in s.exits m)) (f.each c).standing
  followed log other (Finish by c m) f =
      ap (λ (s : Standing). finish_share account s.withdrawn (amount_of (coin_at other c)) (exit_in s.exits m))
      (f.each c).standing
      ∙ ap (λ (o : Option CoinView). finish_share account (is_withdrawn log c) (amount_of o)
      (exit_in (exits_of log c) m)) (f.coins_are c)
  followed log other (Fund whose amount) f = refl
  followed log other (Respond by c m challenged spend) f = refl
  followed log other (Tick time) f = refl
  followed log other (Deposit by amount key) f = refl
  followed log other (Commit by root) f = refl
  followed log other (StartDeposit by c block) f = refl
  followed log other (StartSpend by c parent exit) f = refl
  followed log other (Before by c m shown) f = refl

  pub balance-more : (log other : List RootCall) (call : RootCall) (money paid sum taken next : ℕ)
      → FollowsAll log other → money ≡ balance_of log account → paid ≡ paid_to account other call
      → sum ≡ money + paid → taken ≡ taken_of account call → next ≡ sum - taken
      → next ≡ balance_of (call ∷ log) account
  unfolding balance_of
  balance-more log other call money paid sum taken next f was paid_is sum_is taken_is is =
      is
      ∙ ap (λ n. n - taken) sum_is
      ∙ ap (λ n. n + paid - taken) was
      ∙ ap (λ n. balance_of log account + n - taken)
      (paid_is ∙ followed log other call f ∙ sym (pays-view log call))
      ∙ ap (λ n. balance_of log account + share_of account (pays log call) - n)
      (taken_is ∙ sym (takes-view call))
