-- What is kept of each coin after a call.
use Rattle.plasma_tx.proofs.Words.{◌≡◌, ℕ, ◌==◌, ◌&&◌, ◌||◌, Bool, true, false, if◌then◌else◌, List, [], ◌∷◌, ◌++◌, map, Option, Some, refl, sym, ap, ◌∙◌, find, filter, arith, is_some, list_all, option_map, eqb-true, eq-eqb, common_steps, ChallengeView, ExitView, Response, Change, RawOpening, Shown, RootCall, StartDeposit, StartSpend, After, Between, Before, Respond, Finish, Challenge, Exit, is_exit, without_exit, with_exit_changed, challenge_at, with_challenge, with_answer_at, with_answer, without_responses, responses, is_responded, block_of, new_challenge, now, exits, exit_at, has_no_open_challenge, is_withdrawn, challenge_view, exit_view, exits_of, view_with_answer_at, is_challenged, new_exit, without_view, with_view_changed, with_challenge_view, with_answer_view, has_no_open_view, standing_after, change_of, standing_of}
use Rattle.plasma_tx.specs.declared.standing.Change.TheVariants.{Start, Cancel, Challenge as Challenged, Respond as Answered, Finish as End}
use Rattle.plasma_tx.proofs.Names.{eqb-flip, some_same}
use Rattle.plasma_tx.proofs.Stands.{same-challenged}

-- the views of the exits of one coin
abbrev pub views : ℕ → List Exit → List ExitView
views c exits = map exit_view (filter (λ exit. exit.coin == c) exits)

abbrev of_coin : ℕ → List Response → List Response
of_coin c responses = filter (λ response. response.coin == c) responses

-- ---- one exit taken out

module _ (c m : ℕ) where
  views-without : (exits : List Exit) → views c (without_exit c m exits) ≡ without_view m (views c exits)
  views-without [] = refl
  views-without (x ∷ xs) = grind (arith, common_steps, views-without xs) steps 20000

  of_coin-without : (responses : List Response) → of_coin c (without_responses c m responses)
      ≡ without_responses c m (of_coin c responses)
  of_coin-without [] = refl
  of_coin-without (x ∷ xs) = grind (arith, common_steps, of_coin-without xs) steps 20000

  -- the exit at the block, by its view
  found-views : (exits : List Exit) → option_map exit_view (find (is_exit c m) exits)
      ≡ find (λ view. view.block == m) (views c exits)
  found-views [] = refl
  found-views (x ∷ xs) = grind (arith, common_steps, found-views xs) steps 20000

  -- a change of the exit at the block, by its view
  views-changed : (change : Exit → Exit) (change_view : ExitView → ExitView)
      → ((x : Exit) → (change x).coin ≡ x.coin) → ((x : Exit) → exit_view (change x) ≡ change_view (exit_view x))
      → (exits : List Exit)
      → views c (with_exit_changed c m change exits) ≡ with_view_changed m change_view (views c exits)
  views-changed change change_view coin same [] = refl
  views-changed change change_view coin same (x ∷ xs) =
      grind (arith, common_steps, views-changed change change_view coin same xs, same) steps 20000

  responded-of : (b : ℕ) (responses : List Response) → is_responded c m b (of_coin c responses)
      ≡ is_responded c m b responses
  responded-of b [] = refl
  responded-of b (x ∷ xs) = grind (arith, common_steps, responded-of b xs) steps 20000

-- ---- calls of another coin

module _ (c k m : ℕ) (other : (k == c) ≡ false) where
  -- a thing of coin c isn't of coin k
  apart : (a : ℕ) → (a == c) ≡ true → (a == k) ≡ false
  apart a own = ap (λ x. x == k) (eqb-true a c own) ∙ eqb-flip c k ∙ other

  views-without_other : (exits : List Exit) → views c (without_exit k m exits) ≡ views c exits
  views-without_other [] = refl
  views-without_other (x ∷ xs) = grind (arith, common_steps, views-without_other xs, apart) steps 20000

  of_coin-without_other : (responses : List Response) → of_coin c (without_responses k m responses)
      ≡ of_coin c responses
  of_coin-without_other [] = refl
  of_coin-without_other (x ∷ xs) = grind (arith, common_steps, of_coin-without_other xs, apart) steps 20000

  views-changed_other : (change : Exit → Exit) → ((x : Exit) → (change x).coin ≡ x.coin) → (exits : List Exit)
      → views c (with_exit_changed k m change exits) ≡ views c exits
  views-changed_other change coin [] = refl
  views-changed_other change coin (x ∷ xs) =
      grind (arith, common_steps, views-changed_other change coin xs, apart) steps 20000

-- ---- one more at the end

views-push : (c : ℕ) (exits : List Exit) (new : Exit) → views c (exits ++ new ∷ [])
    ≡ (if new.coin == c then views c exits ++ exit_view new ∷ [] else views c exits)
views-push c [] new = grind (arith, common_steps) steps 20000
views-push c (x ∷ xs) new = grind (arith, common_steps, views-push c xs new) steps 20000

of_coin-push : (c : ℕ) (responses : List Response) (new : Response) → of_coin c (responses ++ new ∷ [])
    ≡ (if new.coin == c then of_coin c responses ++ new ∷ [] else of_coin c responses)
of_coin-push c [] new = refl
of_coin-push c (x ∷ xs) new = grind (arith, common_steps, of_coin-push c xs new) steps 20000

-- ---- challenges by their views

challenged-views : (b : ℕ) (challenges : List Challenge) → is_some (challenge_at b challenges)
    ≡ is_challenged b (map challenge_view challenges)
challenged-views b [] = refl
challenged-views b (x ∷ xs) =
    elim (x.block == b) as (λ t. is_some (if t then Some x else challenge_at b xs)
    ≡ (t || is_challenged b (map challenge_view xs))) [ true ↦ refl | false ↦ challenged-views b xs ]

views-challenge_push : (challenges : List Challenge) (new : Challenge) → map challenge_view (challenges ++ new ∷ [])
    ≡ map challenge_view challenges ++ challenge_view new ∷ []
views-challenge_push [] new = refl
views-challenge_push (x ∷ xs) new = ap (λ (l : List ChallengeView). challenge_view x ∷ l) (views-challenge_push xs new)

view-challenged : (new : Challenge) (x : Exit) → exit_view (with_challenge new x)
    ≡ with_challenge_view (challenge_view new) (exit_view x)
view-challenged new x = grind (arith, common_steps, challenged-views, views-challenge_push) steps 20000

views-answered : (n : ℕ) (challenges : List Challenge) → map challenge_view (map (with_answer_at n) challenges)
    ≡ map (view_with_answer_at n) (map challenge_view challenges)
views-answered n [] = refl
views-answered n (x ∷ xs) = grind (arith, common_steps, views-answered n xs) steps 20000

view-answered : (n : ℕ) (x : Exit) → exit_view (with_answer n x) ≡ with_answer_view n (exit_view x)
view-answered n x = λ i. record (exit_view x) { challenges = views-answered n x.challenges i }

all-answered : (challenges : List Challenge) → list_all (λ challenge. challenge.answered) challenges
    ≡ list_all (λ challenge. challenge.answered) (map challenge_view challenges)
all-answered [] = refl
all-answered (x ∷ xs) = ap (λ (r : Bool). x.answered && r) (all-answered xs)

open-views : (o : Option Exit) → has_no_open_challenge o ≡ has_no_open_view (option_map exit_view o)
open-views o = grind (arith, common_steps, all-answered) steps 20000

-- ---- what is kept of a coin after a call

-- what is to be shown of a call that changes the exits of coin k
abbrev After_is : List RootCall → RootCall → ℕ × Change → Type 0
After_is log call p = (c : ℕ) → standing_of (call ∷ log) c
    ≡ (if c == p.0 then standing_after p.0 p.1 (standing_of log p.0) else standing_of log c)

by_coin : (log : List RootCall) (call : RootCall) (k : ℕ) (change : Change)
    → standing_of (call ∷ log) k ≡ standing_after k change (standing_of log k)
    → ((c : ℕ) → (k == c) ≡ false → standing_of (call ∷ log) c ≡ standing_of log c) → After_is log call (k, change)
by_coin log call k change own other c = grind (arith, common_steps, eqb-true, eqb-flip) steps 20000

same : (k : ℕ) → (k == k) ≡ true
same k = eq-eqb k k refl

-- a start of the exit
started_own : (k m : ℕ) (exits : List Exit) (new : Exit) → new.coin ≡ k
    → views k (without_exit k m exits ++ new ∷ []) ≡ without_view m (views k exits) ++ exit_view new ∷ []
started_own k m exits new coin = grind (arith, common_steps, views-push, eq-eqb, views-without) steps 20000

started_other : (c k m : ℕ) (exits : List Exit) (new : Exit) → new.coin ≡ k → (k == c) ≡ false
    → views c (without_exit k m exits ++ new ∷ []) ≡ views c exits
started_other c k m exits new coin other = grind (arith, common_steps, views-push, views-without_other) steps 20000

after-StartDeposit : (log : List RootCall) (account k m : ℕ) → After_is log (StartDeposit account k m)
    (k, Start (new_exit m 0 (now log) account))
unfolding exits responses is_withdrawn exits_of standing_after
after-StartDeposit log account k m =
    grind (arith, common_steps, by_coin, started_own, of_coin-without, started_other, of_coin-without_other) steps 20000

after-StartSpend : (log : List RootCall) (account k : ℕ) (parent : Shown) (exit : RawOpening)
    → After_is log (StartSpend account k parent exit)
    (k, Start (new_exit exit.block (block_of parent) (now log) account))
unfolding exits responses is_withdrawn exits_of standing_after
after-StartSpend log account k parent exit =
    grind (arith, common_steps, by_coin, started_own, of_coin-without, started_other, of_coin-without_other) steps 20000

after-After : (log : List RootCall) (account k m : ℕ) (spend : RawOpening)
    → After_is log (After account k m spend) (k, Cancel m)
unfolding exits responses is_withdrawn exits_of standing_after
after-After log account k m spend =
    grind (
      arith,
      common_steps,
      by_coin,
      views-without,
      of_coin-without,
      views-without_other,
      of_coin-without_other,
    ) steps 20000

after-Between : (log : List RootCall) (account k m : ℕ) (spend : RawOpening)
    → After_is log (Between account k m spend) (k, Cancel m)
unfolding exits responses is_withdrawn exits_of standing_after
after-Between log account k m spend =
    grind (
      arith,
      common_steps,
      by_coin,
      views-without,
      of_coin-without,
      views-without_other,
      of_coin-without_other,
    ) steps 20000

after-Finish : (log : List RootCall) (account k m : ℕ) → After_is log (Finish account k m) (k, End m)
unfolding exits responses is_withdrawn exits_of standing_after exit_at
after-Finish log account k m =
    grind (
      arith,
      common_steps,
      open-views,
      found-views,
      by_coin,
      same,
      views-without,
      of_coin-without,
      views-without_other,
      of_coin-without_other,
    ) steps 20000

after-Before : (log : List RootCall) (account k m : ℕ) (shown : Shown)
    → After_is log (Before account k m shown) (k, Challenged m (block_of shown) account (now log))
unfolding exits responses is_withdrawn exits_of standing_after
after-Before log account k m shown =
    let new : Challenge = new_challenge log account k m shown in
    let coin : (x : Exit) → (with_challenge new x).coin ≡ x.coin = λ x. ap (λ (y : Exit). y.coin)
    (same-challenged new x) in
    let read : is_responded k m (block_of shown) (responses log) ≡ is_responded k m (block_of shown)
    (of_coin k (responses log)) = sym (responded-of k m (block_of shown) (responses log)) in
    let made : ℕ → Bool → ChallengeView =
    λ n answered. record { block = n; at = now log; by = account; answered = answered } in
    by_coin log (Before account k m shown) k (Challenged m (block_of shown) account (now log))
    (λ i. record {
      withdrawn = is_withdrawn log k;
      exits = (views-changed k m (with_challenge new) (with_challenge_view (challenge_view new)) coin
          (view-challenged new) (exits log)
          ∙ ap (λ (answered : Bool). with_view_changed m (with_challenge_view (made (block_of shown) answered))
          (views k (exits log))) read) i;
      responses = of_coin k (responses log);
    })
    (grind (arith, common_steps, views-changed_other) steps 20000)

after-Respond : (log : List RootCall) (account k m n : ℕ) (spend : RawOpening)
    → After_is log (Respond account k m n spend) (k, Answered m n)
unfolding exits responses is_withdrawn exits_of standing_after
after-Respond log account k m n spend =
    grind (
      arith,
      common_steps,
      by_coin,
      views-changed,
      view-answered,
      of_coin-push,
      same,
      views-changed_other,
    ) steps 20000

-- so it is of each call that changes a coin's exits
pub after-change : (log : List RootCall) (call : RootCall) (p : ℕ × Change) → change_of (now log) call ≡ Some p
    → After_is log call p
after-change log call p is =
    grind (
      arith,
      common_steps,
      some_same,
      after-StartDeposit,
      after-StartSpend,
      after-After,
      after-Between,
      after-Before,
      after-Respond,
      after-Finish,
    ) steps 20000
