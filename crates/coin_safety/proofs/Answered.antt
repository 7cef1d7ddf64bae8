-- The map of the answers to a coin's challenges at one block, as its loop fills it.
use Rattle.coin_safety.proofs.Words.{◌≡◌, ◌<◌, ℕ, ◌+◌, ◌==◌, ◌&&◌, cond, true, false, if◌then◌else◌, List, [], ◌∷◌, length, take, get_or, reverse, Option, Some, None, refl, sym, ap, ◌∙◌, is_some, slice_get, option_and_then, option_map, option_or, nat_cmp, is_at, true≢false, slice_get-get_or, RawOpening, RootCall, Fund, Tick, Deposit, Commit, StartDeposit, StartSpend, After, Between, Before, Respond, Finish, some_same, eqb-flip, is_at-nat, answer_in, answer_shown, left_in, left_by}
use Rattle.coin_safety.specs.Answered.{answered_exit}
use Rattle.coin_safety.proofs.Lists.{log-more}

-- an answer of an exit answers that exit, and no other
answers-own : (c t q e : ℕ) (call : RootCall) → answered_exit c t call ≡ Some e → (e == q) ≡ true
    → (o : Option RawOpening) → option_or (answer_in c t q call) o ≡ answer_in c t q call
answers-own c t q e (Respond account coin exit challenged spend) is same o =
    (elim ((coin == c) && (challenged == t)) as (λ b. (if b then Some exit else None) ≡ Some e
    → option_or (if b && (exit == q) then Some spend else None) o ≡ (if b && (exit == q) then Some spend else None)) [
      | true ↦ λ it. ap (λ b. option_or (if b then Some spend else None) o)
          (ap (λ k. k == q) (some_same exit e it) ∙ same)
          ∙ ap (λ b. if b then Some spend else None) (sym (ap (λ k. k == q) (some_same exit e it) ∙ same))
      | false ↦ λ it. absurd (cc it)
    ]) is
answers-own c t q e call is same o = absurd (cc is)

answers-other : (c t q e : ℕ) (call : RootCall) → answered_exit c t call ≡ Some e → (e == q) ≡ false
    → answer_in c t q call ≡ None
answers-other c t q e (Respond account coin exit challenged spend) is apart =
    (elim ((coin == c) && (challenged == t)) as (λ b. (if b then Some exit else None) ≡ Some e
    → (if b && (exit == q) then Some spend else None) ≡ None) [
      | true ↦ λ it. ap (λ b. if b then Some spend else None) (ap (λ k. k == q) (some_same exit e it) ∙ apart)
      | false ↦ λ it. refl
    ]) is
answers-other c t q e call is apart = absurd (cc is)

answers-none : (c t q : ℕ) (call : RootCall) → answered_exit c t call ≡ None → answer_in c t q call ≡ None
answers-none c t q (Respond account coin exit challenged spend) is =
    (elim ((coin == c) && (challenged == t)) as (λ b. (if b then Some exit else None) ≡ None
    → (if b && (exit == q) then Some spend else None) ≡ None) [
      | true ↦ λ it. absurd (cc it)
      | false ↦ λ it. refl
    ]) is
answers-none c t q (Fund account amount) is = refl
answers-none c t q (Tick time) is = refl
answers-none c t q (Deposit account amount key) is = refl
answers-none c t q (Commit account root) is = refl
answers-none c t q (StartDeposit account coin block) is = refl
answers-none c t q (StartSpend account coin parent exit) is = refl
answers-none c t q (After account coin exit spend) is = refl
answers-none c t q (Between account coin exit spend) is = refl
answers-none c t q (Before account coin exit shown) is = refl
answers-none c t q (Finish account coin exit) is = refl

pub answers-begin : (c t : ℕ) (events : List RootCall) (found : Option ℕ) (q : ℕ) → found ≡ None
    → option_and_then (λ n. option_and_then (answer_in c t q) (slice_get events n)) found
    ≡ answer_shown (reverse []) c t q
unfolding answer_shown
answers-begin c t events found q is =
    ap (option_and_then (λ n. option_and_then (answer_in c t q) (slice_get events n))) is

next-answer : (c t q : ℕ) (call : RootCall) (log : List RootCall)
    → answer_shown (call ∷ log) c t q ≡ option_or (answer_in c t q call) (answer_shown log c t q)
unfolding answer_shown
next-answer c t q call log = refl

some-first : {X : Type 0} (o rest : Option X) → is_some o ≡ true → option_or o rest ≡ o
some-first None rest is = absurd (true≢false (sym is))
some-first (Some x) rest is = refl

none-first : {X : Type 0} (o rest : Option X) → is_some o ≡ false → option_or o rest ≡ rest
none-first None rest is = refl
none-first (Some x) rest is = absurd (true≢false is)

pub mapped-some : {X Y : Type 0} (f : X → Y) (o : Option X) → is_some (option_map f o) ≡ is_some o
mapped-some f None = refl
mapped-some f (Some x) = refl

next-left : (c t : ℕ) (call : RootCall) (log : List RootCall)
    → left_by (call ∷ log) c t ≡ option_or (left_in c t call) (left_by log c t)
unfolding left_by
next-left c t call log = refl

pub left-begin : (c t : ℕ) → None ≡ left_by (reverse []) c t
unfolding left_by
left-begin c t = refl

module _ (c t : ℕ) (events : List RootCall) (i : ℕ) (call : RootCall) (within : i < length events)
    (at : call ≡ get_or events i call) where
  abbrev shows : ℕ → Option ℕ → Option RawOpening
  shows q place = option_and_then (λ n. option_and_then (answer_in c t q) (slice_get events n)) place

  abbrev before : ℕ → Option RawOpening
  before q = answer_shown (reverse (take i events)) c t q

  more : (q : ℕ) → answer_shown (reverse (take (i + 1) events)) c t q ≡ option_or (answer_in c t q call) (before q)
  more q =
      ap (λ l. answer_shown l c t q) (log-more events i call within at)
      ∙ next-answer c t q call (reverse (take i events))

  -- the call is an answer
  pub answer-more : (e : ℕ) (old new : ℕ → Option ℕ) → answered_exit c t call ≡ Some e
      → ((q : ℕ) → new q ≡ cond (is_at (nat_cmp e) q) (Some i) (old q))
      → ((q : ℕ) → shows q (old q) ≡ before q)
      → (q : ℕ) → shows q (new q) ≡ answer_shown (reverse (take (i + 1) events)) c t q
  answer-more e old new is insert was q =
      ap (shows q) (insert q ∙ ap (λ b. cond b (Some i) (old q)) (is_at-nat e q))
      ∙ (elim (q == e) as (λ b. (q == e) ≡ b → shows q (cond b (Some i) (old q))
      ≡ option_or (answer_in c t q call) (before q)) [
        | true ↦ λ same. ap (option_and_then (answer_in c t q)) (slice_get-get_or events i call within)
            ∙ ap (answer_in c t q) (sym at)
            ∙ sym (answers-own c t q e call is (eqb-flip e q ∙ same) (before q))
        | false ↦ λ other. was q
            ∙ ap (λ (o : Option RawOpening). option_or o (before q))
            (sym (answers-other c t q e call is (eqb-flip e q ∙ other)))
      ]) refl
      ∙ sym (more q)

  -- it is none
  pub answer-same : (old new : ℕ → Option ℕ) → answered_exit c t call ≡ None → ((q : ℕ) → new q ≡ old q)
      → ((q : ℕ) → shows q (old q) ≡ before q)
      → (q : ℕ) → shows q (new q) ≡ answer_shown (reverse (take (i + 1) events)) c t q
  answer-same old new is same was q =
      ap (shows q) (same q)
      ∙ was q
      ∙ ap (λ (o : Option RawOpening). option_or o (before q)) (sym (answers-none c t q call is))
      ∙ sym (more q)

  -- ---- the last spend of the block

  left-next : left_by (reverse (take (i + 1) events)) c t
      ≡ option_or (left_in c t call) (left_by (reverse (take i events)) c t)
  left-next =
      ap (λ l. left_by l c t) (log-more events i call within at) ∙ next-left c t call (reverse (take i events))

  pub left-more : is_some (left_in c t call) ≡ true
      → option_and_then (left_in c t) (slice_get events i) ≡ left_by (reverse (take (i + 1) events)) c t
  left-more is =
      ap (option_and_then (left_in c t)) (slice_get-get_or events i call within)
      ∙ ap (left_in c t) (sym at)
      ∙ sym (some-first (left_in c t call) (left_by (reverse (take i events)) c t) is)
      ∙ sym left-next

  pub left-same : (found : Option RawOpening) → is_some (left_in c t call) ≡ false
      → found ≡ left_by (reverse (take i events)) c t → found ≡ left_by (reverse (take (i + 1) events)) c t
  left-same found is was =
      was ∙ sym (none-first (left_in c t call) (left_by (reverse (take i events)) c t) is) ∙ sym left-next
