-- One step back along the log: where a standing exit and its open challenges come from, and that the clock doesn't go
-- back.
use Rattle.world_laws.proofs.Basics.{◌≡◌, ◌⊎◌, ℕ, ◌≤◌, ◌==◌, ◌&&◌, Bool, true, false, if◌then◌else◌, List, [], ◌∷◌, ◌++◌, Some, None, inl, inr, refl, ap, subst, arith, rules, sym, ◌∙◌, not, is_some, is_none, le_refl, eqb-true, eq-eqb, and_parts, and_from, not-true, true≢false, false_from_ne_true, common_steps, some_same, exit-named}
use Rattle.world_laws.proofs.CoinWords.{RawOpening, Shown, RootCall, Fund, Tick, Deposit, Commit, StartDeposit, StartSpend, After, Between, Before, Respond, Finish, now, block_of, Challenge, Exit, is_exit, exits, exit_at, without_exit, challenge_at, with_challenge, with_answer, new_challenge, is_start, is_end, is_respond, Tests, Rules, is_accepted, answer_to, accepted_calls_show, exits-distinct, Has, has-cases, has-filter, has-map, only-found}
use Rattle.world_laws.proofs.WorldWords.{is_before}
use Rattle.world_laws.proofs.Watched.{is_none-push, is_none-answered}

-- ---- an exit

-- an open challenge of the exit was open before, and the call neither makes nor answers it
pub record WasOpen (call : RootCall) (x y : Exit) (ch : Challenge) : Type 0 where
  pub old : Challenge
  pub there : Has y.challenges old
  pub block : old.block ≡ ch.block
  pub at : old.at ≡ ch.at
  pub unanswered : old.answered ≡ false
  pub not_made : is_before x.coin x.block ch.block call ≡ false
  pub not_answered : is_respond x.coin x.block ch.block call ≡ false

-- the call makes the challenge
abbrev pub IsMade : List RootCall → RootCall → Exit → Challenge → Type 0
IsMade log call x ch = (is_before x.coin x.block ch.block call ≡ true) × (ch.at ≡ now log)

-- the exit stood before the call, which neither starts nor ends it
pub record StoodBefore (log : List RootCall) (call : RootCall) (x : Exit) : Type 0 where
  pub y : Exit
  pub there : Has (exits log) y
  pub coin : y.coin ≡ x.coin
  pub block : y.block ≡ x.block
  pub parent : y.parent ≡ x.parent
  pub account : y.account ≡ x.account
  pub start : y.start ≡ x.start
  pub not_started : is_start x.coin x.block call ≡ false
  pub not_ended : is_end x.coin x.block call ≡ false
  -- it is challenged where it was, and where the call challenges it
  pub challenged : (n : ℕ) → is_none (challenge_at n y.challenges) ≡ false
      → is_none (challenge_at n x.challenges) ≡ false
  pub by_it : (n : ℕ) → is_before x.coin x.block n call ≡ true → is_none (challenge_at n x.challenges) ≡ false
  pub opened : (ch : Challenge) → Has x.challenges ch → ch.answered ≡ false
      → IsMade log call x ch ⊎ WasOpen call x y ch

-- the call starts the exit
pub record IsNew (log : List RootCall) (call : RootCall) (x : Exit) : Type 0 where
  pub started : is_start x.coin x.block call ≡ true
  pub start : x.start ≡ now log
  pub unchallenged : x.challenges ≡ []

-- ---- names

-- an exit of another name isn't meant
other-name : (k f : ℕ) (x : Exit) → is_exit k f x ≡ false → ((k == x.coin) && (f == x.block)) ≡ false
other-name k f x other =
    grind (arith, common_steps, false_from_ne_true, and_parts, true≢false, and_from, eq-eqb, eqb-true)

own-name : (k f : ℕ) (x : Exit) → is_exit k f x ≡ true → ((k == x.coin) && (f == x.block)) ≡ true
own-name k f x is =
    let name = exit-named k f x is in
    and_from (k == x.coin) (f == x.block) (eq-eqb k x.coin (sym name.0)) (eq-eqb f x.block (sym name.1))

-- ---- challenges

none-at : (n : ℕ) (chs : List Challenge) (ch : Challenge) → is_some (challenge_at n chs) ≡ false → Has chs ch
    → n ≡ ch.block → ⊥
none-at n [] ch none h same = absurd h
none-at n (first ∷ rest) ch none (inl is) same =
    true≢false (sym (ap (λ (b : Bool). is_some (if b then Some first else challenge_at n rest))
    (eq-eqb first.block n (ap (λ (z : Challenge). z.block) is ∙ sym same))) ∙ none)
none-at n (first ∷ rest) ch none (inr h) same =
    (elim (first.block == n) as (λ b. is_some (if b then Some first else challenge_at n rest) ≡ false → ⊥) [
      | true ↦ λ wrong. true≢false wrong
      | false ↦ λ later. none-at n rest ch later h same
    ]) none

is_none-new : (n : ℕ) (chs : List Challenge) (new : Challenge) → new.block ≡ n
    → is_none (challenge_at n (chs ++ new ∷ [])) ≡ false
is_none-new n [] new same = ap (λ (b : Bool). is_none (if b then Some new else None)) (eq-eqb new.block n same)
is_none-new n (first ∷ rest) new same = grind (arith, common_steps, is_none-new n rest new same)

-- ---- one call

module _ (tests : Tests) (rules : Rules) (log : List RootCall) where
  -- a call that does nothing to the exit
  still : (call : RootCall) (x : Exit) → Has (exits log) x → is_start x.coin x.block call ≡ false
      → is_end x.coin x.block call ≡ false → ((n : ℕ) → is_before x.coin x.block n call ≡ false)
      → ((n : ℕ) → is_respond x.coin x.block n call ≡ false) → StoodBefore log call x
  still call x there not_started not_ended not_made not_answered = grind (arith, common_steps, true≢false)

  -- what a filter by a name keeps is of another name
  kept-other : (k f : ℕ) (x : Exit) → Has (without_exit k f (exits log)) x
      → Has (exits log) x × (((k == x.coin) && (f == x.block)) ≡ false)
  kept-other k f x h =
      let r = has-filter (λ (exit : Exit). not (is_exit k f exit)) (exits log) x h in
      (r.0, other-name k f x (not-true _ r.1))

  challenged-before : (account k f : ℕ) (shown : Shown)
      → is_accepted (answer_to tests rules log (Before account k f shown)) ≡ true → (y : Exit) → Has (exits log) y
      → is_exit k f y ≡ true
      → StoodBefore log (Before account k f shown) (with_challenge (new_challenge log account k f shown) y)
  unfolding exit_at
  challenged-before account k f shown is y there named = grind (arith, common_steps, free, stood)
    where
      free : is_some (challenge_at (block_of shown) y.challenges) ≡ false
      free =
          let s = accepted_calls_show tests rules log (Before account k f shown) is in
          let same : y ≡ s.exit = some_same y s.exit
          (sym (only-found (is_exit k f) (exits log) y (exits-distinct log k f) there named) ∙ s.stands) in
          ap (λ (z : Exit). is_some (challenge_at (block_of shown) z.challenges)) same ∙ ap is_some s.none_there

      names : ((k == y.coin) && (f == y.block)) ≡ true
      names = own-name k f y named

      made : (n : ℕ) → block_of shown ≡ n → is_before y.coin y.block n (Before account k f shown) ≡ true
      made n same = grind (arith, common_steps, and_from, names, eq-eqb)

      at-block : (n : ℕ) → is_before y.coin y.block n (Before account k f shown) ≡ true → block_of shown ≡ n
      at-block n on = grind (arith, common_steps, eqb-true, and_parts)

      from-open : (ch : Challenge) → Has y.challenges ch ⊎ Has (new_challenge log account k f shown ∷ []) ch
          → ch.answered ≡ false
          → IsMade log (Before account k f shown)
          (record y { challenges = y.challenges ++ new_challenge log account k f shown ∷ [] }) ch
          ⊎ WasOpen (Before account k f shown)
          (record y { challenges = y.challenges ++ new_challenge log account k f shown ∷ [] }) y ch
      from-open ch (inl has) unanswered = grind (arith, common_steps, false_from_ne_true, none-at, free, at-block)
      from-open ch (inr (inl same)) unanswered = grind (arith, common_steps)
      from-open ch (inr (inr none)) unanswered = absurd none

      stood : StoodBefore log (Before account k f shown)
          (record y { challenges = y.challenges ++ new_challenge log account k f shown ∷ [] })
      stood = record {
        y = y;
        there = there;
        coin = refl;
        block = refl;
        parent = refl;
        account = refl;
        start = refl;
        not_started = refl;
        not_ended = refl;
        challenged = λ n was. is_none-push n y.challenges (new_challenge log account k f shown) was;
        by_it = λ n on. is_none-new n y.challenges (new_challenge log account k f shown) (at-block n on);
        opened = λ ch has unanswered.
            from-open ch (has-cases y.challenges (new_challenge log account k f shown ∷ []) ch has) unanswered;
      }

  answered-before : (account k f n : ℕ) (spend : RawOpening) (y : Exit) → Has (exits log) y
      → StoodBefore log (Respond account k f n spend) (with_answer n y)
  answered-before account k f n spend y there =
      grind (
        arith,
        common_steps,
        is_none-answered,
        true≢false,
        has-map,
        false_from_ne_true,
        eqb-true,
        and_parts,
        eq-eqb,
      )

  -- a standing exit is new with the call, or stood before it
  pub stood-before : (call : RootCall) → is_accepted (answer_to tests rules log call) ≡ true → (x : Exit)
      → Has (exits (call ∷ log)) x → IsNew log call x ⊎ StoodBefore log call x
  unfolding exits
  stood-before (Fund account amount) is x h = inr (still (Fund account amount) x h refl refl (λ n. refl) (λ n. refl))
  stood-before (Tick time) is x h = inr (still (Tick time) x h refl refl (λ n. refl) (λ n. refl))
  stood-before (Deposit account amount key) is x h =
      inr (still (Deposit account amount key) x h refl refl (λ n. refl) (λ n. refl))
  stood-before (Commit account root) is x h = inr (still (Commit account root) x h refl refl (λ n. refl) (λ n. refl))
  stood-before (StartDeposit account k block) is x h = grind (arith, has-cases, kept-other, still, and_from, eq-eqb)
  stood-before (StartSpend account k parent exit) is x h = grind (arith, has-cases, kept-other, still, and_from, eq-eqb)
  stood-before (After account k f spend) is x h = grind (arith, common_steps, kept-other, still)
  stood-before (Between account k f spend) is x h = grind (arith, common_steps, kept-other, still)
  stood-before (Finish account k f) is x h = grind (arith, common_steps, kept-other, still)
  stood-before (Before account k f shown) is x h =
      let change : Exit → Exit = with_challenge (new_challenge log account k f shown) in
      let r = has-map (λ (exit : Exit). if is_exit k f exit then change exit else exit) (exits log) x h in
      inr (subst (StoodBefore log (Before account k f shown)) r.2
      ((elim (is_exit k f r.0) as (λ b. is_exit k f r.0 ≡ b
      → StoodBefore log (Before account k f shown) (if b then change r.0 else r.0)) [
        | true ↦ λ named. challenged-before account k f shown is r.0 r.1 named
        | false ↦ grind (arith, common_steps, still, other-name)
      ]) refl))
  stood-before (Respond account k f challenged spend) is x h =
      grind (arith, common_steps, has-map, answered-before, still, other-name)

  -- the clock doesn't go back
  pub clock-before : (call : RootCall) → is_accepted (answer_to tests rules log call) ≡ true
      → now log ≤ now (call ∷ log)
  unfolding now
  clock-before (Tick time) is = (accepted_calls_show tests rules log (Tick time) is).0
  clock-before call is = le_refl (now log)
