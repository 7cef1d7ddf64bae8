-- What a look shows whose word is Act: till the last moment for the first call nothing goes wrong.
use Rattle.safety_laws.proofs.Basics.{◌-◌, ◌≡◌, ◌⊎◌, ℕ, ◌+◌, ◌<◌, ◌≤◌, ◌==◌, List, [], ◌∷◌, map, Option, Some, None, option_map, inl, inr, refl, sym, ap, ◌∙◌, subst, arith, find, filter, rules, is_none, option_map_or, Contains, cases_Bool, cases_eq, ne_eqb, eq-eqb, eqb-true, and_from, common_steps}
use Rattle.safety_laws.proofs.CoinWords.{Owner, RootCall, Respond, ChallengeView, ExitView, CHALLENGE_WINDOW, RESPONSE_WINDOW, now, Challenge, Exit, is_exit, exits, exit_at, challenge_at, challenge_view, exit_view, exits_of, Rules, tests_by, exits-distinct, is_at, challenged-once, due_for, due_of, Has, has-contains, has-filter, has-map, only-found, IsDue, due_for-due, Kept, later, standing, tip, exit_in, due, answer_end, window_end, end_of_call, AreAhead}
use Rattle.safety_laws.proofs.WorldWords.{IsDigest, Event, log_of, IsLegal, IsLook, has-in-flat_map}
use Rattle.safety_laws.proofs.AtLook.{standing-has, ahead-window, ahead-answer, at, others-apart, others-seen, tip-seen, StandsTill}

-- ---- what is found in the views

found-in : (c b : ℕ) (xs : List Exit) → option_map exit_view (find (is_exit c b) xs)
    ≡ find (λ (view : ExitView). view.block == b) (map exit_view (filter (λ (x : Exit). x.coin == c) xs))
found-in c b [] = refl
found-in c b (x ∷ xs) = grind (arith, common_steps, found-in c b xs)

found-mapped : (b : ℕ) (xs : List Challenge) → option_map challenge_view (find (is_at b) xs)
    ≡ find (λ (view : ChallengeView). view.block == b) (map challenge_view xs)
found-mapped b [] = refl
found-mapped b (x ∷ xs) = grind (arith, common_steps, found-mapped b xs, is_at)

pub stands-there : (log : List RootCall) (c : ℕ) (x : Exit) → Has (exits log) x → x.coin ≡ c
    → exit_at log c x.block ≡ Some x
unfolding exit_at
stands-there log c x there c_is =
    only-found (is_exit c x.block) (exits log) x (exits-distinct log c x.block) there
    (and_from (x.coin == c) (x.block == x.block) (eq-eqb x.coin c c_is) (eq-eqb x.block x.block refl))

pub exit-found : (log : List RootCall) (kept : Kept) (x : Exit) → Has (exits log) x → x.coin ≡ kept.links.coin
    → exit_in (standing log kept) x.block ≡ Some (exit_view x)
unfolding exits_of exit_at
exit-found log kept x there c_is =
    sym (found-in kept.links.coin x.block (exits log))
    ∙ ap (option_map exit_view) (stands-there log kept.links.coin x there c_is)

pub challenge-found : (log : List RootCall) (c : ℕ) (x : Exit) → Has (exits log) x → x.coin ≡ c → (ch : Challenge)
    → Has x.challenges ch
    → find (λ (view : ChallengeView). view.block == ch.block) (map challenge_view x.challenges)
    ≡ Some (challenge_view ch)
challenge-found log c x there c_is ch has =
    sym (found-mapped ch.block x.challenges)
    ∙ ap (option_map challenge_view)
    (only-found (is_at ch.block) x.challenges ch
    (challenged-once log c x.block x (stands-there log c x there c_is) ch.block) has (eq-eqb ch.block ch.block refl))

-- an exit that the views show
pub record IsSeenExit (log : List RootCall) (c : ℕ) (v : ExitView) : Type 0 where
  pub x : Exit
  pub there : Has (exits log) x
  pub c_is : x.coin ≡ c
  pub view_is : exit_view x ≡ v

pub seen-exit : (log : List RootCall) (c : ℕ) (v : ExitView) → Has (exits_of log c) v → IsSeenExit log c v
unfolding exits_of
seen-exit log c v h = grind (arith, common_steps, has-map, has-filter, eqb-true)

-- ---- the ends of calls

-- a second before the first end is before each
second-before : (time seconds first by : ℕ) → by ≡ first - 1 → 0 < seconds → first ≤ later time seconds
    → by < time + seconds
second-before time seconds first by by_is more less = omega arith

window-less : (first by : ℕ) → by ≡ first - 1 → (found : Option ExitView) (x : Exit) → found ≡ Some (exit_view x)
    → first ≤ window_end found → by < x.start + CHALLENGE_WINDOW
window-less first by by_is found x is less =
    second-before x.start CHALLENGE_WINDOW first by by_is (omega arith) (subst (λ o. first ≤ window_end o) is less)

module _ (dig : List ℕ → List ℕ) (digest : IsDigest dig) (rules : Rules) (events : List Event) (n w c e account : ℕ)
    (kept : Kept) (legal : IsLegal (tests_by dig) rules events) (look : IsLook dig rules events n w c e kept)
    (unsent : kept.sent ≡ None) (ahead : AreAhead (log_of events) (now (log_of events)) kept) (first by : ℕ)
    (by_is : by ≡ first - 1)
    (calls : (call : RootCall) → Contains (due (log_of events) account kept) call
    → first ≤ end_of_call (standing (log_of events) kept) call) where
  abbrev Me : Owner
  Me = (at dig digest rules events n w c e account kept legal look).hold.me

  due-ends : (call : RootCall) → Has (due_of (log_of events) account (record { links = kept.links })) call
      → first ≤ end_of_call (standing (log_of events) kept) call
  due-ends call has = grind (arith, common_steps, has-contains)

  -- a call is due for an exit that isn't of the tip: it may be entered while the exit's window is open
  exit-ends : (x : Exit) → Has (exits (log_of events)) x → x.coin ≡ kept.links.coin → (call : RootCall)
      → IsDue (log_of events) account kept.links (exit_view x) call
      → first ≤ end_of_call (standing (log_of events) kept) call
      → (by < x.start + CHALLENGE_WINDOW) ⊎ (x.block ≡ tip kept)
  exit-ends x there c_is call h4 less = grind (arith, common_steps, window-less, exit-found)

  answer-less : (x : Exit) → Has (exits (log_of events)) x → x.coin ≡ kept.links.coin → (ch : Challenge)
      → Has x.challenges ch
      → first ≤ option_map_or (λ (exit : ExitView). answer_end exit.challenges ch.block)
      (exit_in (standing (log_of events) kept) x.block) 0
      → by < ch.at + RESPONSE_WINDOW
  answer-less x there c_is ch has less =
      second-before ch.at RESPONSE_WINDOW first by by_is (omega arith)
      (subst (λ o. first ≤ option_map_or (λ (view : ChallengeView). later view.at RESPONSE_WINDOW) o 0)
      (challenge-found (log_of events) kept.links.coin x there c_is ch has)
      (subst (λ o. first ≤ option_map_or (λ (exit : ExitView). answer_end exit.challenges ch.block) o 0)
      (exit-found (log_of events) kept x there c_is) less))

  -- till then nothing goes wrong
  pub act-stands : (end : ℕ) → end ≤ by → StandsTill events c e Me end
  act-stands end early = record {
    others = λ y there c_is other. elim (cases_Bool (is_none (challenge_at e y.challenges))) [
      | inr challenged ↦ inl challenged
      | inl free ↦ elim (cases_eq y.block e) [
        | inl same ↦ absurd (others-apart dig digest rules events n w c e account kept legal look y there c_is other
            same)
        | inr apart ↦
            let own = c_is ∙ sym look.coin_is in
            elim (others-seen dig digest rules events n w c e account kept legal look y there c_is other
            (ahead-window (log_of events) (now (log_of events)) kept ahead y there own
            (ap (λ b. y.block == b) look.tip_is ∙ ne_eqb y.block e apart)
            (ap (λ b. is_none (challenge_at b y.challenges)) look.tip_is ∙ free))) [
              | inl found ↦ elim (exit-ends y there own found.0
                  (due_for-due (log_of events) account kept.links (exit_view y) found.0 found.1)
                  (due-ends found.0 (has-in-flat_map (due_for (log_of events) account kept.links)
                  (exits_of (log_of events) kept.links.coin) (exit_view y) found.0
                  (standing-has (log_of events) kept y there own) found.1))) [
                    | inl less ↦ inr (omega (arith, less, early))
                    | inr same ↦ absurd (apart (same ∙ look.tip_is))
                  ]
              | inr challenged ↦ inl challenged
            ]
      ]
    ];
    tips = λ y there c_is at_tip mine ch has still.
        let own = c_is ∙ sym look.coin_is in
        let found = tip-seen dig digest rules events n w c e account kept legal look y there c_is at_tip ch has still
        (ahead-answer (log_of events) (now (log_of events)) kept ahead y there own
        (eq-eqb y.block (tip kept) (at_tip ∙ sym look.tip_is)) ch has still) in
        let less = answer-less y there own ch has
        (due-ends (Respond account kept.links.coin y.block ch.block found.0.opening) found.1) in
        omega (arith, less, early);
  }
