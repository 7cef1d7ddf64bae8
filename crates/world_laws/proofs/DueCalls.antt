-- What is due for the exits of a coin that a node guards, and so is among the calls that it offers.
use Rattle.world_laws.proofs.Basics.{◌≡◌, ℕ, ◌+◌, ◌<◌, ◌≤◌, ◌==◌, ◌&&◌, not, Bool, true, false, if◌then◌else◌, List, [], ◌∷◌, map, Option, Some, None, inl, inr, refl, sym, ap, ◌∙◌, subst, arith, filter, rules, is_some, is_none, nat_lt, unwrap_or, option_map, option_or, flat_map, eq-eqb, lt-ltb, le-ltb, lt-leb, and_from, not_from_false, false≢true, common_steps, has-in-flat_map, has-kept, none-any}
use Rattle.world_laws.proofs.CoinWords.{Owner, Link, Links, RootCall, After, Between, Before, Respond, CoinView, tip_of, now, Challenge, Exit, exits, challenge_at, challenge_view, exit_view, exits_of, block_of, CHALLENGE_WINDOW, RESPONSE_WINDOW, Tests, Rules, link_after, tip_shown, within, answer, due_for, due_of, Has, any-map}
use Rattle.world_laws.proofs.WorldWords.{Event, log_of, seen}
use Rattle.world_laws.proofs.HeldCoins.{IsShownAt, IsGoodGuard}
use Rattle.plasma_tx.specs.ChallengeLists.{is_challenged}

-- ---- members

pub has-mapped : {X Y : Type 0} (f : X → Y) (xs : List X) (x : X) → Has xs x → Has (map f xs) (f x)
has-mapped f [] x h = absurd h
has-mapped f (y ∷ ys) x (inl is) = inl (ap f is)
has-mapped f (y ∷ ys) x (inr h) = inr (has-mapped f ys x h)

-- ---- one exit

module _ (log : List RootCall) (account : ℕ) (links : Links) where
  within-has : (time window : ℕ) (call : RootCall) → now log < time + window → Has (within log time window call) call
  within-has time window call inside =
      subst (λ (b : Bool). Has (if b then [] else call ∷ []) call) (sym (lt-leb (time + window) (now log) inside))
      (inl refl)

  module _ (A : Type 0) (x : Exit) (inside : now log < x.start + CHALLENGE_WINDOW) where
    abbrev after : Link → List RootCall
    after link = within log x.start CHALLENGE_WINDOW (After account links.coin x.block link.opening)

    abbrev between : Link → List RootCall
    between link = within log x.start CHALLENGE_WINDOW (Between account links.coin x.block link.opening)

    -- the calls of the first of these rules that speaks
    abbrev Calls : Option Link → Bool → Option Link → Option (List RootCall) → List RootCall
    Calls o b l rest = unwrap_or (option_or (option_map after o)
        (option_or (if b then option_map between l else None) rest)) []

    after-has : (link : Link) → Has (after link) (After account links.coin x.block link.opening)
    after-has link = within-has x.start CHALLENGE_WINDOW (After account links.coin x.block link.opening) inside

    between-has : (link : Link) → Has (between link) (Between account links.coin x.block link.opening)
    between-has link = within-has x.start CHALLENGE_WINDOW (Between account links.coin x.block link.opening) inside

    by_first : (o : Option Link) (b : Bool) (l : Option Link) (rest : Option (List RootCall)) → is_some o ≡ true
        → ((call : RootCall) → Has (Calls o b l rest) call → A) → A
    by_first None b l rest some gives = absurd (false≢true some)
    by_first (Some link) b l rest some gives = gives (After account links.coin x.block link.opening) (after-has link)

    by_second : (o : Option Link) (b : Bool) (l : Option Link) (rest : Option (List RootCall)) → b ≡ true
        → is_some l ≡ true → ((call : RootCall) → Has (Calls o b l rest) call → A) → A
    by_second (Some link) b l rest on some gives =
        gives (After account links.coin x.block link.opening) (after-has link)
    by_second None false l rest on some gives = absurd (false≢true on)
    by_second None true None rest on some gives = absurd (false≢true some)
    by_second None true (Some link) rest on some gives =
        gives (Between account links.coin x.block link.opening) (between-has link)

    by_third : (o : Option Link) (b : Bool) (l : Option Link) (calls : List RootCall) (call : RootCall)
        → Has calls call → ((call : RootCall) → Has (Calls o b l (Some calls)) call → A) → A
    by_third (Some link) b l calls call has gives =
        gives (After account links.coin x.block link.opening) (after-has link)
    by_third None true (Some link) calls call has gives =
        gives (Between account links.coin x.block link.opening) (between-has link)
    by_third None true None calls call has gives = gives call has
    by_third None false l calls call has gives = gives call has

  -- the answer to an open challenge in its window
  answer-has : (x : Exit) (ch : Challenge) (o : Option Link) → link_after links ch.block ≡ o → is_some o ≡ true
      → ch.answered ≡ false → now log < ch.at + RESPONSE_WINDOW
      → (link : Link) × Has (answer log account links (exit_view x) (challenge_view ch))
      (Respond account links.coin x.block ch.block link.opening)
  answer-has x ch None o_is some unanswered inside = absurd (false≢true some)
  answer-has x ch (Some link) o_is some unanswered inside =
      let call : RootCall = Respond account links.coin x.block ch.block link.opening in (
        link,
        grind (arith, within-has),
      )

-- a good guard of the coin at the tip, by which the calls have all that is due
pub record OffersDue (tests : Tests) (rules : Rules) (events : List Event) (c : ℕ) (made : CoinView) (e : ℕ)
    (offers : List RootCall) : Type 0 where
  pub account : ℕ
  pub links : Links
  pub good : IsGoodGuard tests rules (log_of events) (seen events c) c made e links
  pub shown_is : block_of (tip_shown links) ≡ e
  pub due : (call : RootCall) → Has (due_of (log_of events) account (record { links = links })) call
      → Has offers call

module _ (tests : Tests) (rules : Rules) (events : List Event) (c : ℕ) (made : CoinView) (e : ℕ)
    (offers : List RootCall) (g : OffersDue tests rules events c made e offers) (x : Exit)
    (there : Has (exits (log_of events)) x) (c_is : x.coin ≡ c) where
  abbrev pub Due : List RootCall
  Due = due_for (log_of events) g.account g.links (exit_view x)

  pub due-offered : (call : RootCall) → Has Due call → Has offers call
  unfolding exits_of
  due-offered call h =
      g.due call
      (has-in-flat_map (due_for (log_of events) g.account g.links) (exits_of (log_of events) g.links.coin) (exit_view x)
      call
      (has-mapped exit_view (filter (λ exit. exit.coin == g.links.coin) (exits (log_of events))) x
      (has-kept (λ (exit : Exit). exit.coin == g.links.coin) (exits (log_of events)) x there
      (eq-eqb x.coin g.links.coin (c_is ∙ sym g.good.coin_is)))) h)

  abbrev Planted : Bool
  Planted = nat_lt (tip_of g.links) x.parent && not (is_challenged (tip_of g.links) (map challenge_view x.challenges))

  abbrev Before_call : List RootCall
  Before_call = within (log_of events) x.start CHALLENGE_WINDOW
      (Before g.account g.links.coin x.block (tip_shown g.links))

  abbrev Answers : Option (List RootCall)
  Answers = if x.block == tip_of g.links
      then Some (flat_map (answer (log_of events) g.account g.links (exit_view x)) (map challenge_view x.challenges))
      else None

  abbrev Rest : Option (List RootCall)
  Rest = option_or (if Planted then Some Before_call else None) Answers

  unchallenged : is_none (challenge_at e x.challenges) ≡ true
      → is_challenged (tip_of g.links) (map challenge_view x.challenges) ≡ false
  unchallenged none = grind (arith, common_steps, any-map, none-any)

  -- what each due call gives, where one is due: in the window of an exit before the tip, of one of a later block with a
  -- parent before the tip, and of one with a parent after the tip that isn't challenged there
  module _ (A : Type 0) (inside : now (log_of events) < x.start + CHALLENGE_WINDOW)
      (gives : (call : RootCall) → Has Due call → A) where
    pub due-old : (o : Owner) → IsShownAt tests rules (log_of events) (seen events c) c made x.block o → x.block < e
        → A
    due-old o shown below =
        by_first (log_of events) g.account g.links A x inside (link_after g.links x.block)
        (nat_lt (tip_of g.links) x.block) (link_after g.links x.parent) Rest
        (g.good.reaches x.block o shown below) gives

    pub due-later : (o : Owner) → e < x.block
        → IsShownAt tests rules (log_of events) (seen events c) c made x.parent o → x.parent < e → A
    due-later o above shown below =
        by_second (log_of events) g.account g.links A x inside (link_after g.links x.block)
        (nat_lt (tip_of g.links) x.block) (link_after g.links x.parent) Rest
        (lt-ltb (tip_of g.links) x.block (omega (arith, above, g.good.tip_is)))
        (g.good.reaches x.parent o shown below) gives

    pub due-planted : e < x.parent → is_none (challenge_at e x.challenges) ≡ true → A
    due-planted above free =
        let on : Planted ≡ true = and_from _ _ (lt-ltb (tip_of g.links) x.parent (omega (arith, above, g.good.tip_is)))
        (not_from_false _ (unchallenged free)) in
        by_third (log_of events) g.account g.links A x inside (link_after g.links x.block)
        (nat_lt (tip_of g.links) x.block) (link_after g.links x.parent) Before_call
        (Before g.account g.links.coin x.block (tip_shown g.links))
        (within-has (log_of events) g.account g.links x.start CHALLENGE_WINDOW
        (Before g.account g.links.coin x.block (tip_shown g.links)) inside)
        (subst (λ (b : Bool). (call : RootCall) → Has (Calls (log_of events) g.account g.links A x inside
        (link_after g.links x.block) (nat_lt (tip_of g.links) x.block) (link_after g.links x.parent)
        (option_or (if b then Some Before_call else None) Answers)) call → A) on gives)

  -- to an open challenge before the tip, of the exit at the tip, the answer is due in its time
  pub due-answer : (ch : Challenge) (o : Owner) → x.block ≡ e → x.parent ≤ e → Has x.challenges ch
      → ch.answered ≡ false → IsShownAt tests rules (log_of events) (seen events c) c made ch.block o → ch.block < e
      → now (log_of events) < ch.at + RESPONSE_WINDOW
      → (link : Link) × Has Due (Respond g.account g.links.coin x.block ch.block link.opening)
  due-answer ch o at_tip low has unanswered shown below inside =
      let first : link_after g.links x.block ≡ None = ap (link_after g.links) at_tip ∙ g.good.none_after in
      let second : nat_lt (tip_of g.links) x.block ≡ false =
      le-ltb (tip_of g.links) x.block (omega (arith, at_tip, g.good.tip_is)) in
      let third : Planted ≡ false =
      ap (λ (b : Bool). b && not (is_challenged (tip_of g.links) (map challenge_view x.challenges)))
      (le-ltb (tip_of g.links) x.parent (omega (arith, low, g.good.tip_is))) in
      let fourth : x.block == tip_of g.links ≡ true =
      eq-eqb x.block (tip_of g.links) (at_tip ∙ sym g.good.tip_is) in
      let calls : List RootCall =
      flat_map (answer (log_of events) g.account g.links (exit_view x)) (map challenge_view x.challenges) in
      let all : Due ≡ calls = grind (arith) in
      let a = answer-has (log_of events) g.account g.links x ch (link_after g.links ch.block) refl
      (g.good.reaches ch.block o shown below) unanswered inside in
      let call : RootCall = Respond g.account g.links.coin x.block ch.block a.0.opening in (
        a.0,
        subst (λ (l : List RootCall). Has l call) (sym all)
            (has-in-flat_map (answer (log_of events) g.account g.links (exit_view x)) (map challenge_view x.challenges)
            (challenge_view ch) call (has-mapped challenge_view x.challenges ch has) a.1),
      )
