-- An accepted call keeps what holds of each exit of a held coin.
use Rattle.world_laws.proofs.Basics.{◌≡◌, ◌≢◌, ◌⊎◌, ℕ, ◌+◌, ◌<◌, ◌≤◌, ◌==◌, Bool, true, false, if◌then◌else◌, List, [], ◌∷◌, ◌++◌, Some, inl, inr, refl, sym, ap, ◌∙◌, subst, arith, rules, is_some, is_none, nat_lt, AllByRecursion, eqb-true, cases_Bool, cases_eq, cases_order, eq-eqb, ltb-true, and_parts, and_from, true≢false, false_from_ne_true, common_steps, some_same, none_some, all-changed, found-has, challenge-has}
use Rattle.world_laws.proofs.CoinWords.{Owner, RawOpening, Link, Shown, RootCall, Fund, Tick, Deposit, Commit, StartDeposit, StartSpend, After, Between, Before, Respond, Finish, CoinView, now, coin_at, coins, Challenge, Exit, exits, exit_at, block_of, spend_exit, without_exit, challenge_at, with_challenge, with_answer, new_challenge, new_coin, is_exit, CHALLENGE_WINDOW, RESPONSE_WINDOW, Tests, Rules, root_at, is_accepted, answer_to, is_parent_of, StartsDeposit, StartsSpend, Challenges, Responds, accepted_calls_show, exits_are_their_owners, responds_answer, all-append, all-filter, exits-distinct, shown_openings, openings_of_call, Has, has-left, has-right, all-has, only-found, is_challenged_at}
use Rattle.world_laws.proofs.NodeWords.{exit_block}
use Rattle.world_laws.proofs.WorldWords.{Event, log_of, coin_of_call, wallet_owner, bound_by, seen, forges_one, is_mine, starts_by, IsLegal, IfOf, AllWatched}
use Rattle.world_laws.proofs.HeldCoins.{walk-passes, place_of, IsShownAt, Deposited, Transferred, IsShownChallenge, IsBegun, OfDeposit, OfSpend, legal-log, legal-table, all_shown, parent_shown, SignsBy, HeldAt, shown_same}
use Rattle.plasma_tx.proofs.Answered.{new_challenges_are_open}
use Rattle.world_laws.proofs.DueCalls.{OffersDue, Due, due-offered, due-old, due-later, due-planted, due-answer}
use Rattle.world_laws.proofs.Watched.{IsSpend, is_spend, AtEvent, owner_is, tip_before, tip_unspent, new-watched, challenged-watched, answered-watched}

-- a coin's deposit block isn't 0
deposit-above : (log : List RootCall) (c : ℕ) (made : CoinView) → coin_at log c ≡ Some made → 0 < made.deposit
unfolding coin_at
deposit-above [] c made is = absurd (none_some made is)
deposit-above (Deposit account amount key ∷ log) c made is =
    elim (cases_eq c (coins log + 1)) [
      | inl last ↦
          let e : new_coin log account amount key ≡ made =
          some_same (new_coin log account amount key) made (simp (eq-eqb c (coins log + 1) last) at is) in
          omega (arith, ap (λ (m : CoinView). m.deposit) e)
      | inr other ↦ deposit-above log c made (simp (eq_off c (coins log + 1) other) at is)
    ]
  where
    eq_off : (a b : ℕ) → a ≢ b → (a == b) ≡ false
    eq_off a b apart = false_from_ne_true (a == b) (λ is. apart (eqb-true a b is))
deposit-above (call ∷ log) c made is = deposit-above log c made is

-- a standing exit is found by its name
stands : (log : List RootCall) (x : Exit) → Has (exits log) x → exit_at log x.coin x.block ≡ Some x
unfolding exit_at
stands log x h =
    only-found (is_exit x.coin x.block) (exits log) x (exits-distinct log x.coin x.block) h
    (and_from (x.coin == x.coin) (x.block == x.block) (eq-eqb x.coin x.coin refl) (eq-eqb x.block x.block refl))

-- a parent is before the exit
pub parent-below : (log : List RootCall) (made : CoinView) (exit : ℕ) (parent : Shown) → made.deposit < exit
    → is_parent_of log made exit parent ≡ true → block_of parent < exit
parent-below log made exit parent low fits = grind (arith, common_steps, eqb-true, ltb-true, and_parts)

-- what is seen of an exit of the held coin
pub record OfHeld (tests : Tests) (rules : Rules) (events : List Event) (c : ℕ) (made : CoinView) (x : Exit)
    : Type 0 where
  pub begun : IsBegun tests rules (log_of events) (seen events c) c made x.block x.parent x.owner x.parent_owner
  pub challenges : AllByRecursion
      (IsShownChallenge tests rules (log_of events) (seen events c) c made x.parent x.start) x.challenges
  pub account : x.account ≡ x.owner.account

pub of_held : (tests : Tests) (rules : Rules) (events : List Event) (w c e : ℕ) (me : Owner)
    → IsLegal tests rules events → (held : HeldAt tests rules events w c e me) → (x : Exit)
    → Has (exits (log_of events)) x → x.coin ≡ c → OfHeld tests rules events c held.made x
of_held tests rules events w c e me legal held x there c_is =
    let log : List RootCall = log_of events in
    let s = all_shown tests rules events legal x there in
    let same : s.made ≡ held.made =
    some_same s.made held.made (sym s.made_is ∙ ap (coin_at log) c_is ∙ held.made_is) in
    record {
      begun = subst (λ k. IsBegun tests rules log (seen events c) c k x.block x.parent x.owner x.parent_owner) same
          (subst (λ k. IsBegun tests rules log (seen events k) k s.made x.block x.parent x.owner x.parent_owner) c_is
          s.begun);
      challenges = grind (arith);
      account = exits_are_their_owners rules log x.coin x.block x
          (legal-table tests rules log (legal-log tests rules events legal)) (stands log x there);
    }

-- what an accepted tick keeps
abbrev pub KeepsTick : ℕ → Owner → ℕ → List RootCall → RootCall → Type 0
KeepsTick c me e log (Tick time) = AllWatched c me e (now log) (exits log) → AllWatched c me e time (exits log)
KeepsTick c me e log call = Unit {0}

-- the openings of a call of the coin
pub own-openings : (k c : ℕ) (os : List RawOpening) (o : RawOpening) → k ≡ c → Has os o
    → Has (if k == c then os else []) o
own-openings k c os o same h = subst (λ (b : Bool). Has (if b then os else []) o) (sym (eq-eqb k c same)) h

module _ (tests : Tests) (rules : Rules) (signs : SignsBy tests) (events : List Event) (w c e : ℕ)
    (legal : IsLegal tests rules events) (more : List RawOpening) (at : AtEvent tests rules events w c e more) where
  abbrev Log : List RootCall
  Log = log_of events

  abbrev Watched : List Exit → Type 0
  Watched xs = AllWatched c at.hold.me e (now (log_of events)) xs

  pub e-positive : 0 < e
  e-positive = grind (arith, common_steps, deposit-above, walk-passes, place_of)

  mine-owner : (x : Exit) → x.account ≡ x.owner.account → x.owner ≡ at.hold.me → is_mine at.hold.me x ≡ false → ⊥
  mine-owner x account same other =
      true≢false (sym (eq-eqb x.account at.hold.me.account (account ∙ ap (λ (o : Owner). o.account) same)) ∙ other)

  pub owner-before : (owner : Owner) (n : ℕ)
      → IsShownAt tests rules (log_of events) (seen events c) c at.held.made n owner → n ≡ e → owner ≡ at.hold.me
  owner-before owner n shown is =
      shown_same tests rules (log_of events) (seen events c) c at.held.made at.one_before e owner at.hold.me
      (subst (λ k. IsShownAt tests rules (log_of events) (seen events c) c at.held.made k owner) is shown)
      (tip_before tests rules signs events w c e more at)

  -- Another's exit is challenged at the tip while its window is open, or a call is due for it. What each due call gives
  -- is given, if only because the exit would be at the tip.
  pub others-due : (offers : List RootCall) (g : OffersDue tests rules events c at.held.made e offers) (x : Exit)
      (there : Has (exits (log_of events)) x) (c_is : x.coin ≡ c) → x.parent ≢ e → is_mine at.hold.me x ≡ false
      → now (log_of events) < x.start + CHALLENGE_WINDOW → (A : Type 0)
      → ((call : RootCall) → Has (Due tests rules events c at.held.made e offers g x there c_is) call
      → A ⊎ (x.block ≡ e))
      → A ⊎ (is_none (challenge_at e x.challenges) ≡ false)
  others-due offers g x there c_is unspent other inside A gives = by_begun of.begun
    where
      of : OfHeld tests rules events c at.held.made x
      of = of_held tests rules events w c e at.hold.me legal at.held x there c_is

      apart-from : x.block ≢ e → A ⊎ (x.block ≡ e) → A ⊎ (is_none (challenge_at e x.challenges) ≡ false)
      apart-from apart (inl given) = inl given
      apart-from apart (inr same) = absurd (apart same)

      old : (o : Owner) → IsShownAt tests rules (log_of events) (seen events c) c at.held.made x.block o → x.block < e
          → A ⊎ (is_none (challenge_at e x.challenges) ≡ false)
      old o shown below =
          apart-from (λ same. absurd (omega (arith, same, below)))
          (due-old tests rules events c at.held.made e offers g x there c_is (A ⊎ (x.block ≡ e)) inside gives o shown
          below)

      by_begun : IsBegun tests rules (log_of events) (seen events c) c at.held.made x.block x.parent x.owner
          x.parent_owner → A ⊎ (is_none (challenge_at e x.challenges) ≡ false)
      by_begun (OfDeposit block parent owner) =
          let up = walk-passes tests rules (log_of events) c at.held.made.deposit (place_of at.held.made)
          at.held.openings (record { block = e; owner = at.hold.me }) at.held.known.walk in
          elim (cases_eq x.block e) [
            | inl same ↦ absurd (mine-owner x of.account (owner-before x.owner x.block (Deposited block owner) same)
                other)
            | inr apart ↦ old x.owner (Deposited block owner) (omega (arith, up, block))
          ]
      by_begun (OfSpend s opened low parent shown below) =
          elim (cases_order x.block e) [
            | inl same ↦ absurd (mine-owner x of.account
                (owner-before x.owner x.block (Transferred s opened low) same) other)
            | inr apart ↦ elim apart [
              | inl under ↦ old x.owner (Transferred s opened low) under
              | inr over ↦ elim (cases_order x.parent e) [
                | inl same ↦ absurd (unspent same)
                | inr elsewhere ↦ elim elsewhere [
                  | inl before ↦ apart-from (λ same. absurd (omega (arith, same, over)))
                      (due-later tests rules events c at.held.made e offers g x there c_is (A ⊎ (x.block ≡ e)) inside
                      gives x.parent_owner over shown before)
                  | inr after ↦ elim (cases_Bool (is_none (challenge_at e x.challenges))) [
                    | inl free ↦ apart-from (λ same. absurd (omega (arith, same, over)))
                        (due-planted tests rules events c at.held.made e offers g x there c_is (A ⊎ (x.block ≡ e))
                        inside gives after free)
                    | inr challenged ↦ inr challenged
                  ]
                ]
              ]
            ]
          ]

  parent-le : (x : Exit) → OfHeld tests rules events c at.held.made x → x.block ≡ e → x.parent ≤ e
  parent-le x of at_tip = grind (arith, common_steps)

  -- the answer to an open challenge of the own exit is due in its time
  pub mine-due : (offers : List RootCall) (g : OffersDue tests rules events c at.held.made e offers) (x : Exit)
      (there : Has (exits (log_of events)) x) (c_is : x.coin ≡ c) → x.block ≡ e → (ch : Challenge)
      → Has x.challenges ch → ch.answered ≡ false → now (log_of events) < ch.at + RESPONSE_WINDOW
      → (link : Link) × Has offers (Respond g.account g.links.coin x.block ch.block link.opening)
  mine-due offers g x there c_is at_tip ch has unanswered inside =
      let of = of_held tests rules events w c e at.hold.me legal at.held x there c_is in
      let k = all-has
      (IsShownChallenge tests rules (log_of events) (seen events c) c at.held.made x.parent x.start) x.challenges ch
      of.challenges has in
      let low = parent-le x of at_tip in
      let d = due-answer tests rules events c at.held.made e offers g x there c_is ch ch.owner at_tip low has unanswered
      k.shown (omega (arith, k.below, low)) inside in (
        d.0,
        due-offered tests rules events c at.held.made e offers g x there c_is
            (Respond g.account g.links.coin x.block ch.block d.0.opening) d.1,
      )

  -- a start of a deposit's exit
  keeps-StartDeposit : (account k block : ℕ) → (account == at.hold.me.account ≡ true → k ≡ c → block ≡ e)
      → StartsDeposit (log_of events) account k block
      → AllWatched c at.hold.me e (now (log_of events)) (exits (log_of events))
      → AllWatched c at.hold.me e (now (log_of events)) (exits (StartDeposit account k block ∷ log_of events))
  unfolding exits
  keeps-StartDeposit account k block own is all =
      grind (arith, common_steps, all-append, all-filter, new-watched, e-positive)

  -- a start of a transfer's exit
  keeps-StartSpend : (account k : ℕ) (parent : Shown) (exit : RawOpening)
      → (account == at.hold.me.account ≡ true → k ≡ c → exit.block ≡ e)
      → ((o : RawOpening) → Has (openings_of_call c (StartSpend account k parent exit)) o → Has more o)
      → forges_one rules.tag (wallet_owner events w) (bound_by events w) c
      (openings_of_call c (StartSpend account k parent exit)) ≡ false
      → StartsSpend tests rules (log_of events) account k parent exit
      → AllWatched c at.hold.me e (now (log_of events)) (exits (log_of events))
      → AllWatched c at.hold.me e (now (log_of events)) (exits (StartSpend account k parent exit ∷ log_of events))
  unfolding exits
  keeps-StartSpend account k parent exit own has none is all =
      all-append (IfOf c at.hold.me e (now (log_of events))) (without_exit k exit.block (exits (log_of events)))
      (spend_exit (log_of events) account k parent exit)
      (grind (arith, common_steps, all-filter))
      (grind (arith, common_steps, new-watched, spends_not))
    where
      spends_not : k ≡ c → block_of parent ≡ e → ⊥
      spends_not c_is at_tip =
          let log : List RootCall = log_of events in
          let os : List RawOpening = shown_openings parent ++ exit ∷ [] in
          let same : is.coin ≡ at.held.made =
          some_same is.coin at.held.made (sym is.there ∙ ap (coin_at log) c_is ∙ at.held.made_is) in
          let shown = parent_shown tests rules log more account k parent exit is (λ o h.
          has o (own-openings k c os o c_is (has-left (shown_openings parent) (exit ∷ []) o h))) in
          let owner = owner_is tests rules signs events w c e more at (block_of parent) is.parent_owner
          (subst (λ x. IsShownAt tests rules log more c x (block_of parent) is.parent_owner) same
          (subst (λ x. IsShownAt tests rules log more x is.coin (block_of parent) is.parent_owner) c_is shown))
          at_tip in
          let low : is.coin.deposit < exit.block = ltb-true is.coin.deposit exit.block
          (and_parts (is_some (root_at log exit.block)) (nat_lt is.coin.deposit exit.block) is.committed).1 in
          let here = own-openings k c os exit c_is (has-right (shown_openings parent) (exit ∷ []) exit (inl refl)) in
          let above = parent-below log is.coin exit.block parent low is.parent_fits in
          let spend = is_spend tests rules log k exit is.tx (block_of parent) is.parent_owner is.shown is.child above
          is.signed in
          tip_unspent tests rules signs events w c e more at (openings_of_call c (StartSpend account k parent exit))
          none exit here (has exit here) (block_of parent) is.parent_owner
          (subst (λ x. IsSpend tests rules log x exit (block_of parent) is.parent_owner) c_is spend) at_tip owner

  -- a challenge
  keeps-Before : (account k f : ℕ) (shown : Shown) → Challenges tests rules (log_of events) account k f shown
      → AllWatched c at.hold.me e (now (log_of events)) (exits (log_of events))
      → AllWatched c at.hold.me e (now (log_of events)) (exits (Before account k f shown ∷ log_of events))
  unfolding exits
  keeps-Before account k f shown is all =
      let log : List RootCall = log_of events in
      let new : Challenge = new_challenge log account k f shown in
      let by = responds_answer rules log (legal-table tests rules log (legal-log tests rules events legal)) in
      all-changed (IfOf c at.hold.me e (now log)) log k f (with_challenge new)
      (λ x found was c_is.
      let same : is.exit ≡ x = some_same is.exit x (sym is.stands ∙ found) in
      let none : is_some (challenge_at (block_of shown) x.challenges) ≡ false =
      ap (λ (y : Exit). is_some (challenge_at (block_of shown) y.challenges)) (sym same) ∙ ap is_some is.none_there in
      let unanswered : new.answered ≡ false = new_challenges_are_open log k f (block_of shown) by
      (ap is_some found) (ap (is_challenged_at (block_of shown)) found ∙ none) in
      let kept = challenged-watched c at.hold.me e (now log) x new none unanswered refl (was (named x new none c_is)) in
      kept)
      all
    where
      named : (x : Exit) (new : Challenge) → is_some (challenge_at new.block x.challenges) ≡ false
          → (with_challenge new x).coin ≡ c → x.coin ≡ c
      named x new none c_is = grind (arith, common_steps)

  -- an answer
  keeps-Respond : (account k f challenged : ℕ) (spend : RawOpening)
      → ((o : RawOpening) → Has (openings_of_call c (Respond account k f challenged spend)) o → Has more o)
      → forges_one rules.tag (wallet_owner events w) (bound_by events w) c
      (openings_of_call c (Respond account k f challenged spend)) ≡ false
      → Responds tests rules (log_of events) k f challenged spend
      → AllWatched c at.hold.me e (now (log_of events)) (exits (log_of events))
      → AllWatched c at.hold.me e (now (log_of events)) (exits (Respond account k f challenged spend ∷ log_of events))
  unfolding exits
  keeps-Respond account k f challenged spend has none is all =
      let log : List RootCall = log_of events in
      all-changed (IfOf c at.hold.me e (now log)) log k f (with_answer challenged)
      (λ x found was c_is.
      let same : is.exit ≡ x = some_same is.exit x (sym is.stands ∙ found) in
      let place = found-has log k f x found in
      let k_is : k ≡ c = sym place.1 ∙ c_is in
      let of = of_held tests rules events w c e at.hold.me legal at.held x place.0 c_is in
      let h = challenge-has challenged is.exit.challenges is.challenge is.there in
      let there : Has x.challenges is.challenge = subst (λ (y : Exit). Has y.challenges is.challenge) same h.0 in
      let known = all-has (IsShownChallenge tests rules log (seen events c) c at.held.made x.parent x.start)
      x.challenges is.challenge of.challenges there in
      let spent = is_spend tests rules log k spend is.tx is.challenge.block is.challenge.owner is.shown is.child
      is.later is.signed in
      let here = own-openings k c (spend ∷ []) spend k_is (inl refl) in
      let apart : challenged ≢ e = λ at_tip.
      let ch_tip : is.challenge.block ≡ e = h.1 ∙ at_tip in
      tip_unspent tests rules signs events w c e more at (openings_of_call c (Respond account k f challenged spend))
      none spend here (has spend here) is.challenge.block is.challenge.owner
      (subst (λ z. IsSpend tests rules log z spend is.challenge.block is.challenge.owner) k_is spent) ch_tip
      (owner-before is.challenge.owner is.challenge.block known.shown ch_tip) in
      answered-watched c at.hold.me e (now log) x challenged apart (was c_is))
      all

  -- every accepted call
  pub keeps : (call : RootCall)
      → (starts_by at.hold.me.account call ≡ true → coin_of_call call ≡ c → exit_block call ≡ e)
      → ((o : RawOpening) → Has (openings_of_call c call) o → Has more o)
      → forges_one rules.tag (wallet_owner events w) (bound_by events w) c (openings_of_call c call) ≡ false
      → KeepsTick c at.hold.me e (log_of events) call
      → is_accepted (answer_to tests rules (log_of events) call) ≡ true
      → AllWatched c at.hold.me e (now (log_of events)) (exits (log_of events))
      → AllWatched c at.hold.me e (now (call ∷ log_of events)) (exits (call ∷ log_of events))
  unfolding exits now
  keeps (Fund account amount) own has none ticks is all = all
  keeps (Tick time) own has none ticks is all = ticks all
  keeps (Deposit account amount key) own has none ticks is all = all
  keeps (Commit account root) own has none ticks is all = all
  keeps (StartDeposit account k block) own has none ticks is all =
      keeps-StartDeposit account k block own
      (accepted_calls_show tests rules (log_of events) (StartDeposit account k block) is) all
  keeps (StartSpend account k parent exit) own has none ticks is all =
      keeps-StartSpend account k parent exit own has none
      (accepted_calls_show tests rules (log_of events) (StartSpend account k parent exit) is) all
  keeps (After account k f spend) own has none ticks is all = grind (arith, common_steps, all-filter)
  keeps (Between account k f spend) own has none ticks is all = grind (arith, common_steps, all-filter)
  keeps (Before account k f shown) own has none ticks is all =
      keeps-Before account k f shown
      (accepted_calls_show tests rules (log_of events) (Before account k f shown) is) all
  keeps (Respond account k f challenged spend) own has none ticks is all =
      keeps-Respond account k f challenged spend has none
      (accepted_calls_show tests rules (log_of events) (Respond account k f challenged spend) is) all
  keeps (Finish account k f) own has none ticks is all = grind (arith, common_steps, all-filter)
