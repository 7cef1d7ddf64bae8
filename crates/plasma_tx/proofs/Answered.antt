-- Where each Respond answered a challenge, an exit that isn't challenged at a block has no response there.
use Rattle.plasma_tx.proofs.Words.{◌≡◌, ℕ, ◌==◌, ◌&&◌, ◌||◌, Bool, true, false, if◌then◌else◌, List, [], ◌∷◌, Option, Some, None, refl, sym, ap, subst, find, arith, is_some, option_map, cases_Bool, eqb-true, and_parts, both_ways, common_steps, RootCall, StartDeposit, StartSpend, After, Between, Before, Respond, Finish, Challenge, Exit, is_exit, without_exit, challenge_at, deposit_exit, spend_exit, with_challenge, with_answer, new_challenge, exits, exit_at, responses, without_responses, is_responded, is_challenged_at, RespondsAnswer, NewChallengesAreOpen}
use Rattle.plasma_tx.proofs.Names.{find-without, find-started, find-changed, responded-without, responded-push, challenge_at-push, challenge_at-answered}
use Rattle.plasma_tx.proofs.Stands.{same-challenged}

-- what was responded to is challenged, where the exit stands
abbrev Founded : ℕ → Option Exit → Bool → Type 0
Founded b found responded = is_some found ≡ true → responded ≡ true → is_challenged_at b found ≡ true

started : (b : ℕ) (t : Bool) (new : Exit) (found : Option Exit) (responded : Bool) → Founded b found responded
    → Founded b (if t then Some new else found) (if t then false else responded)
started b true new found responded h stands wrong = absurd (cc wrong)
started b false new found responded h stands is = h stands is

ended : (b : ℕ) (t : Bool) (found : Option Exit) (responded : Bool) → Founded b found responded
    → Founded b (if t then None else found) (if t then false else responded)
ended b true found responded h wrong is = absurd (cc wrong)
ended b false found responded h stands is = h stands is

taken_out : (c e b k m : ℕ) (log : List RootCall) → Founded b (find (is_exit c e) (exits log))
    (is_responded c e b (responses log))
    → Founded b (find (is_exit c e) (without_exit k m (exits log)))
    (is_responded c e b (without_responses k m (responses log)))
taken_out c e b k m log h = grind (arith, common_steps, find-without, responded-without, ended) steps 20000

-- one more challenge keeps those that there are
challenged : (b : ℕ) (new : Challenge) (x : Exit) → is_some (challenge_at b x.challenges) ≡ true
    → is_some (challenge_at b (with_challenge new x).challenges) ≡ true
challenged b new x is = grind (arith, common_steps, challenge_at-push) steps 20000

answered : (b n : ℕ) (x : Exit) → is_some (challenge_at b (with_answer n x).challenges)
    ≡ is_some (challenge_at b x.challenges)
answered b n x = grind (arith, common_steps, challenge_at-answered) steps 20000

by_before : (b : ℕ) (t : Bool) (new : Challenge) (found : Option Exit) (responded : Bool) → Founded b found responded
    → Founded b (if t then option_map (with_challenge new) found else found) responded
by_before b true new None responded h wrong is = absurd (cc wrong)
by_before b true new (Some x) responded h stands is = challenged b new x (h refl is)
by_before b false new found responded h stands is = h stands is

by_respond : (b n : ℕ) (t : Bool) (found : Option Exit) (responded : Bool)
    → (t ≡ true → is_challenged_at n found ≡ true) → Founded b found responded
    → Founded b (if t then option_map (with_answer n) found else found) ((t && (n == b)) || responded)
by_respond b n true None responded there h wrong is = absurd (cc wrong)
by_respond b n true (Some x) responded there h stands is = grind (arith, common_steps, answered, eqb-true) steps 20000
by_respond b n false found responded there h stands is = h stands is

module _ (c e b : ℕ) where
  -- the exit that is responded to, by its other name
  same_exit : (log : List RootCall) (k m n : ℕ) → is_challenged_at n (find (is_exit k m) (exits log)) ≡ true
      → ((k == c) && (m == e)) ≡ true → is_challenged_at n (find (is_exit c e) (exits log)) ≡ true
  same_exit log k m n there is = grind (arith, common_steps, and_parts, eqb-true) steps 20000

  found : (log : List RootCall) → RespondsAnswer log → Founded b (find (is_exit c e) (exits log))
      (is_responded c e b (responses log))
  unfolding exits responses RespondsAnswer exit_at
  found [] legal = λ wrong is. absurd (cc wrong)
  found (StartDeposit account k m ∷ log) legal =
      let new : Exit = deposit_exit log account k m in
      subst (λ (p : Option Exit × Bool). Founded b p.0 p.1)
      (λ i. (sym (find-started c e new (exits log)) i, sym (responded-without c e b k m (responses log)) i))
      (grind (arith, common_steps, found log legal, started) steps 20000)
  found (StartSpend account k parent exit ∷ log) legal =
      let new : Exit = spend_exit log account k parent exit in
      subst (λ (p : Option Exit × Bool). Founded b p.0 p.1)
      (λ i. (
        sym (find-started c e new (exits log)) i,
        sym
            (responded-without c e b k exit.block (responses log)) i,
      ))
      (grind (arith, common_steps, found log legal, started) steps 20000)
  found (After account k m spend ∷ log) legal = taken_out c e b k m log (found log legal)
  found (Between account k m spend ∷ log) legal = taken_out c e b k m log (found log legal)
  found (Finish account k m ∷ log) legal = taken_out c e b k m log (found log legal)
  found (Before account k m shown ∷ log) legal =
      let new : Challenge = new_challenge log account k m shown in
      subst (λ o. Founded b o (is_responded c e b (responses log)))
      (sym (find-changed c e k m (with_challenge new) (λ x. ap (λ (y : Exit). y.coin) (same-challenged new x))
      (λ x. ap (λ (y : Exit). y.block) (same-challenged new x)) (exits log)))
      (grind (arith, common_steps, found log legal, by_before) steps 20000)
  found (Respond account k m n spend ∷ log) legal =
      subst (λ (p : Option Exit × Bool). Founded b p.0 p.1)
      (λ i. (
        sym (find-changed c e k m (with_answer n) (λ x. refl) (λ x. refl) (exits log)) i,
        sym
            (responded-push c e b k m n (responses log)) i,
      ))
      (grind (arith, common_steps, found log legal.1, by_respond, same_exit) steps 20000)
  found (call ∷ log) legal = found log legal

pub new_challenges_are_open : NewChallengesAreOpen
unfolding exit_at
new_challenges_are_open log c e b legal stands none =
    grind (arith, common_steps, cases_Bool, both_ways, found) steps 20000
