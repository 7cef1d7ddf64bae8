-- The challenges of a standing exit are what the calls since its start say.
use Rattle.plasma_tx.proofs.Words.{◌≡◌, ℕ, ◌==◌, ◌&&◌, ◌||◌, Bool, true, false, if◌then◌else◌, List, [], ◌∷◌, map, Option, Some, None, refl, sym, ap, ◌∙◌, subst, find, arith, option_map, option_or, eqb-true, and_parts, common_steps, Owner, RootCall, StartDeposit, StartSpend, After, Between, Before, Respond, Finish, Challenge, Exit, is_exit, challenge_at, deposit_exit, spend_exit, with_challenge, with_answer, with_answer_at, new_challenge, block_of, owner_of, now, exits, exit_at, without_exit, responses, without_responses, is_responded, first_before, was_responded, with_answered, ChallengesStand}
use Rattle.plasma_tx.proofs.Names.{find-without, find-started, find-changed, responded-without, responded-push, challenge_at-push, challenge_at-answered, challenge-at, some_same, eqb-flip, option_or-none}
use Rattle.plasma_tx.proofs.Stands.{same-challenged}

-- the challenge at the block of an exit, if it stands, and whether a response names the block
abbrev Challenged : ℕ → Option Exit → Bool → Bool → Option Challenge → Type 0
Challenged b found responded was before =
    (exit : Exit) → found ≡ Some exit
    → (challenge_at b exit.challenges ≡ option_map (with_answered was) before) × (responded ≡ was)

started : (b : ℕ) (t : Bool) (new : Exit) (found : Option Exit) (responded was : Bool) (before : Option Challenge)
    → new.challenges ≡ []
    → Challenged b found responded was before
    → Challenged b (if t then Some new else found) (if t then false else responded) (if t then false else was)
    (if t then None else before)
started b true new found responded was before bare h exit is =
    (ap (challenge_at b) (ap (λ (x : Exit). x.challenges) (sym (some_same new exit is)) ∙ bare), refl)
started b false new found responded was before bare h exit is = h exit is

ended : (b : ℕ) (t : Bool) (found : Option Exit) (responded was : Bool) (before : Option Challenge)
    → Challenged b found responded was before
    → Challenged b (if t then None else found) (if t then false else responded) was before
ended b true found responded was before h exit is = absurd (cc is)
ended b false found responded was before h exit is = h exit is

-- a later Before at the block changes nothing, and a first one makes the challenge
challenged : (b n : ℕ) (x : Exit) (new first : Challenge) (was : Bool) (before : Option Challenge) → new.block ≡ n
    → challenge_at b x.challenges ≡ option_map (with_answered was) before
    → ((n == b) ≡ true → new ≡ with_answered was first)
    → challenge_at b (with_challenge new x).challenges ≡ option_map (with_answered was)
    (option_or before (if n == b then Some first else None))
challenged b n x new first was before at is makes =
    grind (arith, common_steps, eqb-true, option_or-none, challenge_at-push) steps 20000

-- a response to the challenge at n
answered : (b n : ℕ) (challenges : List Challenge) (was : Bool) (before : Option Challenge)
    → challenge_at b challenges ≡ option_map (with_answered was) before
    → challenge_at b (map (with_answer_at n) challenges) ≡ option_map (with_answered ((n == b) || was)) before
answered b n challenges was before is =
    grind (arith, common_steps, challenge_at-answered, eqb-true, challenge-at, eqb-flip) steps 20000

none_more : (b : ℕ) (found : Option Exit) (responded was : Bool) (before : Option Challenge)
    → Challenged b found responded was before
    → Challenged b found responded was (option_or before None)
none_more b found responded was before h = subst (λ o. Challenged b found responded was o)
    (sym (option_or-none before)) h

taken_out : (c e b k m : ℕ) (log : List RootCall) (was : Bool) (before : Option Challenge)
    → Challenged b (find (is_exit c e) (exits log)) (is_responded c e b (responses log)) was before
    → Challenged b (find (is_exit c e) (without_exit k m (exits log)))
    (is_responded c e b (without_responses k m (responses log))) was (option_or before None)
taken_out c e b k m log was before h =
    subst (λ (p : Option Exit × Bool). Challenged b p.0 p.1 was (option_or before None))
    (λ i. (sym (find-without c e k m (exits log)) i, sym (responded-without c e b k m (responses log)) i))
    (none_more b _ _ _ _
    (ended b ((k == c) && (m == e)) (find (is_exit c e) (exits log))
    (is_responded c e b (responses log)) was before h))

module _ (c e b : ℕ) where
  by_before : (t : Bool) (n : ℕ) (found : Option Exit) (new first : Challenge) (responded was : Bool)
      (before : Option Challenge) → new.block ≡ n
      → (t ≡ true → (n == b) ≡ true → responded ≡ was → new ≡ with_answered was first)
      → Challenged b found responded was before
      → Challenged b (if t then option_map (with_challenge new) found else found) responded was
      (option_or before (if t && (n == b) then Some first else None))
  by_before t n found new first responded was before at makes h exit is =
      grind (arith, common_steps, some_same, challenged, none_more) steps 20000

  by_respond : (t : Bool) (n : ℕ) (found : Option Exit) (responded was : Bool) (before : Option Challenge)
      → Challenged b found responded was before
      → Challenged b (if t then option_map (with_answer n) found else found) ((t && (n == b)) || responded)
      ((t && (n == b)) || was) before
  by_respond true n None responded was before h exit is = absurd (cc is)
  by_respond true n (Some x) responded was before h exit is =
      let old = h x refl in grind (arith, common_steps, some_same, answered) steps 20000
  by_respond false n found responded was before h exit is = h exit is

  -- the first Before at the block is one by this name
  new_is : (log : List RootCall) (account k m n : ℕ) (owner : Owner) (responded was : Bool) (t : Bool)
      → t ≡ ((k == c) && (m == e)) → t ≡ true → (n == b) ≡ true
      → responded ≡ is_responded c e b (responses log) → responded ≡ was
      → record {
        block = n;
        owner = owner;
        by = account;
        at = now log;
        answered =
            is_responded k m n (responses log);
      } ≡ with_answered was
      (record { block = b; owner = owner; by = account; at = now log; answered = false })
  new_is log account k m n owner responded was t named is same read kept =
      grind (arith, common_steps, and_parts, eqb-true, answered) steps 20000

  stand : (log : List RootCall) → Challenged b (find (is_exit c e) (exits log)) (is_responded c e b (responses log))
      (was_responded log c e b) (first_before log c e b)
  unfolding exits responses was_responded first_before
  stand [] = λ exit is. absurd (cc is)
  stand (StartDeposit account k m ∷ log) =
      let new : Exit = deposit_exit log account k m in
      subst (λ (p : Option Exit × Bool). Challenged b p.0 p.1
      (if (k == c) && (m == e) then false else was_responded log c e b)
      (if (k == c) && (m == e) then None else option_or (first_before log c e b) None))
      (λ i. (sym (find-started c e new (exits log)) i, sym (responded-without c e b k m (responses log)) i))
      (started b ((k == c) && (m == e)) new (find (is_exit c e) (exits log)) (is_responded c e b (responses log))
      (was_responded log c e b) (option_or (first_before log c e b) None) refl (none_more b _ _ _ _ (stand log)))
  stand (StartSpend account k parent exit ∷ log) =
      let new : Exit = spend_exit log account k parent exit in
      subst (λ (p : Option Exit × Bool). Challenged b p.0 p.1
      (if (k == c) && (exit.block == e) then false else was_responded log c e b)
      (if (k == c) && (exit.block == e) then None else option_or (first_before log c e b) None))
      (λ i. (sym (find-started c e new (exits log)) i, sym (responded-without c e b k exit.block (responses log)) i))
      (started b ((k == c) && (exit.block == e)) new (find (is_exit c e) (exits log))
      (is_responded c e b (responses log)) (was_responded log c e b)
      (option_or (first_before log c e b) None) refl (none_more b _ _ _ _ (stand log)))
  stand (After account k m spend ∷ log) = taken_out c e b k m log (was_responded log c e b) (first_before log c e b)
      (stand log)
  stand (Between account k m spend ∷ log) = taken_out c e b k m log (was_responded log c e b)
      (first_before log c e b) (stand log)
  stand (Finish account k m ∷ log) = taken_out c e b k m log (was_responded log c e b) (first_before log c e b)
      (stand log)
  stand (Before account k m shown ∷ log) =
      let new : Challenge = new_challenge log account k m shown in
      let n : ℕ = block_of shown in
      let first : Challenge =
      record { block = b; owner = owner_of log k shown; by = account; at = now log; answered = false } in
      subst (λ o. Challenged b o (is_responded c e b (responses log)) (was_responded log c e b)
      (option_or (first_before log c e b) (if ((k == c) && (m == e)) && (n == b) then Some first else None)))
      (sym (find-changed c e k m (with_challenge new) (λ x. ap (λ (y : Exit). y.coin) (same-challenged new x))
      (λ x. ap (λ (y : Exit). y.block) (same-challenged new x)) (exits log)))
      (by_before ((k == c) && (m == e)) n (find (is_exit c e) (exits log)) new first
      (is_responded c e b (responses log)) (was_responded log c e b) (first_before log c e b) refl
      (grind (arith, common_steps, new_is) steps 20000) (stand log))
  stand (Respond account k m challenged spend ∷ log) =
      subst (λ (p : Option Exit × Bool). Challenged b p.0 p.1
      (((k == c) && (m == e) && (challenged == b)) || was_responded log c e b)
      (option_or (first_before log c e b) None))
      (grind (arith, common_steps, find-changed, challenged, responded-push) steps 20000)
      (none_more b _ _ _ _
      (by_respond ((k == c) && (m == e)) challenged (find (is_exit c e) (exits log))
      (is_responded c e b (responses log)) (was_responded log c e b) (first_before log c e b) (stand log)))
  stand (call ∷ log) = none_more b _ _ _ _ (stand log)

pub challenges_stand : ChallengesStand
unfolding exit_at
challenges_stand log c e b exit is = (stand c e b log exit is).0

-- an exit that stands is challenged where there was a Before
pub challenges_are : (log : List RootCall) (c e b : ℕ) (exit : Exit) → find (is_exit c e) (exits log) ≡ Some exit
    → challenge_at b exit.challenges ≡ option_map (with_answered (was_responded log c e b)) (first_before log c e b)
challenges_are log c e b exit is = (stand c e b log exit is).0
