-- The rows of the table once their first causes are found not to hold.
use Rattle.root_contract.proofs.Words.{◌≡◌, ℕ, ◌==◌, true, false, List, Option, Some, Result, Err, arith, nat_le, common_steps, CHALLENGE_WINDOW, RESPONSE_WINDOW, Owner, Shown, RootCall, CoinView, Answer, Challenge, Exit, challenge_at, block_of, is_withdrawn, Tests, decided, is_over, is_committed_after, is_committed_between, is_parent_of, where_coin, where_exit, start_spend_causes, where_challenged, after_causes, between_causes, respond_causes, Stop, Judges, spend_causes}
use Rattle.plasma_tx.specs.declared.signed_tx.SignedTx.{SignedTx}

-- why a call isn't carried out says the same whatever else would have been handed out
pub judges-err : (A B : Type 0) (answer : Answer) (effect : A → Answer) (other : B → Answer) (why : Stop)
    → Judges answer effect (Err why) → Judges answer other (Err why)
judges-err _ _ answer effect other why is = grind (arith, common_steps) steps 20000

pub after-tail : (tests : Tests) (log : List RootCall) (found : Option Exit) (exit : Exit) (block : ℕ)
    (spend : Option SignedTx) (effect : Answer) → Some exit ≡ found → is_over log exit.start CHALLENGE_WINDOW ≡ false
    → is_committed_after log exit.block block ≡ true
    → where_exit found (λ x. decided (after_causes tests log x block spend) effect)
    ≡ decided (spend_causes tests exit.block exit.owner spend) effect
after-tail tests log found exit block spend effect is in_time later = rw (← is, in_time, later)

pub between-tail : (tests : Tests) (log : List RootCall) (found : Option Exit) (exit : Exit) (block : ℕ)
    (spend : Option SignedTx) (effect : Answer) → Some exit ≡ found → is_over log exit.start CHALLENGE_WINDOW ≡ false
    → (exit.parent == 0) ≡ false → is_committed_between log exit.parent exit.block block ≡ true
    → where_exit found (λ x. decided (between_causes tests log x block spend) effect)
    ≡ decided (spend_causes tests exit.parent exit.parent_owner spend) effect
between-tail tests log found exit block spend effect is in_time parent within =
    rw (← is, in_time, parent, within)

pub respond-tail : (tests : Tests) (log : List RootCall) (found : Option Exit) (exit : Exit) (challenged block : ℕ)
    (challenge : Challenge) (spend : Option SignedTx) (effect : Answer) → Some exit ≡ found
    → Some challenge ≡ challenge_at challenged exit.challenges → challenge.answered ≡ false
    → is_over log challenge.at RESPONSE_WINDOW ≡ false → is_committed_after log challenge.block block ≡ true
    → nat_le block exit.parent ≡ true
    → where_exit found (λ x. where_challenged (challenge_at challenged x.challenges)
    (λ y. decided (respond_causes tests log x y block spend) effect))
    ≡ decided (spend_causes tests challenge.block challenge.owner spend) effect
respond-tail tests log found exit challenged block challenge spend effect is there unanswered in_time later within =
    rw (← is, ← there, unanswered, in_time, later, within)

-- ---- and so a judge who goes on with the transfer that is shown

pub after-judged : {A : Type 0} (tests : Tests) (log : List RootCall) (found : Option Exit) (exit : Exit) (block : ℕ)
    (spend : Option SignedTx) (judged : Result A Stop) → Some exit ≡ found
    → is_over log exit.start CHALLENGE_WINDOW ≡ false → is_committed_after log exit.block block ≡ true
    → ((effect : Answer) → Judges (decided (spend_causes tests exit.block exit.owner spend) effect)
    (λ _. effect) judged)
    → (effect : Answer)
    → Judges (where_exit found (λ x. decided (after_causes tests log x block spend) effect)) (λ _. effect) judged
after-judged tests log found exit block spend judged is in_time later judges effect =
    grind (arith, common_steps, after-tail) steps 20000

pub between-judged : {A : Type 0} (tests : Tests) (log : List RootCall) (found : Option Exit) (exit : Exit)
    (block : ℕ) (spend : Option SignedTx) (judged : Result A Stop) → Some exit ≡ found
    → is_over log exit.start CHALLENGE_WINDOW ≡ false → (exit.parent == 0) ≡ false
    → is_committed_between log exit.parent exit.block block ≡ true
    → ((effect : Answer)
    → Judges (decided (spend_causes tests exit.parent exit.parent_owner spend) effect) (λ _. effect) judged)
    → (effect : Answer)
    → Judges (where_exit found (λ x. decided (between_causes tests log x block spend) effect)) (λ _. effect) judged
between-judged tests log found exit block spend judged is in_time parent within judges effect =
    grind (arith, common_steps, between-tail) steps 20000

pub respond-judged : (A B : Type 0) (tests : Tests) (log : List RootCall) (found : Option Exit) (exit : Exit)
    (challenged block : ℕ) (challenge : Challenge) (spend : Option SignedTx) (why : Stop) → Some exit ≡ found
    → Some challenge ≡ challenge_at challenged exit.challenges → challenge.answered ≡ false
    → is_over log challenge.at RESPONSE_WINDOW ≡ false → is_committed_after log challenge.block block ≡ true
    → nat_le block exit.parent ≡ true
    → ((effect : Answer) → Judges {A = A} (decided (spend_causes tests challenge.block challenge.owner spend) effect)
    (λ _. effect) (Err why))
    → (effect : Answer)
    → Judges {A = B} (where_exit found (λ x. where_challenged (challenge_at challenged x.challenges)
    (λ y. decided (respond_causes tests log x y block spend) effect))) (λ _. effect) (Err why)
respond-judged A B tests log found exit challenged block challenge spend why is there unanswered in_time later within
    judges effect = grind (arith, common_steps, respond-tail, judges-err) steps 20000

pub start-judged : (A B : Type 0) (tests : Tests) (log : List RootCall) (account c : ℕ) (parent : Shown)
    (exit_block shown_block : ℕ) (found : Option CoinView) (made : CoinView) (parent_owner : Option Owner)
    (owner : Owner)
    (spend : Option SignedTx) (why : Stop) → found ≡ Some made → is_withdrawn log c ≡ false
    → is_committed_after log made.deposit exit_block ≡ true → is_parent_of log made exit_block parent ≡ true
    → parent_owner ≡ Some owner → shown_block ≡ block_of parent
    → ((effect : Answer)
    → Judges {A = A} (decided (spend_causes tests shown_block owner spend) effect) (λ _. effect) (Err why))
    → (effect : Answer)
    → Judges {A = B} (where_coin found (λ m. decided
    (start_spend_causes tests log account c parent exit_block parent_owner spend m) effect)) (λ _. effect) (Err why)
start-judged A B tests log account c parent exit_block shown_block found made parent_owner owner spend why is there
    later
    fits shown block judges effect = grind (arith, common_steps, judges-err) steps 20000
