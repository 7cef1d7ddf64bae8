-- What each kind of accepted call changes, and what is answered.
use Rattle.root_contract.proofs.Words.{◌≡◌, ℕ, Bool, true, false, if◌then◌else◌, List, [], ◌∷◌, ◌++◌, Option, Some, None, Result, Err, sym, ap, ◌∙◌, subst, ◌||◌, arith, IsErrAnd, is_some, ◌≢◌, false≢true, common_steps, Kept, Slot, Owner, RawOpening, Shown, RootCall, Tick, Deposit, Commit, StartDeposit, StartSpend, After, Between, Before, Respond, Finish, Answer, IsRefused, WantsMemory, Chain, with_log, EXIT_BOND, CHALLENGE_BOND, Tests, rules_of, moved, pays, takes, releases, funded, amount_of, cancel_pays, exit_bonds, answered_bond, challenge_of, finish_pays, finish_releases, is_accepted, log_after, IsLegal, accepted_calls_show, responds_answer, Stop, as_exit, as_challenge, IsUnchallenged, IsOpen, Judges, Takes, table_answer, answer_of, shows_opening, may_want, Changes, IsAccepted}
use Rattle.plasma_tx.specs.declared.answer.Refusal.{Refusal}
use Rattle.plasma_tx.specs.Views.{now, Exit, exits, exit_at, coin_at, challenge_at, block_of, owner_of, owner_of_coin, owner_of_opening, is_responded, responses, is_withdrawn, without_exit, with_exit_changed, with_challenge, with_answer}
use Rattle.plasma_tx.proofs.Answered.{new_challenges_are_open}
use Rattle.root_contract.specs.declared.stop.Stop.TheVariants.{NoMemory}
use Rattle.root_contract.proofs.SlotLemmas.{without-none}

or_right : (x y : Bool) → y ≡ true → (x || y) ≡ true
or_right x y is = grind (arith, common_steps) steps 20000

-- tests that no opening and no signature passes, for a call that shows none
pub no_tests : Tests
no_tests = record { opens = λ root coin opening. false; is_signed = λ tx owner. false }

-- a call that a judge stops isn't taken
pub takes-stopped : (tests : Tests) (chain : Chain) (call : RootCall) (A : Type 0) (effect : A → Answer) (why : Stop)
    (result : Result Answer Stop) → IsErrAnd result (λ stop. stop ≡ why)
    → Judges (table_answer tests chain call) effect (Err why) → (why ≡ NoMemory → may_want tests chain call ≡ true)
    → Takes tests chain chain call result
takes-stopped tests chain call _ effect why result is judged may = grind (arith, common_steps) steps 20000

-- memory ran out, where it may be taken
pub takes-unheld : (tests : Tests) (old new : Chain) (call : RootCall) (result : Result Answer Stop)
    → IsErrAnd result (λ stop. stop ≡ NoMemory) → new ≡ old → may_want tests old call ≡ true
    → Takes tests old new call result
takes-unheld tests old new call result is same may = grind (arith, common_steps) steps 20000

-- memory may be taken for a call that is accepted
pub accepted-may : (tests : Tests) (chain : Chain) (call : RootCall) (effect : Answer)
    → table_answer tests chain call ≡ effect → is_accepted effect ≡ true → may_want tests chain call ≡ true
accepted-may tests chain call effect is accepts =
    or_right (shows_opening call) (is_accepted (table_answer tests chain call)) (ap is_accepted is ∙ accepts)

pub accepted : (tests : Tests) (chain : Chain) (call : RootCall) (effect : Answer)
    → table_answer tests chain call ≡ effect → is_accepted effect ≡ true → IsAccepted chain call
accepted tests chain call effect is accepts = (tests, ap is_accepted is ∙ accepts)

pub tick-changes : (chain : Chain) (time : ℕ) → IsAccepted chain (Tick time)
    → Changes chain (Tick time) (exits chain.log) [] [] []
unfolding exits pays takes releases funded
tick-changes chain time accepted = grind (arith, common_steps, accepted) steps 20000

pub commit-changes : (chain : Chain) (account : ℕ) (root : List ℕ) → IsAccepted chain (Commit account root)
    → Changes chain (Commit account root) (exits chain.log) [] [] []
unfolding exits pays takes releases funded
commit-changes chain account root accepted = grind (arith, common_steps, accepted) steps 20000

pub deposit-changes : (chain : Chain) (account amount : ℕ) (key : List ℕ)
    → IsAccepted chain (Deposit account amount key)
    → Changes chain (Deposit account amount key) (exits chain.log) [] (moved account amount ∷ []) []
unfolding exits pays takes releases funded
deposit-changes chain account amount key accepted = grind (arith, common_steps, accepted) steps 20000

-- ---- starts

-- a slot that starts now
abbrev pub new_slot : ℕ → ℕ → ℕ → Owner → Owner → ℕ → Slot
new_slot coin block parent owner parent_owner start = record {
  coin = coin;
  block = block;
  parent = parent;
  owner = owner;
  parent_owner = parent_owner;
  start = start;
  challenges = [];
}

pub start_deposit-changes : (chain : Chain) (account c block : ℕ) (owner : Owner) (slot : Slot)
    → IsAccepted chain (StartDeposit account c block) → owner ≡ owner_of_coin (coin_at chain.log c)
    → slot ≡ new_slot c block 0 owner owner (now chain.log)
    → Changes chain (StartDeposit account c block) (exits chain.log ++ as_exit slot ∷ []) []
    (moved slot.owner.account EXIT_BOND ∷ []) []
unfolding exits exit_at pays takes releases funded
start_deposit-changes chain account c block owner slot accepted is slot_is =
    let shown = accepted_calls_show accepted.0 (rules_of chain) chain.log (StartDeposit account c block) accepted.1 in
    grind (arith, common_steps, accepted, without-none) steps 20000

pub start_spend-changes : (chain : Chain) (account c : ℕ) (parent : Shown) (exit : RawOpening)
    (owner parent_owner : Owner) (shown_block : ℕ) (slot : Slot) → IsAccepted chain (StartSpend account c parent exit)
    → owner ≡ owner_of_opening exit → parent_owner ≡ owner_of chain.log c parent → owner.account ≡ account
    → shown_block ≡ block_of parent → slot ≡ new_slot c exit.block shown_block owner parent_owner (now chain.log)
    → Changes chain (StartSpend account c parent exit) (exits chain.log ++ as_exit slot ∷ []) []
    (moved slot.owner.account EXIT_BOND ∷ []) []
unfolding exits exit_at pays takes releases funded
start_spend-changes chain account c parent exit owner parent_owner shown_block slot accepted is parent_is own block
    slot_is =
    let shown = accepted_calls_show accepted.0 (rules_of chain) chain.log
    (StartSpend account c parent exit) accepted.1 in
    grind (arith, common_steps, accepted, without-none) steps 20000

-- ---- challenges

pub after-changes : (chain : Chain) (account c e : ℕ) (spend : RawOpening)
    → IsAccepted chain (After account c e spend)
    → Changes chain (After account c e spend) (without_exit c e (exits chain.log))
    (cancel_pays account (exit_at chain.log c e)) [] (exit_bonds (exit_at chain.log c e))
unfolding exits pays takes releases funded
after-changes chain account c e spend accepted = grind (arith, common_steps, accepted) steps 20000

pub between-changes : (chain : Chain) (account c e : ℕ) (spend : RawOpening)
    → IsAccepted chain (Between account c e spend)
    → Changes chain (Between account c e spend) (without_exit c e (exits chain.log))
    (cancel_pays account (exit_at chain.log c e)) [] (exit_bonds (exit_at chain.log c e))
unfolding exits pays takes releases funded
between-changes chain account c e spend accepted = grind (arith, common_steps, accepted) steps 20000

unchallenged_exit : (b : ℕ) (found : Option Exit) (exit : Exit) → found ≡ Some exit
    → challenge_at b exit.challenges ≡ None → IsUnchallenged b found
unchallenged_exit b found exit is none = subst (IsUnchallenged b) (sym is) none

pub before-none : (chain : Chain) (account c e : ℕ) (shown : Shown) → IsAccepted chain (Before account c e shown)
    → IsUnchallenged (block_of shown) (exit_at chain.log c e)
before-none chain account c e shown accepted =
    let shows = accepted_calls_show accepted.0 (rules_of chain) chain.log (Before account c e shown) accepted.1 in
    unchallenged_exit (block_of shown) (exit_at chain.log c e) shows.exit shows.stands shows.none_there

pub before-changes : (chain : Chain) (account c e : ℕ) (shown : Shown) (kept : Kept)
    → IsLegal (rules_of chain) chain.log → IsAccepted chain (Before account c e shown)
    → kept.block ≡ block_of shown → kept.owner ≡ owner_of chain.log c shown → kept.by ≡ account
    → kept.at ≡ now chain.log → kept.answered ≡ false
    → Changes chain (Before account c e shown)
    (with_exit_changed c e (with_challenge (as_challenge kept)) (exits chain.log)) []
    (moved kept.by CHALLENGE_BOND ∷ []) []
unfolding exits pays takes releases funded
before-changes chain account c e shown kept legal accepted block owner by at answered =
    let shows = accepted_calls_show accepted.0 (rules_of chain) chain.log (Before account c e shown) accepted.1 in
    let unanswered : is_responded c e (block_of shown) (responses chain.log) ≡ false =
    grind (arith, common_steps, new_challenges_are_open, responds_answer) steps 20000 in
    grind (arith, common_steps, accepted) steps 20000

pub respond-open : (chain : Chain) (account c e challenged : ℕ) (spend : RawOpening)
    → IsAccepted chain (Respond account c e challenged spend) → IsOpen challenged (exit_at chain.log c e)
respond-open chain account c e challenged spend accepted =
    let shows = accepted_calls_show accepted.0 (rules_of chain) chain.log (Respond account c e challenged spend)
    accepted.1 in
    subst (IsOpen challenged) (sym shows.stands) (shows.challenge, shows.there, shows.open_still)

pub respond-changes : (chain : Chain) (account c e challenged : ℕ) (spend : RawOpening) (by : ℕ)
    → IsAccepted chain (Respond account c e challenged spend)
    → answered_bond (challenge_of (exit_at chain.log c e) challenged) ≡ moved by CHALLENGE_BOND ∷ []
    → Changes chain (Respond account c e challenged spend)
    (with_exit_changed c e (with_answer challenged) (exits chain.log)) (moved account CHALLENGE_BOND ∷ []) []
    (moved by CHALLENGE_BOND ∷ [])
unfolding exits pays takes releases funded
respond-changes chain account c e challenged spend by accepted is = grind (arith, common_steps, accepted) steps 20000

pub finish-changes : (chain : Chain) (account c e : ℕ) → IsAccepted chain (Finish account c e)
    → Changes chain (Finish account c e) (without_exit c e (exits chain.log))
    (finish_pays (is_withdrawn chain.log c) (amount_of (coin_at chain.log c)) (exit_at chain.log c e)) []
    (finish_releases (is_withdrawn chain.log c) (coin_at chain.log c) (exit_at chain.log c e))
unfolding exits pays takes releases funded
finish-changes chain account c e accepted = grind (arith, common_steps, accepted) steps 20000

-- the exit of an accepted finish stands
pub finish-stands : (chain : Chain) (account c e : ℕ) → IsAccepted chain (Finish account c e)
    → is_some (exit_at chain.log c e) ≡ true
finish-stands chain account c e accepted =
    let shows = accepted_calls_show accepted.0 (rules_of chain) chain.log (Finish account c e) accepted.1 in
    ap is_some shows.stands

-- ---- the log afterwards

log-accepted : (tests : Tests) (old new : Chain) (call : RootCall) (answer : Answer)
    → answer ≡ table_answer tests old call → is_accepted answer ≡ true → new ≡ with_log old (call ∷ old.log)
    → new ≡ with_log old (log_after tests (rules_of old) old.log call)
unfolding log_after
log-accepted tests old new call answer is accepts taken = grind (arith, common_steps) steps 20000

log-refused : (tests : Tests) (old new : Chain) (call : RootCall) (why : Refusal)
    → table_answer tests old call ≡ IsRefused why → new ≡ old
    → new ≡ with_log old (log_after tests (rules_of old) old.log call)
unfolding log_after
log-refused tests old new call why is same =
    same ∙ ap (λ (answer : Answer). with_log old (if is_accepted answer then call ∷ old.log else old.log)) (sym is)

-- the clauses of a call, by what it did
pub call-answer : (tests : Tests) (old new : Chain) (call : RootCall) (taken : Result Answer Stop)
    → Takes tests old new call taken → answer_of taken ≢ WantsMemory → answer_of taken ≡ table_answer tests old call
call-answer tests old new call taken takes some = grind (arith, common_steps) steps 20000

pub call-log : (tests : Tests) (old new : Chain) (call : RootCall) (taken : Result Answer Stop)
    → Takes tests old new call taken → answer_of taken ≢ WantsMemory
    → new ≡ with_log old (log_after tests (rules_of old) old.log call)
call-log tests old new call taken takes some = grind (arith, common_steps, log-accepted, log-refused) steps 20000

pub call-no_memory : (tests : Tests) (old new : Chain) (call : RootCall) (taken : Result Answer Stop)
    → Takes tests old new call taken → answer_of taken ≡ WantsMemory → new ≡ old
call-no_memory tests old new call taken takes is = grind (arith, common_steps, false≢true) steps 20000

pub call-memory : (tests : Tests) (old new : Chain) (call : RootCall) (taken : Result Answer Stop)
    → Takes tests old new call taken → answer_of taken ≡ WantsMemory → may_want tests old call ≡ true
call-memory tests old new call taken takes is = grind (arith, common_steps, false≢true) steps 20000
