-- What an accepted call shows.
use Rattle.std.proofs.Common.{◌≡◌, ℕ, ◌+◌, ◌<◌, ◌==◌, ◌||◌, not, true, false, if◌then◌else◌, List, [], ◌∷◌, Option, Some, None, option_map, option_and_then, refl, ◌∙◌, arith}
use Rattle.plasma_tx.proofs.Words.{is_some, is_none, nat_lt, AllByRecursion, and_parts, or_parts, eqb-true, eqb-false, ltb-true, ltb-false, leb-true, leb-false, not-false, common_steps, RESPONSE_WINDOW, EXIT_PERIOD, Owner, RawOpening, SignedTx, Shown, RootCall, Fund, Tick, Deposit, Commit, StartDeposit, StartSpend, After, Between, Before, Respond, Finish, Answer, Funded, Deposited, Committed, Started, Cancelled, Challenged, Responded, Refused, CoinView, leaf_in, transfer_in, now, blocks, coins, coin_at, Challenge, Exit, exit_at, challenge_at, block_of, owner_of_coin, Tests, Rules, root_at, shown_tx, shown_owner, spends, signs, goes_to, Cause, decided, is_accepted, is_committed_after, is_committed_between, is_parent_of, fund_causes, deposit_causes, commit_causes, start_deposit_causes, start_spend_causes, after_causes, between_causes, before_causes, respond_causes, where_coin, where_exit, where_challenged, answer_to, ShowsTx, Deposits, Commits, StartsDeposit, StartsSpend, CancelsAfter, CancelsBetween, Challenges, Responds, Shows, OpeningsShow, OwnersAreRead, AcceptedCallsShow}
use Rattle.plasma_tx.specs.declared.call.Shown.TheVariants.{Deposit as AtDeposit, Spend}
use Rattle.plasma_tx.proofs.Leaves.{recipient-named}

-- ---- no cause holds

abbrev pub NoneHolds : List Cause → Type 0
NoneHolds causes = AllByRecursion (λ cause. cause.0 ≡ false) causes

-- no cause holds where the answer is an acceptance
pub none_holds : (causes : List Cause) (effect : Answer) → is_accepted (decided causes effect) ≡ true → NoneHolds causes
none_holds [] effect is = tt
none_holds (cause ∷ causes) effect is =
    (elim (cause.0) as (λ b. is_accepted (if b then Refused cause.1 else decided causes effect) ≡ true
    → (b ≡ false) × NoneHolds causes) [
      | true ↦ λ wrong. absurd (cc)
      | false ↦ λ rest. (refl, none_holds causes effect rest)
    ]) is

-- what has to be looked up is there
pub coin_there : (found : Option CoinView) (answer : CoinView → Answer)
    → is_accepted (where_coin found answer) ≡ true
    → (coin : CoinView) × (found ≡ Some coin) × (is_accepted (answer coin) ≡ true)
coin_there found answer is = grind (arith, common_steps) steps 20000

pub exit_there : (found : Option Exit) (answer : Exit → Answer) → is_accepted (where_exit found answer) ≡ true
    → (exit : Exit) × (found ≡ Some exit) × (is_accepted (answer exit) ≡ true)
exit_there found answer is = grind (arith, common_steps) steps 20000

pub challenge_there : (found : Option Challenge) (answer : Challenge → Answer)
    → is_accepted (where_challenged found answer) ≡ true
    → (challenge : Challenge) × (found ≡ Some challenge) × (is_accepted (answer challenge) ≡ true)
challenge_there found answer is = grind (arith, common_steps) steps 20000

-- ---- options

none_is : {A : Type 0} (found : Option A) → is_some found ≡ false → found ≡ None
none_is found is = grind (arith, common_steps) steps 20000

some_is : {A : Type 0} (found : Option A) → is_none found ≡ false → (x : A) × (found ≡ Some x)
some_is found is = grind (arith, common_steps) steps 20000

some_same : {A : Type 0} (x y : A) → Some x ≡ Some y → x ≡ y
some_same x y e = cc

-- ---- openings and owners

shows_tx : (tests : Tests) (rules : Rules) (log : List RootCall) (c : ℕ) (opening : RawOpening) (tx : SignedTx)
    (found : Option (List ℕ)) → root_at log opening.block ≡ found
    → option_and_then (λ root.
    if tests.opens root c opening
    then transfer_in rules.tag c opening.block (leaf_in opening.bytes)
    else None) found ≡ Some tx → ShowsTx tests rules log c opening tx
shows_tx tests rules log c opening tx found at is = grind (arith, common_steps) steps 20000

pub openings_show : OpeningsShow
unfolding shown_tx
openings_show tests rules log c opening tx is =
    shows_tx tests rules log c opening tx (root_at log opening.block) refl is

depositor : (found : Option CoinView) (owner : Owner) → option_map (λ made. made.owner) found ≡ Some owner
    → owner_of_coin found ≡ owner
depositor found owner is = grind (arith, common_steps, some_same) steps 20000

recipient : (found : Option SignedTx) (owner : Owner) → option_map (λ tx. tx.body.to) found ≡ Some owner
    → (tx : SignedTx) × (found ≡ Some tx) × (tx.body.to ≡ owner)
recipient found owner is = grind (arith, common_steps, some_same) steps 20000

pub owners_are_read : OwnersAreRead
owners_are_read tests rules log c (AtDeposit block) owner is = depositor (coin_at log c) owner is
owners_are_read tests rules log c (Spend opening) owner is =
    let goes = recipient (shown_tx tests rules log c opening) owner is in
    let shown = openings_show tests rules log c opening goes.0 goes.1 in
    recipient-named rules.tag (leaf_in opening.bytes) c opening.block goes.0 shown.spelled ∙ goes.2

-- ---- a transfer that is shown

-- a transfer spends the block, and its owner signed it
record IsSpend (tests : Tests) (block : ℕ) (owner : Owner) (found : Option SignedTx) : Type 0 where
  tx : SignedTx
  there : found ≡ Some tx
  child : tx.body.parent ≡ block
  signed : tests.is_signed tx owner ≡ true

is_spend : (tests : Tests) (block : ℕ) (owner : Owner) (found : Option SignedTx) → is_none found ≡ false
    → not (spends block found) ≡ false → not (signs tests (Some owner) found) ≡ false
    → IsSpend tests block owner found
is_spend tests block owner found there child signed = grind (arith, common_steps, eqb-true, not-false) steps 20000

-- the owner after the parent is shown, and the transfer, which goes to the account, is a spend by that owner
record IsExitSpend (tests : Tests) (account block : ℕ) (parent_owner : Option Owner) (found : Option SignedTx)
    : Type 0 where
  owner : Owner
  owner_there : parent_owner ≡ Some owner
  spend : IsSpend tests block owner found
  goes : spend.tx.body.to.account ≡ account

is_exit_spend : (tests : Tests) (account block : ℕ) (parent_owner : Option Owner) (found : Option SignedTx)
    → (is_none parent_owner || is_none found) ≡ false → not (spends block found) ≡ false
    → not (signs tests parent_owner found) ≡ false → not (goes_to account found) ≡ false
    → IsExitSpend tests account block parent_owner found
unfolding is_spend
is_exit_spend tests account block None found there child signed goes = absurd (cc)
is_exit_spend tests account block (Some owner) None there child signed goes = absurd (cc)
is_exit_spend tests account block (Some owner) (Some tx) there child signed goes = record {
  owner = owner;
  owner_there = refl;
  spend = is_spend tests block owner (Some tx) refl child signed;
  goes = eqb-true tx.body.to.account account (not-false _ goes);
}

-- ---- the rows

above_zero : (n : ℕ) → (n == 0) ≡ false → 0 < n
above_zero n is = let apart : n ≡ 0 → ⊥ = eqb-false n 0 is in omega arith

module _ (tests : Tests) (rules : Rules) (log : List RootCall) where
  deposits : (account amount : ℕ) (key : List ℕ) → NoneHolds (deposit_causes rules log account amount key)
      → Deposits rules log account amount key
  deposits account amount key none =
      grind (arith, common_steps, above_zero, not-false, ltb-false, leb-false) steps 20000

  commits : (account : ℕ) → NoneHolds (commit_causes rules log account) → Commits rules log account
  commits account none = grind (arith, common_steps, eqb-true, not-false, leb-false) steps 20000

  starts_deposit : (account c block : ℕ) (coin : CoinView) → coin_at log c ≡ Some coin
      → NoneHolds (start_deposit_causes log account c block coin) → StartsDeposit log account c block
  starts_deposit account c block coin there none =
      grind (arith, common_steps, eqb-true, not-false, none_is, ltb-false) steps 20000

  starts_spend : (account c : ℕ) (parent : Shown) (exit : RawOpening) (coin : CoinView) → coin_at log c ≡ Some coin
      → NoneHolds
      (start_spend_causes tests log account c parent exit.block (shown_owner tests rules log c parent)
      (shown_tx tests rules log c exit) coin) → StartsSpend tests rules log account c parent exit
  starts_spend account c parent exit coin there none =
      let fits = and_parts (is_committed_after log coin.deposit exit.block)
      (is_parent_of log coin exit.block parent) (not-false _ none.1.0) in
      let spend = is_exit_spend tests account (block_of parent) (shown_owner tests rules log c parent)
      (shown_tx tests rules log c exit) none.1.1.0 none.1.1.1.0 none.1.1.1.1.0 none.1.1.1.1.1.0 in
      grind (arith, common_steps, openings_show, none_is, ltb-false) steps 20000

  cancels_after : (c exit_block : ℕ) (spend : RawOpening) (exit : Exit) → exit_at log c exit_block ≡ Some exit
      → NoneHolds (after_causes tests log exit spend.block (shown_tx tests rules log c spend))
      → CancelsAfter tests rules log c exit_block spend
  cancels_after c exit_block spend exit there none =
      grind (arith, common_steps, and_parts, not-false, is_spend, leb-false, ltb-true, openings_show) steps 20000

  cancels_between : (c exit_block : ℕ) (spend : RawOpening) (exit : Exit) → exit_at log c exit_block ≡ Some exit
      → NoneHolds (between_causes tests log exit spend.block (shown_tx tests rules log c spend))
      → CancelsBetween tests rules log c exit_block spend
  cancels_between c exit_block spend exit there none =
      let fits = or_parts (exit.parent == 0) (not (is_committed_between log exit.parent exit.block spend.block))
      none.1.0 in
      let below = and_parts (is_committed_after log exit.parent spend.block) (nat_lt spend.block exit.block)
      (not-false _ fits.1) in
      grind (arith, common_steps, and_parts, is_spend, leb-false, above_zero, ltb-true, openings_show) steps 20000

  challenges : (account c exit_block : ℕ) (shown : Shown) (exit : Exit) → exit_at log c exit_block ≡ Some exit
      → NoneHolds (before_causes log account c exit shown (shown_owner tests rules log c shown))
      → Challenges tests rules log account c exit_block shown
  challenges account c exit_block shown exit there none =
      grind (arith, common_steps, some_is, leb-false, not-false, none_is, ltb-false) steps 20000

  responds : (c exit_block challenged : ℕ) (spend : RawOpening) (exit : Exit) (challenge : Challenge)
      → exit_at log c exit_block ≡ Some exit → challenge_at challenged exit.challenges ≡ Some challenge
      → NoneHolds (respond_causes tests log exit challenge spend.block (shown_tx tests rules log c spend))
      → Responds tests rules log c exit_block challenged spend
  responds c exit_block challenged spend exit challenge stands there none =
      let fits = and_parts (is_committed_after log challenge.block spend.block) _ (not-false _ none.1.1.0) in
      let committed = and_parts (is_some (root_at log spend.block)) (nat_lt challenge.block spend.block) fits.0 in
      let is = is_spend tests challenge.block challenge.owner (shown_tx tests rules log c spend) none.1.1.1.0
      none.1.1.1.1.0 none.1.1.1.1.1.0 in
      grind (arith, common_steps, leb-false, ltb-true, leb-true, openings_show) steps 20000

  -- each kind of call
  shows : (call : RootCall) → is_accepted (answer_to tests rules log call) ≡ true → Shows tests rules log call
  unfolding answer_to
  shows (Fund account amount) is = ltb-false _ _ (none_holds (fund_causes log amount) Funded is).0
  shows (Tick time) is = grind (arith, common_steps, none_holds, ltb-false) steps 20000
  shows (Deposit account amount key) is =
      deposits account amount key
      (none_holds (deposit_causes rules log account amount key) (Deposited (coins log + 1) (blocks log + 1)) is)
  shows (Commit account root) is =
      commits account (none_holds (commit_causes rules log account) (Committed (blocks log + 1)) is)
  shows (StartDeposit account c block) is =
      let found = coin_there (coin_at log c) _ is in
      starts_deposit account c block found.0 found.1
      (none_holds (start_deposit_causes log account c block found.0) (Started (now log + EXIT_PERIOD)) found.2)
  shows (StartSpend account c parent exit) is =
      let found = coin_there (coin_at log c) _ is in
      starts_spend account c parent exit found.0 found.1
      (none_holds
      (start_spend_causes tests log account c parent exit.block (shown_owner tests rules log c parent)
      (shown_tx tests rules log c exit) found.0) (Started (now log + EXIT_PERIOD)) found.2)
  shows (After account c exit_block spend) is =
      let found = exit_there (exit_at log c exit_block) _ is in
      cancels_after c exit_block spend found.0 found.1
      (none_holds (after_causes tests log found.0 spend.block (shown_tx tests rules log c spend)) Cancelled found.2)
  shows (Between account c exit_block spend) is =
      let found = exit_there (exit_at log c exit_block) _ is in
      cancels_between c exit_block spend found.0 found.1
      (none_holds (between_causes tests log found.0 spend.block (shown_tx tests rules log c spend)) Cancelled found.2)
  shows (Before account c exit_block shown) is =
      let found = exit_there (exit_at log c exit_block) _ is in
      challenges account c exit_block shown found.0 found.1
      (none_holds (before_causes log account c found.0 shown (shown_owner tests rules log c shown))
      (Challenged (now log + RESPONSE_WINDOW)) found.2)
  shows (Respond account c exit_block challenged spend) is =
      let found = exit_there (exit_at log c exit_block) _ is in
      let one = challenge_there (challenge_at challenged found.0.challenges) _ found.2 in
      responds c exit_block challenged spend found.0 one.0 found.1 one.1
      (none_holds (respond_causes tests log found.0 one.0 spend.block (shown_tx tests rules log c spend)) Responded
      one.2)
  shows (Finish account c exit_block) is = grind (arith, common_steps, exit_there, ltb-false, none_holds) steps 20000

pub accepted_calls_show : AcceptedCallsShow
accepted_calls_show tests rules log call is = shows tests rules log call is
