-- A call that shows what its kind has to show is accepted; and each answer accepts or refuses.
use Rattle.plasma_tx.proofs.Words.{◌≡◌, ◌⊎◌, inl, ℕ, ◌+◌, ◌<◌, ◌==◌, true, false, List, [], ◌∷◌, Option, Some, refl, sym, ap, ◌∙◌, subst, arith, and_from, or_from, not_from_true, ne_eqb, eq-eqb, lt-ltb, le-ltb, le-leb, lt-leb, common_steps, RESPONSE_WINDOW, EXIT_PERIOD, RawOpening, SignedTx, Shown, RootCall, Fund, Tick, Deposit, Commit, StartDeposit, StartSpend, After, Between, Before, Respond, Finish, Answer, Funded, Ticked, Deposited, Committed, Started, Cancelled, Challenged, Responded, Refused, CoinView, now, blocks, coins, coin_at, Challenge, Exit, exit_at, challenge_at, Tests, Rules, shown_tx, shown_owner, Cause, decided, is_accepted, is_committed_after, fund_causes, tick_causes, deposit_causes, commit_causes, start_deposit_causes, start_spend_causes, after_causes, between_causes, before_causes, respond_causes, finish_causes, finish_effect, where_coin, where_exit, where_challenged, answer_to, ShowsTx, Deposits, Commits, StartsDeposit, StartsSpend, CancelsAfter, CancelsBetween, Challenges, Responds, Shows, TransfersAreShown, ShownCallsAreAccepted, AnswersDecide}
use Rattle.plasma_tx.specs.declared.answer.Refusal.{Refusal}
use Rattle.plasma_tx.proofs.Accepted.{NoneHolds}

-- ---- the effect, where no cause holds

decided-effect : (causes : List Cause) (effect : Answer) → NoneHolds causes → decided causes effect ≡ effect
decided-effect [] effect none = refl
decided-effect (cause ∷ causes) effect none =
    grind (arith, common_steps, decided-effect causes effect none.1) steps 20000

accepted_by : (causes : List Cause) (effect : Answer) → is_accepted effect ≡ true → NoneHolds causes
    → is_accepted (decided causes effect) ≡ true
accepted_by causes effect is none = ap is_accepted (decided-effect causes effect none) ∙ is

-- what has to be looked up is there
coin-accepts : (found : Option CoinView) (coin : CoinView) (answer : CoinView → Answer) → found ≡ Some coin
    → is_accepted (answer coin) ≡ true → is_accepted (where_coin found answer) ≡ true
coin-accepts found coin answer there is = ap (λ o. is_accepted (where_coin o answer)) there ∙ is

exit-accepts : (found : Option Exit) (exit : Exit) (answer : Exit → Answer) → found ≡ Some exit
    → is_accepted (answer exit) ≡ true → is_accepted (where_exit found answer) ≡ true
exit-accepts found exit answer there is = ap (λ o. is_accepted (where_exit o answer)) there ∙ is

challenge-accepts : (found : Option Challenge) (challenge : Challenge) (answer : Challenge → Answer)
    → found ≡ Some challenge → is_accepted (answer challenge) ≡ true
    → is_accepted (where_challenged found answer) ≡ true
challenge-accepts found challenge answer there is = ap (λ o. is_accepted (where_challenged o answer)) there ∙ is

-- ---- a transfer that is shown

pub transfers_are_shown : TransfersAreShown
unfolding shown_tx
transfers_are_shown tests rules log c opening tx shown = grind (arith, common_steps) steps 20000

-- the block of an opening that shows a transfer is a committed one
after_low : (tests : Tests) (rules : Rules) (log : List RootCall) (c low : ℕ) (opening : RawOpening) (tx : SignedTx)
    → ShowsTx tests rules log c opening tx → low < opening.block → is_committed_after log low opening.block ≡ true
after_low tests rules log c low opening tx shown above = grind (arith, common_steps, and_from, lt-ltb) steps 20000

unlike_zero : (n : ℕ) → 0 < n → (n == 0) ≡ false
unlike_zero n above = ne_eqb n 0 (λ is. omega arith)

-- ---- the rows

module _ (tests : Tests) (rules : Rules) (log : List RootCall) where
  deposit-none : (account amount : ℕ) (key : List ℕ) → Deposits rules log account amount key
      → NoneHolds (deposit_causes rules log account amount key)
  deposit-none account amount key shown =
      grind (arith, common_steps, unlike_zero, not_from_true, le-ltb, lt-leb) steps 20000

  commit-none : (account : ℕ) → Commits rules log account → NoneHolds (commit_causes rules log account)
  commit-none account shown =
      (not_from_true _ (eq-eqb account rules.operator shown.operator), (lt-leb _ _ shown.room, tt))

  start_deposit-none : (account c block : ℕ) (shown : StartsDeposit log account c block)
      → NoneHolds (start_deposit_causes log account c block shown.coin)
  start_deposit-none account c block shown = grind (arith, common_steps, not_from_true, eq-eqb, le-ltb) steps 20000

  start_spend-none : (account c : ℕ) (parent : Shown) (exit : RawOpening)
      (shown : StartsSpend tests rules log account c parent exit)
      → NoneHolds
      (start_spend_causes tests log account c parent exit.block (shown_owner tests rules log c parent)
      (shown_tx tests rules log c exit) shown.coin)
  start_spend-none account c parent exit shown =
      let spend = transfers_are_shown tests rules log c exit shown.tx shown.shown in
      grind (arith, common_steps, not_from_true, and_from, eq-eqb, le-ltb) steps 20000

  after-none : (c exit_block : ℕ) (spend : RawOpening) (shown : CancelsAfter tests rules log c exit_block spend)
      → NoneHolds (after_causes tests log shown.exit spend.block (shown_tx tests rules log c spend))
  after-none c exit_block spend shown =
      subst (λ o. NoneHolds (after_causes tests log shown.exit spend.block o))
      (sym (transfers_are_shown tests rules log c spend shown.tx shown.shown)) (
        lt-leb _ _ shown.in_time,
        grind (arith, common_steps, not_from_true, after_low, eq-eqb) steps 20000,
      )

  between-none : (c exit_block : ℕ) (spend : RawOpening) (shown : CancelsBetween tests rules log c exit_block spend)
      → NoneHolds (between_causes tests log shown.exit spend.block (shown_tx tests rules log c spend))
  between-none c exit_block spend shown =
      let above = after_low tests rules log c shown.exit.parent spend shown.tx shown.shown shown.later in
      subst (λ o. NoneHolds (between_causes tests log shown.exit spend.block o))
      (sym (transfers_are_shown tests rules log c spend shown.tx shown.shown)) (
        lt-leb _ _ shown.in_time,
        grind (arith, common_steps, or_from, unlike_zero, not_from_true, and_from, lt-ltb, eq-eqb) steps 20000,
      )

  before-none : (account c exit_block : ℕ) (what : Shown)
      (shown : Challenges tests rules log account c exit_block what)
      → NoneHolds (before_causes log account c shown.exit what (shown_owner tests rules log c what))
  before-none account c exit_block what shown = grind (arith, common_steps, lt-leb, not_from_true, le-ltb) steps 20000

  respond-none : (c exit_block challenged : ℕ) (spend : RawOpening)
      (shown : Responds tests rules log c exit_block challenged spend)
      → NoneHolds
      (respond_causes tests log shown.exit shown.challenge spend.block (shown_tx tests rules log c spend))
  respond-none c exit_block challenged spend shown =
      let above = after_low tests rules log c shown.challenge.block spend shown.tx shown.shown shown.later in
      subst (λ o. NoneHolds (respond_causes tests log shown.exit shown.challenge spend.block o))
      (sym (transfers_are_shown tests rules log c spend shown.tx shown.shown)) (
        shown.open_still,
        grind (arith, common_steps, lt-leb, not_from_true, and_from, le-leb, eq-eqb) steps 20000,
      )

  finish-effect : (c : ℕ) (exit : Exit) → is_accepted (finish_effect log c exit) ≡ true
  finish-effect c exit = grind (arith, common_steps) steps 20000

  -- each kind of call
  accepted : (call : RootCall) → Shows tests rules log call → is_accepted (answer_to tests rules log call) ≡ true
  unfolding answer_to
  accepted (Fund account amount) shown = accepted_by (fund_causes log amount) Funded refl (le-ltb _ _ shown, tt)
  accepted (Tick time) shown =
      accepted_by (tick_causes log time) Ticked refl (le-ltb _ _ shown.0, (le-ltb _ _ shown.1, tt))
  accepted (Deposit account amount key) shown = grind (arith, common_steps, accepted_by, deposit-none) steps 20000
  accepted (Commit account root) shown =
      accepted_by (commit_causes rules log account) (Committed (blocks log + 1)) refl (commit-none account shown)
  accepted (StartDeposit account c block) shown =
      grind (arith, common_steps, coin-accepts, accepted_by, start_deposit-none) steps 20000
  accepted (StartSpend account c parent exit) shown =
      grind (arith, common_steps, coin-accepts, accepted_by, start_spend-none) steps 20000
  accepted (After account c exit_block spend) shown =
      exit-accepts (exit_at log c exit_block) shown.exit _ shown.stands
      (accepted_by (after_causes tests log shown.exit spend.block (shown_tx tests rules log c spend)) Cancelled refl
      (after-none c exit_block spend shown))
  accepted (Between account c exit_block spend) shown =
      exit-accepts (exit_at log c exit_block) shown.exit _ shown.stands
      (accepted_by (between_causes tests log shown.exit spend.block (shown_tx tests rules log c spend)) Cancelled refl
      (between-none c exit_block spend shown))
  accepted (Before account c exit_block what) shown =
      grind (arith, common_steps, exit-accepts, accepted_by, before-none) steps 20000
  accepted (Respond account c exit_block challenged spend) shown =
      exit-accepts (exit_at log c exit_block) shown.exit _ shown.stands
      (challenge-accepts (challenge_at challenged shown.exit.challenges) shown.challenge _ shown.there
      (accepted_by
      (respond_causes tests log shown.exit shown.challenge spend.block (shown_tx tests rules log c spend)) Responded
      refl (respond-none c exit_block challenged spend shown)))
  accepted (Finish account c exit_block) shown =
      grind (arith, common_steps, exit-accepts, accepted_by, finish-effect, le-ltb) steps 20000

pub shown_calls_are_accepted : ShownCallsAreAccepted
shown_calls_are_accepted tests rules log call shown = accepted tests rules log call shown

-- ---- no other answers

-- the answer accepts, or refuses
abbrev Decides : Answer → Type 0
Decides answer = (is_accepted answer ≡ true) ⊎ ((why : Refusal) × (answer ≡ Refused why))

decided-decides : (causes : List Cause) (effect : Answer) → is_accepted effect ≡ true → Decides (decided causes effect)
decided-decides [] effect is = inl is
decided-decides (cause ∷ causes) effect is = grind (arith, common_steps, decided-decides causes effect is) steps 20000

coin-decides : (found : Option CoinView) (answer : CoinView → Answer) → ((coin : CoinView) → Decides (answer coin))
    → Decides (where_coin found answer)
coin-decides found answer each = grind (arith, common_steps) steps 20000

exit-decides : (found : Option Exit) (answer : Exit → Answer) → ((exit : Exit) → Decides (answer exit))
    → Decides (where_exit found answer)
exit-decides found answer each = grind (arith, common_steps) steps 20000

challenge-decides : (found : Option Challenge) (answer : Challenge → Answer)
    → ((challenge : Challenge) → Decides (answer challenge)) → Decides (where_challenged found answer)
challenge-decides found answer each = grind (arith, common_steps) steps 20000

pub answers_decide : AnswersDecide
unfolding answer_to
answers_decide tests rules log (Fund account amount) = decided-decides (fund_causes log amount) Funded refl
answers_decide tests rules log (Tick time) = decided-decides (tick_causes log time) Ticked refl
answers_decide tests rules log (Deposit account amount key) =
    decided-decides (deposit_causes rules log account amount key) (Deposited (coins log + 1) (blocks log + 1)) refl
answers_decide tests rules log (Commit account root) =
    decided-decides (commit_causes rules log account) (Committed (blocks log + 1)) refl
answers_decide tests rules log (StartDeposit account c block) =
    coin-decides (coin_at log c) _
    (λ coin. decided-decides (start_deposit_causes log account c block coin) (Started (now log + EXIT_PERIOD)) refl)
answers_decide tests rules log (StartSpend account c parent exit) =
    coin-decides (coin_at log c) _
    (λ coin. decided-decides
    (start_spend_causes tests log account c parent exit.block (shown_owner tests rules log c parent)
    (shown_tx tests rules log c exit) coin) (Started (now log + EXIT_PERIOD)) refl)
answers_decide tests rules log (After account c e spend) =
    exit-decides (exit_at log c e) _
    (λ exit. decided-decides (after_causes tests log exit spend.block (shown_tx tests rules log c spend)) Cancelled
    refl)
answers_decide tests rules log (Between account c e spend) =
    exit-decides (exit_at log c e) _
    (λ exit. decided-decides (between_causes tests log exit spend.block (shown_tx tests rules log c spend)) Cancelled
    refl)
answers_decide tests rules log (Before account c e shown) =
    exit-decides (exit_at log c e) _
    (λ exit. decided-decides (before_causes log account c exit shown (shown_owner tests rules log c shown))
    (Challenged (now log + RESPONSE_WINDOW)) refl)
answers_decide tests rules log (Respond account c e challenged spend) =
    exit-decides (exit_at log c e) _
    (λ exit. challenge-decides (challenge_at challenged exit.challenges) _
    (λ challenge. decided-decides
    (respond_causes tests log exit challenge spend.block (shown_tx tests rules log c spend)) Responded refl))
answers_decide tests rules log (Finish account c e) =
    exit-decides (exit_at log c e) _
    (λ exit. decided-decides (finish_causes log exit) (finish_effect log c exit) (finish-effect tests rules log c exit))
