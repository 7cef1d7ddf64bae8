-- A call on an exit leaves calls on other exits what they are, but for the money.
use Rattle.safety_laws.proofs.Basics.{◌≡◌, ◌⊎◌, ℕ, ◌==◌, ◌&&◌, not, Bool, true, false, if◌then◌else◌, List, [], ◌∷◌, map, Option, Some, None, option_map, inl, inr, refl, sym, ap, ◌∙◌, arith, rules, is_some, nat_lt, option_and_then, eqb-true, ltb-false, not-true, true≢false, false≢true, common_steps}
use Rattle.safety_laws.proofs.CoinWords.{Owner, RawOpening, SignedTx, Shown, AtDeposit, Spend, RootCall, StartDeposit, StartSpend, After, Between, Before, Respond, Finish, leaf_in, transfer_in, now, block_at, coin_at, Challenge, Exit, exits, exit_at, challenge_at, block_of, is_withdrawn, with_answer, with_answer_at, Tests, Rules, root_at, shown_tx, shown_owner, answer_to, is_accepted, is_before_parent, is_committed_after, is_parent_of, is_of_exit, ShowsTx, CancelsAfter, CancelsBetween, Responds, Finishes, accepted_calls_show, is_poor}
use Rattle.plasma_tx.specs.declared.views.CoinView.{CoinView}
use Rattle.plasma_tx.proofs.Acceptance.{shown_calls_are_accepted}
use Rattle.plasma_tx.proofs.Names.{find-changed}
use Rattle.plasma_tx.proofs.RuleLeaves.{others_leave_exits}
use Rattle.money_laws.proofs.Reserves.{Could}

-- a start of a deposit's exit is accepted, but for the money
pub record MayStartDeposit (log : List RootCall) (account c block : ℕ) : Type 0 where
  pub coin : CoinView
  pub there : coin_at log c ≡ Some coin
  pub not_withdrawn : is_withdrawn log c ≡ false
  pub at_deposit : block ≡ coin.deposit
  pub owner : account ≡ coin.owner.account
  pub none_stands : exit_at log c block ≡ None

-- and that of a transfer's exit
pub record MayStartSpend (tests : Tests) (rules : Rules) (log : List RootCall) (account c : ℕ) (parent : Shown)
    (exit : RawOpening) : Type 0 where
  pub coin : CoinView
  pub there : coin_at log c ≡ Some coin
  pub not_withdrawn : is_withdrawn log c ≡ false
  pub committed : is_committed_after log coin.deposit exit.block ≡ true
  pub parent_fits : is_parent_of log coin exit.block parent ≡ true
  pub parent_owner : Owner
  pub parent_shown : shown_owner tests rules log c parent ≡ Some parent_owner
  pub tx : SignedTx
  pub shown : ShowsTx tests rules log c exit tx
  pub child : tx.body.parent ≡ block_of parent
  pub signed : tests.is_signed tx parent_owner ≡ true
  pub owner : tx.body.to.account ≡ account
  pub none_stands : exit_at log c exit.block ≡ None

-- the call is accepted, but for the money
unfoldable pub CouldBe : Tests → Rules → List RootCall → RootCall → Type 0
CouldBe tests rules log (StartDeposit account c f) = MayStartDeposit log account c f
CouldBe tests rules log (StartSpend account c parent exit) = MayStartSpend tests rules log account c parent exit
CouldBe tests rules log (After account c f spend) = CancelsAfter tests rules log c f spend
CouldBe tests rules log (Between account c f spend) = CancelsBetween tests rules log c f spend
CouldBe tests rules log (Before account c f shown) = Could tests rules log c f shown
CouldBe tests rules log (Respond account c f n spend) = Responds tests rules log c f n spend
CouldBe tests rules log (Finish account c f) = Finishes log c f
CouldBe tests rules log call = ⊥

-- the call is on an exit
abbrev pub is_move : RootCall → Bool
is_move (StartDeposit account c block) = true
is_move (StartSpend account c parent exit) = true
is_move (After account c f spend) = true
is_move (Between account c f spend) = true
is_move (Before account c f shown) = true
is_move (Respond account c f n spend) = true
is_move (Finish account c f) = true
is_move call = false

-- a call that takes money is by this account
abbrev pub IsBy : ℕ → RootCall → Type 0
IsBy account (StartDeposit by c block) = by ≡ account
IsBy account (StartSpend by c parent exit) = by ≡ account
IsBy account (Before by c f shown) = by ≡ account
IsBy account call = Unit {0}

-- the call is an answer, to a challenge at another block
abbrev pub answers_other : ℕ → RootCall → Bool
answers_other n (Respond account c f m spend) = not (m == n)
answers_other n call = false

abbrev pub is_answer : RootCall → Bool
is_answer (Respond account c f m spend) = true
is_answer call = false

-- the call finishes an exit
abbrev pub is_finish : RootCall → Bool
is_finish (Finish account c f) = true
is_finish call = false

-- The earlier call leaves the later one what it is: it is on another exit, and before a start no Finish; or an answer,
-- before one of another challenge, or before a Finish.
abbrev pub Apart : RootCall → RootCall → Type 0
Apart new (StartDeposit account c block) = (is_of_exit c block new ≡ false) × (is_finish new ≡ false)
Apart new (StartSpend account c parent exit) = (is_of_exit c exit.block new ≡ false) × (is_finish new ≡ false)
Apart new (After account c f spend) = is_of_exit c f new ≡ false
Apart new (Between account c f spend) = is_of_exit c f new ≡ false
Apart new (Before account c f shown) = is_of_exit c f new ≡ false
Apart new (Respond account c f n spend) = (is_of_exit c f new ≡ false) ⊎ (answers_other n new ≡ true)
Apart new (Finish account c f) = (is_of_exit c f new ≡ false) ⊎ (is_answer new ≡ true)
Apart new call = ⊥

module _ (tests : Tests) (rules : Rules) where
  pub could-from : (log : List RootCall) (call : RootCall) → is_move call ≡ true
      → is_accepted (answer_to tests rules log call) ≡ true → CouldBe tests rules log call
  unfolding CouldBe
  could-from log (StartDeposit account c block) move is =
      let s = accepted_calls_show tests rules log (StartDeposit account c block) is in
      record {
        coin = s.coin;
        there = s.there;
        not_withdrawn = s.not_withdrawn;
        at_deposit = s.at_deposit;
        owner = s.owner;
        none_stands = s.none_stands;
      }
  could-from log (StartSpend account c parent exit) move is =
      let s = accepted_calls_show tests rules log (StartSpend account c parent exit) is in
      record {
        coin = s.coin;
        there = s.there;
        not_withdrawn = s.not_withdrawn;
        committed = s.committed;
        parent_fits = s.parent_fits;
        parent_owner = s.parent_owner;
        parent_shown = s.parent_shown;
        tx = s.tx;
        shown = s.shown;
        child = s.child;
        signed = s.signed;
        owner = s.owner;
        none_stands = s.none_stands;
      }
  could-from log (After account c f spend) move is = accepted_calls_show tests rules log (After account c f spend) is
  could-from log (Between account c f spend) move is =
      accepted_calls_show tests rules log (Between account c f spend) is
  could-from log (Before account c f shown) move is =
      let s = accepted_calls_show tests rules log (Before account c f shown) is in
      record {
        exit = s.exit;
        stands = s.stands;
        in_time = s.in_time;
        before = s.before;
        owner = s.owner;
        owner_shown = s.owner_shown;
        none_there = s.none_there;
      }
  could-from log (Respond account c f n spend) move is =
      accepted_calls_show tests rules log (Respond account c f n spend) is
  could-from log (Finish account c f) move is = accepted_calls_show tests rules log (Finish account c f) is
  could-from log call move is = absurd (false≢true move)

  pub could-taken : (log : List RootCall) (account : ℕ) (call : RootCall) → CouldBe tests rules log call
      → IsBy account call → is_poor log account call ≡ false
      → is_accepted (answer_to tests rules log call) ≡ true
  unfolding CouldBe
  could-taken log account call could own rich = grind (arith, common_steps, shown_calls_are_accepted, ltb-false)

-- ---- what a call on an exit leaves

record IsSame (log other : List RootCall) : Type 0 where
  clock : now other ≡ now log
  coins : (c : ℕ) → coin_at other c ≡ coin_at log c
  roots : (n : ℕ) → root_at other n ≡ root_at log n

moved-same : (log : List RootCall) (new : RootCall) → is_move new ≡ true → IsSame log (new ∷ log)
unfolding now coin_at block_at
moved-same log call move = grind (arith, common_steps, false≢true)

-- where no exit is finished, no coin comes to be withdrawn
alive-still : (log : List RootCall) (new : RootCall) (c : ℕ) → is_finish new ≡ false
    → is_withdrawn (new ∷ log) c ≡ is_withdrawn log c
unfolding is_withdrawn
alive-still log new c none = grind (arith, common_steps, true≢false)

module _ (tests : Tests) (rules : Rules) (log other : List RootCall) (same : IsSame log other) where
  shows-still : (c : ℕ) (o : RawOpening) (tx : SignedTx) → ShowsTx tests rules log c o tx
      → ShowsTx tests rules other c o tx
  shows-still c o tx s = grind (arith, common_steps)

  tx-still : (c : ℕ) (o : RawOpening) → shown_tx tests rules other c o ≡ shown_tx tests rules log c o
  unfolding shown_tx
  tx-still c o =
      ap (option_and_then (λ (root : List ℕ). if tests.opens root c o
      then transfer_in rules.tag c o.block (leaf_in o.bytes) else None)) (same.roots o.block)

  owner-still : (c : ℕ) (shown : Shown) → shown_owner tests rules other c shown ≡ shown_owner tests rules log c shown
  owner-still c (AtDeposit block) = ap (option_map (λ (made : CoinView). made.owner)) (same.coins c)
  owner-still c (Spend opening) = ap (option_map (λ (tx : SignedTx). tx.body.to)) (tx-still c opening)

  parent-still : (made : Option CoinView) (exit : Exit) (shown : Shown)
      → is_before_parent other made exit shown ≡ is_before_parent log made exit shown
  parent-still made exit shown = grind (arith, common_steps)

  committed-still : (low n : ℕ) → is_committed_after other low n ≡ is_committed_after log low n
  committed-still low n = ap (λ (r : Option (List ℕ)). is_some r && nat_lt low n) (same.roots n)

  fits-still : (made : CoinView) (block : ℕ) (parent : Shown)
      → is_parent_of other made block parent ≡ is_parent_of log made block parent
  fits-still made block parent = grind (arith, common_steps)

  deposit-still : (account c block : ℕ) → is_withdrawn other c ≡ is_withdrawn log c
      → exit_at other c block ≡ exit_at log c block → MayStartDeposit log account c block
      → MayStartDeposit other account c block
  deposit-still account c block alive stays s = grind (arith, common_steps)

  spend-still : (account c : ℕ) (parent : Shown) (exit : RawOpening) → is_withdrawn other c ≡ is_withdrawn log c
      → exit_at other c exit.block ≡ exit_at log c exit.block → MayStartSpend tests rules log account c parent exit
      → MayStartSpend tests rules other account c parent exit
  spend-still account c parent exit alive stays s =
      grind (arith, common_steps, committed-still, fits-still, owner-still, shows-still)

  after-still : (c f : ℕ) (spend : RawOpening) → exit_at other c f ≡ exit_at log c f
      → CancelsAfter tests rules log c f spend → CancelsAfter tests rules other c f spend
  after-still c f spend stays s = grind (arith, common_steps, shows-still)

  between-still : (c f : ℕ) (spend : RawOpening) → exit_at other c f ≡ exit_at log c f
      → CancelsBetween tests rules log c f spend → CancelsBetween tests rules other c f spend
  between-still c f spend stays s = grind (arith, common_steps, shows-still)

  before-still : (c f : ℕ) (shown : Shown) → exit_at other c f ≡ exit_at log c f
      → Could tests rules log c f shown → Could tests rules other c f shown
  before-still c f shown stays s = grind (arith, common_steps, parent-still, owner-still)

  respond-still : (c f n : ℕ) (spend : RawOpening) (s : Responds tests rules log c f n spend) (exit : Exit)
      → exit_at other c f ≡ Some exit → challenge_at n exit.challenges ≡ Some s.challenge
      → exit.parent ≡ s.exit.parent → Responds tests rules other c f n spend
  respond-still c f n spend s exit stands there parent = grind (arith, common_steps, shows-still)

  finish-still : (c f : ℕ) (s : Finishes log c f) (exit : Exit) → exit_at other c f ≡ Some exit
      → exit.start ≡ s.exit.start → Finishes other c f
  finish-still c f s exit stands start = grind (arith, common_steps)

-- ---- after an answer

-- the exit after an answer: it is the same, but for the answered challenge
record IsAnswered (log : List RootCall) (new : RootCall) (m c f : ℕ) (x : Exit) : Type 0 where
  exit : Exit
  stands : exit_at (new ∷ log) c f ≡ Some exit
  start : exit.start ≡ x.start
  parent : exit.parent ≡ x.parent
  there : (n : ℕ) → (m == n) ≡ false → challenge_at n exit.challenges ≡ challenge_at n x.challenges

other-challenge : (m n : ℕ) (chs : List Challenge) → (m == n) ≡ false
    → challenge_at n (map (with_answer_at m) chs) ≡ challenge_at n chs
other-challenge m n [] apart = refl
other-challenge m n (ch ∷ chs) apart =
    (elim (ch.block == m) as (λ b. (ch.block == m) ≡ b
    → challenge_at n ((if b then record ch { answered = true } else ch) ∷ map (with_answer_at m) chs)
    ≡ (if ch.block == n then Some ch else challenge_at n chs)) [
      | true ↦ λ own.
          let off : (ch.block == n) ≡ false =
          ap (λ k. k == n) (eqb-true ch.block m own) ∙ apart in
          ap (λ (b : Bool). if b then Some (record ch { answered = true })
          else challenge_at n (map (with_answer_at m) chs)) off
          ∙ other-challenge m n chs apart
          ∙ sym (ap (λ (b : Bool). if b then Some ch else challenge_at n chs) off)
      | false ↦ λ other.
          ap (λ (o : Option Challenge). if ch.block == n then Some ch else o) (other-challenge m n chs apart)
    ]) refl

answered : (log : List RootCall) (by k g m : ℕ) (spend : RawOpening) (c f : ℕ) (x : Exit)
    → exit_at log c f ≡ Some x → IsAnswered log (Respond by k g m spend) m c f x
unfolding exits exit_at
answered log by k g m spend c f x stands =
    by_name ((k == c) && (g == f))
    (find-changed c f k g (with_answer m) (λ y. refl) (λ y. refl) (exits log))
  where
    by_name : (b : Bool) → exit_at (Respond by k g m spend ∷ log) c f
        ≡ (if b then option_map (with_answer m) (exit_at log c f) else exit_at log c f)
        → IsAnswered log (Respond by k g m spend) m c f x
    by_name true is = grind (arith, common_steps, other-challenge)
    by_name false is = grind (arith, common_steps)

-- ---- one call before another

module _ (tests : Tests) (rules : Rules) (log : List RootCall) where
  respond-after : (new : RootCall) (c f n : ℕ) (spend : RawOpening) → is_move new ≡ true
      → answers_other n new ≡ true → Responds tests rules log c f n spend
      → Responds tests rules (new ∷ log) c f n spend
  respond-after (Respond by k g m shown) c f n spend move other s =
      let a = answered log by k g m shown c f s.exit s.stands in
      respond-still tests rules log (Respond by k g m shown ∷ log) (moved-same log (Respond by k g m shown) refl)
      c f n spend s a.exit a.stands (a.there n (not-true (m == n) other) ∙ s.there) a.parent
  respond-after new c f n spend move other s = absurd (false≢true other)

  finish-after : (new : RootCall) (c f : ℕ) → is_answer new ≡ true → Finishes log c f → Finishes (new ∷ log) c f
  finish-after (Respond by k g m shown) c f answer s =
      let a = answered log by k g m shown c f s.exit s.stands in
      finish-still tests rules log (Respond by k g m shown ∷ log) (moved-same log (Respond by k g m shown) refl)
      c f s a.exit a.stands a.start
  finish-after new c f answer s = absurd (false≢true answer)

  pub still-could : (new call : RootCall) → is_move new ≡ true → Apart new call → CouldBe tests rules log call
      → CouldBe tests rules (new ∷ log) call
  unfolding CouldBe
  still-could new (StartDeposit account c block) move apart could =
      deposit-still tests rules log (new ∷ log) (moved-same log new move) account c block
      (alive-still log new c apart.1) (others_leave_exits log new c block apart.0) could
  still-could new (StartSpend account c parent exit) move apart could =
      spend-still tests rules log (new ∷ log) (moved-same log new move) account c parent exit
      (alive-still log new c apart.1) (others_leave_exits log new c exit.block apart.0) could
  still-could new (After account c f spend) move apart could =
      after-still tests rules log (new ∷ log) (moved-same log new move) c f spend
      (others_leave_exits log new c f apart) could
  still-could new (Between account c f spend) move apart could =
      between-still tests rules log (new ∷ log) (moved-same log new move) c f spend
      (others_leave_exits log new c f apart) could
  still-could new (Before account c f shown) move apart could =
      before-still tests rules log (new ∷ log) (moved-same log new move) c f shown
      (others_leave_exits log new c f apart) could
  still-could new (Respond account c f n spend) move (inl apart) could =
      respond-still tests rules log (new ∷ log) (moved-same log new move) c f n spend could could.exit
      (others_leave_exits log new c f apart ∙ could.stands) could.there refl
  still-could new (Respond account c f n spend) move (inr other) could = respond-after new c f n spend move other could
  still-could new (Finish account c f) move (inl apart) could =
      finish-still tests rules log (new ∷ log) (moved-same log new move) c f could could.exit
      (others_leave_exits log new c f apart ∙ could.stands) refl
  still-could new (Finish account c f) move (inr answer) could = finish-after new c f answer could
  still-could new call move apart could = absurd could
