-- An event of a run harms a holder exactly where it takes the coin.
use Rattle.world_laws.proofs.Basics.{◌≡◌, ◌<◌, ℕ, ◌+◌, ◌==◌, ◌&&◌, ◌||◌, not, Bool, true, false, if◌then◌else◌, List, [], ◌∷◌, Option, Some, None, refl, sym, arith, rules, find, nat_lt, nat_le, and_parts, true≢false, ltb-true, ltb-false, le-leb, eqb-true, false_from_ne_true, leb-true, common_steps}
use Rattle.world_laws.proofs.CoinWords.{EXIT_PERIOD, Owner, RootCall, Answer, Refusal, now, Exit, exits, exit_at, is_exit, Tests, Rules, is_paid, answer_to, is_accepted, decided, where_exit, finish_causes, finish_effect}
use Rattle.world_laws.proofs.WorldWords.{Event, Joins, wallet_owner, holds, is_mine, is_own, finish_harms, call_harms, is_harmed, is_others, pays_other, ends_own, takes_from, IsLegalEvent}

-- an exit that is found is of the block
exit-block : (c e : ℕ) (exits : List Exit) (exit : Exit) → find (is_exit c e) exits ≡ Some exit
    → (exit.block == e) ≡ true
exit-block c e [] exit is = absurd (cc is)
exit-block c e (first ∷ rest) exit is = grind (arith, common_steps, exit-block c e rest exit, and_parts)

not-reached : (time now : ℕ) → now < time → nat_le time now ≡ false
not-reached time now before = false_from_ne_true (nat_le time now)
    (λ reached. omega (arith, before, leb-true time now reached))

-- what both sides of the law come to, for a Finish that is answered
bools : (mine same here paid : Bool)
    → (same && (if mine then here && true && not paid else paid))
    ≡ (((same && not mine && paid) && true) || (same && here && mine && not paid))
bools mine same here paid = grind (arith, common_steps)

none-here : (one two three : Bool) → (one && two && three && false) ≡ false
none-here one two three = grind (arith, common_steps)

all-here : (one two three : Bool) → (one && two && three && true) ≡ ((false && true) || (one && two && three))
all-here one two three = grind (arith, common_steps)

module _ (tests : Tests) (rules : Rules) (log : List RootCall) (me : Owner) (c e : ℕ) where
  -- a Finish that the contract accepts
  finish-taken : (account coin block : ℕ)
      → is_accepted (answer_to tests rules log (RootCall.Finish account coin block)) ≡ true
      → call_harms tests rules log me c e (RootCall.Finish account coin block)
      ≡ ((pays_other tests rules log me c (Joins (RootCall.Finish account coin block)) && true)
      || ends_own tests rules log me c e (Joins (RootCall.Finish account coin block)))
  unfolding answer_to call_harms exit_at
  finish-taken account coin block accepted = by (exit_at log coin block) refl accepted
    where
      -- the answer where the exit may be there, and where its period is over or not
      answered : Option Exit → Answer
      answered found = where_exit found (λ exit. decided (finish_causes log exit) (finish_effect log coin exit))

      timed : Exit → Bool → Answer
      timed exit early =
          if early then Answer.Refused (Refusal.Early (exit.start + EXIT_PERIOD)) else finish_effect log coin exit

      over : (exit : Exit) → (exit.block == block) ≡ true → nat_lt (now log) (exit.start + EXIT_PERIOD) ≡ false
          → ((coin == c) && finish_harms me e (now log) (finish_effect log coin exit) (Some exit))
          ≡ ((((coin == c) && not (is_mine me exit) && is_paid (finish_effect log coin exit)) && true)
          || ((coin == c) && (block == e) && is_mine me exit && not (is_paid (finish_effect log coin exit))))
      over exit here late = grind (arith, common_steps, le-leb, ltb-false, eqb-true, bools)

      by : (found : Option Exit) → exit_at log coin block ≡ found → is_accepted (answered found) ≡ true
          → ((coin == c) && finish_harms me e (now log) (answered found) found)
          ≡ ((((coin == c) && is_others me found && is_paid (answered found)) && true)
          || ((coin == c) && (block == e) && is_own me found && not (is_paid (answered found))))
      by None none accepted = absurd (true≢false (sym accepted))
      by (Some exit) found accepted = at (nat_lt (now log) (exit.start + EXIT_PERIOD)) refl accepted
        where
          at : (early : Bool) → nat_lt (now log) (exit.start + EXIT_PERIOD) ≡ early
              → is_accepted (timed exit early) ≡ true
              → ((coin == c) && finish_harms me e (now log) (timed exit early) (Some exit))
              ≡ ((((coin == c) && not (is_mine me exit) && is_paid (timed exit early)) && true)
              || ((coin == c) && (block == e) && is_mine me exit && not (is_paid (timed exit early))))
          at true early accepted = absurd (true≢false (sym accepted))
          at false late accepted = over exit (exit-block coin block (exits log) exit found) late

  -- one that it refuses
  finish-refused : (account coin block : ℕ)
      → is_accepted (answer_to tests rules log (RootCall.Finish account coin block)) ≡ false
      → call_harms tests rules log me c e (RootCall.Finish account coin block) ≡ false
  unfolding answer_to call_harms
  finish-refused account coin block refused = grind (arith, common_steps, not-reached, ltb-true, true≢false)

  call-taken : (call : RootCall) → is_accepted (answer_to tests rules log call) ≡ true
      → call_harms tests rules log me c e call
      ≡ ((pays_other tests rules log me c (Joins call) && true) || ends_own tests rules log me c e (Joins call))
  unfolding call_harms
  call-taken call accepted = grind (arith, common_steps, all-here, finish-taken)

  call-refused : (call : RootCall) → is_accepted (answer_to tests rules log call) ≡ false
      → call_harms tests rules log me c e call ≡ false
  unfolding call_harms
  call-refused call refused = grind (arith, common_steps, none-here, finish-refused)

-- a legal event harms a holder exactly where it takes the coin
pub legal-takings : (tests : Tests) (rules : Rules) (events : List Event) (event : Event) (me : Owner) (w c e : ℕ)
    → IsLegalEvent tests rules events event → wallet_owner events w ≡ Some me → holds events w c e ≡ true
    → is_harmed tests rules events w c e event ≡ takes_from tests rules events me w c e event
legal-takings tests rules events event me w c e legal owner held = grind (arith, common_steps, call-taken, call-refused)
