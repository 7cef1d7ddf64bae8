-- Befores that are ready are accepted one after the other, where the account has the reserve.
use Rattle.money_laws.proofs.Basics.{◌≡◌, ℕ, ◌+◌, ◌≤◌, ◌==◌, Bool, true, false, if◌then◌else◌, List, [], ◌∷◌, Some, None, inl, inr, ◌⊎◌, refl, sym, subst, arith, rules, list_any, eqb-true, and_parts, false≢true, common_steps}
use Rattle.money_laws.proofs.CoinWords.{CHALLENGE_BOND, Shown, RootCall, After, Between, Before, Respond, now, block_at, coin_at, Exit, exits, exit_at, block_of, challenge_at, with_answer, Tests, Rules, shown_tx, answer_to, is_accepted, log_after, is_of_exit, takes, share_of, balance_of, accepted_calls_show, Has}
use Rattle.money_laws.proofs.WorldWords.{any-none, is_none-answered, asks, reserve, Tip, reserve_of, is_at_tip, is_same_before, is_before_at, is_free, is_before_of, is_before, BeforesAreAccepted}
use Rattle.plasma_tx.proofs.Acceptance.{shown_calls_are_accepted}
use Rattle.plasma_tx.proofs.RuleLeaves.{others_leave_exits}
use Rattle.money_laws.proofs.SumsOver.{ended, changed}
use Rattle.money_laws.proofs.Reserves.{bond_if, tip-one, Could, could-asks, could-reserve, all-less, taken, could-after}

-- ---- other calls

-- a call that takes no money
module _ (tests : Tests) (rules : Rules) (log : List RootCall) where
  free-could : (call : RootCall) (k g : ℕ) (offered : Shown) → is_free call ≡ true → is_of_exit k g call ≡ false
      → Could tests rules log k g offered → Could tests rules (call ∷ log) k g offered
  unfolding now coin_at block_at shown_tx
  free-could call k g offered free other could = grind (arith, common_steps, others_leave_exits, false≢true)

  -- an answer leaves what an exit asks
  answered-asks : (c e challenged : ℕ) (x : Exit) → asks log c e (with_answer challenged x) ≡ asks log c e x
  answered-asks c e challenged x = grind (arith, common_steps, bond_if, is_none-answered)

  free-reserve : (call : RootCall) (c e : ℕ) → is_free call ≡ true
      → is_accepted (answer_to tests rules log call) ≡ true → reserve (call ∷ log) c e ≤ reserve log c e
  unfolding exits now
  free-reserve (After by k f spend) c e free ok =
      let s = accepted_calls_show tests rules log (After by k f spend) ok in
      omega (arith, ended (asks log c e) log k f s.exit s.stands)
  free-reserve (Between by k f spend) c e free ok =
      let s = accepted_calls_show tests rules log (Between by k f spend) ok in
      omega (arith, ended (asks log c e) log k f s.exit s.stands)
  free-reserve (Respond by k f challenged spend) c e free ok =
      let s = accepted_calls_show tests rules log (Respond by k f challenged spend) ok in
      omega (
        arith,
        changed (asks log c e) log k f (with_answer challenged) s.exit s.stands,
        answered-asks c e challenged s.exit,
      )
  free-reserve call c e free ok = absurd (false≢true free)

  free-reserves : (call : RootCall) (tips : List Tip) → is_free call ≡ true
      → is_accepted (answer_to tests rules log call) ≡ true → reserve_of (call ∷ log) tips ≤ reserve_of log tips
  unfolding reserve_of
  free-reserves call [] free ok = omega arith
  free-reserves call (tip ∷ tips) free ok =
      omega (arith, free-reserve call tip.coin tip.block free ok, free-reserves call tips free ok)

  free-balance : (call : RootCall) (account : ℕ) → is_free call ≡ true
      → balance_of log account ≤ balance_of (call ∷ log) account
  unfolding balance_of takes share_of
  free-balance call account free = grind (arith, common_steps, false≢true)

-- ---- one after the other

-- the call is a Before that is accepted, but for the money
unfoldable pub CouldBe : Tests → Rules → List RootCall → RootCall → Type 0
CouldBe tests rules log (Before by c f shown) = Could tests rules log c f shown
CouldBe tests rules log call = ⊥

-- a Before of the account at one of the tips that is accepted, but for the money; none of the later ones is the same
pub record IsReady (tests : Tests) (rules : Rules) (log : List RootCall) (account : ℕ) (tips : List Tip)
    (call : RootCall) (later : List RootCall) : Type 0 where
  pub at_tip : is_before_at account tips call ≡ true
  pub could : CouldBe tests rules log call
  pub once : list_any (is_same_before call) later ≡ false

unfoldable pub AreReady : Tests → Rules → List RootCall → ℕ → List Tip → List RootCall → Type 0
AreReady tests rules log account tips [] = Unit {0}
AreReady tests rules log account tips (call ∷ calls) =
    (IsReady tests rules log account tips call calls
    ⊎ ((is_free call ≡ true) × (list_any (is_before_of call) calls ≡ false)))
    × AreReady tests rules log account tips calls

module _ (tests : Tests) (rules : Rules) (account : ℕ) (tips : List Tip) where
  -- the calls are ready after one more, where each Before of them is
  ready-still : (log : List RootCall) (new : RootCall) (calls : List RootCall)
      → ((call : RootCall) → Has calls call → CouldBe tests rules log call → CouldBe tests rules (new ∷ log) call)
      → AreReady tests rules log account tips calls → AreReady tests rules (new ∷ log) account tips calls
  unfolding AreReady
  ready-still log new [] still ready = tt
  ready-still log new (call ∷ calls) still ready = (
    elim ready.0 [
      | inl r ↦ inl (record { at_tip = r.at_tip; could = still call (inl refl) r.could; once = r.once })
      | inr free ↦ inr free
    ],
    ready-still log new calls (λ other there. still other (inr there)) ready.1,
  )

  ready-before : (log : List RootCall) (by c f : ℕ) (shown : Shown) (x : Exit) → exit_at log c f ≡ Some x
      → challenge_at (block_of shown) x.challenges ≡ None → (calls : List RootCall)
      → list_any (is_same_before (Before by c f shown)) calls ≡ false
      → AreReady tests rules log account tips calls
      → AreReady tests rules (Before by c f shown ∷ log) account tips calls
  unfolding CouldBe
  ready-before log by c f shown x stands none calls once =
      grind (arith, common_steps, ready-still, any-none, could-after)

  ready-free : (log : List RootCall) (new : RootCall) (calls : List RootCall) → is_free new ≡ true
      → list_any (is_before_of new) calls ≡ false → AreReady tests rules log account tips calls
      → AreReady tests rules (new ∷ log) account tips calls
  unfolding CouldBe
  ready-free log new calls free others = grind (arith, common_steps, ready-still, any-none, free-could)

  -- what is accepted behind a call, whether or not it is accepted
  behind : (call : RootCall) (calls log : List RootCall)
      → (is_accepted (answer_to tests rules log call) ≡ true → BeforesAreAccepted tests rules (call ∷ log) calls)
      → BeforesAreAccepted tests rules log calls
      → BeforesAreAccepted tests rules (log_after tests rules log call) calls
  unfolding log_after
  behind call calls log more same = grind (arith, common_steps)

  -- no Before takes no money
  free-not : (call : RootCall) → is_free call ≡ true → is_before call ≡ true → ⊥
  free-not (Before by c f shown) free is = false≢true free
  free-not call free is = false≢true is

  -- a Before that is ready is accepted, and leaves the reserve of the later ones
  record IsTaken (log : List RootCall) (call : RootCall) (calls : List RootCall) : Type 0 where
    accepted : is_accepted (answer_to tests rules log call) ≡ true
    enough : reserve_of (call ∷ log) tips ≤ balance_of (call ∷ log) account
    ready : AreReady tests rules (call ∷ log) account tips calls

  take : (log : List RootCall) (call : RootCall) (calls : List RootCall)
      → IsReady tests rules log account tips call calls → AreReady tests rules log account tips calls
      → reserve_of log tips ≤ balance_of log account → IsTaken log call calls
  unfolding CouldBe
  take log (Before by c f shown) calls r ready enough =
      let parts = and_parts (by == account) (list_any (is_at_tip c (block_of shown)) tips) r.at_tip in
      let is = eqb-true by account parts.0 in
      let could = r.could in
      let bond = could-reserve tests rules log c f shown could in
      let among = tip-one log c (block_of shown) tips parts.1 in
      let covered : CHALLENGE_BOND ≤ balance_of log by =
      subst (λ n. CHALLENGE_BOND ≤ balance_of log n) (sym is) (omega (arith, bond, among, enough)) in
      let less = all-less log by c f shown could.exit could.stands could.none_there
      (could-asks tests rules log c f shown could) tips parts.1 in
      let cost : balance_of (Before by c f shown ∷ log) account + CHALLENGE_BOND ≡ balance_of log account =
      subst (λ n. balance_of (Before by c f shown ∷ log) n + CHALLENGE_BOND ≡ balance_of log n) is
      (taken log by c f shown covered) in
      record {
        accepted = shown_calls_are_accepted tests rules log (Before by c f shown) (record {
          exit = could.exit;
          stands = could.stands;
          in_time = could.in_time;
          before = could.before;
          owner = could.owner;
          owner_shown = could.owner_shown;
          none_there = could.none_there;
          covered = covered;
        });
        enough = omega (arith, less, cost, enough);
        ready = ready-before log by c f shown could.exit could.stands could.none_there calls r.once ready;
      }
  take log call calls r ready enough = absurd r.could

  pub in-order : (calls log : List RootCall) → AreReady tests rules log account tips calls
      → reserve_of log tips ≤ balance_of log account → BeforesAreAccepted tests rules log calls
  unfolding AreReady BeforesAreAccepted log_after
  in-order [] log ready enough = tt
  in-order (call ∷ calls) log ready enough =
      elim ready.0 [
        | inl r ↦
            let t = take log call calls r ready.1 enough in (
              λ is. t.accepted,
              subst (λ (b : Bool). BeforesAreAccepted tests rules (if b then call ∷ log else log) calls)
                  (sym t.accepted) (in-order calls (call ∷ log) t.ready t.enough),
            )
        | inr free ↦ (
          λ is. absurd (free-not call free.0 is),
          behind call calls log
              (λ ok. in-order calls (call ∷ log) (ready-free log call calls free.0 free.1 ready.1)
              (omega (
                arith,
                enough,
                free-reserves tests rules log call tips free.0 ok,
                free-balance tests rules log call account free.0,
              )))
              (in-order calls log ready.1 enough),
        )
      ]
