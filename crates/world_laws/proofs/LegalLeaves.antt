-- What a wallet's leave and its watch offer is legal: the start of the exit of a coin at its top, and what is due for
-- the coins that it holds there.
use Rattle.world_laws.proofs.Basics.{◌≡◌, ◌≢◌, ℕ, zero, suc, ◌+◌, ◌<◌, ◌≤◌, List, Option, Some, None, Ok, inl, inr, sym, subst, arith, rules, ◌∙◌, [], Result, range_with_len, Contains, cases_eq, common_steps, has-in-flat_map, option_map_or}
use Rattle.world_laws.proofs.CoinWords.{Owner, RootCall, coins, coin_at, Bundle, Rules, coin_at-le, IsTip, Has, has-contains, contains-has, has-flat_map, Links, due_of}
use Rattle.world_laws.proofs.NodeWords.{WalletRefusal, kept_links, due_for_kept, owner_of, WalletRecords, who, noted, coin_state, links_at, exit_start, leave_effect, due_at, due_in, watch_answer, kept_at, links-some}
use Rattle.world_laws.proofs.WorldWords.{Event, log_of, wallet_owner, accepted, said, KeptWallet, are_kept, IsGuarding, ShowsGuard, ShowsTip, LegalWatch, LegalLeave, coin_at-positive}
use Rattle.world_laws.proofs.GuardsShown.{AreShown}
use Rattle.world_laws.proofs.AcceptsShown.{node_with, accepted_in}
use Rattle.world_laws.proofs.AtTops.{IsShownAt, IsHeldAt, held-at-tip, top-held, held-top, shown-at}

-- ---- the coins of a log

range-has : (a n x : ℕ) → a ≤ x → x < a + n → Has (range_with_len a n) x
range-has a zero x low high = absurd (omega (arith, low, high))
range-has a (suc n) x low high = elim (cases_eq a x) [
  | inl same ↦ inl same
  | inr other ↦ inr (range-has (a + 1) n x (omega (arith, low, other)) (omega (arith, high)))
]

coin-among : (log : List RootCall) (c : ℕ) → coin_at log c ≢ None → Has (range_with_len 1 (coins log)) c
coin-among log c there = grind (arith, common_steps, range-has, coin_at-positive, coin_at-le)

-- a start that is answered
as_answer : RootCall → Result RootCall WalletRefusal
as_answer call = Ok call

answer-same : (one other : RootCall) → as_answer one ≡ Ok other → one ≡ other
unfolding as_answer
answer-same one other is = cc is

-- ---- a wallet's node

-- what is known of a wallet by its records, behind events: these say what the records are, and show what they accept
module _ (dig : List ℕ → List ℕ) (rules : Rules) (events : List Event) (log : List RootCall)
    (log_is : log ≡ log_of events) (n : ℕ) (wallet : WalletRecords) (own : KeptWallet dig (said events n) log wallet)
    (tag_is : (who wallet).tag ≡ rules.tag)
    (accepts : AreShown rules.tag (accepted events n) (accepted_in dig wallet.notes)) where
  abbrev tag : List ℕ
  tag = rules.tag

  abbrev account : ℕ
  account = (who wallet).account

  abbrev me : Owner
  me = owner_of (who wallet)

  abbrev IsHeld : ℕ → ℕ → Type 0
  IsHeld c e = IsHeldAt dig events tag log log_is n wallet own c e

  me-is : wallet_owner events n ≡ Some me
  me-is = (are_kept dig events log n (node_with wallet) log_is own).owner

  held-tip-is : (c e : ℕ) → IsHeld c e → IsTip (noted dig wallet) log c e
  held-tip-is c e held = held-at-tip dig events tag log log_is n wallet own c e held

  -- what shows a coin that the wallet holds or leaves with
  shown : (c e : ℕ) → IsHeld c e → IsShownAt dig events tag n wallet c e
  shown c e held = shown-at dig events tag log log_is n wallet own accepts c e (held-tip-is c e held)

  -- its links are those of what the wallet keeps
  links-shown : (c e : ℕ) (by : IsShownAt dig events tag n wallet c e)
      → kept_links tag (log_of events) by.bundle ≡ links_at dig wallet log c e
  links-shown c e by =
      by.links (log_of events)
      ∙ (λ i. kept_links (sym tag_is i) (sym log_is i) (kept_at dig wallet c e))

  -- so is what is due
  due-shown : (c e : ℕ) (by : IsShownAt dig events tag n wallet c e)
      → due_for_kept tag (log_of events) account by.bundle ≡ due_at dig wallet log c e
  due-shown c e by = λ i.
      option_map_or (λ (links : Links). due_of (sym log_is i) account (record { links = links }))
      (links-shown c e by i) []

  -- ---- leaves

  leave-at : (c e : ℕ) (call : RootCall) → IsHeld c e
      → exit_start dig wallet log c e ≡ Ok call → LegalLeave rules events n call
  unfolding owner_of as_answer
  leave-at c e call held is =
      let by = shown c e held in
      let found = links-some dig wallet log c e (held-tip-is c e held).exists in
      let top = held-top dig events tag log log_is n wallet own c e held in
      grind (arith, common_steps, answer-same, as_answer, me-is, links-shown)

  -- the start that a leave offers
  pub legal-left : (c : ℕ) (call : RootCall) → (leave_effect dig wallet log c).answer ≡ Ok call
      → LegalLeave rules events n call
  unfolding leave_effect
  legal-left c call is = grind (arith, common_steps, leave-at)

  -- ---- watches

  -- what is due for a coin at its tip is offered
  due-offered : (c e : ℕ) → IsHeld c e → (call : RootCall)
      → Has (due_at dig wallet log c e) call → Has (watch_answer dig wallet log) call
  unfolding watch_answer
  due-offered c e held call due =
      has-in-flat_map (λ coin. due_in dig wallet log coin (coin_state dig wallet log coin))
      (range_with_len 1 (coins log)) c call
      (coin-among log c (held-tip-is c e held).exists) (in-state held)
    where
      in-state : IsHeld c e
          → Has (due_in dig wallet log c (coin_state dig wallet log c)) call
      in-state (inl holds) = subst (λ state. Has (due_in dig wallet log c state) call) (sym holds) due
      in-state (inr leaves) = subst (λ state. Has (due_in dig wallet log c state) call) (sym leaves) due

  -- and what is offered is due for one
  record IsOfHeld (call : RootCall) : Type 0 where
    c : ℕ
    e : ℕ
    held : IsHeld c e
    due : Has (due_at dig wallet log c e) call

  offered-due : (call : RootCall) → Has (watch_answer dig wallet log) call → IsOfHeld call
  unfolding watch_answer
  offered-due call has = grind (arith, has-flat_map)

  shows-guard : (bundle : Bundle) → ShowsTip events n (me) bundle
      → ShowsGuard events n (wallet_owner events n) bundle
  shows-guard bundle shows = subst (λ (o : Option Owner). ShowsGuard events n o bundle) (sym me-is) shows

  -- what a wallet's watch offers
  pub legal-wallet-watched : LegalWatch rules events n (watch_answer dig wallet log)
  legal-wallet-watched = record {
    account = account;
    all = λ c e guarding.
        let top = subst (λ (o : Option Owner). IsGuarding events n o c e) me-is guarding in
        let held = top-held dig events tag log log_is n wallet own c e top in
        let by = shown c e held in
        record {
          bundle = by.bundle;
          coin_is = by.coin_is;
          tip_is = by.tip_is;
          shows = shows-guard by.bundle by.shows;
          due = λ call due.
              has-contains (watch_answer dig wallet log) call
              (due-offered c e held call
              (contains-has (due_at dig wallet log c e) call
              (subst (λ (calls : List RootCall). Contains calls call) (due-shown c e by) due)));
        };
    only = λ call has.
        let of = offered-due call (contains-has (watch_answer dig wallet log) call has) in
        let by = shown of.c of.e of.held in
        record {
          bundle = by.bundle;
          shows = shows-guard by.bundle by.shows;
          due = subst (λ (calls : List RootCall). Contains calls call) (sym (due-shown of.c of.e by))
              (has-contains (due_at dig wallet log of.c of.e) call of.due);
        };
  }

-- ---- every run
