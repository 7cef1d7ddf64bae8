-- What is kept beside the calls stays what the views have.
use Rattle.plasma_tx.proofs.Words.{◌≡◌, ℕ, zero, suc, ◌+◌, ◌==◌, Bool, true, cond, ◌||◌, if◌then◌else◌, List, [], ◌∷◌, ◌++◌, length, Some, None, refl, sym, ap, subst, ◌∙◌, arith, slice_get, nat_cmp, slice_cmp, BTreeMap, is_at, BTreeSet, contains, IsOrdered, cases_eq, eq-eqb, ne_eqb, length-append, common_steps, RootCall, Fund, Tick, Deposit, Commit, DepositOf, Root, CoinView, States, Change, now, blocks, coins, block_at, new_coin, coin_at, exits, responses, exits_of, is_withdrawn, has_exits, is_root_committed, deposits_of, no_standing, standing_after, change_of, item_at, standing_in, deposits_in, AreExiting, Keeps}
use Rattle.std.specs.List.Sorted.{IsStrictlySortedBy}
use Rattle.std.proofs.lemmas.Map.Text.{is_eq-slice_cmp}
use Rattle.plasma_tx.specs.declared.kept.Kept.{Kept}
use Rattle.plasma_tx.proofs.CoinExits.{after-change}

pub slice_get-push : {X : Type 0} (xs : List X) (x : X) (m : ℕ) → slice_get (xs ++ x ∷ []) m
    ≡ (if m == length xs then Some x else slice_get xs m)
slice_get-push [] x zero = refl
slice_get-push [] x (suc m) = simp (ne_eqb (suc m) 0 (omega arith))
slice_get-push (y ∷ ys) x zero = simp (ne_eqb 0 (suc (length ys)) (omega arith))
slice_get-push (y ∷ ys) x (suc m) =
    grind (arith, common_steps, slice_get-push ys x m, cases_eq, eq-eqb, ne_eqb) steps 20000

-- a new item has the next number
pub item_at-push : {X : Type 0} (items : List X) (item : X) (n : ℕ) → item_at (items ++ item ∷ []) n
    ≡ (if n == length items + 1 then Some item else item_at items n)
item_at-push items item n = grind (arith, common_steps, cases_eq, ne_eqb, eq-eqb, slice_get-push) steps 20000

-- the same states, and the same coins
same-exiting : (old new : States) (before after : BTreeSet ℕ)
    → ((c : ℕ) → standing_in new c ≡ standing_in old c) → after ≡ before
    → AreExiting old before → AreExiting new after
same-exiting old new before after states exiting are c =
    ap (λ (s : BTreeSet ℕ). contains nat_cmp s c) exiting ∙ are c ∙ sym (λ i. has_exits (states c i).exits)

-- a set with one more root, and a log with one more Commit
one-more : (at is had has : Bool) → at ≡ is → had ≡ has → cond at true had ≡ (is || has)
one-more at is had has same before = grind (arith, common_steps) steps 20000

-- an account with one more coin
one-more-coin : (account number next : ℕ) (had of : ℕ → List ℕ) (a : ℕ) → number ≡ next
    → ((b : ℕ) → had b ≡ of b)
    → (if a == account then had account ++ number ∷ [] else had a) ≡ (if a == account then of a ++ next ∷ [] else of a)
one-more-coin account number next had of a is same = grind (arith, common_steps, cases_eq, eq-eqb, ne_eqb) steps 20000

-- each part of what is kept after a call
pub keeps-Fund : (log : List RootCall) (account amount : ℕ) (old : Kept) → Keeps log old
    → Keeps (Fund account amount ∷ log) old
unfolding now blocks coins block_at coin_at deposits_of exits responses exits_of is_withdrawn
keeps-Fund log account amount old k = grind (arith, common_steps) steps 20000

pub keeps-Tick : (log : List RootCall) (time : ℕ) (old : Kept) → Keeps log old
    → Keeps (Tick time ∷ log) (record old { clock = time })
unfolding now blocks coins block_at coin_at deposits_of exits responses exits_of is_withdrawn
keeps-Tick log time old k = grind (arith, common_steps) steps 20000

pub keeps-Deposit : (log : List RootCall) (account amount : ℕ) (key : List ℕ) (old new : Kept) (coin : CoinView)
    (number : ℕ)
    → new.clock ≡ old.clock → ((c : ℕ) → standing_in new.states c ≡ standing_in old.states c)
    → new.exiting ≡ old.exiting → new.roots ≡ old.roots
    → coin ≡ record {
      deposit = length old.blocks.items + 1;
      amount = amount;
      owner =
          record { account = account; key = key };
    }
    → number ≡ length old.coins.items + 1
    → new.coins.items ≡ old.coins.items ++ coin ∷ [] → new.blocks.items ≡ old.blocks.items ++ DepositOf number ∷ []
    → ((a : ℕ) → deposits_in new.deposits a ≡ (if a == account then deposits_in old.deposits account ++ number ∷ []
    else deposits_in old.deposits a))
    → Keeps log old → Keeps (Deposit account amount key ∷ log) new
unfolding now blocks coins block_at coin_at deposits_of exits responses exits_of is_withdrawn
keeps-Deposit log account amount key old new coin number clock states exiting roots made counted coins_are blocks_are
    deposited k =
    let coin_is : coin ≡ new_coin log account amount key = grind (arith, common_steps) steps 20000 in
    let number_is : number ≡ coins log + 1 = counted ∙ ap (λ n. n + 1) k.coin_count in
    record {
      clock = clock ∙ k.clock;
      block_count = grind (arith, common_steps, length-append) steps 20000;
      blocks_are = λ n. grind (arith, common_steps, item_at-push) steps 20000;
      coin_count = grind (arith, common_steps, length-append) steps 20000;
      coins_are = λ c. grind (arith, common_steps, item_at-push) steps 20000;
      states_are = λ c. states c ∙ k.states_are c;
      exiting_are = same-exiting old.states new.states old.exiting new.exiting states exiting k.exiting_are;
      exiting_rise = subst (λ (s : BTreeSet ℕ). IsOrdered nat_cmp s) (sym exiting) k.exiting_rise;
      roots_are = grind (arith, common_steps) steps 20000;
      deposits_are = λ a. grind (arith, common_steps, one-more-coin) steps 20000;
    }

pub keeps-Commit : (log : List RootCall) (account : ℕ) (root : List ℕ) (old new : Kept)
    → new.clock ≡ old.clock → new.states ≡ old.states → new.exiting ≡ old.exiting → new.coins ≡ old.coins
    → new.deposits ≡ old.deposits → new.blocks.items ≡ old.blocks.items ++ Root root ∷ []
    → ((other : List ℕ) → contains (slice_cmp nat_cmp) new.roots other
    ≡ cond (is_at (slice_cmp nat_cmp root) other) true (contains (slice_cmp nat_cmp) old.roots other))
    → Keeps log old → Keeps (Commit account root ∷ log) new
unfolding now blocks coins block_at coin_at deposits_of exits responses exits_of is_withdrawn
keeps-Commit log account root old new clock states exiting coins_same deposits blocks_are added k = record {
  clock = clock ∙ k.clock;
  block_count = grind (arith, common_steps, length-append) steps 20000;
  blocks_are = grind (arith, common_steps, item_at-push) steps 20000;
  coin_count = ap (λ (v : _). length v.items) coins_same ∙ k.coin_count;
  coins_are = λ c. ap (λ (v : _). item_at v.items c) coins_same ∙ k.coins_are c;
  states_are = λ c. ap (λ (m : States). standing_in m c) states ∙ k.states_are c;
  exiting_are = same-exiting old.states new.states old.exiting new.exiting
      (λ c. ap (λ (m : States). standing_in m c) states) exiting k.exiting_are;
  exiting_rise = subst (λ (s : BTreeSet ℕ). IsOrdered nat_cmp s) (sym exiting) k.exiting_rise;
  roots_are = grind (arith, common_steps, one-more, is_eq-slice_cmp) steps 20000;
  deposits_are = λ a. ap (λ (m : BTreeMap ℕ (List ℕ)). deposits_in m a) deposits ∙ k.deposits_are a;
}

-- the other calls change no block, no coin and no clock
record IsQuiet (log : List RootCall) (call : RootCall) : Type 0 where
  clock : now (call ∷ log) ≡ now log
  blocks_same : blocks (call ∷ log) ≡ blocks log
  block_same : (n : ℕ) → block_at (call ∷ log) n ≡ block_at log n
  coins_same : coins (call ∷ log) ≡ coins log
  coin_same : (c : ℕ) → coin_at (call ∷ log) c ≡ coin_at log c
  roots_same : (root : List ℕ) → is_root_committed (call ∷ log) root ≡ is_root_committed log root
  deposits_same : (a : ℕ) → deposits_of (call ∷ log) a ≡ deposits_of log a

quiet : (log : List RootCall) (call : RootCall) (p : ℕ × Change) → change_of (now log) call ≡ Some p → IsQuiet log call
unfolding now blocks coins block_at coin_at deposits_of
quiet log (Fund account amount) p is = absurd (cc is)
quiet log (Tick time) p is = absurd (cc is)
quiet log (Deposit account amount key) p is = absurd (cc is)
quiet log (Commit account root) p is = absurd (cc is)
quiet log call p is = grind (arith, common_steps) steps 20000

pub keeps-change : (log : List RootCall) (call : RootCall) (coin : ℕ) (change : Change) (old : Kept)
    (states : States) (exiting : BTreeSet ℕ)
    → change_of old.clock call ≡ Some (coin, change)
    → ((c : ℕ) → standing_in states c
    ≡ (if c == coin then standing_after coin change (standing_in old.states coin) else standing_in old.states c))
    → (AreExiting old.states old.exiting → AreExiting states exiting) → IsOrdered nat_cmp exiting
    → Keeps log old → Keeps (call ∷ log) (record old { states = states; exiting = exiting })
keeps-change log call coin change old states exiting is becomes are rise k =
    let is_now : change_of (now log) call ≡ Some (coin, change) = ap (λ time. change_of time call) (sym k.clock) ∙ is in
    let same = quiet log call (coin, change) is_now in
    record {
      clock = k.clock ∙ sym same.clock;
      block_count = k.block_count ∙ sym same.blocks_same;
      blocks_are = λ n. k.blocks_are n ∙ sym (same.block_same n);
      coin_count = k.coin_count ∙ sym same.coins_same;
      coins_are = λ c. k.coins_are c ∙ sym (same.coin_same c);
      states_are = λ c. becomes c
          ∙ (λ i. if c == coin then standing_after coin change (k.states_are coin i) else k.states_are c i)
          ∙ sym (after-change log call (coin, change) is_now c);
      exiting_are = are k.exiting_are;
      exiting_rise = rise;
      roots_are = λ root. k.roots_are root ∙ sym (same.roots_same root);
      deposits_are = λ a. k.deposits_are a ∙ sym (same.deposits_same a);
    }

-- what is kept of no calls
pub keeps-nothing : (kept : Kept) → kept.clock ≡ 0 → kept.blocks.items ≡ [] → kept.coins.items ≡ []
    → ((c : ℕ) → standing_in kept.states c ≡ no_standing) → kept.exiting.keys ≡ [] → kept.roots.keys ≡ []
    → kept.deposits.entries ≡ [] → Keeps [] kept
unfolding now blocks coins block_at coin_at deposits_of exits responses exits_of is_withdrawn IsStrictlySortedBy
keeps-nothing kept clock no_blocks no_coins no_states no_exits no_roots no_deposits =
    grind (arith, common_steps) steps 20000

-- a call that changes no exit, and is neither a Tick nor a block, changes nothing that is kept
pub keeps-none : (log : List RootCall) (call : RootCall) (time : ℕ) (old : Kept) → ((t : ℕ) → call ≡ Tick t → ⊥)
    → ((account amount : ℕ) (key : List ℕ) → call ≡ Deposit account amount key → ⊥)
    → ((account : ℕ) (root : List ℕ) → call ≡ Commit account root → ⊥) → change_of time call ≡ None → Keeps log old
    → Keeps (call ∷ log) old
keeps-none log (Fund account amount) time old tick deposit commit is k = keeps-Fund log account amount old k
keeps-none log (Tick t) time old tick deposit commit is k = absurd (tick t refl)
keeps-none log (Deposit account amount key) time old tick deposit commit is k = absurd (deposit account amount key refl)
keeps-none log (Commit account root) time old tick deposit commit is k = absurd (commit account root refl)
keeps-none log call time old tick deposit commit is h = absurd (cc is)
