-- A lean log says of the exits what the log says beside which it is followed.
use Rattle.coin_safety.proofs.Words.{◌≡◌, ℕ, ◌+◌, ◌==◌, true, false, if◌then◌else◌, List, [], ◌∷◌, Some, refl, sym, ap, ◌∙◌, subst, eqb-true, true≢false, RootCall, Fund, Tick, Deposit, Commit, StartDeposit, StartSpend, After, Between, Before, Respond, Finish, Standing, new_exit, standing_after, change_of, standing_of, now, blocks, coins, coin_at, exits, exits_of, responses, is_withdrawn, block_of, after-change, eqb-flip, lean, concerns, Follows, FollowsAll}
use Rattle.plasma_tx.specs.declared.standing.Change.{Change}
use Rattle.plasma_tx.specs.declared.standing.Change.TheVariants.{Start, Cancel, Challenge, Respond as Answer, Finish as End}

change-lean : (time : ℕ) (call : RootCall) → change_of time (lean call) ≡ change_of time call
change-lean time (Fund account amount) = refl
change-lean time (Tick t) = refl
change-lean time (Deposit account amount key) = refl
change-lean time (Commit account root) = refl
change-lean time (StartDeposit account coin block) = refl
change-lean time (StartSpend account coin parent exit) = refl
change-lean time (After account coin exit spend) = refl
change-lean time (Between account coin exit spend) = refl
change-lean time (Before account coin exit shown) = refl
change-lean time (Respond account coin exit challenged spend) = refl
change-lean time (Finish account coin exit) = refl

module _ (log other : List RootCall) (c : ℕ) (same : Follows log other c) where
  -- what the change makes of the coin
  abbrev made : List RootCall → ℕ × Change → Standing
  made of p = if c == p.0 then standing_after p.0 p.1 (standing_of of p.0) else standing_of of c

  made-same : (p : ℕ × Change) → made other p ≡ made log p
  made-same p =
      (elim (c == p.0) as (λ b. (c == p.0) ≡ b
      → (if b then standing_after p.0 p.1 (standing_of other p.0) else standing_of other c)
      ≡ (if b then standing_after p.0 p.1 (standing_of log p.0) else standing_of log c)) [
        | true ↦ λ is. ap (standing_after p.0 p.1)
            (subst (λ k. standing_of other k ≡ standing_of log k) (eqb-true c p.0 is) same.standing)
        | false ↦ λ isnt. same.standing
      ]) refl

  changed : (call : RootCall) (p : ℕ × Change) → change_of (now log) call ≡ Some p
      → standing_of (lean call ∷ other) c ≡ standing_of (call ∷ log) c
  changed call p is =
      after-change other (lean call) p
      (change-lean (now other) call ∙ ap (λ t. change_of t call) same.clock ∙ is) c
      ∙ made-same p ∙ sym (after-change log call p is c)

  unconcerned : (call : RootCall) (p : ℕ × Change) → change_of (now log) call ≡ Some p → (p.0 == c) ≡ false
      → standing_of other c ≡ standing_of (call ∷ log) c
  unconcerned call p is apart =
      same.standing
      ∙ ap (λ b. if b then standing_after p.0 p.1 (standing_of log p.0) else standing_of log c)
      (sym (eqb-flip c p.0 ∙ apart))
      ∙ sym (after-change log call p is c)

  pub follows-push : (call : RootCall) → Follows (call ∷ log) (lean call ∷ other) c
  unfolding now exits exits_of responses is_withdrawn
  follows-push (Fund account amount) = record { clock = same.clock; standing = same.standing }
  follows-push (Tick time) = record { clock = refl; standing = same.standing }
  follows-push (Deposit account amount key) = record { clock = same.clock; standing = same.standing }
  follows-push (Commit account root) = record { clock = same.clock; standing = same.standing }
  follows-push (StartDeposit account coin block) = record {
    clock = same.clock;
    standing = changed (StartDeposit account coin block) (coin, Start (new_exit block 0 (now log) account)) refl;
  }
  follows-push (StartSpend account coin parent exit) = record {
    clock = same.clock;
    standing = changed (StartSpend account coin parent exit)
        (coin, Start (new_exit exit.block (block_of parent) (now log) account)) refl;
  }
  follows-push (After account coin exit spend) = record {
    clock = same.clock;
    standing = changed (After account coin exit spend) (coin, Cancel exit) refl;
  }
  follows-push (Between account coin exit spend) = record {
    clock = same.clock;
    standing = changed (Between account coin exit spend) (coin, Cancel exit) refl;
  }
  follows-push (Before account coin exit shown) = record {
    clock = same.clock;
    standing = changed (Before account coin exit shown)
        (coin, Challenge exit (block_of shown) account (now log)) refl;
  }
  follows-push (Respond account coin exit challenged spend) = record {
    clock = same.clock;
    standing = changed (Respond account coin exit challenged spend) (coin, Answer exit challenged) refl;
  }
  follows-push (Finish account coin exit) = record {
    clock = same.clock;
    standing = changed (Finish account coin exit) (coin, End exit) refl;
  }

  pub follows-skip : (call : RootCall) → concerns c call ≡ false → Follows (call ∷ log) other c
  unfolding now exits exits_of responses is_withdrawn
  follows-skip (Fund account amount) apart = record { clock = same.clock; standing = same.standing }
  follows-skip (Tick time) apart = absurd (true≢false apart)
  follows-skip (Deposit account amount key) apart = record { clock = same.clock; standing = same.standing }
  follows-skip (Commit account root) apart = record { clock = same.clock; standing = same.standing }
  follows-skip (StartDeposit account coin block) apart = record {
    clock = same.clock;
    standing = unconcerned (StartDeposit account coin block)
        (coin, Start (new_exit block 0 (now log) account)) refl apart;
  }
  follows-skip (StartSpend account coin parent exit) apart = record {
    clock = same.clock;
    standing = unconcerned (StartSpend account coin parent exit)
        (coin, Start (new_exit exit.block (block_of parent) (now log) account)) refl apart;
  }
  follows-skip (After account coin exit spend) apart = record {
    clock = same.clock;
    standing = unconcerned (After account coin exit spend) (coin, Cancel exit) refl apart;
  }
  follows-skip (Between account coin exit spend) apart = record {
    clock = same.clock;
    standing = unconcerned (Between account coin exit spend) (coin, Cancel exit) refl apart;
  }
  follows-skip (Before account coin exit shown) apart = record {
    clock = same.clock;
    standing = unconcerned (Before account coin exit shown)
        (coin, Challenge exit (block_of shown) account (now log)) refl apart;
  }
  follows-skip (Respond account coin exit challenged spend) apart = record {
    clock = same.clock;
    standing = unconcerned (Respond account coin exit challenged spend) (coin, Answer exit challenged) refl apart;
  }
  follows-skip (Finish account coin exit) apart = record {
    clock = same.clock;
    standing = unconcerned (Finish account coin exit) (coin, End exit) refl apart;
  }

pub follows-none : (c : ℕ) → Follows [] [] c
follows-none c = record { clock = refl; standing = refl }

-- the call is followed where it concerns the coin
pub follows-next : (log other next : List RootCall) (c : ℕ) (call : RootCall) → Follows log other c
    → next ≡ (if concerns c call then lean call ∷ other else other) → Follows (call ∷ log) next c
follows-next log other next c call same is =
    subst (λ l. Follows (call ∷ log) l c) (sym is)
    ((elim (concerns c call) as (λ b. concerns c call ≡ b
    → Follows (call ∷ log) (if b then lean call ∷ other else other) c) [
      | true ↦ λ near. follows-push log other c same call
      | false ↦ λ apart. follows-skip log other c same call apart
    ]) refl)

-- ---- all coins

pub all-none : FollowsAll [] []
all-none = record { each = follows-none; block_count = refl; coin_count = refl; coins_are = λ c. refl }

coins-push : (log other : List RootCall) (call : RootCall) → FollowsAll log other
    → (blocks (lean call ∷ other) ≡ blocks (call ∷ log)) × (coins (lean call ∷ other) ≡ coins (call ∷ log))
    × ((c : ℕ) → coin_at (lean call ∷ other) c ≡ coin_at (call ∷ log) c)
unfolding blocks coins coin_at
coins-push log other (Deposit account amount key) f = (
  ap (λ n. n + 1) f.block_count,
  ap (λ n. n + 1) f.coin_count,
  λ c i. if c == f.coin_count i + 1 then Some (record {
    deposit = f.block_count i + 1;
    amount = amount;
    owner = record { account = account; key = key };
  }) else f.coins_are c i,
)
coins-push log other (Commit account root) f = (ap (λ n. n + 1) f.block_count, f.coin_count, f.coins_are)
coins-push log other (Fund account amount) f = (f.block_count, f.coin_count, f.coins_are)
coins-push log other (Tick time) f = (f.block_count, f.coin_count, f.coins_are)
coins-push log other (StartDeposit account coin block) f = (f.block_count, f.coin_count, f.coins_are)
coins-push log other (StartSpend account coin parent exit) f = (f.block_count, f.coin_count, f.coins_are)
coins-push log other (After account coin exit spend) f = (f.block_count, f.coin_count, f.coins_are)
coins-push log other (Between account coin exit spend) f = (f.block_count, f.coin_count, f.coins_are)
coins-push log other (Before account coin exit shown) f = (f.block_count, f.coin_count, f.coins_are)
coins-push log other (Respond account coin exit challenged spend) f = (f.block_count, f.coin_count, f.coins_are)
coins-push log other (Finish account coin exit) f = (f.block_count, f.coin_count, f.coins_are)

pub all-push : (log other : List RootCall) (call : RootCall) → FollowsAll log other
    → FollowsAll (call ∷ log) (lean call ∷ other)
all-push log other call f =
    let more = coins-push log other call f in
    record {
      each = λ c. follows-push log other c (f.each c) call;
      block_count = more.0;
      coin_count = more.1;
      coins_are = more.2;
    }
