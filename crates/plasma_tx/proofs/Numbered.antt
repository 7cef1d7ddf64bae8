-- The clock is the last Tick; a block's number is its call's place, and a coin's its Deposit's.
use Rattle.plasma_tx.proofs.Words.{◌≡◌, ℕ, ◌+◌, ◌==◌, if◌then◌else◌, List, [], ◌∷◌, ◌++◌, length, slice_get, Option, Some, None, refl, sym, ap, ◌∙◌, arith, cases_eq, eq-eqb, ne_eqb, length-append, reverse-append, append-nil, filter-append, common_steps, RootCall, Tick, Deposit, Commit, BlockView, Root, now, blocks, coins, block_at, coin_at, ClocksAreTicks, is_block_call, block_calls, blocks_made, coins_made, BlocksAreCalls, CoinsAreDeposits}
use Rattle.plasma_tx.proofs.Keeps.{slice_get-push}

-- ---- the clock

pub clocks-are : ClocksAreTicks
unfolding now
clocks-are [] = refl
clocks-are (Tick time ∷ log) = refl
clocks-are (call ∷ log) = clocks-are log

-- ---- lists that grow at their end

-- the calls of a longer log are those of the log, and its new call where that makes a block
calls-cons : (call : RootCall) (log : List RootCall)
    → block_calls (call ∷ log) ≡ block_calls log ++ (if is_block_call call then call ∷ [] else [])
calls-cons call log = grind (arith, common_steps, reverse-append, filter-append) steps 20000

-- the coins made by calls that end in others
coins-append : (n : ℕ) (calls others : List RootCall)
    → coins_made n (calls ++ others) ≡ coins_made n calls ++ coins_made (n + length calls) others
unfolding coins_made
coins-append n [] others = let e : n ≡ n + 0 = omega arith in ap (λ m. coins_made m others) e
coins-append n (Deposit account amount key ∷ calls) others =
    grind (arith, common_steps, coins-append (n + 1) calls others) steps 20000
coins-append n (call ∷ calls) others = grind (arith, common_steps, coins-append (n + 1) calls others) steps 20000

-- the blocks too, where the coins are counted
blocks-append : (c n : ℕ) (calls others : List RootCall)
    → blocks_made c (calls ++ others) ≡ blocks_made c calls ++ blocks_made (c + length (coins_made n calls)) others
unfolding blocks_made coins_made
blocks-append c n [] others = let e : c ≡ c + 0 = omega arith in ap (λ m. blocks_made m others) e
blocks-append c n (Deposit account amount key ∷ calls) others =
    grind (arith, common_steps, blocks-append (c + 1) (n + 1) calls others) steps 20000
blocks-append c n (Commit account root ∷ calls) others =
    ap (λ (items : List BlockView). Root root ∷ items) (blocks-append c (n + 1) calls others)
blocks-append c n (call ∷ calls) others = blocks-append c (n + 1) calls others

-- ---- how many there are

pub blocks-count : (log : List RootCall) → blocks log ≡ length (block_calls log)
unfolding blocks
blocks-count [] = refl
blocks-count (Deposit account amount key ∷ log) =
    grind (arith, common_steps, blocks-count log, calls-cons, length-append) steps 20000
blocks-count (Commit account root ∷ log) =
    grind (arith, common_steps, blocks-count log, calls-cons, length-append) steps 20000
blocks-count (call ∷ log) = blocks-count log ∙ ap length (sym (calls-cons call log ∙ append-nil (block_calls log)))

-- what a longer log has made, after what the log has
coins-cons : (call : RootCall) (log : List RootCall) → coins_made 1 (block_calls (call ∷ log))
    ≡ coins_made 1 (block_calls log)
    ++ coins_made (1 + length (block_calls log)) (if is_block_call call then call ∷ [] else [])
coins-cons call log = grind (arith, common_steps, calls-cons, coins-append) steps 20000

blocks-cons : (call : RootCall) (log : List RootCall) → blocks_made 1 (block_calls (call ∷ log))
    ≡ blocks_made 1 (block_calls log)
    ++ blocks_made (1 + length (coins_made 1 (block_calls log))) (if is_block_call call then call ∷ [] else [])
blocks-cons call log = grind (arith, common_steps, calls-cons, blocks-append) steps 20000

pub coins-count : (log : List RootCall) → coins log ≡ length (coins_made 1 (block_calls log))
unfolding coins coins_made
coins-count [] = refl
coins-count (Deposit account amount key ∷ log) =
    grind (arith, common_steps, coins-count log, coins-cons, length-append) steps 20000
coins-count (Commit account root ∷ log) =
    grind (arith, common_steps, coins-count log, coins-cons, append-nil) steps 20000
coins-count (call ∷ log) =
    coins-count log ∙ ap length (sym (coins-cons call log ∙ append-nil (coins_made 1 (block_calls log))))

made-count : (log : List RootCall) → length (blocks_made 1 (block_calls log)) ≡ blocks log
unfolding blocks blocks_made
made-count [] = refl
made-count (Deposit account amount key ∷ log) =
    grind (arith, common_steps, made-count log, blocks-cons, length-append) steps 20000
made-count (Commit account root ∷ log) =
    grind (arith, common_steps, made-count log, blocks-cons, length-append) steps 20000
made-count (call ∷ log) =
    ap length (blocks-cons call log ∙ append-nil (blocks_made 1 (block_calls log))) ∙ made-count log

-- ---- what they are

-- a new item has the next number
push-number : {A : Type 0} (items : List A) (item : A) (count n : ℕ) (before : Option A) → length items ≡ count
    → before ≡ slice_get items n
    → (if n + 1 == count + 1 then Some item else before) ≡ slice_get (items ++ item ∷ []) n
push-number items item count n before long is =
    grind (arith, common_steps, cases_eq, eq-eqb, slice_get-push, ne_eqb) steps 20000

coins-none : (log : List RootCall) → coin_at log 0 ≡ None
unfolding coin_at
coins-none [] = refl
coins-none (Deposit account amount key ∷ log) = grind (arith, common_steps, coins-none log, ne_eqb) steps 20000
coins-none (call ∷ log) = coins-none log

coins-numbered : (log : List RootCall) (c : ℕ) → coin_at log (c + 1) ≡ slice_get (coins_made 1 (block_calls log)) c
unfolding coin_at coins_made
coins-numbered [] c = refl
coins-numbered (Deposit account amount key ∷ log) c =
    let made = coins_made 1 (block_calls log) in
    let e : 1 + length (block_calls log) ≡ blocks log + 1 = omega (arith, blocks-count log) in
    grind (arith, common_steps, coins-numbered log c, push-number, coins-count, coins-cons) steps 20000
coins-numbered (Commit account root ∷ log) c =
    grind (arith, common_steps, coins-numbered log c, coins-cons, append-nil) steps 20000
coins-numbered (call ∷ log) c = grind (arith, common_steps, coins-numbered log c, coins-cons, append-nil) steps 20000

blocks-none : (log : List RootCall) → block_at log 0 ≡ None
unfolding block_at
blocks-none [] = refl
blocks-none (Deposit account amount key ∷ log) = grind (arith, common_steps, blocks-none log, ne_eqb) steps 20000
blocks-none (Commit account root ∷ log) = grind (arith, common_steps, blocks-none log, ne_eqb) steps 20000
blocks-none (call ∷ log) = blocks-none log

blocks-numbered : (log : List RootCall) (n : ℕ) → block_at log (n + 1) ≡ slice_get (blocks_made 1 (block_calls log)) n
unfolding block_at blocks_made
blocks-numbered [] n = refl
blocks-numbered (Deposit account amount key ∷ log) n =
    let made = blocks_made 1 (block_calls log) in
    let e : 1 + length (coins_made 1 (block_calls log)) ≡ coins log + 1 = omega (arith, coins-count log) in
    grind (arith, common_steps, blocks-numbered log n, push-number, made-count, blocks-cons) steps 20000
blocks-numbered (Commit account root ∷ log) n =
    grind (arith, common_steps, blocks-numbered log n, push-number, made-count, blocks-cons) steps 20000
blocks-numbered (call ∷ log) n = grind (arith, common_steps, blocks-numbered log n, blocks-cons, append-nil) steps 20000

-- ---- the laws

pub blocks-are : BlocksAreCalls
blocks-are log = (blocks-count log, (blocks-none log, blocks-numbered log))

pub coins-are : CoinsAreDeposits
coins-are log = (coins-count log, (coins-none log, coins-numbered log))
