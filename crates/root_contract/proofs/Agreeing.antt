-- A contract's game and ledger stay what its log says.
use Rattle.root_contract.proofs.Words.{◌≡◌, ℕ, ◌+◌, ◌-◌, ◌≤◌, List, [], ◌∷◌, refl, arith, eq-eqb, common_steps, Game, slots_in, Ledger, balance_in, held_in, funded_in, HasSums, RootCall, Fund, Chain, with_log, Exit, exits, Movement, rules_of, pays, takes, releases, share_of, balance_of, held_of, funded, moved, IsLegal, MOST_MONEY, accepted_calls_show, Agrees, Changes, IsAccepted, SameMoney}
use Rattle.plasma_tx.proofs.MoneyKept.{balances_suffice, held_suffices}
use Rattle.root_contract.proofs.SlotLemmas.{SlotsAre}

pub same-slots : (chain : Chain) (old new : Game) (ledger : Ledger) → Agrees chain old ledger
    → ((coin : ℕ) → slots_in new coin ≡ slots_in old coin) → Agrees chain new ledger
same-slots chain old new ledger agrees same = grind (arith, common_steps) steps 20000

-- an accepted call makes a legal log of one
pub legal-after : (chain : Chain) (call : RootCall) → IsLegal (rules_of chain) chain.log → IsAccepted chain call
    → IsLegal (rules_of chain) (call ∷ chain.log)
unfolding IsLegal
legal-after chain call legal accepted = (accepted, legal)

-- what a call takes was there
pub covered : (chain : Chain) (game : Game) (ledger : Ledger) (call : RootCall) (after : List Exit)
    (paid taken released : List Movement) → Agrees chain game ledger → Changes chain call after paid taken released
    → (a : ℕ) → share_of a taken ≤ balance_in ledger a
covered chain game ledger call after paid taken released agrees changes a =
    let had = balances_suffice (rules_of chain) chain.log call a (legal-after chain call agrees.legal
    changes.accepted) in
    grind (arith, common_steps) steps 20000

-- what a call lets go was held
pub held-covered : (chain : Chain) (game : Game) (ledger : Ledger) (call : RootCall) (after : List Exit)
    (paid taken released : List Movement) → Agrees chain game ledger → Changes chain call after paid taken released
    → (a : ℕ) → share_of a released ≤ held_in ledger a
held-covered chain game ledger call after paid taken released agrees changes a =
    let had = held_suffices (rules_of chain) chain.log call a (grind (arith, common_steps, legal-after) steps 20000) in
    grind (arith, common_steps) steps 20000

-- each account's money after the call, by what it pays, takes and lets go
pub record Moves (old new : Ledger) (paid taken released : List Movement) : Type 0 where
  pub balances : (a : ℕ) → balance_in new a ≡ balance_in old a + share_of a paid - share_of a taken
  pub helds : (a : ℕ) → held_in new a ≡ held_in old a + share_of a taken - share_of a released
  pub funds : funded_in new ≡ funded_in old

-- The call is accepted, the game has the exits that it makes, and the ledger the money: all agree with the longer log.
pub kept : (chain : Chain) (old new : Game) (before ledger : Ledger) (call : RootCall) (after : List Exit)
    (paid taken released : List Movement) → Agrees chain old before → Changes chain call after paid taken released
    → SlotsAre new after → Moves before ledger paid taken released
    → Agrees (with_log chain (call ∷ chain.log)) new ledger
unfolding balance_of held_of
kept chain old new before ledger call after paid taken released agrees changes slots moves =
    grind (arith, common_steps, legal-after) steps 20000

-- and so for money from outside
pub kept-fund : (chain : Chain) (game : Game) (before ledger : Ledger) (account amount : ℕ)
    → Agrees chain game before → IsAccepted chain (Fund account amount)
    → ((a : ℕ) → balance_in ledger a ≡ balance_in before a + share_of a (moved account amount ∷ []))
    → ((a : ℕ) → held_in ledger a ≡ held_in before a) → funded_in ledger ≡ funded_in before + amount
    → Agrees (with_log chain (Fund account amount ∷ chain.log)) game ledger
unfolding balance_of held_of exits pays takes releases funded share_of
kept-fund chain game before ledger account amount agrees accepted balances helds funds =
    grind (arith, common_steps, legal-after) steps 20000

-- no money moves
pub moves-none : (ledger : Ledger) → Moves ledger ledger [] [] []
unfolding share_of
moves-none ledger =
    record { balances = λ a. omega arith; helds = λ a. omega arith; funds = refl }

-- money of an accepted Fund fits
pub fund-fits : (chain : Chain) (game : Game) (ledger : Ledger) (account amount : ℕ) → Agrees chain game ledger
    → IsAccepted chain (Fund account amount) → (known : Ledger) → funded_in known ≡ funded_in ledger
    → funded_in known + amount ≤ MOST_MONEY
fund-fits chain game ledger account amount agrees accepted known same =
    let shown = accepted_calls_show accepted.0 (rules_of chain) chain.log (Fund account amount) accepted.1 in
    omega (arith, shown, same, agrees.funds_are)

-- where the one movement of an account is covered, its amount is
pub one-covered : (f : ℕ → ℕ) (account amount : ℕ) → ((a : ℕ) → share_of a (moved account amount ∷ []) ≤ f a)
    → amount ≤ f account
unfolding share_of
one-covered f account amount all = omega (arith, simp (eq-eqb account account refl) at (all account))

-- money that is held moves
pub moves-held : (old new : Ledger) (account amount : ℕ)
    → HasSums old new (λ a. balance_in old a - share_of a (moved account amount ∷ []))
    (λ a. held_in old a + share_of a (moved account amount ∷ [])) (funded_in old)
    → Moves old new [] (moved account amount ∷ []) []
unfolding share_of
moves-held old new account amount sums = grind (arith, common_steps) steps 20000

-- money that is held is paid out, of accounts that were made known before
pub moves-paid : (old mid new : Ledger) (paid released : List Movement) → SameMoney old mid
    → HasSums mid new (λ a. balance_in mid a + share_of a paid) (λ a. held_in mid a - share_of a released)
    (funded_in mid)
    → Moves old new paid [] released
unfolding share_of
moves-paid old mid new paid released same sums = grind (arith, common_steps) steps 20000

-- nothing agrees with no calls
pub agrees-none : (chain : Chain) (game : Game) (ledger : Ledger) → chain.log ≡ []
    → ((coin : ℕ) → slots_in game coin ≡ []) → ((a : ℕ) → balance_in ledger a ≡ 0) → ((a : ℕ) → held_in ledger a ≡ 0)
    → funded_in ledger ≡ 0 → Agrees chain game ledger
unfolding IsLegal balance_of held_of funded exits
agrees-none chain game ledger empty slots balances helds funds = grind (arith, common_steps) steps 20000
