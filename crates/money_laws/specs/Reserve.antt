-- The reserve: what an account has to have at hand, so that each Before that is due can be entered.
use Rattle.std.specs.Prelude.{◌≡◌, ℕ, ◌+◌, ◌≤◌, ◌==◌, ◌&&◌, not, Bool, true, false, if◌then◌else◌, nat_lt, List, [], ◌∷◌, is_none}
use Rattle.std.specs.List.{list_all, list_any}
use Rattle.plasma_tx.specs.declared.rules.TheConstants.{CHALLENGE_BOND, CHALLENGE_WINDOW}
use Rattle.plasma_tx.specs.declared.call.RootCall.{RootCall}
use Rattle.plasma_tx.specs.declared.call.RootCall.TheVariants.{Before}
use Rattle.plasma_tx.specs.Views.{Exit, exits, challenge_at}
use Rattle.plasma_tx.specs.Shown.{Tests, Rules}
use Rattle.plasma_tx.specs.Table.{answer_to, is_accepted, is_over}
use Rattle.plasma_tx.specs.Money.{balance_of}
use Rattle.money_laws.specs.Bonds.{sum_over}

-- A Before at e is due for the exit: its parent comes after e, it isn't challenged there, and it may be still. So it is
-- of no exit of the coin's holder, which is at e.
abbrev pub needs_before : List RootCall → ℕ → Exit → Bool
needs_before log e exit =
    nat_lt e exit.parent && is_none (challenge_at e exit.challenges) && not (is_over log exit.start CHALLENGE_WINDOW)

-- what the exit asks of who guards coin c at e
abbrev pub asks : List RootCall → ℕ → ℕ → Exit → ℕ
asks log c e exit = if (exit.coin == c) && needs_before log e exit then CHALLENGE_BOND else 0

-- the reserve of coin c at e: 40 for each standing exit of the coin for which a Before is due
abbrev pub reserve : List RootCall → ℕ → ℕ → ℕ
reserve log c e = sum_over (asks log c e) (exits log)

-- a coin, and the block at which it is guarded
pub record Tip : Type 0 where
  pub coin : ℕ
  pub block : ℕ

-- the reserve of who guards several coins
unfoldable pub reserve_of : List RootCall → List Tip → ℕ
reserve_of log [] = 0
reserve_of log (tip ∷ tips) = reserve log tip.coin tip.block + reserve_of log tips

-- ---- calls that are entered one after the other

-- each of the calls is accepted
unfoldable pub AreAccepted : Tests → Rules → List RootCall → List RootCall → Type 0
AreAccepted tests rules log [] = Unit {0}
AreAccepted tests rules log (call ∷ calls) =
    (is_accepted (answer_to tests rules log call) ≡ true) × AreAccepted tests rules (call ∷ log) calls

-- the log with all of them
unfoldable pub with_calls : List RootCall → List RootCall → List RootCall
with_calls log [] = log
with_calls log (call ∷ calls) = with_calls (call ∷ log) calls

-- the call is a Before by the account
abbrev pub is_before_by : ℕ → RootCall → Bool
is_before_by account (Before by c block shown) = by == account
is_before_by account call = false

-- the tip is that of coin c at e
abbrev pub is_at_tip : ℕ → ℕ → Tip → Bool
is_at_tip c e tip = (tip.coin == c) && (tip.block == e)

-- no two of the tips are the same
unfoldable pub AreApart : List Tip → Type 0
AreApart [] = Unit {0}
AreApart (tip ∷ tips) = (list_any (is_at_tip tip.coin tip.block) tips ≡ false) × AreApart tips

-- No less than the reserve suffices: where Befores by the account are accepted, one after the other, and then none is
-- due at the tips any more, the account had the reserve.
abbrev pub ReserveIsNeeded : Type 0
ReserveIsNeeded = (tests : Tests) (rules : Rules) (log : List RootCall) (account : ℕ) (tips : List Tip)
    (calls : List RootCall)
    → AreApart tips → list_all (is_before_by account) calls ≡ true → AreAccepted tests rules log calls
    → reserve_of (with_calls log calls) tips ≡ 0 → reserve_of log tips ≤ balance_of log account
