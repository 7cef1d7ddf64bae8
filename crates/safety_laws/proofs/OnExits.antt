-- The exit that a call is on.
use Rattle.safety_laws.proofs.Basics.{◌≡◌, ℕ, ◌==◌, ◌&&◌, ◌||◌, Bool, true, false, List, [], ◌∷◌, refl, sym, ◌∙◌, arith, eqb-true, and_parts, true≢false, false≢true, false_from_ne_true, common_steps}
use Rattle.safety_laws.proofs.CoinWords.{RootCall, StartDeposit, StartSpend, After, Between, Before, Respond, Finish, ChallengeView, is_challenged, is_of_exit, is_answered}
use Rattle.safety_laws.proofs.StillTaken.{is_move, IsBy, is_finish, Apart}

-- what is answered is challenged
pub answered-challenged : (block : ℕ) (challenges : List ChallengeView) → is_answered block challenges ≡ true
    → is_challenged block challenges ≡ true
answered-challenged block [] is = is
answered-challenged block (ch ∷ chs) is =
    (elim (ch.block == block) as (λ (b : Bool). (b && ch.answered || is_answered block chs) ≡ true
    → (b || is_challenged block chs) ≡ true) [
      | true ↦ λ it. refl
      | false ↦ λ it. answered-challenged block chs it
    ]) is

-- ---- the exit of a call

abbrev pub block_on : RootCall → ℕ
block_on (StartDeposit account c f) = f
block_on (StartSpend account c parent exit) = exit.block
block_on (After account c f spend) = f
block_on (Between account c f spend) = f
block_on (Before account c f shown) = f
block_on (Respond account c f n spend) = f
block_on (Finish account c f) = f
block_on call = 0

-- the call starts an exit
abbrev pub is_start : RootCall → Bool
is_start (StartDeposit account c f) = true
is_start (StartSpend account c parent exit) = true
is_start call = false

-- the call is on the exit at the block, by the account
pub record MovesAt (account block : ℕ) (call : RootCall) : Type 0 where
  pub move : is_move call ≡ true
  pub at : block_on call ≡ block
  pub by : IsBy account call

-- and it neither starts nor finishes it
pub record MovesWithin (account block : ℕ) (call : RootCall) : Type 0 where
  pub moves : MovesAt account block call
  pub unstarted : is_start call ≡ false
  pub unfinished : is_finish call ≡ false

pub other-exit : (k f c g : ℕ) → (f ≡ g → ⊥) → ((k == c) && (f == g)) ≡ false
other-exit k f c g apart =
    false_from_ne_true ((k == c) && (f == g)) (λ is. apart (eqb-true f g (and_parts (k == c) (f == g) is).1))

pub of-other : (new : RootCall) (c g : ℕ) → is_move new ≡ true → (block_on new ≡ g → ⊥) → is_of_exit c g new ≡ false
of-other new c g move apart = grind (arith, common_steps, other-exit, false≢true)

apart-exits : (new call : RootCall) → is_move new ≡ true → is_move call ≡ true → is_start call ≡ false
    → (block_on new ≡ block_on call → ⊥) → Apart new call
apart-exits new call move too none apart = grind (arith, common_steps, true≢false, of-other, false≢true)

pub apart-at : (account one other : ℕ) (new call : RootCall) → MovesAt account one new → MovesAt account other call
    → is_start call ≡ false → (one ≡ other → ⊥) → Apart new call
apart-at account one other new call a b none apart =
    apart-exits new call a.move b.move none (λ same. apart (sym a.at ∙ same ∙ b.at))

-- before a start no exit is finished
pub before-start : (account one other : ℕ) (new call : RootCall) → MovesAt account one new → is_finish new ≡ false
    → MovesAt account other call → is_start call ≡ true → (one ≡ other → ⊥) → Apart new call
before-start account one other new call a unfinished b start apart = grind (arith, common_steps, of-other, false≢true)
