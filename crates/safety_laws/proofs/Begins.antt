-- A wallet comes to hold a coin in time, and for as long as after a look no exit of it comes too late.
use Rattle.safety_laws.proofs.Basics.{◌≡◌, ℕ, not, false, List, [], ◌∷◌, ◌++◌, inl, inr, sym, ◌∙◌, arith, rules, le_refl, and_from, not_from_false, true≢false, common_steps}
use Rattle.safety_laws.proofs.CoinWords.{now, Tests, Rules}
use Rattle.safety_laws.proofs.WorldWords.{Event, log_of, wallet_owner, holds, IsLegal, NoneStands, HeldBefore, held_before, Holding, holding, holds-from, goes_late, is_in_time, AreShort, LegalHoldersBeginInTime, suffix-legal}
use Rattle.safety_laws.proofs.AtLook.{StandsTill}
use Rattle.safety_laws.proofs.Timely.{GoesTill, none-goes, stays-in-time}

-- no exit of the coin stands there
none-yet : (tests : Tests) (rules : Rules) (event : Event) (events : List Event) (w c e : ℕ)
    → IsLegal tests rules (event ∷ events) → holds events w c e ≡ false → Holding (event ∷ events) w c e
    → NoneStands (log_of (event ∷ events)) c
none-yet tests rules event events w c e legal unheld h = by_before (held_before tests rules event events w c e legal h)
  where
    by_before : HeldBefore event events w c e h.me → NoneStands (log_of (event ∷ events)) c
    by_before (inl before) = absurd (true≢false (sym (holds-from events w c e before.0) ∙ unheld))
    by_before (inr none) = none

pub holders_begin_in_time : LegalHoldersBeginInTime
unfolding is_in_time
holders_begin_in_time tests rules later event events w c e legal unheld held short so_far =
    let all : List Event = event ∷ events in
    let before = suffix-legal tests rules later (event ∷ events) legal in
    let h = holding (event ∷ events) w c e held in
    let none = none-yet tests rules event events w c e before unheld h in
    let end : ℕ = now (log_of (later ++ (event ∷ events))) in
    stays-in-time tests rules (event ∷ events) w c e h.me h.me_is end (stands h none end) later legal
    (goes h none short) (le_refl end)
    (and_from (not (goes_late (event ∷ events) w c e)) (is_in_time events w c e)
    (not_from_false (goes_late (event ∷ events) w c e)
    (none-goes tests rules (event ∷ events) w c e h.me h.me_is (now (log_of (event ∷ events)))
    (stands h none (now (log_of (event ∷ events)))) [] before (inl (omega arith))
    (le_refl (now (log_of (event ∷ events)))))) so_far)
  where
    stands : (h : Holding (event ∷ events) w c e) → NoneStands (log_of (event ∷ events)) c → (end : ℕ)
        → StandsTill (event ∷ events) c e h.me end
    stands h none end = grind (arith, common_steps)

    goes : (h : Holding (event ∷ events) w c e) → NoneStands (log_of (event ∷ events)) c
        → AreShort (wallet_owner (event ∷ events) w) c e later (event ∷ events)
        → GoesTill later (event ∷ events) h.me c e (now (log_of (later ++ (event ∷ events))))
    goes h none (inl less) = inl less
    goes h none (inr s) = grind (arith, common_steps)
