-- The slots of a contract's game are the exits that stand by its log.
use Rattle.root_contract.proofs.Words.{◌≡◌, ℕ, ◌≤◌, false, List, [], ◌∷◌, ◌++◌, map, Option, Some, None, refl, sym, ap, ◌∙◌, subst, find, arith, Bor, IsSome, IfSome, AllByRecursion, option_map, option_copied, cases_eq, eq-eqb, ne_eqb, find-append, common_steps, Kept, Slot, Game, kept_at, slot_at, without_slot, with_slot_changed, with_challenge, without_last, IsUnchallengedAt, IsOpenAt, slots_in, HasSlots, Ledger, Chain, now, Exit, Challenge, is_exit, exits, exit_at, LAST_TIME, rules_of, times_are_bounded, as_exit, as_challenge, IsDated, IsUnchallenged, IsOpen, Agrees}
use Rattle.exit_game.proofs.TakenBack.{last_is_taken_back}
use Rattle.plasma_tx.specs.RuleLaws.{IsDatedBy}
use Rattle.plasma_tx.proofs.Each.{some_same, all-found}
use Rattle.root_contract.proofs.SlotLemmas.{found, challenge-found}

-- the slot of a name is the exit of that name
pub slot-is : (chain : Chain) (game : Game) (ledger : Ledger) (c e : ℕ) → Agrees chain game ledger
    → option_map as_exit (slot_at e (slots_in game c)) ≡ exit_at chain.log c e
unfolding exit_at
slot-is chain game ledger c e agrees = found c e (slots_in game c) (exits chain.log) (agrees.slots_are c)

no_slot : (slot : Option Slot) (exit : Option Exit) → option_map as_exit slot ≡ exit → exit ≡ None → slot ≡ None
no_slot slot exit is none = grind (arith, common_steps) steps 20000

some_slot : (slot : Option Slot) (exit : Option Exit) → option_map as_exit slot ≡ exit → IsSome exit → IsSome slot
some_slot slot exit is some = grind (arith, common_steps) steps 20000

no_kept : (found : Option Kept) → option_map as_challenge found ≡ None → found ≡ None
no_kept found none = grind (arith, common_steps) steps 20000

pub none-slot : (chain : Chain) (game : Game) (ledger : Ledger) (c e : ℕ) → Agrees chain game ledger
    → exit_at chain.log c e ≡ None → slot_at e (slots_in game c) ≡ None
none-slot chain game ledger c e agrees none =
    no_slot (slot_at e (slots_in game c)) (exit_at chain.log c e) (slot-is chain game ledger c e agrees) none

pub stands-slot : (chain : Chain) (game : Game) (ledger : Ledger) (c e : ℕ) → Agrees chain game ledger
    → IsSome (exit_at chain.log c e) → IsSome (slot_at e (slots_in game c))
stands-slot chain game ledger c e agrees stands =
    some_slot (slot_at e (slots_in game c)) (exit_at chain.log c e) (slot-is chain game ledger c e agrees) stands

-- a slot that was added is there
pub added-there : (slots : List Slot) (slot : Slot) → slot_at slot.block slots ≡ None
    → IsSome (slot_at slot.block (slots ++ slot ∷ []))
added-there slots slot none = grind (arith, common_steps, find-append, eq-eqb) steps 20000

without-added : (slots : List Slot) (slot : Slot) → slot_at slot.block slots ≡ None
    → without_slot slot.block (slots ++ slot ∷ []) ≡ slots
without-added [] slot none = simp (eq-eqb slot.block slot.block refl)
without-added (first ∷ slots) slot none = grind (arith, common_steps, without-added slots slot, eq-eqb) steps 20000

-- the own coin's slots
pub own : (old new : Game) (c : ℕ) (slots : List Slot) → HasSlots old new c slots → slots_in new c ≡ slots
own old new c slots has = simp (eq-eqb c c refl) at (has c)

-- a start that is taken back changes nothing
pub start-taken-back : (old mid new : Game) (slot : Slot) → slot_at slot.block (slots_in old slot.coin) ≡ None
    → HasSlots old mid slot.coin (slots_in old slot.coin ++ slot ∷ [])
    → HasSlots mid new slot.coin (without_slot slot.block (slots_in mid slot.coin))
    → (k : ℕ) → slots_in new k ≡ slots_in old k
start-taken-back old mid new slot none started ended k =
    grind (arith, common_steps, cases_eq, eq-eqb, own, without-added, ne_eqb) steps 20000

-- ---- challenges

unchallenged_slot : (b : ℕ) (slot : Option Slot) (exit : Option Exit) → option_map as_exit slot ≡ exit
    → IsUnchallenged b exit → IsUnchallengedAt b slot
unchallenged_slot b None exit is none = absurd (subst (IsUnchallenged b) (sym is) none)
unchallenged_slot b (Some slot) exit is none =
    no_kept (kept_at b slot.challenges) (challenge-found b slot.challenges ∙ subst (IsUnchallenged b) (sym is) none)

pub unchallenged-slot : (chain : Chain) (game : Game) (ledger : Ledger) (c e b : ℕ) → Agrees chain game ledger
    → IsUnchallenged b (exit_at chain.log c e) → IsUnchallengedAt b (slot_at e (slots_in game c))
unchallenged-slot chain game ledger c e b agrees none =
    unchallenged_slot b (slot_at e (slots_in game c)) (exit_at chain.log c e)
    (slot-is chain game ledger c e agrees) none

open_kept : (found : Option Kept) (challenge : Challenge) → option_map as_challenge found ≡ Some challenge
    → challenge.answered ≡ false → (kept : Kept) × (found ≡ Some kept) × (kept.answered ≡ false)
open_kept found challenge is open_still = grind (arith, common_steps, some_same) steps 20000

open_slot : (b : ℕ) (slot : Option Slot) (exit : Option Exit) → option_map as_exit slot ≡ exit → IsOpen b exit
    → IsOpenAt b slot
open_slot b None exit is opened = absurd (subst (IsOpen b) (sym is) opened)
open_slot b (Some slot) exit is opened =
    let there = subst (IsOpen b) (sym is) opened in
    open_kept (kept_at b slot.challenges) there.0 (challenge-found b slot.challenges ∙ there.1) there.2

pub open-slot : (chain : Chain) (game : Game) (ledger : Ledger) (c e b : ℕ) → Agrees chain game ledger
    → IsOpen b (exit_at chain.log c e) → IsOpenAt b (slot_at e (slots_in game c))
open-slot chain game ledger c e b agrees opened =
    open_slot b (slot_at e (slots_in game c)) (exit_at chain.log c e) (slot-is chain game ledger c e agrees) opened

-- a slot that was challenged is there
pub challenged-there : (b e : ℕ) (kept : Kept) (slots : List Slot) → IsUnchallengedAt b (slot_at e slots)
    → IsSome (slot_at e (with_slot_changed e (with_challenge kept) slots))
challenged-there b e kept [] none = absurd none
challenged-there b e kept (slot ∷ slots) none = grind (arith, none, challenged-there b e kept slots)

-- a challenge that is taken back changes nothing
pub challenge-taken-back : (old mid new : Game) (c e : ℕ) (kept : Kept)
    → HasSlots old mid c (with_slot_changed e (with_challenge kept) (slots_in old c))
    → HasSlots mid new c (with_slot_changed e without_last (slots_in mid c))
    → (k : ℕ) → slots_in new k ≡ slots_in old k
challenge-taken-back old mid new c e kept begun ended k =
    grind (arith, common_steps, cases_eq, eq-eqb, own, last_is_taken_back, ne_eqb) steps 20000

-- ---- times

dated_challenges : (time : ℕ) → time ≤ LAST_TIME → (xs : List Kept)
    → AllByRecursion (λ (challenge : Challenge). challenge.at ≤ time) (map as_challenge xs)
    → AllByRecursion (λ (kept : Kept). kept.at ≤ LAST_TIME) xs
dated_challenges time limit [] all = tt
dated_challenges time limit (x ∷ xs) all = (omega arith, dated_challenges time limit xs all.1)

dated_found : (time : ℕ) → time ≤ LAST_TIME → (L : List Exit) (c e : ℕ) (found : Option (Bor Slot))
    → AllByRecursion (IsDatedBy time) L → option_map as_exit (option_copied found) ≡ find (is_exit c e) L
    → IfSome found (λ slot. IsDated slot.now)
dated_found time limit L c e None all is = tt
dated_found time limit L c e (Some slot) all is =
    let dated = (all-found (IsDatedBy time) (is_exit c e) L (as_exit slot.now) all (sym is)).0 in
    record { start = omega (arith, dated.0); challenges = dated_challenges time limit slot.now.challenges dated.1 }

-- no time of a slot is past the clock's limit
pub slot-dated : (chain : Chain) (game : Game) (ledger : Ledger) (c e : ℕ) → Agrees chain game ledger
    → (result : Option (Bor Slot)) → option_copied result ≡ slot_at e (slots_in game c)
    → IfSome result (λ slot. IsDated slot.now)
unfolding exit_at
slot-dated chain game ledger c e agrees result is =
    let bounded = times_are_bounded (rules_of chain) chain.log agrees.legal in
    dated_found (now chain.log) bounded.0 (exits chain.log) c e result bounded.1
    (ap (option_map as_exit) is ∙ slot-is chain game ledger c e agrees)

found_dated : (b : ℕ) (xs : List Kept) (found : Option Kept) → AllByRecursion (λ
    (kept : Kept). kept.at ≤ LAST_TIME) xs
    → found ≡ kept_at b xs → IfSome found (λ kept. kept.at ≤ LAST_TIME)
found_dated b xs found all is = grind (arith, common_steps, all-found) steps 20000

-- no time of a challenge of a slot is past it
pub challenge-dated : (slot : Slot) (b : ℕ) → IsDated slot → (found : Option Kept) → found ≡ kept_at b slot.challenges
    → IfSome found (λ kept. kept.at ≤ LAST_TIME)
challenge-dated slot b dated found is = found_dated b slot.challenges found dated.challenges is
