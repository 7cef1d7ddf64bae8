-- What an append does to a journal, from the room that was made for it on.
use Rattle.gate_journal.proofs.Words.{◌≡◌, ◌<◌, ◌≤◌, ◌+◌, ◌-◌, ℕ, max, Bool, true, false, cond, ◌&&◌, List, [], ◌∷◌, ◌++◌, length, Option, Some, refl, sym, ◌∙◌, ap, subst, arith, leb-true, ltb-true, common_steps, History, content, FaultPlan, LeavesOnly, WhereTold, IsStill, Course, passed, failed_after, after_course, Made, made_from, made_same, most, frame_of, steps_at, append_steps, JournalState, Keeps, KeepsWithOrWithout, IsSettled, has_spare, Appended, AppendFailed, with_room_for, RestsAt}
use Rattle.gate_journal.proofs.Rest.{gate_settled, gate_leaves}

-- a journal with room for a body of so many bytes
pub record IsRoomy {D : Type 0} (bytes : ℕ) (old mid : JournalState D) : Type 0 where
  pub closed : mid.closed ≡ old.closed
  pub gate : mid.gate ≡ old.gate
  pub some : 0 < mid.spare_bodies
  pub fits : bytes ≤ mid.spare_bytes
  pub bodies : mid.spare_bodies - 1 ≡ cond (has_spare old bytes) (old.spare_bodies - 1) old.spare_bodies
  pub most_bytes : mid.spare_bytes ≡ max bytes old.spare_bytes

both : (a b : Bool) → (a && b) ≡ true → (a ≡ true) × (b ≡ true)
both true b is = (refl, is)
both false b is = absurd (cc is)

roomy : {D : Type 0} (bytes : ℕ) (disk : D) (old : JournalState D) → IsRoomy bytes old (with_room_for bytes disk old)
roomy bytes disk old = grind (arith, common_steps, both, ltb-true, leb-true) steps 20000

-- an open journal, and it with room for a body that fits
pub record IsReady {D : Type 0} (told : D → Option History) (plan : D → Option FaultPlan) (faults : D → ℕ)
    (body : List ℕ) (old mid : JournalState D) : Type 0 where
  pub was_open : old.closed ≡ false
  pub fits : length body ≤ most
  pub room : mid ≡ with_room_for (length body) mid.disk old
  pub still : IsStill told plan faults old.disk mid.disk

-- a journal that wasn't closed
pub was_open : {D : Type 0} {inside value : JournalState D} → inside ≡ value → inside.closed ≡ false
    → value.closed ≡ false
was_open is open' = subst (λ (s : JournalState _). s.closed ≡ false) is open'

pub ready_for : {D : Type 0} {told : D → Option History} {plan : D → Option FaultPlan} {faults : D
    → ℕ} {body : List ℕ} {old after mid : JournalState D} → mid ≡ after → old.closed ≡ false → length body ≤ most
    → after ≡ with_room_for (length body) after.disk old → IsStill told plan faults old.disk after.disk
    → IsReady told plan faults body old mid
ready_for {told = told} {plan = plan} {faults = faults} {body = body} {old = old} is open' fits room still =
    grind (arith, common_steps, was_open) steps 20000

module _ {D : Type 0} {told : D → Option History} {plan : D → Option FaultPlan} {faults : D
    → ℕ} {body : List ℕ} {old mid : JournalState D} (ready : IsReady told plan faults body old mid) where
  pub room_for : IsRoomy (length body) old mid
  room_for = subst (IsRoomy (length body) old) (sym ready.room) (roomy (length body) mid.disk old)

  pub is_open : mid.closed ≡ false
  is_open = room_for.closed ∙ ready.was_open

  module _ (frame : List ℕ) (is : frame ≡ frame_of body) where
    at_gate : {course : Course} {new : D} → Made told plan (λ any. steps_at mid.gate frame) 4 course mid.disk new
        → Made told plan (λ any. append_steps mid.gate body) 4 course mid.disk new
    at_gate made = made_same told plan (λ any. steps_at mid.gate frame) (λ any. append_steps mid.gate body)
        (λ before some. ap (steps_at mid.gate) is) made

    from_old : {course : Course} {new : D} → Made told plan (λ any. steps_at mid.gate frame) 4 course mid.disk new
        → Made told plan (λ any. append_steps old.gate body) 4 course old.disk new
    from_old made = grind (arith, common_steps, made_from, made_same, room_for, at_gate) steps 20000

    pub appended : {new : D} → Made told plan (λ any. steps_at mid.gate frame) 4 passed mid.disk new
        → Appended told plan body old
        (record {
          disk = new;
          closed = mid.closed;
          gate = mid.gate + (5 + length body);
          spare_bodies = mid.spare_bodies - 1;
          spare_bytes = mid.spare_bytes;
        })
    appended {new = new} made = grind (arith, common_steps, was_open, from_old, room_for) steps 20000

    pub append_failed : {new : D} (count bodies bytes : ℕ)
        → Made told plan (λ any. steps_at mid.gate frame) 4 (failed_after count) mid.disk new
        → AppendFailed told plan body old
        (record { disk = new; closed = true; gate = mid.gate; spare_bodies = bodies; spare_bytes = bytes })
    append_failed count bodies bytes made = grind (arith, common_steps, was_open, from_old, room_for) steps 20000

    -- over a history that the disk told
    module _ (rests : WhereTold (told mid.disk) (RestsAt mid.gate)) {new : D} where
      now_is : (course : Course) → Made told plan (λ any. steps_at mid.gate frame) 4 course mid.disk new
          → (before now : History) → told old.disk ≡ Some before → told new ≡ Some now
          → after_course course (append_steps mid.gate body) before ≡ now
      now_is course made before now some is_now = grind (arith, common_steps, at_gate) steps 20000

      pub kept : Made told plan (λ any. steps_at mid.gate frame) 4 passed mid.disk new
          → WhereTold (told old.disk)
          (λ before. (records : List (List ℕ)) → Keeps records (content before)
          → WhereTold (told new) (λ now. IsSettled now (records ++ body ∷ [])))
      kept made before some records keeps now is_now =
          subst (λ (h : History). IsSettled h (records ++ body ∷ [])) (now_is passed made before now some is_now)
          (gate_settled mid.gate before (rests before (ready.still.same_calls ∙ some)) body ready.fits records keeps)

      pub any_moment : (course : Course) → Made told plan (λ any. steps_at mid.gate frame) 4 course mid.disk new
          → WhereTold (told old.disk)
          (λ before. (records : List (List ℕ)) → Keeps records (content before)
          → WhereTold (told new) (λ now. LeavesOnly before now (KeepsWithOrWithout records body)))
      any_moment course made before some records keeps now is_now =
          subst (λ (h : History). LeavesOnly before h (KeepsWithOrWithout records body))
          (now_is course made before now some is_now)
          (gate_leaves mid.gate before
          (rests before (ready.still.same_calls ∙ some)) body ready.fits records keeps course)
