-- An append from a journal at rest.
use Rattle.gate_journal.proofs.Words.{◌≡◌, ◌<◌, ◌≤◌, ◌+◌, ◌-◌, ◌*◌, ℕ, zero, suc, false, List, [], ◌∷◌, ◌++◌, length, take, refl, sym, ◌∙◌, ap, subst, inl, arith, take_all, All-push, common_steps, Step, DeviceCall, History, content, unsynced_ranges, MayLeave, moment, LeavesOnly, Course, passed, failed_after, stopped_after, made_of, with_made, after_course, synced_content_is_left, most, spelled, Spells, append_steps, Keeps, KeepsWithOrWithout, IsSettled, AppendsSettle, RestsAt}
use Rattle.gate_journal.proofs.Spelling.{spelled-push, length-spelled-push}
use Rattle.gate_journal.proofs.Front.{Fronts, fronts, front-keeps, spelled_read}
use Rattle.gate_journal.proofs.Crash.{front_more, more_read, now_content, any_moment, settled_now, tail}

-- the disk holds these records, and nothing is written since the sync
pub record AtRest (history : History) (records : List (List ℕ)) : Type 0 where
  pub read : Keeps records (content history)
  pub synced : unsynced_ranges history ≡ []

pub settled_rests : (history : History) (records : List (List ℕ)) → IsSettled history records → AtRest history records
settled_rests history records settled = record { read = settled.read; synced = settled.synced }

-- each image of a crash then keeps them
pub rest_images : (history : History) (records : List (List ℕ)) → AtRest history records → (image : List ℕ)
    → MayLeave history image → Keeps records image
rest_images history records rest image may =
    subst (Keeps records) (sym (synced_content_is_left history image rest.synced may)) rest.read

pub made_longer : (count : ℕ) (steps : List Step) (calls : List DeviceCall)
    → length calls ≤ length (made_of count steps calls)
made_longer count [] calls = omega arith
made_longer zero (step ∷ steps) calls = omega arith
made_longer (suc count) (step ∷ steps) calls =
    omega (arith, made_longer count steps (record { step = step; failed = false } ∷ calls))

pub course_longer : (course : Course) (steps : List Step) (history : History)
    → moment history ≤ moment (after_course course steps history)
course_longer passed steps history = made_longer (length steps) steps history.calls
course_longer (failed_after count) steps history = made_longer count steps history.calls
course_longer (stopped_after count) steps history = made_longer count (take count steps) history.calls

-- a crash now is one at a moment since
pub leaves_now : (before : History) (course : Course) (steps : List Step) (P : List ℕ → Type 0)
    → LeavesOnly before (after_course course steps before) P
    → (image : List ℕ) → MayLeave (after_course course steps before) image → P image
leaves_now before course steps P only image may = only image (0, omega (arith, course_longer course steps before), may)

-- a crash where no call was made
pub none_leaves : (history : History) (records : List (List ℕ)) (body : List ℕ) → AtRest history records
    → LeavesOnly history history (KeepsWithOrWithout records body)
none_leaves history records body rest image (zero, le, may) = inl (rest_images history records rest image may)
none_leaves history records body rest image (suc n, le, may) = absurd (omega (arith, le))

module _ (history : History) (records : List (List ℕ)) (body : List ℕ) (rest : AtRest history records)
    (fits : length body ≤ most) where
  abbrev steps : List Step
  steps = append_steps (length (spelled records)) body

  f : Fronts (content history) records
  f = fronts (content history) records rest.read

  -- after all calls the journal rests with the new record
  pub append_rests : AtRest (with_made 4 steps history) (records ++ body ∷ [])
  append_rests =
      let content_is = now_content f.front records f.read body fits history.began history.calls f.gate f.rest f.is
      f.closed rest.synced in
      let behind = tail f.front records f.read body fits history.began history.calls f.gate f.rest f.is f.closed
      rest.synced in
      let read = front-keeps (front_more f.front records f.read body fits) (records ++ body ∷ []) 0 behind
      (more_read f.front records f.read body fits).reads refl in
      grind (arith, common_steps, f) steps 20000

  -- a crash at a moment of the append
  pub made_leaves : (count : ℕ) → LeavesOnly history (with_made count steps history) (KeepsWithOrWithout records body)
  made_leaves count =
      let here : LeavesOnly history (with_made count (append_steps (length f.front) body) history)
      (KeepsWithOrWithout records body) =
      λ image may. any_moment f.front records f.read body fits history.began history.calls f.gate f.rest f.is f.closed
      rest.synced count may.0 image may.1 may.2 in
      subst (λ (g : ℕ). LeavesOnly history (with_made count (append_steps g body) history)
      (KeepsWithOrWithout records body)) f.read.place here

  stopped_leaves : (count : ℕ)
      → LeavesOnly history (after_course (stopped_after count) steps history) (KeepsWithOrWithout records body)
  stopped_leaves zero image may = none_leaves history records body rest image may
  stopped_leaves (suc zero) image (n, le, may) = made_leaves 1 image (suc n, omega (arith, le), may)
  stopped_leaves (suc (suc zero)) image (n, le, may) = made_leaves 2 image (suc n, omega (arith, le), may)
  stopped_leaves (suc (suc (suc zero))) image (n, le, may) = made_leaves 3 image (suc n, omega (arith, le), may)
  stopped_leaves (suc (suc (suc (suc count)))) image may =
      let n = suc (suc (suc (suc count))) in
      let here : LeavesOnly history (with_made n (take n steps) history) (KeepsWithOrWithout records body) =
      subst (λ (s : List Step). LeavesOnly history (with_made n s history) (KeepsWithOrWithout records body))
      (sym (take_all n steps (omega arith))) (made_leaves n) in
      here image may

  -- however the append went
  pub course_leaves : (course : Course)
      → LeavesOnly history (after_course course steps history) (KeepsWithOrWithout records body)
  course_leaves passed = made_leaves 4
  course_leaves (failed_after count) = made_leaves count
  course_leaves (stopped_after count) = stopped_leaves count

pub appends_settle : AppendsSettle
appends_settle history records body settled fits =
    let k = settled.kept in
    let read = spelled_read records k.fits in
    let content_is = now_content
    (spelled records) records read body fits history.began history.calls k.gate k.rest k.is k.closed settled.synced in
    let behind = tail (spelled records) records read body fits history.began history.calls k.gate k.rest k.is k.closed
    settled.synced in
    let kept : Spells (content (with_made 4 (append_steps (length (spelled records)) body) history))
    (records ++ body ∷ []) = record {
      gate = 0;
      rest = behind;
      is = content_is ∙ ap (λ (l : List ℕ). l ++ 0 ∷ behind) (sym (spelled-push records body));
      closed = refl;
      fits = All-push (λ b. length b ≤ most) records body k.fits fits;
    } in
    settled_now _ (records ++ body ∷ []) kept refl

-- the gate lies within the bytes
pub gate_within : (gate : ℕ) (history : History) → RestsAt gate history → gate + 1 ≤ length (content history)
gate_within gate history r = grind (arith, common_steps) steps 20000

-- the records of a journal at rest at its gate are those that are read
same_records : (gate : ℕ) (history : History) (r : RestsAt gate history) (records : List (List ℕ))
    → Keeps records (content history) → r.records ≡ records
same_records gate history r records keeps = cc (r.settled.read, keeps)

pub still_leaves : (gate : ℕ) (history : History) (r : RestsAt gate history) (records : List (List ℕ)) (body : List ℕ)
    → Keeps records (content history) → LeavesOnly history history (KeepsWithOrWithout records body)
still_leaves gate history r records body keeps =
    subst (λ (rs : List (List ℕ)). LeavesOnly history history (KeepsWithOrWithout rs body))
    (same_records gate history r records keeps)
    (none_leaves history r.records body (settled_rests history r.records r.settled))

-- an append to such a journal
module _ (gate : ℕ) (history : History) (r : RestsAt gate history) (body : List ℕ) (fits : length body ≤ most) where
  now_settled : IsSettled (with_made 4 (append_steps gate body) history) (r.records ++ body ∷ [])
  now_settled =
      subst (λ (g : ℕ). IsSettled (with_made 4 (append_steps g body) history) (r.records ++ body ∷ [])) (sym r.place)
      (appends_settle history r.records body r.settled fits)

  pub rests_again : RestsAt (gate + (5 + length body)) (with_made 4 (append_steps gate body) history)
  rests_again = record {
    records = r.records ++ body ∷ [];
    settled = now_settled;
    place = omega (arith, r.place, length-spelled-push r.records body);
  }

  module _ (records : List (List ℕ)) (keeps : Keeps records (content history)) where
    pub gate_settled : IsSettled (with_made 4 (append_steps gate body) history) (records ++ body ∷ [])
    gate_settled =
        subst (λ (rs : List (List ℕ)). IsSettled (with_made 4 (append_steps gate body) history) (rs ++ body ∷ []))
        (same_records gate history r records keeps) now_settled

    pub gate_leaves : (course : Course)
        → LeavesOnly history (after_course course (append_steps gate body) history) (KeepsWithOrWithout records body)
    gate_leaves course =
        subst (λ (rs : List (List ℕ)). LeavesOnly history (after_course course (append_steps gate body) history)
        (KeepsWithOrWithout rs body))
        (same_records gate history r records keeps)
        (subst (λ (g : ℕ). LeavesOnly history (after_course course (append_steps g body) history)
        (KeepsWithOrWithout r.records body)) (sym r.place)
        (course_leaves history r.records body (settled_rests history r.records r.settled) fits course))

-- the room for a body of at most so many bytes
pub one_room : (bodies bytes len left : ℕ) → 0 < bodies → len ≤ bytes → bodies * (bytes + 6) ≤ left → len + 6 ≤ left
one_room bodies bytes len left some le room = grind (arith, common_steps) steps 20000

-- the room after one body of at most so many bytes
pub less_room : (bodies bytes len before now : ℕ) → 0 < bodies → len ≤ bytes → bodies * (bytes + 6) ≤ before
    → before ≤ now + (len + 6) → (bodies - 1) * (bytes + 6) ≤ now
less_room bodies bytes len before now some le room spent = grind (arith, common_steps) steps 20000
