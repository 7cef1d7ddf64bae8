-- What a crash leaves of a command of which a fuse lets so many device calls pass.
use Rattle.world_nodes.proofs.Words.{◌≡◌, ◌<◌, ◌≤◌, ◌+◌, ◌-◌, ◌∷◌, ◌++◌, [], ℕ, Bool, true, false, cond, min, nat_le, nat_lt, List, length, Option, Some, None, refl, sym, ◌∙◌, ap, subst, arith, ◌&&◌, is_some, nat_tests, common_steps, History, after_calls, passing, with_made, MemState, plan_of, with_fuse, image_after, HasPattern, Outcome, passing-by_fuse, most, spelled, append_steps, Keeps, is_added, NotesState, Did, DeviceFault, with_record, with_opening, with_cut_append, IsLeft, mem_told, mem_plan, mem_faults, NoneListed, kept_half, crashed}
use Rattle.gate_journal.proofs.Crash.{stopped_appends}
use Rattle.world_nodes.proofs.Halves.{planned_listed, HalfOpened, opened_listed, left_half, kept_left}

-- as many of four pass as of any number that is at least four
added_by : (calls : ℕ) (outcome : Outcome) → is_added (min 4 calls) outcome ≡ is_added calls outcome
added_by calls outcome = grind (arith, common_steps, nat_tests) steps 20000

-- so many of the calls of an append, which are four
made_by : (calls gate : ℕ) (body : List ℕ) (history : History)
    → with_made (min 4 calls) (append_steps gate body) history ≡ with_made calls (append_steps gate body) history
made_by calls gate body history = grind (arith, common_steps) steps 20000

pub same_if : {A : Type 0} (b : Bool) (x : A) → cond b x x ≡ x
same_if true x = refl
same_if false x = refl

-- a disk that keeps these records and was opened with a fuse, which lets so many calls pass behind the opening
module _ (calls fuse : ℕ) (fused : min 4 (fuse - 3) ≡ min 4 calls) (outcome : Outcome) (pattern : HasPattern outcome)
    (records : List (List ℕ)) (disk : MemState) (none : NoneListed disk) (state : NotesState MemState)
    (opened : HalfOpened records (with_fuse fuse disk) state) where
  none' : NoneListed (with_fuse fuse disk)
  none' = record { listed = none.listed }

  unlisted : NoneListed state.disk
  unlisted = opened_listed records (with_fuse fuse disk) state opened none'

  pass : passing 4 (plan_of state.disk) ≡ min 4 calls
  pass = ap (passing 4) opened.planned
      ∙ (passing-by_fuse (plan_of (with_fuse fuse disk)) 3 4 none.listed ∙ fused)

  -- the disk after an append of which so many calls passed
  left : (body : List ℕ) (passed count : ℕ) (new : MemState) → length body ≤ most → passed ≡ min 4 calls
      → new.history ≡ with_made passed (append_steps (length (spelled state.records)) body) state.disk.history
      → mem_plan new ≡ Some (after_calls count (plan_of state.disk))
      → IsLeft (cond (is_added calls outcome) (records ++ body ∷ []) records) (kept_half (crashed outcome new))
  left body passed count new fits is told planned =
      let history = state.disk.history in
      let told' : new.history ≡ with_made passed (append_steps (length (spelled records)) body) history =
      told ∙ ap (λ (rs : List (List ℕ)). with_made passed (append_steps (length (spelled rs)) body) history)
      opened.records_are in
      let all = stopped_appends history records body passed outcome opened.settled.kept opened.settled.synced fits
      pattern in
      let added : is_added passed outcome ≡ is_added calls outcome =
      ap (λ (n : ℕ). is_added n outcome) is ∙ added_by calls outcome in
      let after = cond (is_added calls outcome) (records ++ body ∷ []) records in
      let here : Keeps after
      (image_after outcome (with_made passed (append_steps (length (spelled records)) body) history)) =
      grind (arith, common_steps) steps 20000 in
      left_half after outcome new
      (subst (λ (h : History). Keeps after (image_after outcome h)) (sym told') here)
      (planned_listed count state.disk new planned unlisted)

  -- what the disk tells after an append of which so many calls passed
  made_told : (body : List ℕ) (passed : ℕ) (new : MemState) → passed ≡ min 4 calls
      → new.history ≡ with_made passed (append_steps (length (spelled state.records)) body) state.disk.history
      → new.history ≡ with_cut_append calls records (Some body) (with_opening disk.history)
  made_told body passed new is told =
      told
      ∙ ((λ i. with_made (is i) (append_steps (length (spelled (opened.records_are i))) body) (opened.told i))
      ∙ made_by calls (length (spelled records)) body (with_opening disk.history))

  -- after a command that went through, and after one that met the fuse
  pub went_told : (added : Option (List ℕ)) (new : NotesState MemState)
      → Did mem_told mem_plan mem_faults added state None new
      → new.disk.history ≡ with_cut_append calls records added (with_opening disk.history)
  went_told None new did = ap (λ (s : NotesState MemState). s.disk.history) did.1 ∙ opened.told
  went_told (Some body) new did =
      let four : 4 ≡ min 4 calls = sym (did.made.planned.0 (plan_of state.disk) refl) ∙ pass in
      made_told body 4 new.disk four (cc did.made.calls)

  pub met_told : (added : Option (List ℕ)) (new : NotesState MemState)
      → Did mem_told mem_plan mem_faults added state (Some DeviceFault) new
      → new.disk.history ≡ with_cut_append calls records added (with_opening disk.history)
  met_told None new did = absurd did
  met_told (Some body) new did =
      let passed : did.passed ≡ min 4 calls =
      sym (did.made.planned.1 (plan_of state.disk) refl) ∙ pass in
      made_told body did.passed new.disk passed (cc did.made.calls)

  -- a disk to which nothing was added
  pub idle : (new : MemState) → new ≡ state.disk → IsLeft records (kept_half (crashed outcome new))
  idle new same = subst (λ (d : MemState). IsLeft records (kept_half (crashed outcome d))) (sym same)
      (kept_left records outcome state.disk opened.settled.images unlisted)

  -- a command that went through
  pub went : (added : Option (List ℕ)) (new : NotesState MemState)
      → Did mem_told mem_plan mem_faults added state None new
      → ((is_some added && nat_lt calls 4) ≡ false)
      × IsLeft (with_record records added) (kept_half (crashed outcome new.disk))
  went None new did = (refl, idle new.disk (ap (λ (s : NotesState MemState). s.disk) did.1))
  went (Some body) new did =
      let four : 4 ≡ min 4 calls = sym (did.made.planned.0 (plan_of state.disk) refl) ∙ pass in
      let le : 4 ≤ calls = omega (arith, four) in
      let added : is_added calls outcome ≡ true =
      (let is : nat_le 4 calls ≡ true = grind (arith, nat_tests) in grind (arith, common_steps) steps 20000) in (
        grind (arith, nat_tests),
        subst (λ (b : Bool). IsLeft (cond b (records ++ body ∷ []) records) (kept_half (crashed outcome
            new.disk))) added
            (left body 4 4 new.disk did.fits four (cc did.made.calls) did.made.planned.1),
      )

  -- and one that met the fuse
  pub met : (added : Option (List ℕ)) (new : NotesState MemState)
      → Did mem_told mem_plan mem_faults added state (Some DeviceFault) new
      → ((is_some added && nat_lt calls 4) ≡ true)
      × IsLeft (cond (is_added calls outcome) (with_record records added) records)
      (kept_half (crashed outcome new.disk))
  met None new did = absurd did
  met (Some body) new did =
      let passed : did.passed ≡ min 4 calls =
      sym (did.made.planned.1 (plan_of state.disk) refl) ∙ pass in
      let less : did.passed < 4 = did.made.planned.0 in
      let lt : calls < 4 = omega (arith, passed, less) in (
        grind (arith, nat_tests),
        left body did.passed (did.passed + 1) new.disk did.fits passed (cc did.made.calls) did.made.planned.2,
      )
