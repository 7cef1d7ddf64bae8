-- The device calls of an init: a making, an opening, and an append.
use Rattle.node_journal.proofs.Words.{◌≡◌, ◌+◌, ℕ, Bool, cond, List, [], ◌∷◌, ◌++◌, length, Option, Some, None, Result, Ok, Err, inr, refl, sym, ◌∙◌, ap, subst, arith, append-nil, take-append-le, option_map, IfOk, IfErr, OnOk, common_steps, faults_after, Step, History, content, FaultPlan, WhereTold, Course, passed, failed_after, stopped_after, after_course, Made, kept_records, append_steps, open_steps, JournalState, Keeps, IsSettled, Appended, make_steps, is_taken, image_made, journal_steps, init_steps, InitsOver, StopsBehindOver, is_fault_refusal, is_init_fault, Inits, BeginsEmpty, RefusesEmpty, PassesInit, PassesPair, RefusesBehindNotes, RefusesBehindLeaves, FindsOver, AppendsIdentity, OpensEmpty, RefusesEmptyOver}
use Rattle.crash_disk.proofs.Calls.{later, made_over, made_there, made_after, made_within, made_stop}
use Rattle.gate_journal.specs.declared.refusal.InitRefusal.{InitRefusal}
use Rattle.gate_journal.specs.declared.refusal.InitRefusal.TheVariants.{AlreadyMade as InitMade, DeviceFault as InitFault, NoMemory as InitNoMemory}
use Rattle.node_journal.specs.declared.init.NotBegun.{NotBegun}
use Rattle.node_journal.proofs.Untaken.{kept_untaken, other_taken, making_holds}

module _ {D : Type 0} (told : D → Option History) (plan : D → Option FaultPlan) where
  -- calls that want of memory ended are the first of longer ones
  stopped_within : (front back : List Step) (count : ℕ) {old new : D}
      → Made told plan (λ any. front) (length front) (stopped_after count) old new
      → Made told plan (λ any. front ++ back) (length (front ++ back)) (stopped_after count) old new
  stopped_within front back count {old = old} made = grind (arith, common_steps, take-append-le) steps 20000

  -- over what a disk holds
  module _ (before : History) {old : D} (is : told old ≡ Some before) where
    abbrev image : List ℕ
    image = content before

    here : WhereTold (told old) (λ history. image ≡ content history)
    here history some = (let same : before ≡ history = cc (is, some) in ap content same)

    over : (steps : List ℕ → List Step) {course : Course} {new : D}
        → Made told plan (λ any. steps image) (length (steps image)) course old new
        → Made told plan steps (length (steps image)) course old new
    over steps made = made_over told plan steps image here made

    there : (steps : List ℕ → List Step) {course : Course} {new : D}
        → Made told plan steps (length (steps image)) course old new
        → Made told plan (λ any. steps image) (length (steps image)) course old new
    there steps made = made_there told plan steps image here made

    -- a making that was stopped
    pub unmade : (why : InitRefusal) (new : D) → FindsOver told plan image old (Err why) new
        → InitsOver told plan journal_steps image old (Err why) new
    unmade InitFault new made = (
      made.0,
      over journal_steps
          (made_within told plan (make_steps image) (open_steps (image_made image)) made.0 (there make_steps made.1)),
    )
    unmade InitNoMemory new same = (
      0,
      subst
          (λ (disk : D). Made told plan journal_steps (length (journal_steps image)) (stopped_after 0) old disk)
          (sym same)
          (over journal_steps (made_stop told plan (journal_steps image) (length (journal_steps image)) old)),
    )
    unmade (InitMade count) new none = absurd none

    -- an opening after a making
    module _ (found : ℕ) {mid : D} (finds : FindsOver told plan image old (Ok found) mid) where
      now_told : told mid ≡ Some (after_course passed (make_steps image) before)
      now_told = finds.1.calls ∙ ap (option_map (λ (h : History). after_course passed (make_steps (content h)) h)) is

      now_holds : WhereTold (told mid) (λ history. image_made image ≡ content history)
      now_holds history some = grind (arith, common_steps, now_told, making_holds) steps 20000

      opened : (course : Course) {new : D} → Made told plan open_steps 3 course mid new
          → Made told plan journal_steps (length (journal_steps image))
          (later (length (make_steps image)) course) old new
      opened course made =
          over journal_steps
          (made_after told plan (make_steps image) (open_steps (image_made image)) course (there make_steps finds.1)
          (made_there told plan open_steps (image_made image) now_holds made))

      pub empty_opened : {new : D} → WhereTold (told mid) (λ history. Keeps [] (content history))
          → Made told plan open_steps 3 passed mid new
          → InitsOver told plan journal_steps image old (Ok tt) new
      empty_opened keeps made =
          let now = after_course passed (make_steps image) before in (
            kept_untaken image (subst (Keeps []) (sym (now_holds now now_told))
                (keeps now now_told)),
            opened passed made,
          )

      pub not_opened : (why : InitRefusal) (new : D)
          → WhereTold (told mid) (λ history. RefusesEmptyOver told plan (content history) found mid why new)
          → InitsOver told plan journal_steps image old (Err why) new
      not_opened why new refuses = at why (refuses now now_told)
        where
          now : History
          now = after_course passed (make_steps image) before

          at : (why : InitRefusal) → RefusesEmptyOver told plan (content now) found mid why new
              → InitsOver told plan journal_steps image old (Err why) new
          at (InitMade answered) refused =
              let taken = other_taken image (λ some. refused.1
              (ap kept_records (sym (now_holds now now_told)) ∙ some)) in
              (taken.0, refused.0 ∙ finds.0 taken.1, opened passed refused.2)
          at InitFault refused = (length (make_steps image) + refused.0, opened (failed_after refused.0) refused.1)
          at InitNoMemory refused = (length (make_steps image) + refused.0, opened (stopped_after refused.0) refused.1)

    -- an init whose journal wasn't made or opened
    module _ (identity : List ℕ) where
      abbrev back : List Step
      back = cond (is_taken image) [] (append_steps 4 identity)

      pub not_begun : (why : InitRefusal) (new : D) → InitsOver told plan journal_steps image old (Err why) new
          → InitsOver told plan (init_steps identity) image old (Err why) new
      not_begun (InitMade count) new refused =
          let all : journal_steps image ≡ init_steps identity image =
          grind (arith, common_steps, append-nil) steps 20000 in (
            refused.0,
            refused.1,
            over (init_steps identity)
                (subst (λ (s : List Step). Made told plan (λ any. s) (length s) passed old new) all
                (there journal_steps refused.2)),
          )
      not_begun InitFault new refused = (
        refused.0,
        over (init_steps identity)
            (made_within told plan (journal_steps image) back refused.0 (there journal_steps refused.1)),
      )
      not_begun InitNoMemory new refused = (
        refused.0,
        over (init_steps identity)
            (stopped_within (journal_steps image) back refused.0 (there journal_steps refused.1)),
      )

      -- an append of the identity to a journal that was
      module _ {mid : D} (begins : InitsOver told plan journal_steps image old (Ok tt) mid) where
        more : (course : Course) {new : D} → Made told plan (λ any. append_steps 4 identity) 4 course mid new
            → Made told plan (init_steps identity) (length (init_steps identity image))
            (later (length (journal_steps image)) course) old new
        more course {new = new} made =
            let all : init_steps identity image ≡ journal_steps image ++ append_steps 4 identity =
            ap (λ (b : Bool). journal_steps image ++ cond b [] (append_steps 4 identity)) begins.0 in
            over (init_steps identity)
            (subst (λ (s : List Step). Made told plan (λ any. s) (length s)
            (later (length (journal_steps image)) course) old new) (sym all)
            (made_after told plan (journal_steps image) (append_steps 4 identity) course
            (there journal_steps begins.1) made))

        pub passes_init : (new : D) → AppendsIdentity told plan identity mid (Ok tt) new
            → InitsOver told plan (init_steps identity) image old (Ok tt) new
        passes_init new made = (begins.0, more passed made)

        pub stops_behind : (why : InitRefusal) (new : D) → AppendsIdentity told plan identity mid (Err why) new
            → StopsBehindOver told plan identity image old why new
        stops_behind InitFault new made =
            let count = length (journal_steps image) + made.0 in
            (count, begins.0, omega arith, more (failed_after made.0) made.1)
        stops_behind InitNoMemory new same =
            let none : length (journal_steps image) + 0 ≡ length (journal_steps image) = omega arith in (
              begins.0,
              subst (λ (n : ℕ). Made told plan (init_steps identity) (length (init_steps identity image))
                  (stopped_after n) old new) none
                  (subst (λ (disk : D). Made told plan (init_steps identity) (length (init_steps identity image))
                  (stopped_after (length (journal_steps image) + 0)) old disk) (sym same)
                  (more (stopped_after 0) (made_stop told plan (append_steps 4 identity) 4 mid))),
            )
        stops_behind (InitMade count) new none = absurd none

      -- an init that was stopped behind its journal was stopped
      behind_stops : (why : InitRefusal) (new : D) → StopsBehindOver told plan identity image old why new
          → InitsOver told plan (init_steps identity) image old (Err why) new
      behind_stops InitFault new stopped = (stopped.0, stopped.3)
      behind_stops InitNoMemory new stopped = (length (journal_steps image), stopped.1)
      behind_stops (InitMade count) new none = absurd none

      -- what an append that was answered so is for the init
      pub init_appended : {mid : D} → InitsOver told plan journal_steps image old (Ok tt) mid
          → (result : Result Unit InitRefusal) (new : D) → AppendsIdentity told plan identity mid result new
          → InitsOver told plan (init_steps identity) image old result new
      init_appended begins (Ok done) new made = passes_init begins new made
      init_appended begins (Err why) new made = behind_stops why new (stops_behind begins why new made)

module _ {D : Type 0} (told : D → Option History) (plan : D → Option FaultPlan) (faults : D → ℕ) {old mid : D} where
  -- no journal was made
  pub refuses_making : (why : InitRefusal)
      → WhereTold (told old) (λ before. FindsOver told plan (content before) old (Err why) mid)
      → faults mid ≡ faults_after (faults old) (is_fault_refusal why) → RefusesEmpty told plan faults old why mid
  refuses_making why finds count =
      record { inits = λ before is. unmade told plan before is why mid (finds before is); count = count }

  module _ (found : ℕ) (finds : WhereTold (told old)
      (λ before. FindsOver told plan (content before) old (Ok found) mid)) (count : faults mid ≡ faults old) where
    -- one was opened
    pub begins_empty : (result : Result (JournalState D) (NotBegun D)) → IfOk result (OpensEmpty told plan faults mid)
        → IfOk result (BeginsEmpty told plan faults old)
    begins_empty (Ok journal) opens = record {
      inits = λ before is. empty_opened told plan before is found (finds before is) opens.kept opens.made;
      count = opens.count ∙ count;
      is_fresh = opens.is_fresh;
      settled = opens.settled;
    }
    begins_empty (Err refused) opens = opens

    -- or not
    pub refuses_empty : (result : Result (JournalState D) (NotBegun D))
        → IfErr result (λ refused. WhereTold (told mid)
        (λ before. RefusesEmptyOver told plan (content before) found mid refused.why refused.disk))
        → IfErr result (λ refused. faults refused.disk ≡ faults_after (faults mid) (is_fault_refusal refused.why))
        → IfErr result (λ refused. RefusesEmpty told plan faults old refused.why refused.disk)
    refuses_empty (Ok journal) refuses cause = refuses
    refuses_empty (Err refused) refuses cause = record {
      inits = λ before is. not_opened told plan before is found (finds before is) refused.why refused.disk refuses;
      count = cause ∙ ap (λ (n : ℕ). faults_after n (is_fault_refusal refused.why)) count;
    }

-- what the disk holds once the identity is appended to an empty journal
pub begun : {D : Type 0} (told : D → Option History) (plan : D → Option FaultPlan) (journal now : JournalState D)
    (identity : List ℕ) → WhereTold (told journal.disk) (λ history. IsSettled history [])
    → Appended told plan identity journal now
    → WhereTold (told journal.disk) (λ before. (records : List (List ℕ)) → Keeps records (content before)
    → WhereTold (told now.disk) (λ later. IsSettled later (records ++ identity ∷ [])))
    → WhereTold (told now.disk) (λ history. IsSettled history (identity ∷ []))
begun told plan journal now identity settled appended kept = at (told journal.disk) refl
  where
    at : (t : Option History) → told journal.disk ≡ t
        → WhereTold (told now.disk) (λ history. IsSettled history (identity ∷ []))
    at None is = grind (arith, common_steps) steps 20000
    at (Some before) is = λ history some. kept before is [] (settled before is).read history some

-- an append of the identity behind the journals of the notes and of the leaves
module _ {D E : Type 0} (told : D → Option History) (plan : D → Option FaultPlan) (faults : D → ℕ)
    (leaves_told : E → Option History) (leaves_plan : E → Option FaultPlan) (leaves_faults : E → ℕ)
    (identity : List ℕ) {notes mid new_notes : D} {leaves new_leaves : E}
    (begins : PassesInit told plan faults journal_steps notes mid)
    (beside : PassesInit leaves_told leaves_plan leaves_faults journal_steps leaves new_leaves) where
  pub pair_passes : (result : Result Unit InitRefusal) → AppendsIdentity told plan identity mid result new_notes
      → faults new_notes ≡ faults_after (faults mid) (is_init_fault result)
      → OnOk result (PassesPair told plan faults leaves_told leaves_plan leaves_faults identity notes leaves
      new_notes new_leaves)
  pair_passes (Ok done) appends count = (
    record {
      inits = λ before is. passes_init told plan before is identity (begins.inits before is) new_notes appends;
      count = count ∙ begins.count;
    },
    beside,
  )
  pair_passes (Err why) appends count = tt

  pub pair_stops : (result : Result Unit InitRefusal) → AppendsIdentity told plan identity mid result new_notes
      → faults new_notes ≡ faults_after (faults mid) (is_init_fault result)
      → IfErr result (λ why. RefusesBehindNotes told plan faults leaves_told leaves_plan leaves_faults identity
      notes leaves why new_notes new_leaves)
  pair_stops result appends count = grind (arith, common_steps, stops_behind) steps 20000

-- the notes begun behind the journal of the leaves
module _ {D E : Type 0} (told : D → Option History) (plan : D → Option FaultPlan) (faults : D → ℕ)
    (leaves_told : E → Option History) (leaves_plan : E → Option FaultPlan) (leaves_faults : E → ℕ)
    (identity : List ℕ) {notes new_notes : D} {leaves new_leaves : E}
    (beside : PassesInit leaves_told leaves_plan leaves_faults journal_steps leaves new_leaves) where
  pub begun_passes : (result : Result Unit InitRefusal) → Inits told plan (init_steps identity) notes result new_notes
      → faults new_notes ≡ faults_after (faults notes) (is_init_fault result)
      → OnOk result (PassesPair told plan faults leaves_told leaves_plan leaves_faults identity notes leaves
      new_notes new_leaves)
  begun_passes (Ok done) inits count = (record { inits = inits; count = count }, beside)
  begun_passes (Err why) inits count = tt

  pub begun_stops : (result : Result Unit InitRefusal) → Inits told plan (init_steps identity) notes result new_notes
      → faults new_notes ≡ faults_after (faults notes) (is_init_fault result)
      → IfErr result (λ why. RefusesBehindLeaves told plan faults leaves_told leaves_plan leaves_faults identity
      notes leaves why new_notes new_leaves)
  begun_stops (Ok done) inits count = tt
  begun_stops (Err why) inits count = inr (record { inits = inits; count = count }, beside)
