-- What an init does over a disk that has records: it is refused, and a crash leaves no more than before.
use Rattle.std.proofs.Common.{◌≡◌, ◌≤◌, ◌++◌, ℕ, true, false, List, length, Option, Some, Result, Ok, Err, ◌∙◌, ap, inl, inr, arith}
use Rattle.std.specs.Prelude.{OnOk}
use Rattle.std.specs.Option.{option_map}
use Rattle.std.proofs.lemmas.Grind.{common_steps}
use Rattle.crash_disk.specs.Disk.{Step, asks_length, History, content, MayLeave, FaultPlan, with_call}
use Rattle.crash_disk.specs.Calls.{WhereTold, Course, Made}
use Rattle.crash_disk.proofs.Left.{content_may_be_left}
use Rattle.gate_journal.specs.Steps.{open_steps}
use Rattle.gate_journal.specs.Make.{look_steps}
use Rattle.node_journal.specs.Begin.{is_taken, journal_steps, init_steps, InitsOver, Inits, StopsBehindOver, PassesInit, IsAsked, IsNotTold, RefusesPair, BeginsPair}
use Rattle.gate_journal.specs.declared.refusal.InitRefusal.{InitRefusal}
use Rattle.gate_journal.specs.declared.refusal.InitRefusal.TheVariants.{AlreadyMade, DeviceFault, NoMemory}
use Rattle.node_lives.proofs.Quiet.{Quietly, quiet-same, quiet-behind, asked-quiet, HasRecord, recorded-taken, recorded-long, journal-calls, init-calls, init-quiet}

-- each image that a crash now may leave keeps a record, where the disk tells
abbrev pub AllRecorded : Option History → Type 0
AllRecorded told = WhereTold told (λ now. (image : List ℕ) → MayLeave now image → HasRecord image)

pub recorded-content : (told : Option History) → AllRecorded told → (before : History) → told ≡ Some before
    → HasRecord (content before)
recorded-content told all before is = all before is (content before) (content_may_be_left before)

pub quiet-recorded : (old new : Option History) → ((now : History) → new ≡ Some now → (h : History) × (old ≡ Some h))
    → Quietly old new → AllRecorded old → AllRecorded new
quiet-recorded old new told quiet all now is image may =
    let there = told now is in all there.0 there.1 image (quiet there.0 now there.1 is image may)

-- an init isn't taken for one over an empty image
never-taken : (P : Type 0) (image : List ℕ) → HasRecord image → is_taken image ≡ false → P
never-taken P image has none = absurd (let some = recorded-taken image has in cc)

module _ {D : Type 0} (told : D → Option History) (plan : D → Option FaultPlan) where
  made-quiet : (steps : List ℕ → List Step) (count : ℕ) (course : Course) (old new : D)
      → ((image : List ℕ) → HasRecord image → steps image ≡ look_steps image ++ open_steps image)
      → AllRecorded (told old) → Made told plan steps count course old new → Quietly (told old) (told new)
  made-quiet steps count course old new looks all made =
      init-quiet steps course (told old) (told new) looks (recorded-content (told old) all) made.calls

  -- over an image with a record
  over-taken : (steps : List ℕ → List Step) (image : List ℕ) (old new : D) (answer : Result Unit InitRefusal)
      → ((image : List ℕ) → HasRecord image → steps image ≡ look_steps image ++ open_steps image)
      → AllRecorded (told old) → HasRecord image → InitsOver told plan steps image old answer new
      → OnOk answer ⊥ × Quietly (told old) (told new)
  over-taken steps image old new (Ok done) looks all has is = never-taken _ image has is.0
  over-taken steps image old new (Err (AlreadyMade count)) looks all has is =
      (tt, made-quiet steps _ _ old new looks all is.2)
  over-taken steps image old new (Err DeviceFault) looks all has is =
      (tt, made-quiet steps _ _ old new looks all is.1)
  over-taken steps image old new (Err NoMemory) looks all has is =
      (tt, made-quiet steps _ _ old new looks all is.1)

  steps-taken : (steps : List ℕ → List Step) (old new : D) (answer : Result Unit InitRefusal) (before : History)
      → ((image : List ℕ) → HasRecord image → steps image ≡ look_steps image ++ open_steps image)
      → AllRecorded (told old) → told old ≡ Some before → Inits told plan steps old answer new
      → OnOk answer ⊥ × Quietly (told old) (told new)
  steps-taken steps old new answer before looks all is inits =
      over-taken steps (content before) old new answer looks all (recorded-content (told old) all before is)
      (inits before is)

  pub init-taken : (identity : List ℕ) (old new : D) (answer : Result Unit InitRefusal) (before : History)
      → AllRecorded (told old) → told old ≡ Some before → Inits told plan (init_steps identity) old answer new
      → OnOk answer ⊥ × Quietly (told old) (told new)
  init-taken identity old new answer before all is inits =
      steps-taken (init_steps identity) old new answer before (init-calls identity) all is inits

  stops-taken : (P : Type 0) (identity image : List ℕ) (old new : D) (why : InitRefusal) → HasRecord image
      → StopsBehindOver told plan identity image old why new → P
  stops-taken P identity image old new why has is = grind (arith, common_steps, never-taken) steps 20000

  -- of a wallet's two disks
  module _ (faults : D → ℕ) (identity : List ℕ) (notes leaves new_notes new_leaves : D) where
    abbrev Refused : Type 0
    Refused = Quietly (told notes) (told new_notes) × (new_leaves ≡ leaves)

    not-told : (why : InitRefusal) → new_leaves ≡ leaves → IsNotTold told plan faults notes why new_notes → Refused
    not-told DeviceFault same is = (asked-quiet true (told notes) (told new_notes) is.0.history, same)
    not-told NoMemory same is = (quiet-same (told notes) (told new_notes) (ap told is), same)
    not-told (AlreadyMade count) same is = absurd is

    -- behind the question for the length
    module _ (asked : D) (is_asked : IsAsked told plan faults notes asked) (before : History)
        (is : told notes ≡ Some before) (all : AllRecorded (told notes)) where
      asked-told : told asked ≡ Some (with_call asks_length false before)
      asked-told = is_asked.called.history ∙ ap (option_map (with_call asks_length false)) is

      asking-quiet : Quietly (told notes) (told asked)
      asking-quiet = asked-quiet false (told notes) (told asked) is_asked.called.history

      all-asked : AllRecorded (told asked)
      all-asked = quiet-recorded (told notes) (told asked) (λ now also. (before, is)) asking-quiet all

      has-asked : HasRecord (content (with_call asks_length false before))
      has-asked = recorded-content (told asked) all-asked (with_call asks_length false before) asked-told

      behind : Quietly (told asked) (told new_notes) → Quietly (told notes) (told new_notes)
      behind quiet =
          quiet-behind (told notes) (told asked) (told new_notes)
          (λ now also. (with_call asks_length false before, asked-told)) asking-quiet quiet

      passes-never : (P : Type 0) (steps : List ℕ → List Step) → PassesInit told plan faults steps asked new_notes → P
      passes-never P steps passes =
          never-taken P (content (with_call asks_length false before)) has-asked
          (passes.inits (with_call asks_length false before) asked-told).0

      pair-refused : (why : InitRefusal)
          → RefusesPair told plan faults told plan faults identity asked leaves why new_notes new_leaves → Refused
      pair-refused why (inl (long, inl (empty, same))) = (
        behind (steps-taken journal_steps asked new_notes (Err why) (with_call asks_length false before)
            journal-calls all-asked asked-told empty.inits).1,
        same,
      )
      pair-refused why (inl (long, inr (inl (passes, refused)))) = passes-never Refused journal_steps passes
      pair-refused why (inl (long, inr (inr (stops, passes)))) =
          stops-taken Refused identity (content (with_call asks_length false before)) asked new_notes why has-asked
          (stops.stopped (with_call asks_length false before) asked-told)
      pair-refused why (inr (short, refused)) =
          (let few : length (content (with_call asks_length false before)) ≤ 5 =
          short (with_call asks_length false before) asked-told in
          absurd (omega (arith, recorded-long (content (with_call asks_length false before)) has-asked, few)))

    pub pair-taken : (answer : Result Unit InitRefusal) (before : History) → AllRecorded (told notes)
        → told notes ≡ Some before
        → BeginsPair told plan faults told plan faults identity notes leaves answer new_notes new_leaves
        → OnOk answer ⊥ × Refused
    pair-taken (Ok done) before all is (asked, is_asked, passes) =
        passes-never asked is_asked before is all _ (init_steps identity) passes.0
    pair-taken (Err why) before all is (inl (untold, same)) = (tt, not-told why same untold)
    pair-taken (Err why) before all is (inr (asked, is_asked, refuses)) =
        (tt, pair-refused asked is_asked before is all why refuses)
